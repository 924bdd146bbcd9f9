-- Lists whose items differ, and facts of each item.
use Rattle.std.proofs.Common.{◌≡◌, ◌≢◌, ◌∙◌, ℕ, zero, suc, Bool, true, false, cond, List, [], ◌∷◌, ◌++◌, Option, Some, None, sym, ap, map, refl, subst}
use Rattle.std.proofs.lemmas.Option.{same_Some, none-some}
use Rattle.std.specs.List.{AllByRecursion, cons_option}
use Rattle.std.specs.Prelude.{filter, filter_map, slice_get}

pub weaker : {A : Type 0} (P Q : A → Type 0) → ((x : A) → P x → Q x) → (xs : List A) → AllByRecursion P xs → AllByRecursion Q xs
weaker P Q f [] all = tt
weaker P Q f (x ∷ xs) all = (f x all.0, weaker P Q f xs all.1)

pub all_append : {A : Type 0} (P : A → Type 0) (xs ys : List A) → AllByRecursion P xs → AllByRecursion P ys → AllByRecursion P (xs ++ ys)
all_append P [] ys all more = more
all_append P (x ∷ xs) ys all more = (all.0, all_append P xs ys all.1 more)

pub all_left : {A : Type 0} (P : A → Type 0) (xs ys : List A) → AllByRecursion P (xs ++ ys) → AllByRecursion P xs
all_left P [] ys all = tt
all_left P (x ∷ xs) ys all = (all.0, all_left P xs ys all.1)

pub all_right : {A : Type 0} (P : A → Type 0) (xs ys : List A) → AllByRecursion P (xs ++ ys) → AllByRecursion P ys
all_right P [] ys all = all
all_right P (x ∷ xs) ys all = all_right P xs ys all.1

pub all_map : {A B : Type 0} (P : B → Type 0) (f : A → B) → ((x : A) → P (f x)) → (xs : List A) → AllByRecursion P (map f xs)
all_map P f each [] = tt
all_map P f each (x ∷ xs) = (each x, all_map P f each xs)

pub all_at : {A : Type 0} (P : A → Type 0) (xs : List A) (i : ℕ) (x : A) → AllByRecursion P xs → slice_get xs i ≡ Some x → P x
all_at P [] i x all there = absurd (none-some x there)
all_at P (y ∷ ys) zero x all there = subst P (same_Some y x there) all.0
all_at P (y ∷ ys) (suc i) x all there = all_at P ys i x all.1 there

-- a fact of a value of each item
pub all_values : {A B : Type 0} (P : B → Type 0) (f : A → B) (xs : List A) → AllByRecursion P (map f xs) → AllByRecursion (λ x. P (f x)) xs
all_values P f [] all = tt
all_values P f (x ∷ xs) all = (all.0, all_values P f xs all.1)

pub all_mapped : {A B : Type 0} (P : B → Type 0) (f : A → B) (xs : List A) → AllByRecursion (λ x. P (f x)) xs → AllByRecursion P (map f xs)
all_mapped P f [] all = tt
all_mapped P f (x ∷ xs) all = (all.0, all_mapped P f xs all.1)

-- each item differs from those after it
abbrev pub Differ : {A : Type 0} → List A → Type 0
Differ [] = Unit {0}
Differ (x ∷ xs) = AllByRecursion (λ y. x ≢ y) xs × Differ xs

pub differ_append : {A : Type 0} (xs ys : List A) → Differ xs → Differ ys → AllByRecursion (λ x. AllByRecursion (λ y. x ≢ y) ys) xs → Differ (xs ++ ys)
differ_append [] ys one other across = other
differ_append (x ∷ xs) ys one other across = (all_append (λ y. x ≢ y) xs ys one.0 across.0, differ_append xs ys one.1 other across.1)

-- where equal values of g come from equal values of f
differs_by : {A B C : Type 0} (f : A → B) (g : A → C) → ((x y : A) → g x ≡ g y → f x ≡ f y) → (x : A) (ys : List A) → AllByRecursion (λ v. f x ≢ v) (map f ys) → AllByRecursion (λ v. g x ≢ v) (map g ys)
differs_by f g back x [] all = tt
differs_by f g back x (y ∷ ys) all = (λ same. all.0 (back x y same), differs_by f g back x ys all.1)

pub differ_by : {A B C : Type 0} (f : A → B) (g : A → C) → ((x y : A) → g x ≡ g y → f x ≡ f y) → (xs : List A) → Differ (map f xs) → Differ (map g xs)
differ_by f g back [] differ = tt
differ_by f g back (x ∷ xs) differ = (differs_by f g back x xs differ.0, differ_by f g back xs differ.1)

not_among : {A B : Type 0} (f : A → B) (v : B) (xs : List A) → AllByRecursion (λ w. v ≢ w) (map f xs) → (i : ℕ) (x : A) → slice_get xs i ≡ Some x → v ≡ f x → ⊥
not_among f v [] all i x there same = none-some x there
not_among f v (y ∷ ys) all zero x there same = all.0 (same ∙ sym (ap f (same_Some y x there)))
not_among f v (y ∷ ys) all (suc i) x there same = not_among f v ys all.1 i x there same

-- items whose values differ are at one place
pub one_place : {A B : Type 0} (f : A → B) (xs : List A) → Differ (map f xs) → (i j : ℕ) (x y : A) → slice_get xs i ≡ Some x → slice_get xs j ≡ Some y → f x ≡ f y → i ≡ j
one_place f [] differ i j x y at there same = absurd (none-some x at)
one_place f (z ∷ zs) differ zero zero x y at there same = refl
one_place f (z ∷ zs) differ zero (suc j) x y at there same = absurd (not_among f (f z) zs differ.0 j y there (ap f (same_Some z x at) ∙ same))
one_place f (z ∷ zs) differ (suc i) zero x y at there same = absurd (not_among f (f z) zs differ.0 i x at (ap f (same_Some z y there) ∙ sym same))
one_place f (z ∷ zs) differ (suc i) (suc j) x y at there same = ap suc (one_place f zs differ.1 i j x y at there same)

-- lists with a first item
pub head_same : {A : Type 0} (a b : A) (xs ys : List A) → a ∷ xs ≡ b ∷ ys → a ≡ b
head_same {A} a b xs ys same = ap first same
  where
    first : List A → A
    first [] = a
    first (x ∷ xs) = x

pub tail_same : {A : Type 0} (a b : A) (xs ys : List A) → a ∷ xs ≡ b ∷ ys → xs ≡ ys
tail_same {A} a b xs ys same = ap rest same
  where
    rest : List A → List A
    rest [] = []
    rest (x ∷ xs) = xs

pub none_there : {A : Type 0} (x : A) (xs : List A) → [] ≡ x ∷ xs → ⊥
none_there {A} x xs same = subst IsEmpty same tt
  where
    IsEmpty : List A → Type 0
    IsEmpty [] = Unit {0}
    IsEmpty (y ∷ ys) = ⊥

-- items that pass a test
pub kept_all : {A B : Type 0} (P : B → Type 0) (f : A → B) (test : A → Bool) (xs : List A) → AllByRecursion P (map f xs) → AllByRecursion P (map f (filter test xs))
kept_all P f test [] all = tt
kept_all P f test (x ∷ xs) all = go (test x) (kept_all P f test xs all.1)
  where
    go : (b : Bool) → AllByRecursion P (map f (filter test xs)) → AllByRecursion P (map f (cond b (x ∷ filter test xs) (filter test xs)))
    go true rest = (all.0, rest)
    go false rest = rest

pub kept_differ : {A B : Type 0} (f : A → B) (test : A → Bool) (xs : List A) → Differ (map f xs) → Differ (map f (filter test xs))
kept_differ f test [] differ = tt
kept_differ f test (x ∷ xs) differ = go (test x) (kept_differ f test xs differ.1)
  where
    go : (b : Bool) → Differ (map f (filter test xs)) → Differ (map f (cond b (x ∷ filter test xs) (filter test xs)))
    go true rest = (kept_all (λ v. f x ≢ v) f test xs differ.0, rest)
    go false rest = rest

pub all_both : {A : Type 0} (P Q : A → Type 0) (xs : List A) → AllByRecursion P xs → AllByRecursion Q xs → AllByRecursion (λ x. P x × Q x) xs
all_both P Q [] one other = tt
all_both P Q (x ∷ xs) one other = ((one.0, other.0), all_both P Q xs one.1 other.1)

-- items that pass one test or the other, where none passes both
module _ {A B : Type 0} (f : A → B) (one other : A → Bool) (never : (x : A) → one x ≡ true → other x ≡ true → ⊥) where
  abbrev AreAcross : List A → List A → Type 0
  AreAcross xs ys = AllByRecursion (λ v. AllByRecursion (λ w. v ≢ w) (map f ys)) (map f xs)

  across_one : (x : A) (xs ys : List A) (b c : Bool) → one x ≡ b → other x ≡ c → AllByRecursion (λ w. f x ≢ w) (map f xs) → AllByRecursion (λ w. f x ≢ w) (map f ys) → AreAcross xs ys
      → AreAcross (cond b (x ∷ xs) xs) (cond c (x ∷ ys) ys)
  across_one x xs ys true true is are here there rest = absurd (never x is are)
  across_one x xs ys true false is are here there rest = (there, rest)
  across_one x xs ys false true is are here there rest =
      all_both (λ v. v ≢ f x) (λ v. AllByRecursion (λ w. v ≢ w) (map f ys)) (map f xs) (weaker (λ w. f x ≢ w) (λ v. v ≢ f x) (λ v apart same. apart (sym same)) (map f xs) here) rest
  across_one x xs ys false false is are here there rest = rest

  across_all : (xs : List A) → Differ (map f xs) → AreAcross (filter one xs) (filter other xs)
  across_all [] differ = tt
  across_all (x ∷ xs) differ =
      across_one x (filter one xs) (filter other xs) (one x) (other x) refl refl (kept_all (λ w. f x ≢ w) f one xs differ.0) (kept_all (λ w. f x ≢ w) f other xs differ.0) (across_all xs differ.1)

  pub both_differ : (xs : List A) → Differ (map f xs) → Differ (map f (filter one xs) ++ map f (filter other xs))
  both_differ xs differ =
      differ_append (map f (filter one xs)) (map f (filter other xs)) (kept_differ f one xs differ) (kept_differ f other xs differ) (across_all xs differ)

-- what some items give, where its values are those of the items
module _ {A B V : Type 0} (f : A → V) (g : B → V) (pick : A → Option B) (agrees : (x : A) (y : B) → pick x ≡ Some y → f x ≡ g y) where
  pub picked_all : (P : V → Type 0) (xs : List A) → AllByRecursion P (map f xs) → AllByRecursion P (map g (filter_map pick xs))
  picked_all P [] all = tt
  picked_all P (x ∷ xs) all = go (pick x) refl (picked_all P xs all.1)
    where
      go : (o : Option B) → pick x ≡ o → AllByRecursion P (map g (filter_map pick xs)) → AllByRecursion P (map g (cons_option o (filter_map pick xs)))
      go None is rest = rest
      go (Some y) is rest = (subst P (agrees x y is) all.0, rest)

  pub picked_differ : (xs : List A) → Differ (map f xs) → Differ (map g (filter_map pick xs))
  picked_differ [] differ = tt
  picked_differ (x ∷ xs) differ = go (pick x) refl (picked_differ xs differ.1)
    where
      go : (o : Option B) → pick x ≡ o → Differ (map g (filter_map pick xs)) → Differ (map g (cons_option o (filter_map pick xs)))
      go None is rest = rest
      go (Some y) is rest = (subst (λ v. AllByRecursion (λ w. v ≢ w) (map g (filter_map pick xs))) (agrees x y is) (picked_all (λ w. f x ≢ w) xs differ.0), rest)
