-- A list that is filtered with its places is what stands at the rising numbers of those that are meant.
use Rattle.std.proofs.Common.{◌≡◌, ◌∙◌, ℕ, zero, suc, ◌+◌, ◌<◌, ◌≤◌, ◌⊎◌, inl, inr, List, [], ◌∷◌, Option, Some, None, length, refl, sym, ap, subst, arith}
use Rattle.std.proofs.Math.ListN.{get_or}
use Rattle.std.proofs.lemmas.Bool.{cases_eq}
use Rattle.std.proofs.lemmas.Option.{slice_get_past}
use Rattle.std.specs.List.{cons_option, enumerate_from}
use Rattle.std.specs.Prelude.{filter_map, slice_get}
use Rattle.tdf_cluster_net.specs.Numbers.{IsAmong, Rise}

-- what is made of the thing at a number
abbrev pub made_by : {A B : Type 0} → (ℕ → A → Option B) → ℕ → Option A → Option B
made_by f n None = None
made_by f n (Some x) = f n x

-- rising numbers from k on, and whether a number is one of them
abbrev RiseFrom : ℕ → List ℕ → Type 0
RiseFrom k [] = Unit {0}
RiseFrom k (n ∷ ns) = (k ≤ n) × RiseFrom (n + 1) ns

abbrev Has : ℕ → List ℕ → Type 0
Has m [] = ⊥
Has m (n ∷ ns) = (m ≡ n) ⊎ Has m ns

none_below : (m k : ℕ) (ns : List ℕ) → RiseFrom k ns → m < k → Has m ns → ⊥
none_below m k [] rise less has = has
none_below m k (n ∷ ns) rise less (inl same) = let low = rise.0 in omega (arith, low, less, same)
none_below m k (n ∷ ns) rise less (inr has) = let low = rise.0 in none_below m (n + 1) ns rise.1 (omega (arith, low, less)) has

rise_from : (k : ℕ) (numbers : List ℕ) → Rise numbers → ((i : ℕ) → i < length numbers → k ≤ get_or numbers i 0) → RiseFrom k numbers
rise_from k [] rise low = tt
rise_from k (n ∷ ns) rise low = (
  low 0 (omega arith),
  rise_from (n + 1) ns (λ i j less inside. rise (suc i) (suc j) (omega (arith, less)) (omega (arith, inside)))
      (λ i inside. let r = rise 0 (suc i) (omega arith) (omega (arith, inside)) in omega (arith, r)),
)

has_at : (m : ℕ) (numbers : List ℕ) (i : ℕ) → i < length numbers → get_or numbers i 0 ≡ m → Has m numbers
has_at m [] i inside is = absurd (omega (arith, inside))
has_at m (n ∷ ns) zero inside is = inl (sym is)
has_at m (n ∷ ns) (suc i) inside is = inr (has_at m ns i (omega (arith, inside)) is)

module _ {A B : Type 0} (f : ℕ → A → Option B) (all : List A) where
  abbrev made_at : ℕ → Option B
  made_at n = made_by f n (slice_get all n)

  abbrev AreMade : ℕ → List A → List ℕ → Type 0
  AreMade k rows numbers = RiseFrom k numbers → ((j : ℕ) (x : A) → slice_get rows j ≡ Some x → (f (k + j) x ≡ None) ⊎ Has (k + j) numbers)
      → filter_map made_at numbers ≡ filter_map (λ row. f row.0 row.1) (enumerate_from k rows)

  past : (k : ℕ) (numbers : List ℕ) → RiseFrom k numbers → length all ≤ k → filter_map made_at numbers ≡ []
  past k [] rise far = refl
  past k (n ∷ ns) rise far =
      let low = rise.0 in
      ap (λ (o : Option A). cons_option (made_by f n o) (filter_map made_at ns)) (slice_get_past all n (omega (arith, low, far)))
      ∙ past (n + 1) ns rise.1 (omega (arith, low, far))

  -- one thing more, whose number is not among them, or the first of them
  passed : (k : ℕ) (x : A) (own rest : List B) → f k x ≡ None → own ≡ rest → own ≡ cons_option (f k x) rest
  passed k x own rest none is = is ∙ ap (λ o. cons_option o rest) (sym none)

  met : (k n : ℕ) (x : A) (ns : List ℕ) (rest : List B) → n ≡ k → slice_get all k ≡ Some x → filter_map made_at ns ≡ rest
      → cons_option (made_at n) (filter_map made_at ns) ≡ cons_option (f k x) rest
  met k n x ns rest same at is =
      ap (λ m. cons_option (made_at m) (filter_map made_at ns)) same
      ∙ ap (λ (o : Option A). cons_option (made_by f k o) (filter_map made_at ns)) at
      ∙ ap (λ l. cons_option (f k x) l) is

  none_first : (k : ℕ) (x : A) (numbers : List ℕ) → RiseFrom (k + 1) numbers → (f (k + 0) x ≡ None) ⊎ Has (k + 0) numbers → f k x ≡ None
  none_first k x numbers rise (inl none) = subst (λ m. f m x ≡ None) (let e : k + 0 ≡ k = omega arith in e) none
  none_first k x numbers rise (inr has) = absurd (none_below (k + 0) (k + 1) numbers rise (omega arith) has)

  next : (k : ℕ) (x : A) (rows : List A) (numbers : List ℕ) → slice_get all k ≡ Some x → ((ns : List ℕ) → AreMade (k + 1) rows ns) → AreMade k (x ∷ rows) numbers
  next k x rows [] at before rise has =
      passed k x [] (filter_map (λ row. f row.0 row.1) (enumerate_from (k + 1) rows)) (none_first k x [] tt (has 0 x refl))
      (before [] tt (λ j y is. subst (λ m. (f m y ≡ None) ⊎ ⊥) (let e : k + suc j ≡ (k + 1) + j = omega arith in e) (has (suc j) y is)))
  next k x rows (n ∷ ns) at before rise has = go (cases_eq n k)
    where
      later : (j : ℕ) (y : A) → slice_get rows j ≡ Some y → (f ((k + 1) + j) y ≡ None) ⊎ Has ((k + 1) + j) (n ∷ ns)
      later j y is = subst (λ m. (f m y ≡ None) ⊎ Has m (n ∷ ns)) (let e : k + suc j ≡ (k + 1) + j = omega arith in e) (has (suc j) y is)

      dropped : (same : n ≡ k) (m : ℕ) (y : A) → k < m → (f m y ≡ None) ⊎ Has m (n ∷ ns) → (f m y ≡ None) ⊎ Has m ns
      dropped same m y less (inl none) = inl none
      dropped same m y less (inr (inl first)) = absurd (omega (arith, same, less, first))
      dropped same m y less (inr (inr in_rest)) = inr in_rest

      go : (n ≡ k) ⊎ (n ≡ k → ⊥) → filter_map made_at (n ∷ ns) ≡ filter_map (λ row. f row.0 row.1) (enumerate_from k (x ∷ rows))
      go (inl same) = met k n x ns (filter_map (λ row. f row.0 row.1) (enumerate_from (k + 1) rows)) same at
          (before ns (subst (λ m. RiseFrom (m + 1) ns) same rise.1) (λ j y is. dropped same ((k + 1) + j) y (omega arith) (later j y is)))
      go (inr other) =
          let low = rise.0 in
          let up : RiseFrom (k + 1) (n ∷ ns) = (omega (arith, low, other), rise.1) in
          passed k x (filter_map made_at (n ∷ ns)) (filter_map (λ row. f row.0 row.1) (enumerate_from (k + 1) rows))
          (none_first k x (n ∷ ns) up (has 0 x refl)) (before (n ∷ ns) up later)

  made_from : (k : ℕ) (rows : List A) (numbers : List ℕ) → ((j : ℕ) → slice_get all (k + j) ≡ slice_get rows j) → length all ≡ k + length rows → AreMade k rows numbers
  made_from k [] numbers same long rise has = past k numbers rise (omega (arith, long))
  made_from k (x ∷ rows) numbers same long rise has = next k x rows numbers
      (ap (slice_get all) (let e : k ≡ k + 0 = omega arith in e) ∙ same 0)
      (λ ns. made_from (k + 1) rows ns (λ j. ap (slice_get all) (let e : (k + 1) + j ≡ k + suc j = omega arith in e) ∙ same (suc j)) (omega (arith, long)))
      rise has

  pub made_all : (numbers : List ℕ) → Rise numbers → ((n : ℕ) (x : A) → slice_get all n ≡ Some x → (f n x ≡ None) ⊎ IsAmong numbers n)
      → filter_map made_at numbers ≡ filter_map (λ row. f row.0 row.1) (enumerate_from 0 all)
  made_all numbers rise meant = made_from 0 all numbers (λ j. ap (slice_get all) (let e : 0 + j ≡ j = omega arith in e)) (omega arith)
      (rise_from 0 numbers rise (λ i inside. omega arith))
      (λ j x is. subst (λ m. (f m x ≡ None) ⊎ Has m numbers) (let e : j ≡ 0 + j = omega arith in e) (there j x (meant j x is)))
    where
      there : (j : ℕ) (x : A) → (f j x ≡ None) ⊎ IsAmong numbers j → (f j x ≡ None) ⊎ Has j numbers
      there j x (inl none) = inl none
      there j x (inr among) = inr (has_at j numbers among.0 among.1 among.2)

-- two functions that say the same of each number
pub filtered_same : {B : Type 0} (g h : ℕ → Option B) (numbers : List ℕ) → ((i : ℕ) → i < length numbers → g (get_or numbers i 0) ≡ h (get_or numbers i 0)) → filter_map g numbers ≡ filter_map h numbers
filtered_same g h [] same = refl
filtered_same g h (n ∷ ns) same =
    ap (λ o. cons_option o (filter_map g ns)) (same 0 (omega arith))
    ∙ ap (λ l. cons_option (h n) l) (filtered_same g h ns (λ i inside. same (suc i) (omega (arith, inside))))

-- a function that gives each number itself
pub filtered_all : (h : ℕ → Option ℕ) (numbers : List ℕ) → ((i : ℕ) → i < length numbers → h (get_or numbers i 0) ≡ Some (get_or numbers i 0)) → filter_map h numbers ≡ numbers
filtered_all h [] each = refl
filtered_all h (n ∷ ns) each =
    ap (λ o. cons_option o (filter_map h ns)) (each 0 (omega arith))
    ∙ ap (λ l. n ∷ l) (filtered_all h ns (λ i inside. each (suc i) (omega (arith, inside))))
