-- The links of a cluster.
use Rattle.std.proofs.Common.{◌≡◌, ◌∙◌, ◌≢◌, ℕ, zero, suc, ◌<◌, ◌≤◌, Bool, true, false, List, [], ◌∷◌, Some, None, length, take, refl, sym, ap, subst, inl, inr, ◌⊎◌, arith, cond, if◌then◌else◌, nat_eq}
use Rattle.std.proofs.Math.ListN.{get_or}
use Rattle.std.proofs.lemmas.Bool.{cases_eq, cases_lt}
use Rattle.std.proofs.lemmas.Bool.Decides.{nat_tests}
use Rattle.std.proofs.lemmas.List.{take-take}
use Rattle.std.proofs.lemmas.List.Sums.{sum_by-cons}
use Rattle.std.proofs.lemmas.Option.{same_Some, slice_get-get_or, slice_get_within}
use Rattle.std.specs.List.{count_by}
use Rattle.std.specs.List.Sorted.{IsNonDecreasingBy}
use Rattle.std.specs.Prelude.{slice_get}
use Rattle.tdf_convert.specs.Links.{AreLinks, AreRising, link_of, samplers_before}
use Rattle.tdf_convert.specs.declared.links.Link.{Link}

pub has_at : {A : Type 0} (xs : List A) (n : ℕ) → n < length xs → (x : A) × (slice_get xs n ≡ Some x)
has_at [] n h = absurd (omega (arith, h))
has_at (x ∷ xs) zero h = (x, refl)
has_at (x ∷ xs) (suc n) h = has_at xs n (omega (arith, h))

-- the link of an actor, or it has none
pub link_cases : (links : List Link) (actor : ℕ)
    → ((j : ℕ) × (l : Link) × (slice_get links j ≡ Some l) × (l.actor ≡ actor) × (link_of links actor ≡ Some l))
    ⊎ (((j : ℕ) (l : Link) → slice_get links j ≡ Some l → l.actor ≡ actor → ⊥) × (link_of links actor ≡ None))
link_cases [] actor = inr ((λ j l at. absurd cc), refl)
link_cases (v ∷ links) actor = choose (cases_eq v.actor actor) (link_cases links actor)
  where
    choose : (v.actor ≡ actor) ⊎ (v.actor ≢ actor)
        → ((j : ℕ) × (l : Link) × (slice_get links j ≡ Some l) × (l.actor ≡ actor) × (link_of links actor ≡ Some l))
        ⊎ (((j : ℕ) (l : Link) → slice_get links j ≡ Some l → l.actor ≡ actor → ⊥) × (link_of links actor ≡ None))
        → ((j : ℕ) × (l : Link) × (slice_get (v ∷ links) j ≡ Some l) × (l.actor ≡ actor) × (link_of (v ∷ links) actor ≡ Some l))
        ⊎ (((j : ℕ) (l : Link) → slice_get (v ∷ links) j ≡ Some l → l.actor ≡ actor → ⊥) × (link_of (v ∷ links) actor ≡ None))
    choose (inl same) rest =
        let test : nat_eq v.actor actor ≡ true = grind (arith, nat_tests, same) in
        inl (0, v, refl, same, ap (λ (b : Bool). if b then Some v else link_of links actor) test)
    choose (inr other) (inl rest) =
        let test : nat_eq v.actor actor ≡ false = grind (arith, nat_tests, other) in
        inl (suc rest.0, rest.1, rest.2, rest.3, ap (λ (b : Bool). if b then Some v else link_of links actor) test ∙ rest.4)
    choose (inr other) (inr rest) =
        let test : nat_eq v.actor actor ≡ false = grind (arith, nat_tests, other) in
        inr (none rest.0, ap (λ (b : Bool). if b then Some v else link_of links actor) test ∙ rest.1)
      where
        none : ((j : ℕ) (l : Link) → slice_get links j ≡ Some l → l.actor ≡ actor → ⊥) → (j : ℕ) (l : Link) → slice_get (v ∷ links) j ≡ Some l → l.actor ≡ actor → ⊥
        none others zero l at same = other (ap (λ (u : Link). u.actor) (same_Some v l at) ∙ same)
        none others (suc j) l at same = others j l at same

-- an actor has one link at most
pub one_link : (links : List Link) → AreRising links → (i j : ℕ) (k l : Link) → slice_get links i ≡ Some k → slice_get links j ≡ Some l → k.actor ≡ l.actor → i ≡ j
one_link links order i j k l first second same = choose (cases_lt i j) (cases_lt j i)
  where
    choose : (i < j) ⊎ (j ≤ i) → (j < i) ⊎ (i ≤ j) → i ≡ j
    choose (inl less) more = absurd (omega (arith, same, order.rising i j k l less first second))
    choose (inr least) (inl more) = absurd (omega (arith, same, order.rising j i l k more second first))
    choose (inr least) (inr most) = omega (arith, least, most)

pub link_found : (links : List Link) → AreRising links → (j : ℕ) (l : Link) (actor : ℕ) → slice_get links j ≡ Some l → l.actor ≡ actor → Some l ≡ link_of links actor
link_found links order j l actor at same = choose (link_cases links actor)
  where
    choose : ((i : ℕ) × (k : Link) × (slice_get links i ≡ Some k) × (k.actor ≡ actor) × (link_of links actor ≡ Some k))
        ⊎ (((i : ℕ) (k : Link) → slice_get links i ≡ Some k → k.actor ≡ actor → ⊥) × (link_of links actor ≡ None)) → Some l ≡ link_of links actor
    choose (inl (i, k, here, who, is)) =
        let one : i ≡ j = one_link links order i j k l here at (who ∙ sym same) in
        sym at ∙ ap (slice_get links) (sym one) ∙ here ∙ sym is
    choose (inr (none, is)) = absurd (none j l at same)

pub link_none : (links : List Link) (actor : ℕ) → ((j : ℕ) (l : Link) → slice_get links j ≡ Some l → l.actor ≡ actor → ⊥) → None ≡ link_of links actor
link_none links actor none = choose (link_cases links actor)
  where
    choose : ((i : ℕ) × (k : Link) × (slice_get links i ≡ Some k) × (k.actor ≡ actor) × (link_of links actor ≡ Some k))
        ⊎ (((i : ℕ) (k : Link) → slice_get links i ≡ Some k → k.actor ≡ actor → ⊥) × (link_of links actor ≡ None)) → None ≡ link_of links actor
    choose (inl (i, k, here, who, is)) = absurd (none i k here who)
    choose (inr (others, is)) = sym is

pub link_at : (links : List Link) (actor : ℕ) (l : Link) → Some l ≡ link_of links actor → (j : ℕ) × (slice_get links j ≡ Some l) × (l.actor ≡ actor)
link_at links actor l is = choose (link_cases links actor)
  where
    choose : ((i : ℕ) × (k : Link) × (slice_get links i ≡ Some k) × (k.actor ≡ actor) × (link_of links actor ≡ Some k))
        ⊎ (((i : ℕ) (k : Link) → slice_get links i ≡ Some k → k.actor ≡ actor → ⊥) × (link_of links actor ≡ None)) → (j : ℕ) × (slice_get links j ≡ Some l) × (l.actor ≡ actor)
    choose (inl (i, k, here, who, found)) =
        let same : k ≡ l = same_Some k l (sym found ∙ sym is) in
        (i, here ∙ ap (λ (x : Link). Some x) same, ap (λ (x : Link). x.actor) (sym same) ∙ who)
    choose (inr (others, none)) = absurd (impossible (is ∙ none))
      where
        impossible : Some l ≡ None → ⊥
        impossible h = absurd cc

-- links by rising actor can be halved
pub rising_by : (links : List Link) → AreRising links → IsNonDecreasingBy (λ l. l.actor) links
rising_by links order i j d least below = choose (cases_eq i j)
  where
    choose : (i ≡ j) ⊎ (i ≢ j) → (get_or links i d).actor ≤ (get_or links j d).actor
    choose (inl same) = subst (λ n. (get_or links i d).actor ≤ (get_or links n d).actor) same (omega arith)
    choose (inr other) =
        let less = order.rising i j (get_or links i d) (get_or links j d) (omega (arith, least, other))
        (slice_get-get_or links i d (omega (arith, least, below))) (slice_get-get_or links j d below) in
        omega (arith, less)

-- a sampler's place lies below the number of samplers
pub before_less : (links : List Link) (j : ℕ) (l : Link) → slice_get links j ≡ Some l → l.sampler ≡ true → samplers_before links j < count_by (λ l. l.sampler) links
before_less [] j l at is = absurd cc
before_less (v ∷ links) zero l at is =
    let yes : v.sampler ≡ true = ap (λ (x : Link). x.sampler) (same_Some v l at) ∙ is in
    let count : Bool → ℕ = λ b. cond b 1 0 in
    let one : count v.sampler ≡ 1 = ap count yes in
    omega (arith, one, sum_by-cons (λ (x : Link). cond x.sampler 1 0) v links)
before_less (v ∷ links) (suc j) l at is =
    let rest = before_less links j l at is in
    omega (arith, rest, sum_by-cons (λ (x : Link). cond x.sampler 1 0) v links, sum_by-cons (λ (x : Link). cond x.sampler 1 0) v (take j links))

take_at : {A : Type 0} (xs : List A) (n j : ℕ) (x : A) → j < n → slice_get xs j ≡ Some x → slice_get (take n xs) j ≡ Some x
take_at [] n j x below at = absurd cc
take_at (y ∷ xs) zero j x below at = absurd (omega (arith, below))
take_at (y ∷ xs) (suc n) zero x below at = at
take_at (y ∷ xs) (suc n) (suc j) x below at = take_at xs n j x (omega (arith, below)) at

pub place_inside : (links : List Link) (samplers : ℕ) → AreLinks links samplers → (j : ℕ) (l : Link) → slice_get links j ≡ Some l → l.sampler ≡ true → l.place < samplers
place_inside links samplers are j l at is = omega (arith, before_less links j l at is, are.placed j l at, are.count)

-- two samplers have different places
place_less : (links : List Link) (samplers : ℕ) → AreLinks links samplers → (i j : ℕ) (k l : Link) → i < j → slice_get links i ≡ Some k → slice_get links j ≡ Some l
    → k.sampler ≡ true → k.place < l.place
place_less links samplers are i j k l less first second is =
    let short = before_less (take j links) i k (take_at links j i k less first) is in
    let same : take i (take j links) ≡ take i links = take-take i j links (omega (arith, less)) in
    let here : samplers_before (take j links) i ≡ samplers_before links i = ap (λ (t : List Link). count_by (λ x. x.sampler) t) same in
    omega (arith, short, here, are.placed i k first, are.placed j l second)

pub one_place : (links : List Link) (samplers : ℕ) → AreLinks links samplers → (i j : ℕ) (k l : Link) → slice_get links i ≡ Some k → slice_get links j ≡ Some l
    → k.sampler ≡ true → l.sampler ≡ true → k.place ≡ l.place → i ≡ j
one_place links samplers are i j k l first second a b same = choose (cases_lt i j) (cases_lt j i)
  where
    choose : (i < j) ⊎ (j ≤ i) → (j < i) ⊎ (i ≤ j) → i ≡ j
    choose (inl less) more = absurd (omega (arith, same, place_less links samplers are i j k l less first second a))
    choose (inr least) (inl more) = absurd (omega (arith, same, place_less links samplers are j i l k more second first b))
    choose (inr least) (inr most) = omega (arith, least, most)

-- halving finds no link of the actor
pub none_past : (links : List Link) (actor n : ℕ) → ((j : ℕ) (l : Link) → j < n → slice_get links j ≡ Some l → l.actor < actor) → length links ≤ n
    → None ≡ link_of links actor
none_past links actor n less past =
    link_none links actor (λ j l at same. absurd (omega (arith, same, less j l (omega (arith, slice_get_within links j l at, past)) at)))

pub none_there : (links : List Link) (actor n : ℕ) (k : Link) → AreRising links → ((j : ℕ) (l : Link) → j < n → slice_get links j ≡ Some l → l.actor < actor)
    → ((j : ℕ) (l : Link) → n ≤ j → slice_get links j ≡ Some l → actor ≤ l.actor) → slice_get links n ≡ Some k → (k.actor ≡ actor → ⊥) → None ≡ link_of links actor
none_there links actor n k order less more at other = link_none links actor (λ j l here same. choose j l here same (cases_lt j n) (cases_eq j n))
  where
    choose : (j : ℕ) (l : Link) → slice_get links j ≡ Some l → l.actor ≡ actor → (j < n) ⊎ (n ≤ j) → (j ≡ n) ⊎ (j ≢ n) → ⊥
    choose j l here same (inl below) eq = absurd (omega (arith, same, less j l below here))
    choose j l here same (inr past) (inl now) = other (ap (λ (x : Link). x.actor) (same_Some k l (sym at ∙ ap (slice_get links) (sym now) ∙ here)) ∙ same)
    choose j l here same (inr past) (inr apart) =
        absurd (omega (arith, same, more n k (omega arith) at, order.rising n j k l (omega (arith, past, apart)) at here))
