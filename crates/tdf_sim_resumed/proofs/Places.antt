-- Which entries of a plan are due before a time: those before a place.
use Rattle.std.proofs.Common.{◌≡◌, ◌∙◌, ◌<◌, ◌≤◌, ◌+◌, ℕ, zero, suc, Bool, true, false, cond, nat_lt, List, [], ◌∷◌, Some, length, slice_get, inl, inr, refl, sym, ap, arith}
use Rattle.std.proofs.lemmas.Bool.{cases_lt, le-ltb, lt-ltb, ltb-false, ltb-true, or_left}
use Rattle.std.proofs.lemmas.List.Sums.{sum_by-cons}
use Rattle.std.proofs.lemmas.Option.{slice_get_within}
use Rattle.std.specs.List.{count_by}
use Rattle.tdf_bind.specs.declared.model.Flat.{Flat}
use Rattle.tdf_sim_refinement.specs.Below.{ClusterOf, IsClusterOf, due_before}
use Rattle.tdf_schedule.specs.Plan.{is_earlier}
use Rattle.tdf_schedule.specs.declared.entry.Entry.{Entry}
use Rattle.tdf_streams.proofs.Api.{get_inside, some_same}

abbrev weight : Bool → ℕ
weight b = cond b 1 0

weighs_one : (b : Bool) → weight b ≤ 1
weighs_one true = omega arith
weighs_one false = omega arith

apart : (b : Bool) → b ≡ true → b ≡ false → ⊥
apart b on off = absurd cc

module _ {X : Type 0} (p : X → Bool) where
  -- as many pass as come before a place, where those pass and no others
  pub counted_to : (xs : List X) (k : ℕ) → k ≤ length xs → ((i : ℕ) (x : X) → i < k → slice_get xs i ≡ Some x → p x ≡ true) → ((i : ℕ) (x : X) → k ≤ i → slice_get xs i ≡ Some x → p x ≡ false) → count_by p xs ≡ k
  counted_to [] k low on off = let z : count_by p [] ≡ 0 = refl in omega (arith, low, z)
  counted_to (x ∷ xs) zero low on off =
      let s : count_by p (x ∷ xs) ≡ weight (p x) + count_by p xs = sum_by-cons (λ z. cond (p z) 1 0) x xs in
      let w : weight (p x) ≡ 0 = ap weight (off 0 x (omega arith) refl) in
      let r = counted_to xs 0 (omega arith) (λ i y less at. absurd (omega (arith, less))) (λ i y past at. off (suc i) y (omega arith) at) in omega (arith, s, w, r)
  counted_to (x ∷ xs) (suc k) low on off =
      let s : count_by p (x ∷ xs) ≡ weight (p x) + count_by p xs = sum_by-cons (λ z. cond (p z) 1 0) x xs in
      let w : weight (p x) ≡ 1 = ap weight (on 0 x (omega arith) refl) in
      let r = counted_to xs k (omega (arith, low)) (λ i y less at. on (suc i) y (omega (arith, less)) at) (λ i y past at. off (suc i) y (omega (arith, past)) at) in omega (arith, s, w, r)

  -- no more pass than come before a place from which on none does
  few_pass : (xs : List X) (k : ℕ) → ((i : ℕ) (x : X) → k ≤ i → slice_get xs i ≡ Some x → p x ≡ false) → count_by p xs ≤ k
  few_pass [] k off = let z : count_by p [] ≡ 0 = refl in omega (arith, z)
  few_pass (x ∷ xs) zero off =
      let s : count_by p (x ∷ xs) ≡ weight (p x) + count_by p xs = sum_by-cons (λ z. cond (p z) 1 0) x xs in
      let w : weight (p x) ≡ 0 = ap weight (off 0 x (omega arith) refl) in
      let r = few_pass xs 0 (λ i y past at. off (suc i) y (omega arith) at) in omega (arith, s, w, r)
  few_pass (x ∷ xs) (suc k) off =
      let s : count_by p (x ∷ xs) ≡ weight (p x) + count_by p xs = sum_by-cons (λ z. cond (p z) 1 0) x xs in
      let w = weighs_one (p x) in
      let r = few_pass xs k (λ i y past at. off (suc i) y (omega (arith, past)) at) in omega (arith, s, w, r)

  -- each before as many as pass does, where those that pass come first
  pub front_passes : (xs : List X) (i : ℕ) (x : X) → ((i j : ℕ) (a b : X) → i < j → slice_get xs i ≡ Some a → slice_get xs j ≡ Some b → p b ≡ true → p a ≡ true)
      → i < count_by p xs → slice_get xs i ≡ Some x → p x ≡ true
  front_passes xs i x leads less at = go (p x) refl
    where
      off_after : p x ≡ false → (j : ℕ) (y : X) → i < j → slice_get xs j ≡ Some y → (b : Bool) → p y ≡ b → p y ≡ false
      off_after off j y after there true is = absurd (apart (p x) (leads i j x y after at there is) off)
      off_after off j y after there false is = is

      none_after : p x ≡ false → (j : ℕ) (y : X) → i ≤ j → slice_get xs j ≡ Some y → p y ≡ false
      none_after off j y past there = elim (cases_lt i j) [
        | inl after ↦ off_after off j y after there (p y) refl
        | inr here ↦ (
            let same : i ≡ j = omega (arith, past, here) in
            ap p (some_same y x (sym there ∙ ap (slice_get xs) (sym same) ∙ at)) ∙ off)
      ]

      go : (b : Bool) → p x ≡ b → p x ≡ true
      go true is = is
      go false is = absurd (let few = few_pass xs i (none_after is) in omega (arith, few, less))

-- ---- a cluster in progress

module _ (flat : Flat) (c : ClusterOf) (of : IsClusterOf flat c) where
  offsets_rise : (i j : ℕ) (x y : Entry) → i < j → slice_get c.entries i ≡ Some x → slice_get c.entries j ≡ Some y → x.offset ≤ y.offset
  offsets_rise i j x y less x_at y_at = go (nat_lt y.offset x.offset) refl
    where
      sorted : is_earlier y x ≡ false
      sorted = of.planned.plan_is.plan_is.planned.planned.sorted i j x y less (ap (λ l. slice_get l i) of.planned.entries_are ∙ x_at) (ap (λ l. slice_get l j) of.planned.entries_are ∙ y_at)

      go : (b : Bool) → nat_lt y.offset x.offset ≡ b → x.offset ≤ y.offset
      go true below = absurd (apart (is_earlier y x) (or_left (nat_lt y.offset x.offset) _ below) sorted)
      go false above = ltb-false y.offset x.offset above

  module _ (since time : ℕ) where
    abbrev is_before : Entry → Bool
    is_before x = nat_lt (since + x.offset) time

    before_leads : (i j : ℕ) (x y : Entry) → i < j → slice_get c.entries i ≡ Some x → slice_get c.entries j ≡ Some y → is_before y ≡ true → is_before x ≡ true
    before_leads i j x y less x_at y_at before =
        let rise = offsets_rise i j x y less x_at y_at in let b = ltb-true (since + y.offset) time before in lt-ltb (since + x.offset) time (omega (arith, rise, b))

    -- its place is where the first entry is that isn't due before
    pub place_of : ((i : ℕ) (x : Entry) → i < c.place → slice_get c.entries i ≡ Some x → since + x.offset < time) → ((x : Entry) → slice_get c.entries c.place ≡ Some x → time ≤ since + x.offset)
        → c.place ≡ due_before since time c.entries
    place_of done next = sym (counted_to is_before c.entries c.place of.within (λ i x less at. lt-ltb (since + x.offset) time (done i x less at)) (λ i x past at. le-ltb (since + x.offset) time (later i x past at)))
      where
        later : (i : ℕ) (x : Entry) → c.place ≤ i → slice_get c.entries i ≡ Some x → time ≤ since + x.offset
        later i x past at = elim (cases_lt c.place i) [
          | inl after ↦ (
              let here = get_inside c.entries c.place (let w = slice_get_within c.entries i x at in omega (arith, w, after)) in
              let n = next here.0 here.1 in let rise = offsets_rise c.place i here.0 x after here.1 at in omega (arith, n, rise))
          | inr is ↦ next x (let same : i ≡ c.place = omega (arith, past, is) in sym (ap (slice_get c.entries) same) ∙ at)
        ]

    -- and each entry before it is
    pub done_early : c.place ≡ due_before since time c.entries → (i : ℕ) (x : Entry) → i < c.place → slice_get c.entries i ≡ Some x → since + x.offset < time
    done_early place i x less at = ltb-true (since + x.offset) time (front_passes is_before c.entries i x before_leads (let p = place in omega (arith, less, p)) at)
