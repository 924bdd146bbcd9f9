-- Numbers that rise, and the samples that a range of times finds.
use Rattle.std.proofs.Common.{◌≡◌, ◌∙◌, ◌<◌, ◌≤◌, ◌+◌, ◌++◌, ◌⊎◌, ℕ, zero, suc, Bool, true, false, nat_lt, Option, Some, None, List, [], ◌∷◌, map, slice_get, refl, ap, sym, subst, inl, inr, arith}
use Rattle.std.proofs.lemmas.Bool.{cases_lt, le-ltb, lt-ltb}
use Rattle.std.proofs.lemmas.List.Elements.{All-cons, All-nil, All-weaker}
use Rattle.std.proofs.lemmas.List.Sums.{sum_by-cons}
use Rattle.std.specs.List.{count_by, filter, flat_map, range_with_len}
use Rattle.std.specs.Prelude.{All, cond}
use Rattle.tdf_fixed.specs.declared.raw.Raw.{Raw}
use Rattle.tdf_saved.specs.declared.state.Stamp.{Stamp}
use Rattle.tdf_sim_resumed.specs.Snapshot.{stamp_of_cell}
use Rattle.tdf_streams.proofs.Api.{some_same}
use Rattle.tdf_trace_states.specs.ColumnStates.{DoRise}
use Rattle.tdf_trace_states.specs.Windows.{AreRisingFrom}

-- ---- numbers that rise from one on

abbrev pub Rises : (from : ℕ) → List ℕ → Type 0
Rises from [] = Unit {0}
Rises from (x ∷ xs) = (from ≤ x) × Rises (x + 1) xs

-- a number is one of a list
abbrev pub IsIn : ℕ → List ℕ → Type 0
IsIn n [] = ⊥
IsIn n (x ∷ xs) = (n ≡ x) ⊎ IsIn n xs

pub rises_above : (from n : ℕ) (xs : List ℕ) → Rises from xs → IsIn n xs → from ≤ n
rises_above from n [] rises is = absurd is
rises_above from n (x ∷ xs) rises (inl same) = let l = rises.0 in omega (arith, l, same)
rises_above from n (x ∷ xs) rises (inr later) = let l = rises.0 in let r = rises_above (x + 1) n xs rises.1 later in omega (arith, l, r)

pub rises_less : (from less : ℕ) (xs : List ℕ) → less ≤ from → Rises from xs → Rises less xs
rises_less from less [] low rises = tt
rises_less from less (x ∷ xs) low rises = (let l = rises.0 in omega (arith, l, low), rises.1)

-- two lists that rise with the same members are one
pub one_list : (from : ℕ) (xs ys : List ℕ) → Rises from xs → Rises from ys → ((n : ℕ) → IsIn n xs → IsIn n ys) → ((n : ℕ) → IsIn n ys → IsIn n xs) → xs ≡ ys
one_list from [] [] a b to back = refl
one_list from [] (y ∷ ys) a b to back = absurd (back y (inl refl))
one_list from (x ∷ xs) [] a b to back = absurd (to x (inl refl))
one_list from (x ∷ xs) (y ∷ ys) a b to back =
    let rest = one_list (x + 1) xs ys a.1 (subst (λ k. Rises (k + 1) ys) (sym first) b.1) others_of others_back in (λ i. first i ∷ rest i)
  where
    first : x ≡ y
    first = elim (to x (inl refl)) [
      | inl same ↦ same
      | inr later ↦ elim (back y (inl refl)) [
        | inl same ↦ sym same
        | inr also ↦ absurd (let p = rises_above (y + 1) x ys b.1 later in let q = rises_above (x + 1) y xs a.1 also in omega (arith, p, q))
      ]
    ]

    others_of : (n : ℕ) → IsIn n xs → IsIn n ys
    others_of n is = elim (to n (inr is)) [
      | inl same ↦ absurd (let p = rises_above (x + 1) n xs a.1 is in let e = first in omega (arith, p, same, e))
      | inr later ↦ later
    ]

    others_back : (n : ℕ) → IsIn n ys → IsIn n xs
    others_back n is = elim (back n (inr is)) [
      | inl same ↦ absurd (let p = rises_above (y + 1) n ys b.1 is in let e = first in omega (arith, p, same, e))
      | inr later ↦ later
    ]

-- ---- numbers of a range

module _ (f : ℕ → ℕ) (up : (i j : ℕ) → i < j → f i < f j) where
  pub range_rises : (a n : ℕ) → Rises (f a) (map f (range_with_len a n))
  range_rises a zero = tt
  range_rises a (suc n) = (omega arith, rises_less (f (a + 1)) (f a + 1) (map f (range_with_len (a + 1) n)) (let u = up a (a + 1) (omega arith) in omega (arith, u)) (range_rises (a + 1) n))

  pub in_range : (a n i : ℕ) → a ≤ i → i < a + n → IsIn (f i) (map f (range_with_len a n))
  in_range a zero i low high = absurd (omega (arith, low, high))
  in_range a (suc n) i low high = elim (cases_lt a i) [
    | inl later ↦ inr (in_range (a + 1) n i (omega (arith, later)) (omega (arith, high)))
    | inr here ↦ inl (let e : i ≡ a = omega (arith, low, here) in ap f e)
  ]

  pub of_range : (a n t : ℕ) → IsIn t (map f (range_with_len a n)) → (i : ℕ) × (a ≤ i) × (i < a + n) × (t ≡ f i)
  of_range a zero t is = absurd is
  of_range a (suc n) t (inl same) = (a, omega arith, omega arith, same)
  of_range a (suc n) t (inr later) = let r = of_range (a + 1) n t later in (r.0, let l = r.1 in omega (arith, l), let h = r.2 in omega (arith, h), r.3)

-- ---- how many of the first numbers pass a test that goes down

none_pass : (f : ℕ → Bool) (a n : ℕ) → ((i : ℕ) → a ≤ i → f i ≡ false) → count_by f (range_with_len a n) ≡ 0
none_pass f a zero none = refl
none_pass f a (suc n) none =
    let c : count_by f (range_with_len a (suc n)) ≡ cond (f a) 1 0 + count_by f (range_with_len (a + 1) n) = sum_by-cons (λ y. cond (f y) 1 0) a (range_with_len (a + 1) n) in
    let r = none_pass f (a + 1) n (λ i low. none i (omega (arith, low))) in
    let o : ◌≡◌ {A = ℕ} (cond (f a) 1 0) 0 = ap (λ b. cond b 1 0) (none a (omega arith)) in omega (arith, c, r, o)

pub counted_within : (f : ℕ → Bool) (a n : ℕ) → count_by f (range_with_len a n) ≤ n
counted_within f a zero = omega arith
counted_within f a (suc n) =
    let c : count_by f (range_with_len a (suc n)) ≡ cond (f a) 1 0 + count_by f (range_with_len (a + 1) n) = sum_by-cons (λ y. cond (f y) 1 0) a (range_with_len (a + 1) n) in
    let r = counted_within f (a + 1) n in
    let o = one (f a) in omega (arith, c, r, o)
  where
    one : (b : Bool) → ◌≤◌ (cond b 1 0) 1
    one true = omega arith
    one false = omega arith

pub front_passes : (f : ℕ → Bool) → ((i j : ℕ) → i ≤ j → f j ≡ true → f i ≡ true) → (a n i : ℕ) → a ≤ i → i < a + n → f i ≡ nat_lt i (a + count_by f (range_with_len a n))
front_passes f down a zero i low high = absurd (omega (arith, low, high))
front_passes f down a (suc n) i low high = go (λ k l h. front_passes f down (a + 1) n k l h) (f a) refl
  where
    more : count_by f (range_with_len a (suc n)) ≡ cond (f a) 1 0 + count_by f (range_with_len (a + 1) n)
    more = sum_by-cons (λ y. cond (f y) 1 0) a (range_with_len (a + 1) n)

    off : f a ≡ false → (j : ℕ) → a ≤ j → f j ≡ false
    off at j later = of (f j) refl
      where
        of : (b : Bool) → f j ≡ b → b ≡ false
        of false is = refl
        of true is = sym (down a j later is) ∙ at

    go : ((k : ℕ) → a + 1 ≤ k → k < a + 1 + n → f k ≡ nat_lt k (a + 1 + count_by f (range_with_len (a + 1) n))) → (b : Bool) → f a ≡ b → f i ≡ nat_lt i (a + count_by f (range_with_len a (suc n)))
    go rest true at =
        let o : ◌≡◌ {A = ℕ} (cond (f a) 1 0) 1 = ap (λ c. cond c 1 0) at in
        let m = more in
        elim (cases_lt a i) [
          | inl later ↦ (
              let e : a + 1 + count_by f (range_with_len (a + 1) n) ≡ a + count_by f (range_with_len a (suc n)) = omega (arith, m, o) in
              rest i (omega (arith, later)) (omega (arith, high)) ∙ ap (nat_lt i) e)
          | inr here ↦ (let e : i ≡ a = omega (arith, low, here) in ap f e ∙ at ∙ sym (lt-ltb i (a + count_by f (range_with_len a (suc n))) (omega (arith, m, o, e))))
        ]
    go rest false at =
        let o : ◌≡◌ {A = ℕ} (cond (f a) 1 0) 0 = ap (λ c. cond c 1 0) at in
        let m = more in
        let z = none_pass f (a + 1) n (λ j later. off at j (omega (arith, later))) in
        off at i low ∙ sym (le-ltb i (a + count_by f (range_with_len a (suc n))) (omega (arith, m, o, z, low)))

-- ---- the samples of a range of times

abbrev pub time_of : Stamp → ℕ
time_of x = x.time

abbrev pub passing : (ℕ → Bool) → List Stamp → List Stamp
passing q xs = filter (λ (x : Stamp). q x.time) xs

abbrev pub found_in : (ℕ → Option (Option Raw)) → (from count : ℕ) → List Stamp
found_in cell from count = flat_map (λ t. stamp_of_cell t (cell t)) (range_with_len from count)

-- one that was found
pub record IsFound (cell : ℕ → Option (Option Raw)) (q : ℕ → Bool) (from count t : ℕ) : Type 0 where
  pub low : from ≤ t
  pub high : t < from + count
  pub passes : q t ≡ true
  pub value : Raw
  pub is : cell t ≡ Some (Some value)

module _ (cell : ℕ → Option (Option Raw)) (q : ℕ → Bool) where
  found_later : (from count t : ℕ) → IsFound cell q (from + 1) count t → IsFound cell q from (suc count) t
  found_later from count t f = record { low = (let l = f.low in omega (arith, l)); high = (let h = f.high in omega (arith, h)); passes = f.passes; value = f.value; is = f.is }

  pub found_rise : (from count : ℕ) → Rises from (map time_of (passing q (found_in cell from count)))
  found_rise from zero = tt
  found_rise from (suc n) = go (found_rise (from + 1) n) (cell from) (q from) refl
    where
      later : List Stamp
      later = found_in cell (from + 1) n

      go : Rises (from + 1) (map time_of (passing q later)) → (o : Option (Option Raw)) (b : Bool) → q from ≡ b → Rises from (map time_of (passing q (stamp_of_cell from o ++ later)))
      go rises None b at = rises_less (from + 1) from (map time_of (passing q later)) (omega arith) rises
      go rises (Some None) b at = rises_less (from + 1) from (map time_of (passing q later)) (omega arith) rises
      go rises (Some (Some v)) true at = subst (λ c. Rises from (map time_of (cond c (record { time = from; num = v.num } ∷ passing q later) (passing q later)))) (sym at) (omega arith, rises)
      go rises (Some (Some v)) false at = subst (λ c. Rises from (map time_of (cond c (record { time = from; num = v.num } ∷ passing q later) (passing q later)))) (sym at)
          (rises_less (from + 1) from (map time_of (passing q later)) (omega arith) rises)

  pub found_is : (from count t : ℕ) → IsIn t (map time_of (passing q (found_in cell from count))) → IsFound cell q from count t
  found_is from zero t is = absurd is
  found_is from (suc n) t is = go (λ there. found_later from n t (found_is (from + 1) n t there)) (cell from) refl (q from) refl is
    where
      later : List Stamp
      later = found_in cell (from + 1) n

      here : (IsIn t (map time_of (passing q later)) → IsFound cell q from (suc n) t) → (v : Raw) → cell from ≡ Some (Some v) → q from ≡ true → IsIn t (from ∷ map time_of (passing q later)) → IsFound cell q from (suc n) t
      here next v at pass (inl same) = record {
        low = omega (arith, same);
        high = omega (arith, same);
        passes = ap q same ∙ pass;
        value = v;
        is = ap cell same ∙ at;
      }
      here next v at pass (inr there) = next there

      go : (IsIn t (map time_of (passing q later)) → IsFound cell q from (suc n) t) → (o : Option (Option Raw)) → cell from ≡ o → (b : Bool) → q from ≡ b → IsIn t (map time_of (passing q (stamp_of_cell from o ++ later))) → IsFound cell q from (suc n) t
      go next None at b pass there = next there
      go next (Some None) at b pass there = next there
      go next (Some (Some v)) at true pass there = here next v at pass (subst (λ c. IsIn t (map time_of (cond c (record { time = from; num = v.num } ∷ passing q later) (passing q later)))) pass there)
      go next (Some (Some v)) at false pass there = next (subst (λ c. IsIn t (map time_of (cond c (record { time = from; num = v.num } ∷ passing q later) (passing q later)))) pass there)

  pub is_found : (from count t : ℕ) → IsFound cell q from count t → IsIn t (map time_of (passing q (found_in cell from count)))
  is_found from zero t f = absurd (let l = f.low in let h = f.high in omega (arith, l, h))
  is_found from (suc n) t f = elim (cases_lt from t) [
    | inl later ↦ go (cell from) (q from) refl (is_found (from + 1) n t (record { low = omega (arith, later); high = (let h = f.high in omega (arith, h)); passes = f.passes; value = f.value; is = f.is }))
    | inr here ↦ (let e : t ≡ from = (let l = f.low in omega (arith, l, here)) in
        subst (λ o. IsIn t (map time_of (passing q (stamp_of_cell from o ++ found_in cell (from + 1) n)))) (sym (ap cell (sym e) ∙ f.is))
        (subst (λ c. IsIn t (map time_of (cond c (record { time = from; num = f.value.num } ∷ passing q (found_in cell (from + 1) n)) (passing q (found_in cell (from + 1) n))))) (sym (ap q (sym e) ∙ f.passes)) (inl e)))
  ]
    where
      go : (o : Option (Option Raw)) (b : Bool) → q from ≡ b → IsIn t (map time_of (passing q (found_in cell (from + 1) n))) → IsIn t (map time_of (passing q (stamp_of_cell from o ++ found_in cell (from + 1) n)))
      go None b at there = there
      go (Some None) b at there = there
      go (Some (Some v)) true at there = subst (λ c. IsIn t (map time_of (cond c (record { time = from; num = v.num } ∷ passing q (found_in cell (from + 1) n)) (passing q (found_in cell (from + 1) n))))) (sym at) (inr there)
      go (Some (Some v)) false at there = subst (λ c. IsIn t (map time_of (cond c (record { time = from; num = v.num } ∷ passing q (found_in cell (from + 1) n)) (passing q (found_in cell (from + 1) n))))) (sym at) there

-- ---- all of them

-- samples whose times rise, as validity says it
times_rise : (from : ℕ) (xs : List Stamp) → Rises from (map time_of xs) → AreRisingFrom from xs
times_rise from xs rises = record { from = all from xs rises; rise = rise from xs rises }
  where
    all : (from : ℕ) (xs : List Stamp) → Rises from (map time_of xs) → All (λ (x : Stamp). from ≤ x.time) xs
    all from [] rises = All-nil (λ (x : Stamp). from ≤ x.time)
    all from (x ∷ xs) rises = All-cons (λ (y : Stamp). from ≤ y.time) x xs rises.0
        (All-weaker (λ (y : Stamp). x.time + 1 ≤ y.time) (λ (y : Stamp). from ≤ y.time) (λ y later. (let l = rises.0 in omega (arith, l, later))) xs (all (x.time + 1) xs rises.1))

    first : (y : Stamp) (ys : List Stamp) → slice_get ys 0 ≡ Some y → (from : ℕ) → Rises from (map time_of ys) → from ≤ y.time
    first y [] at from rises = absurd cc
    first y (z ∷ ys) at from rises = let e : z.time ≡ y.time = ap (λ (x : Stamp). x.time) (some_same z y at) in let l = rises.0 in omega (arith, e, l)

    rise : (from : ℕ) (xs : List Stamp) → Rises from (map time_of xs) → DoRise xs
    rise from [] rises i x y at next = absurd cc
    rise from (z ∷ xs) rises zero x y at next =
        let e : z.time ≡ x.time = ap (λ (w : Stamp). w.time) (some_same z x at) in
        let l = first y xs next (z.time + 1) rises.1 in omega (arith, e, l)
    rise from (z ∷ xs) rises (suc i) x y at next =
        let e : suc i + 1 ≡ suc (i + 1) = omega arith in
        rise (z.time + 1) xs rises.1 i x y at (subst (λ n. slice_get (z ∷ xs) n ≡ Some y) e next)

-- where all pass
all_pass : (xs : List Stamp) → passing (λ t. true) xs ≡ xs
all_pass [] = refl
all_pass (x ∷ xs) = ap (λ l. x ∷ l) (all_pass xs)

pub found_rising : (cell : ℕ → Option (Option Raw)) (from count : ℕ) → AreRisingFrom from (found_in cell from count)
found_rising cell from count = times_rise from (found_in cell from count) (subst (λ xs. Rises from (map time_of xs)) (all_pass (found_in cell from count)) (found_rise cell (λ t. true) from count))

pub found_below : (cell : ℕ → Option (Option Raw)) (from count end : ℕ) → from + count ≤ end → All (λ (x : Stamp). x.time < end) (found_in cell from count)
found_below cell from zero end low = All-nil (λ (x : Stamp). x.time < end)
found_below cell from (suc n) end low = go (found_below cell (from + 1) n end (omega (arith, low))) (cell from)
  where
    go : All (λ (x : Stamp). x.time < end) (found_in cell (from + 1) n) → (o : Option (Option Raw)) → All (λ (x : Stamp). x.time < end) (stamp_of_cell from o ++ found_in cell (from + 1) n)
    go rest None = rest
    go rest (Some None) = rest
    go rest (Some (Some v)) = All-cons (λ (x : Stamp). x.time < end) (record { time = from; num = v.num }) (found_in cell (from + 1) n) (omega (arith, low)) rest
