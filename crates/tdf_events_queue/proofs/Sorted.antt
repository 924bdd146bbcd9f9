-- A list of members in rising order.
use Rattle.std.proofs.Common.{◌≡◌, ◌≢◌, ℕ, ◌<◌, Bool, true, false, List, length, slice_get, slice_index, Some, refl, ap, sym, ◌∙◌, subst, inl, inr, arith, nat_cmp, replicate, IsPermutation, IsSorted}
use Rattle.std.proofs.Math.Dec.{eqb}
use Rattle.std.specs.List.{AllPairs, Contains, IsDistinct}
use Rattle.std.proofs.lemmas.Bool.{cases_Bool, cases_order}
use Rattle.std.proofs.lemmas.Bool.Decides.{Decides-eqb, eqb_tells}
use Rattle.std.proofs.lemmas.List.{ext_get_or, get_or-replicate, length-replicate}
use Rattle.std.proofs.lemmas.List.Kept.{AllPairs-from_increasing}
use Rattle.std.proofs.lemmas.List.Sorted.{Contains-permutation, IsPermutation-sym, IsNonDecreasingBy-from_sort, length_permutation}
use Rattle.std.proofs.lemmas.Map.Keys.{IsDistinct-IsPermutation, IsStrictlyIncreasing-from_distinct}
use Rattle.std.proofs.lemmas.Map.Made.{IsDistinct-from_AllPairs}
use Rattle.std.proofs.lemmas.Option.{slice_get_within, get_or_from_slice_get, slice_get-get_or}
use Rattle.tdf_events_queue.specs.Sets.{is_on, AreListed, AreRisingFlags}
use Rattle.tdf_events_queue.specs.machine.Clearing.{AreOff}

eqb_flips : (x y : ℕ) → eqb x y ≡ eqb y x
eqb_flips x y = elim (eqb_tells x y) [
  | inl s ↦ subst (λ z. eqb x z ≡ eqb z x) s.1 refl
  | inr d ↦ elim (eqb_tells y x) [ inl s ↦ absurd (d.1 (sym s.1)) | inr e ↦ d.0 ∙ sym e.0 ]
]

place_in : (list : List ℕ) (n : ℕ) → Contains list n → (j : ℕ) × (slice_get list j ≡ Some n)
place_in list n c = (c.0, slice_get-get_or list c.0 n c.1 ∙ ap Some c.2)

is_in : (list : List ℕ) (j n : ℕ) → slice_get list j ≡ Some n → Contains list n
is_in list j n at = (j, slice_get_within list j n at, get_or_from_slice_get list j n n at)

module _ (flags : List Bool) (xs ys : List ℕ) (listed : AreListed flags xs) (moved : IsPermutation xs ys) where
  on_after : (j n : ℕ) → slice_get ys j ≡ Some n → is_on flags n ≡ true
  on_after j n at = let w = place_in xs n (Contains-permutation ys xs n (IsPermutation-sym xs ys moved) (is_in ys j n at)) in listed.on w.0 n w.1

  all_after : (n : ℕ) → is_on flags n ≡ true → (j : ℕ) × (slice_get ys j ≡ Some n)
  all_after n on = let w = listed.all n on in place_in ys n (Contains-permutation xs ys n moved (is_in xs w.0 n w.1))

  apart : AllPairs (λ x y. x ≢ y) xs
  apart i j d less within = λ same. (let a = slice_get-get_or xs i d (omega (arith, less, within)) in let b = slice_get-get_or xs j d within in
      let e : i ≡ j = listed.once i j _ (a ∙ ap Some same) b in absurd (omega (arith, e, less)))

  distinct : IsDistinct eqb ys
  distinct = IsDistinct-IsPermutation eqb eqb_flips xs ys moved (IsDistinct-from_AllPairs Decides-eqb xs apart)

  module _ (sorted : IsSorted nat_cmp ys) where
    increasing : AllPairs (λ x y. x < y) ys
    increasing = AllPairs-from_increasing ys (IsStrictlyIncreasing-from_distinct ys (IsNonDecreasingBy-from_sort (λ x. x) ys sorted) distinct)

    rising_after : (i j n m : ℕ) → i < j → slice_get ys i ≡ Some n → slice_get ys j ≡ Some m → n < m
    rising_after i j n m less a b = let up : slice_index ys i < slice_index ys j = increasing i j 0 less (slice_get_within ys j m b) in
        let e : slice_index ys i ≡ n = get_or_from_slice_get ys i n 0 a in let f : slice_index ys j ≡ m = get_or_from_slice_get ys j m 0 b in omega (arith, up, e, f)

    pub sorted_rising : AreRisingFlags flags ys
    sorted_rising = record { on = on_after; all = all_after; rising = rising_after }

    pub sorted_listed : AreListed flags ys
    sorted_listed = record {
      on = on_after;
      all = all_after;
      once = λ i j n a b. elim (cases_order i j) [
        | inl same ↦ same
        | inr sides ↦ elim sides [
          | inl low ↦ (let up : n < n = rising_after i j n n low a b in absurd (omega (arith, up)))
          | inr high ↦ (let up : n < n = rising_after j i n n high b a in absurd (omega (arith, up)))
        ]
      ];
      count = length_permutation xs ys moved ∙ listed.count;
    }

-- a list of one member at most rises
pub few_rising : (flags : List Bool) (list : List ℕ) → length list < 2 → AreListed flags list → AreRisingFlags flags list
few_rising flags list few listed = record {
  on = listed.on;
  all = listed.all;
  rising = λ i j n m less a b. (let within : j < length list = slice_get_within list j m b in absurd (omega (arith, within, few, less)));
}

-- what the loop that takes all members out leaves
pub all_off : (flags new : List Bool) (list : List ℕ) → AreListed flags list → AreOff list (length list) flags new → new ≡ replicate (length flags) false
all_off flags new list listed off = ext_get_or false new (replicate (length flags) false) (off.same ∙ sym (length-replicate {A = Bool} (length flags) false)) (λ n within. out n within ∙ sym (get_or-replicate (length flags) n false false (subst (λ l. n < l) off.same within)))
  where
    out : (n : ℕ) → n < length new → is_on new n ≡ false
    out n within = elim (cases_Bool (is_on flags n)) [
      | inl on ↦ (let w = listed.all n on in off.off w.0 n (slice_get_within list w.0 n w.1) w.1)
      | inr not_on ↦ off.kept n not_on
    ]
