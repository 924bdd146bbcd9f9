-- One row more has the values that are given.
use Rattle.std.proofs.Common.{◌≡◌, ◌∙◌, ◌+◌, ◌-◌, ◌<◌, ◌≤◌, ◌++◌, ◌∷◌, [], ℕ, Bool, List, drop, length, slice_index_or, take, sym, ap, arith}
use Rattle.std.proofs.lemmas.List.{append-nil, append_assoc, drop-drop, drop_all, drop_more, length-drop, take_rest}
use Rattle.std.proofs.lemmas.List.Sums.{sum_by-cons}
use Rattle.std.specs.List.{sum_by}
use Rattle.tdf_dynamic_plans.specs.Attributes.{AttrsOf}
use Rattle.tdf_dynamic_values.specs.machine.Rows.{AreRowsSoFar, row_by, rows_by}

-- what is left of a list at an item, which is read there
pub drop_read : {X : Type 0} (xs : List X) (i : ℕ) (x : X) → i < length xs → x ≡ slice_index_or xs i x → drop i xs ≡ x ∷ drop (i + 1) xs
drop_read xs i x within is = drop_more xs i x within ∙ ap (λ y. y ∷ drop (i + 1) xs) (sym is)

abbrev rate_sum : List AttrsOf → ℕ
rate_sum rows = sum_by (λ (row : AttrsOf). length row.rates) rows

abbrev step_sum : List AttrsOf → ℕ
step_sum rows = sum_by (λ (row : AttrsOf). length row.steps) rows

module _ (rows : List AttrsOf) (accepts : List Bool) (rates steps : List ℕ) (i : ℕ) (new : List AttrsOf) (rate step : ℕ) (so_far : AreRowsSoFar rows accepts rates steps i new rate step) where
  -- the rates and timesteps of the row are left
  module _ (row : AttrsOf) (at : drop i rows ≡ row ∷ drop (i + 1) rows) where
    rates_cut : rate + (length row.rates + rate_sum (drop (i + 1) rows)) ≡ length rates
    rates_cut = ap (λ n. rate + n) (sym (ap rate_sum at ∙ sum_by-cons (λ (r : AttrsOf). length r.rates) row (drop (i + 1) rows))) ∙ so_far.rates_left

    steps_cut : step + (length row.steps + step_sum (drop (i + 1) rows)) ≡ length steps
    steps_cut = ap (λ n. step + n) (sym (ap step_sum at ∙ sum_by-cons (λ (r : AttrsOf). length r.steps) row (drop (i + 1) rows))) ∙ so_far.steps_left

    pub rates_there : length row.rates ≤ length (take (length rates - rate) (drop rate rates))
    rates_there = let c = rates_cut in let t = ap length (take_rest rates rate) in let d = length-drop rate rates in omega (arith, c, t, d)

    pub steps_there : length row.steps ≤ length (take (length steps - step) (drop step steps))
    steps_there = let c = steps_cut in let t = ap length (take_rest steps step) in let d = length-drop step steps in omega (arith, c, t, d)

    module _ (flag : Bool) (flag_at : drop i accepts ≡ flag ∷ drop (i + 1) accepts) (one : AttrsOf) (more : List AttrsOf)
        (one_is : one ≡ row_by row flag (take (length rates - rate) (drop rate rates)) (take (length steps - step) (drop step steps))) (is : more ≡ new ++ one ∷ []) where
      -- the values that are left after it
      abbrev later : List AttrsOf
      later = rows_by (drop (i + 1) rows) (drop (i + 1) accepts) (drop (length row.rates) (drop rate rates)) (drop (length row.steps) (drop step steps))

      here : one ≡ row_by row flag (drop rate rates) (drop step steps)
      here = one_is ∙ (let r = take_rest rates rate in let s = take_rest steps step in λ k. row_by row flag (r k) (s k))

      left : rows_by (drop i rows) (drop i accepts) (drop rate rates) (drop step steps) ≡ row_by row flag (drop rate rates) (drop step steps) ∷ later
      left = λ k. rows_by (at k) (flag_at k) (drop rate rates) (drop step steps)

      later_is : rows_by (drop (i + 1) rows) (drop (i + 1) accepts) (drop (rate + length row.rates) rates) (drop (step + length row.steps) steps) ≡ later
      later_is = let r = drop-drop (length row.rates) rate rates in let s = drop-drop (length row.steps) step steps in
          λ k. rows_by (drop (i + 1) rows) (drop (i + 1) accepts) (sym r k) (sym s k)

      pub rows_next : AreRowsSoFar rows accepts rates steps (i + 1) more (rate + length row.rates) (step + length row.steps)
      rows_next = record {
        whole = ap (λ (l : List AttrsOf). more ++ l) later_is
            ∙ ap (λ (l : List AttrsOf). l ++ later) is
            ∙ append_assoc new (one ∷ []) later
            ∙ ap (λ (x : AttrsOf). new ++ x ∷ later) here
            ∙ ap (λ (l : List AttrsOf). new ++ l) (sym left)
            ∙ so_far.whole;
        rates_left = let c = rates_cut in omega (arith, c);
        steps_left = let c = steps_cut in omega (arith, c);
      }

  -- all rows have theirs
  pub rows_end : length rows ≤ i → new ≡ rows_by rows accepts rates steps
  rows_end over = sym (ap (λ (r : List AttrsOf). new ++ rows_by r (drop i accepts) (drop rate rates) (drop step steps)) (drop_all i rows over) ∙ append-nil new) ∙ so_far.whole
