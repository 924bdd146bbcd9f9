-- Rows whose modules rise stand once.
use Rattle.std.proofs.Common.{◌≡◌, ℕ, zero, suc, ◌+◌, ◌-◌, ◌<◌, ◌≤◌, ◌⊎◌, inl, inr, false, List, [], Some, length, refl, sym, ap, subst, arith}
use Rattle.std.proofs.Math.ListN.{get_or}
use Rattle.std.proofs.lemmas.Bool.{cases_lt}
use Rattle.std.proofs.lemmas.Option.{get_or_from_slice_get, slice_get-get_or, slice_get_within}
use Rattle.std.specs.Prelude.{slice_get}
use Rattle.tdf_dynamic_plans.specs.Attributes.{AttrsOf, RowsStandOnce}

abbrev no_row : AttrsOf
no_row = record { number = 0; ports = []; accepts = false; rates = []; steps = [] }

module _ (table : List AttrsOf)
    (rises : (k : ℕ) → k + 1 < length table → (one other : AttrsOf) → slice_get table k ≡ Some one → slice_get table (k + 1) ≡ Some other → one.number < other.number) where
  abbrev at : ℕ → ℕ
  at k = (get_or table k no_row).number

  step : (k : ℕ) → k + 1 < length table → at k < at (k + 1)
  step k less = rises k less (get_or table k no_row) (get_or table (k + 1) no_row) (slice_get-get_or table k no_row (omega (arith, less))) (slice_get-get_or table (k + 1) no_row less)

  far : (i j d : ℕ) → j ≡ i + 1 + d → j < length table → at i < at j
  far i j zero is less =
      let e : j ≡ i + 1 = omega (arith, is) in
      subst (λ k. at i < at k) (sym e) (step i (omega (arith, less, e)))
  far i j (suc d) is less =
      let e : j ≡ (i + 1 + d) + 1 = omega (arith, is) in
      let before = far i (i + 1 + d) d refl (omega (arith, less, e)) in
      let next = step (i + 1 + d) (omega (arith, less, e)) in
      subst (λ k. at i < at k) (sym e) (omega (arith, before, next))

  above : (i j : ℕ) → i < j → j < length table → at i < at j
  above i j before less = far i j (j - (i + 1)) (omega (arith, before)) less

  pub rising_once : RowsStandOnce table
  rising_once i j one other here there same = go (cases_lt i j) (cases_lt j i)
    where
      at_here : at i ≡ one.number
      at_here = ap (λ (a : AttrsOf). a.number) (get_or_from_slice_get table i one no_row here)

      at_there : at j ≡ other.number
      at_there = ap (λ (a : AttrsOf). a.number) (get_or_from_slice_get table j other no_row there)

      go : (i < j) ⊎ (j ≤ i) → (j < i) ⊎ (i ≤ j) → i ≡ j
      go (inl before) h = absurd (let a = above i j before (slice_get_within table j other there) in omega (arith, a, at_here, at_there, same))
      go (inr x) (inl after) = absurd (let a = above j i after (slice_get_within table i one here) in omega (arith, a, at_here, at_there, same))
      go (inr x) (inr y) = omega (arith, x, y)

-- one row more
pub rises_more : (table : List AttrsOf) (i : ℕ) → 1 ≤ i
    → ((one other : AttrsOf) → slice_get table (i - 1) ≡ Some one → slice_get table (i - 1 + 1) ≡ Some other → one.number < other.number)
    → ((k : ℕ) → k + 1 < i → (one other : AttrsOf) → slice_get table k ≡ Some one → slice_get table (k + 1) ≡ Some other → one.number < other.number)
    → (k : ℕ) → k + 1 < i + 1 → (one other : AttrsOf) → slice_get table k ≡ Some one → slice_get table (k + 1) ≡ Some other → one.number < other.number
rises_more table i first last before k less one other here there = go (cases_lt (k + 1) i)
  where
    go : (k + 1 < i) ⊎ (i ≤ k + 1) → one.number < other.number
    go (inl inside) = before k inside one other here there
    go (inr past) =
        let e : k ≡ i - 1 = omega (arith, less, past, first) in
        last one other (subst (λ n. slice_get table n ≡ Some one) e here) (subst (λ n. slice_get table (n + 1) ≡ Some other) e there)
