-- Whether the parts of a state are such as the text and a plan have them.
use Rattle.std.proofs.Common.{◌≡◌, ◌∙◌, ◌<◌, ◌≤◌, ◌+◌, ℕ, ℤ, List, Option, Some, None, length, map, slice_get, refl, sym, ap, subst, inl, inr, arith}
use Rattle.std.proofs.lemmas.List.{length-map}
use Rattle.std.proofs.lemmas.Bool.{cases_lt}
use Rattle.std.proofs.lemmas.Option.{get_or_from_slice_get, slice_get-get_or, slice_get-map, slice_get_within, same_Some}
use Rattle.std.specs.Option.{option_map}
use Rattle.std.specs.Prelude.{All, slice_index, slice_index_or}
use Rattle.tdf_bind.specs.declared.model.Flat.{Flat}
use Rattle.tdf_dynamic_plans.specs.Attributes.{AttrsOf}
use Rattle.tdf_exec_parts.specs.States.{AreInFormat, AreStatesOfRows, IsStateOfRow}
use Rattle.tdf_expr.specs.Frames.{limits_of_rate}
use Rattle.tdf_expr.specs.declared.spans.RateSpan.{RateSpan}
use Rattle.tdf_base.specs.Limits.{time_end}
use Rattle.tdf_bind_connections.specs.declared.modules.ModuleRow.{ModuleRow}
use Rattle.tdf_exec_layout.specs.Below.{block_of_row, limits_in}
use Rattle.tdf_expr.specs.Made.{CellsFit, rate_spans_of}
use Rattle.tdf_expr_semantics.specs.Fits.{RatesFit}
use Rattle.tdf_fixed.specs.Overflow.{IsOfWidth}
use Rattle.tdf_fixed.specs.declared.format.Format.{Format}
use Rattle.tdf_expr_semantics.specs.Places.{RateLimits}
use Rattle.tdf_saved.specs.State.{ModuleStateOf}

-- the first n rates are within their limits
abbrev pub IsWithin : RateSpan → ℕ → Type 0
IsWithin r rate = (r.least ≤ rate) × (rate ≤ r.greatest)

abbrev pub AreWithin : List RateSpan → List ℕ → ℕ → Type 0
AreWithin spans rates n = (j : ℕ) (r : RateSpan) → j < n → slice_get spans j ≡ Some r → IsWithin r (slice_index rates j)

pub within_more : (spans : List RateSpan) (rates : List ℕ) (n : ℕ) (r : RateSpan) → slice_get spans n ≡ Some r → AreWithin spans rates n → IsWithin r (slice_index rates n)
    → AreWithin spans rates (n + 1)
within_more spans rates n r at before one j q less here = elim (cases_lt j n) [
  | inl below ↦ before j q below here
  | inr past ↦ (let same : n ≡ j = omega (arith, less, past) in
      subst (λ k. IsWithin q (slice_index rates k)) same
      (subst (λ x. IsWithin x (slice_index rates n)) (same_Some r q (sym (subst (λ k. slice_get spans k ≡ Some r) same at) ∙ here)) one))
]

pub within_all : (spans : List RateSpan) (rates : List ℕ) → length rates ≡ length spans → AreWithin spans rates (length spans) → RatesFit (map limits_of_rate spans) rates
within_all spans rates long all = record {
  long = long ∙ sym (length-map spans limits_of_rate);
  each = λ j l at. by j l (slice_get spans j) refl (sym (slice_get-map limits_of_rate spans j) ∙ at);
}
  where
    by : (j : ℕ) (l : RateLimits) (o : Option RateSpan) → slice_get spans j ≡ o → option_map limits_of_rate o ≡ Some l → (l.least ≤ slice_index rates j) × (slice_index rates j ≤ l.greatest)
    by j l None is same = absurd cc
    by j l (Some r) is same = subst (λ (x : RateLimits). (x.least ≤ slice_index rates j) × (slice_index rates j ≤ x.greatest)) (same_Some (limits_of_rate r) l same)
        (all j r (slice_get_within spans j r is) is)

pub within_one : (spans : List RateSpan) (rates : List ℕ) → RatesFit (map limits_of_rate spans) rates → (j : ℕ) (r : RateSpan) → slice_get spans j ≡ Some r → IsWithin r (slice_index rates j)
within_one spans rates fit j r at = fit.each j (limits_of_rate r) (slice_get-map limits_of_rate spans j ∙ ap (option_map limits_of_rate) at)

-- the first n numbers pass
abbrev pub PassBelow : {X : Type 0} → (X → Type 0) → List X → ℕ → Type 0
PassBelow {X = X} P xs n = (j : ℕ) (x : X) → j < n → slice_get xs j ≡ Some x → P x

pub pass_more : {X : Type 0} (P : X → Type 0) (xs : List X) (n : ℕ) (x : X) → slice_get xs n ≡ Some x → PassBelow P xs n → P x → PassBelow P xs (n + 1)
pass_more P xs n x at before one j y less here = elim (cases_lt j n) [
  | inl below ↦ before j y below here
  | inr past ↦ (let same : n ≡ j = omega (arith, less, past) in subst P (same_Some x y (sym (subst (λ k. slice_get xs k ≡ Some x) same at) ∙ here)) one)
]

-- the states of the first n rows are theirs
abbrev pub AreStatesBelow : Flat → List AttrsOf → List ModuleStateOf → ℕ → Type 0
AreStatesBelow flat table modules n = (i : ℕ) (attrs : AttrsOf) (m : ModuleStateOf) → i < n → slice_get table i ≡ Some attrs → slice_get modules i ≡ Some m → IsStateOfRow flat attrs m

pub states_more : (flat : Flat) (table : List AttrsOf) (modules : List ModuleStateOf) (n : ℕ) (attrs : AttrsOf) (m : ModuleStateOf) → slice_get table n ≡ Some attrs → slice_get modules n ≡ Some m
    → AreStatesBelow flat table modules n → IsStateOfRow flat attrs m → AreStatesBelow flat table modules (n + 1)
states_more flat table modules n attrs m at there before one i a x less here has = elim (cases_lt i n) [
  | inl below ↦ before i a x below here has
  | inr past ↦ (let same : n ≡ i = omega (arith, less, past) in
      subst (λ (q : AttrsOf). IsStateOfRow flat q x) (same_Some attrs a (sym (subst (λ k. slice_get table k ≡ Some attrs) same at) ∙ here))
      (subst (IsStateOfRow flat attrs) (same_Some m x (sym (subst (λ k. slice_get modules k ≡ Some m) same there) ∙ has)) one))
]

pub states_all : (flat : Flat) (table : List AttrsOf) (modules : List ModuleStateOf) → length modules ≡ length table → AreStatesBelow flat table modules (length table) → AreStatesOfRows flat table modules
states_all flat table modules long all = record { long = long; each = λ i attrs m at there. all i attrs m (slice_get_within table i attrs at) at there }

pub pass_all : {X : Type 0} (P : X → Type 0) (xs : List X) (n : ℕ) → length xs ≡ n → PassBelow P xs n → All P xs
pass_all P xs n all pass k d inside = pass k (slice_index_or xs k d) (omega (arith, all, inside)) (slice_get-get_or xs k d inside)

pub pass_one : {X : Type 0} (P : X → Type 0) (xs : List X) (k : ℕ) (x : X) → slice_get xs k ≡ Some x → All P xs → P x
pass_one P xs k x at all = subst P (get_or_from_slice_get xs k x x at) (all k x (slice_get_within xs k x at))

-- what a state of a row is, where the row of its module is known
module _ (flat : Flat) (attrs : AttrsOf) (m : ModuleStateOf) (row : ModuleRow) (at : slice_get flat.tables.modules attrs.number ≡ Some row) where
  pub is_of_row : RatesFit (map limits_of_rate (rate_spans_of flat.checked row.block)) m.rates → ((length m.steps ≡ length attrs.steps) × All (λ step. step < time_end) m.steps)
      → CellsFit flat.checked row.block m.cells → IsStateOfRow flat attrs m
  is_of_row rates steps cells = record {
    rates = subst (λ o. RatesFit (limits_in flat.checked o) m.rates) (sym at) rates;
    long = steps.0;
    short = steps.1;
    cells = subst (λ o. CellsFit flat.checked (block_of_row o) m.cells) (sym at) cells;
  }

  pub row_rates : IsStateOfRow flat attrs m → RatesFit (map limits_of_rate (rate_spans_of flat.checked row.block)) m.rates
  row_rates is = subst (λ o. RatesFit (limits_in flat.checked o) m.rates) at is.rates

  pub row_cells : IsStateOfRow flat attrs m → CellsFit flat.checked row.block m.cells
  row_cells is = subst (λ o. CellsFit flat.checked (block_of_row o) m.cells) at is.cells

-- numbers of a format that there is
pub in_format : (format : Format) (nums : List ℤ) → All (IsOfWidth format.signed format.wl) nums → AreInFormat (Some format) nums
in_format format nums all f same = subst (λ (x : Format). All (IsOfWidth x.signed x.wl) nums) (same_Some format f same) all
