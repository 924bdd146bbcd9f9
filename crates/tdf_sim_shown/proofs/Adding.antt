-- The columns get the samples that wait, one after the other.
use Rattle.std.proofs.Common.{◌≡◌, ◌∙◌, ◌<◌, ◌≤◌, ◌+◌, ℕ, ℤ, zero, suc, Some, List, [], ◌∷◌, length, slice_get, slice_set, refl, ap, sym, subst, inl, inr, arith}
use Rattle.std.proofs.lemmas.Bool.{cases_eq}
use Rattle.tdf_bind_tables.specs.FlatTables.{FlatTablesOf}
use Rattle.tdf_saved.specs.State.{ColumnStateOf}
use Rattle.tdf_sim_shown.specs.machine.Waiting.{HaveLater, IsLaterFor, driven_at}
use Rattle.tdf_streams.proofs.Api.{some_same}
use Rattle.tdf_trace.specs.Tracked.{TrackedOf}

set_same : {A : Type 0} (xs : List A) (k : ℕ) (x : A) → k < length xs → slice_get (slice_set xs k x) k ≡ Some x
set_same [] k x low = absurd (omega (arith, low))
set_same (y ∷ ys) zero x low = refl
set_same (y ∷ ys) (suc k) x low = set_same ys k x (omega (arith, low))

set_apart : {A : Type 0} (xs : List A) (k j : ℕ) (x : A) → (j ≡ k → ⊥) → slice_get (slice_set xs k x) j ≡ slice_get xs j
set_apart [] k j x apart = refl
set_apart (y ∷ ys) zero zero x apart = absurd (apart refl)
set_apart (y ∷ ys) zero (suc j) x apart = refl
set_apart (y ∷ ys) (suc k) zero x apart = refl
set_apart (y ∷ ys) (suc k) (suc j) x apart = set_apart ys k j x (λ e. apart (ap suc e))

set_long : {A : Type 0} (xs : List A) (k : ℕ) (x : A) → length (slice_set xs k x) ≡ length xs
set_long [] k x = refl
set_long (y ∷ ys) zero x = refl
set_long (y ∷ ys) (suc k) x = ap suc (set_long ys k x)

pub later_more : (tables : FlatTablesOf) (list : List TrackedOf) (k : ℕ) (old mid : List ColumnStateOf) (s : ColumnStateOf) (nums : List ℤ) → slice_get mid k ≡ Some s → k < length mid → HaveLater tables list k old mid
    → IsLaterFor (driven_at tables k) list nums → HaveLater tables list (k + 1) old (slice_set mid k (record s { later = nums }))
later_more tables list k old mid s nums at low h later = record {
  long = set_long mid k (record s { later = nums }) ∙ h.long;
  done = λ j x below there. elim (cases_eq j k) [
    | inl same ↦ record {
      nums = nums;
      later = subst (λ n. IsLaterFor (driven_at tables n) list nums) (sym same) later;
      is = ap (slice_get (slice_set mid k (record s { later = nums }))) same ∙ set_same mid k (record s { later = nums }) low
          ∙ ap (λ (z : ColumnStateOf). Some (record z { later = nums })) (some_same s x (sym (sym (h.rest k (omega arith)) ∙ at) ∙ ap (slice_get old) (sym same) ∙ there));
    }
    | inr apart ↦ (let g = h.done j x (omega (arith, below, apart)) there in record { nums = g.nums; later = g.later; is = set_apart mid k j (record s { later = nums }) apart ∙ g.is })
  ];
  rest = λ j high. set_apart mid k j (record s { later = nums }) (λ e. absurd (omega (arith, high, e))) ∙ h.rest j (omega (arith, high));
}
