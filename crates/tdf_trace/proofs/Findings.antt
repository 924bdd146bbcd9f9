-- Finding what is kept of a signal.
use Rattle.std.proofs.Common.{◌≡◌, ℕ, Option, Some, None, List, slice_get, slice_set, ap, sym, ◌∙◌, subst, inl, inr, arith}
use Rattle.std.proofs.lemmas.Bool.{cases_eq}
use Rattle.std.proofs.lemmas.Option.{slice_get_within}
use Rattle.tdf_trace.proofs.ColumnPlaces.{Here, There, replaced, set_here, set_other, some_same}
use Rattle.tdf_trace.specs.Tracked.{TrackedOf}
use Rattle.tdf_trace.specs.machine.Finding.{Finds, HaveColumns, IsPlaceOf, found}
use Rattle.tdf_trace.specs.machine.Showing.{AreColumns}

pub place_is : (places : List (Option ℕ)) (list : List TrackedOf) (signal : ℕ) (o : Option ℕ) → Finds places list → found places signal ≡ o → IsPlaceOf list signal o
place_is places list signal None finds is = λ place t at same. none_some place (sym is ∙ ap (found places) (sym same) ∙ finds.back place t at)
  where
    none_some : (n : ℕ) → None ≡ Some n → ⊥
    none_some n e = absurd (grind (arith, e))
place_is places list signal (Some place) finds is = finds.there signal place is

pub finds_set : (places : List (Option ℕ)) (list : List TrackedOf) (i : ℕ) (t u : TrackedOf) → slice_get list i ≡ Some t → u.signal ≡ t.signal → Finds places list → Finds places (slice_set list i u)
finds_set places list i t u at same finds = record {
  there = λ signal place is. (let w = finds.there signal place is in elim (cases_eq place i) [
    | inl here ↦ (let e : w.it ≡ t = some_same w.it t (sym w.there ∙ ap (slice_get list) here ∙ at) in record {
      it = u;
      there = ap (slice_get (slice_set list i u)) here ∙ set_here list i u (slice_get_within list i t at);
      same = same ∙ sym (ap (λ (v : TrackedOf). v.signal) e) ∙ w.same;
    })
    | inr apart ↦ record { it = w.it; there = set_other list i place u apart ∙ w.there; same = w.same }
  ]);
  back = λ place w aw. elim (replaced list i u t place w at aw) [
    | Here here is ↦ ap (λ (v : TrackedOf). found places v.signal) is ∙ ap (found places) same ∙ finds.back i t at ∙ ap Some (sym here)
    | There apart old ↦ finds.back place w old
  ];
}

pub columns_set : (width : ℕ) (list : List TrackedOf) (i : ℕ) (t u : TrackedOf) → slice_get list i ≡ Some t → AreColumns width u.columns → HaveColumns width list → HaveColumns width (slice_set list i u)
columns_set width list i t u at new have place w aw = elim (replaced list i u t place w at aw) [
  | Here here is ↦ subst (λ (v : TrackedOf). AreColumns width v.columns) (sym is) new
  | There apart old ↦ have place w old
]
