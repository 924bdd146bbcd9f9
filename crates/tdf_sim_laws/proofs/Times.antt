-- The time of a position, by the spans of the periods and by the periods themselves.
use Rattle.std.proofs.Common.{◌≡◌, ◌∙◌, ℕ, ◌+◌, ◌-◌, ◌*◌, List, [], ◌∷◌, ◌++◌, Some, option_map, refl, ap, sym, subst, inl, inr, arith}
use Rattle.std.proofs.lemmas.Bool.{cases_lt, le-ltb, lt-ltb}
use Rattle.std.proofs.lemmas.List.Elements.{All-head, All-tail}
use Rattle.std.proofs.lemmas.List.Sums.{sum_by_push}
use Rattle.std.specs.Prelude.{All}
use Rattle.tdf_bind.specs.declared.model.Flat.{Flat}
use Rattle.tdf_bind_connections.specs.declared.modules.PortRow.{PortRow}
use Rattle.tdf_bind_invariants.specs.Limits.{AreWithinLimits}
use Rattle.tdf_sim_history.specs.Cells.{spans_from}
use Rattle.tdf_sim_laws.specs.Laws.{TimesAreOne}
use Rattle.tdf_streams.proofs.Api.{steps_whole}
use Rattle.tdf_streams.specs.Laws.{IsClusterPort}
use Rattle.tdf_streams.specs.Periods.{IsTimedRecord, PeriodRecord}
use Rattle.tdf_streams.specs.Signals.{position_time, positions, step_in, time_at_spot, time_of_periods}
use Rattle.tdf_streams.specs.Streams.{find}
use Rattle.tdf_trace_rows.proofs.Api.{position_is, time_is}
use Rattle.tdf_trace_rows.specs.Positions.{AreChained, position_at, time_in_spans as span_time}

-- with the periods before, which took the time at which the spans begin
spot_time : (port : PortRow) (before ps : List PeriodRecord) (time j : ℕ) → time ≡ time_of_periods before
    → span_time (spans_from port time ps) j ≡ option_map (time_at_spot port) (find (positions port) before ps j)
unfolding span_time find
spot_time port before [] time j same = refl
spot_time port before (p ∷ ps) time j same = elim (cases_lt j (positions port p)) [
  | inl here ↦ rw (lt-ltb j (positions port p) here) (ap (λ t. Some (t + j * step_in port p)) same)
  | inr past ↦ rw (le-ltb j (positions port p) past) (spot_time port (before ++ p ∷ []) ps (time + p.info.period) (j - positions port p)
      (ap (λ t. t + p.info.period) same ∙ sym (sum_by_push (λ (q : PeriodRecord). q.info.period) before p)))
]

times_same : (port : PortRow) (periods : List PeriodRecord) (j : ℕ) → span_time (spans_from port 0 periods) j ≡ position_time periods port j
unfolding position_time
times_same port periods j = spot_time port [] periods 0 j refl

module _ (flat : Flat) (cluster number : ℕ) (port : PortRow) (limits : AreWithinLimits flat) (of : IsClusterPort flat cluster number port) where
  chained : (time : ℕ) (ps : List PeriodRecord) → All (IsTimedRecord flat cluster) ps → AreChained time (spans_from port time ps)
  unfolding AreChained
  chained time [] all = tt
  chained time (p ∷ ps) all =
      let s = steps_whole flat cluster number port p limits of (All-head (IsTimedRecord flat cluster) p ps all) in
      (refl, s.0, subst (λ e. AreChained e (spans_from port (time + p.info.period) ps)) (ap (λ k. time + k) (sym s.1)) (chained (time + p.info.period) ps (All-tail (IsTimedRecord flat cluster) p ps all)))

pub times_are_one : TimesAreOne
times_are_one flat cluster number port periods time position limits of all = (to, back)
  where
    chain : AreChained 0 (spans_from port 0 periods)
    chain = chained flat cluster number port limits of 0 periods all

    to : position_at 0 (spans_from port 0 periods) time ≡ Some position → position_time periods port position ≡ Some time
    to at =
        let f = position_is 0 0 (spans_from port 0 periods) position time chain at in
        let same : f.0 ≡ position = (let e = f.1 in omega (arith, e)) in
        sym (times_same port periods position) ∙ subst (λ k. span_time (spans_from port 0 periods) k ≡ Some time) same f.2

    back : position_time periods port position ≡ Some time → position_at 0 (spans_from port 0 periods) time ≡ Some position
    back is =
        let same : 0 + position ≡ position = omega arith in
        (time_is 0 0 (spans_from port 0 periods) position time chain (times_same port periods position ∙ is)).1 ∙ ap (λ k. Some k) same
