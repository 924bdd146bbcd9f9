use Rattle.std.proofs.Common.{Some, slice_index_or, subst}
use Rattle.std.proofs.lemmas.Option.{slice_get-get_or}
use Rattle.tdf_sim_traces.specs.Periods.{clock_of}
use Rattle.tdf_sim_traces.specs.Signals.{IsTracedAt}
use Rattle.tdf_sim_shown.proofs.Telling.{no_window, one_window}
use Rattle.tdf_sim_shown.proofs.windows.window_at.Goals as goal

pub window_of-requires-clause-can : goal.window_of-requires-clause-can
window_of-requires-clause-can c =
    let t = c.in-Some.traced in
    let traced : IsTracedAt c.args.flat.now c.args.column (Some c.in-Some.traced) = subst (λ o. IsTracedAt c.args.flat.now c.args.column o) c.in-Some.is c.traced_at.ensures in
    c.requires.can.can.can t (slice_index_or c.args.clock.now.clusters.now t.cluster c.index-clock-place.result) traced.listed
    (slice_get-get_or c.args.clock.now.clusters.now t.cluster c.index-clock-place.result (c.requires.can.can.clusters t traced.listed))

pub window_of-requires-clause-few : goal.window_of-requires-clause-few
window_of-requires-clause-few c =
    let t = c.in-Some.traced in
    let traced : IsTracedAt c.args.flat.now c.args.column (Some c.in-Some.traced) = subst (λ o. IsTracedAt c.args.flat.now c.args.column o) c.in-Some.is c.traced_at.ensures in
    c.requires.can.few t (slice_index_or c.args.clock.now.clusters.now t.cluster c.index-clock-place.result) traced.listed
    (slice_get-get_or c.args.clock.now.clusters.now t.cluster c.index-clock-place.result (c.requires.can.can.clusters t traced.listed))

pub window_of-requires-clause-place : goal.window_of-requires-clause-place
window_of-requires-clause-place c =
    let t = c.in-Some.traced in
    let traced : IsTracedAt c.args.flat.now c.args.column (Some c.in-Some.traced) = subst (λ o. IsTracedAt c.args.flat.now c.args.column o) c.in-Some.is c.traced_at.ensures in
    c.requires.can.places t.cluster (slice_index_or c.args.clock.now.since.now t.cluster 0) (slice_index_or c.args.clock.now.clusters.now t.cluster c.index-clock-place.result)
    (slice_get-get_or c.args.clock.now.since.now t.cluster 0 (c.requires.can.can.since t traced.listed))
    (slice_get-get_or c.args.clock.now.clusters.now t.cluster c.index-clock-place.result (c.requires.can.can.clusters t traced.listed))

pub returns-in-None-clause-is : goal.returns-in-None-clause-is
returns-in-None-clause-is c = no_window c.args.flat.now (clock_of c.args.clock.now) c.args.column (subst (λ o. IsTracedAt c.args.flat.now c.args.column o) c.in-None.is c.traced_at.ensures)

pub returns-in-Some-clause-is : goal.returns-in-Some-clause-is
returns-in-Some-clause-is c =
    let t = c.in-Some.traced in
    let traced : IsTracedAt c.args.flat.now c.args.column (Some c.in-Some.traced) = subst (λ o. IsTracedAt c.args.flat.now c.args.column o) c.in-Some.is c.traced_at.ensures in
    one_window c.args.flat.now (clock_of c.args.clock.now) c.args.column t (slice_index_or c.args.clock.now.since.now t.cluster 0) (slice_index_or c.args.clock.now.clusters.now t.cluster c.index-clock-place.result)
    c.window_of.result traced
    (slice_get-get_or c.args.clock.now.since.now t.cluster 0 (c.requires.can.can.since t traced.listed))
    (slice_get-get_or c.args.clock.now.clusters.now t.cluster c.index-clock-place.result (c.requires.can.can.clusters t traced.listed))
    c.window_of.ensures.is
