use Rattle.std.proofs.Common.{◌≡◌, ◌<◌, length, Some, slice_get, slice_set, refl, rules, ap, sym, ◌∙◌, subst}
use Rattle.std.proofs.lemmas.Option.{slice_get_read, slice_get_within}
use Rattle.std.proofs.lemmas.Result.{IfOk-weaker}
use Rattle.tdf_trace.proofs.Findings.{columns_set, finds_set}
use Rattle.tdf_trace.proofs.Manies.{has_started, label_of, period_passed, period_taken}
use Rattle.tdf_trace.proofs.ColumnPlaces.{some_same}
use Rattle.tdf_trace.proofs.tracking.Tracking.begin.Goals as goal
use Rattle.tdf_trace.specs.Calls.{HasStarted, TakesPeriod}
use Rattle.tdf_trace.specs.Tracked.{TrackedOf, TrackingOf}
use Rattle.tdf_trace.specs.machine.Finding.{StandsAt}
use Rattle.tdf_trace.specs.machine.Showing.{AreColumns}
use Rattle.tdf_trace_rows.specs.Positions.{span_of}

pub invariant_of-self : goal.invariant_of-self
invariant_of-self c =
    let w : StandsAt c.self.inside.list.items c.args.signal c.in-Some.place =
    subst (λ (v : TrackingOf). StandsAt v.list c.args.signal c.in-Some.place) (sym c.self.view_is) c.in-Some.ensures in
    let less : c.in-Some.place < length c.self.inside.list.items = slice_get_within c.self.inside.list.items c.in-Some.place w.it w.there in
    let here : slice_get c.self.inside.list.items c.in-Some.place ≡ Some c.index_mut.result.now = slice_get_read c.self.inside.list.items (length c.self.inside.list.items) c.in-Some.place c.index_mut.result.now refl less (search rules) in
    let l = label_of c.index_mut.result.now c.begin.new.self c.begin.ensures.label in
    record {
      finds = finds_set c.self.inside.places.items c.self.inside.list.items c.in-Some.place c.index_mut.result.now c.begin.new.self here l.0 c.self.invariant.finds;
      columns = columns_set c.self.inside.width c.self.inside.list.items c.in-Some.place c.index_mut.result.now c.begin.new.self here
          (subst (AreColumns c.self.inside.width) (sym l.1) (c.self.invariant.columns c.in-Some.place c.index_mut.result.now here)) c.self.invariant.columns;
    }

pub returns-in-None-clause-took : goal.returns-in-None-clause-took
returns-in-None-clause-took c = period_passed c.args.signal (span_of c.args.start c.args.step c.args.count) c.args.self.now.list c.args.trace.now.rows c.in-None.ensures

pub returns-in-Some-clause-took : goal.returns-in-Some-clause-took
returns-in-Some-clause-took c =
    let w : StandsAt c.self.inside.list.items c.args.signal c.in-Some.place =
    subst (λ (v : TrackingOf). StandsAt v.list c.args.signal c.in-Some.place) (sym c.self.view_is) c.in-Some.ensures in
    let less : c.in-Some.place < length c.self.inside.list.items = slice_get_within c.self.inside.list.items c.in-Some.place w.it w.there in
    let here : slice_get c.self.inside.list.items c.in-Some.place ≡ Some c.index_mut.result.now = slice_get_read c.self.inside.list.items (length c.self.inside.list.items) c.in-Some.place c.index_mut.result.now refl less (search rules) in
    let e : c.index_mut.result.now ≡ w.it = some_same c.index_mut.result.now w.it (sym here ∙ w.there) in
    IfOk-weaker c.begin.result _ _
    (λ u took. subst (λ (v : TrackingOf). TakesPeriod c.args.signal (span_of c.args.start c.args.step c.args.count) v.list (slice_set c.self.inside.list.items c.in-Some.place c.begin.new.self) c.args.trace.now.rows c.begin.new.trace.rows) c.self.view_is
    (period_taken c.args.signal (span_of c.args.start c.args.step c.args.count) c.self.inside.list.items c.in-Some.place c.index_mut.result.now c.begin.new.self c.args.trace.now.rows c.begin.new.trace.rows here
    (ap (λ (v : TrackedOf). v.signal) e ∙ w.same) c.begin.ensures.label took))
    c.begin.ensures.took

pub returns-in-Some-clause-started : goal.returns-in-Some-clause-started
returns-in-Some-clause-started c =
    let w : StandsAt c.self.inside.list.items c.args.signal c.in-Some.place =
    subst (λ (v : TrackingOf). StandsAt v.list c.args.signal c.in-Some.place) (sym c.self.view_is) c.in-Some.ensures in
    let less : c.in-Some.place < length c.self.inside.list.items = slice_get_within c.self.inside.list.items c.in-Some.place w.it w.there in
    let here : slice_get c.self.inside.list.items c.in-Some.place ≡ Some c.index_mut.result.now = slice_get_read c.self.inside.list.items (length c.self.inside.list.items) c.in-Some.place c.index_mut.result.now refl less (search rules) in
    let e : c.index_mut.result.now ≡ w.it = some_same c.index_mut.result.now w.it (sym here ∙ w.there) in
    subst (λ (v : TrackingOf). HasStarted c.args.signal c.args.start v.list (slice_set c.self.inside.list.items c.in-Some.place c.begin.new.self)) c.self.view_is
    (has_started c.args.signal c.args.start c.self.inside.places.items c.self.inside.list.items c.in-Some.place c.index_mut.result.now c.begin.new.self c.self.invariant.finds here
    (ap (λ (v : TrackedOf). v.signal) e ∙ w.same) c.begin.ensures.label c.begin.ensures.since c.begin.ensures.time)
