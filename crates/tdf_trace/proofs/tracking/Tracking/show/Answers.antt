use Rattle.std.proofs.Common.{◌≡◌, ◌<◌, length, Some, slice_get, slice_set, refl, rules, ap, sym, ◌∙◌, subst}
use Rattle.std.proofs.lemmas.Option.{slice_get_read, slice_get_within}
use Rattle.std.proofs.lemmas.Result.{IfOk-weaker}
use Rattle.tdf_trace.proofs.Addings.{adds_column}
use Rattle.tdf_trace.proofs.Findings.{columns_set, finds_set}
use Rattle.tdf_trace.proofs.ColumnPlaces.{some_same}
use Rattle.tdf_trace.proofs.tracking.Tracking.show.Goals as goal
use Rattle.tdf_trace.specs.Tracked.{TrackedOf, TrackingOf}
use Rattle.tdf_trace.specs.machine.Finding.{StandsAt}
use Rattle.tdf_trace.specs.machine.Going.{AddsTrace}

pub invariant_of-self : goal.invariant_of-self
invariant_of-self c =
    let w : StandsAt c.self.inside.list.items c.args.row.now.signal c.in-Some.place =
    subst (λ (v : TrackingOf). StandsAt v.list c.args.row.now.signal c.in-Some.place) (sym c.self.view_is) c.in-Some.ensures in
    let less : c.in-Some.place < length c.self.inside.list.items = slice_get_within c.self.inside.list.items c.in-Some.place w.it w.there in
    let here : slice_get c.self.inside.list.items c.in-Some.place ≡ Some c.index_mut.result.now = slice_get_read c.self.inside.list.items (length c.self.inside.list.items) c.in-Some.place c.index_mut.result.now refl less (search rules) in
    let low : c.args.column < c.self.inside.width = subst (λ (v : TrackingOf). c.args.column < v.width) (sym c.self.view_is) c.requires.column in
    record {
      finds = finds_set c.self.inside.places.items c.self.inside.list.items c.in-Some.place c.index_mut.result.now c.show_in.new.self here c.show_in.ensures.signal c.self.invariant.finds;
      columns = columns_set c.self.inside.width c.self.inside.list.items c.in-Some.place c.index_mut.result.now c.show_in.new.self here
          (c.show_in.ensures.within c.self.inside.width low (c.self.invariant.columns c.in-Some.place c.index_mut.result.now here)) c.self.invariant.columns;
    }

pub returns-in-Some-clause-adds : goal.returns-in-Some-clause-adds
returns-in-Some-clause-adds c =
    let w : StandsAt c.self.inside.list.items c.args.row.now.signal c.in-Some.place =
    subst (λ (v : TrackingOf). StandsAt v.list c.args.row.now.signal c.in-Some.place) (sym c.self.view_is) c.in-Some.ensures in
    let less : c.in-Some.place < length c.self.inside.list.items = slice_get_within c.self.inside.list.items c.in-Some.place w.it w.there in
    let here : slice_get c.self.inside.list.items c.in-Some.place ≡ Some c.index_mut.result.now = slice_get_read c.self.inside.list.items (length c.self.inside.list.items) c.in-Some.place c.index_mut.result.now refl less (search rules) in
    let e : c.index_mut.result.now ≡ w.it = some_same c.index_mut.result.now w.it (sym here ∙ w.there) in
    IfOk-weaker c.show_in.result _ _
    (λ u ok. subst (λ (v : TrackingOf). AddsTrace c.args.row.now c.args.column v.list (slice_set c.self.inside.list.items c.in-Some.place c.show_in.new.self)) c.self.view_is
    (adds_column c.args.row.now c.args.column c.self.inside.list.items c.in-Some.place c.index_mut.result.now c.show_in.new.self c.requires.samples here
    (ap (λ (v : TrackedOf). v.signal) e ∙ w.same) c.show_in.ensures.signal
    (ap (λ (v : TrackedOf). v.columns) ok) (ap (λ (v : TrackedOf). v.stamps) ok) (ap (λ (v : TrackedOf). v.waiting) ok)))
    c.show_in.ensures.ok
