use Rattle.std.proofs.Common.{◌≡◌, ◌<◌, length, Some, [], ◌∷◌, slice_get, slice_set, refl, rules, ap, sym, ◌∙◌, subst}
use Rattle.std.proofs.lemmas.Option.{slice_get_read, slice_get_within}
use Rattle.std.proofs.lemmas.Result.{IfOk-weaker}
use Rattle.tdf_trace.proofs.Findings.{columns_set, finds_set}
use Rattle.tdf_trace.proofs.Manies.{label_of, sample_passed, later_self, later_set, sample_taken, since_set}
use Rattle.tdf_trace.proofs.ColumnPlaces.{set_map, some_same}
use Rattle.tdf_trace.proofs.tracking.Tracking.give_one.Goals as goal
use Rattle.tdf_trace.specs.Calls.{TakesSamples}
use Rattle.tdf_trace.specs.Tracked.{AreLater, AreSince, TrackedOf, TrackingOf, label, labels, sinces}
use Rattle.tdf_trace.specs.machine.Finding.{StandsAt}
use Rattle.tdf_trace.specs.machine.Showing.{AreColumns}

pub invariant_of-self : goal.invariant_of-self
invariant_of-self c =
    let w : StandsAt c.self.inside.list.items c.args.sample.signal c.in-Some.place =
    subst (λ (v : TrackingOf). StandsAt v.list c.args.sample.signal c.in-Some.place) (sym c.self.view_is) c.in-Some.ensures in
    let less : c.in-Some.place < length c.self.inside.list.items = slice_get_within c.self.inside.list.items c.in-Some.place w.it w.there in
    let here : slice_get c.self.inside.list.items c.in-Some.place ≡ Some c.index_mut.result.now = slice_get_read c.self.inside.list.items (length c.self.inside.list.items) c.in-Some.place c.index_mut.result.now refl less (search rules) in
    let l = label_of c.index_mut.result.now c.give.new.self c.give.ensures.label in
    record {
      finds = finds_set c.self.inside.places.items c.self.inside.list.items c.in-Some.place c.index_mut.result.now c.give.new.self here l.0 c.self.invariant.finds;
      columns = columns_set c.self.inside.width c.self.inside.list.items c.in-Some.place c.index_mut.result.now c.give.new.self here
          (subst (AreColumns c.self.inside.width) (sym l.1) (c.self.invariant.columns c.in-Some.place c.index_mut.result.now here)) c.self.invariant.columns;
    }

pub returns-in-None-clause-took : goal.returns-in-None-clause-took
returns-in-None-clause-took c = sample_passed c.args.sample c.args.self.now.list c.args.trace.now.rows c.in-None.ensures

pub returns-in-Some-clause-took : goal.returns-in-Some-clause-took
returns-in-Some-clause-took c =
    let w : StandsAt c.self.inside.list.items c.args.sample.signal c.in-Some.place =
    subst (λ (v : TrackingOf). StandsAt v.list c.args.sample.signal c.in-Some.place) (sym c.self.view_is) c.in-Some.ensures in
    let less : c.in-Some.place < length c.self.inside.list.items = slice_get_within c.self.inside.list.items c.in-Some.place w.it w.there in
    let here : slice_get c.self.inside.list.items c.in-Some.place ≡ Some c.index_mut.result.now = slice_get_read c.self.inside.list.items (length c.self.inside.list.items) c.in-Some.place c.index_mut.result.now refl less (search rules) in
    let e : c.index_mut.result.now ≡ w.it = some_same c.index_mut.result.now w.it (sym here ∙ w.there) in
    IfOk-weaker c.give.result _ _
    (λ u took. subst (λ (v : TrackingOf). TakesSamples (c.args.sample ∷ []) v.list (slice_set c.self.inside.list.items c.in-Some.place c.give.new.self) c.args.trace.now.rows c.give.new.trace.rows) c.self.view_is
    (sample_taken c.args.sample c.self.inside.list.items c.in-Some.place c.index_mut.result.now c.give.new.self c.args.trace.now.rows c.give.new.trace.rows here
    (ap (λ (v : TrackedOf). v.signal) e ∙ w.same) c.give.ensures.label took))
    c.give.ensures.took

pub returns-in-Some-clause-labels : goal.returns-in-Some-clause-labels
returns-in-Some-clause-labels c =
    let w : StandsAt c.self.inside.list.items c.args.sample.signal c.in-Some.place =
    subst (λ (v : TrackingOf). StandsAt v.list c.args.sample.signal c.in-Some.place) (sym c.self.view_is) c.in-Some.ensures in
    let less : c.in-Some.place < length c.self.inside.list.items = slice_get_within c.self.inside.list.items c.in-Some.place w.it w.there in
    let here : slice_get c.self.inside.list.items c.in-Some.place ≡ Some c.index_mut.result.now = slice_get_read c.self.inside.list.items (length c.self.inside.list.items) c.in-Some.place c.index_mut.result.now refl less (search rules) in
    set_map label c.self.inside.list.items c.in-Some.place c.give.new.self c.index_mut.result.now here c.give.ensures.label ∙ ap (λ (v : TrackingOf). labels v.list) c.self.view_is

pub returns-in-Some-clause-sinces : goal.returns-in-Some-clause-sinces
returns-in-Some-clause-sinces c =
    let w : StandsAt c.self.inside.list.items c.args.sample.signal c.in-Some.place =
    subst (λ (v : TrackingOf). StandsAt v.list c.args.sample.signal c.in-Some.place) (sym c.self.view_is) c.in-Some.ensures in
    let less : c.in-Some.place < length c.self.inside.list.items = slice_get_within c.self.inside.list.items c.in-Some.place w.it w.there in
    let here : slice_get c.self.inside.list.items c.in-Some.place ≡ Some c.index_mut.result.now = slice_get_read c.self.inside.list.items (length c.self.inside.list.items) c.in-Some.place c.index_mut.result.now refl less (search rules) in
    set_map (λ (v : TrackedOf). v.since) c.self.inside.list.items c.in-Some.place c.give.new.self c.index_mut.result.now here c.give.ensures.since ∙ ap (λ (v : TrackingOf). sinces v.list) c.self.view_is

pub returns-in-Some-clause-since : goal.returns-in-Some-clause-since
returns-in-Some-clause-since c =
    let w : StandsAt c.self.inside.list.items c.args.sample.signal c.in-Some.place =
    subst (λ (v : TrackingOf). StandsAt v.list c.args.sample.signal c.in-Some.place) (sym c.self.view_is) c.in-Some.ensures in
    let less : c.in-Some.place < length c.self.inside.list.items = slice_get_within c.self.inside.list.items c.in-Some.place w.it w.there in
    let here : slice_get c.self.inside.list.items c.in-Some.place ≡ Some c.index_mut.result.now = slice_get_read c.self.inside.list.items (length c.self.inside.list.items) c.in-Some.place c.index_mut.result.now refl less (search rules) in
    since_set c.args.trace.now.rows.upto c.self.inside.list.items c.in-Some.place c.index_mut.result.now c.give.new.self here c.give.ensures.time c.give.ensures.left
    (subst (λ (v : TrackingOf). AreSince c.args.trace.now.rows.upto v.list) (sym c.self.view_is) c.requires.since)

pub returns-in-None-clause-later : goal.returns-in-None-clause-later
returns-in-None-clause-later c = later_self c.args.self.now.list

pub returns-in-Some-clause-later : goal.returns-in-Some-clause-later
returns-in-Some-clause-later c =
    let w : StandsAt c.self.inside.list.items c.args.sample.signal c.in-Some.place =
    subst (λ (v : TrackingOf). StandsAt v.list c.args.sample.signal c.in-Some.place) (sym c.self.view_is) c.in-Some.ensures in
    let less : c.in-Some.place < length c.self.inside.list.items = slice_get_within c.self.inside.list.items c.in-Some.place w.it w.there in
    let here : slice_get c.self.inside.list.items c.in-Some.place ≡ Some c.index_mut.result.now = slice_get_read c.self.inside.list.items (length c.self.inside.list.items) c.in-Some.place c.index_mut.result.now refl less (search rules) in
    subst (λ (v : TrackingOf). AreLater v.list (slice_set c.self.inside.list.items c.in-Some.place c.give.new.self)) c.self.view_is
    (later_set c.self.inside.list.items c.in-Some.place c.index_mut.result.now c.give.new.self here c.give.ensures.time c.give.ensures.left)
