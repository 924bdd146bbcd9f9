use Rattle.std.proofs.Common.{◌≡◌, ◌<◌, List, [], ◌∷◌, ◌++◌, length, rules, ap, sym, ◌∙◌, subst}
use Rattle.std.proofs.lemmas.List.Elements.{All-push}
use Rattle.tdf_trace.proofs.Addings.{adds_signal, columns_more, finds_pushed}
use Rattle.tdf_trace.proofs.tracking.Tracking.track.Goals as goal
use Rattle.tdf_trace.specs.Tracked.{TrackedOf, TrackingOf}
use Rattle.tdf_trace.specs.machine.Finding.{HasNone, HaveColumns}
use Rattle.tdf_trace.specs.machine.Going.{AddsTrace}
use Rattle.tdf_trace.specs.machine.Showing.{AreColumns}

pub invariant_of-self-2 : goal.invariant_of-self-2
invariant_of-self-2 c =
    let at : c.len-place.result ≡ length c.self.inside.list.items = search rules in
    let inside : c.args.row.now.signal < length c.self.inside.places.items = subst (λ (v : TrackingOf). c.args.row.now.signal < v.signals) (sym c.self.view_is) c.requires.signal in
    let low : c.args.column < c.self.inside.width = subst (λ (v : TrackingOf). c.args.column < v.width) (sym c.self.view_is) c.requires.column in
    record {
      finds = finds_pushed c.self.inside.places.items c.self.inside.list.items c.push.new.self.items c.in_ok-tracked.tracked c.args.row.now.signal c.len-place.result
          c.in_ok-tracked.ensures.signal_is at c.in_ok-push.ensures.items inside (subst (λ (v : TrackingOf). HasNone v.list c.args.row.now.signal) (sym c.self.view_is) c.requires.none) c.self.invariant.finds;
      columns = subst (HaveColumns c.self.inside.width) (sym c.in_ok-push.ensures.items)
          (columns_more c.self.inside.width c.self.inside.list.items c.in_ok-tracked.tracked
          (subst (AreColumns c.self.inside.width) (sym c.in_ok-tracked.ensures.columns) (All-push (λ k. k < c.self.inside.width) [] c.args.column (search rules) low))
          c.self.invariant.columns);
    }

pub returns-clause-adds : goal.returns-clause-adds
returns-clause-adds c =
    subst (λ (l : List TrackedOf). AddsTrace c.args.row.now c.args.column c.args.self.now.list l)
    (ap (λ (v : TrackingOf). v.list ++ c.in_ok-tracked.tracked ∷ []) (sym c.self.view_is) ∙ sym c.in_ok-push.ensures.items)
    (adds_signal c.args.row.now c.args.column c.args.self.now.list c.in_ok-tracked.tracked c.requires.samples c.requires.none c.in_ok-tracked.ensures.signal_is c.in_ok-tracked.ensures.columns c.in_ok-tracked.ensures.tracks)
