use Rattle.std.proofs.Common.{◌≡◌, ◌≤◌, length, Some, slice_get, refl, rules, ap, sym, ◌∙◌, subst}
use Rattle.std.proofs.lemmas.Option.{slice_get_read}
use Rattle.tdf_trace.proofs.Manies.{all_noted, more_noted, none_noted}
use Rattle.tdf_trace.proofs.tracking.Tracking.close.Goals as goal
use Rattle.tdf_trace.specs.Tracked.{TrackingOf}

pub loop-i-init : goal.loop-i-init
loop-i-init c = record { notes = none_noted c.args.end c.args.self.now.list c.args.trace.now.rows; upto = refl; stage = refl; about = refl }

pub loop-i-preserved : goal.loop-i-preserved
loop-i-preserved c =
    let here : slice_get c.self.inside.list.items c.loop-i.i ≡ Some c.index.result.now = slice_get_read c.self.inside.list.items (length c.self.inside.list.items) c.loop-i.i c.index.result.now refl (search rules) (search rules) in
    record {
      notes = more_noted c.loop-i.i c.args.end c.args.self.now.list c.index.result.now c.args.trace.now.rows c.loop-i.trace.rows c.close.new.trace.rows
          (ap (λ (v : TrackingOf). slice_get v.list c.loop-i.i) (sym c.self.view_is) ∙ here) c.in_ok-close.ensures.noted c.loop-i.invariant.notes;
      upto = c.close.ensures.upto ∙ c.loop-i.invariant.upto;
      stage = c.close.ensures.stage ∙ c.loop-i.invariant.stage;
      about = c.close.ensures.about ∙ c.loop-i.invariant.about;
    }

pub returns-clause-noted : goal.returns-clause-noted
returns-clause-noted c =
    let past : length c.self.inside.list.items ≤ c.loop-i.i = search rules in
    all_noted c.loop-i.i c.args.end c.args.self.now.list c.args.trace.now.rows c.loop-i.trace.rows (subst (λ (v : TrackingOf). length v.list ≤ c.loop-i.i) c.self.view_is past) c.loop-i.invariant.notes
