use Rattle.std.proofs.Common.{◌<◌, ◌≤◌, List, take, length, refl, rules, sym, ◌∙◌, subst}
use Rattle.std.proofs.lemmas.List.{take_all, take_more}
use Rattle.tdf_trace.proofs.Manies.{labels_long, later_self, later_then, more_given, none_given}
use Rattle.tdf_trace.proofs.tracking.Tracking.give.Goals as goal
use Rattle.tdf_trace.specs.Calls.{TakesSamples}
use Rattle.tdf_trace.specs.Tracked.{AreSince}
use Rattle.tdf_convert.specs.declared.outputs.Traced.{Traced}

pub loop-i-init : goal.loop-i-init
loop-i-init c = record {
  took = none_given c.args.self.now.list c.args.trace.now.rows;
  width = refl;
  labels = refl;
  sinces = refl;
  later = later_self c.args.self.now.list;
  since = c.requires.since;
  upto = refl;
  stage = refl;
  about = refl;
}

pub give_one-requires-clause-since : goal.give_one-requires-clause-since
give_one-requires-clause-since c = subst (λ n. AreSince n c.loop-i.self.list) (sym c.loop-i.invariant.upto) c.loop-i.invariant.since

pub loop-i-preserved : goal.loop-i-preserved
loop-i-preserved c =
    let less : c.loop-i.i < length c.args.traced.now = search rules in
    record {
      took = subst (λ (l : List Traced). TakesSamples l c.args.self.now.list c.give_one.new.self.list c.args.trace.now.rows c.give_one.new.trace.rows)
          (sym (take_more c.args.traced.now c.loop-i.i _ less))
          (more_given (take c.loop-i.i c.args.traced.now) _ c.args.self.now.list c.loop-i.self.list c.give_one.new.self.list c.args.trace.now.rows c.loop-i.trace.rows c.give_one.new.trace.rows
          c.loop-i.invariant.took c.in_ok-give_one.ensures.took);
      width = c.give_one.ensures.width ∙ c.loop-i.invariant.width;
      labels = c.give_one.ensures.labels ∙ c.loop-i.invariant.labels;
      sinces = c.give_one.ensures.sinces ∙ c.loop-i.invariant.sinces;
      later = later_then c.args.self.now.list c.loop-i.self.list c.give_one.new.self.list (labels_long c.loop-i.self.list c.give_one.new.self.list c.give_one.ensures.labels) c.loop-i.invariant.later c.give_one.ensures.later;
      since = subst (λ n. AreSince n c.give_one.new.self.list) c.loop-i.invariant.upto c.give_one.ensures.since;
      upto = c.give_one.ensures.upto ∙ c.loop-i.invariant.upto;
      stage = c.give_one.ensures.stage ∙ c.loop-i.invariant.stage;
      about = c.give_one.ensures.about ∙ c.loop-i.invariant.about;
    }

pub returns-clause-took : goal.returns-clause-took
returns-clause-took c =
    let past : length c.args.traced.now ≤ c.loop-i.i = search rules in
    subst (λ (l : List Traced). TakesSamples l c.args.self.now.list c.loop-i.self.list c.args.trace.now.rows c.loop-i.trace.rows) (take_all c.loop-i.i c.args.traced.now past) c.loop-i.invariant.took

pub returns-in_err-give_one-clause-later : goal.returns-in_err-give_one-clause-later
returns-in_err-give_one-clause-later c =
    later_then c.args.self.now.list c.loop-i.self.list c.give_one.new.self.list (labels_long c.loop-i.self.list c.give_one.new.self.list c.give_one.ensures.labels) c.loop-i.invariant.later c.give_one.ensures.later
