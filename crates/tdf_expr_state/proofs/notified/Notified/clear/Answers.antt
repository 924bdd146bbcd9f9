use Rattle.std.proofs.Common.{◌≡◌, ◌∙◌, ap, length, arith}
use Rattle.tdf_expr_state.specs.Resets.{no_times}
use Rattle.tdf_expr_state.proofs.Standing.{listed_below, none_flagged, none_listed, none_stand}
use Rattle.tdf_expr_state.proofs.notified.Notified.clear.Goals as goal

pub forget-requires : goal.forget-requires
forget-requires c = listed_below c.self.inside.events.flags c.self.inside.events.members c.self.inside.times.items c.self.invariant.flags c.self.invariant.rising c.members.result.now c.members.ensures.value

pub invariant_of-self : goal.invariant_of-self
invariant_of-self c =
    let gone : c.forget.new.times.items ≡ no_times c.self.inside.times.items =
    none_stand c.self.inside.events.flags c.self.inside.events.members c.self.inside.times.items c.self.invariant.flags c.self.invariant.rising c.members.result.now c.forget.new.times.items c.members.ensures.value c.forget.ensures in
    record {
      flags = none_flagged c.self.inside.events.flags c.self.inside.events.members c.self.inside.times.items c.self.invariant.flags c.self.invariant.rising c.clear.new.self.flags c.forget.new.times.items c.clear.ensures.flags gone;
      rising = none_listed (length c.self.inside.events.flags) c.clear.new.self.flags c.clear.new.self.members c.clear.ensures.flags c.clear.ensures.members;
      few = (let same : length c.forget.new.times.items ≡ length c.self.inside.times.items = c.forget.ensures.same in let few = c.self.invariant.few in omega (arith, same, few));
    }

pub returns : goal.returns
returns c =
    none_stand c.self.inside.events.flags c.self.inside.events.members c.self.inside.times.items c.self.invariant.flags c.self.invariant.rising c.members.result.now c.forget.new.times.items c.members.ensures.value c.forget.ensures
    ∙ ap no_times c.self.view_is
