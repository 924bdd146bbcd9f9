use Rattle.std.proofs.Common.{rules, ◌≡◌, List, Bool, ℕ, false, length, replicate, subst, sym}
use Rattle.tdf_events_queue.specs.Sets.{AreListed}
use Rattle.tdf_events_queue.proofs.Members.{none_listed}
use Rattle.tdf_events_queue.proofs.Sorted.{all_off}
use Rattle.tdf_events_queue.proofs.sets.NumberSet.clear.Goals as goal

pub invariant_of-self : goal.invariant_of-self
invariant_of-self c =
    let off : c.switch_off.new.flags.items ≡ replicate (length c.self.inside.flags.items) false = all_off c.self.inside.flags.items c.switch_off.new.flags.items c.self.inside.list.items c.self.invariant.listed c.switch_off.ensures in
    record {
      listed = subst (λ (flags : List Bool). AreListed flags c.clear.new.self.items) (sym off)
          (subst (λ (list : List ℕ). AreListed (replicate (length c.self.inside.flags.items) false) list) (sym c.clear.ensures.items) (none_listed (length c.self.inside.flags.items)));
      room = search rules;
      few = search rules;
    }

pub returns-clause-flags : goal.returns-clause-flags
returns-clause-flags c =
    let off : c.switch_off.new.flags.items ≡ replicate (length c.self.inside.flags.items) false = all_off c.self.inside.flags.items c.switch_off.new.flags.items c.self.inside.list.items c.self.invariant.listed c.switch_off.ensures in
    search rules
