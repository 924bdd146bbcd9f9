use Rattle.std.proofs.Common.{rules, subst}
use Rattle.tdf_events_queue.proofs.Sorted.{few_rising, sorted_listed, sorted_rising}
use Rattle.tdf_events_queue.specs.Sets.{AreRisingFlags, SetOf}
use Rattle.tdf_events_queue.proofs.sets.NumberSet.sort.Goals as goal

pub invariant_of-self : goal.invariant_of-self
invariant_of-self c = record {
  listed = sorted_listed _ _ _ c.self.invariant.listed c.sort_unstable.ensures.permutation c.sort_unstable.ensures.sorted;
  room = search rules;
  few = search rules;
}

pub returns-clause-rising : goal.returns-clause-rising
returns-clause-rising c = sorted_rising _ _ _ c.self.invariant.listed c.sort_unstable.ensures.permutation c.sort_unstable.ensures.sorted

pub returns-then-len-lt2-clause-rising : goal.returns-then-len-lt2-clause-rising
returns-then-len-lt2-clause-rising c = subst (λ (set : SetOf). AreRisingFlags set.flags set.members) c.self.view_is (few_rising c.self.inside.flags.items c.self.inside.list.items (search rules) c.self.invariant.listed)
