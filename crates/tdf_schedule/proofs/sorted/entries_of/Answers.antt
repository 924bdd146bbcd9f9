use Rattle.tdf_schedule.proofs.Orders.{sorted_all, complete_all, keys_all}
use Rattle.tdf_schedule.proofs.sorted.entries_of.Goals as goal

pub returns-clause-complete : goal.returns-clause-complete
returns-clause-complete c = complete_all c.args.table.now.items c.in_ok-entries.entries.items c.sort_unstable.new.self.items c.in_ok-entries.ensures.complete c.sort_unstable.ensures.permutation

pub returns-clause-keys : goal.returns-clause-keys
returns-clause-keys c = keys_all c.args.table.now.items c.in_ok-entries.entries.items c.sort_unstable.new.self.items c.in_ok-entries.ensures.keys c.sort_unstable.ensures.permutation

pub returns-clause-sorted : goal.returns-clause-sorted
returns-clause-sorted c = sorted_all c.sort_unstable.new.self.items c.sort_unstable.ensures.sorted
