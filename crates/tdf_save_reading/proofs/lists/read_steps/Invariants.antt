use Rattle.std.proofs.Common.{length, decimal}
use Rattle.tdf_save_reading.proofs.ListReads.{ListRead}
use Rattle.tdf_save.specs.Members.{IsCount64}
use Rattle.tdf_save_reading.proofs.lists.read_steps.Given as goal

abbrev pub invariant-loop-rest : goal.invariant-loop-rest
invariant-loop-rest l = ListRead decimal IsCount64 l.text l.list.items l.rest

abbrev pub decreases-loop-rest : goal.decreases-loop-rest
decreases-loop-rest l = length l.rest
