use Rattle.std.proofs.Common.{length}
use Rattle.std.specs.Fmt.{signed_decimal}
use Rattle.tdf_save_reading.proofs.ListReads.{ListRead}
use Rattle.tdf_save.specs.Members.{IsNum}
use Rattle.tdf_save_reading.proofs.lists.read_nums.Given as goal

abbrev pub invariant-loop-rest : goal.invariant-loop-rest
invariant-loop-rest l = ListRead signed_decimal IsNum l.text l.list.items l.rest

abbrev pub decreases-loop-rest : goal.decreases-loop-rest
decreases-loop-rest l = length l.rest
