use Rattle.std.proofs.Common.{length}
use Rattle.tdf_tables.specs.machine.Body.{seen}
use Rattle.tdf_tables.proofs.ReadLaws.{HasRead}
use Rattle.tdf_tables.proofs.rows.read_rows.Given as goal

abbrev pub invariant-loop-rest : goal.invariant-loop-rest
invariant-loop-rest l = HasRead l.columns l.text l.rest (seen l.rows.items) l.before l.line

abbrev pub decreases-loop-rest : goal.decreases-loop-rest
decreases-loop-rest l = length l.rest
