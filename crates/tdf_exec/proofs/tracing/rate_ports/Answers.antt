use Rattle.std.proofs.Common.{rules}
use Rattle.std.proofs.lemmas.List.Edits.{map_over_more}
use Rattle.tdf_exec.specs.machine.Tracing.{rated}
use Rattle.tdf_exec.proofs.tracing.rate_ports.Goals as goal

pub loop-j-preserved : goal.loop-j-preserved
loop-j-preserved c = search (rules, map_over_more (rated c.args.tables.now c.args.attrs.now.rows))
