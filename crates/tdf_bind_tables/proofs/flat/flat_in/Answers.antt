use Rattle.tdf_bind_tables.proofs.Joining.{ports_are_short, ports_are_own, is_first, if_err_more}
use Rattle.tdf_bind_tables.proofs.flat.flat_in.Goals as goal

pub with_graph-requires-clause-short : goal.with_graph-requires-clause-short
with_graph-requires-clause-short c = ports_are_short c.args.roles.now c.args.tables.now.instances c.in_ok-modules.modules c.in_ok-modules.ensures c.requires.short

pub with_graph-requires-clause-own : goal.with_graph-requires-clause-own
with_graph-requires-clause-own c = ports_are_own c.args.roles.now c.args.tables.now.instances c.in_ok-modules.modules c.in_ok-modules.ensures

pub returns-in-Ok-clause-refused : goal.returns-in-Ok-clause-refused
returns-in-Ok-clause-refused c = if_err_more (is_first c.args.roles.now c.args.tables.now c.args.lines.now c.in_ok-modules.modules c.in-Ok.wires.signals c.in_ok-modules.ensures c.in-Ok.ensures.signals c.in-Ok.ensures.drivers c.in-Ok.ensures.known) c.with_graph.result c.with_graph.ensures.refused
