use Rattle.tdf_bind_connections.proofs.Lists.{filtered_next}
use Rattle.tdf_bind_connections.specs.Writers.{port_writer}
use Rattle.tdf_bind_connections.proofs.writers.put_ports.Goals as goal

pub loop-number-preserved : goal.loop-number-preserved
loop-number-preserved c = filtered_next (port_writer c.args.event) c.args.ports.now c.loop-number.number c.index-ports-number.result c.args.writers.now.items c.loop-number.writers.items c.put_port.new.writers.items
    c.loop-number-test.true c.loop-number.invariant c.index-ports-number.is c.in_ok-put_port.ensures
