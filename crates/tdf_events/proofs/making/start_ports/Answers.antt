use Rattle.std.proofs.Common.{rules, ◌≡◌, Some, length, slice_get, refl, subst}
use Rattle.std.proofs.lemmas.Option.{slice_get_read}
use Rattle.tdf_bind_connections.specs.ProcessBlocks.{BlockRowOf}
use Rattle.tdf_events.specs.machine.Making.{AreFirstPorts}
use Rattle.tdf_events.proofs.Tables.{ports_more}
use Rattle.tdf_events.proofs.making.start_ports.Goals as goal

pub loop-i-preserved : goal.loop-i-preserved
loop-i-preserved c =
    let at : slice_get c.args.blocks.now c.loop-i.i ≡ Some c.index-blocks-i.result = slice_get_read c.args.blocks.now (length c.args.blocks.now) c.loop-i.i c.index-blocks-i.result refl (search rules) (search rules) in
    let first : AreFirstPorts c.args.checked.now c.index-blocks-i.result.block c.in_ok-ports.ports = subst (λ (r : BlockRowOf). AreFirstPorts c.args.checked.now r.block c.in_ok-ports.ports) c.row.view_is c.in_ok-ports.ensures in
    ports_more c.args.checked.now c.args.blocks.now c.loop-i.i c.index-blocks-i.result c.in_ok-ports.ports c.loop-i.all.items c.push.new.self.items at c.loop-i.invariant first (search rules)
