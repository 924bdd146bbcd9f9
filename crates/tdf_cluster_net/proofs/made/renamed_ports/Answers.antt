use Rattle.std.proofs.Common.{◌∙◌, ◌+◌, Some, ap, subst, sym}
use Rattle.std.proofs.lemmas.List.Elements.{All-get_or}
use Rattle.std.proofs.lemmas.Option.{slice_get-get_or}
use Rattle.tdf_cluster_net.proofs.Renaming.{renamed_port_more}
use Rattle.tdf_cluster_net.specs.Made.{AreRenamedPorts, IsPortAmong}
use Rattle.tdf_cluster_net.proofs.made.renamed_ports.Goals as goal

pub own_port-port-requires-clause-actor : goal.own_port-port-requires-clause-actor
own_port-port-requires-clause-actor c = (All-get_or (IsPortAmong c.args.numbers.now) c.args.ports.now c.loop-i.i (record { actor = 0; rate = 0 }) c.loop-i-test.true c.requires.among).actor

pub loop-i-preserved : goal.loop-i-preserved
loop-i-preserved c = subst (AreRenamedPorts c.args.numbers.now c.args.ports.now (c.loop-i.i + 1)) (sym (c.in_ok-push.ensures).items)
    (renamed_port_more c.args.numbers.now c.args.ports.now c.loop-i.i c.loop-i.own.items c.own_port-port.result
    (slice_get-get_or c.args.ports.now c.loop-i.i (record { actor = 0; rate = 0 }) c.loop-i-test.true ∙ ap Some (sym c.own_port-port.ensures.whole))
    c.own_port-port.ensures.actor c.loop-i.invariant)
