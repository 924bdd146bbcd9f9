use Rattle.std.proofs.Common.{◌∙◌, ap}
use Rattle.tdf_bind_ports.proofs.Found.{has_pairs}
use Rattle.tdf_bind_ports.proofs.pairs.Pairs.has.Goals as goal
use Rattle.tdf_bind_ports.specs.machine.Pairs.{has_pair}

pub returns : goal.returns
returns c = c.contains.ensures ∙ has_pairs c.self.inside.set.keys c.args.instance.now c.args.port.now
    ∙ ap (λ ps. has_pair ps c.args.instance.now c.args.port.now) c.self.view_is
