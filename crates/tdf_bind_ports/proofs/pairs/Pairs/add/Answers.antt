use Rattle.std.proofs.Common.{◌∙◌, ap}
use Rattle.std.specs.Prelude.{map}
use Rattle.tdf_bind_ports.proofs.Found.{added_pair}
use Rattle.tdf_bind_ports.proofs.pairs.Pairs.add.Goals as goal
use Rattle.tdf_bind_ports.specs.machine.Pairs.{with_pair}

pub returns : goal.returns
returns c = ap (map (λ k. (k.0.now, k.1.now))) c.in_ok-insert_full.ensures.keys ∙ added_pair c.self.inside.set.keys c.args.instance c.args.port
    ∙ ap (with_pair c.args.instance.now c.args.port.now) c.self.view_is
