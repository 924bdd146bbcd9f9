use Rattle.std.proofs.Common.{subst}
use Rattle.tdf_timestep.proofs.Shares.{share_few}
use Rattle.tdf_timestep.specs.Period.{IsPortOf}
use Rattle.tdf_timestep.proofs.share.share.Goals as goal

pub returns-in-Some-clause-few : goal.returns-in-Some-clause-few
returns-in-Some-clause-few c = share_few _ c.args.net.now.ports.items c.args.counts.now c.args.spot.actor c.in-Some.number c.index.result.now c.from.result
    c.args.net.now.in_range.ports_fit c.requires.few c.requires.actor (subst (IsPortOf c.args.net.now.ports.items c.args.spot.actor) c.in-Some.is c.requires.port)
    c.index.ensures c.from.ensures
