use Rattle.std.proofs.Common.{subst, sym}
use Rattle.tdf_exec.specs.Made.{IsClusterOf}
use Rattle.tdf_exec.specs.contracts.cluster.Cluster.{the_view}
use Rattle.tdf_streams.proofs.Api.{are_rates}
use Rattle.tdf_exec.proofs.cluster.Cluster.rate.Goals as goal

pub rate_of_port-requires-clause-rates : goal.rate_of_port-requires-clause-rates
rate_of_port-requires-clause-rates c =
    let of : IsClusterOf c.args.flat.now (the_view c.self.inside) = subst (IsClusterOf c.args.flat.now) (sym c.self.view_is) c.requires.of in
    are_rates c.args.flat.now c.requires.limits c.self.inside.attrs.rows of.attributes.allowed
