use Rattle.tdf_exec.proofs.Taking.{laid_out}
use Rattle.tdf_exec.specs.contracts.laying.Layout.{the_view}
use Rattle.tdf_exec.proofs.laying.Layout.new.Goals as goal

pub returns : goal.returns
returns c =
    laid_out c.args.flat.now
    (the_view record {
      wires = c.in_ok-wires.wires;
      traced = c.in_ok-traced.traced;
      groups = c.in_ok-groups.groups;
      edge_places = c.in_ok-edge_places.edge_places;
      actor_places = c.in_ok-actor_places.actor_places;
    })
    c.in_ok-wires.ensures c.in_ok-traced.ensures c.in_ok-groups.ensures
