use Rattle.std.proofs.Common.{◌≡◌, length, subst, arith}
use Rattle.std.specs.Prelude.{All, vec_len}
use Rattle.tdf_cluster_net.proofs.Renaming.{renamed_edges_fit, renamed_ports_fit}
use Rattle.tdf_graph.specs.Ranges.{IsEdge, IsGraphPort}
use Rattle.tdf_cluster_net.proofs.net.ClusterNet.made.Goals as goal

pub invariant_of-net : goal.invariant_of-net
invariant_of-net c =
    let actors_ok = c.args.actors.ok in
    let edges_ok = c.in_ok-own_edges.own_edges.ok in
    let ports_ok = c.in_ok-own_ports.own_ports.ok in
    let edges_long = c.in_ok-own_edges.ensures.long in
    let ports_long = c.in_ok-own_ports.ensures.long in
    let few_actors = c.requires.few_actors in
    let few_edges = c.requires.few_edges in
    let few_ports = c.requires.few_ports in
    let all_actors = c.requires.actors in
    let all_ports = c.requires.ports in
    let count : length c.args.actor_numbers.now ≡ vec_len c.args.actors = omega (arith, actors_ok, all_actors) in
    record {
      in_range = record {
        edges_fit = subst (λ n. All (IsEdge n) c.in_ok-own_edges.own_edges.items) count
            (renamed_edges_fit c.args.actor_numbers.now c.args.edges.now (length c.args.edges.now) c.in_ok-own_edges.own_edges.items c.requires.edges_among c.in_ok-own_edges.ensures);
        ports_fit = subst (λ n. All (IsGraphPort n) c.in_ok-own_ports.own_ports.items) count
            (renamed_ports_fit c.args.actor_numbers.now c.args.ports.now (length c.args.ports.now) c.in_ok-own_ports.own_ports.items c.requires.ports_among c.in_ok-own_ports.ensures);
      };
      few_actors = omega (arith, count, few_actors);
      few_edges = omega (arith, edges_long, edges_ok, few_edges);
      few_ports = omega (arith, ports_long, ports_ok, few_ports, all_ports);
    }
