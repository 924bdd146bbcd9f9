use Rattle.std.proofs.Common.{◌≡◌, length, replicate, rules}
use Rattle.tdf_sim_instants.proofs.Beginning.{all_begun, begun_kept, ready_kept, side_kept, since_kept}
use Rattle.tdf_sim_instants.proofs.engine.Engine.new.Goals as goal

pub from_parts-requires-clause-clusters : goal.from_parts-requires-clause-clusters
from_parts-requires-clause-clusters c =
    all_begun c.args.flat.now c.args.firsts.items c.in_ok-clusters.clusters.items (c.law_limits.ensures c.requires.sound.model c.args.flat.now c.requires.sound.sound.kept c.requires.sound.sound.types c.requires.sound.is) c.in_ok-clusters.ensures

pub returns-in-Ok-clause-begun : goal.returns-in-Ok-clause-begun
returns-in-Ok-clause-begun c = begun_kept c.args.flat.now c.args.firsts.items c.in_ok-clusters.clusters.items c.from_parts.result c.from_parts.ensures.clusters c.in_ok-clusters.ensures

pub returns-in-Ok-clause-since : goal.returns-in-Ok-clause-since
returns-in-Ok-clause-since c =
    let none : c.in-Ok.since.items ≡ replicate (length c.in_ok-clusters.clusters.items) 0 = search rules in
    since_kept c.args.flat.now c.args.firsts.items c.in_ok-clusters.clusters.items c.from_parts.result c.from_parts.ensures.clusters c.in-Ok.since.items c.from_parts.ensures.since none

pub returns-in-Ok-clause-ready : goal.returns-in-Ok-clause-ready
returns-in-Ok-clause-ready c =
    let none : c.in-Ok.since.items ≡ replicate (length c.in_ok-clusters.clusters.items) 0 = search rules in
    ready_kept c.args.flat.now c.args.firsts.items c.in_ok-clusters.clusters.items c.from_parts.result c.from_parts.ensures.clusters c.in-Ok.since.items c.from_parts.ensures.since none
    c.in_ok-clusters.ensures c.in-Ok.kernel c.from_parts.ensures.kernel c.in-Ok.ensures.side

pub returns-in-Ok-clause-side : goal.returns-in-Ok-clause-side
returns-in-Ok-clause-side c = side_kept c.args.flat.now c.from_parts.result c.in-Ok.kernel c.from_parts.ensures.kernel c.in-Ok.ensures.side
