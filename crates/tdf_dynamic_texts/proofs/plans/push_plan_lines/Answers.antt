use Rattle.std.proofs.Common.{◌∙◌, sym}
use Rattle.tdf_dynamic_texts.proofs.Grouping.{actors_given, edges_given}
use Rattle.tdf_dynamic_texts.proofs.plans.push_plan_lines.Goals as goal

pub push_actors-requires-clause-numbers : goal.push_actors-requires-clause-numbers
push_actors-requires-clause-numbers c = actors_given c.args.flat.now c.args.groups.now c.requires.groups c.args.cluster c.actors_of-numbers.result.now c.actors_of-numbers.ensures

pub edges_of-requires : goal.edges_of-requires
edges_of-requires c = c.requires.groups.edges.long ∙ sym c.requires.groups.actors.long

pub push_edges-requires-clause-numbers : goal.push_edges-requires-clause-numbers
push_edges-requires-clause-numbers c = edges_given c.args.flat.now c.args.groups.now c.requires.groups c.args.cluster c.edges_of.result.now c.edges_of.ensures

pub firings-requires : goal.firings-requires
firings-requires c =
    (actors_given c.args.flat.now c.args.groups.now c.requires.groups c.args.cluster c.actors_of-numbers.result.now c.actors_of-numbers.ensures).rising
