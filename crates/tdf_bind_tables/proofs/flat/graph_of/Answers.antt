use Rattle.std.proofs.Common.{◌∙◌, sym, subst}
use Rattle.tdf_bind_tables.proofs.EdgeRanges.{edges_are_actors}
use Rattle.tdf_bind_tables.specs.Actors.{AreActorEdges}
use Rattle.tdf_bind_tables.proofs.flat.graph_of.Goals as goal

pub actors_of-requires : goal.actors_of-requires
actors_of-requires c = subst (AreActorEdges c.args.modules c.args.ports.now) (sym (c.deref.ensures.value ∙ c.in_ok-edges.ensures)) (edges_are_actors c.args.modules c.args.signals.now c.args.ports.now c.requires.short c.requires.own)
