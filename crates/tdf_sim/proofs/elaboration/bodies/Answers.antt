use Rattle.tdf_sim.proofs.Refusing.{types_refused}
use Rattle.tdf_sim.proofs.elaboration.bodies.Goals as goal
use Rattle.tdf_lang_tree.specs.Views.{pure_tree}

pub returns-in-Err-clause-refused : goal.returns-in-Err-clause-refused
returns-in-Err-clause-refused c = types_refused (pure_tree c.args.tree.now) c.in-Err.error c.by_line.result c.requires.names c.by_line.ensures c.in-Err.ensures.refused
