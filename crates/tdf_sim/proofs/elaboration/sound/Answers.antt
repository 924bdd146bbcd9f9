use Rattle.tdf_sim.proofs.Refusing.{names_refused}
use Rattle.tdf_sim.proofs.elaboration.sound.Goals as goal
use Rattle.tdf_lang_tree.specs.Views.{pure_tree}

pub returns-in-Err-clause-refused : goal.returns-in-Err-clause-refused
returns-in-Err-clause-refused c = names_refused (pure_tree c.args.tree.now) c.in-Err.error c.by_line.result c.by_line.ensures c.in-Err.ensures.verdict
