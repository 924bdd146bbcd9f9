use Rattle.tdf_sim.proofs.Refusing.{clusters_accepted, clusters_refused, early_refused, tree_always, tree_err_always}
use Rattle.tdf_sim.proofs.elaboration.elaborate_tree.Goals as goal
use Rattle.tdf_lang_tree.specs.Views.{pure_tree}

pub returns-in-Ok-clause-refused : goal.returns-in-Ok-clause-refused
returns-in-Ok-clause-refused c = clusters_refused (pure_tree c.args.tree.now) c.in-Ok.flat c.new.result c.in-Ok.ensures.sound c.in-Ok.ensures.flat c.new.ensures.refused

pub returns-in-Ok-clause-of : goal.returns-in-Ok-clause-of
returns-in-Ok-clause-of c = clusters_accepted (pure_tree c.args.tree.now) c.in-Ok.flat c.new.result c.requires.kept c.requires.formed c.in-Ok.ensures.sound c.in-Ok.ensures.flat
    c.new.ensures.own c.new.ensures.plans

pub returns-in-Ok-clause-always : goal.returns-in-Ok-clause-always
returns-in-Ok-clause-always c = tree_always (pure_tree c.args.tree.now) c.new.result c.law_tree_fault.ensures.one c.law_tree_fault.ensures.apart c.requires.kept
    (clusters_accepted (pure_tree c.args.tree.now) c.in-Ok.flat c.new.result c.requires.kept c.requires.formed c.in-Ok.ensures.sound c.in-Ok.ensures.flat c.new.ensures.own c.new.ensures.plans)
    (clusters_refused (pure_tree c.args.tree.now) c.in-Ok.flat c.new.result c.in-Ok.ensures.sound c.in-Ok.ensures.flat c.new.ensures.refused)

pub returns-in-Err-clause-always : goal.returns-in-Err-clause-always
returns-in-Err-clause-always c = tree_err_always (pure_tree c.args.tree.now) c.in-Err.error c.law_tree_fault.ensures.one c.requires.kept
    (early_refused (pure_tree c.args.tree.now) c.in-Err.error c.in-Err.ensures.refused)

pub returns-in-Err-clause-refused : goal.returns-in-Err-clause-refused
returns-in-Err-clause-refused c = early_refused (pure_tree c.args.tree.now) c.in-Err.error c.in-Err.ensures.refused
