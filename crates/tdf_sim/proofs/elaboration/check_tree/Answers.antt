use Rattle.tdf_sim.proofs.Refusing.{early_err_always}
use Rattle.tdf_lang_tree.specs.Views.{pure_tree}
use Rattle.tdf_sim.proofs.elaboration.check_tree.Goals as goal

pub returns-in-Ok-clause-flat : goal.returns-in-Ok-clause-flat
returns-in-Ok-clause-flat c = record { flat = c.in-Ok.flat; lines = c.in-Ok.ensures.sound; is = c.in-Ok.ensures.flat }

pub returns-in-Ok-clause-always : goal.returns-in-Ok-clause-always
returns-in-Ok-clause-always c = λ fault has. absurd (c.law_early_fault.ensures.apart (pure_tree c.args.tree.now) fault c.requires.kept has
    (record { flat = c.in-Ok.flat; lines = c.in-Ok.ensures.sound; is = c.in-Ok.ensures.flat }))

pub returns-in-Err-clause-always : goal.returns-in-Err-clause-always
returns-in-Err-clause-always c = early_err_always (pure_tree c.args.tree.now) c.in-Err.error c.law_early_fault.ensures.one c.requires.kept c.in-Err.ensures.refused
