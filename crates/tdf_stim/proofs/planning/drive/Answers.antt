use Rattle.std.proofs.Common.{◌≡◌, ◌∙◌, subst, sym}
use Rattle.std.proofs.lemmas.Result.{IfOk-weaker}
use Rattle.tdf_lang_parser.specs.Formed.{IsFormed}
use Rattle.tdf_lang_tree.specs.Kept.{IsKept}
use Rattle.tdf_lang_tree.specs.Views.{pure_tree}
use Rattle.tdf_stim.proofs.KeptDriver.{driven_formed, driven_kept}
use Rattle.tdf_stim.proofs.Plans.{driven_is, planned_name}
use Rattle.tdf_stim.specs.Driven.{driven_tree, times_of}
use Rattle.tdf_stim.specs.Signals.{driving}
use Rattle.tdf_stim.specs.machine.Planned.{finished_tree}
use Rattle.tdf_stim.proofs.planning.drive.Goals as goal

pub returns-in-Ok-clause-driven : goal.returns-in-Ok-clause-driven
returns-in-Ok-clause-driven c =
    IfOk-weaker c.finished.result _ _ (λ d h. h ∙ driven_is (pure_tree c.args.tree) c.args.table.now c.in-Ok.plan.driver c.in-Ok.ensures.planned) c.finished.ensures.tree

pub returns-in-Ok-clause-kept : goal.returns-in-Ok-clause-kept
returns-in-Ok-clause-kept c =
    let tree = pure_tree c.args.tree in
    let table = c.args.table.now in
    let is : finished_tree tree c.in-Ok.plan.driver ≡ driven_tree tree table = driven_is tree table c.in-Ok.plan.driver c.in-Ok.ensures.planned in
    let kept : IsKept (driven_tree tree table) = driven_kept tree table c.requires.kept c.requires.table c.in-Ok.ensures.fine
    (λ some. planned_name tree (driving tree table) (times_of tree table) c.in-Ok.plan.driver c.in-Ok.ensures.planned some) in
    IfOk-weaker c.finished.result _ _ (λ d h. subst IsKept (sym (h ∙ is)) kept) c.finished.ensures.tree

pub returns-in-Ok-clause-formed : goal.returns-in-Ok-clause-formed
returns-in-Ok-clause-formed c =
    let tree = pure_tree c.args.tree in
    let table = c.args.table.now in
    let is : finished_tree tree c.in-Ok.plan.driver ≡ driven_tree tree table = driven_is tree table c.in-Ok.plan.driver c.in-Ok.ensures.planned in
    IfOk-weaker c.finished.result _ _ (λ d h. subst IsFormed (sym (h ∙ is)) (driven_formed tree table c.requires.formed)) c.finished.ensures.tree
