use Rattle.std.proofs.Common.{subst}
use Rattle.tdf_bind_tables.specs.declared.flat.BindErr.{BindErr}
use Rattle.tdf_bind.specs.Flat.{IsBindRefusal}
use Rattle.tdf_sim.proofs.Closed.{closed_top}
use Rattle.tdf_sim.proofs.Plannable.{can_be_planned}
use Rattle.tdf_sim.proofs.elaboration.bound.Goals as goal
use Rattle.tdf_sim.specs.FirstFault.{of_binding}
use Rattle.tdf_lang_tree.specs.Views.{pure_tree}

pub returns-in-Ok-clause-plannable : goal.returns-in-Ok-clause-plannable
returns-in-Ok-clause-plannable c =
    can_be_planned c.law_plannable.ensures (pure_tree c.args.tree.now) c.in-Ok.flat c.requires.kept c.in_ok-checked.ensures.sound c.in-Ok.ensures.flat

pub returns-in-Err-Refused-clause-refused : goal.returns-in-Err-Refused-clause-refused
returns-in-Err-Refused-clause-refused c = of_binding c.in_ok-checked.ensures.sound
    (subst (λ (e : BindErr). IsBindRefusal (pure_tree c.args.tree.now) e) c.in-Err-Refused.field-0-is c.in-Err-Refused.ensures.refused)

pub flatten-requires-clause-closed : goal.flatten-requires-clause-closed
flatten-requires-clause-closed c = closed_top (pure_tree c.args.tree.now) c.requires.formed
