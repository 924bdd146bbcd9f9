use Rattle.std.proofs.Common.{◌∙◌, refl, sym, subst}
use Rattle.tdf_bind_tables.specs.declared.flat.BindErr.{BindErr}
use Rattle.tdf_bind.proofs.binding.sized.Goals as goal
use Rattle.tdf_bind.specs.Flat.{OfSize, IsBindRefusal}
use Rattle.tdf_lang_tree.specs.Views.{pure_tree}

pub returns-in-Ok-true-clause-refused : goal.returns-in-Ok-true-clause-refused
returns-in-Ok-true-clause-refused c =
    subst (λ (e : BindErr). IsBindRefusal (pure_tree c.args.tree.now) e) (sym c.too_many.ensures)
    (OfSize c.args.blocks.items c.requires.links c.requires.resolved (sym c.in-Ok-true.ensures ∙ c.in-Ok-true.field-0-test) refl)
