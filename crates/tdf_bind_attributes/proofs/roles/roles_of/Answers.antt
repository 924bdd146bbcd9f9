use Rattle.std.proofs.Common.{◌∙◌, ◌∷◌, [], ◌++◌, List, sym, ap, subst}
use Rattle.tdf_bind_attributes.proofs.Rolled.{all_good, top_last}
use Rattle.tdf_bind_attributes.proofs.roles.roles_of.Goals as goal
use Rattle.tdf_bind_attributes.specs.Roles.{roles_from}
use Rattle.tdf_bind_attributes.specs.machine.Sound.{IsGood}
use Rattle.tdf_expr_symbols.specs.Names.{Names, globals_of}
use Rattle.tdf_lang_tree.specs.Views.{pure_tree}
use Rattle.tdf_bind_connections.specs.declared.roles.Role.{Role}
use Rattle.tdf_bind_connections.specs.declared.roles.Role.TheVariants.{Composite}

pub roles_in-requires : goal.roles_in-requires
roles_in-requires c = λ n g at.
    let model = pure_tree c.args.tree.now in
    subst (λ (names : Names). IsGood names g) (sym c.in_ok-globals.ensures)
    (all_good (globals_of model.globals) model.globals c.requires.sound c.requires.kept.globals n g at)

pub returns : goal.returns
returns c =
    let model = pure_tree c.args.tree.now in
    c.in_ok-push.ensures.items
    ∙ ap (λ (l : List Role). l ++ Composite ∷ []) (c.in_ok-roles.ensures ∙ ap (λ (names : Names). roles_from names 0 model.globals) c.in_ok-globals.ensures)
    ∙ sym (top_last (globals_of model.globals) 0 model.globals model.top)
