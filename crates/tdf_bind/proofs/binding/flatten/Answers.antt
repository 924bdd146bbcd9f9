use Rattle.tdf_bind.proofs.Linked.{modules_sound}
use Rattle.tdf_bind.proofs.binding.flatten.Goals as goal
use Rattle.tdf_expr_symbols.specs.Names.{globals_of}
use Rattle.tdf_lang_tree.specs.Views.{pure_tree}

pub tables_of-requires-clause-sound : goal.tables_of-requires-clause-sound
tables_of-requires-clause-sound c =
    let model = pure_tree c.args.tree.now in
    modules_sound (globals_of model.globals) model.globals c.args.checked.blocks.items c.requires.bodies
