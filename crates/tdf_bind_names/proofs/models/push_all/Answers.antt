use Rattle.std.specs.Prelude.{map}
use Rattle.tdf_bind_names.proofs.Blocks.{resolved_all}
use Rattle.tdf_bind_names.proofs.models.push_all.Goals as goal
use Rattle.tdf_expr_symbols.specs.Names.{globals_of}
use Rattle.tdf_lang_tree.specs.Views.{pure_composite, pure_global}

pub returns : goal.returns
returns c =
    let gs = map pure_global c.args.tree.now.globals.items in
    resolved_all c.in_ok-globals.globals (globals_of gs) gs c.push_globals.new.known (pure_composite c.args.tree.now.top) c.push_globals.new.out.items c.push.new.self.items c.in_ok-top.top
    c.in_ok-globals.ensures c.in_ok-push_globals.ensures.known c.in_ok-push_globals.ensures.blocks c.in_ok-top.ensures c.in_ok-push.ensures.items
