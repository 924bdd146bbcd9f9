use Rattle.std.proofs.Common.{List, ◌∷◌, [], ◌++◌, subst, sym, ap}
use Rattle.tdf_expr.proofs.Blocked.{blocks_more}
use Rattle.tdf_expr.proofs.modules.push_block.Goals as goal
use Rattle.tdf_expr.specs.Blocks.{PureBlock, Module, Events, block_of, scope_of}
use Rattle.tdf_expr.specs.Compiled.{AreBlocksOf, IsBlockOf}
use Rattle.tdf_expr.specs.declared.blocks.Block.{Block}
use Rattle.tdf_expr_symbols.specs.Scope.{Scope}
use Rattle.tdf_lang_tree.specs.Views.{pure_global, pure_tdf, pure_de}

pub returns-in_ok-push-in-Tdf : goal.returns-in_ok-push-in-Tdf
returns-in_ok-push-in-Tdf c = λ done are.
    let p = Module (pure_tdf c.in-Tdf.block) in
    let is : IsBlockOf (scope_of c.args.globals.now p) p c.in_ok-made-in-Tdf.made =
    subst (λ (s : Scope). IsBlockOf s p c.in_ok-made-in-Tdf.made) c.in_ok-scope-in-Tdf.ensures c.in_ok-made-in-Tdf.ensures in
    subst (λ (l : List Block). AreBlocksOf c.args.globals.now (done ++ block_of (pure_global c.args.global.now)) l) (sym c.in_ok-push-in-Tdf.ensures.items)
    (subst (λ (ps : List PureBlock). AreBlocksOf c.args.globals.now (done ++ ps) (c.args.blocks.now.items ++ c.in_ok-made-in-Tdf.made ∷ []))
    (ap (λ g. block_of (pure_global g)) (sym c.in-Tdf.is)) (blocks_more c.args.globals.now done c.args.blocks.now.items p c.in_ok-made-in-Tdf.made are is))

pub returns-in_ok-push-in-De : goal.returns-in_ok-push-in-De
returns-in_ok-push-in-De c = λ done are.
    let p = Events (pure_de c.in-De.block) in
    let is : IsBlockOf (scope_of c.args.globals.now p) p c.in_ok-made-in-De.made =
    subst (λ (s : Scope). IsBlockOf s p c.in_ok-made-in-De.made) c.in_ok-scope-in-De.ensures c.in_ok-made-in-De.ensures in
    subst (λ (l : List Block). AreBlocksOf c.args.globals.now (done ++ block_of (pure_global c.args.global.now)) l) (sym c.in_ok-push-in-De.ensures.items)
    (subst (λ (ps : List PureBlock). AreBlocksOf c.args.globals.now (done ++ ps) (c.args.blocks.now.items ++ c.in_ok-made-in-De.made ∷ []))
    (ap (λ g. block_of (pure_global g)) (sym c.in-De.is)) (blocks_more c.args.globals.now done c.args.blocks.now.items p c.in_ok-made-in-De.made are is))
