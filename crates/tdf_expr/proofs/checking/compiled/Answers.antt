use Rattle.std.proofs.Common.{subst, sym}
use Rattle.tdf_expr.proofs.Finely.{all_fine}
use Rattle.tdf_expr.proofs.checking.compiled.Goals as goal
use Rattle.tdf_expr.specs.machine.Fine.{IsBlockFine}
use Rattle.tdf_expr_symbols.specs.Names.{Names}
use Rattle.tdf_lang_tree.specs.Views.{pure_tree}

pub block_list-requires : goal.block_list-requires
block_list-requires c = record {
  fine = λ n g at. subst (λ (names : Names). IsBlockFine names g) (sym c.in_ok-globals.ensures)
      (all_fine (pure_tree c.args.tree.now) c.requires.kept c.requires.none n g at);
}
