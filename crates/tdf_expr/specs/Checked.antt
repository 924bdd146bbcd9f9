-- What was checked (own): each `tdf` and `de` block of a model without a fault, compiled.
use Rattle.tdf_expr.specs.Blocks.{blocks_of}
use Rattle.tdf_expr.specs.Compiled.{AreBlocksOf}
use Rattle.tdf_expr.specs.declared.checked.Checked.{Checked}
use Rattle.tdf_expr_symbols.specs.Names.{globals_of}
use Rattle.tdf_lang_tree.specs.Pure.{PureTree}

abbrev pub IsCheckedOf : PureTree → Checked → Type 0
IsCheckedOf model checked =
    AreBlocksOf (globals_of model.globals) (blocks_of model.globals) checked.blocks.items

-- the answer of the check for some model
pub record IsChecked (checked : Checked) : Type 0 where
  pub model : PureTree
  pub are : IsCheckedOf model checked
