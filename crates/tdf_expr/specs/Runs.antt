-- Running a body (own): it changes the state of an instance of its block as the language says.
use Rattle.std.specs.Prelude.{◌≡◌, ℕ, Some, slice_get}
use Rattle.tdf_expr.specs.Blocks.{PureBlock, blocks_of, scope_of, body_of}
use Rattle.tdf_expr.specs.Checked.{IsCheckedOf}
use Rattle.tdf_expr.specs.declared.bodies.Body.{Body}
use Rattle.tdf_expr.specs.declared.checked.Checked.{Checked}
use Rattle.tdf_expr_semantics.specs.Bodies.{after_body}
use Rattle.tdf_expr_semantics.specs.Fits.{StateFits}
use Rattle.tdf_expr_symbols.specs.Names.{globals_of}
use Rattle.tdf_expr_symbols.specs.Scope.{Scope}
use Rattle.tdf_expr_state.specs.State.{State}
use Rattle.tdf_lang_tree.specs.Pure.{PureTree}

-- the names in force in a block of a model
abbrev pub scope_in : PureTree → PureBlock → Scope
scope_in model block = scope_of (globals_of model.globals) block

-- what a body of the block of this number does
pub record Ran (checked : Checked) (number : ℕ) (part : Body) (s done : State) : Type 0 where
  pub after : (model : PureTree) (block : PureBlock) → IsCheckedOf model checked
      → slice_get (blocks_of model.globals) number ≡ Some block
      → done ≡ after_body (scope_in model block) (body_of block part) s
