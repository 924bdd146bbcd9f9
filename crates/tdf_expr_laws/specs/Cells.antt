-- What bodies leave of the values of variables.
-- Source: own.
use Rattle.std.specs.Prelude.{◌≡◌, ◌≤◌, ℕ, List, map, Some, slice_get, slice_index}
use Rattle.tdf_expr.specs.Blocks.{PureBlock, blocks_of, body_of}
use Rattle.tdf_expr.specs.Checked.{IsCheckedOf}
use Rattle.tdf_expr.specs.Frames.{limits_of_rate}
use Rattle.tdf_expr.specs.Made.{CellsFit, rate_spans_of, start_cells}
use Rattle.tdf_expr.specs.Runs.{scope_in}
use Rattle.tdf_expr.specs.declared.bodies.Body.{Body}
use Rattle.tdf_expr.specs.declared.checked.Checked.{Checked}
use Rattle.tdf_expr_semantics.specs.Bodies.{after_body}
use Rattle.tdf_expr_semantics.specs.Places.{RateLimits}
use Rattle.tdf_expr_state.specs.State.{State}
use Rattle.tdf_lang_tree.specs.Pure.{PureTree}

-- no rate is greater than it may be; one that isn't there counts as 0
abbrev pub AreAtMost : List RateLimits → List ℕ → Type 0
AreAtMost limits rates =
    (j : ℕ) (l : RateLimits) → slice_get limits j ≡ Some l → slice_index rates j ≤ l.greatest

-- each body leaves values of the formats of their variables, whatever its ports hold
abbrev pub BodiesKeepCells : Type 0
BodiesKeepCells = (model : PureTree) (checked : Checked) (number : ℕ) (block : PureBlock)
    → (part : Body) (s : State) → IsCheckedOf model checked
    → slice_get (blocks_of model.globals) number ≡ Some block
    → AreAtMost (map limits_of_rate (rate_spans_of checked number)) s.frame.rates
    → CellsFit checked number s.frame.cells
    → CellsFit checked number (after_body (scope_in model block) (body_of block part) s).frame.cells

-- and those that variables start with are of their formats
abbrev pub StartsFit : Type 0
StartsFit = (model : PureTree) (checked : Checked) (number : ℕ) → IsCheckedOf model checked
    → CellsFit checked number (start_cells checked number)
