-- What bodies leave of the samples of ports.
-- Source: own.
use Rattle.std.specs.Prelude.{◌≡◌, ◌+◌, ◌<◌, ℕ, ℤ, List, map, Some, slice_get, true}
use Rattle.tdf_expr.specs.Blocks.{PureBlock, blocks_of, body_of}
use Rattle.tdf_expr.specs.Checked.{IsCheckedOf}
use Rattle.tdf_expr.specs.Frames.{AreConsecutive, is_written, limits_of_rate}
use Rattle.tdf_expr.specs.Made.{port_spans_of, rate_spans_of}
use Rattle.tdf_expr.specs.Runs.{scope_in}
use Rattle.tdf_expr.specs.declared.bodies.Body.{Body}
use Rattle.tdf_expr.specs.declared.checked.Checked.{Checked}
use Rattle.tdf_expr.specs.declared.spans.PortSpan.{PortSpan}
use Rattle.tdf_expr_laws.specs.Cells.{AreAtMost}
use Rattle.tdf_expr_semantics.specs.Bodies.{after_body}
use Rattle.tdf_expr_state.specs.State.{State, cell_at}
use Rattle.tdf_fixed.specs.Overflow.{IsOfWidth}
use Rattle.tdf_lang_tree.specs.Pure.{PureTree}

-- each sample of a port that bodies write is in the range of the port's format
abbrev pub WrittenFit : List PortSpan → (samples : List ℤ) → Type 0
WrittenFit spans samples = (n k : ℕ) (p : PortSpan) → slice_get spans n ≡ Some p
    → is_written p.word ≡ true → k < p.count
    → IsOfWidth p.format.signed p.format.wl (cell_at samples (p.first + k))

-- each body leaves them so, whatever the ports hold that it reads
abbrev pub BodiesKeepSamples : Type 0
BodiesKeepSamples = (model : PureTree) (checked : Checked) (number : ℕ) (block : PureBlock)
    → (part : Body) (s : State) → IsCheckedOf model checked
    → slice_get (blocks_of model.globals) number ≡ Some block
    → AreAtMost (map limits_of_rate (rate_spans_of checked number)) s.frame.rates
    → WrittenFit (port_spans_of checked number) s.ports.samples
    → WrittenFit (port_spans_of checked number)
    (after_body (scope_in model block) (body_of block part) s).ports.samples

-- the samples of each port of a block come after those of the port before
abbrev pub PortsLieInOrder : Type 0
PortsLieInOrder = (model : PureTree) (checked : Checked) (number : ℕ) → IsCheckedOf model checked
    → AreConsecutive 0 (port_spans_of checked number)
