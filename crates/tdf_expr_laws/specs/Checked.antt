-- What is read off the checked bodies of a model is what its tree says.
-- Source: own.
use Rattle.std.specs.Prelude.{◌≡◌, ℕ, length, map, Some, slice_get}
use Rattle.tdf_expr.specs.Blocks.{PureBlock, blocks_of, scope_of}
use Rattle.tdf_expr.specs.Checked.{IsCheckedOf}
use Rattle.tdf_expr.specs.Made.{block_count, cell_formats, event_count, port_spans_of, rate_spans_of}
use Rattle.tdf_expr.specs.Made.{sample_count, start_cells}
use Rattle.tdf_expr.specs.Plans.{cell_starts, place_of_span, port_places, rate_spans, shape_written}
use Rattle.tdf_expr.specs.declared.checked.Checked.{Checked}
use Rattle.tdf_expr_semantics.specs.Places.{cell_shapes, events_of, sample_shapes, total}
use Rattle.tdf_expr_symbols.specs.Names.{Names, globals_of}
use Rattle.tdf_expr_symbols.specs.Scope.{Scope}
use Rattle.tdf_lang_tree.specs.Pure.{PureTree}

-- of a block: formats and starting values of its cells, rate variables, ports, samples and events
pub record IsReadOff (own : Names) (checked : Checked) (number : ℕ) : Type 0 where
  pub formats : map shape_written (cell_formats checked number) ≡ cell_shapes own
  pub starts : start_cells checked number ≡ cell_starts own
  pub rates : rate_spans_of checked number ≡ rate_spans own
  pub ports : map place_of_span (port_spans_of checked number) ≡ port_places own
  pub samples : sample_count checked number ≡ length (sample_shapes own)
  pub events : event_count checked number ≡ total events_of own.things

-- there are as many blocks as the tree has, and of each the same is read
pub record IsReadOffTree (model : PureTree) (checked : Checked) : Type 0 where
  pub count : block_count checked ≡ length (blocks_of model.globals)
  pub each : (number : ℕ) (block : PureBlock)
      → slice_get (blocks_of model.globals) number ≡ Some block
      → IsReadOff (scope_of (globals_of model.globals) block).own checked number

abbrev pub CheckedIsOfTree : Type 0
CheckedIsOfTree = (model : PureTree) (checked : Checked) → IsCheckedOf model checked
    → IsReadOffTree model checked
