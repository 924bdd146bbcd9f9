-- All faults of types, widths and bodies of a model (own).
use Rattle.std.specs.Prelude.{List, [], ◌++◌, Option, Some, None, slice_get, true}
use Rattle.std.specs.List.{flat_map}
use Rattle.tdf_base.specs.Limits.{most_traces}
use Rattle.tdf_base.specs.declared.codes.Code.TheVariants as code
use Rattle.tdf_expr_blocks.specs.Blocks.{tdf_faults, de_faults, composite_faults}
use Rattle.tdf_expr_blocks.specs.Lines.{shape_faults}
use Rattle.tdf_base.specs.First.{fault_if}
use Rattle.tdf_base.specs.declared.first.LineFault.{LineFault}
use Rattle.tdf_expr_symbols.specs.Names.{Names, globals_of}
use Rattle.tdf_lang_tree.specs.Pure.{PureGlobal, GShape, GTdf, GDe, GNet, PureTrace, PureTree}

unfoldable pub global_faults : Names → PureGlobal → List LineFault
global_faults globals (GShape t) = shape_faults t.line t.shape
global_faults globals (GTdf block) = tdf_faults globals block
global_faults globals (GDe block) = de_faults globals block
global_faults globals (GNet block) = composite_faults globals block

-- the trace that is one too many
abbrev pub extra_faults : Option PureTrace → List LineFault
extra_faults None = []
extra_faults (Some trace) = fault_if true code.Limit trace.line

abbrev pub traces_faults : List PureTrace → List LineFault
traces_faults traces = extra_faults (slice_get traces most_traces)

abbrev pub faults_in : Names → PureTree → List LineFault
faults_in globals model =
    flat_map (global_faults globals) model.globals
    ++ (composite_faults globals model.top ++ traces_faults model.traces)

-- all faults of a model, in no order that matters; each name is looked up among all of its block
-- and all global ones
unfoldable pub type_faults : PureTree → List LineFault
type_faults model = faults_in (globals_of model.globals) model
