-- The driver of a table in a flat model: where its instance, its process, its ports and its events
-- stand, and that no other process gives its signals values or notifies its events.
-- Source: own.
use Rattle.std.specs.List.{list_any, range_with_len}
use Rattle.std.specs.Prelude.{◌≡◌, ◌≢◌, ◌<◌, ◌≤◌, ℕ, ◌+◌, ◌-◌, ◌*◌, ◌^◌, Bool, true, false, if◌then◌else◌, nat_eq, List, [], ◌∷◌, length, Some, pos, slice_get, slice_index, slice_index_or, slice_set}
use Rattle.tdf_bind.specs.declared.model.Flat.{Flat}
use Rattle.tdf_bind_connections.specs.ProcessBlocks.{BlockRowOf, ProcessRowOf}
use Rattle.tdf_events.specs.Processes.{owned_events, process_done}
use Rattle.tdf_expr.specs.Blocks.{Events, blocks_of, body_of}
use Rattle.tdf_expr.specs.Made.{event_count, port_spans_of, start_cells, start_rates}
use Rattle.tdf_expr.specs.Plans.{shape_of_format}
use Rattle.tdf_expr.specs.Runs.{scope_in}
use Rattle.tdf_expr.specs.declared.bodies.Body.TheVariants.{Process}
use Rattle.tdf_expr.specs.declared.spans.PortSpan.{PortSpan}
use Rattle.tdf_expr_names.specs.Names.{de_lines_faults}
use Rattle.tdf_expr_semantics.specs.Value.{literal_in, nothing}
use Rattle.tdf_expr_state.specs.State.{FrameState, cell_at}
use Rattle.tdf_fixed.specs.declared.raw.Raw.{Raw}
use Rattle.tdf_lang_tree.specs.Pure.{PureDe, PureTree}
use Rattle.tdf_lang_tree.specs.declared.names.Lit.{Lit}
use Rattle.tdf_stim.specs.Driver.{driver_block, driver_body, literals}
use Rattle.tdf_stim.specs.Signals.{Column}
use Rattle.tdf_stim_body.specs.Names.{HasDriverNames}
use Rattle.tdf_stim_body.specs.Runs.{FewRows, count_cell}
use Rattle.tdf_stim_history.specs.Driver.{DriverOf}
use Rattle.tdf_stim_lines.specs.Numbered.{de_at, stmts_at}

-- the literal of a column in a row, and its value in the column's format
abbrev pub row_literal : Column → (row : ℕ) → Lit
row_literal c row = slice_index_or (literals c.start c.cells) row c.start

abbrev pub row_value : Column → (row : ℕ) → Raw
row_value c row = literal_in (Some c.shape) (row_literal c row)

-- the value that a signal gets in a row: that of the column of the first port that reaches it
unfoldable pub signal_value : (signals : List ℕ) → List Column → (row signal : ℕ) → Raw
signal_value [] columns row signal = nothing
signal_value (s ∷ ss) [] row signal = nothing
signal_value (s ∷ ss) (c ∷ cs) row signal =
    if nat_eq signal s then row_value c row else signal_value ss cs row signal

-- a port of one sample, at its own place, in the format of a column
pub record IsColumnSpan (spans : List PortSpan) (j : ℕ) (c : Column) : Type 0 where
  pub span : PortSpan
  pub at : slice_get spans j ≡ Some span
  pub first : span.first ≡ j
  pub shape : shape_of_format span.format ≡ c.shape

-- the driver's instance of its block
pub record IsDriverInstance (model : PureTree) (flat : Flat) (columns : List Column)
    (times : List ℕ) (owner : ℕ) (block : BlockRowOf) : Type 0 where
  pub at : slice_get flat.tables.blocks owner ≡ Some block
  pub de : PureDe
  pub text : slice_get (blocks_of model.globals) block.block ≡ Some (Events de)
  -- its names and its body, whatever the lines of its text
  pub names : HasDriverNames (scope_in model (Events de)).own columns (length times)
  pub line : ℕ
  pub body : body_of (Events de) (Process 0) ≡ stmts_at line (driver_body (length columns) times)
  -- each port reaches another signal
  pub ports : length block.signals ≡ length columns
  pub spans : length (port_spans_of flat.checked block.block) ≡ length columns
  pub span : (j : ℕ) (c : Column) → slice_get columns j ≡ Some c
      → IsColumnSpan (port_spans_of flat.checked block.block) j c
  pub apart : (i j signal : ℕ) → slice_get block.signals i ≡ Some signal
      → slice_get block.signals j ≡ Some signal → i ≡ j
  pub signals : (j signal : ℕ) → slice_get block.signals j ≡ Some signal
      → signal < length flat.tables.de_signals
  -- what it holds at the start
  pub cells : length (start_cells flat.checked block.block) ≡ count_cell columns (length times) + 1
  pub cell : (j row : ℕ) (c : Column) → slice_get columns j ≡ Some c → row < length times
      → cell_at (start_cells flat.checked block.block) (length times * j + row)
      ≡ (row_value c row).num
  pub count : cell_at (start_cells flat.checked block.block) (count_cell columns (length times))
      ≡ pos 0

-- the block of an instance is that of a driver as the text has it, with no name declared twice
pub record IsDriverText (model : PureTree) (flat : Flat) (columns : List Column) (times : List ℕ)
    (owner : ℕ) (block : BlockRowOf) : Type 0 where
  pub at : slice_get flat.tables.blocks owner ≡ Some block
  pub name : List ℕ
  pub line : ℕ
  pub text : slice_get (blocks_of model.globals) block.block
      ≡ Some (Events (de_at line (driver_block name columns times)))
  pub names : List (List ℕ)
  pub once : de_lines_faults names [] (de_at line (driver_block name columns times)).decls ≡ []
  pub cells : (j : ℕ) (c : Column) → slice_get columns j ≡ Some c
      → length c.cells ≡ length times
  pub ports : length block.signals ≡ length columns
  pub apart : (i j signal : ℕ) → slice_get block.signals i ≡ Some signal
      → slice_get block.signals j ≡ Some signal → i ≡ j
  pub signals : (j signal : ℕ) → slice_get block.signals j ≡ Some signal
      → signal < length flat.tables.de_signals

-- its process, which is sensitive to its events, one for each row but the first
pub record IsDriverRun (flat : Flat) (times : List ℕ) (owner process first : ℕ)
    (block : BlockRowOf) (row : ProcessRowOf) : Type 0 where
  pub at : slice_get flat.tables.processes process ≡ Some row
  pub owner_is : row.owner ≡ owner
  pub number : row.number ≡ 0
  pub starts : row.starts ≡ true
  pub signals : row.signals ≡ []
  pub events : row.events ≡ range_with_len first (length times - 1)
  pub owned : owned_events flat owner ≡ range_with_len first (length times - 1)
  pub count : event_count flat.checked block.block ≡ length times - 1
  pub inside : first + (length times - 1) ≤ length flat.tables.events

-- the times of the rows: the first is 0, and they rise, as counts of 64 bits
pub record AreRisingTimes (times : List ℕ) : Type 0 where
  pub some : 0 < length times
  pub start : slice_index times 0 ≡ 0
  pub rising : (row later : ℕ) → row < later → later < length times
      → slice_index times row < slice_index times later
  pub small : (row : ℕ) → row < length times → slice_index times row < 2 ^ 64

-- the driver of some columns in a flat model
pub record IsDriverIn (model : PureTree) (flat : Flat) (columns : List Column)
    (times : List ℕ) : Type 0 where
  pub owner : ℕ
  pub process : ℕ
  pub first : ℕ
  pub block : BlockRowOf
  pub row : ProcessRowOf
  pub instance : IsDriverInstance model flat columns times owner block
  pub run : IsDriverRun flat times owner process first block row
  pub rising : AreRisingTimes times
  pub few : FewRows (length times)

-- whether one of these signals is a signal
abbrev pub is_one_of : List ℕ → (number : ℕ) → Bool
is_one_of numbers number = list_any (nat_eq number) numbers

-- each other process is one of another instance, and assigns no port that reaches a driven signal
pub record IsAlone (model : PureTree) (flat : Flat) (owner process : ℕ) (signals : List ℕ)
    : Type 0 where
  pub others : (n : ℕ) (row : ProcessRowOf) → slice_get flat.tables.processes n ≡ Some row
      → n ≢ process → row.owner ≢ owner
  pub ports : (n j : ℕ) (row : ProcessRowOf) (block : BlockRowOf) (values : List Raw)
      → (frame : FrameState) → slice_get flat.tables.processes n ≡ Some row → n ≢ process
      → slice_get flat.tables.blocks row.owner ≡ Some block
      → slice_index_or (process_done model flat row block values frame).ports.assigned j false
      ≡ true → is_one_of signals (slice_index block.signals j) ≡ false

-- as a driver: the value of each signal by row, and the time of each event
abbrev pub placed_driver : (model : PureTree) → (flat : Flat) → (columns : List Column)
    → (times : List ℕ) → IsDriverIn model flat columns times → DriverOf
placed_driver model flat columns times d = record {
  process = d.process;
  owner = d.owner;
  drives = is_one_of d.block.signals;
  owns = is_one_of d.row.events;
  held = λ runs. record {
    cells = slice_set (start_cells flat.checked d.block.block)
        (count_cell columns (length times)) (pos runs);
    rates = start_rates flat.checked d.block.block;
  };
  due = λ event. slice_index times (event - d.first + 1);
  rows = length times;
  time = slice_index times;
  cell = signal_value d.block.signals columns;
}
