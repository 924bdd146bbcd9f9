-- The cells of a run that is shown, by its spans and samples.
use Rattle.std.proofs.Common.{◌≡◌, ◌∙◌, ◌≤◌, ◌+◌, ℕ, Bool, true, false, if◌then◌else◌, Option, Some, None, option_map, List, length, slice_get, refl, ap, sym, inl, inr, arith}
use Rattle.std.proofs.lemmas.Bool.{cases_lt}
use Rattle.tdf_bind.specs.declared.model.Flat.{Flat}
use Rattle.tdf_bind_connections.specs.declared.traces.TraceRow.{TraceRow}
use Rattle.tdf_events.specs.Side.{SideOf}
use Rattle.tdf_fixed.specs.declared.raw.Raw.{Raw}
use Rattle.tdf_lang_tree.specs.Pure.{PureTree}
use Rattle.tdf_sim_history.specs.Cells.{cell_or, changed_cell, driver_of_row, event_column_cell, is_same_value, run_cells, signal_cell, trace_cell, value_before, world_before}
use Rattle.tdf_sim_history.specs.Columns.{stamp_at, start_of}
use Rattle.tdf_sim_history.specs.Rules.{rules_of}
use Rattle.tdf_sim_history.specs.World.{World}
use Rattle.tdf_sim_traces.proofs.Api.{sample_cell}
use Rattle.tdf_sim_traces.specs.Shown.{IsShown}
use Rattle.tdf_sim_traces.specs.Signals.{AreTold}
use Rattle.tdf_sim_traces.specs.declared.shown.Shown.{Shown}
use Rattle.tdf_streams.proofs.Api.{get_inside, none_some, some_same}
use Rattle.tdf_trace_rows.specs.Positions.{Span, cell_of, position_at}
use Rattle.tdf_trace_rows.specs.Rows.{Cells}

-- no cell of an event signal is unknown
never : (o : Option Raw) (before after : Raw) → cell_or o (changed_cell before after) ≡ Some None → ⊥
never (Some v) before after is = none_some v (sym (some_same (Some v) None is))
never None before after is = go (is_same_value before after) is
  where
    go : (b : Bool) → (if b then None else Some (Some after)) ≡ Some None → ⊥
    go true same = none_some None same
    go false same = none_some after (sym (some_same (Some after) None same))

-- a position without a sample
pub record IsUnknown (spans : List Span) (samples : List Raw) (time : ℕ) : Type 0 where
  pub position : ℕ
  pub at : position_at 0 spans time ≡ Some position
  pub past : length samples ≤ position

pub unknown_at : (spans : List Span) (samples : List Raw) (time : ℕ) → cell_of spans samples time ≡ Some None → IsUnknown spans samples time
unknown_at spans samples time is = go (position_at 0 spans time) refl is
  where
    go : (o : Option ℕ) → position_at 0 spans time ≡ o → option_map (slice_get samples) o ≡ Some None → IsUnknown spans samples time
    go None at none = absurd (none_some None none)
    go (Some j) at none = record {
      position = j;
      at = at;
      past = elim (cases_lt j (length samples)) [
        | inl inside ↦ absurd (let v = get_inside samples j inside in none_some v.0 (sym (some_same (slice_get samples j) None none) ∙ v.1))
        | inr past ↦ past
      ];
    }

module _ (model : PureTree) (flat : Flat) (start : World SideOf) (time : ℕ) (s : Shown) (tells : AreTold flat.tables)
    (shown : IsShown model flat start time (world_before model flat (rules_of model flat) start time) s) where
  abbrev pub cells : Cells
  cells = run_cells model flat (rules_of model flat) start time

  -- the cell of a column of samples
  pub sample_here : (column t : ℕ) (row : TraceRow) → slice_get flat.tables.traces column ≡ Some row → row.event ≡ false → cells.at column t ≡ cell_of (shown.spans row.signal) (shown.samples row.signal) t
  sample_here column t row at plain =
      ap (trace_cell model flat (rules_of model flat) start time t (start_of start.shown column)) at
      ∙ ap (λ (b : Bool). if b then event_column_cell model flat (rules_of model flat) start (start_of start.shown column) row.signal t
      else signal_cell model flat (start_of start.shown column) t (world_before model flat (rules_of model flat) start time).clusters row.signal) plain
      ∙ sym (sample_cell model flat start time s tells shown column t row at plain (driver_of_row (slice_get flat.tables.signals row.signal)) refl)

  -- that of a column of an event signal
  pub event_at : (column t : ℕ) (row : TraceRow) → slice_get flat.tables.traces column ≡ Some row → row.event ≡ true → cells.at column t ≡ event_column_cell model flat (rules_of model flat) start (start_of start.shown column) row.signal t
  event_at column t row at event =
      ap (trace_cell model flat (rules_of model flat) start time t (start_of start.shown column)) at
      ∙ ap (λ (b : Bool). if b then event_column_cell model flat (rules_of model flat) start (start_of start.shown column) row.signal t
      else signal_cell model flat (start_of start.shown column) t (world_before model flat (rules_of model flat) start time).clusters row.signal) event

  pub event_known : (column t : ℕ) (row : TraceRow) → slice_get flat.tables.traces column ≡ Some row → row.event ≡ true → cells.at column t ≡ Some None → ⊥
  event_known column t row at event is = never (stamp_at (start_of start.shown column).stamps t)
      (value_before model flat (rules_of model flat) start row.signal t) (value_before model flat (rules_of model flat) start row.signal (t + 1)) (sym (event_at column t row at event) ∙ is)
