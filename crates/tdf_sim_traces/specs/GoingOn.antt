-- A trace that goes on from the states of its columns.
-- Source: own.
use Rattle.std.specs.Prelude.{◌≡◌, ◌⊎◌, ◌<◌, ℕ, Err, List, Result, Some, length, slice_get}
use Rattle.tdf_bind.specs.declared.model.Flat.{Flat}
use Rattle.tdf_fixed.specs.declared.raw.Raw.{Raw}
use Rattle.tdf_saved.specs.State.{ColumnStateOf}
use Rattle.tdf_saved.specs.declared.err.StateErr.TheVariants as why
use Rattle.tdf_saved.specs.declared.err.StateErr.{StateErr}
use Rattle.tdf_sim_traces.specs.Events.{AreEventColumns}
use Rattle.tdf_sim_traces.specs.Variables.{variables_of}
use Rattle.tdf_sim_traces.specs.declared.events.EventColumn.{EventColumn}
use Rattle.tdf_sim_traces.specs.declared.shown.Shown.{Shown}
use Rattle.tdf_trace.specs.Stands.{Stands}
use Rattle.tdf_trace.specs.States.{cells_of_states}
use Rattle.tdf_trace.specs.Writings.{about_of}
use Rattle.tdf_trace.specs.declared.stage.Stage.TheVariants.{Open}
use Rattle.tdf_trace_rows.specs.declared.kinds.TraceKind.{TraceKind}

-- the signals of the columns of events have values
abbrev pub HaveValues : List EventColumn → List Raw → Type 0
HaveValues events values =
    (k : ℕ) (e : EventColumn) → slice_get events k ≡ Some e → e.signal < length values

-- the trace stands for the cells of the states, with rows to be written from a time on; the columns
-- of event signals show these values, and nothing else has changed
pub record GoesOnFromStates (kind : TraceKind) (flat : Flat) (states : List ColumnStateOf)
    (values : List Raw) (rows : ℕ) (old new : Shown) : Type 0 where
  pub about : new.trace.about ≡ about_of kind flat.resolution (variables_of flat.tables)
  pub stage : new.trace.stage ≡ Open
  pub upto : new.trace.rows.upto ≡ rows
  pub stands : Stands (cells_of_states (variables_of flat.tables) states) new.trace.rows
  pub events : (was : List Raw) → AreEventColumns flat.tables.traces was old.events.items
      → AreEventColumns flat.tables.traces values new.events.items
  pub tracking : new.tracking ≡ old.tracking
  pub signals : new.signals ≡ old.signals

-- nothing was made, for a bad state or for want of memory
abbrev pub IsNotMade : {T : Type 0} → Result T StateErr → Type 0
IsNotMade result = (result ≡ Err why.Bad) ⊎ (result ≡ Err why.Memory)
