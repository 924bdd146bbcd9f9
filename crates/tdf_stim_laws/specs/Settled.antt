-- The law on driven signals: in a run of the driven tree each driving signal has, at each time up
-- to which the run goes on, the cell of the last row at or before that time, cast to its format.
-- Source: own.
use Rattle.std.specs.Prelude.{◌≡◌, ℕ, ◌+◌, Contains, List, Some, slice_get}
use Rattle.tdf_bind.specs.Flat.{IsFlatOf}
use Rattle.tdf_bind.specs.Laws.{PassesChecks}
use Rattle.tdf_bind.specs.declared.model.Flat.{Flat}
use Rattle.tdf_bind_connections.specs.declared.drivers.SignalRow.{SignalRow}
use Rattle.tdf_dynamic_first.specs.declared.first.First.{First}
use Rattle.tdf_events.specs.Side.{SideOf}
use Rattle.tdf_events_invariants.specs.Runnable.{DeclareEventPorts}
use Rattle.tdf_expr_semantics.specs.Value.{literal_in}
use Rattle.tdf_fixed.specs.declared.raw.Raw.{Raw}
use Rattle.tdf_lang_tree.specs.Pure.{PureTree}
use Rattle.tdf_lang_tree.specs.declared.names.Lit.{Lit}
use Rattle.tdf_sim.specs.Runs.{IsAcceptedTree}
use Rattle.tdf_sim.specs.declared.sim.Sim.{Sim}
use Rattle.tdf_sim_history.specs.History.{On, history}
use Rattle.tdf_sim_history.specs.Rules.{start_world, world_engine}
use Rattle.tdf_sim_history.specs.World.{Change, World}
use Rattle.tdf_stim.specs.Drivable.{IsDrivable}
use Rattle.tdf_stim.specs.Driven.{driven_tree, times_of}
use Rattle.tdf_stim.specs.Driver.{literals}
use Rattle.tdf_stim.specs.Signals.{Column, driving}
use Rattle.tdf_stim_history.specs.Literals.{literal_at}
use Rattle.tdf_tables.specs.Tables.{IsTableForm, TableOf}

-- the event signal that a column names, the one that has this path, has the value of the column's
-- literal at a time, cast to the column's format; a path without a point is that of a signal of
-- `top`
pub record HasColumnValue (flat : Flat) (times : List ℕ) (values : List Raw) (time : ℕ)
    (c : Column) : Type 0 where
  pub number : ℕ
  pub row : SignalRow
  pub at : slice_get flat.tables.de_signals number ≡ Some row
  pub path : row.path ≡ c.label
  pub only : (n : ℕ) (other : SignalRow) → slice_get flat.tables.de_signals n ≡ Some other
      → other.path ≡ c.label → n ≡ number
  pub lit : Lit
  pub literal : literal_at times (literals c.start c.cells) time ≡ Some lit
  pub value : slice_get values number ≡ Some (literal_in (Some c.shape) lit)

-- so it is with each driving column of a table
abbrev pub AreDriven : PureTree → TableOf → Flat → (values : List Raw) → (time : ℕ) → Type 0
AreDriven tree table flat values time = (c : Column) → Contains (driving tree table) c
    → HasColumnValue flat (times_of tree table) values time c

-- the law
abbrev pub DrivesSignals : Type 0
DrivesSignals = (tree : PureTree) (table : TableOf) (flat : Flat) (firsts : List First)
    → (ahead : List (List Change)) (turns time : ℕ) (w : World SideOf) → IsTableForm table
    → IsDrivable tree table → PassesChecks (driven_tree tree table)
    → DeclareEventPorts (driven_tree tree table)
    → IsFlatOf (driven_tree tree table) flat
    → history (world_engine (driven_tree tree table) flat) 0
    (start_world (driven_tree tree table) flat firsts ahead turns) (time + 1) ≡ On w
    → AreDriven tree table flat w.events.values time

-- the same of the model that `drive` runs, the accepted one of the driven tree
abbrev pub DrivesAcceptedSignals : Type 0
DrivesAcceptedSignals = (tree : PureTree) (table : TableOf) (sim : Sim)
    → (ahead : List (List Change)) (turns time : ℕ) (w : World SideOf) → IsTableForm table
    → IsDrivable tree table → IsAcceptedTree (driven_tree tree table) sim
    → history (world_engine (driven_tree tree table) sim.flat) 0
    (start_world (driven_tree tree table) sim.flat sim.firsts.items ahead turns) (time + 1) ≡ On w
    → AreDriven tree table sim.flat w.events.values time
