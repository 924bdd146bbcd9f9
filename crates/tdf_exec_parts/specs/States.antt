-- The states that a cluster can go on from at a time: what the table of the text has room for, a
-- table with its plan, and on each edge what the firings so far leave there.
-- Source: own.
use Rattle.std.specs.List.{count_by, range_with_len}
use Rattle.std.specs.Prelude.{◌≡◌, ◌⊎◌, ◌+◌, ◌*◌, ◌<◌, ◌≤◌, ℕ, ℤ, true, List, [], All, Option, Some, length, nat_lt, slice_get, slice_index, slice_index_or}
use Rattle.tdf_base.specs.Limits.{time_end}
use Rattle.tdf_bind.specs.declared.model.Flat.{Flat}
use Rattle.tdf_bind_tables.specs.FlatTables.{FlatTablesOf}
use Rattle.tdf_dynamic_first.specs.Text.{first_table}
use Rattle.tdf_dynamic_plans.specs.Attributes.{AttrsOf}
use Rattle.tdf_dynamic_plans.specs.Faults.{IsTablePlan}
use Rattle.tdf_dynamic_plans.specs.Rates.{net_of}
use Rattle.tdf_dynamic_values.specs.States.{IsTableOfStates}
use Rattle.tdf_dynamic_values.specs.Values.{limits_of_row}
use Rattle.tdf_exec_layout.specs.Samples.{edge_format}
use Rattle.tdf_expr.specs.Made.{CellsFit}
use Rattle.tdf_expr_semantics.specs.Fits.{RatesFit}
use Rattle.tdf_fixed.specs.Overflow.{IsOfWidth}
use Rattle.tdf_fixed.specs.declared.format.Format.{Format}
use Rattle.tdf_saved.specs.State.{ClusterStateOf, ModuleStateOf}
use Rattle.tdf_schedule.specs.Plan.{done}
use Rattle.tdf_schedule.specs.declared.entry.Entry.{Entry}
use Rattle.tdf_schedule.specs.declared.entry.Plan.{Plan}
use Rattle.tdf_exec_layout.specs.Below.{block_at, held_at_head, is_own, read_rates, reader_at, write_rates, writer_at}

-- a module with as many rates, timesteps and values as a row of the table has, within their limits
pub record IsStateOfRow (flat : Flat) (attrs : AttrsOf) (m : ModuleStateOf) : Type 0 where
  pub rates : RatesFit (limits_of_row flat attrs) m.rates
  pub long : length m.steps ≡ length attrs.steps
  pub short : All (λ step. step < time_end) m.steps
  pub cells : CellsFit flat.checked (block_at flat.tables.modules attrs.number) m.cells

-- a module for each row, in order
pub record AreStatesOfRows (flat : Flat) (table : List AttrsOf) (modules : List ModuleStateOf)
    : Type 0 where
  pub long : length modules ≡ length table
  pub each : (i : ℕ) (attrs : AttrsOf) (m : ModuleStateOf) → slice_get table i ≡ Some attrs
      → slice_get modules i ≡ Some m → IsStateOfRow flat attrs m

-- how many entries of a plan are due before a time, where the period began at `start`
abbrev pub due_before : (start time : ℕ) → List Entry → ℕ
due_before start time entries =
    count_by (λ (x : Entry). nat_lt (start + x.offset) time) entries

-- either nothing has happened at all, or the time lies after the beginning of the period, up to its
-- end
abbrev pub IsInPeriod : (start time period : ℕ) → Type 0
IsInPeriod start time period =
    ((start ≡ 0) × (time ≡ 0)) ⊎ ((start < time) × (time ≤ start + period))

-- so many samples are on an edge: those at the head of a period, and what was written and not read
abbrev pub IsFilledTo : (tables : FlatTablesOf) → (cluster : ℕ) → List AttrsOf → List Entry
    → (place e count : ℕ) → Type 0
IsFilledTo tables cluster table entries place e count = count
    + done entries place (reader_at tables.edges e)
    * slice_index (read_rates (net_of tables table)) e
    ≡ held_at_head tables cluster e
    + done entries place (writer_at tables.edges e)
    * slice_index (write_rates (net_of tables table)) e

-- each number is in the range of the format of an edge
abbrev pub AreInFormat : Option Format → List ℤ → Type 0
AreInFormat format nums = (f : Format) → format ≡ Some f → All (IsOfWidth f.signed f.wl) nums

-- an edge holds what was written and not read up to a place of the plan, each in its format
pub record HoldsUpTo (tables : FlatTablesOf) (cluster : ℕ) (table : List AttrsOf)
    (entries : List Entry) (place e : ℕ) (nums : List ℤ) : Type 0 where
  pub held : IsFilledTo tables cluster table entries place e (length nums)
  pub format : AreInFormat (edge_format tables e) nums

-- the place of an edge among those of its cluster: how many of them have smaller numbers
abbrev pub place_of_edge : FlatTablesOf → (cluster e : ℕ) → ℕ
place_of_edge tables cluster e = count_by (is_own tables cluster) (range_with_len 0 e)

-- the samples of the edges of the cluster, by number
pub record HoldEdges (tables : FlatTablesOf) (cluster : ℕ) (table : List AttrsOf)
    (entries : List Entry) (place : ℕ) (edges : List (List ℤ)) : Type 0 where
  pub long : length edges ≡ place_of_edge tables cluster (length tables.edges)
  pub each : (e : ℕ) → e < length tables.edges → is_own tables cluster e ≡ true
      → HoldsUpTo tables cluster table entries place e
      (slice_index_or edges (place_of_edge tables cluster e) [])

-- a state that the cluster can go on from at a time, under the table that it says and its plan
pub record IsStateUnder (flat : Flat) (cluster : ℕ) (s : ClusterStateOf) (time : ℕ)
    (table : List AttrsOf) (plan : Plan) : Type 0 where
  pub modules : AreStatesOfRows flat (first_table flat cluster) s.modules
  pub table_is : IsTableOfStates flat cluster s.modules table
  pub planned : IsTablePlan flat.tables cluster table plan
  pub inside : IsInPeriod s.start time plan.period
  pub edges : HoldEdges flat.tables cluster table plan.entries.items
      (due_before s.start time plan.entries.items) s.edges

-- a state that the cluster can go on from at a time
pub record IsStateAt (flat : Flat) (cluster : ℕ) (s : ClusterStateOf) (time : ℕ) : Type 0 where
  pub table : List AttrsOf
  pub plan : Plan
  pub is : IsStateUnder flat cluster s time table plan
