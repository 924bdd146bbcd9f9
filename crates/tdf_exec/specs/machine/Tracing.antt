-- How the ports whose signals are traced are gathered.
-- Source: own.
use Rattle.std.specs.List.{enumerate_from, list_any}
use Rattle.std.specs.Prelude.{◌≡◌, ◌≢◌, ◌<◌, ◌≤◌, ◌&&◌, ◌++◌, ℕ, Bool, true, false, List, [], ◌∷◌, length, map, Some, filter_map, if◌then◌else◌, slice_get, slice_index, slice_index_or, slice_set, take}
use Rattle.tdf_bind_tables.specs.FlatTables.{FlatTablesOf}
use Rattle.tdf_dynamic_plans.specs.Attributes.{AttrsOf}
use Rattle.tdf_exec.specs.Runners.{ModuleOf}
use Rattle.tdf_exec.specs.Traced.{rate_of_row, unrated_port}
use Rattle.tdf_exec_layout.specs.Traced.{is_out, is_trace_of, number_if_traced}
use Rattle.tdf_exec.specs.declared.runners.Runner.{Runner}
use Rattle.tdf_exec.specs.declared.runners.Runner.TheVariants as runner
use Rattle.tdf_exec.specs.declared.runners.TracedPort.{TracedPort}
use Rattle.tdf_streams.specs.Places.{place_of_port}
use Rattle.tdf_bind_connections.specs.declared.modules.PortRow.{PortRow}
use Rattle.tdf_bind_connections.specs.declared.traces.TraceRow.{TraceRow}

-- the signal of a trace is marked, where it is one of samples
abbrev pub marked : TraceRow → List Bool → List Bool
marked trace marks = if trace.event then marks else slice_set marks trace.signal true

-- the signals of the first n traces are marked
pub record AreMarked (traces : List TraceRow) (n : ℕ) (marks : List Bool) : Type 0 where
  pub each : (s : ℕ) → s < length marks
      → slice_index_or marks s false ≡ list_any (is_trace_of s) (take n traces)

-- whether a port writes a signal of samples which is traced
abbrev pub is_written_traced : List TraceRow → PortRow → Bool
is_written_traced traces port = is_out port.kind && list_any (is_trace_of port.signal) traces

abbrev pub traced_row : FlatTablesOf → ℕ → PortRow → TracedPort
traced_row tables number port = record {
  number = number;
  port = place_of_port tables.ports number;
  signal = port.signal;
  rate = 0;
}

-- such a port comes to its module
abbrev pub put_traced : FlatTablesOf → ℕ → PortRow → List (List TracedPort)
    → List (List TracedPort)
put_traced tables number port rows = if is_written_traced tables.traces port
    then slice_set rows port.«module»
    (slice_index_or rows port.«module» [] ++ traced_row tables number port ∷ []) else rows

-- the numbers of the traced ports of a module among the first n
abbrev pub traced_before : FlatTablesOf → (n m : ℕ) → List ℕ
traced_before tables n m = filter_map (λ port. number_if_traced tables m port.0 port.1)
    (enumerate_from 0 (take n tables.ports))

-- the first n ports are gathered by module
pub record AreTracedUpTo (tables : FlatTablesOf) (n : ℕ) (rows : List (List TracedPort))
    : Type 0 where
  pub long : length rows ≡ length tables.modules
  pub each : (m : ℕ) → m < length tables.modules → slice_index_or rows m []
      ≡ map (unrated_port tables) (traced_before tables n m)

-- a module is given its ports
abbrev pub with_traced : List TracedPort → Runner → Runner
with_traced traced (runner.Module x) = runner.Module (record x { traced = traced })
with_traced traced r = r

-- traced ports have numbers of these
abbrev pub AreNumbered : List PortRow → List TracedPort → Type 0
AreNumbered ports list = (j : ℕ) (t : TracedPort) → slice_get list j ≡ Some t
    → t.number < length ports

-- a traced port has its rate under a table
abbrev pub rated : FlatTablesOf → List AttrsOf → TracedPort → TracedPort
rated tables table t = record t { rate = rate_of_row table (slice_get tables.ports t.number) }

-- a module whose traced ports have theirs
abbrev pub with_rates : FlatTablesOf → List AttrsOf → ModuleOf → ModuleOf
with_rates tables table x = record x { traced = map (rated tables table) x.traced }

-- an actor can take such ports
abbrev pub CanGet : List PortRow → List TracedPort → Runner → Type 0
CanGet ports list (runner.Module x) = AreNumbered ports list
CanGet ports list _ = Unit {0}

-- the actors with the first n of these numbers have taken theirs, with the rates under a table, and
-- all others are as they were
pub record AreGivenTraced (tables : FlatTablesOf) (table : List AttrsOf) (numbers : List ℕ) (n : ℕ)
    (rows now : List (List TracedPort)) (old new : List Runner) : Type 0 where
  pub many : length now ≡ length rows
  pub same : length new ≡ length old
  pub done : (i : ℕ) (list : List TracedPort) (r : Runner) → i < n
      → slice_get rows (slice_index numbers i) ≡ Some list
      → slice_get old (slice_index numbers i) ≡ Some r
      → slice_get new (slice_index numbers i)
      ≡ Some (with_traced (map (rated tables table) list) r)
  pub past : (m : ℕ) → length rows ≤ m → slice_get new m ≡ slice_get old m
  pub waiting : (m : ℕ) → ((i : ℕ) → i < n → slice_index numbers i ≢ m)
      → slice_get new m ≡ slice_get old m
  pub left : (m : ℕ) → ((i : ℕ) → i < n → slice_index numbers i ≢ m)
      → slice_get now m ≡ slice_get rows m
