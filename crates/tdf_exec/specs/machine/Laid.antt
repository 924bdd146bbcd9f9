-- What the tables of a sound flat model have, and the parts of a cluster at its start.
-- Source: own.
use Rattle.std.specs.Prelude.{◌≡◌, ◌≢◌, ◌<◌, ◌≤◌, ℕ, List, [], Some, length, map, replicate, slice_get, slice_index_or}
use Rattle.tdf_bind_tables.specs.FlatTables.{FlatTablesOf}
use Rattle.tdf_bind_tables.specs.declared.actors.ActorRow.{ActorRow}
use Rattle.tdf_cluster_plans.specs.Groups.{TableGroupsOf}
use Rattle.tdf_dynamic_plans.specs.Attributes.{AttrsOf}
use Rattle.tdf_dynamic_plans.specs.Rates.{net_of}
use Rattle.tdf_dynamic_first.specs.declared.first.First.{First}
use Rattle.tdf_exec.specs.Made.{KeepRates}
use Rattle.tdf_exec.specs.Starts.{BeginWithRates, IsSoundFlat}
use Rattle.tdf_exec.specs.Traced.{traced_port}
use Rattle.tdf_exec.specs.declared.runners.Runner.{Runner}
use Rattle.tdf_exec.specs.machine.Starting.{AreFirstRunners}
use Rattle.tdf_exec.specs.machine.Tracing.{with_traced}
use Rattle.tdf_exec.specs.views.Actors.{ActorsOf, spread_runners}
use Rattle.tdf_expr.specs.Made.{port_spans_of}
use Rattle.tdf_expr_state.specs.State.{FrameState}
use Rattle.tdf_exec_firing.specs.Edges.{EdgesOf}
use Rattle.tdf_exec_firing.specs.Wires.{AreWired, WiresOf}
use Rattle.tdf_bind.specs.declared.model.Flat.{Flat}
use Rattle.tdf_bind_invariants.specs.Formats.{IsOwnPort}
use Rattle.tdf_exec_layout.specs.Edges.{IsEdgeRow}
use Rattle.tdf_exec_layout.specs.Samples.{EdgeHasFormat}
use Rattle.tdf_exec_layout.specs.Traced.{traced_ports}
use Rattle.tdf_exec_layout.specs.Wires.{IsWiringOf, SinksHaveOne}
use Rattle.tdf_exec_layout.specs.Wiring.{AreWiresOf}
use Rattle.tdf_exec_layout.specs.declared.wiring.ActorWires.{ActorWires}
use Rattle.tdf_exec_layout.specs.declared.wiring.ActorWires.TheVariants.{Elsewhere}
use Rattle.tdf_bind_invariants.specs.Limits.{AreWithinLimits}
use Rattle.tdf_places.specs.Spread.{spread}
use Rattle.tdf_rings.specs.Rings.{RingOf, ring_of}
use Rattle.tdf_streams.specs.Periods.{read_rates, write_rates}
use Rattle.tdf_streams.specs.Places.{block_at}
use Rattle.tdf_bind_connections.specs.declared.edges.EdgeRow.{EdgeRow}
use Rattle.tdf_bind_connections.specs.declared.modules.PortRow.{PortRow}

pub record IsLaid (flat : Flat) : Type 0 where
  pub limits : AreWithinLimits flat
  pub rows : (e : ℕ) (edge : EdgeRow) → slice_get flat.tables.edges e ≡ Some edge
      → IsEdgeRow flat.tables edge
  pub sinks : SinksHaveOne flat.tables
  pub wired : (m : ℕ) (wires : WiresOf) → m < length flat.tables.modules
      → AreWiresOf flat.tables m wires
      → AreWired wires (port_spans_of flat.checked (block_at flat.tables.modules m))
      (length flat.tables.edges)
  pub formats : (e : ℕ) (edge : EdgeRow) → slice_get flat.tables.edges e ≡ Some edge
      → EdgeHasFormat flat e edge
  pub ports : (number : ℕ) (port : PortRow) → slice_get flat.tables.ports number ≡ Some port
      → IsOwnPort flat number port
  pub keep : KeepRates flat.checked
  pub begin : BeginWithRates flat.checked

abbrev pub SoundIsLaid : Type 0
SoundIsLaid = (flat : Flat) → IsSoundFlat flat → IsLaid flat

-- what each actor of a cluster is told of its edges; of actors of other clusters nothing is told
pub record AreClusterWires (tables : FlatTablesOf) (cluster : ℕ) (told : List ActorWires)
    : Type 0 where
  pub long : length told ≡ length tables.actors
  pub own : (m : ℕ) (row : ActorRow) (w : ActorWires) → slice_get tables.actors m ≡ Some row
      → slice_get told m ≡ Some w → row.cluster ≡ cluster → IsWiringOf tables m row.kind w
  pub other : (m : ℕ) (row : ActorRow) (w : ActorWires) → slice_get tables.actors m ≡ Some row
      → slice_get told m ≡ Some w → row.cluster ≢ cluster → w ≡ Elsewhere

-- each module has its traced ports, with their rates under a table
pub record HaveTraced (tables : FlatTablesOf) (table : List AttrsOf) (old new : List Runner)
    : Type 0 where
  pub same : length new ≡ length old
  pub done : (m : ℕ) (r : Runner) → m < length tables.modules → slice_get old m ≡ Some r
      → slice_get new m
      ≡ Some (with_traced (map (traced_port tables table) (traced_ports tables m)) r)
  pub rest : (m : ℕ) → length tables.modules ≤ m → slice_get new m ≡ slice_get old m

-- what is kept for the actors of a cluster: each is begun by what it is told of its edges, and then
-- given its traced ports
pub record AreRunnersOf (flat : Flat) (Holds : ℕ → FrameState → Type 0) (cluster : ℕ)
    (table : List AttrsOf) (runners : List Runner) : Type 0 where
  pub wires : List ActorWires
  pub samplers : ℕ
  pub begun : List Runner
  pub wires_are : AreClusterWires flat.tables cluster wires
  pub begun_are : AreFirstRunners flat Holds (length wires) wires samplers begun
  pub given : HaveTraced flat.tables table begun runners

-- the edges and actors of a cluster under a table, out of the rings of its own edges and what is
-- kept for its own actors, both in the order of their numbers
pub record AreOutOf (tables : FlatTablesOf) (cluster : ℕ) (table : List AttrsOf)
    (groups : TableGroupsOf) (rings : List RingOf) (runners : List Runner) (edges : EdgesOf)
    (actors : ActorsOf) : Type 0 where
  pub reads_are : edges.reads ≡ read_rates (net_of tables table)
  pub writes_are : edges.writes ≡ write_rates (net_of tables table)
  pub rings_are : edges.rings ≡ spread (ring_of [] 0) (record {
    numbers = slice_index_or groups.edges cluster [];
    count = length tables.edges;
  }) rings
  pub runners_are : actors.runners
      ≡ spread_runners tables (slice_index_or groups.actors cluster []) runners
  pub none_done : actors.positions ≡ replicate (length tables.actors) 0

-- the parts of a cluster at a start, where its instances and its rings hold what is asked for
pub record AreParts (flat : Flat) (cluster : ℕ) (first : First) (Holds : ℕ → FrameState → Type 0)
    (AreFilled : List RingOf → Type 0) (reads writes : List ℕ) (rings : List RingOf)
    (runners : List Runner) (positions : List ℕ) : Type 0 where
  pub reads_are : reads ≡ read_rates (net_of flat.tables first.attrs.rows)
  pub writes_are : writes ≡ write_rates (net_of flat.tables first.attrs.rows)
  pub rings_are : AreFilled rings
  pub runners_are : AreRunnersOf flat Holds cluster first.attrs.rows runners
  pub none_done : positions ≡ replicate (length flat.tables.actors) 0
