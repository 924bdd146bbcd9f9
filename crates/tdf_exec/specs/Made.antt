-- When a cluster in progress is one of a flat model: its actors, edges and plan are those of the
-- model, and each edge holds as many samples as its firings have left.
-- Source: own.
use Rattle.std.specs.List.{All, count_by}
use Rattle.std.specs.Prelude.{◌≡◌, ℕ, ◌+◌, ◌-◌, ◌*◌, ◌^◌, ◌<◌, ◌≤◌, Bool, true, false, List, None, Some, length, slice_get, slice_index, map, take}
use Rattle.tdf_bind_tables.specs.FlatTables.{FlatTablesOf}
use Rattle.tdf_dynamic_plans.specs.Attributes.{AttrsOf, attrs_at, clusters_of, rates_in}
use Rattle.tdf_dynamic_plans.specs.Faults.{IsTablePlan}
use Rattle.tdf_dynamic_plans.specs.Known.{AreTrueFor}
use Rattle.tdf_dynamic_plans.specs.Rates.{net_of}
use Rattle.tdf_exec.specs.Cluster.{ClusterOf, next_offset}
use Rattle.tdf_exec.specs.Runners.{ModuleOf, SamplerOf}
use Rattle.tdf_exec.specs.Traced.{traced_port}
use Rattle.tdf_exec_layout.specs.Traced.{traced_ports}
use Rattle.tdf_exec.specs.declared.runners.Runner.{Runner}
use Rattle.tdf_exec.specs.declared.runners.Runner.TheVariants as runner
use Rattle.tdf_exec.specs.declared.runners.TracedPort.{TracedPort}
use Rattle.tdf_expr.specs.Blocks.{PureBlock, blocks_of, body_of}
use Rattle.tdf_expr.specs.Checked.{IsCheckedOf}
use Rattle.tdf_expr.specs.Frames.{IsOfFormat}
use Rattle.tdf_expr.specs.Made.{AreMadeFor}
use Rattle.tdf_expr.specs.Runs.{scope_in}
use Rattle.tdf_expr.specs.declared.bodies.Body.TheVariants.{Processing, Reinitialize}
use Rattle.tdf_expr.specs.declared.checked.Checked.{Checked}
use Rattle.tdf_expr.specs.declared.spans.PortSpan.{PortSpan}
use Rattle.tdf_exec_firing.specs.Firing.{AreZerosBehind}
use Rattle.tdf_exec_firing.specs.Wires.{AreWired}
use Rattle.tdf_exec_firing.specs.declared.wires.InWire.{InWire}
use Rattle.tdf_exec_firing.specs.declared.wires.OutWire.{OutWire}
use Rattle.tdf_fixed.specs.declared.format.Format.{Format}
use Rattle.tdf_bind.specs.declared.model.Flat.{Flat}
use Rattle.tdf_graph.specs.declared.actors.Actor.{Actor}
use Rattle.tdf_graph.specs.declared.actors.Actor.TheVariants as actor
use Rattle.tdf_exec_layout.specs.Samples.{edge_format}
use Rattle.tdf_exec_layout.specs.Wiring.{AreEdgesOf, AreWiresOf, IsEdgeOf, Reads, Writes}
use Rattle.tdf_expr_semantics.specs.Bodies.{after_body}
use Rattle.tdf_rings.specs.Carried.{ring_at}
use Rattle.tdf_schedule.specs.Plan.{done}
use Rattle.tdf_schedule.specs.declared.entry.Entry.{Entry}
use Rattle.tdf_schedule.specs.declared.entry.Plan.{Plan}
use Rattle.tdf_expr_state.specs.State.{State}
use Rattle.tdf_streams.specs.Periods.{AreAttributes, read_rates, write_rates}
use Rattle.tdf_streams.specs.Places.{actor_kind, block_at, reader_at, writer_at}
use Rattle.tdf_streams.specs.Starts.{held_at_head}
use Rattle.tdf_lang_tree.specs.Pure.{PureTree}

-- an actor of a cluster, of a kind
pub record IsActorOf (tables : FlatTablesOf) (cluster m : ℕ) (kind : Actor) : Type 0 where
  pub kind_is : actor_kind tables m ≡ Some kind
  pub inside : slice_index (clusters_of tables) m ≡ cluster

-- a port is one of these, and its rate at most its greatest
pub record IsInSpans (spans : List PortSpan) (t : TracedPort) : Type 0 where
  pub span : PortSpan
  pub there : slice_get spans t.port ≡ Some span
  pub rate : t.rate ≤ span.count

-- a module of the cluster: an instance of its block with the rates of a table, its wires, whose
-- rates and formats are those of its ports, and zeros beyond what it reads
pub record IsModuleWith (flat : Flat) (rated : List AttrsOf) (c : ClusterOf) (m : ℕ) (x : ModuleOf)
    : Type 0 where
  pub actor_is : IsActorOf flat.tables c.number m actor.Module
  pub block_is : x.block ≡ block_at flat.tables.modules m
  pub made : AreMadeFor flat.checked x.block x.frame x.ports
  pub rates : x.frame.state.rates ≡ rates_in (attrs_at rated m)
  pub wires_are : AreWiresOf flat.tables m x.wires
  pub wired : AreWired x.wires x.ports.spans (length flat.tables.edges)
  pub read_rate : (j : ℕ) (w : InWire) (p : PortSpan) → slice_get x.wires.ins j ≡ Some w
      → slice_get x.ports.spans w.port ≡ Some p → slice_index c.reads w.edge ≤ p.count
  pub write_rate : (j : ℕ) (w : OutWire) (p : PortSpan) → slice_get x.wires.outs j ≡ Some w
      → slice_get x.ports.spans w.port ≡ Some p → slice_index c.writes w.edge ≤ p.count
  pub read_format : (j : ℕ) (w : InWire) (p : PortSpan) → slice_get x.wires.ins j ≡ Some w
      → slice_get x.ports.spans w.port ≡ Some p → edge_format flat.tables w.edge ≡ Some p.format
  pub write_format : (j : ℕ) (w : OutWire) (p : PortSpan) → slice_get x.wires.outs j ≡ Some w
      → slice_get x.ports.spans w.port ≡ Some p → edge_format flat.tables w.edge ≡ Some p.format
  pub zeros : AreZerosBehind x.wires c.reads x.ports
  pub traced : x.traced ≡ map (traced_port flat.tables c.table) (traced_ports flat.tables m)
  pub traced_rate : (j : ℕ) (t : TracedPort) → slice_get x.traced j ≡ Some t
      → IsInSpans x.ports.spans t

-- the table is that in force, but for the time between a boundary that changed attributes and the
-- period that follows
abbrev pub IsModuleOf : Flat → ClusterOf → ℕ → ModuleOf → Type 0
IsModuleOf flat c m x = IsModuleWith flat c.table c m x

abbrev pub is_sampler_runner : Runner → Bool
is_sampler_runner (runner.Sampler s) = true
is_sampler_runner _ = false

-- how many samplers of the cluster come before an actor
abbrev pub sampler_runners_before : List Runner → ℕ → ℕ
sampler_runners_before runners m = count_by is_sampler_runner (take m runners)

-- a sampler: one sample on each of its edges, and it reads none
pub record IsSamplerOf (flat : Flat) (c : ClusterOf) (m : ℕ) (s : SamplerOf) : Type 0 where
  pub actor_is : IsActorOf flat.tables c.number m actor.Sampler
  pub edges_are : AreEdgesOf flat.tables m s.edges
  pub place_is : s.place ≡ sampler_runners_before c.runners m
  pub rate : (e : ℕ) → Writes flat.tables m e → slice_index c.writes e ≡ 1
  pub none : (e : ℕ) → Reads flat.tables m e → ⊥

-- a sink: one sample from its edge, and it writes none
pub record IsSinkOf (flat : Flat) (c : ClusterOf) (m edge : ℕ) : Type 0 where
  pub actor_is : IsActorOf flat.tables c.number m actor.Sink
  pub edge_is : IsEdgeOf flat.tables m edge
  pub rate : slice_index c.reads edge ≡ 1
  pub none : (e : ℕ) → Writes flat.tables m e → ⊥

-- what is kept for an actor is its own
abbrev pub IsRunnerWith : Flat → (rated : List AttrsOf) → ClusterOf → ℕ → Runner → Type 0
IsRunnerWith flat rated c m (runner.Module x) = IsModuleWith flat rated c m x
IsRunnerWith flat rated c m (runner.Sampler s) = IsSamplerOf flat c m s
IsRunnerWith flat rated c m (runner.Sink k) = IsSinkOf flat c m k.edge
IsRunnerWith flat rated c m runner.Outside =
    slice_index (clusters_of flat.tables) m ≡ c.number → ⊥

abbrev pub IsRunnerOf : Flat → ClusterOf → ℕ → Runner → Type 0
IsRunnerOf flat c m r = IsRunnerWith flat c.table c m r

-- each module of a cluster has a row in its table, and one alone
pub record HasRows (tables : FlatTablesOf) (cluster : ℕ) (table : List AttrsOf) : Type 0 where
  pub each : (m : ℕ) → m < length tables.modules → slice_index (clusters_of tables) m ≡ cluster
      → (i : ℕ) × (attrs : AttrsOf) × (slice_get table i ≡ Some attrs) × (attrs.number ≡ m)
  pub once : (i j : ℕ) (one other : AttrsOf) → slice_get table i ≡ Some one
      → slice_get table j ≡ Some other → one.number ≡ other.number → i ≡ j

-- the plan is that of the table
pub record IsClusterPlanned (tables : FlatTablesOf) (c : ClusterOf) : Type 0 where
  pub plan : Plan
  pub plan_is : IsTablePlan tables c.number c.table plan
  pub entries_are : plan.entries.items ≡ c.entries
  pub bounds_are : plan.bounds.items ≡ c.bounds
  pub period_is : plan.period ≡ c.period

-- along the plan only actors of the cluster fire, the samples that a firing reads are there, and no
-- edge holds more than it has room for
pub record IsClusterSafe (tables : FlatTablesOf) (c : ClusterOf) : Type 0 where
  pub inside : (i : ℕ) (x : Entry) → slice_get c.entries i ≡ Some x
      → x.actor < length tables.actors
  pub own : (i : ℕ) (x : Entry) → slice_get c.entries i ≡ Some x
      → slice_index (clusters_of tables) x.actor ≡ c.number
  pub present : (i e : ℕ) (x : Entry) → slice_get c.entries i ≡ Some x → e < length tables.edges
      → reader_at tables.edges e ≡ x.actor
      → done c.entries i (reader_at tables.edges e) * slice_index c.reads e
      + slice_index c.reads e
      ≤ held_at_head tables c.number e
      + done c.entries i (writer_at tables.edges e) * slice_index c.writes e
  pub bounded : (i e : ℕ) → i ≤ length c.entries → e < length tables.edges
      → held_at_head tables c.number e
      + done c.entries i (writer_at tables.edges e) * slice_index c.writes e
      ≤ slice_index c.bounds e
      + done c.entries i (reader_at tables.edges e) * slice_index c.reads e

-- each edge holds what was written and not read, in its format, and has room for its bound
pub record AreHeld (tables : FlatTablesOf) (c : ClusterOf) : Type 0 where
  pub same : length c.rings ≡ length tables.edges
  pub held : (e : ℕ) → e < length tables.edges
      → length (ring_at c.rings e).samples
      + done c.entries c.place (reader_at tables.edges e) * slice_index c.reads e
      ≡ held_at_head tables c.number e
      + done c.entries c.place (writer_at tables.edges e) * slice_index c.writes e
  pub room : (e : ℕ) → e < length tables.edges
      → (ring_at c.rings e).capacity ≡ slice_index c.bounds e
  pub formats : (e : ℕ) (f : Format) → e < length tables.edges → edge_format tables e ≡ Some f
      → All (IsOfFormat f) (ring_at c.rings e).samples

-- no processing or reinitialize body of the model sets a rate variable
pub record KeepRates (checked : Checked) : Type 0 where
  pub model : PureTree
  pub are : IsCheckedOf model checked
  pub keeps : (number : ℕ) (block : PureBlock) (s : State)
      → slice_get (blocks_of model.globals) number ≡ Some block
      → (after_body (scope_in model block) (body_of block Processing) s).frame.rates
      ≡ s.frame.rates
  pub again : (number : ℕ) (block : PureBlock) (s : State)
      → slice_get (blocks_of model.globals) number ≡ Some block
      → (after_body (scope_in model block) (body_of block Reinitialize) s).frame.rates
      ≡ s.frame.rates

-- a cluster of a flat model, wherever it is in its period, whose modules have the rates of a table;
-- it has crossed only at the end of its period, and the plans that are known are its own
pub record IsClusterWith (flat : Flat) (rated : List AttrsOf) (c : ClusterOf) : Type 0 where
  pub attributes : AreAttributes flat c.number c.table
  pub rows : HasRows flat.tables c.number c.table
  pub planned : IsClusterPlanned flat.tables c
  pub reads_are : c.reads ≡ read_rates (net_of flat.tables c.table)
  pub writes_are : c.writes ≡ write_rates (net_of flat.tables c.table)
  pub safe : IsClusterSafe flat.tables c
  pub within : c.place ≤ length c.entries
  pub over : c.crossed ≡ true → next_offset c ≡ None
  pub held : AreHeld flat.tables c
  pub actors : length c.runners ≡ length flat.tables.actors
  pub positions : length c.positions ≡ length flat.tables.actors
  pub counted : (m : ℕ) → slice_index c.positions m ≤ 2 ^ 64 - 1
  pub runners : (m : ℕ) (r : Runner) → slice_get c.runners m ≡ Some r
      → IsRunnerWith flat rated c m r
  pub keep : KeepRates flat.checked
  pub known : AreTrueFor flat.tables c.number c.known.plans

-- the table is that in force
abbrev pub IsClusterOf : Flat → ClusterOf → Type 0
IsClusterOf flat c = IsClusterWith flat c.table c
