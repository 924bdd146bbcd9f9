-- The actors at the ends of edges, with the ports and the rates by which they read and write them.
use Rattle.std.proofs.Common.{◌≡◌, ◌∙◌, ℕ, zero, suc, ◌+◌, ◌-◌, ◌<◌, ◌≤◌, Option, Some, None, option_map, List, [], ◌∷◌, length, map, refl, sym, ap, inl, inr, ◌⊎◌, arith}
use Rattle.std.proofs.lemmas.Bool.{cases_lt}
use Rattle.std.proofs.lemmas.List.FromFn.{length-map-range_with_len}
use Rattle.std.proofs.lemmas.Option.{slice_get-map}
use Rattle.std.specs.List.{cons_option, enumerate_from, range_with_len}
use Rattle.std.specs.Prelude.{filter_map, slice_get}
use Rattle.tdf_bind_tables.specs.Actors.{actor_of_kind, actor_places, module_actor, actor_place, port_actor}
use Rattle.tdf_bind_tables.specs.declared.actors.ActorPlace.{ActorPlace}
use Rattle.tdf_bind_tables.specs.declared.actors.ActorRow.{ActorRow}
use Rattle.tdf_dynamic_plans.specs.Attributes.{AttrsOf}
use Rattle.tdf_dynamic_plans.specs.Rates.{kind_of_port, net_ports, port_rate, read_rate_by, write_rate_by}
use Rattle.tdf_exec_parts.proofs.Api.{edge_reads, edge_writes, rate_there}
use Rattle.tdf_exec.proofs.Rows.{all_at}
use Rattle.tdf_exec.specs.machine.Laid.{IsLaid}
use Rattle.tdf_bind.specs.declared.model.Flat.{Flat}
use Rattle.tdf_streams.proofs.Api.{get_high, get_low, get_made_at, none_some, some_same}
use Rattle.tdf_graph.specs.declared.actors.Actor.{Actor}
use Rattle.tdf_graph.specs.declared.actors.Actor.TheVariants as actor
use Rattle.tdf_exec_layout.specs.Edges.{IsEdgeRow}
use Rattle.tdf_streams.specs.Places.{actor_kind, driver_or, kind_of_row}
use Rattle.tdf_timestep.specs.Period.{rate_at_port}
use Rattle.tdf_lang_tree.specs.declared.blocks.PortKind.{PortKind}
use Rattle.tdf_lang_tree.specs.declared.blocks.PortKind.TheVariants.{In, Out, DeIn, DeOut}
use Rattle.tdf_bind_connections.specs.declared.edges.EdgeRow.{EdgeRow}
use Rattle.tdf_bind_connections.specs.declared.modules.PortRow.{PortRow}

abbrev pub kind_tag : Option Actor → ℕ
kind_tag None = 0
kind_tag (Some actor.Module) = 1
kind_tag (Some actor.Sampler) = 2
kind_tag (Some actor.Sink) = 3

-- an actor is of one kind
pub no_sampler : {P : Type 0} (o : Option Actor) → o ≡ Some actor.Module → o ≡ Some actor.Sampler → P
no_sampler o one other = absurd (let t : 1 ≡ 2 = ap kind_tag (sym one ∙ other) in omega (arith, t))

pub no_sink : {P : Type 0} (o : Option Actor) → o ≡ Some actor.Module → o ≡ Some actor.Sink → P
no_sink o one other = absurd (let t : 1 ≡ 3 = ap kind_tag (sym one ∙ other) in omega (arith, t))

pub not_both : {P : Type 0} (o : Option Actor) → o ≡ Some actor.Sampler → o ≡ Some actor.Sink → P
not_both o one other = absurd (let t : 2 ≡ 3 = ap kind_tag (sym one ∙ other) in omega (arith, t))

module _ (flat : Flat) (laid : IsLaid flat) where
  abbrev modules : ℕ
  modules = length flat.tables.modules

  abbrev module_places : List ActorPlace
  module_places = map module_actor (range_with_len 0 modules)

  abbrev others : ℕ → List PortRow → List ActorPlace
  others k ports = filter_map (λ port. port_actor port.0 port.1) (enumerate_from k ports)

  long : length module_places ≡ modules
  long = length-map-range_with_len module_actor 0 modules

  kind_from : (o : Option ActorRow) (p : ActorPlace) → option_map actor_place o ≡ Some p → kind_of_row o ≡ Some p.kind
  kind_from None p h = none_some p h
  kind_from (Some row) p h = ap (λ (q : ActorPlace). Some q.kind) (some_same (actor_place row) p h)

  placed : (m : ℕ) → option_map actor_place (slice_get flat.tables.actors m) ≡ slice_get (actor_places modules flat.tables.ports) m
  placed m = sym (slice_get-map actor_place flat.tables.actors m) ∙ ap (λ l. slice_get l m) laid.limits.actors.places

  pub module_kind : (m : ℕ) → m < length flat.tables.modules → actor_kind flat.tables m ≡ Some actor.Module
  module_kind m below =
      let l = long in
      kind_from (slice_get flat.tables.actors m) (module_actor (0 + m))
      (placed m ∙ get_low module_places (others 0 flat.tables.ports) m (omega (arith, below, l)) ∙ get_made_at module_actor 0 modules m below)

  -- the actors of ports are no modules
  not_module : (k : ℕ) (ports : List PortRow) (j : ℕ) (y : ActorPlace) → slice_get (others k ports) j ≡ Some y → Some y.kind ≡ Some actor.Module → ⊥
  not_module k [] j y at is = none_some y at
  not_module k (x ∷ ports) j y at is = by_kind x.kind j at (λ i later. not_module (k + 1) ports i y later is)
    where
      by_kind : (kind : PortKind) (j : ℕ) → slice_get (cons_option (actor_of_kind kind k x) (others (k + 1) ports)) j ≡ Some y
          → ((i : ℕ) → slice_get (others (k + 1) ports) i ≡ Some y → ⊥) → ⊥
      by_kind In j at rest = rest j at
      by_kind Out j at rest = rest j at
      by_kind DeIn zero at rest = no_sampler (Some y.kind) is (ap (λ (p : ActorPlace). Some p.kind) (sym (some_same _ y at)))
      by_kind DeIn (suc j) at rest = rest j at
      by_kind DeOut zero at rest = no_sink (Some y.kind) is (ap (λ (p : ActorPlace). Some p.kind) (sym (some_same _ y at)))
      by_kind DeOut (suc j) at rest = rest j at

  pub below_modules : (m : ℕ) → actor_kind flat.tables m ≡ Some actor.Module → m < length flat.tables.modules
  below_modules m is = go (cases_lt m modules)
    where
      high : modules ≤ m → (o : Option ActorRow) → slice_get flat.tables.actors m ≡ o → kind_of_row o ≡ Some actor.Module → ⊥
      high past None at kind = none_some actor.Module kind
      high past (Some row) at kind =
          let l = long in
          not_module 0 flat.tables.ports (m - length module_places) (actor_place row)
          (sym (get_high module_places (others 0 flat.tables.ports) m (omega (arith, l, past))) ∙ sym (placed m) ∙ ap (option_map actor_place) at) kind

      go : (m < modules) ⊎ (modules ≤ m) → m < length flat.tables.modules
      go (inl below) = below
      go (inr past) = absurd (high past (slice_get flat.tables.actors m) refl is)

  own_module : (number : ℕ) (port : PortRow) → slice_get flat.tables.ports number ≡ Some port → actor_kind flat.tables port.«module» ≡ Some actor.Module
  own_module number port at = module_kind port.«module» (all_at (λ (p : PortRow). p.«module» < length flat.tables.modules) flat.tables.ports number port laid.limits.in_range.port_modules at)

  module _ (table : List AttrsOf) where
    -- a port of a module, whose rate this is
    pub record HasPort (number m rate : ℕ) : Type 0 where
      pub port : PortRow
      pub at : slice_get flat.tables.ports number ≡ Some port
      pub own : port.«module» ≡ m
      pub rate_is : rate ≡ port_rate table port

    reads_by : (edge : EdgeRow) (port : PortRow) (kind : PortKind) → slice_get flat.tables.ports edge.port ≡ Some port → port.kind ≡ kind
        → edge_reads flat.tables table edge ≡ read_rate_by (net_ports flat.tables table) edge (Some kind)
    reads_by edge port kind at is = ap (λ o. read_rate_by (net_ports flat.tables table) edge (kind_of_port o)) at ∙ ap (λ k. read_rate_by (net_ports flat.tables table) edge (Some k)) is

    writes_by : (edge : EdgeRow) (port : PortRow) (kind : PortKind) → slice_get flat.tables.ports edge.port ≡ Some port → port.kind ≡ kind
        → edge_writes flat.tables table edge ≡ write_rate_by (net_ports flat.tables table) edge (Some kind)
    writes_by edge port kind at is = ap (λ o. write_rate_by (net_ports flat.tables table) edge (kind_of_port o)) at ∙ ap (λ k. write_rate_by (net_ports flat.tables table) edge (Some k)) is

    -- a module reads an edge through the port that gives it
    pub module_reads : (edge : EdgeRow) → IsEdgeRow flat.tables edge → actor_kind flat.tables edge.reader ≡ Some actor.Module → HasPort edge.port edge.reader (edge_reads flat.tables table edge)
    module_reads edge (IsEdgeRow.Between port out driver h) is = record {
      port = port;
      at = h.port_at;
      own = sym h.reader;
      rate_is = reads_by edge port In h.port_at h.port_kind ∙ rate_there flat.tables table edge.port port h.port_at;
    }
    module_reads edge (IsEdgeRow.FromSampler port h) is = record {
      port = port;
      at = h.port_at;
      own = sym h.reader;
      rate_is = reads_by edge port DeIn h.port_at h.port_kind ∙ rate_there flat.tables table edge.port port h.port_at;
    }
    module_reads edge (IsEdgeRow.ToSink port h) is = no_sink (actor_kind flat.tables edge.reader) is (ap kind_of_row h.reader.row_at ∙ ap Some h.reader.kind_is)

    -- and writes one through the port whose samples it carries
    pub module_writes : (edge : EdgeRow) → IsEdgeRow flat.tables edge → actor_kind flat.tables edge.writer ≡ Some actor.Module
        → HasPort (driver_or edge.port edge.driver) edge.writer (edge_writes flat.tables table edge)
    module_writes edge (IsEdgeRow.Between port out driver h) is = record {
      port = driver;
      at = ap (λ o. slice_get flat.tables.ports (driver_or edge.port o)) h.driven ∙ h.driver_at;
      own = sym h.writer;
      rate_is = writes_by edge port In h.port_at h.port_kind ∙ ap (rate_at_port (net_ports flat.tables table)) h.driven ∙ rate_there flat.tables table out driver h.driver_at;
    }
    module_writes edge (IsEdgeRow.FromSampler port h) is = no_sampler (actor_kind flat.tables edge.writer) is (ap kind_of_row h.writer.row_at ∙ ap Some h.writer.kind_is)
    module_writes edge (IsEdgeRow.ToSink port h) is = record {
      port = port;
      at = ap (λ o. slice_get flat.tables.ports (driver_or edge.port o)) h.not_driven ∙ h.port_at;
      own = sym h.writer;
      rate_is = writes_by edge port DeOut h.port_at h.port_kind ∙ rate_there flat.tables table edge.port port h.port_at;
    }

    -- a sampler writes one sample, and a sink reads one
    pub sampler_writes : (edge : EdgeRow) → IsEdgeRow flat.tables edge → actor_kind flat.tables edge.writer ≡ Some actor.Sampler → edge_writes flat.tables table edge ≡ 1
    sampler_writes edge (IsEdgeRow.Between port out driver h) is =
        no_sampler (actor_kind flat.tables edge.writer) (ap (actor_kind flat.tables) h.writer ∙ own_module out driver h.driver_at) is
    sampler_writes edge (IsEdgeRow.FromSampler port h) is = writes_by edge port DeIn h.port_at h.port_kind
    sampler_writes edge (IsEdgeRow.ToSink port h) is =
        no_sampler (actor_kind flat.tables edge.writer) (ap (actor_kind flat.tables) h.writer ∙ own_module edge.port port h.port_at) is

    pub sink_reads : (edge : EdgeRow) → IsEdgeRow flat.tables edge → actor_kind flat.tables edge.reader ≡ Some actor.Sink → edge_reads flat.tables table edge ≡ 1
    sink_reads edge (IsEdgeRow.Between port out driver h) is =
        no_sink (actor_kind flat.tables edge.reader) (ap (actor_kind flat.tables) h.reader ∙ own_module edge.port port h.port_at) is
    sink_reads edge (IsEdgeRow.FromSampler port h) is =
        no_sink (actor_kind flat.tables edge.reader) (ap (actor_kind flat.tables) h.reader ∙ own_module edge.port port h.port_at) is
    sink_reads edge (IsEdgeRow.ToSink port h) is = reads_by edge port DeOut h.port_at h.port_kind

  -- no sampler reads, and no sink writes
  pub sampler_never : (edge : EdgeRow) → IsEdgeRow flat.tables edge → actor_kind flat.tables edge.reader ≡ Some actor.Sampler → ⊥
  sampler_never edge (IsEdgeRow.Between port out driver h) is =
      no_sampler (actor_kind flat.tables edge.reader) (ap (actor_kind flat.tables) h.reader ∙ own_module edge.port port h.port_at) is
  sampler_never edge (IsEdgeRow.FromSampler port h) is =
      no_sampler (actor_kind flat.tables edge.reader) (ap (actor_kind flat.tables) h.reader ∙ own_module edge.port port h.port_at) is
  sampler_never edge (IsEdgeRow.ToSink port h) is = not_both (actor_kind flat.tables edge.reader) is (ap kind_of_row h.reader.row_at ∙ ap Some h.reader.kind_is)

  pub sink_never : (edge : EdgeRow) → IsEdgeRow flat.tables edge → actor_kind flat.tables edge.writer ≡ Some actor.Sink → ⊥
  sink_never edge (IsEdgeRow.Between port out driver h) is =
      no_sink (actor_kind flat.tables edge.writer) (ap (actor_kind flat.tables) h.writer ∙ own_module out driver h.driver_at) is
  sink_never edge (IsEdgeRow.FromSampler port h) is = not_both (actor_kind flat.tables edge.writer) (ap kind_of_row h.writer.row_at ∙ ap Some h.writer.kind_is) is
  sink_never edge (IsEdgeRow.ToSink port h) is =
      no_sink (actor_kind flat.tables edge.writer) (ap (actor_kind flat.tables) h.writer ∙ own_module edge.port port h.port_at) is
