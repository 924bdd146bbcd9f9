-- The ports of modules, samplers and sinks in a flat model.
use Rattle.std.proofs.Common.{◌≡◌, ◌∙◌, ℕ, zero, suc, ◌+◌, ◌-◌, ◌<◌, ◌≤◌, true, Option, Some, None, IfSome, option_map, List, [], ◌∷◌, length, map, refl, ap, sym, subst, inl, inr, ◌⊎◌, arith, slice_get}
use Rattle.std.proofs.lemmas.Bool.{cases_lt}
use Rattle.std.proofs.lemmas.List.{length-append, length-map}
use Rattle.std.proofs.lemmas.List.FromFn.{length-map-range_with_len}
use Rattle.std.proofs.lemmas.Option.{slice_get-map, slice_get_within}
use Rattle.std.specs.List.{cons_option, enumerate_from, range_with_len}
use Rattle.std.specs.Prelude.{filter_map}
use Rattle.tdf_bind_tables.specs.Actors.{actor_of_kind, actor_places, module_actor, actor_place, port_actor}
use Rattle.tdf_bind_tables.specs.Ranges.{AreInRange, IsActorPort}
use Rattle.tdf_bind_tables.specs.declared.actors.ActorPlace.{ActorPlace}
use Rattle.tdf_bind_tables.specs.declared.actors.ActorRow.{ActorRow}
use Rattle.tdf_fixed.specs.declared.format.Format.{Format}
use Rattle.tdf_bind.specs.Flat.{IsFlatOf}
use Rattle.tdf_bind.specs.declared.model.Flat.{Flat}
use Rattle.tdf_streams.proofs.Api.{get_high, get_low, get_made_at, none_some, some_same}
use Rattle.tdf_bind_invariants.specs.Formats.{IsSoundModel, PortsHaveFormats, signal_format}
use Rattle.tdf_graph.specs.declared.actors.Actor.{Actor}
use Rattle.tdf_graph.specs.declared.actors.Actor.TheVariants as actor
use Rattle.tdf_exec.proofs.Api.{edge_row}
use Rattle.tdf_exec.specs.Below.{IsEdgeRow}
use Rattle.tdf_sim_refinement.proofs.Rows.{all_of, false_true}
use Rattle.tdf_sim_refinement.specs.LinkLaws.{PortsHaveEvents}
use Rattle.tdf_sim_refinement.specs.Linked.{HasEventPort, is_converter}
use Rattle.tdf_bind_attributes.specs.Roles.{roles_of}
use Rattle.tdf_lang_tree.specs.Pure.{PureTree}
use Rattle.tdf_lang_tree.specs.declared.blocks.PortKind.{PortKind}
use Rattle.tdf_lang_tree.specs.declared.blocks.PortKind.TheVariants.{In, Out, DeIn, DeOut}
use Rattle.tdf_bind_hierarchy.specs.Tables.{RowOf}
use Rattle.tdf_bind_connections.specs.Edges.{is_event_port}
use Rattle.tdf_bind_connections.specs.Modules.{PlacedModule, module_ports, module_row, placed_modules, port_row, ports_from}
use Rattle.tdf_bind_connections.specs.declared.drivers.SignalRow.{SignalRow}
use Rattle.tdf_bind_connections.specs.declared.edges.EdgeRow.{EdgeRow}
use Rattle.tdf_bind_connections.specs.declared.modules.PortRow.{PortRow}
use Rattle.tdf_bind_connections.specs.declared.roles.PortData.{PortData}

-- the module of a port
module_is : (k e : ℕ) (instance : RowOf) (ports : List PortData) (j : ℕ) (p : PortRow) → slice_get (map (λ (port : ℕ × PortData). port_row k instance port.0 port.1) (enumerate_from e ports)) j ≡ Some p
    → p.«module» ≡ k
module_is k e instance [] j p at = none_some p at
module_is k e instance (x ∷ xs) zero p at = ap (λ (r : PortRow). r.«module») (sym (some_same _ p at))
module_is k e instance (x ∷ xs) (suc j) p at = module_is k (e + 1) instance xs j p at

in_ports : (k : ℕ) (placed : List PlacedModule) (j : ℕ) (p : PortRow) → slice_get (ports_from k placed) j ≡ Some p → p.«module» < k + length placed
in_ports k [] j p at = none_some p at
in_ports k (x ∷ xs) j p at = go (cases_lt j (length (module_ports k x))) (λ i is. in_ports (k + 1) xs i p is)
  where
    go : (j < length (module_ports k x)) ⊎ (length (module_ports k x) ≤ j) → ((i : ℕ) → slice_get (ports_from (k + 1) xs) i ≡ Some p → p.«module» < k + 1 + length xs) → p.«module» < k + length (x ∷ xs)
    go (inl low) rest = let e = module_is k 0 x.instance x.role.ports j p (sym (get_low (module_ports k x) (ports_from (k + 1) xs) j low) ∙ at) in omega (arith, e)
    go (inr high) rest = let r = rest (j - length (module_ports k x)) (sym (get_high (module_ports k x) (ports_from (k + 1) xs) j high) ∙ at) in omega (arith, r)

-- the port of a sampler or sink
pub record IsOfPort (k : ℕ) (ports : List PortRow) (place : ActorPlace) : Type 0 where
  pub number : ℕ
  pub port : PortRow
  pub at : slice_get ports number ≡ Some port
  pub event : is_event_port port.kind ≡ true
  pub converts : is_converter place.kind ≡ true
  pub module_is : place.«module» ≡ port.«module»
  pub port_is : place.port ≡ k + number

kind_event : (kind : PortKind) (n : ℕ) (x : PortRow) (place : ActorPlace) → actor_of_kind kind n x ≡ Some place → (is_event_port kind ≡ true) × (is_converter place.kind ≡ true) × (place.«module» ≡ x.«module») × (place.port ≡ n)
kind_event In n x place is = none_some place is
kind_event Out n x place is = none_some place is
kind_event DeIn n x place is = (refl, ap (λ (p : ActorPlace). is_converter p.kind) (sym (some_same _ place is)), ap (λ (p : ActorPlace). p.«module») (sym (some_same _ place is)), ap (λ (p : ActorPlace). p.port) (sym (some_same _ place is)))
kind_event DeOut n x place is = (refl, ap (λ (p : ActorPlace). is_converter p.kind) (sym (some_same _ place is)), ap (λ (p : ActorPlace). p.«module») (sym (some_same _ place is)), ap (λ (p : ActorPlace). p.port) (sym (some_same _ place is)))

abbrev port_actors : ℕ → List PortRow → List ActorPlace
port_actors k ports = filter_map (λ (p : ℕ × PortRow). port_actor p.0 p.1) (enumerate_from k ports)

later : (k : ℕ) (x : PortRow) (ports : List PortRow) (place : ActorPlace) → IsOfPort (k + 1) ports place → IsOfPort k (x ∷ ports) place
later k x ports place h = record {
  number = suc h.number;
  port = h.port;
  at = h.at;
  event = h.event;
  converts = h.converts;
  module_is = h.module_is;
  port_is = let p = h.port_is in omega (arith, p);
}

of_port : (k : ℕ) (ports : List PortRow) (j : ℕ) (place : ActorPlace) → slice_get (port_actors k ports) j ≡ Some place → IsOfPort k ports place
of_port k [] j place at = none_some place at
of_port k (x ∷ ports) j place at = go (port_actor k x) refl j at (λ i is. later k x ports place (of_port (k + 1) ports i place is))
  where
    go : (o : Option ActorPlace) → port_actor k x ≡ o → (j : ℕ) → slice_get (cons_option o (port_actors (k + 1) ports)) j ≡ Some place
        → ((i : ℕ) → slice_get (port_actors (k + 1) ports) i ≡ Some place → IsOfPort k (x ∷ ports) place) → IsOfPort k (x ∷ ports) place
    go None is j at rest = rest j at
    go (Some y) is zero at rest = let e = kind_event x.kind k x place (is ∙ at) in record {
      number = 0;
      port = x;
      at = refl;
      event = e.0;
      converts = e.1;
      module_is = e.2;
      port_is = let p = e.3 in omega (arith, p);
    }
    go (Some y) is (suc j) at rest = rest j at

module _ (model : PureTree) (flat : Flat) (is : IsFlatOf model flat) where
  abbrev modules : ℕ
  modules = length flat.tables.modules

  -- the module of a port is one of the model
  pub own_module : (number : ℕ) (port : PortRow) → slice_get flat.tables.ports number ≡ Some port → port.«module» < modules
  own_module number port at =
      let placed : List PlacedModule = placed_modules (roles_of model) is.tables.tables.instances in
      let below = in_ports 0 placed number port (ap (λ l. slice_get l number) (sym is.tables.follows.modules.ports) ∙ at) in
      let long : modules ≡ length placed = ap length is.tables.follows.modules.modules ∙ length-map placed module_row in
      omega (arith, below, long)

  long : length (map module_actor (range_with_len 0 modules)) ≡ modules
  long = length-map-range_with_len module_actor 0 modules

  placed_at : (m : ℕ) (row : ActorRow) → slice_get flat.tables.actors m ≡ Some row → slice_get (actor_places modules flat.tables.ports) m ≡ Some (actor_place row)
  placed_at m row at = ap (λ l. slice_get l m) (sym is.tables.follows.actors.places) ∙ slice_get-map actor_place flat.tables.actors m ∙ ap (option_map actor_place) at

  -- an actor is a module, or that of a port
  pub actor_cases : (m : ℕ) (row : ActorRow) → slice_get flat.tables.actors m ≡ Some row → ((m < modules) × (actor_place row ≡ module_actor m)) ⊎ IsOfPort 0 flat.tables.ports (actor_place row)
  actor_cases m row at = go (cases_lt m modules)
    where
      go : (m < modules) ⊎ (modules ≤ m) → ((m < modules) × (actor_place row ≡ module_actor m)) ⊎ IsOfPort 0 flat.tables.ports (actor_place row)
      go (inl low) =
          let l = long in let z : 0 + m ≡ m = omega arith in
          let there = get_low (map module_actor (range_with_len 0 modules)) (port_actors 0 flat.tables.ports) m (omega (arith, low, l)) ∙ get_made_at module_actor 0 modules m low in
          inl (low, some_same (actor_place row) (module_actor m) (sym (placed_at m row at) ∙ there ∙ ap (λ k. Some (module_actor k)) z))
      go (inr high) =
          let l = long in
          inr (of_port 0 flat.tables.ports (m - length (map module_actor (range_with_len 0 modules))) (actor_place row)
          (sym (get_high (map module_actor (range_with_len 0 modules)) (port_actors 0 flat.tables.ports) m (omega (arith, high, l))) ∙ placed_at m row at))

  actor_module : (m : ℕ) (row : ActorRow) → slice_get flat.tables.actors m ≡ Some row → row.«module» < modules
  actor_module m row at = go (actor_cases m row at)
    where
      go : ((m < modules) × (actor_place row ≡ module_actor m)) ⊎ IsOfPort 0 flat.tables.ports (actor_place row) → row.«module» < modules
      go (inl low) = let e = ap (λ (p : ActorPlace). p.«module») low.1 in let b = low.0 in omega (arith, e, b)
      go (inr h) = let b = own_module h.number h.port h.at in let e = h.module_is in omega (arith, e, b)

  actor_port : (m : ℕ) (row : ActorRow) → slice_get flat.tables.actors m ≡ Some row → IsActorPort (length flat.tables.ports) row.kind row.port
  actor_port m row at = go (actor_cases m row at)
    where
      by_kind : (kind : Actor) → row.port < length flat.tables.ports → is_converter kind ≡ true → IsActorPort (length flat.tables.ports) kind row.port
      by_kind actor.Module inside other = false_true other
      by_kind actor.Sampler inside other = inside
      by_kind actor.Sink inside other = inside

      go : ((m < modules) × (actor_place row ≡ module_actor m)) ⊎ IsOfPort 0 flat.tables.ports (actor_place row) → IsActorPort (length flat.tables.ports) row.kind row.port
      go (inl low) = subst (λ k. IsActorPort (length flat.tables.ports) k row.port) (sym (ap (λ (p : ActorPlace). p.kind) low.1)) (ap (λ (p : ActorPlace). p.port) low.1)
      go (inr h) = by_kind row.kind (let b = slice_get_within flat.tables.ports h.number h.port h.at in let e = h.port_is in omega (arith, b, e)) h.converts

  -- a module is an actor
  module_inside : (m : ℕ) → m < modules → m < length flat.tables.actors
  module_inside m low =
      let l = long in
      let places = length-append (map module_actor (range_with_len 0 modules)) (port_actors 0 flat.tables.ports) in
      let rows : length flat.tables.actors ≡ length (actor_places modules flat.tables.ports) = sym (length-map flat.tables.actors actor_place) ∙ ap length is.tables.follows.actors.places in
      omega (arith, low, l, places, rows)

  edge_port : (edge : EdgeRow) → IsEdgeRow flat.tables edge → edge.port < length flat.tables.ports
  edge_port edge (IsEdgeRow.Between port out driver h) = slice_get_within flat.tables.ports edge.port port h.port_at
  edge_port edge (IsEdgeRow.FromSampler port h) = slice_get_within flat.tables.ports edge.port port h.port_at
  edge_port edge (IsEdgeRow.ToSink port h) = slice_get_within flat.tables.ports edge.port port h.port_at

  edge_driver : (edge : EdgeRow) → IsEdgeRow flat.tables edge → IfSome edge.driver (λ port. port < length flat.tables.ports)
  edge_driver edge (IsEdgeRow.Between port out driver h) = subst (λ o. IfSome o (λ port. port < length flat.tables.ports)) (sym h.driven) (slice_get_within flat.tables.ports out driver h.driver_at)
  edge_driver edge (IsEdgeRow.FromSampler port h) = subst (λ o. IfSome o (λ port. port < length flat.tables.ports)) (sym h.not_driven) tt
  edge_driver edge (IsEdgeRow.ToSink port h) = subst (λ o. IfSome o (λ port. port < length flat.tables.ports)) (sym h.not_driven) tt

  edge_writer : (edge : EdgeRow) → IsEdgeRow flat.tables edge → edge.writer < length flat.tables.actors
  edge_writer edge (IsEdgeRow.Between port out driver h) = subst (λ m. m < length flat.tables.actors) (sym h.writer) (module_inside driver.«module» (own_module out driver h.driver_at))
  edge_writer edge (IsEdgeRow.FromSampler port h) = slice_get_within flat.tables.actors edge.writer h.writer.row h.writer.row_at
  edge_writer edge (IsEdgeRow.ToSink port h) = subst (λ m. m < length flat.tables.actors) (sym h.writer) (module_inside port.«module» (own_module edge.port port h.port_at))

  edge_reader : (edge : EdgeRow) → IsEdgeRow flat.tables edge → edge.reader < length flat.tables.actors
  edge_reader edge (IsEdgeRow.Between port out driver h) = subst (λ m. m < length flat.tables.actors) (sym h.reader) (module_inside port.«module» (own_module edge.port port h.port_at))
  edge_reader edge (IsEdgeRow.FromSampler port h) = subst (λ m. m < length flat.tables.actors) (sym h.reader) (module_inside port.«module» (own_module edge.port port h.port_at))
  edge_reader edge (IsEdgeRow.ToSink port h) = slice_get_within flat.tables.actors edge.reader h.reader.row h.reader.row_at

  -- the numbers in the tables of a flat model are those of rows
  pub in_range : AreInRange flat.tables
  in_range = record {
    port_modules = all_of (λ (p : PortRow). p.«module» < modules) flat.tables.ports own_module;
    actor_modules = all_of (λ (r : ActorRow). r.«module» < modules) flat.tables.actors actor_module;
    actor_ports = all_of (λ (r : ActorRow). IsActorPort (length flat.tables.ports) r.kind r.port) flat.tables.actors actor_port;
    edge_ports = all_of (λ (x : EdgeRow). x.port < length flat.tables.ports) flat.tables.edges (λ e x at. edge_port x (edge_row model flat is e x at));
    edge_drivers = all_of (λ (x : EdgeRow). IfSome x.driver (λ port. port < length flat.tables.ports)) flat.tables.edges (λ e x at. edge_driver x (edge_row model flat is e x at));
    edge_writers = all_of (λ (x : EdgeRow). x.writer < length flat.tables.actors) flat.tables.edges (λ e x at. edge_writer x (edge_row model flat is e x at));
    edge_readers = all_of (λ (x : EdgeRow). x.reader < length flat.tables.actors) flat.tables.edges (λ e x at. edge_reader x (edge_row model flat is e x at));
  }

  -- a port that has the format of an event signal has one
  event_there : (kind : PortKind) (s : ℕ) (f : Format) → is_event_port kind ≡ true → signal_format flat.tables kind s ≡ Some f → s < length flat.tables.de_signals
  event_there kind s f event has = by_kind kind event has
    where
      there : (o : Option SignalRow) → slice_get flat.tables.de_signals s ≡ o → option_map (λ (r : SignalRow). r.format) o ≡ Some f → s < length flat.tables.de_signals
      there None at has = none_some f has
      there (Some r) at has = slice_get_within flat.tables.de_signals s r at

      by_kind : (kind : PortKind) → is_event_port kind ≡ true → signal_format flat.tables kind s ≡ Some f → s < length flat.tables.de_signals
      by_kind In event has = false_true event
      by_kind Out event has = false_true event
      by_kind DeIn event has = there (slice_get flat.tables.de_signals s) refl has
      by_kind DeOut event has = there (slice_get flat.tables.de_signals s) refl has

  module _ (formats : PortsHaveFormats) (sound : IsSoundModel model) where
    pub has_event : (m : ℕ) (row : ActorRow) → slice_get flat.tables.actors m ≡ Some row → is_converter row.kind ≡ true → HasEventPort flat.tables row
    has_event m row at converts = go (actor_cases m row at)
      where
        go : ((m < modules) × (actor_place row ≡ module_actor m)) ⊎ IsOfPort 0 flat.tables.ports (actor_place row) → HasEventPort flat.tables row
        go (inl low) = false_true (sym (ap (λ (p : ActorPlace). is_converter p.kind) low.1) ∙ converts)
        go (inr h) = record {
          port = h.port;
          at = (let e : row.port ≡ h.number = (let p = h.port_is in omega (arith, p)) in ap (slice_get flat.tables.ports) e) ∙ h.at;
          inside = let own = formats model flat sound is h.number h.port h.at in event_there h.port.kind h.port.signal own.span.format h.event own.format;
        }

pub ports_have_events : PortsHaveFormats → PortsHaveEvents
ports_have_events formats model flat sound is m row at converts = has_event model flat is formats sound m row at converts
