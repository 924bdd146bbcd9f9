-- Where the modules, samplers and sinks of a flat model are among its actors.
use Rattle.std.proofs.Common.{◌≡◌, ◌∙◌, ℕ, zero, suc, ◌+◌, ◌-◌, ◌<◌, ◌≤◌, Option, Some, None, List, [], ◌∷◌, length, map, take, refl, ap, sym, subst, inl, inr, ◌⊎◌, arith, slice_get}
use Rattle.std.proofs.lemmas.Bool.{cases_lt}
use Rattle.std.proofs.lemmas.List.FromFn.{length-map-range_with_len}
use Rattle.std.proofs.lemmas.Option.{slice_get-map}
use Rattle.std.specs.List.{cons_option, range_with_len}
use Rattle.std.specs.Prelude.{cond, filter}
use Rattle.tdf_bind_tables.specs.Actors.{AreActors, actor_of_kind, actor_places, module_actor, actor_place, port_actor}
use Rattle.tdf_bind_tables.specs.FlatTables.{FlatTablesOf}
use Rattle.tdf_bind_tables.specs.declared.actors.ActorPlace.{ActorPlace}
use Rattle.tdf_bind_tables.specs.declared.actors.ActorRow.{ActorRow}
use Rattle.tdf_streams.proofs.Api.{get_high, get_low, get_made_at, none_some, some_same}
use Rattle.tdf_graph.specs.declared.actors.Actor.{Actor}
use Rattle.tdf_graph.specs.declared.actors.Actor.TheVariants as actor
use Rattle.tdf_exec_layout.proofs.Picked.{IsPicked, once, picked, sound}
use Rattle.tdf_exec_layout.proofs.Rows.{map_some}
use Rattle.tdf_exec_layout.specs.Edges.{IsActorAt}
use Rattle.tdf_streams.specs.Places.{actor_kind, kind_of_row}
use Rattle.tdf_lang_tree.specs.declared.blocks.PortKind.{PortKind}
use Rattle.tdf_lang_tree.specs.declared.blocks.PortKind.TheVariants.{In, Out, DeIn, DeOut}
use Rattle.tdf_bind_connections.specs.Edges.{actor_at, is_event_port}
use Rattle.tdf_bind_connections.specs.declared.modules.PortRow.{PortRow}

abbrev event_ports : List PortRow → List PortRow
event_ports ports = filter (λ (port : PortRow). is_event_port port.kind) ports

actor_there : (k : ℕ) (xs : List PortRow) (n : ℕ) (port : PortRow) (place : ActorPlace) → slice_get xs n ≡ Some port → port_actor (k + n) port ≡ Some place
    → slice_get (picked port_actor k xs) (length (event_ports (take n xs))) ≡ Some place
actor_there k [] n port place at is = none_some port at
actor_there k (x ∷ xs) zero port place at is = first (port_actor k x) ((let z : k ≡ k + 0 = omega arith in ap (λ n. port_actor n x) z) ∙ ap (port_actor (k + 0)) (some_same x port at) ∙ is)
  where
    first : (o : Option ActorPlace) → o ≡ Some place → slice_get (cons_option o (picked port_actor (k + 1) xs)) 0 ≡ Some place
    first None h = none_some place h
    first (Some y) h = h
actor_there k (x ∷ xs) (suc n) port place at is = by_kind x.kind (actor_there (k + 1) xs n port place at ((let z : k + 1 + n ≡ k + suc n = omega arith in ap (λ m. port_actor m port) z) ∙ is))
  where
    by_kind : (kind : PortKind) → slice_get (picked port_actor (k + 1) xs) (length (event_ports (take n xs))) ≡ Some place
        → slice_get (cons_option (actor_of_kind kind k x) (picked port_actor (k + 1) xs)) (length (cond (is_event_port kind) (x ∷ event_ports (take n xs)) (event_ports (take n xs)))) ≡ Some place
    by_kind In h = h
    by_kind Out h = h
    by_kind DeIn h = h
    by_kind DeOut h = h

-- what is no sink, and what is no sampler
abbrev pub IsOther : Actor → Type 0
IsOther actor.Module = Unit {0}
IsOther actor.Sampler = Unit {0}
IsOther actor.Sink = ⊥

abbrev pub IsNoSampler : Option Actor → Type 0
IsNoSampler None = Unit {0}
IsNoSampler (Some actor.Module) = Unit {0}
IsNoSampler (Some actor.Sampler) = ⊥
IsNoSampler (Some actor.Sink) = Unit {0}

-- a module or a sink; a sampler or a sink; a module or a sampler
abbrev pub IsNoModule : Option Actor → Type 0
IsNoModule None = Unit {0}
IsNoModule (Some actor.Module) = ⊥
IsNoModule (Some actor.Sampler) = Unit {0}
IsNoModule (Some actor.Sink) = Unit {0}

abbrev pub IsOtherKind : Option Actor → Type 0
IsOtherKind None = Unit {0}
IsOtherKind (Some kind) = IsOther kind

module _ (modules : ℕ) (tables : FlatTablesOf) (are : AreActors modules tables.ports tables.edges tables.actors) where
  abbrev module_places : List ActorPlace
  module_places = map module_actor (range_with_len 0 modules)

  long : length module_places ≡ modules
  long = length-map-range_with_len module_actor 0 modules

  placed : (m : ℕ) (row : ActorRow) → slice_get tables.actors m ≡ Some row → slice_get (actor_places modules tables.ports) m ≡ Some (actor_place row)
  placed m row at = ap (λ l. slice_get l m) (sym are.places) ∙ slice_get-map actor_place tables.actors m ∙ ap (λ o. elim o as (λ _. Option ActorPlace) [ None ↦ None | Some r ↦ Some (actor_place r) ]) at

  row_of : (m : ℕ) (place : ActorPlace) → slice_get (actor_places modules tables.ports) m ≡ Some place → (row : ActorRow) × (slice_get tables.actors m ≡ Some row) × (actor_place row ≡ place)
  row_of m place at = map_some actor_place tables.actors m place (ap (λ l. slice_get l m) are.places ∙ at)

  pub module_kind : (m : ℕ) → m < modules → actor_kind tables m ≡ Some actor.Module
  module_kind m below =
      let row = row_of m (module_actor (0 + m)) (get_low module_places (picked port_actor 0 tables.ports) m (let l = long in omega (arith, below, l)) ∙ get_made_at module_actor 0 modules m below) in
      ap kind_of_row row.1 ∙ ap (λ (p : ActorPlace). Some p.kind) row.2

  -- the actor at a port
  pub port_actor_at : (number : ℕ) (port : PortRow) (kind : Actor) (place : ActorPlace) → slice_get tables.ports number ≡ Some port → port_actor number port ≡ Some place
      → place.kind ≡ kind → place.port ≡ number → place.«module» ≡ port.«module» → IsActorAt tables (actor_at modules tables.ports number) kind number port
  port_actor_at number port kind place at is kind_is port_is module_is =
      let n : ℕ = length (event_ports (take number tables.ports)) in
      let there : slice_get (picked port_actor 0 tables.ports) n ≡ Some place = actor_there 0 tables.ports number port place at ((let z : 0 + number ≡ number = omega arith in ap (λ m. port_actor m port) z) ∙ is) in
      let l = long in
      let high : slice_get (actor_places modules tables.ports) (modules + n) ≡ slice_get (picked port_actor 0 tables.ports) (modules + n - length module_places) =
      get_high module_places (picked port_actor 0 tables.ports) (modules + n) (omega (arith, l)) in
      let index : modules + n - length module_places ≡ n = omega (arith, l) in
      let row = row_of (modules + n) place (high ∙ ap (slice_get (picked port_actor 0 tables.ports)) index ∙ there) in
      record {
        row = row.0;
        row_at = row.1;
        kind_is = ap (λ (p : ActorPlace). p.kind) row.2 ∙ kind_is;
        port_is = ap (λ (p : ActorPlace). p.port) row.2 ∙ port_is;
        module_is = ap (λ (p : ActorPlace). p.«module») row.2 ∙ module_is;
      }

  -- the port at a sink
  pub record IsSinkOf (m : ℕ) : Type 0 where
    pub number : ℕ
    pub port : PortRow
    pub at : slice_get tables.ports number ≡ Some port
    pub kind : port.kind ≡ DeOut
    pub actor_is : m ≡ actor_at modules tables.ports number

  actor_keyed : (n : ℕ) (x : PortRow) (y : ActorPlace) → port_actor n x ≡ Some y → y.port ≡ n
  actor_keyed n x y is = by_kind x.kind is
    where
      by_kind : (kind : PortKind) → actor_of_kind kind n x ≡ Some y → y.port ≡ n
      by_kind In is = none_some y is
      by_kind Out is = none_some y is
      by_kind DeIn is = ap (λ (p : ActorPlace). p.port) (sym (some_same _ y is))
      by_kind DeOut is = ap (λ (p : ActorPlace). p.port) (sym (some_same _ y is))

  sink_kind : (n : ℕ) (x : PortRow) (y : ActorPlace) → port_actor n x ≡ Some y → y.kind ≡ actor.Sink → x.kind ≡ DeOut
  sink_kind n x y is sink = by_kind x.kind is
    where
      by_kind : (kind : PortKind) → actor_of_kind kind n x ≡ Some y → kind ≡ DeOut
      by_kind In is = none_some y is
      by_kind Out is = none_some y is
      by_kind DeIn is = absurd (subst IsOther (ap (λ (p : ActorPlace). p.kind) (some_same _ y is) ∙ sink) tt)
      by_kind DeOut is = refl

  -- a sink is that of a `de_out` port
  pub sink_at : (m : ℕ) (row : ActorRow) → slice_get tables.actors m ≡ Some row → row.kind ≡ actor.Sink → IsSinkOf m
  sink_at m row at sink = by_place (cases_lt m modules)
    where
      by_place : (m < modules) ⊎ (modules ≤ m) → IsSinkOf m
      by_place (inl below) = absurd (subst IsOtherKind (sym (module_kind m below) ∙ ap kind_of_row at ∙ ap Some sink) tt)
      by_place (inr high) =
          let l = long in
          let there : slice_get (picked port_actor 0 tables.ports) (m - length module_places) ≡ Some (actor_place row) =
          sym (get_high module_places (picked port_actor 0 tables.ports) m (omega (arith, l, high))) ∙ placed m row at in
          let h : IsPicked port_actor 0 tables.ports (actor_place row) = sound port_actor 0 tables.ports (m - length module_places) (actor_place row) there in
          let again = actor_there 0 tables.ports h.number h.thing (actor_place row) h.at h.gives in
          let same : m - length module_places ≡ length (event_ports (take h.number tables.ports)) =
          once port_actor (λ (p : ActorPlace). p.port) actor_keyed 0 tables.ports (m - length module_places) (length (event_ports (take h.number tables.ports))) (actor_place row) (actor_place row) there again refl in
          record {
            number = h.number;
            port = h.thing;
            at = h.at;
            kind = sink_kind (0 + h.number) h.thing (actor_place row) h.gives sink;
            actor_is = omega (arith, same, l, high);
          }
