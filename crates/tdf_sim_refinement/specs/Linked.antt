-- Which signal each converter port of a model has.
-- Source: IEEE 1666.1-2016, converter ports of TDF modules.
use Rattle.std.specs.List.{count_by}
use Rattle.std.specs.Prelude.{◌≡◌, ◌<◌, ◌&&◌, ℕ, Bool, true, false, List, Some, length, nat_eq, slice_get, take}
use Rattle.tdf_bind_tables.specs.FlatTables.{FlatTablesOf}
use Rattle.tdf_bind_tables.specs.declared.actors.ActorRow.{ActorRow}
use Rattle.tdf_convert.specs.Links.{AreLinks, AreRising, HaveSignals, samplers_in}
use Rattle.tdf_convert.specs.declared.links.Link.{Link}
use Rattle.tdf_exec.specs.Made.{IsActorOf}
use Rattle.tdf_graph.specs.declared.actors.Actor.{Actor}
use Rattle.tdf_graph.specs.declared.actors.Actor.TheVariants as actor
use Rattle.tdf_sim_history.specs.Instant.{signal_of}
use Rattle.tdf_streams.specs.Places.{actor_kind}
use Rattle.tdf_bind_connections.specs.declared.modules.PortRow.{PortRow}

-- the port of a sampler or sink is there, and has an event signal that is there
pub record HasEventPort (tables : FlatTablesOf) (row : ActorRow) : Type 0 where
  pub port : PortRow
  pub at : slice_get tables.ports row.port ≡ Some port
  pub inside : port.signal < length tables.de_signals

-- a sampler or a sink
abbrev pub is_converter : Actor → Bool
is_converter actor.Module = false
is_converter actor.Sampler = true
is_converter actor.Sink = true

abbrev pub HaveEventPorts : FlatTablesOf → Type 0
HaveEventPorts tables = (m : ℕ) (row : ActorRow) → slice_get tables.actors m ≡ Some row
    → is_converter row.kind ≡ true → HasEventPort tables row

-- the link of an actor has the signal of its port
abbrev pub HaveSignalsOf : FlatTablesOf → List Link → Type 0
HaveSignalsOf tables links = (j : ℕ) (l : Link) → slice_get links j ≡ Some l
    → l.signal ≡ signal_of tables l.actor

-- an actor has a link, as a sampler or not
pub record HasLink (links : List Link) (m : ℕ) : Type 0 where
  pub place : ℕ
  pub link : Link
  pub at : slice_get links place ≡ Some link
  pub of : link.actor ≡ m

-- a sampler of a cluster; and how many there are among the first n actors
abbrev pub is_sampler : Actor → Bool
is_sampler actor.Module = false
is_sampler actor.Sampler = true
is_sampler actor.Sink = false

abbrev pub is_own_sampler : (cluster : ℕ) → ActorRow → Bool
is_own_sampler cluster row = is_sampler row.kind && nat_eq row.cluster cluster

unfoldable pub own_samplers : FlatTablesOf → (cluster n : ℕ) → ℕ
own_samplers tables cluster n = count_by (is_own_sampler cluster) (take n tables.actors)

-- the links of the samplers of a cluster: one for each, by rising actor, with its place among them
pub record AreSamplerLinks (tables : FlatTablesOf) (cluster : ℕ) (links : List Link) : Type 0 where
  pub placed : AreLinks links (samplers_in links)
  pub signals : HaveSignals links (length tables.de_signals)
  pub of : HaveSignalsOf tables links
  pub each : (j : ℕ) (l : Link) → slice_get links j ≡ Some l
      → IsActorOf tables cluster l.actor actor.Sampler × (l.sampler ≡ true)
  pub all : (m : ℕ) → IsActorOf tables cluster m actor.Sampler → HasLink links m
  pub places : (j : ℕ) (l : Link) → slice_get links j ≡ Some l
      → l.place ≡ own_samplers tables cluster l.actor
  pub many : samplers_in links ≡ own_samplers tables cluster (length tables.actors)

-- the links of all sinks of a model: one for each, by rising actor; no sampler is among them
pub record AreSinkLinks (tables : FlatTablesOf) (links : List Link) : Type 0 where
  pub order : AreRising links
  pub places : (j : ℕ) (l : Link) → slice_get links j ≡ Some l → l.place ≡ 0
  pub signals : HaveSignals links (length tables.de_signals)
  pub of : HaveSignalsOf tables links
  pub each : (j : ℕ) (l : Link) → slice_get links j ≡ Some l
      → (actor_kind tables l.actor ≡ Some actor.Sink) × (l.sampler ≡ false)
  pub all : (m : ℕ) → actor_kind tables m ≡ Some actor.Sink → HasLink links m
