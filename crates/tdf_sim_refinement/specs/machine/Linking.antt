-- How links are found, by one look at each actor.
-- Source: own.
use Rattle.std.specs.List.{count_by}
use Rattle.std.specs.Prelude.{◌≡◌, ◌<◌, ◌+◌, ◌&&◌, ℕ, Bool, true, false, List, [], Some, length, nat_le, nat_lt, slice_get, take}
use Rattle.tdf_bind_tables.specs.FlatTables.{FlatTablesOf}
use Rattle.tdf_bind_tables.specs.declared.actors.ActorRow.{ActorRow}
use Rattle.tdf_convert.specs.Links.{AreBefore, AreLinks, HaveSignals, samplers_in}
use Rattle.tdf_convert.specs.declared.links.Link.{Link}
use Rattle.tdf_convert.specs.declared.links.Links.{Links}
use Rattle.tdf_graph.specs.declared.actors.Actor.{Actor}
use Rattle.tdf_graph.specs.declared.actors.Actor.TheVariants as actor
use Rattle.tdf_sim_refinement.specs.Linked.{HaveSignalsOf, HasLink, is_own_sampler, is_sampler}
use Rattle.tdf_sim_refinement.specs.declared.linking.Wanted.{Wanted}
use Rattle.tdf_sim_refinement.specs.declared.linking.Wanted.TheVariants.{SamplersOf, Sinks}

abbrev pub is_sink : Actor → Bool
is_sink actor.Module = false
is_sink actor.Sampler = false
is_sink actor.Sink = true

-- whether an actor is one of those whose links are wanted, and whether these are samplers
abbrev pub is_wanted : Wanted → ActorRow → Bool
is_wanted (SamplersOf cluster) row = is_own_sampler cluster row
is_wanted Sinks row = is_sink row.kind

abbrev pub of_samplers : Wanted → Bool
of_samplers (SamplersOf cluster) = true
of_samplers Sinks = false

abbrev pub is_counted : Wanted → ActorRow → Bool
is_counted (SamplersOf cluster) row = is_own_sampler cluster row
is_counted Sinks row = false

-- how many samplers of those are among the first n actors
unfoldable pub counted_before : FlatTablesOf → Wanted → (n : ℕ) → ℕ
counted_before tables wanted n = count_by (is_counted wanted) (take n tables.actors)

-- the link of an actor that is wanted
pub record IsLinkOf (tables : FlatTablesOf) (wanted : Wanted) (l : Link) : Type 0 where
  pub row : ActorRow
  pub at : slice_get tables.actors l.actor ≡ Some row
  pub is : is_wanted wanted row ≡ true
  pub sampler : l.sampler ≡ of_samplers wanted
  pub place : l.place ≡ counted_before tables wanted l.actor

-- the links of those among the first n actors
pub record AreLinkedUpTo (tables : FlatTablesOf) (wanted : Wanted) (n : ℕ) (links : List Link)
    : Type 0 where
  pub placed : AreLinks links (samplers_in links)
  pub below : AreBefore n links
  pub signals : HaveSignals links (length tables.de_signals)
  pub of : HaveSignalsOf tables links
  pub each : (j : ℕ) (l : Link) → slice_get links j ≡ Some l → IsLinkOf tables wanted l
  pub all : (m : ℕ) (row : ActorRow) → m < n → slice_get tables.actors m ≡ Some row
      → is_wanted wanted row ≡ true → HasLink links m
  pub counted : samplers_in links ≡ counted_before tables wanted n

-- a sampler of one of the first `count` clusters
abbrev pub is_some_sampler : (count : ℕ) → ActorRow → Bool
is_some_sampler count row = is_sampler row.kind && nat_lt 0 row.cluster && nat_le row.cluster count

-- so many clusters have no links yet
pub record AreWithoutLinks (count : ℕ) (links : List Links) : Type 0 where
  pub long : length links ≡ count
  pub each : (m : ℕ) (l : Links) → slice_get links m ≡ Some l → l.list.items ≡ []

-- the links of the samplers of the first `count` clusters, of those among the first n actors
pub record AreAllLinkedUpTo (tables : FlatTablesOf) (count n : ℕ) (links : List Links)
    : Type 0 where
  pub long : length links ≡ count
  pub each : (m : ℕ) (l : Links) → slice_get links m ≡ Some l
      → AreLinkedUpTo tables (SamplersOf (m + 1)) n l.list.items
