-- One entry of the plan.
-- Source: own.
use Rattle.std.specs.List.{All, count_by}
use Rattle.std.specs.Prelude.{◌≡◌, ℕ, ◌+◌, ◌<◌, ◌++◌, if◌then◌else◌, nat_eq, List, [], length, drop, ◌≤◌, Some, slice_get, slice_index}
use Rattle.tdf_bind_tables.specs.FlatTables.{FlatTablesOf}
use Rattle.tdf_convert.specs.Outputs.{OutputsOf}
use Rattle.tdf_convert.specs.declared.outputs.Sent.{Sent}
use Rattle.tdf_convert.specs.declared.outputs.Traced.{Traced}
use Rattle.tdf_exec.specs.Cluster.{ClusterOf}
use Rattle.tdf_exec.specs.Gained.{Gives, SampleHasFewPlaces, HasGained, HaveRoom, IsSentOf, sent_size, traced_size, with_gains}
use Rattle.tdf_exec.specs.Made.{IsClusterOf, is_sampler_runner}
use Rattle.tdf_exec_layout.specs.Samples.{edge_format}
use Rattle.tdf_exec.specs.Played.{AreInputsGiven, HasPlayed, IsLike, IsMoved, IsPeriodOf, counted, play_of}
use Rattle.tdf_exec.specs.Runners.{SamplerOf}
use Rattle.tdf_exec.specs.declared.runners.Runner.{Runner}
use Rattle.tdf_exec.specs.declared.runners.Runner.TheVariants as runner
use Rattle.tdf_expr.specs.Checked.{IsCheckedOf}
use Rattle.tdf_expr.specs.Frames.{IsOfFormat}
use Rattle.tdf_fixed.specs.declared.format.Format.{Format}
use Rattle.tdf_fixed.specs.declared.raw.Raw.{Raw}
use Rattle.tdf_bind.specs.declared.model.Flat.{Flat}
use Rattle.tdf_exec_layout.specs.Wiring.{Writes}
use Rattle.tdf_rings.specs.Carried.{ring_at}
use Rattle.tdf_rings.specs.Rings.{RingOf, ring_of}
use Rattle.tdf_schedule.specs.declared.entry.Entry.{Entry}
use Rattle.tdf_streams.specs.Cluster.{Start, cluster_net}
use Rattle.tdf_streams.specs.Periods.{PeriodRecord}
use Rattle.tdf_streams.specs.Places.{reader_at, writer_at}
use Rattle.tdf_lang_tree.specs.Pure.{PureTree}

-- there is an input for each sampler, and one of its format for the next entry
pub record AreInputsNext (flat : Flat) (c : ClusterOf) (inputs : List Raw) : Type 0 where
  pub many : length inputs ≡ count_by is_sampler_runner c.runners
  pub formats : (e : ℕ) (x : Entry) (s : SamplerOf) (v : Raw) (f : Format)
      → slice_get c.entries c.place ≡ Some x
      → slice_get c.runners x.actor ≡ Some (runner.Sampler s)
      → slice_get inputs s.place ≡ Some v
      → Writes flat.tables x.actor e → edge_format flat.tables e ≡ Some f → IsOfFormat f v

-- the parts of a cluster that a firing changes
abbrev pub with_parts : ClusterOf → (place : ℕ) → List RingOf → List Runner → List ℕ → ClusterOf
with_parts c place rings runners positions = record c {
  place = place;
  rings = rings;
  runners = runners;
  positions = positions;
}

-- the samples of an edge once an actor has read it
abbrev pub kept : FlatTablesOf → (reads : List ℕ) → (m e : ℕ) → List Raw → List Raw
kept tables reads m e samples =
    if nat_eq (reader_at tables.edges e) m then drop (slice_index reads e) samples else samples

-- actor m takes what it reads from each edge, and puts these samples on those that it writes
pub record AreMovedBy (tables : FlatTablesOf) (c : ClusterOf) (m : ℕ) (given : ℕ → List Raw)
    (new : List RingOf) : Type 0 where
  pub same : length new ≡ length c.rings
  pub moved : (e : ℕ) → e < length tables.edges → ring_at new e ≡ ring_of
      (kept tables c.reads m e (ring_at c.rings e).samples
      ++ (if nat_eq (writer_at tables.edges e) m then given e else []))
      (ring_at c.rings e).capacity
  pub long : (e : ℕ) → e < length tables.edges → writer_at tables.edges e ≡ m
      → length (given e) ≡ slice_index c.writes e
  pub formats : (e : ℕ) (f : Format) → e < length tables.edges → edge_format tables e ≡ Some f
      → writer_at tables.edges e ≡ m → All (IsOfFormat f) (given e)

-- the outputs have room for what the next entry gives
pub record HasRoomNext (c : ClusterOf) (outputs : OutputsOf) : Type 0 where
  pub sent : (x : Entry) → slice_get c.entries c.place ≡ Some x
      → length outputs.sent + sent_size (slice_get c.runners x.actor) ≤ outputs.sent_room
  pub traced : (x : Entry) → slice_get c.entries c.place ≡ Some x
      → length outputs.traced + traced_size (slice_get c.runners x.actor) ≤ outputs.traced_room

-- a step of the streams, whatever they are, with what it gives
abbrev pub IsAnyStep : Flat → (inputs : List Raw) → (c d : ClusterOf) → Entry → List Sent
    → List Traced → Type 0
IsAnyStep flat inputs c d x sent traced = (model : PureTree) (start : Start)
    → (old : List PeriodRecord) (p : PeriodRecord) (reads : ℕ → List Raw) (from : ℕ)
    → IsCheckedOf model flat.checked → IsPeriodOf c from p
    → AreInputsGiven c inputs reads old from c.place x
    → Gives flat (cluster_net model flat c.number start) old p reads x.actor (play_of from c)
    (play_of from d) sent traced

-- the next entry is done, as a step of the streams
pub record HasStepped (flat : Flat) (inputs : List Raw) (c d : ClusterOf)
    (before after : OutputsOf) : Type 0 where
  pub entry : Entry
  pub at : slice_get c.entries c.place ≡ Some entry
  pub rest : d ≡ with_parts c (c.place + 1) d.rings d.runners d.positions
  pub runners : (m : ℕ) (r : Runner) → slice_get c.runners m ≡ Some r
      → (s : Runner) × (slice_get d.runners m ≡ Some s) × IsLike r s
  pub same : length d.positions ≡ length c.positions
  pub own : slice_index d.positions entry.actor ≡ counted (slice_index c.positions entry.actor + 1)
  pub others : (m : ℕ) → (m ≡ entry.actor → ⊥)
      → slice_index d.positions m ≡ slice_index c.positions m
  pub sent : List Sent
  pub traced : List Traced
  pub gains : after ≡ with_gains before sent traced
  pub sinks : All (IsSentOf flat.tables) sent
  pub places : All SampleHasFewPlaces traced
  pub few_sent : length sent ≡ sent_size (slice_get c.runners entry.actor)
  pub few_traced : length traced ≡ traced_size (slice_get c.runners entry.actor)
  pub step : IsAnyStep flat inputs c d entry sent traced

-- entries of an offset are done, from one place of the plan to another
pub record ArePlayed (flat : Flat) (offset : ℕ) (inputs : List Raw) (c d : ClusterOf)
    (before after : OutputsOf) : Type 0 where
  pub of : IsClusterOf flat d
  pub many : length inputs ≡ count_by is_sampler_runner d.runners
  pub moved : IsMoved c d
  pub each : (i : ℕ) (x : Entry) → c.place ≤ i → i < d.place → slice_get c.entries i ≡ Some x
      → x.offset ≡ offset
  pub played : HasPlayed flat offset inputs c d
  pub gained : HasGained flat offset inputs c d before after
  pub room : HaveRoom offset d after
