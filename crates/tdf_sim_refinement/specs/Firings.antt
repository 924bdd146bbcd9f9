-- The firings of one cluster at a time: which entries of its plan are due, and what there is in the
-- history after so many of them.
-- Source: own.
use Rattle.std.specs.Prelude.{◌≡◌, ◌≤◌, ◌<◌, ℕ, zero, suc, ◌+◌, ◌-◌, true, false, List, [], ◌∷◌, ◌++◌, Option, Some, None, length, slice_get, slice_index_or, slice_set}
use Rattle.tdf_bind_tables.specs.FlatTables.{FlatTablesOf}
use Rattle.tdf_convert.specs.declared.outputs.Sent.{Sent}
use Rattle.tdf_fixed.specs.declared.raw.Raw.{Raw}
use Rattle.tdf_bind.specs.declared.model.Flat.{Flat}
use Rattle.tdf_graph.specs.declared.actors.Actor.{Actor}
use Rattle.tdf_graph.specs.declared.actors.Actor.TheVariants as actor
use Rattle.tdf_sim_history.specs.Instant.{actor_of_entry, is_entry_due, sample_taken, signal_of}
use Rattle.tdf_sim_history.specs.World.{ClusterAt, Rules, SinkWrite, World}
use Rattle.tdf_schedule.specs.declared.entry.Entry.{Entry}
use Rattle.tdf_streams.specs.Cluster.{zero_sample}
use Rattle.tdf_streams.specs.Places.{actor_kind}
use Rattle.tdf_lang_tree.specs.Pure.{PureTree}

-- the next k entries of a cluster are due at a time, and the one after them isn't
pub record AreDueNext (time k : ℕ) (h : ClusterAt) : Type 0 where
  pub within : h.place + k ≤ length h.entries
  pub due : (i : ℕ) → i < k
      → is_entry_due time h (slice_get h.entries (h.place + i)) ≡ true
  pub last : is_entry_due time h (slice_get h.entries (h.place + k)) ≡ false

-- the next entry is not one of an earlier time
pub record IsNotLate (time : ℕ) (h : ClusterAt) : Type 0 where
  pub begun : h.since ≤ time
  pub next : (x : Entry) → slice_get h.entries h.place ≡ Some x → time ≤ h.since + x.offset

-- the actor of entry i of those to come
abbrev pub actor_at_place : ClusterAt → (i : ℕ) → ℕ
actor_at_place h i = actor_of_entry (slice_get h.entries (h.place + i))

-- the value that a sampler reads, of the settled values of the event signals
abbrev pub value_for : FlatTablesOf → List Raw → (m : ℕ) → Raw
value_for tables values m = slice_index_or values (signal_of tables m) zero_sample

-- what samplers have read after a firing of actor m: a sampler has read one value more
abbrev pub read_by : FlatTablesOf → List Raw → (m : ℕ) → Option Actor → List (List Raw)
    → List (List Raw)
read_by tables values m (Some actor.Sampler) reads =
    slice_set reads m (slice_index_or reads m [] ++ value_for tables values m ∷ [])
read_by tables values m (Some actor.Module) reads = reads
read_by tables values m (Some actor.Sink) reads = reads
read_by tables values m None reads = reads

-- after the next k entries
unfoldable pub reads_after : FlatTablesOf → List Raw → ClusterAt → (k : ℕ) → List (List Raw)
reads_after tables values h zero = h.reads
reads_after tables values h (suc k) = read_by tables values (actor_at_place h k)
    (actor_kind tables (actor_at_place h k)) (reads_after tables values h k)

abbrev pub after_firings : FlatTablesOf → List Raw → ClusterAt → (k : ℕ) → ClusterAt
after_firings tables values h k =
    record h { place = h.place + k; reads = reads_after tables values h k }

-- what a sink sends is a write of its signal
abbrev pub write_of : FlatTablesOf → Sent → SinkWrite
write_of tables s = record { signal = signal_of tables s.actor; value = s.value }

-- what a firing of actor m gives to the event side: a sink its sample
abbrev pub write_by : PureTree → Flat → (cluster : ℕ) → ClusterAt → (m : ℕ) → Option Actor
    → List SinkWrite
write_by model flat cluster h m (Some actor.Sink) = record {
  signal = signal_of flat.tables m;
  value = sample_taken model flat cluster h m;
} ∷ []
write_by model flat cluster h m (Some actor.Module) = []
write_by model flat cluster h m (Some actor.Sampler) = []
write_by model flat cluster h m None = []

-- what the next k entries give
unfoldable pub writes_after : PureTree → Flat → List Raw → (cluster : ℕ) → ClusterAt → (k : ℕ)
    → List SinkWrite
writes_after model flat values cluster h zero = []
writes_after model flat values cluster h (suc k) = writes_after model flat values cluster h k
    ++ write_by model flat cluster (after_firings flat.tables values h k) (actor_at_place h k)
    (actor_kind flat.tables (actor_at_place h k))

module _ {K : Type 0} where
  abbrev pub settled_values : Rules K → World K → List Raw
  settled_values rules w = rules.event_side.values w.events

  -- what there is when cluster n, which was h, has done its next k entries
  abbrev pub world_after : PureTree → Flat → Rules K → (n : ℕ) → ClusterAt → World K → (k : ℕ)
      → World K
  world_after model flat rules n h w k = record w {
    clusters = slice_set w.clusters n (after_firings flat.tables (settled_values rules w) h k);
    left = w.left - k;
    written = w.written ++ writes_after model flat (settled_values rules w) (n + 1) h k;
  }
