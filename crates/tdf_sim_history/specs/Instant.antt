-- An instant: boundaries by cluster number, then firings by cluster number and in plan order, then
-- the event side. Each boundary and each firing takes a turn.
-- Source: own; samplers and sinks after IEEE 1666.1-2016 (converter ports), their values after the
-- evaluation and update phases of IEEE 1666-2011, 4.2.
use Rattle.std.specs.List.{list_any}
use Rattle.std.specs.Prelude.{ℕ, zero, suc, ◌+◌, ◌-◌, Bool, true, false, ◌&&◌, ◌||◌, nat_eq, if◌then◌else◌, Option, Some, None, List, [], ◌∷◌, ◌++◌, drop, length, slice_get, slice_index_or, slice_set, sum_by, unwrap_or}
use Rattle.tdf_base.specs.declared.faults.Fault.{Fault}
use Rattle.tdf_bind_tables.specs.FlatTables.{FlatTablesOf}
use Rattle.tdf_bind_tables.specs.declared.actors.ActorRow.{ActorRow}
use Rattle.tdf_dynamic_plans.specs.Attributes.{AttrsOf}
use Rattle.tdf_fixed.specs.declared.raw.Raw.{Raw}
use Rattle.tdf_dynamic.specs.Below.{Flat, PeriodInfo, PeriodRecord, Run, cluster_net, count, firings, known, period_record, place, reader_at, zero_sample}
use Rattle.tdf_graph.specs.declared.actors.Actor.{Actor}
use Rattle.tdf_graph.specs.declared.actors.Actor.TheVariants as actor
use Rattle.tdf_sim_history.specs.World.{Change, ClusterAt, New, Refused, Rules, Same, Settled, SinkWrite, World, next_change}
use Rattle.tdf_sim_history.specs.History.{Engine, Fault as Faulted, Going, Past, Step, and_then, turns_to}
use Rattle.tdf_schedule.specs.Plan.{done}
use Rattle.tdf_schedule.specs.declared.entry.Entry.{Entry}
use Rattle.tdf_lang_tree.specs.Pure.{PureTree}
use Rattle.tdf_bind_connections.specs.declared.modules.PortRow.{PortRow}

-- a fault at a boundary of a cluster
pub record RunFault : Type 0 where
  pub cluster : ℕ
  pub fault : Fault

-- the periods of a cluster, and its run
abbrev pub periods_of : ClusterAt → List PeriodRecord
periods_of c = c.old ++ c.now ∷ []

abbrev pub run_in : ClusterAt → Run Raw PeriodInfo
run_in c = record { periods = periods_of c; reads = λ m. slice_index_or c.reads m [] }

-- what a period keeps of the one before: the counts are whole again
abbrev pub same_period : List AttrsOf → PeriodRecord → PeriodRecord
same_period table p = record {
  counts = p.info.counts;
  writes = p.writes;
  reads = p.reads;
  info = record {
    table = table;
    counts = p.info.counts;
    period = p.info.period;
    is_new = false;
  };
}

-- the next period begins, and what was told of its boundary is used
abbrev pub with_same : (time : ℕ) → List AttrsOf → ClusterAt → ClusterAt
with_same time table c = record c {
  since = time;
  from = 0;
  place = 0;
  old = periods_of c;
  now = same_period table c.now;
  ahead = drop 1 c.ahead;
}

abbrev pub with_new : FlatTablesOf → (time : ℕ) → List AttrsOf → (counts : List ℕ) → (period : ℕ)
    → List Entry → List ℕ → ClusterAt → ClusterAt
with_new tables time table counts period entries bounds c = record c {
  entries = entries;
  bounds = bounds;
  since = time;
  from = 0;
  place = 0;
  old = periods_of c;
  now = period_record tables table counts period true;
  ahead = drop 1 c.ahead;
}

-- the period of a cluster ends at a time
abbrev pub is_over : (time : ℕ) → ClusterAt → Bool
is_over time c =
    nat_eq c.place (length c.entries) && nat_eq time (c.since + c.now.info.period)

-- the signal of a sampler or a sink: that of its port
abbrev pub signal_of_port : Option PortRow → ℕ
signal_of_port None = 0
signal_of_port (Some port) = port.signal

abbrev pub signal_of_row : FlatTablesOf → Option ActorRow → ℕ
signal_of_row tables None = 0
signal_of_row tables (Some row) = signal_of_port (slice_get tables.ports row.port)

abbrev pub signal_of : FlatTablesOf → ℕ → ℕ
signal_of tables m = signal_of_row tables (slice_get tables.actors m)

-- the edge of a sink: the first one that it reads
unfoldable pub edge_read_from : FlatTablesOf → (m e n : ℕ) → ℕ
edge_read_from tables m e zero = e
edge_read_from tables m e (suc n) =
    if nat_eq (reader_at tables.edges e) m then e else edge_read_from tables m (e + 1) n

-- activations of an actor in the period since the start, and in all
abbrev pub acts_now : ClusterAt → ℕ → ℕ
acts_now c m = done c.entries c.place m - done c.entries c.from m

abbrev pub activations : ClusterAt → ℕ → ℕ
activations c m = sum_by (count m) c.old + acts_now c m

-- the sample that a sink takes: the next one of its edge
abbrev pub sample_taken : PureTree → Flat → (cluster : ℕ) → ClusterAt → ℕ → Raw
sample_taken model flat cluster c m = unwrap_or
    (place (cluster_net model flat cluster c.begun) (periods_of c)
    (known (cluster_net model flat cluster c.begun) (run_in c) (firings (periods_of c)))
    (edge_read_from flat.tables m 0 (length flat.tables.edges)) (activations c m))
    zero_sample

abbrev pub with_read : ℕ → Raw → ClusterAt → ClusterAt
with_read m value c = record c {
  reads = slice_set c.reads m (slice_index_or c.reads m [] ++ value ∷ []);
}

-- what the next entry does, of an actor of a kind: a sampler reads the value that its signal had
-- settled by the instants before, a sink writes
abbrev pub stepped : ClusterAt → ClusterAt
stepped c = record c { place = c.place + 1 }

-- the next entry of a cluster, if its offset is a time's
abbrev pub is_entry_due : (time : ℕ) → ClusterAt → Option Entry → Bool
is_entry_due time c None = false
is_entry_due time c (Some x) = nat_eq time (c.since + x.offset)

abbrev pub actor_of_entry : Option Entry → ℕ
actor_of_entry None = 0
actor_of_entry (Some x) = x.actor

abbrev pub next_entry : ClusterAt → Option Entry
next_entry c = slice_get c.entries c.place

-- all firings of a cluster that are due: no more than its plan has
abbrev pub plan_length : Option ClusterAt → ℕ
plan_length None = 0
plan_length (Some c) = length c.entries

-- the event side: it runs where a sink wrote or something is pending
abbrev pub has_write : List SinkWrite → Bool
has_write [] = false
has_write (x ∷ xs) = true

-- something is due: a boundary, a firing, or what is pending
abbrev pub is_cluster_due : (time : ℕ) → ClusterAt → Bool
is_cluster_due time c = is_over time c || is_entry_due time c (next_entry c)

module _ {K : Type 0} where
  abbrev pub with_cluster : ℕ → ClusterAt → World K → World K
  with_cluster n c w = record w { clusters = slice_set w.clusters n c; left = w.left - 1 }

  abbrev pub changed_by : FlatTablesOf → (time n : ℕ) → ClusterAt → Change → World K
      → Step (World K) RunFault
  changed_by tables time n c (Same table) w = Going (with_cluster n (with_same time table c) w)
  changed_by tables time n c (New table counts period entries bounds) w = Going (record
      (with_cluster n (with_new tables time table counts period entries bounds c) w) {
        planned = w.planned ++ n ∷ [];
      })
  changed_by tables time n c (Refused fault) w =
      Faulted (record { cluster = n + 1; fault = fault }) w

  -- the boundary of cluster n, if it is due; its turn comes first
  abbrev pub boundary_of : FlatTablesOf → (time n : ℕ) → Option ClusterAt → World K
      → Step (World K) RunFault
  boundary_of tables time n None w = Going w
  boundary_of tables time n (Some c) w = if is_over time c
      then (if nat_eq w.left 0 then Past w else changed_by tables time n c (next_change c) w)
      else Going w

  abbrev pub boundary : FlatTablesOf → (time n : ℕ) → World K → Step (World K) RunFault
  boundary tables time n w = boundary_of tables time n (slice_get w.clusters n) w

  abbrev pub fired_as : PureTree → Flat → Rules K → (n m : ℕ) → Actor → ClusterAt → World K
      → World K
  fired_as model flat rules n m actor.Module c w = with_cluster n (stepped c) w
  fired_as model flat rules n m actor.Sampler c w = with_cluster n (stepped (with_read m
      (slice_index_or (rules.event_side.values w.events) (signal_of flat.tables m) zero_sample)
      c)) w
  fired_as model flat rules n m actor.Sink c w = record (with_cluster n (stepped c) w) {
    written = w.written ++ record {
      signal = signal_of flat.tables m;
      value = sample_taken model flat (n + 1) c m;
    } ∷ [];
  }

  abbrev pub fired : PureTree → Flat → Rules K → (n m : ℕ) → Option ActorRow → ClusterAt → World K
      → World K
  fired model flat rules n m None c w = with_cluster n (stepped c) w
  fired model flat rules n m (Some row) c w = fired_as model flat rules n m row.kind c w

  -- one firing of cluster n, if one is due
  abbrev pub firing_of : PureTree → Flat → Rules K → (time n : ℕ) → Option ClusterAt → World K
      → Step (World K) RunFault
  firing_of model flat rules time n None w = Going w
  firing_of model flat rules time n (Some c) w = if is_entry_due time c (next_entry c)
      then (if nat_eq w.left 0 then Past w
      else Going (fired model flat rules n (actor_of_entry (next_entry c))
      (slice_get flat.tables.actors (actor_of_entry (next_entry c))) c w)) else Going w

  abbrev pub firing : PureTree → Flat → Rules K → (time n : ℕ) → World K → Step (World K) RunFault
  firing model flat rules time n w =
      firing_of model flat rules time n (slice_get w.clusters n) w

  abbrev pub all_firings : PureTree → Flat → Rules K → (time n : ℕ) → World K
      → Step (World K) RunFault
  all_firings model flat rules time n w =
      turns_to (λ k v. firing model flat rules time n v) (plan_length (slice_get w.clusters n)) w

  abbrev pub settled_as : Option (Settled K) → World K → Step (World K) RunFault
  settled_as None w = Past w
  settled_as (Some s) w = Going (record w { events = s.events; left = s.left })

  abbrev pub events_of : Rules K → (time : ℕ) → World K → Step (World K) RunFault
  events_of rules time w =
      if has_write w.written || rules.event_side.is_due w.events time
      then settled_as (rules.event_side.settle time w.written w.left w.events) w else Going w

  abbrev pub at_begin : World K → World K
  at_begin w = record w { written = []; planned = [] }

  abbrev pub instant : PureTree → Flat → Rules K → (time : ℕ) → World K → Step (World K) RunFault
  instant model flat rules time w = and_then
      (and_then (turns_to (boundary flat.tables time) (length w.clusters) (at_begin w))
      (λ v. turns_to (all_firings model flat rules time) (length w.clusters) v))
      (events_of rules time)

  abbrev pub is_due : Rules K → World K → (time : ℕ) → Bool
  is_due rules w time =
      list_any (is_cluster_due time) w.clusters || rules.event_side.is_due w.events time

  abbrev pub engine : PureTree → Flat → Rules K → Engine (World K) RunFault
  engine model flat rules =
      record { is_due = is_due rules; instant = instant model flat rules }
