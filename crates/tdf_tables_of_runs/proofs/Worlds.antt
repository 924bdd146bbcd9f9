-- All values in a history have at most 64 bits, where they do at its start.
use Rattle.std.proofs.Common.{◌≡◌, ℕ, zero, suc, ◌+◌, ◌||◌, if◌then◌else◌, nat_eq, List, [], ◌∷◌, ◌++◌, length, map, ℤ, Option, Some, None, option_map, refl}
use Rattle.std.specs.List.{AllByRecursion}
use Rattle.std.specs.Prelude.{slice_get, slice_index_or, unwrap_or}
use Rattle.tdf_bind.specs.declared.model.Flat.{Flat}
use Rattle.tdf_bind_tables.specs.declared.actors.ActorRow.{ActorRow}
use Rattle.tdf_events.specs.Delta.{event_part}
use Rattle.tdf_events.specs.Side.{SideOf}
use Rattle.tdf_expr.specs.Checked.{IsCheckedOf}
use Rattle.tdf_fixed.specs.declared.raw.Raw.{Raw}
use Rattle.tdf_graph.specs.declared.actors.Actor.{Actor}
use Rattle.tdf_graph.specs.declared.actors.Actor.TheVariants as actor
use Rattle.tdf_lang_tree.specs.Pure.{PureTree}
use Rattle.tdf_sim_history.specs.Cells.{world_of}
use Rattle.tdf_sim_history.specs.History.{Fault, Going, HistoryState, On, Past, Spent, Step, Stopped, after, and_then, history, state_of, turns_to}
use Rattle.tdf_sim_history.specs.Instant.{RunFault, activations, actor_of_entry, all_firings, at_begin, boundary, boundary_of, changed_by, edge_read_from, engine, events_of, fired, fired_as, firing, firing_of, has_write, instant, is_entry_due, is_over, next_entry, periods_of, plan_length, run_in, sample_taken, settled_as, signal_of, stepped, with_cluster, with_new, with_read, with_same}
use Rattle.tdf_sim_history.specs.Rules.{rules_of, settle, signal_write}
use Rattle.tdf_sim_history.specs.Texts.{left_by}
use Rattle.tdf_sim_history.specs.World.{Change, ClusterAt, New, Refused, Same, SinkWrite, World, next_change}
use Rattle.tdf_streams.specs.Cluster.{cluster_net, zero_sample}
use Rattle.tdf_streams.specs.Grounds.{firings}
use Rattle.tdf_streams.specs.Net.{Turn}
use Rattle.tdf_streams.specs.Places.{actor_kind}
use Rattle.tdf_streams.specs.Streams.{known, place}
use Rattle.tdf_tables_of_runs.proofs.Known.{known_kept, place_kept}
use Rattle.tdf_tables_of_runs.proofs.Outputs.{acted_small}
use Rattle.tdf_tables_of_runs.proofs.Sides.{AreSmallWrites, IsSmallEnd, IsSmallSide, event_part_small}
use Rattle.tdf_tables_of_runs.proofs.Small.{AreSmall, IsSmallRaw, all_at, all_both, all_or, all_set, either, value_small, zero_small}

pub record IsSmallCluster (c : ClusterAt) : Type 0 where
  pub begun : AllByRecursion AreSmall c.begun.lists
  pub reads : AllByRecursion AreSmall c.reads

abbrev IsSmallSinkWrite : SinkWrite → Type 0
IsSmallSinkWrite write = IsSmallRaw write.value

pub record IsSmallWorld (w : World SideOf) : Type 0 where
  pub clusters : AllByRecursion IsSmallCluster w.clusters
  pub events : IsSmallSide w.events
  pub written : AllByRecursion IsSmallSinkWrite w.written

abbrev IsSmallStep : Step (World SideOf) RunFault → Type 0
IsSmallStep s = IsSmallWorld (left_by s)

writes_same : (writes : List SinkWrite) → AllByRecursion IsSmallSinkWrite writes → AreSmallWrites (map signal_write writes)
writes_same [] h = tt
writes_same (w ∷ ws) h = (h.0, writes_same ws h.1)

module _ (model : PureTree) (flat : Flat) (checked : IsCheckedOf model flat.checked) where
  -- ---- the streams of a cluster

  module _ (cluster : ℕ) (c : ClusterAt) (small : IsSmallCluster c) where
    initial : (e k : ℕ) → IsSmallRaw ((cluster_net model flat cluster c.begun).initial e k)
    initial e k = value_small (slice_index_or c.begun.lists e []) k (all_or AreSmall c.begun.lists e [] small.begun tt)

    reads : (m : ℕ) → AreSmall ((run_in c).reads m)
    reads m = all_or AreSmall c.reads m [] small.reads tt

    pub turn_small : (f m n : ℕ) (t : Turn (List ℤ) Raw) → known (cluster_net model flat cluster c.begun) (run_in c) f m n ≡ Some t → (port k : ℕ) → IsSmallRaw (t.outputs port k)
    turn_small = known_kept IsSmallRaw (cluster_net model flat cluster c.begun) initial
        (λ m p x xs h port k. acted_small model flat checked m (actor_kind flat.tables m) p.info x xs h port k) (run_in c) reads

    place_small : (e k : ℕ) (v : Raw)
        → place (cluster_net model flat cluster c.begun) (periods_of c) (known (cluster_net model flat cluster c.begun) (run_in c) (firings (periods_of c))) e k ≡ Some v → IsSmallRaw v
    place_small = place_kept IsSmallRaw (cluster_net model flat cluster c.begun) initial
        (λ m p x xs h port k. acted_small model flat checked m (actor_kind flat.tables m) p.info x xs h port k)
        (periods_of c) (known (cluster_net model flat cluster c.begun) (run_in c) (firings (periods_of c))) (turn_small (firings (periods_of c)))

  unwrapped : (o : Option Raw) → ((v : Raw) → o ≡ Some v → IsSmallRaw v) → IsSmallRaw (unwrap_or o zero_sample)
  unwrapped None each = zero_small
  unwrapped (Some v) each = each v refl

  taken_small : (cluster : ℕ) (c : ClusterAt) (m : ℕ) → IsSmallCluster c → IsSmallRaw (sample_taken model flat cluster c m)
  taken_small cluster c m small = unwrapped
      (place (cluster_net model flat cluster c.begun) (periods_of c) (known (cluster_net model flat cluster c.begun) (run_in c) (firings (periods_of c)))
      (edge_read_from flat.tables m 0 (length flat.tables.edges)) (activations c m))
      (place_small cluster c small (edge_read_from flat.tables m 0 (length flat.tables.edges)) (activations c m))

  -- ---- boundaries and firings

  cluster_set : (n : ℕ) (c : ClusterAt) (w : World SideOf) → IsSmallCluster c → IsSmallWorld w → IsSmallWorld (with_cluster n c w)
  cluster_set n c w g h = record { clusters = all_set IsSmallCluster w.clusters n c h.clusters g; events = h.events; written = h.written }

  changed_small : (time n : ℕ) (c : ClusterAt) (x : Change) (w : World SideOf) → IsSmallCluster c → IsSmallWorld w → IsSmallStep (changed_by flat.tables time n c x w)
  changed_small time n c (Same table) w g h = cluster_set n (with_same time table c) w (record { begun = g.begun; reads = g.reads }) h
  changed_small time n c (New table counts period entries bounds) w g h =
      let s = cluster_set n (with_new flat.tables time table counts period entries bounds c) w (record { begun = g.begun; reads = g.reads }) h in
      record { clusters = s.clusters; events = s.events; written = s.written }
  changed_small time n c (Refused fault) w g h = h

  boundary_small : (time n : ℕ) (o : Option ClusterAt) (w : World SideOf) → slice_get w.clusters n ≡ o → IsSmallWorld w → IsSmallStep (boundary_of flat.tables time n o w)
  boundary_small time n None w at h = h
  boundary_small time n (Some c) w at h =
      let small = all_at IsSmallCluster w.clusters n c h.clusters at in
      let next = changed_by flat.tables time n c (next_change c) w in
      either IsSmallStep (is_over time c) (if nat_eq w.left 0 then Past w else next) (Going w)
      (either IsSmallStep (nat_eq w.left 0) (Past w) next h (changed_small time n c (next_change c) w small h)) h

  read_small : (m : ℕ) (value : Raw) (c : ClusterAt) → IsSmallRaw value → IsSmallCluster c → IsSmallCluster (stepped (with_read m value c))
  read_small m value c a h =
      let old = slice_index_or c.reads m [] in record {
        begun = h.begun;
        reads = all_set AreSmall c.reads m (old ++ value ∷ []) h.reads (all_both IsSmallRaw old (value ∷ []) (all_or AreSmall c.reads m [] h.reads tt) (a, tt));
      }

  kind_small : (n m : ℕ) (kind : Actor) (c : ClusterAt) (w : World SideOf) → IsSmallCluster c → IsSmallWorld w → IsSmallWorld (fired_as model flat (rules_of model flat) n m kind c w)
  kind_small n m actor.Module c w g h = cluster_set n (stepped c) w (record { begun = g.begun; reads = g.reads }) h
  kind_small n m actor.Sampler c w g h =
      let value = slice_index_or w.events.values (signal_of flat.tables m) zero_sample in
      cluster_set n (stepped (with_read m value c)) w (read_small m value c (value_small w.events.values (signal_of flat.tables m) h.events.values) g) h
  kind_small n m actor.Sink c w g h =
      let s = cluster_set n (stepped c) w (record { begun = g.begun; reads = g.reads }) h in record {
        clusters = s.clusters;
        events = s.events;
        written = all_both IsSmallSinkWrite w.written (record { signal = signal_of flat.tables m; value = sample_taken model flat (n + 1) c m } ∷ []) h.written
            (taken_small (n + 1) c m g, tt);
      }

  fired_small : (n m : ℕ) (o : Option ActorRow) (c : ClusterAt) (w : World SideOf) → IsSmallCluster c → IsSmallWorld w → IsSmallWorld (fired model flat (rules_of model flat) n m o c w)
  fired_small n m None c w g h = cluster_set n (stepped c) w (record { begun = g.begun; reads = g.reads }) h
  fired_small n m (Some row) c w g h = kind_small n m row.kind c w g h

  firing_small : (time n : ℕ) (o : Option ClusterAt) (w : World SideOf) → slice_get w.clusters n ≡ o → IsSmallWorld w → IsSmallStep (firing_of model flat (rules_of model flat) time n o w)
  firing_small time n None w at h = h
  firing_small time n (Some c) w at h =
      let small = all_at IsSmallCluster w.clusters n c h.clusters at in
      let m = actor_of_entry (next_entry c) in
      let next = fired model flat (rules_of model flat) n m (slice_get flat.tables.actors m) c w in
      either IsSmallStep (is_entry_due time c (next_entry c)) (if nat_eq w.left 0 then Past w else Going next) (Going w)
      (either IsSmallStep (nat_eq w.left 0) (Past w) (Going next) h (fired_small n m (slice_get flat.tables.actors m) c w small h)) h

  -- ---- one thing after the other

  then_small : (s : Step (World SideOf) RunFault) (next : World SideOf → Step (World SideOf) RunFault) → ((v : World SideOf) → IsSmallWorld v → IsSmallStep (next v))
      → IsSmallStep s → IsSmallStep (and_then s next)
  then_small (Going w) next each h = each w h
  then_small (Fault fault w) next each h = h
  then_small (Past w) next each h = h

  turns_small : (turn : ℕ → World SideOf → Step (World SideOf) RunFault) → ((n : ℕ) (v : World SideOf) → IsSmallWorld v → IsSmallStep (turn n v))
      → (n : ℕ) (w : World SideOf) → IsSmallWorld w → IsSmallStep (turns_to turn n w)
  unfolding turns_to
  turns_small turn each zero w h = h
  turns_small turn each (suc n) w h = then_small (turns_to turn n w) (turn n) (each n) (turns_small turn each n w h)

  firings_small : (time n : ℕ) (w : World SideOf) → IsSmallWorld w → IsSmallStep (all_firings model flat (rules_of model flat) time n w)
  firings_small time n w h =
      turns_small (λ k v. firing model flat (rules_of model flat) time n v) (λ k v g. firing_small time n (slice_get v.clusters n) v refl g) (plan_length (slice_get w.clusters n)) w h

  -- ---- the event side

  settled_small : (w : World SideOf) (o : Option (SideOf × ℕ)) → IsSmallWorld w → IsSmallEnd o
      → IsSmallStep (settled_as (option_map (λ (s : SideOf × ℕ). record { events = s.0; left = s.1 }) o) w)
  settled_small w None h g = h
  settled_small w (Some s) h g = record { clusters = h.clusters; events = g; written = h.written }

  events_small : (time : ℕ) (w : World SideOf) → IsSmallWorld w → IsSmallStep (events_of (rules_of model flat) time w)
  events_small time w h =
      either IsSmallStep (has_write w.written || (rules_of model flat).event_side.is_due w.events time)
      (settled_as (settle model flat time w.written w.left w.events) w) (Going w)
      (settled_small w (event_part model flat time (map signal_write w.written) w.events w.left) h
      (event_part_small model flat checked time (map signal_write w.written) w.events w.left (writes_same w.written h.written) h.events)) h

  instant_small : (time : ℕ) (w : World SideOf) → IsSmallWorld w → IsSmallStep (instant model flat (rules_of model flat) time w)
  instant_small time w h =
      then_small (and_then (turns_to (boundary flat.tables time) (length w.clusters) (at_begin w)) (λ v. turns_to (all_firings model flat (rules_of model flat) time) (length w.clusters) v))
      (events_of (rules_of model flat) time) (λ v g. events_small time v g)
      (then_small (turns_to (boundary flat.tables time) (length w.clusters) (at_begin w)) (λ v. turns_to (all_firings model flat (rules_of model flat) time) (length w.clusters) v)
      (λ v g. turns_small (all_firings model flat (rules_of model flat) time) (λ n u g. firings_small time n u g) (length w.clusters) v g)
      (turns_small (boundary flat.tables time) (λ n v g. boundary_small time n (slice_get v.clusters n) v refl g) (length w.clusters) (at_begin w)
      (record { clusters = h.clusters; events = h.events; written = tt })))

  -- ---- the history

  step_state : (time : ℕ) (s : Step (World SideOf) RunFault) → IsSmallStep s → IsSmallWorld (world_of (state_of time s))
  step_state time (Going w) h = h
  step_state time (Fault fault w) h = h
  step_state time (Past w) h = h

  after_small : (time : ℕ) (s : HistoryState (World SideOf) RunFault) → IsSmallWorld (world_of s) → IsSmallWorld (world_of (after (engine model flat (rules_of model flat)) time s))
  after_small time (On w) h =
      let next = state_of time (instant model flat (rules_of model flat) time w) in
      either (λ (s : HistoryState (World SideOf) RunFault). IsSmallWorld (world_of s)) ((engine model flat (rules_of model flat)).is_due w time) next (On w)
      (step_state time (instant model flat (rules_of model flat) time w) (instant_small time w h)) h
  after_small time (Stopped at fault w) h = h
  after_small time (Spent at w) h = h

  pub history_small : (start : World SideOf) → IsSmallWorld start → (time : ℕ) → IsSmallWorld (world_of (history (engine model flat (rules_of model flat)) 0 start time))
  unfolding history
  history_small start h zero = h
  history_small start h (suc time) =
      after_small (0 + time) (history (engine model flat (rules_of model flat)) 0 start time) (history_small start h time)
