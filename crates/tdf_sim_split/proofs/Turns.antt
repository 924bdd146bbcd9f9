-- What the steps of a history keep of its event side and of the turns that are left.
use Rattle.std.proofs.Common.{◌≡◌, ℕ, zero, suc, ◌+◌, ◌-◌, ◌<◌, ◌≤◌, Bool, true, false, ◌||◌, Option, Some, None, List, if◌then◌else◌, length, map, nat_eq, option_map, refl, arith}
use Rattle.std.specs.Prelude.{slice_get}
use Rattle.tdf_bind.specs.declared.model.Flat.{Flat}
use Rattle.tdf_bind_tables.specs.declared.actors.ActorRow.{ActorRow}
use Rattle.tdf_convert.specs.declared.writes.SignalWrite.{SignalWrite}
use Rattle.tdf_events.specs.Delta.{event_part}
use Rattle.tdf_events.specs.Side.{SideOf}
use Rattle.tdf_graph.specs.declared.actors.Actor.{Actor}
use Rattle.tdf_graph.specs.declared.actors.Actor.TheVariants as actor
use Rattle.tdf_lang_tree.specs.Pure.{PureTree}
use Rattle.tdf_sim_history.specs.Cells.{world_of}
use Rattle.tdf_sim_history.specs.History.{Fault, Going, HistoryState, On, Past, Spent, Step, Stopped, after, and_then, history, state_of, turns_to}
use Rattle.tdf_sim_history.specs.Instant.{RunFault, actor_of_entry, all_firings, at_begin, boundary, boundary_of, changed_by, engine, events_of, fired, fired_as, firing, firing_of, has_write, instant, is_entry_due, is_over, next_entry, plan_length, settled_as}
use Rattle.tdf_sim_history.specs.Rules.{rules_of, settle, signal_write}
use Rattle.tdf_sim_history.specs.Texts.{left_by}
use Rattle.tdf_sim_history.specs.World.{Change, ClusterAt, New, Refused, Same, World, next_change}

module _ (model : PureTree) (flat : Flat) (P : SideOf → ℕ → Type 0) (less : (e : SideOf) (l : ℕ) → P e l → P e (l - 1))
    (stop : ℕ) (part : (time left rest : ℕ) (writes : List SignalWrite) (e after : SideOf) → time < stop → P e left → event_part model flat time writes e left ≡ Some (after, rest) → P after rest) where
  -- it holds of a world
  abbrev pub Holds : World SideOf → Type 0
  Holds w = P w.events w.left

  -- where it holds before a step, it does after it, also where that ends the run
  abbrev Keeps : World SideOf → Step (World SideOf) RunFault → Type 0
  Keeps w s = Holds w → Holds (left_by s)

  then_keeps : (w : World SideOf) (s : Step (World SideOf) RunFault) (next : World SideOf → Step (World SideOf) RunFault) → Keeps w s → ((v : World SideOf) → Keeps v (next v)) → Keeps w (and_then s next)
  then_keeps w (Going v) next x y p = y v (x p)
  then_keeps w (Fault fault v) next x y p = x p
  then_keeps w (Past v) next x y p = x p

  turns_keep : (turn : ℕ → World SideOf → Step (World SideOf) RunFault) → ((n : ℕ) (v : World SideOf) → Keeps v (turn n v)) → (n : ℕ) (w : World SideOf) → Keeps w (turns_to turn n w)
  unfolding turns_to
  turns_keep turn each zero w p = p
  turns_keep turn each (suc n) w p = then_keeps w (turns_to turn n w) (turn n) (turns_keep turn each n w) (each n) p

  if_keeps : (w : World SideOf) (b : Bool) (s t : Step (World SideOf) RunFault) → Keeps w s → Keeps w t → Keeps w (if b then s else t)
  if_keeps w true s t x y = x
  if_keeps w false s t x y = y

  changed_keeps : (time n : ℕ) (c : ClusterAt) (x : Change) (w : World SideOf) → Keeps w (changed_by flat.tables time n c x w)
  changed_keeps time n c (Same table) w p = less w.events w.left p
  changed_keeps time n c (New table counts period entries bounds) w p = less w.events w.left p
  changed_keeps time n c (Refused fault) w p = p

  boundary_keeps : (time n : ℕ) (w : World SideOf) (o : Option ClusterAt) → Keeps w (boundary_of flat.tables time n o w)
  boundary_keeps time n w None p = p
  boundary_keeps time n w (Some c) p = if_keeps w (is_over time c) _ _ (if_keeps w (nat_eq w.left 0) _ _ (λ q. q) (changed_keeps time n c (next_change c) w)) (λ q. q) p

  fired_holds : (n m : ℕ) (o : Option ActorRow) (c : ClusterAt) (w : World SideOf) → Holds w → Holds (fired model flat (rules_of model flat) n m o c w)
  fired_holds n m None c w p = less w.events w.left p
  fired_holds n m (Some row) c w p = of_kind row.kind
    where
      of_kind : (kind : Actor) → Holds (fired_as model flat (rules_of model flat) n m kind c w)
      of_kind actor.Module = less w.events w.left p
      of_kind actor.Sampler = less w.events w.left p
      of_kind actor.Sink = less w.events w.left p

  firing_keeps : (time n : ℕ) (w : World SideOf) (o : Option ClusterAt) → Keeps w (firing_of model flat (rules_of model flat) time n o w)
  firing_keeps time n w None p = p
  firing_keeps time n w (Some c) p = if_keeps w (is_entry_due time c (next_entry c)) _ _
      (if_keeps w (nat_eq w.left 0) _ _ (λ q. q) (fired_holds n (actor_of_entry (next_entry c)) (slice_get flat.tables.actors (actor_of_entry (next_entry c))) c w)) (λ q. q) p

  firings_keep : (time n : ℕ) (w : World SideOf) → Keeps w (all_firings model flat (rules_of model flat) time n w)
  firings_keep time n w = turns_keep (λ k v. firing model flat (rules_of model flat) time n v) (λ k v. firing_keeps time n v (slice_get v.clusters n)) (plan_length (slice_get w.clusters n)) w

  settled_keeps : (time : ℕ) (w : World SideOf) → time < stop → Keeps w (settled_as (settle model flat time w.written w.left w.events) w)
  settled_keeps time w low p = go (event_part model flat time (map signal_write w.written) w.events w.left) refl
    where
      go : (o : Option (SideOf × ℕ)) → event_part model flat time (map signal_write w.written) w.events w.left ≡ o
          → Holds (left_by (settled_as (option_map (λ (after : SideOf × ℕ). record { events = after.0; left = after.1 }) o) w))
      go None is = p
      go (Some x) is = part time w.left x.1 (map signal_write w.written) w.events x.0 low p is

  events_keep : (time : ℕ) (w : World SideOf) → time < stop → Keeps w (events_of (rules_of model flat) time w)
  events_keep time w low = if_keeps w (has_write w.written || (rules_of model flat).event_side.is_due w.events time) (settled_as (settle model flat time w.written w.left w.events) w) (Going w) (settled_keeps time w low) (λ p. p)

  instant_keeps : (time : ℕ) (w : World SideOf) → time < stop → Keeps w (instant model flat (rules_of model flat) time w)
  instant_keeps time w low =
      then_keeps w (and_then (turns_to (boundary flat.tables time) (length w.clusters) (at_begin w)) (λ v. turns_to (all_firings model flat (rules_of model flat) time) (length w.clusters) v)) (events_of (rules_of model flat) time)
      (then_keeps w (turns_to (boundary flat.tables time) (length w.clusters) (at_begin w)) (λ v. turns_to (all_firings model flat (rules_of model flat) time) (length w.clusters) v)
      (turns_keep (boundary flat.tables time) (λ n v. boundary_keeps time n v (slice_get v.clusters n)) (length w.clusters) (at_begin w))
      (λ v. turns_keep (all_firings model flat (rules_of model flat) time) (λ n u. firings_keep time n u) (length w.clusters) v))
      (λ v. events_keep time v low)

  step_holds : (time : ℕ) (s : Step (World SideOf) RunFault) → Holds (left_by s) → Holds (world_of (state_of time s))
  step_holds time (Going v) p = p
  step_holds time (Fault fault v) p = p
  step_holds time (Past v) p = p

  after_holds : (time : ℕ) (x : HistoryState (World SideOf) RunFault) → time < stop → Holds (world_of x) → Holds (world_of (after (engine model flat (rules_of model flat)) time x))
  after_holds time (Stopped at fault v) low p = p
  after_holds time (Spent at v) low p = p
  after_holds time (On w) low p = go ((engine model flat (rules_of model flat)).is_due w time)
    where
      go : (b : Bool) → Holds (world_of (if b then state_of time (instant model flat (rules_of model flat) time w) else On w))
      go true = step_holds time (instant model flat (rules_of model flat) time w) (instant_keeps time w low p)
      go false = p

  -- so it does all along a history up to a stop
  pub along : (start : World SideOf) → Holds start → (count : ℕ) → count ≤ stop → Holds (world_of (history (engine model flat (rules_of model flat)) 0 start count))
  unfolding history
  along start p zero low = p
  along start p (suc count) low = after_holds (0 + count) (history (engine model flat (rules_of model flat)) 0 start count) (omega (arith, low)) (along start p count (omega (arith, low)))
