-- An instant: boundaries and firings keep the event side, and what sinks write is for other signals.
use Rattle.std.proofs.Common.{◌≡◌, ℕ, zero, suc, Bool, true, false, ◌||◌, nat_eq, if◌then◌else◌, List, [], ◌∷◌, ◌++◌, length, map, Option, Some, None, slice_get, refl, ap, sym, ◌∙◌, subst}
use Rattle.std.specs.List.{AllByRecursion}
use Rattle.std.specs.Prelude.{option_map}
use Rattle.tdf_bind.specs.declared.model.Flat.{Flat}
use Rattle.tdf_bind_tables.specs.declared.actors.ActorRow.{ActorRow}
use Rattle.tdf_events.specs.Delta.{event_part}
use Rattle.tdf_events.specs.Side.{SideOf}
use Rattle.tdf_graph.specs.declared.actors.Actor.{Actor}
use Rattle.tdf_graph.specs.declared.actors.Actor.TheVariants as actor
use Rattle.tdf_lang_tree.specs.Pure.{PureTree}
use Rattle.tdf_sim_history.specs.History.{Fault, Going, Past, Step, and_then, turns_to}
use Rattle.tdf_sim_history.specs.Instant.{RunFault, actor_of_entry, all_firings, at_begin, boundary, boundary_of, changed_by, events_of, fired, fired_as, firing, firing_of, has_write, instant, is_entry_due, is_over, next_entry, plan_length, settled_as}
use Rattle.tdf_sim_history.specs.Rules.{is_side_due, rules_of, signal_write}
use Rattle.tdf_sim_history.specs.World.{Change, ClusterAt, New, Refused, Same, Settled, SinkWrite, World, next_change}
use Rattle.tdf_stim_history.specs.Driver.{DriverOf, NoSinkDrives}
use Rattle.tdf_stim_history.specs.Laws.{Done, HasSideDone, InstantsDoTheSide, Still}
use Rattle.tdf_stim_history.specs.Standing.{WritesOther}

abbrev SideStep : Type 0
SideStep = Step (World SideOf) RunFault

all_more : {A : Type 0} (P : A → Type 0) (xs : List A) (x : A) → AllByRecursion P xs → P x → AllByRecursion P (xs ++ x ∷ [])
all_more P [] x each last = (last, tt)
all_more P (y ∷ ys) x each last = (each.0, all_more P ys x each.1 last)

-- a sink's write is for no signal of the driver
abbrev SinkWritesOther : DriverOf → SinkWrite → Type 0
SinkWritesOther d write = d.drives write.signal ≡ false

all_writes : (d : DriverOf) (writes : List SinkWrite) → AllByRecursion (SinkWritesOther d) writes → AllByRecursion (WritesOther d) (map signal_write writes)
all_writes d [] each = tt
all_writes d (w ∷ ws) each = (each.0, all_writes d ws each.1)

-- the event side is as it was, and sinks wrote for other signals
record IsBeside (d : DriverOf) (side : SideOf) (w : World SideOf) : Type 0 where
  same : w.events ≡ side
  other : AllByRecursion (SinkWritesOther d) w.written

-- so it is after a step that goes on
abbrev Keeps : DriverOf → SideOf → SideStep → Type 0
Keeps d side (Going w) = IsBeside d side w
Keeps d side (Fault fault w) = Unit {0}
Keeps d side (Past w) = Unit {0}

then_keeps : (d : DriverOf) (side : SideOf) (x : SideStep) (next : World SideOf → SideStep) → Keeps d side x → ((w : World SideOf) → IsBeside d side w → Keeps d side (next w)) → Keeps d side (and_then x next)
then_keeps d side (Going w) next keeps each = each w keeps
then_keeps d side (Fault fault w) next keeps each = tt
then_keeps d side (Past w) next keeps each = tt

turns_keep : (d : DriverOf) (side : SideOf) (turn : ℕ → World SideOf → SideStep) → ((n : ℕ) (w : World SideOf) → IsBeside d side w → Keeps d side (turn n w))
    → (n : ℕ) (w : World SideOf) → IsBeside d side w → Keeps d side (turns_to turn n w)
unfolding turns_to
turns_keep d side turn each zero w beside = beside
turns_keep d side turn each (suc n) w beside = then_keeps d side (turns_to turn n w) (turn n) (turns_keep d side turn each n w beside) (each n)

if_keeps : (d : DriverOf) (side : SideOf) (b : Bool) (x y : SideStep) → Keeps d side x → Keeps d side y → Keeps d side (if b then x else y)
if_keeps d side true x y one other = one
if_keeps d side false x y one other = other

module _ (d : DriverOf) (model : PureTree) (flat : Flat) (sinks : NoSinkDrives d flat) (side : SideOf) where
  changed_keeps : (time n : ℕ) (c : ClusterAt) (x : Change) (w : World SideOf) → IsBeside d side w → Keeps d side (changed_by flat.tables time n c x w)
  changed_keeps time n c (Same table) w beside = record { same = beside.same; other = beside.other }
  changed_keeps time n c (New table counts period entries bounds) w beside = record { same = beside.same; other = beside.other }
  changed_keeps time n c (Refused fault) w beside = tt

  boundary_keeps : (time n : ℕ) (o : Option ClusterAt) (w : World SideOf) → IsBeside d side w → Keeps d side (boundary_of flat.tables time n o w)
  boundary_keeps time n None w beside = beside
  boundary_keeps time n (Some c) w beside = if_keeps d side (is_over time c) (if nat_eq w.left 0 then Past w else changed_by flat.tables time n c (next_change c) w) (Going w)
      (if_keeps d side (nat_eq w.left 0) (Past w) (changed_by flat.tables time n c (next_change c) w) tt (changed_keeps time n c (next_change c) w beside)) beside

  fired_keeps : (n m : ℕ) (o : Option ActorRow) → slice_get flat.tables.actors m ≡ o → (c : ClusterAt) (w : World SideOf) → IsBeside d side w → IsBeside d side (fired model flat (rules_of model flat) n m o c w)
  fired_keeps n m None at c w beside = record { same = beside.same; other = beside.other }
  fired_keeps n m (Some row) at c w beside = of_kind row.kind refl
    where
      of_kind : (kind : Actor) → row.kind ≡ kind → IsBeside d side (fired_as model flat (rules_of model flat) n m kind c w)
      of_kind actor.Module is = record { same = beside.same; other = beside.other }
      of_kind actor.Sampler is = record { same = beside.same; other = beside.other }
      of_kind actor.Sink is = record { same = beside.same; other = all_more (SinkWritesOther d) w.written _ beside.other (sinks m row at is) }

  firing_keeps : (time n : ℕ) (o : Option ClusterAt) (w : World SideOf) → IsBeside d side w → Keeps d side (firing_of model flat (rules_of model flat) time n o w)
  firing_keeps time n None w beside = beside
  firing_keeps time n (Some c) w beside = if_keeps d side (is_entry_due time c (next_entry c))
      (if nat_eq w.left 0 then Past w else Going (fired model flat (rules_of model flat) n (actor_of_entry (next_entry c)) (slice_get flat.tables.actors (actor_of_entry (next_entry c))) c w)) (Going w)
      (if_keeps d side (nat_eq w.left 0) (Past w) (Going (fired model flat (rules_of model flat) n (actor_of_entry (next_entry c)) (slice_get flat.tables.actors (actor_of_entry (next_entry c))) c w)) tt
      (fired_keeps n (actor_of_entry (next_entry c)) (slice_get flat.tables.actors (actor_of_entry (next_entry c))) refl c w beside)) beside

  firings_keep : (time n : ℕ) (w : World SideOf) → IsBeside d side w → Keeps d side (all_firings model flat (rules_of model flat) time n w)
  firings_keep time n w beside = turns_keep d side (λ k v. firing model flat (rules_of model flat) time n v) (λ k v b. firing_keeps time n (slice_get v.clusters n) v b) (plan_length (slice_get w.clusters n)) w beside

  -- boundaries and firings
  abbrev before_events : ℕ → World SideOf → SideStep
  before_events time w = and_then (turns_to (boundary flat.tables time) (length w.clusters) (at_begin w)) (λ v. turns_to (all_firings model flat (rules_of model flat) time) (length w.clusters) v)

  before_keeps : (time : ℕ) (w : World SideOf) → w.events ≡ side → Keeps d side (before_events time w)
  before_keeps time w same = then_keeps d side (turns_to (boundary flat.tables time) (length w.clusters) (at_begin w)) (λ v. turns_to (all_firings model flat (rules_of model flat) time) (length w.clusters) v)
      (turns_keep d side (boundary flat.tables time) (λ n v b. boundary_keeps time n (slice_get v.clusters n) v b) (length w.clusters) (at_begin w) (record { same = same; other = tt }))
      (λ v b. turns_keep d side (all_firings model flat (rules_of model flat) time) (λ n u c. firings_keep time n u c) (length w.clusters) v b)

  going_same : (u v : World SideOf) → ◌≡◌ {A = SideStep} (Going u) (Going v) → u ≡ v
  going_same u v is = cc

  -- the event side of an instant that goes on
  abbrev as_settled : SideOf × ℕ → Settled SideOf
  as_settled after = record { events = after.0; left = after.1 }

  abbrev with_rest : ℕ → SideOf → Option (SideOf × ℕ)
  with_rest rest s = Some (s, rest)

  part_done : (time : ℕ) (u v : World SideOf) (o : Option (SideOf × ℕ)) → IsBeside d side u → event_part model flat time (map signal_write u.written) u.events u.left ≡ o
      → settled_as (option_map as_settled o) u ≡ Going v → HasSideDone d model flat time side v.events
  part_done time u v None beside part is = absurd (let clash : ◌≡◌ {A = SideStep} (Past u) (Going v) = is in cc)
  part_done time u v (Some x) beside part is =
      let events : x.0 ≡ v.events = ap (λ (w : World SideOf). w.events) (going_same (record u { events = x.0; left = x.1 }) v is) in
      Done (map signal_write u.written) (all_writes d u.written beside.other) u.left x.1
      (subst (λ (s : SideOf). event_part model flat time (map signal_write u.written) s u.left ≡ Some (v.events, x.1)) beside.same
      (part ∙ ap (λ (s : SideOf). with_rest x.1 s) events))

  events_done : (time : ℕ) (u v : World SideOf) → IsBeside d side u → (a b : Bool) → is_side_due u.events time ≡ b
      → (if a || b then settled_as (option_map as_settled (event_part model flat time (map signal_write u.written) u.events u.left)) u else Going u) ≡ Going v → HasSideDone d model flat time side v.events
  events_done time u v beside true b due is = part_done time u v (event_part model flat time (map signal_write u.written) u.events u.left) beside refl is
  events_done time u v beside false true due is = part_done time u v (event_part model flat time (map signal_write u.written) u.events u.left) beside refl is
  events_done time u v beside false false due is = Still (subst (λ (s : SideOf). is_side_due s time ≡ false) beside.same due)
      (sym (ap (λ (w : World SideOf). w.events) (going_same u v is)) ∙ beside.same)

  then_going : (x : SideStep) (next : World SideOf → SideStep) (v : World SideOf) → and_then x next ≡ Going v → (u : World SideOf) × (x ≡ Going u) × (next u ≡ Going v)
  then_going (Going u) next v is = (u, refl, is)
  then_going (Fault fault u) next v is = absurd (let clash : ◌≡◌ {A = SideStep} (Fault fault u) (Going v) = is in cc)
  then_going (Past u) next v is = absurd (let clash : ◌≡◌ {A = SideStep} (Past u) (Going v) = is in cc)

  instant_does : (time : ℕ) (w v : World SideOf) → w.events ≡ side → instant model flat (rules_of model flat) time w ≡ Going v → HasSideDone d model flat time side v.events
  instant_does time w v same is =
      let found = then_going (before_events time w) (events_of (rules_of model flat) time) v is in
      events_done time found.0 v (subst (Keeps d side) found.1 (before_keeps time w same)) (has_write found.0.written) (is_side_due found.0.events time) refl found.2

pub instants_do_the_side : InstantsDoTheSide
instants_do_the_side d model flat time w v sinks is = instant_does d model flat sinks w.events time w v refl is
