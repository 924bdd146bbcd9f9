-- Two histories whose clusters are in a relation that each step keeps.
use Rattle.std.proofs.Common.{◌≡◌, ◌≢◌, ◌∙◌, ℕ, zero, suc, ◌+◌, ◌-◌, ◌<◌, ◌≤◌, ◌⊎◌, Bool, true, false, ◌&&◌, ◌||◌, nat_eq, if◌then◌else◌, Option, Some, None, List, [], ◌∷◌, ◌++◌, length, slice_get, slice_index_or, slice_set, length-set, refl, sym, ap, subst, inl, inr, arith}
use Rattle.std.proofs.lemmas.Bool.Decides.{nat_tests}
use Rattle.std.proofs.lemmas.Option.{slice_get_within}
use Rattle.std.specs.List.{list_any}
use Rattle.tdf_bind.specs.declared.model.Flat.{Flat}
use Rattle.tdf_bind_tables.specs.declared.actors.ActorRow.{ActorRow}
use Rattle.tdf_dynamic_plans.specs.Attributes.{AttrsOf}
use Rattle.tdf_fixed.specs.declared.raw.Raw.{Raw}
use Rattle.tdf_graph.specs.declared.actors.Actor.{Actor}
use Rattle.tdf_graph.specs.declared.actors.Actor.TheVariants as actor
use Rattle.tdf_lang_tree.specs.Pure.{PureTree}
use Rattle.tdf_schedule.specs.declared.entry.Entry.{Entry}
use Rattle.tdf_sim_history.specs.Answers.{AreAnswers, AreFirstAnswers, IsAnswer}
use Rattle.tdf_sim_history.specs.History.{Going, HistoryState, On, Past, Step, after, and_then, history, state_of, turns_to}
use Rattle.tdf_sim_history.specs.Instant.{RunFault, actor_of_entry, all_firings, at_begin, boundary, boundary_of, changed_by, engine, events_of, fired, fired_as, firing, firing_of, has_write, instant, is_cluster_due, is_due, is_entry_due, is_over, next_entry, plan_length, sample_taken, settled_as, signal_of, stepped, with_cluster, with_new, with_read, with_same}
use Rattle.tdf_sim_history.specs.World.{Change, ClusterAt, New, Refused, Rules, Same, Settled, World, next_change}
use Rattle.tdf_sim_split.specs.Alike.{BothFault, BothGo, BothOn, BothPast, BothSpent, BothStopped, StatesAlike, StepsAlike}
use Rattle.tdf_streams.proofs.Api.{get_inside, none_some, some_same}
use Rattle.tdf_streams.specs.Cluster.{zero_sample}

-- a list with one item set has at that place the item, and elsewhere what it had
set_found : {A : Type 0} (xs : List A) (i j : ℕ) (x y : A) → i < length xs → slice_get (slice_set xs i y) j ≡ Some x → ((j ≡ i) × (y ≡ x)) ⊎ ((j ≢ i) × (slice_get xs j ≡ Some x))
set_found [] i j x y inside at = absurd (omega (arith, inside))
set_found (z ∷ xs) zero zero x y inside at = inl (refl, some_same y x at)
set_found (z ∷ xs) zero (suc j) x y inside at = inr (λ e. omega (arith, e), at)
set_found (z ∷ xs) (suc i) zero x y inside at = inr (λ e. omega (arith, e), at)
set_found (z ∷ xs) (suc i) (suc j) x y inside at = elim (set_found xs i j x y (omega (arith, inside)) at) [
  | inl here ↦ inl (ap suc here.0, here.1)
  | inr there ↦ inr (λ e. there.0 (omega (arith, e)), there.1)
]

-- ---- steps one after the other

module _ {W V F : Type 0} (R : W → V → Type 0) where
  pub then_alike : (x : Step W F) (y : Step V F) (f : W → Step W F) (g : V → Step V F) → StepsAlike R x y → ((w : W) (v : V) → x ≡ Going w → R w v → StepsAlike R (f w) (g v)) → StepsAlike R (and_then x f) (and_then y g)
  then_alike x y f g (BothGo w v r) next = next w v refl r
  then_alike x y f g (BothFault fault w v r) next = BothFault fault w v r
  then_alike x y f g (BothPast w v r) next = BothPast w v r

  pub turns_alike : (f : ℕ → W → Step W F) (g : ℕ → V → Step V F) (n : ℕ) (w : W) (v : V) → R w v → ((k : ℕ) (u : W) (z : V) → k < n → turns_to f k w ≡ Going u → R u z → StepsAlike R (f k u) (g k z)) → StepsAlike R (turns_to f n w) (turns_to g n v)
  unfolding turns_to
  turns_alike f g zero w v r each = BothGo w v r
  turns_alike f g (suc n) w v r each = then_alike (turns_to f n w) (turns_to g n v) (f n) (g n) (turns_alike f g n w v r (λ k a b below at. each k a b (omega (arith, below)) at)) (λ a b at. each n a b (omega arith) at)

  pub state_alike : (time : ℕ) (x : Step W F) (y : Step V F) → StepsAlike R x y → StatesAlike R (state_of time x) (state_of time y)
  state_alike time x y (BothGo w v r) = BothOn w v r
  state_alike time x y (BothFault fault w v r) = BothStopped time fault w v r
  state_alike time x y (BothPast w v r) = BothSpent time w v r

  -- where two tests are the same, both steps or none are done
  if_alike : (a b : Bool) (x : Step W F) (y : Step V F) (w : W) (v : V) → b ≡ a → R w v → (a ≡ true → StepsAlike R x y) → StepsAlike R (if a then x else Going w) (if b then y else Going v)
  if_alike true true x y w v same r both = both refl
  if_alike false false x y w v same r both = BothGo w v r
  if_alike true false x y w v same r both = absurd cc
  if_alike false true x y w v same r both = absurd cc

  -- no turn is left in both, or in none
  turn_alike : (a b : Bool) (x : Step W F) (y : Step V F) (w : W) (v : V) → b ≡ a → R w v → (a ≡ false → StepsAlike R x y) → StepsAlike R (if a then Past w else x) (if b then Past v else y)
  turn_alike true true x y w v same r both = BothPast w v r
  turn_alike false false x y w v same r both = both refl
  turn_alike true false x y w v same r both = absurd cc
  turn_alike false true x y w v same r both = absurd cc

module _ {W V F : Type 0} (R S : W → V → Type 0) (to : (w : W) (v : V) → R w v → S w v) where
  pub weaker : (x : Step W F) (y : Step V F) → StepsAlike R x y → StepsAlike S x y
  weaker x y (BothGo w v r) = BothGo w v (to w v r)
  weaker x y (BothFault fault w v r) = BothFault fault w v (to w v r)
  weaker x y (BothPast w v r) = BothPast w v (to w v r)

-- ---- clusters

-- what decides when a cluster has its turn, and what is told of it, is the same
pub record HasView (h g : ClusterAt) : Type 0 where
  pub entries : g.entries ≡ h.entries
  pub place : g.place ≡ h.place
  pub since : g.since ≡ h.since
  pub period : g.now.info.period ≡ h.now.info.period
  pub table : g.now.info.table ≡ h.now.info.table
  pub ahead : g.ahead ≡ h.ahead
  pub bounds : g.bounds ≡ h.bounds

-- an actor that reads no settled value
abbrev pub IsNoSampler : Option ActorRow → Type 0
IsNoSampler None = Unit {0}
IsNoSampler (Some row) = row.kind ≢ actor.Sampler

abbrev pub IsSampler : Option ActorRow → Type 0
IsSampler None = ⊥
IsSampler (Some row) = row.kind ≡ actor.Sampler

abbrev pub IsSink : Option ActorRow → Type 0
IsSink None = ⊥
IsSink (Some row) = row.kind ≡ actor.Sink

-- a relation of clusters, by place, that their steps keep
pub record StepsKeep (model : PureTree) (flat : Flat) (Q : ℕ → ClusterAt → ClusterAt → Type 0) : Type 0 where
  pub view : (n : ℕ) (h g : ClusterAt) → Q n h g → HasView h g
  pub answer : (n : ℕ) (h g : ClusterAt) (x : Change) → Q n h g → IsAnswer model flat (n + 1) h x → IsAnswer model flat (n + 1) g x
  pub sink : (n : ℕ) (h g : ClusterAt) (x : Entry) → Q n h g → next_entry h ≡ Some x → IsSink (slice_get flat.tables.actors x.actor)
      → sample_taken model flat (n + 1) g x.actor ≡ sample_taken model flat (n + 1) h x.actor
  pub step : (n : ℕ) (h g : ClusterAt) (x : Entry) → Q n h g → next_entry h ≡ Some x → IsNoSampler (slice_get flat.tables.actors x.actor) → Q n (stepped h) (stepped g)
  pub read : (n : ℕ) (h g : ClusterAt) (x : Entry) (value : Raw) → Q n h g → next_entry h ≡ Some x → IsSampler (slice_get flat.tables.actors x.actor)
      → Q n (stepped (with_read x.actor value h)) (stepped (with_read x.actor value g))
  pub same : (n time : ℕ) (h g : ClusterAt) (table : List AttrsOf) → Q n h g → is_over time h ≡ true → next_change h ≡ Same table → IsAnswer model flat (n + 1) h (Same table) → Q n (with_same time table h) (with_same time table g)
  pub new : (n time : ℕ) (h g : ClusterAt) (table : List AttrsOf) (counts : List ℕ) (period : ℕ) (entries : List Entry) (bounds : List ℕ) → Q n h g → is_over time h ≡ true
      → next_change h ≡ New table counts period entries bounds → IsAnswer model flat (n + 1) h (New table counts period entries bounds) → Q n (with_new flat.tables time table counts period entries bounds h) (with_new flat.tables time table counts period entries bounds g)

module _ {K : Type 0} (model : PureTree) (flat : Flat) (rules : Rules K) (Q : ℕ → ClusterAt → ClusterAt → Type 0) (keep : StepsKeep model flat Q) where
  -- all that there is, beside what is shown
  pub record AreAlike (w v : World K) : Type 0 where
    pub same : length v.clusters ≡ length w.clusters
    pub each : (n : ℕ) (h g : ClusterAt) → slice_get w.clusters n ≡ Some h → slice_get v.clusters n ≡ Some g → Q n h g
    pub events : v.events ≡ w.events
    pub left : v.left ≡ w.left
    pub written : v.written ≡ w.written
    pub planned : v.planned ≡ w.planned

  -- between two instants it doesn't matter what sinks wrote in the last one, and which plans were new in it
  pub record AreBetween (w v : World K) : Type 0 where
    pub same : length v.clusters ≡ length w.clusters
    pub each : (n : ℕ) (h g : ClusterAt) → slice_get w.clusters n ≡ Some h → slice_get v.clusters n ≡ Some g → Q n h g
    pub events : v.events ≡ w.events
    pub left : v.left ≡ w.left

  pub are_between : (w v : World K) → AreAlike w v → AreBetween w v
  are_between w v r = record { same = r.same; each = r.each; events = r.events; left = r.left }

  -- one cluster has its step in both
  with_alike : (n : ℕ) (h g c d : ClusterAt) (w v : World K) → AreAlike w v → slice_get w.clusters n ≡ Some c → slice_get v.clusters n ≡ Some d → Q n h g → AreAlike (with_cluster n h w) (with_cluster n g v)
  with_alike n h g c d w v r c_at d_at q = record {
    same = length-set v.clusters n g ∙ r.same ∙ sym (length-set w.clusters n h);
    each = λ k e f e_at f_at. elim (set_found w.clusters n k e h (slice_get_within w.clusters n c c_at) e_at) [
      | inl here ↦ elim (set_found v.clusters n k f g (slice_get_within v.clusters n d d_at) f_at) [
        | inl there ↦ subst (λ j. Q j e f) (sym here.0) (subst (λ x. Q n x f) here.1 (subst (λ x. Q n h x) there.1 q))
        | inr other ↦ absurd (other.0 here.0)
      ]
      | inr other ↦ elim (set_found v.clusters n k f g (slice_get_within v.clusters n d d_at) f_at) [
        | inl there ↦ absurd (other.0 there.0)
        | inr also ↦ r.each k e f other.1 also.1
      ]
    ];
    events = r.events;
    left = ap (λ k. k - 1) r.left;
    written = r.written;
    planned = r.planned;
  }

  pub over_same : (time : ℕ) (h g : ClusterAt) → HasView h g → is_over time g ≡ is_over time h
  over_same time h g view = λ i. nat_eq (view.place i) (length (view.entries i)) && nat_eq time (view.since i + view.period i)

  entry_same : (h g : ClusterAt) → HasView h g → next_entry g ≡ next_entry h
  entry_same h g view = λ i. slice_get (view.entries i) (view.place i)

  due_same : (time : ℕ) (h g : ClusterAt) (o : Option Entry) → HasView h g → is_entry_due time g o ≡ is_entry_due time h o
  due_same time h g None view = refl
  due_same time h g (Some x) view = ap (λ s. nat_eq time (s + x.offset)) view.since

  pub change_same : (h g : ClusterAt) → HasView h g → next_change g ≡ next_change h
  change_same h g view = λ i. slice_index_or (view.ahead i) 0 (Same (view.table i))

  left_same : (w v : World K) → AreAlike w v → nat_eq v.left 0 ≡ nat_eq w.left 0
  left_same w v r = ap (λ k. nat_eq k 0) r.left

  -- both have a cluster at a place, or none has
  pub data AtPlace (w v : World K) (n : ℕ) : Type 0 where
    Neither : slice_get w.clusters n ≡ None → slice_get v.clusters n ≡ None → AtPlace w v n
    Both : (h g : ClusterAt) → slice_get w.clusters n ≡ Some h → slice_get v.clusters n ≡ Some g → AtPlace w v n

  pub at_place : (w v : World K) (n : ℕ) → AreAlike w v → AtPlace w v n
  at_place w v n r = go (slice_get w.clusters n) (slice_get v.clusters n) refl refl
    where
      go : (o p : Option ClusterAt) → slice_get w.clusters n ≡ o → slice_get v.clusters n ≡ p → AtPlace w v n
      go None None at to = Neither at to
      go (Some h) (Some g) at to = Both h g at to
      go None (Some g) at to = (
          let i = slice_get_within v.clusters n g to in
          let s = r.same in
          let h = get_inside w.clusters n (omega (arith, i, s)) in
          none_some h.0 (sym at ∙ h.1))
      go (Some h) None at to = (
          let i = slice_get_within w.clusters n h at in
          let s = r.same in
          let g = get_inside v.clusters n (omega (arith, i, s)) in
          none_some g.0 (sym to ∙ g.1))

  -- ---- boundaries

  changed_alike : (time n : ℕ) (h g : ClusterAt) (w v : World K) → AreAlike w v → slice_get w.clusters n ≡ Some h → slice_get v.clusters n ≡ Some g → is_over time h ≡ true → (x : Change) → next_change h ≡ x → IsAnswer model flat (n + 1) h x
      → StepsAlike {F = RunFault} AreAlike (changed_by flat.tables time n h x w) (changed_by flat.tables time n g x v)
  changed_alike time n h g w v r h_at g_at over (Same table) told answer =
      BothGo _ _ (with_alike n (with_same time table h) (with_same time table g) h g w v r h_at g_at (keep.same n time h g table (r.each n h g h_at g_at) over told answer))
  changed_alike time n h g w v r h_at g_at over (New table counts period entries bounds) told answer =
      let with = with_alike n (with_new flat.tables time table counts period entries bounds h) (with_new flat.tables time table counts period entries bounds g) h g w v r h_at g_at (keep.new n time h g table counts period entries bounds (r.each n h g h_at g_at) over told answer) in
      BothGo _ _ (record { same = with.same; each = with.each; events = with.events; left = with.left; written = with.written; planned = ap (λ l. l ++ n ∷ []) r.planned })
  changed_alike time n h g w v r h_at g_at over (Refused fault) told answer = BothFault _ w v r

  boundary_alike : (time n : ℕ) (w v : World K) → AreAlike w v → ((c : ClusterAt) → slice_get w.clusters n ≡ Some c → is_over time c ≡ true → 0 < w.left → IsAnswer model flat (n + 1) c (next_change c))
      → StepsAlike {F = RunFault} AreAlike (boundary flat.tables time n w) (boundary flat.tables time n v)
  boundary_alike time n w v r answer = go (at_place w v n r)
    where
      go : AtPlace w v n → StepsAlike {F = RunFault} AreAlike (boundary_of flat.tables time n (slice_get w.clusters n) w) (boundary_of flat.tables time n (slice_get v.clusters n) v)
      go (Neither at to) = subst (λ o. StepsAlike {F = RunFault} AreAlike (boundary_of flat.tables time n o w) (boundary_of flat.tables time n (slice_get v.clusters n) v)) (sym at)
          (subst (λ o. StepsAlike {F = RunFault} AreAlike (Going w) (boundary_of flat.tables time n o v)) (sym to) (BothGo w v r))
      go (Both h g at to) =
          let view = keep.view n h g (r.each n h g at to) in
          subst (λ o. StepsAlike {F = RunFault} AreAlike (boundary_of flat.tables time n o w) (boundary_of flat.tables time n (slice_get v.clusters n) v)) (sym at)
          (subst (λ o. StepsAlike {F = RunFault} AreAlike (boundary_of flat.tables time n (Some h) w) (boundary_of flat.tables time n o v)) (sym to)
          (if_alike AreAlike (is_over time h) (is_over time g) _ _ w v (over_same time h g view) r (λ over.
          turn_alike AreAlike (nat_eq w.left 0) (nat_eq v.left 0) _ _ w v (left_same w v r) r (λ some.
          subst (λ x. StepsAlike {F = RunFault} AreAlike (changed_by flat.tables time n h (next_change h) w) (changed_by flat.tables time n g x v)) (sym (change_same h g view))
          (changed_alike time n h g w v r at to over (next_change h) refl (answer h at over (grind (arith, nat_tests, some))))))))

  begin_alike : (w v : World K) → AreBetween w v → AreAlike (at_begin w) (at_begin v)
  begin_alike w v r = record { same = r.same; each = r.each; events = r.events; left = r.left; written = refl; planned = refl }

  pub boundaries_alike : (time n : ℕ) (w v : World K) → AreBetween w v → AreFirstAnswers model flat time n w → StepsAlike {F = RunFault} AreAlike (turns_to (boundary flat.tables time) n (at_begin w)) (turns_to (boundary flat.tables time) n (at_begin v))
  boundaries_alike time n w v r answers = turns_alike AreAlike (boundary flat.tables time) (boundary flat.tables time) n (at_begin w) (at_begin v) (begin_alike w v r) (λ k a b below at both.
      boundary_alike time k a b both (λ c c_at over left. answers k a c below (record { before = at; there = c_at; over = over; left = left })))

  -- ---- firings

  fired_alike : (n : ℕ) (x : Entry) (h g : ClusterAt) (w v : World K) → AreAlike w v → slice_get w.clusters n ≡ Some h → slice_get v.clusters n ≡ Some g → next_entry h ≡ Some x
      → (o : Option ActorRow) → slice_get flat.tables.actors x.actor ≡ o → AreAlike (fired model flat rules n x.actor o h w) (fired model flat rules n x.actor o g v)
  fired_alike n x h g w v r h_at g_at next None row_at = with_alike n (stepped h) (stepped g) h g w v r h_at g_at (keep.step n h g x (r.each n h g h_at g_at) next (subst IsNoSampler (sym row_at) tt))
  fired_alike n x h g w v r h_at g_at next (Some row) row_at = of_kind row.kind refl
    where
      q : Q n h g
      q = r.each n h g h_at g_at

      plain : row.kind ≢ actor.Sampler → AreAlike (with_cluster n (stepped h) w) (with_cluster n (stepped g) v)
      plain apart = with_alike n (stepped h) (stepped g) h g w v r h_at g_at (keep.step n h g x q next (subst IsNoSampler (sym row_at) apart))

      value : World K → Raw
      value u = slice_index_or (rules.event_side.values u.events) (signal_of flat.tables x.actor) zero_sample

      of_kind : (kind : Actor) → row.kind ≡ kind → AreAlike (fired_as model flat rules n x.actor kind h w) (fired_as model flat rules n x.actor kind g v)
      of_kind actor.Module is = plain (λ bad. absurd (let no : actor.Module ≡ actor.Sampler = sym is ∙ bad in cc))
      of_kind actor.Sampler is = subst (λ z. AreAlike (with_cluster n (stepped (with_read x.actor (value w) h)) w) (with_cluster n (stepped (with_read x.actor z g)) v))
          (ap (λ k. slice_index_or (rules.event_side.values k) (signal_of flat.tables x.actor) zero_sample) (sym r.events))
          (with_alike n (stepped (with_read x.actor (value w) h)) (stepped (with_read x.actor (value w) g)) h g w v r h_at g_at (keep.read n h g x (value w) q next (subst IsSampler (sym row_at) is)))
      of_kind actor.Sink is =
          let with = plain (λ bad. absurd (let no : actor.Sink ≡ actor.Sampler = sym is ∙ bad in cc)) in
          record {
            same = with.same;
            each = with.each;
            events = with.events;
            left = with.left;
            written = λ i. r.written i ++ record { signal = signal_of flat.tables x.actor; value = keep.sink n h g x q next (subst IsSink (sym row_at) is) i } ∷ [];
            planned = with.planned;
          }

  firing_alike : (time n : ℕ) (w v : World K) → AreAlike w v → StepsAlike {F = RunFault} AreAlike (firing model flat rules time n w) (firing model flat rules time n v)
  firing_alike time n w v r = go (at_place w v n r)
    where
      fire : (h g : ClusterAt) → slice_get w.clusters n ≡ Some h → slice_get v.clusters n ≡ Some g → (o : Option Entry) → next_entry h ≡ o → is_entry_due time h o ≡ true
          → AreAlike (fired model flat rules n (actor_of_entry o) (slice_get flat.tables.actors (actor_of_entry o)) h w) (fired model flat rules n (actor_of_entry o) (slice_get flat.tables.actors (actor_of_entry o)) g v)
      fire h g at to None next due = absurd cc
      fire h g at to (Some x) next due = fired_alike n x h g w v r at to next (slice_get flat.tables.actors x.actor) refl

      go : AtPlace w v n → StepsAlike {F = RunFault} AreAlike (firing_of model flat rules time n (slice_get w.clusters n) w) (firing_of model flat rules time n (slice_get v.clusters n) v)
      go (Neither at to) = subst (λ o. StepsAlike {F = RunFault} AreAlike (firing_of model flat rules time n o w) (firing_of model flat rules time n (slice_get v.clusters n) v)) (sym at)
          (subst (λ o. StepsAlike {F = RunFault} AreAlike (Going w) (firing_of model flat rules time n o v)) (sym to) (BothGo w v r))
      go (Both h g at to) =
          let view = keep.view n h g (r.each n h g at to) in
          let entry = entry_same h g view in
          subst (λ o. StepsAlike {F = RunFault} AreAlike (firing_of model flat rules time n o w) (firing_of model flat rules time n (slice_get v.clusters n) v)) (sym at)
          (subst (λ o. StepsAlike {F = RunFault} AreAlike (firing_of model flat rules time n (Some h) w) (firing_of model flat rules time n o v)) (sym to)
          (subst (λ e. StepsAlike {F = RunFault} AreAlike (firing_of model flat rules time n (Some h) w) (if is_entry_due time g e
          then (if nat_eq v.left 0 then Past v else Going (fired model flat rules n (actor_of_entry e) (slice_get flat.tables.actors (actor_of_entry e)) g v)) else Going v)) (sym entry)
          (if_alike AreAlike (is_entry_due time h (next_entry h)) (is_entry_due time g (next_entry h)) _ _ w v (due_same time h g (next_entry h) view) r (λ due.
          turn_alike AreAlike (nat_eq w.left 0) (nat_eq v.left 0) _ _ w v (left_same w v r) r (λ some.
          BothGo _ _ (fire h g at to (next_entry h) refl due))))))

  plan_same : (n : ℕ) (w v : World K) → AreAlike w v → plan_length (slice_get v.clusters n) ≡ plan_length (slice_get w.clusters n)
  plan_same n w v r = go (at_place w v n r)
    where
      go : AtPlace w v n → plan_length (slice_get v.clusters n) ≡ plan_length (slice_get w.clusters n)
      go (Neither at to) = ap plan_length to ∙ sym (ap plan_length at)
      go (Both h g at to) = ap plan_length to ∙ ap length ((keep.view n h g (r.each n h g at to)).entries) ∙ sym (ap plan_length at)

  firings_alike : (time n : ℕ) (w v : World K) → AreAlike w v → StepsAlike {F = RunFault} AreAlike (all_firings model flat rules time n w) (all_firings model flat rules time n v)
  firings_alike time n w v r = subst (λ k. StepsAlike {F = RunFault} AreAlike (all_firings model flat rules time n w) (turns_to (λ j u. firing model flat rules time n u) k v)) (sym (plan_same n w v r))
      (turns_alike AreAlike (λ j u. firing model flat rules time n u) (λ j u. firing model flat rules time n u) (plan_length (slice_get w.clusters n)) w v r (λ k a b below at both. firing_alike time n a b both))

  -- ---- the event side

  settled_alike : (o : Option (Settled K)) (w v : World K) → AreAlike w v → StepsAlike {F = RunFault} AreAlike (settled_as o w) (settled_as o v)
  settled_alike None w v r = BothPast w v r
  settled_alike (Some s) w v r = BothGo _ _ (record { same = r.same; each = r.each; events = refl; left = refl; written = r.written; planned = r.planned })

  events_alike : (time : ℕ) (w v : World K) → AreAlike w v → StepsAlike {F = RunFault} AreAlike (events_of rules time w) (events_of rules time v)
  events_alike time w v r =
      if_alike AreAlike (has_write w.written || rules.event_side.is_due w.events time) (has_write v.written || rules.event_side.is_due v.events time) _ _ w v
      (λ i. has_write (r.written i) || rules.event_side.is_due (r.events i) time) r (λ due.
      subst (λ o. StepsAlike {F = RunFault} AreAlike (settled_as (rules.event_side.settle time w.written w.left w.events) w) (settled_as o v))
      (λ i. rules.event_side.settle time (sym r.written i) (sym r.left i) (sym r.events i))
      (settled_alike (rules.event_side.settle time w.written w.left w.events) w v r))

  -- ---- instants and histories

  pub instant_alike : (time : ℕ) (w v : World K) → AreBetween w v → AreFirstAnswers model flat time (length w.clusters) w → StepsAlike {F = RunFault} AreAlike (instant model flat rules time w) (instant model flat rules time v)
  instant_alike time w v r answers =
      then_alike AreAlike _ _ (events_of rules time) (events_of rules time)
      (then_alike AreAlike _ _ (λ u. turns_to (all_firings model flat rules time) (length w.clusters) u) (λ u. turns_to (all_firings model flat rules time) (length v.clusters) u)
      (subst (λ k. StepsAlike {F = RunFault} AreAlike (turns_to (boundary flat.tables time) (length w.clusters) (at_begin w)) (turns_to (boundary flat.tables time) k (at_begin v))) (sym r.same) (boundaries_alike time (length w.clusters) w v r answers))
      (λ a b at both. subst (λ k. StepsAlike {F = RunFault} AreAlike (turns_to (all_firings model flat rules time) (length w.clusters) a) (turns_to (all_firings model flat rules time) k b)) (sym r.same)
      (turns_alike AreAlike (all_firings model flat rules time) (all_firings model flat rules time) (length w.clusters) a b both (λ k c d below at2 also. firings_alike time k c d also))))
      (λ a b at both. events_alike time a b both)

  clusters_due : (time : ℕ) (cs ds : List ClusterAt) → length ds ≡ length cs → ((n : ℕ) (h g : ClusterAt) → slice_get cs n ≡ Some h → slice_get ds n ≡ Some g → HasView h g) → list_any (is_cluster_due time) ds ≡ list_any (is_cluster_due time) cs
  clusters_due time [] [] same each = refl
  clusters_due time [] (d ∷ ds) same each = absurd (omega (arith, same))
  clusters_due time (c ∷ cs) [] same each = absurd (omega (arith, same))
  clusters_due time (c ∷ cs) (d ∷ ds) same each =
      let view = each 0 c d refl refl in
      let entry = entry_same c d view in
      let one : is_cluster_due time d ≡ is_cluster_due time c = (λ i. over_same time c d view i || is_entry_due time d (entry i)) ∙ ap (λ b. is_over time c || b) (due_same time c d (next_entry c) view) in
      let rest = clusters_due time cs ds (omega (arith, same)) (λ n h g at to. each (suc n) h g at to) in
      rw (one, rest) refl

  pub due_alike : (time : ℕ) (w v : World K) → AreBetween w v → is_due rules v time ≡ is_due rules w time
  due_alike time w v r = λ i. clusters_due time w.clusters v.clusters r.same (λ n h g at to. keep.view n h g (r.each n h g at to)) i || rules.event_side.is_due (r.events i) time

  module _ (one two : World K) (from stop : ℕ) (w v : World K) (at : history (engine model flat rules) 0 one from ≡ On w) (to : history (engine model flat rules) 0 two from ≡ On v) (alike : AreBetween w v) (answers : AreAnswers model flat rules one stop) where
    after_alike : (time : ℕ) → time < stop → (x y : HistoryState (World K) RunFault) → history (engine model flat rules) 0 one time ≡ x → StatesAlike AreBetween x y → StatesAlike AreBetween (after (engine model flat rules) time x) (after (engine model flat rules) time y)
    after_alike time below x y is (BothOn a b r) = due (is_due rules a time) (is_due rules b time) (due_alike time a b r) refl
      where
        due : (p q : Bool) → q ≡ p → is_due rules a time ≡ p → StatesAlike AreBetween (if p then state_of time (instant model flat rules time a) else On a) (if q then state_of time (instant model flat rules time b) else On b)
        due true true same due_is = state_alike AreBetween time (instant model flat rules time a) (instant model flat rules time b)
            (weaker AreAlike AreBetween are_between (instant model flat rules time a) (instant model flat rules time b) (instant_alike time a b r (answers time (length a.clusters) a below is due_is)))
        due false false same due_is = BothOn a b r
        due true false same due_is = absurd cc
        due false true same due_is = absurd cc
    after_alike time below x y is (BothStopped when fault a b r) = BothStopped when fault a b r
    after_alike time below x y is (BothSpent when a b r) = BothSpent when a b r

    pub histories_alike : (count : ℕ) → from + count ≤ stop → StatesAlike AreBetween (history (engine model flat rules) 0 one (from + count)) (history (engine model flat rules) 0 two (from + count))
    unfolding history
    histories_alike zero low =
        let z : from + 0 ≡ from = omega arith in
        subst (λ k. StatesAlike AreBetween (history (engine model flat rules) 0 one k) (history (engine model flat rules) 0 two k)) (sym z)
        (subst (λ x. StatesAlike AreBetween x (history (engine model flat rules) 0 two from)) (sym at) (subst (λ y. StatesAlike AreBetween (On w) y) (sym to) (BothOn w v alike)))
    histories_alike (suc n) low =
        let z : from + suc n ≡ suc (from + n) = omega arith in
        let y : 0 + (from + n) ≡ from + n = omega arith in
        subst (λ k. StatesAlike AreBetween (history (engine model flat rules) 0 one k) (history (engine model flat rules) 0 two k)) (sym z)
        (subst (λ t. StatesAlike AreBetween (after (engine model flat rules) t (history (engine model flat rules) 0 one (from + n))) (after (engine model flat rules) t (history (engine model flat rules) 0 two (from + n)))) (sym y)
        (after_alike (from + n) (omega (arith, low)) (history (engine model flat rules) 0 one (from + n)) (history (engine model flat rules) 0 two (from + n)) refl (histories_alike n (omega (arith, low)))))
