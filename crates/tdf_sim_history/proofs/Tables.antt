-- Where the answers of boundaries are told, each of them leads from attributes of its cluster to such ones.
use Rattle.std.proofs.Common.{◌≡◌, ◌∙◌, ℕ, zero, suc, ◌+◌, ◌<◌, ◌≤◌, Bool, true, false, Option, Some, None, option_map, List, [], ◌∷◌, if◌then◌else◌, length, map, nat_eq, refl, sym, ap, subst, arith}
use Rattle.std.proofs.lemmas.Bool.Decides.{nat_tests}
use Rattle.std.proofs.lemmas.Option.{slice_get-map}
use Rattle.std.specs.List.{enumerate_from}
use Rattle.std.specs.Prelude.{◌||◌, Contains, slice_get, slice_index_or, slice_set, unwrap_or}
use Rattle.tdf_dynamic.proofs.Api.{attributes_stay, first_record, some_same}
use Rattle.tdf_sim_history.proofs.Twice.{next_is}
use Rattle.tdf_sim_history.proofs.Once.{one_history}
use Rattle.tdf_sim_history.specs.Answers.{AreAnswers, AreFirstAnswers, IsAnswer, Leads, OfAll, asks_in, last_cells}
use Rattle.tdf_sim_history.specs.Instant.{RunFault, actor_of_entry, all_firings, at_begin, boundary, boundary_of, changed_by, engine, events_of, fired, fired_as, firing, firing_of, instant, is_due, is_entry_due, is_over, has_write, next_entry, plan_length, settled_as, signal_of, stepped, with_cluster, with_new, with_read, with_same}
use Rattle.tdf_sim_history.specs.Start.{first_cluster, first_world}
use Rattle.tdf_sim_history.specs.Telling.{state_as, untold, world_untold}
use Rattle.tdf_sim_history.specs.World.{Change, ClusterAt, New, Refused, Rules, Same, Settled, World, next_change}
use Rattle.tdf_bind_tables.specs.declared.actors.ActorRow.{ActorRow}
use Rattle.tdf_dynamic.specs.Change.{table_after}
use Rattle.tdf_dynamic.specs.Laws.{BoundariesHaveOne, IsBoundary}
use Rattle.tdf_dynamic_plans.specs.Attributes.{clusters_of}
use Rattle.tdf_expr.specs.Checked.{IsCheckedOf}
use Rattle.tdf_dynamic.specs.Below.{AreAttributes, AreWithinLimits, First, Flat, IsFirstPlan, zero_sample}
use Rattle.tdf_graph.specs.declared.actors.Actor.{Actor}
use Rattle.tdf_graph.specs.declared.actors.Actor.TheVariants as actor
use Rattle.tdf_sim_history.specs.History.{Engine, Fault, Going, On, Past, Spent, HistoryState, Step, Stopped, after, and_then, history, state_of, turns_to}
use Rattle.tdf_lang_tree.specs.Kept.{IsKept}
use Rattle.tdf_lang_tree.specs.Pure.{PureTree}
use Rattle.tdf_sim_history.specs.TableLaws.{AnswersAgree, BoundariesHaveTables, HaveAttributes}

-- what holds of each cluster by its place, and of one that is put there
placed : (P : ℕ → ClusterAt → Type 0) (cs : List ClusterAt) (n : ℕ) (c : ClusterAt) → ((j : ℕ) (d : ClusterAt) → slice_get cs j ≡ Some d → P j d) → P n c
    → (j : ℕ) (d : ClusterAt) → slice_get (slice_set cs n c) j ≡ Some d → P j d
placed P [] n c all here j d at = absurd cc
placed P (x ∷ cs) zero c all here zero d at = subst (P 0) (some_same c d at) here
placed P (x ∷ cs) zero c all here (suc j) d at = all (suc j) d at
placed P (x ∷ cs) (suc n) c all here zero d at = all 0 d at
placed P (x ∷ cs) (suc n) c all here (suc j) d at = placed (λ i. P (suc i)) cs n c (λ i e is. all (suc i) e is) here j d at

module _ {K : Type 0} (flat : Flat) where
  with_have : (n : ℕ) (c d : ClusterAt) (w : World K) → HaveAttributes flat w → slice_get w.clusters n ≡ Some d → AreAttributes flat (n + 1) c.now.info.table
      → HaveAttributes flat (with_cluster n c w)
  with_have n c d w have at attributes = record {
    has = placed (λ j e. Contains (clusters_of flat.tables) (j + 1)) w.clusters n c have.has (have.has n d at);
    each = placed (λ j e. AreAttributes flat (j + 1) e.now.info.table) w.clusters n c have.each attributes;
  }

  -- whatever is told of the clusters
  pub attributes_alike : (one other : World K) → world_untold one ≡ world_untold other → HaveAttributes flat one → HaveAttributes flat other
  attributes_alike one other same have = record { has = λ n c at. (from n c at).0; each = λ n c at. (from n c at).1 }
    where
      back : (n : ℕ) (c : ClusterAt) (o : Option ClusterAt) → slice_get one.clusters n ≡ o → option_map untold o ≡ Some (untold c)
          → Contains (clusters_of flat.tables) (n + 1) × AreAttributes flat (n + 1) c.now.info.table
      back n c None at e = absurd cc
      back n c (Some d) at e = subst (λ (x : ClusterAt). Contains (clusters_of flat.tables) (n + 1) × AreAttributes flat (n + 1) x.now.info.table)
          (some_same (untold d) (untold c) e) (have.has n d at, have.each n d at)

      from : (n : ℕ) (c : ClusterAt) → slice_get other.clusters n ≡ Some c → Contains (clusters_of flat.tables) (n + 1) × AreAttributes flat (n + 1) c.now.info.table
      from n c at = back n c (slice_get one.clusters n) refl
          (sym (slice_get-map untold one.clusters n) ∙ ap (λ (w : World K). slice_get w.clusters n) same ∙ slice_get-map untold other.clusters n ∙ ap (option_map untold) at)

  -- a step from clusters with attributes of theirs to such ones, where it goes on
  abbrev Keeps : Step (World K) RunFault → Type 0
  Keeps (Going w) = HaveAttributes flat w
  Keeps (Fault fault w) = Unit {0}
  Keeps (Past w) = Unit {0}

  then_keeps : (s : Step (World K) RunFault) (next : World K → Step (World K) RunFault) → Keeps s → ((v : World K) → s ≡ Going v → HaveAttributes flat v → Keeps (next v)) → Keeps (and_then s next)
  then_keeps (Going v) next have each = each v refl have
  then_keeps (Fault fault v) next have each = tt
  then_keeps (Past v) next have each = tt

  turns_keep : (turn : ℕ → World K → Step (World K) RunFault) → ((n : ℕ) (v : World K) → HaveAttributes flat v → Keeps (turn n v)) → (n : ℕ) (w : World K) → HaveAttributes flat w
      → Keeps (turns_to turn n w)
  unfolding turns_to
  turns_keep turn each zero w have = have
  turns_keep turn each (suc n) w have = then_keeps (turns_to turn n w) (turn n) (turns_keep turn each n w have) (λ v is there. each n v there)

  module _ (model : PureTree) (rules : Rules K) where
    -- firings
    fired_have : (n m : ℕ) (o : Option ActorRow) (c : ClusterAt) (w : World K) → HaveAttributes flat w → slice_get w.clusters n ≡ Some c → HaveAttributes flat (fired model flat rules n m o c w)
    fired_have n m None c w have at = with_have n (stepped c) c w have at (have.each n c at)
    fired_have n m (Some row) c w have at = of_kind row.kind
      where
        of_kind : (kind : Actor) → HaveAttributes flat (fired_as model flat rules n m kind c w)
        of_kind actor.Module = with_have n (stepped c) c w have at (have.each n c at)
        of_kind actor.Sampler = with_have n (stepped (with_read m (slice_index_or (rules.event_side.values w.events) (signal_of flat.tables m) zero_sample) c)) c w have at (have.each n c at)
        of_kind actor.Sink = let now = with_have n (stepped c) c w have at (have.each n c at) in record { has = now.has; each = now.each }

    firing_keeps : (time n : ℕ) (w : World K) → HaveAttributes flat w → Keeps (firing model flat rules time n w)
    firing_keeps time n w have = go (slice_get w.clusters n) refl
      where
        of : (c : ClusterAt) → slice_get w.clusters n ≡ Some c → (due spent : Bool) → Keeps (if due then (if spent then Past w
            else Going (fired model flat rules n (actor_of_entry (next_entry c)) (slice_get flat.tables.actors (actor_of_entry (next_entry c))) c w)) else Going w)
        of c at true true = tt
        of c at true false = fired_have n (actor_of_entry (next_entry c)) (slice_get flat.tables.actors (actor_of_entry (next_entry c))) c w have at
        of c at false spent = have

        go : (o : Option ClusterAt) → slice_get w.clusters n ≡ o → Keeps (firing_of model flat rules time n o w)
        go None at = have
        go (Some c) at = of c at (is_entry_due time c (next_entry c)) (nat_eq w.left 0)

    firings_keep : (time n : ℕ) (w : World K) → HaveAttributes flat w → Keeps (all_firings model flat rules time n w)
    firings_keep time n w have = turns_keep (λ k v. firing model flat rules time n v) (λ k v. firing_keeps time n v) (plan_length (slice_get w.clusters n)) w have

    -- the event side
    events_keep : (time : ℕ) (w : World K) → HaveAttributes flat w → Keeps (events_of rules time w)
    events_keep time w have = go (has_write w.written || rules.event_side.is_due w.events time)
      where
        settled : (o : Option (Settled K)) → Keeps (settled_as o w)
        settled None = tt
        settled (Some s) = record { has = have.has; each = have.each }

        go : (b : Bool) → Keeps (if b then settled_as (rules.event_side.settle time w.written w.left w.events) w else Going w)
        go true = settled (rules.event_side.settle time w.written w.left w.events)
        go false = have

    module _ (kept : IsKept model) (checked : IsCheckedOf model flat.checked) where
      after_has : (number : ℕ) (c : ClusterAt) → AreAttributes flat number c.now.info.table → AreAttributes flat number (table_after (asks_in model flat number c) c.now.info.table)
      after_has number c attributes = attributes_stay model flat number c.now.info.table (λ m. unwrap_or (last_cells model flat number c m) []) kept checked attributes

      -- boundaries
      changed_keeps : (time n : ℕ) (c : ClusterAt) (w : World K) → HaveAttributes flat w → slice_get w.clusters n ≡ Some c → (x : Change)
          → Leads flat.tables (n + 1) (asks_in model flat (n + 1) c) c.now.info.table x → Keeps (changed_by flat.tables time n c x w)
      changed_keeps time n c w have at (Same table) leads =
          with_have n (with_same time table c) c w have at (subst (AreAttributes flat (n + 1)) (sym leads.1) (after_has (n + 1) c (have.each n c at)))
      changed_keeps time n c w have at (New table counts period entries bounds) leads =
          let now = with_have n (with_new flat.tables time table counts period entries bounds c) c w have at
          (subst (AreAttributes flat (n + 1)) (sym leads.table_is) (after_has (n + 1) c (have.each n c at))) in
          record { has = now.has; each = now.each }
      changed_keeps time n c w have at (Refused fault) leads = tt

      boundary_keeps : (time n : ℕ) (w : World K) → HaveAttributes flat w
          → ((c : ClusterAt) → slice_get w.clusters n ≡ Some c → is_over time c ≡ true → 0 < w.left → IsAnswer model flat (n + 1) c (next_change c)) → Keeps (boundary flat.tables time n w)
      boundary_keeps time n w have answer = go (slice_get w.clusters n) refl
        where
          of : (c : ClusterAt) → slice_get w.clusters n ≡ Some c → (over : Bool) → is_over time c ≡ over → (spent : Bool) → nat_eq w.left 0 ≡ spent
              → Keeps (if over then (if spent then Past w else changed_by flat.tables time n c (next_change c) w) else Going w)
          of c at false over spent left = have
          of c at true over true left = tt
          of c at true over false left = changed_keeps time n c w have at (next_change c) (answer c at over (grind (arith, nat_tests, left))).leads

          go : (o : Option ClusterAt) → slice_get w.clusters n ≡ o → Keeps (boundary_of flat.tables time n o w)
          go None at = have
          go (Some c) at = of c at (is_over time c) refl (nat_eq w.left 0) refl

      boundaries_keep : (time n : ℕ) (w : World K) → HaveAttributes flat w → AreFirstAnswers model flat time n w → Keeps (turns_to (boundary flat.tables time) n (at_begin w))
      unfolding turns_to
      boundaries_keep time zero w have answers = record { has = have.has; each = have.each }
      boundaries_keep time (suc n) w have answers =
          then_keeps (turns_to (boundary flat.tables time) n (at_begin w)) (boundary flat.tables time n) (boundaries_keep time n w have (λ k v c low. answers k v c (omega (arith, low))))
          (λ v is there. boundary_keeps time n v there (λ c at over left. answers n v c (omega arith) (record { before = is; there = at; over = over; left = left })))

      -- a whole instant
      instant_keeps : (time : ℕ) (w : World K) → HaveAttributes flat w → AreFirstAnswers model flat time (length w.clusters) w → Keeps (instant model flat rules time w)
      instant_keeps time w have answers =
          let turns = turns_to (boundary flat.tables time) (length w.clusters) (at_begin w) in
          let fire : World K → Step (World K) RunFault = λ v. turns_to (all_firings model flat rules time) (length w.clusters) v in
          then_keeps (and_then turns fire) (events_of rules time)
          (then_keeps turns fire (boundaries_keep time (length w.clusters) w have answers) (λ v is there. turns_keep (all_firings model flat rules time) (λ n u. firings_keep time n u) (length w.clusters) v there))
          (λ v is there. events_keep time v there)

      abbrev E : Engine (World K) RunFault
      E = engine model flat rules

      abbrev KeepsOn : HistoryState (World K) RunFault → Type 0
      KeepsOn (On w) = HaveAttributes flat w
      KeepsOn (Stopped time fault w) = Unit {0}
      KeepsOn (Spent time w) = Unit {0}

      state_keeps : (time : ℕ) (s : Step (World K) RunFault) → Keeps s → KeepsOn (state_of time s)
      state_keeps time (Going w) have = have
      state_keeps time (Fault fault w) have = tt
      state_keeps time (Past w) have = tt

      after_keeps : (time : ℕ) (s : HistoryState (World K) RunFault) → KeepsOn s → ((w : World K) → s ≡ On w → is_due rules w time ≡ true → AreFirstAnswers model flat time (length w.clusters) w)
          → KeepsOn (after E time s)
      after_keeps time (Stopped at fault w) have answers = tt
      after_keeps time (Spent at w) have answers = tt
      after_keeps time (On w) have answers = go (is_due rules w time) refl
        where
          go : (b : Bool) → is_due rules w time ≡ b → KeepsOn (if b then state_of time (instant model flat rules time w) else On w)
          go true due = state_keeps time (instant model flat rules time w) (instant_keeps time w have (answers w refl due))
          go false due = have

      module _ (start : World K) (stop : ℕ) (have : HaveAttributes flat start) (answers : AreAnswers model flat rules start stop) where
        history_keeps : (time : ℕ) → time ≤ stop → KeepsOn (history E 0 start time)
        unfolding history
        history_keeps zero low = have
        history_keeps (suc time) low = subst KeepsOn (sym (next_is E start time))
            (after_keeps time (history E 0 start time) (history_keeps time (omega (arith, low))) (λ w on due. answers time (length w.clusters) w low on due))

        -- the clusters of a history have attributes of theirs as long as it goes on
        pub attributes_at : (time : ℕ) (w : World K) → time ≤ stop → history E 0 start time ≡ On w → HaveAttributes flat w
        attributes_at time w low on = subst KeepsOn on (history_keeps time low)

        pub boundaries_have_tables : AreWithinLimits flat → OfAll model flat rules start stop (λ number c. IsBoundary flat number (asks_in model flat number c) c.now.info.table)
        boundaries_have_tables limits time n w low on due k v c inside turn =
            let within : time ≤ stop = omega (arith, low) in
            let there : HaveAttributes flat v = subst Keeps turn.before (boundaries_keep time k w (attributes_at time w within on) (answers time k w low on due)) in
            record { limits = limits; has = there.has k c turn.there; before = there.each k c turn.there; after = after_has (k + 1) c (there.each k c turn.there) }

-- a start by first plans: its attributes are those of the text
first_at : (model : PureTree) (flat : Flat) (ahead : List (List Change)) (k : ℕ) (firsts : List First) (n : ℕ) (c : ClusterAt)
    → slice_get (map (λ (first : ℕ × First). first_cluster model flat (first.0 + 1) first.1 (slice_index_or ahead first.0 [])) (enumerate_from k firsts)) n ≡ Some c
    → (first : First) × (slice_get firsts n ≡ Some first) × (c.now.info.table ≡ first.attrs.rows)
first_at model flat ahead k [] n c at = absurd cc
first_at model flat ahead k (x ∷ firsts) zero c at = (x, refl, ap (λ (d : ClusterAt). d.now.info.table) (sym (some_same _ c at)))
first_at model flat ahead k (x ∷ firsts) (suc n) c at = first_at model flat ahead (k + 1) firsts n c at

pub first_attributes : {K : Type 0} (model : PureTree) (flat : Flat) (firsts : List First) (ahead : List (List Change)) (events : K) (turns : ℕ) → AreWithinLimits flat
    → ((n : ℕ) (first : First) → slice_get firsts n ≡ Some first → Contains (clusters_of flat.tables) (n + 1) × IsFirstPlan flat (n + 1) first)
    → HaveAttributes flat (first_world model flat firsts ahead events turns)
first_attributes model flat firsts ahead events turns limits planned = record {
  has = λ n c at. let x = first_at model flat ahead 0 firsts n c at in (planned n x.0 x.1).0;
  each = λ n c at.
      let x = first_at model flat ahead 0 firsts n c at in
      subst (AreAttributes flat (n + 1)) (sym x.2) (first_record flat (n + 1) x.0 limits (planned n x.0 x.1).1).record_is.is.timed.attributes;
}

-- two starts of whose boundaries the answers are told have one history
pub answers_agree : {K : Type 0} → BoundariesHaveOne → (model : PureTree) (flat : Flat) (rules : Rules K) (one other : World K) (stop time : ℕ) → IsKept model → IsCheckedOf model flat.checked
    → AreWithinLimits flat → HaveAttributes flat one → world_untold one ≡ world_untold other → AreAnswers model flat rules one stop → AreAnswers model flat rules other stop → time ≤ stop
    → state_as world_untold (history (engine model flat rules) 0 one time) ≡ state_as world_untold (history (engine model flat rules) 0 other time)
answers_agree law model flat rules one other stop time kept checked limits have same answers others low =
    one_history law model flat rules one other stop time same (boundaries_have_tables flat model rules kept checked one stop have answers limits) answers others low

pub tables_law : BoundariesHaveTables
tables_law model flat rules start stop kept checked limits have answers = boundaries_have_tables flat model rules kept checked start stop have answers limits

pub agree_law : BoundariesHaveOne → AnswersAgree
agree_law law model flat rules one other stop time kept checked limits have same answers others low = answers_agree law model flat rules one other stop time kept checked limits have same answers others low
