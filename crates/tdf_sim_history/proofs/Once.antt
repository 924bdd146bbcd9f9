-- Two starts of whose boundaries the answers are told have one history.
use Rattle.std.proofs.Common.{◌≡◌, ◌∙◌, ℕ, zero, suc, ◌+◌, ◌<◌, ◌≤◌, Bool, true, false, Option, Some, None, option_map, List, [], ◌∷◌, ◌++◌, if◌then◌else◌, length, map, nat_eq, refl, sym, ap, subst, arith}
use Rattle.std.proofs.lemmas.Bool.Decides.{nat_tests}
use Rattle.std.specs.Prelude.{slice_get}
use Rattle.tdf_bind_tables.specs.FlatTables.{FlatTablesOf}
use Rattle.tdf_dynamic.specs.Change.{Asks}
use Rattle.tdf_dynamic.specs.Laws.{BoundariesHaveOne, IsBoundary}
use Rattle.tdf_dynamic_plans.specs.Attributes.{AttrsOf}
use Rattle.tdf_dynamic.specs.Below.{Flat}
use Rattle.tdf_dynamic.proofs.Api.{some_same}
use Rattle.tdf_sim_history.proofs.Ahead.{Rest, re_all, re_due, re_get, re_long, re_rest, re_world, with_re}
use Rattle.tdf_sim_history.proofs.Told.{next_is}
use Rattle.tdf_sim_history.specs.Answers.{AreAnswers, HasTurn, IsAnswer, Leads, OfAll, asks_in}
use Rattle.tdf_sim_history.specs.Instant.{RunFault, at_begin, boundary, boundary_of, changed_by, engine, instant, is_due, is_over, with_cluster, with_new, with_same}
use Rattle.tdf_sim_history.specs.Laws.{AnswersTellOne}
use Rattle.tdf_sim_history.specs.Start.{counts_in}
use Rattle.tdf_sim_history.specs.Telling.{state_as, step_as, untold, world_untold}
use Rattle.tdf_sim_history.specs.World.{Change, ClusterAt, New, Refused, Rules, Same, World, next_change}
use Rattle.tdf_sim_history.specs.History.{Engine, Fault, Going, On, Past, Spent, HistoryState, Step, Stopped, after, and_then, history, state_of, turns_to}
use Rattle.tdf_lang_tree.specs.Pure.{PureTree}

-- a boundary leads to one answer
one_answer : BoundariesHaveOne → (flat : Flat) (number : ℕ) (asks : Asks) (table : List AttrsOf) → IsBoundary flat number asks table → (x y : Change)
    → Leads flat.tables number asks table x → Leads flat.tables number asks table y → x ≡ y
one_answer law flat number asks table b (Same t) (Same u) p q = ap Same (p.1 ∙ sym q.1)
one_answer law flat number asks table b (Same t) (New u counts period entries bounds) p q = absurd (law.same_or_plan flat number asks table q.plan p.0 q.plan_is)
one_answer law flat number asks table b (Same t) (Refused fault) p q = absurd (law.same_or_fault flat number asks table fault p.0 q)
one_answer law flat number asks table b (New t counts period entries bounds) (Same u) p q = absurd (law.same_or_plan flat number asks table p.plan q.0 p.plan_is)
one_answer law flat number asks table b (New t counts period entries bounds) (New u others time list sums) p q =
    let one = law.one_plan flat number asks table p.plan q.plan b p.plan_is q.plan_is in
    let tables : t ≡ u = p.table_is ∙ sym q.table_is in
    let lists : entries ≡ list = p.entries_are ∙ one.entries ∙ sym q.entries_are in
    let parts : counts ≡ others = p.counts_are ∙ ap (counts_in flat.tables) lists ∙ sym q.counts_are in
    let times : period ≡ time = p.period_is ∙ one.period ∙ sym q.period_is in
    let bound : bounds ≡ sums = p.bounds_are ∙ one.bounds ∙ sym q.bounds_are in
    λ i. New (tables i) (parts i) (times i) (lists i) (bound i)
one_answer law flat number asks table b (New t counts period entries bounds) (Refused fault) p q = absurd (law.fault_or_plan flat number asks table fault p.plan b q p.plan_is)
one_answer law flat number asks table b (Refused fault) (Same u) p q = absurd (law.same_or_fault flat number asks table fault q.0 p)
one_answer law flat number asks table b (Refused fault) (New u counts period entries bounds) p q = absurd (law.fault_or_plan flat number asks table fault q.plan b p q.plan_is)
one_answer law flat number asks table b (Refused fault) (Refused other) p q = ap Refused (law.one_fault flat number asks table fault other b p q)

abbrev none : ℕ → List Change → List Change
none n a = []

untold_all : (k : ℕ) (cs : List ClusterAt) → map untold cs ≡ re_all none k cs
untold_all k [] = refl
untold_all k (c ∷ cs) = ap (λ l. untold c ∷ l) (untold_all (k + 1) cs)

module _ {K : Type 0} where
  abbrev U : World K → World K
  U w = re_world none w

  untold_is : (w : World K) → world_untold w ≡ U w
  untold_is w = ap (λ l. record w { clusters = l }) (untold_all 0 w.clusters)

  abbrev As : Step (World K) RunFault → Step (World K) RunFault
  As s = step_as U s

  abbrev world_in : Step (World K) RunFault → World K
  world_in (Going w) = w
  world_in (Fault fault w) = w
  world_in (Past w) = w

  long_same : (w v : World K) → U w ≡ U v → length w.clusters ≡ length v.clusters
  long_same w v same = sym (re_long none 0 w.clusters) ∙ ap (λ (u : World K). length u.clusters) same ∙ re_long none 0 v.clusters

  module _ (tables : FlatTablesOf) (time : ℕ) where
    -- what a change makes of a cluster and a world of which nothing is told
    abbrev Made : ℕ → Change → ClusterAt → World K → Step (World K) RunFault
    Made n (Same table) c w = Going (with_cluster n (untold (with_same time table c)) w)
    Made n (New table counts period entries bounds) c w = Going (record (with_cluster n (untold (with_new tables time table counts period entries bounds c)) w) { planned = w.planned ++ n ∷ [] })
    Made n (Refused fault) c w = Fault (record { cluster = n + 1; fault = fault }) w

    made : (n : ℕ) (x : Change) (c : ClusterAt) (w : World K) → As (changed_by tables time n c x w) ≡ Made n x (untold c) (U w)
    made n (Same table) c w = ap (λ u. Going u) (sym (with_re none n (with_same time table c) w))
    made n (New table counts period entries bounds) c w = ap (λ (u : World K). Going (record u { planned = w.planned ++ n ∷ [] })) (sym (with_re none n (with_new tables time table counts period entries bounds c) w))
    made n (Refused fault) c w = refl

    module _ (w v : World K) where
      abbrev first : ℕ → Step (World K) RunFault
      first n = turns_to (boundary tables time) n (at_begin w)

      abbrev second : ℕ → Step (World K) RunFault
      second n = turns_to (boundary tables time) n (at_begin v)

      -- what is told of the first n boundaries that have their turn is one
      abbrev AreOne : ℕ → Type 0
      AreOne n = (k : ℕ) (x y : World K) (c d : ClusterAt) → k < n → HasTurn tables time k w x c → HasTurn tables time k v y d → untold c ≡ untold d → next_change c ≡ next_change d

      at_clusters : (n : ℕ) → AreOne (suc n) → (x y : World K) → first n ≡ Going x → second n ≡ Going y → U x ≡ U y → (o p : Option ClusterAt) → slice_get x.clusters n ≡ o → slice_get y.clusters n ≡ p
          → option_map untold o ≡ option_map untold p → As (boundary_of tables time n o x) ≡ As (boundary_of tables time n p y)
      at_clusters n one x y is other same None None at to e = ap (λ u. Going u) same
      at_clusters n one x y is other same None (Some d) at to e = absurd cc
      at_clusters n one x y is other same (Some c) None at to e = absurd cc
      at_clusters n one x y is other same (Some c) (Some d) at to e =
          go (is_over time c) refl (is_over time d) (ap (is_over time) alike) (nat_eq x.left 0) refl (nat_eq y.left 0) (ap (λ (u : World K). nat_eq u.left 0) same)
        where
          alike : untold c ≡ untold d
          alike = some_same (untold c) (untold d) e

          go : (a : Bool) → is_over time c ≡ a → (b : Bool) → is_over time c ≡ is_over time d → (l : Bool) → nat_eq x.left 0 ≡ l → (m : Bool) → nat_eq x.left 0 ≡ nat_eq y.left 0
              → As (if is_over time c then (if nat_eq x.left 0 then Past x else changed_by tables time n c (next_change c) x) else Going x)
              ≡ As (if is_over time d then (if nat_eq y.left 0 then Past y else changed_by tables time n d (next_change d) y) else Going y)
          go false over b overs l left m lefts =
              ap (λ z. As (if z then (if nat_eq x.left 0 then Past x else changed_by tables time n c (next_change c) x) else Going x)) over
              ∙ ap (λ u. Going u) same
              ∙ sym (ap (λ z. As (if z then (if nat_eq y.left 0 then Past y else changed_by tables time n d (next_change d) y) else Going y)) (sym overs ∙ over))
          go true over b overs true left m lefts =
              ap (λ z. As (if z then (if nat_eq x.left 0 then Past x else changed_by tables time n c (next_change c) x) else Going x)) over
              ∙ ap (λ z. As (if z then Past x else changed_by tables time n c (next_change c) x)) left
              ∙ ap (λ u. Past u) same
              ∙ sym (ap (λ z. As (if z then (if nat_eq y.left 0 then Past y else changed_by tables time n d (next_change d) y) else Going y)) (sym overs ∙ over)
              ∙ ap (λ z. As (if z then Past y else changed_by tables time n d (next_change d) y)) (sym lefts ∙ left))
          go true over b overs false left m lefts =
              ap (λ z. As (if z then (if nat_eq x.left 0 then Past x else changed_by tables time n c (next_change c) x) else Going x)) over
              ∙ ap (λ z. As (if z then Past x else changed_by tables time n c (next_change c) x)) left
              ∙ made n (next_change c) c x
              ∙ (λ i. Made n (next_same i) (alike i) (same i))
              ∙ sym (made n (next_change d) d y)
              ∙ sym (ap (λ z. As (if z then (if nat_eq y.left 0 then Past y else changed_by tables time n d (next_change d) y) else Going y)) (sym overs ∙ over)
              ∙ ap (λ z. As (if z then Past y else changed_by tables time n d (next_change d) y)) (sym lefts ∙ left))
            where
              next_same : next_change c ≡ next_change d
              next_same = one n x y c d (omega arith)
                  (record { before = is; there = at; over = over; left = grind (arith, nat_tests, left) })
                  (record { before = other; there = to; over = sym overs ∙ over; left = (let l : nat_eq y.left 0 ≡ false = sym lefts ∙ left in grind (arith, nat_tests, l)) })
                  alike

      next_alike : (n : ℕ) → AreOne (suc n) → (s t : Step (World K) RunFault) → first n ≡ s → second n ≡ t → As s ≡ As t → As (and_then s (boundary tables time n)) ≡ As (and_then t (boundary tables time n))
      next_alike n one (Going x) (Going y) is other e =
          let same : U x ≡ U y = ap world_in e in
          at_clusters n one x y is other same (slice_get x.clusters n) (slice_get y.clusters n) refl refl
          (sym (re_get none n x.clusters) ∙ ap (λ (u : World K). slice_get u.clusters n) same ∙ re_get none n y.clusters)
      next_alike n one (Fault f x) (Fault g y) is other e = e
      next_alike n one (Past x) (Past y) is other e = e
      next_alike n one (Going x) (Fault g y) is other e = absurd cc
      next_alike n one (Going x) (Past y) is other e = absurd cc
      next_alike n one (Fault f x) (Going y) is other e = absurd cc
      next_alike n one (Fault f x) (Past y) is other e = absurd cc
      next_alike n one (Past x) (Going y) is other e = absurd cc
      next_alike n one (Past x) (Fault g y) is other e = absurd cc

      turns_alike : U w ≡ U v → (n : ℕ) → AreOne n → As (first n) ≡ As (second n)
      unfolding turns_to
      turns_alike same zero one = ap (λ (u : World K). Going (at_begin u)) same
      turns_alike same (suc n) one = next_alike n one (first n) (second n) refl refl (turns_alike same n (λ k x y c d low. one k x y c d (omega (arith, low))))

  module _ (law : BoundariesHaveOne) (model : PureTree) (flat : Flat) (rules : Rules K) where
    abbrev E : Engine (World K) RunFault
    E = engine model flat rules

    abbrev StateAs : HistoryState (World K) RunFault → HistoryState (World K) RunFault
    StateAs s = state_as U s

    abbrev world_at : HistoryState (World K) RunFault → World K
    world_at (On w) = w
    world_at (Stopped time fault w) = w
    world_at (Spent time w) = w

    instant_alike : (time : ℕ) (w v : World K) → U w ≡ U v → AreOne flat.tables time w v (length w.clusters) → As (instant model flat rules time w) ≡ As (instant model flat rules time v)
    instant_alike time w v same one =
        sym (re_rest none model flat rules time (length w.clusters) (first flat.tables time w v (length w.clusters)))
        ∙ ap (λ s. Rest none model flat rules time s (length w.clusters)) (turns_alike flat.tables time w v same (length w.clusters) one)
        ∙ re_rest none model flat rules time (length w.clusters) (second flat.tables time w v (length w.clusters))
        ∙ ap (λ n. As (Rest none model flat rules time (second flat.tables time w v n) n)) (long_same w v same)

    state_alike : (time : ℕ) (s : Step (World K) RunFault) → StateAs (state_of time s) ≡ state_of time (As s)
    state_alike time (Going w) = refl
    state_alike time (Fault fault w) = refl
    state_alike time (Past w) = refl

    after_alike : (time : ℕ) (s t : HistoryState (World K) RunFault) → StateAs s ≡ StateAs t
        → ((w v : World K) → s ≡ On w → t ≡ On v → is_due rules w time ≡ true → is_due rules v time ≡ true → AreOne flat.tables time w v (length w.clusters)) → StateAs (after E time s) ≡ StateAs (after E time t)
    after_alike time (On w) (On v) e one = go (is_due rules w time) refl
      where
        same : U w ≡ U v
        same = ap world_at e

        due_same : is_due rules w time ≡ is_due rules v time
        due_same = sym (re_due none rules w time) ∙ ap (λ (u : World K). is_due rules u time) same ∙ re_due none rules v time

        go : (b : Bool) → is_due rules w time ≡ b → StateAs (if is_due rules w time then state_of time (instant model flat rules time w) else On w)
            ≡ StateAs (if is_due rules v time then state_of time (instant model flat rules time v) else On v)
        go true due =
            ap (λ b. StateAs (if b then state_of time (instant model flat rules time w) else On w)) due
            ∙ state_alike time (instant model flat rules time w)
            ∙ ap (state_of time) (instant_alike time w v same (one w v refl refl due (sym due_same ∙ due)))
            ∙ sym (state_alike time (instant model flat rules time v))
            ∙ sym (ap (λ b. StateAs (if b then state_of time (instant model flat rules time v) else On v)) (sym due_same ∙ due))
        go false due =
            ap (λ b. StateAs (if b then state_of time (instant model flat rules time w) else On w)) due
            ∙ ap (λ u. On u) same
            ∙ sym (ap (λ b. StateAs (if b then state_of time (instant model flat rules time v) else On v)) (sym due_same ∙ due))
    after_alike time (Stopped at f w) (Stopped to g v) e one = e
    after_alike time (Spent at w) (Spent to v) e one = e
    after_alike time (On w) (Stopped to g v) e one = absurd cc
    after_alike time (On w) (Spent to v) e one = absurd cc
    after_alike time (Stopped at f w) (On v) e one = absurd cc
    after_alike time (Stopped at f w) (Spent to v) e one = absurd cc
    after_alike time (Spent at w) (On v) e one = absurd cc
    after_alike time (Spent at w) (Stopped to g v) e one = absurd cc

    module _ (one other : World K) (stop : ℕ) (same : U one ≡ U other)
        (are : OfAll model flat rules one stop (λ number c. IsBoundary flat number (asks_in model flat number c) c.now.info.table))
        (answers : AreAnswers model flat rules one stop) (others : AreAnswers model flat rules other stop) where
      next_one : (number : ℕ) (c d : ClusterAt) → IsBoundary flat number (asks_in model flat number c) c.now.info.table → IsAnswer model flat number c (next_change c)
          → IsAnswer model flat number d (next_change d) → untold c ≡ untold d → next_change c ≡ next_change d
      next_one number c d b p q alike =
          let bare : IsAnswer model flat number (untold d) (next_change d) = record { known = q.known; leads = q.leads } in
          let moved = subst (λ e. IsAnswer model flat number e (next_change d)) (sym alike) bare in
          one_answer law flat number (asks_in model flat number c) c.now.info.table b (next_change c) (next_change d) p.leads moved.leads

      history_alike : (time : ℕ) → time ≤ stop → StateAs (history E 0 one time) ≡ StateAs (history E 0 other time)
      unfolding history
      history_alike zero low = ap (λ u. On u) same
      history_alike (suc time) low =
          ap StateAs (next_is E one time)
          ∙ after_alike time (history E 0 one time) (history E 0 other time) (history_alike time (omega (arith, low)))
          (λ w v on on_too due due_too k x y c d inside turn turn_too alike. next_one (k + 1) c d
          (are time (length w.clusters) w low on due k x c inside turn)
          (answers time (length w.clusters) w low on due k x c inside turn)
          (others time (suc k) v low on_too due_too k y d (omega arith) turn_too) alike)
          ∙ sym (ap StateAs (next_is E other time))

    -- two starts of whose boundaries the answers are told have one history
    pub one_history : (one other : World K) (stop time : ℕ) → world_untold one ≡ world_untold other
        → OfAll model flat rules one stop (λ number c. IsBoundary flat number (asks_in model flat number c) c.now.info.table)
        → AreAnswers model flat rules one stop → AreAnswers model flat rules other stop → time ≤ stop
        → state_as world_untold (history E 0 one time) ≡ state_as world_untold (history E 0 other time)
    one_history one other stop time same are answers others low =
        subst (λ (f : World K → World K). state_as f (history E 0 one time) ≡ state_as f (history E 0 other time)) (sym as_is)
        (history_alike one other stop (sym (untold_is one) ∙ same ∙ untold_is other) are answers others time low)
      where
        as_is : ◌≡◌ {A = World K → World K} (λ w. world_untold w) (λ w. U w)
        as_is = λ i w. untold_is w i

pub answers_tell_one : BoundariesHaveOne → AnswersTellOne
answers_tell_one law model flat rules one other stop time same are answers others low = one_history law model flat rules one other stop time same are answers others low
