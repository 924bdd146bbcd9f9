-- Where something is told of each boundary, more changes nothing.
use Rattle.std.proofs.Common.{◌≡◌, ◌∙◌, ℕ, zero, suc, ◌+◌, ◌<◌, ◌≤◌, Bool, true, false, Option, Some, None, option_map, List, [], ◌∷◌, ◌++◌, if◌then◌else◌, length, map, nat_eq, append-nil, refl, sym, ap, subst, arith}
use Rattle.std.proofs.lemmas.Bool.Decides.{nat_tests}
use Rattle.std.specs.List.{enumerate_from}
use Rattle.std.specs.Prelude.{slice_get, slice_index_or}
use Rattle.tdf_bind_tables.specs.FlatTables.{FlatTablesOf}
use Rattle.tdf_dynamic.specs.Below.{First, Flat}
use Rattle.tdf_dynamic.proofs.Api.{some_same}
use Rattle.tdf_sim_history.proofs.Ahead.{re, re_all, re_due, re_get, re_long, re_rest, re_world, with_re}
use Rattle.tdf_sim_history.specs.Answers.{AreAnswers, HasTurn, IsAnswer, OfAll, OfClusters, OfFirst}
use Rattle.tdf_sim_history.specs.Instant.{RunFault, all_firings, at_begin, boundary, boundary_of, changed_by, engine, events_of, instant, is_due, is_over, with_new, with_same}
use Rattle.tdf_sim_history.specs.Laws.{MoreIsTold}
use Rattle.tdf_sim_history.specs.Start.{first_cluster, first_world}
use Rattle.tdf_sim_history.specs.Telling.{AreTold, IsTold, all_told, state_as, step_as, told_more, world_told}
use Rattle.tdf_sim_history.specs.World.{Change, ClusterAt, New, Refused, Rules, Same, World, next_change}
use Rattle.tdf_sim_history.specs.History.{Engine, Fault, Going, On, Past, Spent, HistoryState, Step, Stopped, after, and_then, history, state_of, turns_to}
use Rattle.tdf_lang_tree.specs.Pure.{PureTree}

-- the history before the next time leads to it
pub next_is : {W F : Type 0} (e : Engine W F) (start : W) (time : ℕ) → history e 0 start (suc time) ≡ after e time (history e 0 start time)
unfolding history
next_is e start time = let z : 0 + time ≡ time = omega arith in ap (λ t. after e t (history e 0 start time)) z

abbrev later_by : (more : List (List Change)) → ℕ → List Change → List Change
later_by more n a = a ++ slice_index_or more n []

numbered : (more : List (List Change)) (k : ℕ) (cs : List ClusterAt) → map (λ (c : ℕ × ClusterAt). told_more (slice_index_or more c.0 []) c.1) (enumerate_from k cs) ≡ re_all (later_by more) k cs
numbered more k [] = refl
numbered more k (c ∷ cs) = ap (λ l. re (later_by more) k c ∷ l) (numbered more (k + 1) cs)

longer : (more : List (List Change)) (n : ℕ) (a : List Change) → 0 < length a → 0 < length (later_by more n a)
longer more n [] told_it = absurd (omega (arith, told_it))
longer more n (x ∷ xs) told_it = omega arith

answer : (more : List (List Change)) (model : PureTree) (flat : Flat) (n : ℕ) (c : ClusterAt) (a : List Change) → 0 < length a → IsAnswer model flat (n + 1) (record c { ahead = a }) (next_change (record c { ahead = a }))
    → IsAnswer model flat (n + 1) (record c { ahead = later_by more n a }) (next_change (record c { ahead = later_by more n a }))
answer more model flat n c [] told_it is = absurd (omega (arith, told_it))
answer more model flat n c (x ∷ xs) told_it is = record { known = is.known; leads = is.leads }

module _ {K : Type 0} (more : List (List Change)) where
  -- the same world in two forms
  told_is : (w : World K) → world_told more w ≡ re_world (later_by more) w
  told_is w = ap (λ l. record w { clusters = l }) (numbered more 0 w.clusters)

  abbrev As : Step (World K) RunFault → Step (World K) RunFault
  As s = step_as (re_world (later_by more)) s

  -- a boundary of which something is told
  change_same : (tables : FlatTablesOf) (time n : ℕ) (c : ClusterAt) (v : World K) (a : List Change) → 0 < length a
      → changed_by tables time n (record c { ahead = a ++ slice_index_or more n [] }) (next_change (record c { ahead = a ++ slice_index_or more n [] })) (re_world (later_by more) v)
      ≡ As (changed_by tables time n (record c { ahead = a }) (next_change (record c { ahead = a })) v)
  change_same tables time n c v [] told = absurd (omega (arith, told))
  change_same tables time n c v (Same table ∷ xs) told = ap (λ u. Going u) (with_re (later_by more) n (with_same time table (record c { ahead = Same table ∷ xs })) v)
  change_same tables time n c v (New table counts period entries bounds ∷ xs) told =
      ap (λ (u : World K). Going (record u { planned = v.planned ++ n ∷ [] })) (with_re (later_by more) n (with_new tables time table counts period entries bounds (record c { ahead = New table counts period entries bounds ∷ xs })) v)
  change_same tables time n c v (Refused fault ∷ xs) told = refl

  module _ (tables : FlatTablesOf) (time : ℕ) (w : World K) where
    abbrev before : ℕ → Step (World K) RunFault
    before n = turns_to (boundary tables time) n (at_begin w)

    boundary_same : (n : ℕ) → ((v : World K) (c : ClusterAt) → HasTurn tables time n w v c → IsTold c) → (v : World K) → before n ≡ Going v → boundary tables time n (re_world (later_by more) v) ≡ As (boundary tables time n v)
    boundary_same n told v before_is = ap (λ o. boundary_of tables time n o (re_world (later_by more) v)) (re_get (later_by more) n v.clusters) ∙ go (slice_get v.clusters n) refl
      where
        of : (c : ClusterAt) → slice_get v.clusters n ≡ Some c → (b : Bool) → is_over time c ≡ b → (left : Bool) → nat_eq v.left 0 ≡ left
            → (if b then (if left then Past (re_world (later_by more) v) else changed_by tables time n (re (later_by more) n c) (next_change (re (later_by more) n c)) (re_world (later_by more) v)) else Going (re_world (later_by more) v))
            ≡ As (if b then (if left then Past v else changed_by tables time n c (next_change c) v) else Going v)
        of c at false over left some = refl
        of c at true over true some = refl
        of c at true over false some = change_same tables time n c v c.ahead (told v c (record { before = before_is; there = at; over = over; left = grind (arith, nat_tests, some) }))

        go : (o : Option ClusterAt) → slice_get v.clusters n ≡ o → boundary_of tables time n (option_map (re (later_by more) n) o) (re_world (later_by more) v) ≡ As (boundary_of tables time n o v)
        go None at = refl
        go (Some c) at = of c at (is_over time c) refl (nat_eq v.left 0) refl

    turns_same : (n : ℕ) → OfFirst tables time n w (λ number c. IsTold c) → turns_to (boundary tables time) n (at_begin (re_world (later_by more) w)) ≡ As (before n)
    unfolding turns_to
    turns_same zero told = refl
    turns_same (suc n) told = ap (λ s. and_then s (boundary tables time n)) (turns_same n (λ k v c low. told k v c (omega (arith, low)))) ∙ go (before n) refl
      where
        go : (s : Step (World K) RunFault) → before n ≡ s → and_then (As s) (boundary tables time n) ≡ As (and_then s (boundary tables time n))
        go (Going v) is = boundary_same n (λ v c turn. told n v c (omega arith) turn) v is
        go (Fault fault v) is = refl
        go (Past v) is = refl

    abbrev of_step : Step (World K) RunFault → World K
    of_step (Going y) = y
    of_step (Fault fault y) = y
    of_step (Past y) = y

    -- what holds of boundaries of which something is told, holds where more is told of them
    first_same : (n : ℕ) (P Q : OfClusters) → ((k : ℕ) (c : ClusterAt) → IsTold c → P (k + 1) c → Q (k + 1) (re (later_by more) k c))
        → OfFirst tables time n w (λ number c. IsTold c) → OfFirst tables time n w P → OfFirst tables time n (re_world (later_by more) w) Q
    first_same n P Q leads told all k u c inside turn = in_turn (before k) refl
      where
        mapped : As (before k) ≡ Going u
        mapped = sym (turns_same k (λ j x d less. told j x d (omega (arith, less, inside)))) ∙ turn.before

        in_turn : (s : Step (World K) RunFault) → before k ≡ s → Q (k + 1) c
        in_turn (Fault fault x) at = (let e : As (Fault fault x) ≡ Going u = ap As (sym at) ∙ mapped in absurd cc)
        in_turn (Past x) at = (let e : As (Past x) ≡ Going u = ap As (sym at) ∙ mapped in absurd cc)
        in_turn (Going x) at = at_cluster (slice_get x.clusters k) refl
          where
            u_is : u ≡ re_world (later_by more) x
            u_is = sym (ap of_step (ap As (sym at) ∙ mapped))

            there : option_map (re (later_by more) k) (slice_get x.clusters k) ≡ Some c
            there = sym (re_get (later_by more) k x.clusters) ∙ ap (λ (y : World K). slice_get y.clusters k) (sym u_is) ∙ turn.there

            at_cluster : (o : Option ClusterAt) → slice_get x.clusters k ≡ o → Q (k + 1) c
            at_cluster None none = (let e : option_map (re (later_by more) k) None ≡ Some c = ap (option_map (re (later_by more) k)) (sym none) ∙ there in absurd cc)
            at_cluster (Some d) some =
                let same : re (later_by more) k d ≡ c = some_same (re (later_by more) k d) c (ap (option_map (re (later_by more) k)) (sym some) ∙ there) in
                let turn_there : HasTurn tables time k w x d = record {
                  before = at;
                  there = some;
                  over = ap (is_over time) same ∙ turn.over;
                  left = subst (λ (y : World K). 0 < y.left) u_is turn.left;
                } in
                subst (Q (k + 1)) same (leads k d (told k x d inside turn_there) (all k x d inside turn_there))

  module _ (model : PureTree) (flat : Flat) (rules : Rules K) where
    instant_same : (time : ℕ) (w : World K) → OfFirst flat.tables time (length w.clusters) w (λ number c. IsTold c) → instant model flat rules time (re_world (later_by more) w) ≡ As (instant model flat rules time w)
    instant_same time w told =
        ap (λ n. and_then (and_then (turns_to (boundary flat.tables time) n (at_begin (re_world (later_by more) w))) (λ v. turns_to (all_firings model flat rules time) n v)) (events_of rules time)) (re_long (later_by more) 0 w.clusters)
        ∙ ap (λ s. and_then (and_then s (λ v. turns_to (all_firings model flat rules time) (length w.clusters) v)) (events_of rules time)) (turns_same flat.tables time w (length w.clusters) told)
        ∙ re_rest (later_by more) model flat rules time (length w.clusters) (turns_to (boundary flat.tables time) (length w.clusters) (at_begin w))

    abbrev E : Engine (World K) RunFault
    E = engine model flat rules

    abbrev StateAs : HistoryState (World K) RunFault → HistoryState (World K) RunFault
    StateAs s = state_as (re_world (later_by more)) s

    state_same : (time : ℕ) (s : Step (World K) RunFault) → state_of time (As s) ≡ StateAs (state_of time s)
    state_same time (Going w) = refl
    state_same time (Fault fault w) = refl
    state_same time (Past w) = refl

    after_same : (time : ℕ) (s : HistoryState (World K) RunFault) → ((w : World K) → s ≡ On w → is_due rules w time ≡ true → OfFirst flat.tables time (length w.clusters) w (λ number c. IsTold c))
        → after E time (StateAs s) ≡ StateAs (after E time s)
    after_same time (Stopped at fault w) told = refl
    after_same time (Spent at w) told = refl
    after_same time (On w) told = ap (λ b. if b then state_of time (instant model flat rules time (re_world (later_by more) w)) else On (re_world (later_by more) w)) (re_due (later_by more) rules w time) ∙ go (is_due rules w time) refl
      where
        go : (b : Bool) → is_due rules w time ≡ b → (if b then state_of time (instant model flat rules time (re_world (later_by more) w)) else On (re_world (later_by more) w))
            ≡ StateAs (if b then state_of time (instant model flat rules time w) else On w)
        go true due = ap (state_of time) (instant_same time w (told w refl due)) ∙ state_same time (instant model flat rules time w)
        go false due = refl

    module _ (start : World K) (stop : ℕ) (told : AreTold model flat rules start stop) where
      history_same : (time : ℕ) → time ≤ stop → history E 0 (re_world (later_by more) start) time ≡ StateAs (history E 0 start time)
      unfolding history
      history_same zero low = refl
      history_same (suc time) low =
          next_is E (re_world (later_by more) start) time ∙ ap (after E time) (history_same time (omega (arith, low)))
          ∙ after_same time (history E 0 start time) (λ w on due. told time (length w.clusters) w low on due) ∙ sym (ap StateAs (next_is E start time))

      -- what was on is on
      on_same : (time : ℕ) (v : World K) (s : HistoryState (World K) RunFault) → s ≡ history E 0 start time → StateAs s ≡ On v → (w : World K) × (history E 0 start time ≡ On w) × (v ≡ re_world (later_by more) w)
      on_same time v (On w) is on = (w, sym is, same on)
        where
          of_state : HistoryState (World K) RunFault → World K
          of_state (On u) = u
          of_state (Stopped at fault u) = u
          of_state (Spent at u) = u

          same : ◌≡◌ {A = HistoryState (World K) RunFault} (On (re_world (later_by more) w)) (On v) → v ≡ re_world (later_by more) w
          same e = sym (ap of_state e)
      on_same time v (Stopped at fault w) is on = absurd cc
      on_same time v (Spent at w) is on = absurd cc

      -- what holds of boundaries of which something is told, holds where more is told of them
      each_same : (P Q : OfClusters) → ((n : ℕ) (c : ClusterAt) → IsTold c → P (n + 1) c → Q (n + 1) (re (later_by more) n c)) → OfAll model flat rules start stop P → OfAll model flat rules (re_world (later_by more) start) stop Q
      each_same P Q leads all time n v low on due k u c inside turn = (let m = on_same time v (history E 0 start time) refl (sym (history_same time (omega (arith, low))) ∙ on) in from m.0 m.1 m.2)
        where
          from : (w : World K) → history E 0 start time ≡ On w → v ≡ re_world (later_by more) w → Q (k + 1) c
          from w was is =
              let there : is_due rules w time ≡ true = sym (re_due (later_by more) rules w time) ∙ ap (λ x. is_due rules x time) (sym is) ∙ due in
              first_same flat.tables time w n P Q leads (told time n w low was there) (all time n w low was there) k u c inside (subst (λ x. HasTurn flat.tables time k x u c) is turn)

      -- the same of worlds of which more is told
      as_is : ◌≡◌ {A = World K → World K} (λ w. world_told more w) (λ w. re_world (later_by more) w)
      as_is = λ i w. told_is w i

      pub history_told : (time : ℕ) → time ≤ stop → history E 0 (world_told more start) time ≡ state_as (world_told more) (history E 0 start time)
      history_told time low = subst (λ (f : World K → World K). history E 0 (f start) time ≡ state_as f (history E 0 start time)) (sym as_is) (history_same time low)

      pub more_told : AreTold model flat rules (world_told more start) stop
      more_told = subst (λ (w : World K). AreTold model flat rules w stop) (sym (told_is start)) (each_same (λ number c. IsTold c) (λ number c. IsTold c) (λ n c was on. longer more n c.ahead was) told)

      pub more_answers : AreAnswers model flat rules start stop → AreAnswers model flat rules (world_told more start) stop
      more_answers answers = subst (λ (w : World K). AreAnswers model flat rules w stop) (sym (told_is start))
          (each_same (λ number c. IsAnswer model flat number c (next_change c)) (λ number c. IsAnswer model flat number c (next_change c)) (λ n c was on. answer more model flat n c c.ahead was on) answers)

  -- and of the turns of an instant
  pub turns_told : (tables : FlatTablesOf) (time n : ℕ) (w : World K) → OfFirst tables time n w (λ number c. IsTold c)
      → turns_to (boundary tables time) n (at_begin (world_told more w)) ≡ step_as (world_told more) (turns_to (boundary tables time) n (at_begin w))
  turns_told tables time n w told = subst (λ (f : World K → World K). turns_to (boundary tables time) n (at_begin (f w)) ≡ step_as f (turns_to (boundary tables time) n (at_begin w)))
      (sym (let e : ◌≡◌ {A = World K → World K} (λ u. world_told more u) (λ u. re_world (later_by more) u) = λ i u. told_is u i in e)) (turns_same tables time w n told)

  pub first_told : (tables : FlatTablesOf) (time n : ℕ) (w : World K) → OfFirst tables time n w (λ number c. IsTold c) → OfFirst tables time n (world_told more w) (λ number c. IsTold c)
  first_told tables time n w told = subst (λ (v : World K). OfFirst tables time n v (λ number c. IsTold c)) (sym (told_is w))
      (first_same tables time w n (λ number c. IsTold c) (λ number c. IsTold c) (λ k c was on. longer more k c.ahead was) told told)

  pub first_answers : (model : PureTree) (flat : Flat) (time n : ℕ) (w : World K) → OfFirst flat.tables time n w (λ number c. IsTold c)
      → OfFirst flat.tables time n w (λ number c. IsAnswer model flat number c (next_change c)) → OfFirst flat.tables time n (world_told more w) (λ number c. IsAnswer model flat number c (next_change c))
  first_answers model flat time n w told answers = subst (λ (v : World K). OfFirst flat.tables time n v (λ number c. IsAnswer model flat number c (next_change c))) (sym (told_is w))
      (first_same flat.tables time w n (λ number c. IsAnswer model flat number c (next_change c)) (λ number c. IsAnswer model flat number c (next_change c)) (λ k c was on. answer more model flat k c c.ahead was on) told answers)

-- a start of which more is told
told_index : (ahead more : List (List Change)) (k : ℕ) → slice_index_or ahead k [] ++ slice_index_or more k [] ≡ slice_index_or (all_told ahead more) k []
told_index [] more k = refl
told_index (a ∷ ahead) [] k = append-nil (slice_index_or (a ∷ ahead) k [])
told_index (a ∷ ahead) (m ∷ more) zero = refl
told_index (a ∷ ahead) (m ∷ more) (suc k) = told_index ahead more k

module _ (model : PureTree) (flat : Flat) (ahead more : List (List Change)) where
  starts_from : (k : ℕ) (firsts : List First)
      → map (λ (c : ℕ × ClusterAt). told_more (slice_index_or more c.0 []) c.1)
      (enumerate_from k (map (λ (first : ℕ × First). first_cluster model flat (first.0 + 1) first.1 (slice_index_or ahead first.0 [])) (enumerate_from k firsts)))
      ≡ map (λ (first : ℕ × First). first_cluster model flat (first.0 + 1) first.1 (slice_index_or (all_told ahead more) first.0 [])) (enumerate_from k firsts)
  starts_from k [] = refl
  starts_from k (x ∷ firsts) = λ i. first_cluster model flat (k + 1) x (told_index ahead more k i) ∷ starts_from (k + 1) firsts i

  pub starts_told : {K : Type 0} (firsts : List First) (events : K) (turns : ℕ) → world_told more (first_world model flat firsts ahead events turns) ≡ first_world model flat firsts (all_told ahead more) events turns
  starts_told firsts events turns = λ i. record (first_world model flat firsts ahead events turns) { clusters = starts_from 0 firsts i }

pub more_is_told : MoreIsTold
more_is_told = record {
  starts = λ model flat firsts ahead more events turns. starts_told model flat ahead more firsts events turns;
  history_is = λ model flat rules start more stop time told low. history_told more model flat rules start stop told time low;
  turns_are = λ tables time n w more told. turns_told more tables time n w told;
  first_told = λ tables time n w more told. first_told more tables time n w told;
  first_answers = λ model flat time n w more told answers. first_answers more model flat time n w told answers;
  told = λ model flat rules start more stop told. more_told more model flat rules start stop told;
  answers = λ model flat rules start more stop told answers. more_answers more model flat rules start stop told answers;
}
