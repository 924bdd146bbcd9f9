-- What is ahead of clusters changes nothing but boundaries: where each cluster has something else ahead, an instant does the same with the rest.
use Rattle.std.proofs.Common.{◌≡◌, ◌∙◌, ℕ, zero, suc, ◌+◌, ◌-◌, Bool, true, false, Option, Some, None, option_map, List, [], ◌∷◌, ◌++◌, if◌then◌else◌, length, nat_eq, refl, ap, arith}
use Rattle.std.specs.List.{list_any}
use Rattle.std.specs.Prelude.{◌||◌, slice_get, slice_index_or, slice_set}
use Rattle.tdf_bind_tables.specs.declared.actors.ActorRow.{ActorRow}
use Rattle.tdf_dynamic.specs.Below.{Flat, zero_sample}
use Rattle.tdf_graph.specs.declared.actors.Actor.{Actor}
use Rattle.tdf_graph.specs.declared.actors.Actor.TheVariants as actor
use Rattle.tdf_sim_history.specs.Instant.{RunFault, actor_of_entry, all_firings, events_of, fired, fired_as, firing, firing_of, is_cluster_due, is_due, is_entry_due, has_write, next_entry, plan_length, sample_taken, settled_as, signal_of, stepped, with_cluster, with_read}
use Rattle.tdf_sim_history.specs.Telling.{step_as}
use Rattle.tdf_sim_history.specs.World.{Change, ClusterAt, Rules, Settled, World}
use Rattle.tdf_sim_history.specs.History.{Fault, Going, Past, Step, and_then, turns_to}
use Rattle.tdf_lang_tree.specs.Pure.{PureTree}

module _ (g : ℕ → List Change → List Change) where
  -- the cluster of a number, and clusters from a number on, with something else ahead
  abbrev pub re : ℕ → ClusterAt → ClusterAt
  re n c = record c { ahead = g n c.ahead }

  abbrev pub re_all : ℕ → List ClusterAt → List ClusterAt
  re_all k [] = []
  re_all k (c ∷ cs) = re k c ∷ re_all (k + 1) cs

  get_from : (k n : ℕ) (cs : List ClusterAt) → slice_get (re_all k cs) n ≡ option_map (re (k + n)) (slice_get cs n)
  get_from k n [] = refl
  get_from k zero (c ∷ cs) = let e : k ≡ k + 0 = omega arith in ap (λ j. Some (re j c)) e
  get_from k (suc n) (c ∷ cs) = let e : k + 1 + n ≡ k + suc n = omega arith in get_from (k + 1) n cs ∙ ap (λ j. option_map (re j) (slice_get cs n)) e

  pub re_get : (n : ℕ) (cs : List ClusterAt) → slice_get (re_all 0 cs) n ≡ option_map (re n) (slice_get cs n)
  re_get n cs = let e : 0 + n ≡ n = omega arith in get_from 0 n cs ∙ ap (λ j. option_map (re j) (slice_get cs n)) e

  set_from : (k n : ℕ) (cs : List ClusterAt) (c : ClusterAt) → slice_set (re_all k cs) n (re (k + n) c) ≡ re_all k (slice_set cs n c)
  set_from k n [] c = refl
  set_from k zero (d ∷ cs) c = let e : k + 0 ≡ k = omega arith in ap (λ j. re j c ∷ re_all (k + 1) cs) e
  set_from k (suc n) (d ∷ cs) c = let e : k + suc n ≡ k + 1 + n = omega arith in
      ap (λ j. re k d ∷ slice_set (re_all (k + 1) cs) n (re j c)) e ∙ ap (λ l. re k d ∷ l) (set_from (k + 1) n cs c)

  pub re_set : (n : ℕ) (cs : List ClusterAt) (c : ClusterAt) → slice_set (re_all 0 cs) n (re n c) ≡ re_all 0 (slice_set cs n c)
  re_set n cs c = let e : n ≡ 0 + n = omega arith in ap (λ j. slice_set (re_all 0 cs) n (re j c)) e ∙ set_from 0 n cs c

  pub re_long : (k : ℕ) (cs : List ClusterAt) → length (re_all k cs) ≡ length cs
  re_long k [] = refl
  re_long k (c ∷ cs) = ap suc (re_long (k + 1) cs)

  due_same : (time k : ℕ) (cs : List ClusterAt) → list_any (is_cluster_due time) (re_all k cs) ≡ list_any (is_cluster_due time) cs
  due_same time k [] = refl
  due_same time k (c ∷ cs) = ap (λ b. is_cluster_due time c || b) (due_same time (k + 1) cs)

  module _ {K : Type 0} where
    abbrev pub re_world : World K → World K
    re_world w = record w { clusters = re_all 0 w.clusters }

    pub re_due : (rules : Rules K) (w : World K) (time : ℕ) → is_due rules (re_world w) time ≡ is_due rules w time
    re_due rules w time = ap (λ b. b || rules.event_side.is_due w.events time) (due_same time 0 w.clusters)

    pub with_re : (n : ℕ) (c : ClusterAt) (w : World K) → with_cluster n (re n c) (re_world w) ≡ re_world (with_cluster n c w)
    with_re n c w = ap (λ l. record w { clusters = l; left = w.left - 1 }) (re_set n w.clusters c)

    abbrev As : Step (World K) RunFault → Step (World K) RunFault
    As s = step_as re_world s

    pub re_then : (s : Step (World K) RunFault) (next : World K → Step (World K) RunFault) → ((v : World K) → next (re_world v) ≡ As (next v)) → and_then (As s) next ≡ As (and_then s next)
    re_then (Going v) next each = each v
    re_then (Fault fault v) next each = refl
    re_then (Past v) next each = refl

    pub re_turns : (turn : ℕ → World K → Step (World K) RunFault) → ((n : ℕ) (v : World K) → turn n (re_world v) ≡ As (turn n v)) → (n : ℕ) (w : World K)
        → turns_to turn n (re_world w) ≡ As (turns_to turn n w)
    unfolding turns_to
    re_turns turn each zero w = refl
    re_turns turn each (suc n) w = ap (λ s. and_then s (turn n)) (re_turns turn each n w) ∙ re_then (turns_to turn n w) (turn n) (each n)

    either : (b d : Bool) (w x y : World K) → x ≡ re_world y
        → (if b then (if d then Past (re_world w) else Going x) else Going (re_world w)) ≡ As (if b then (if d then Past w else Going y) else Going w)
    either true true w x y same = refl
    either true false w x y same = ap (λ v. Going v) same
    either false d w x y same = refl

    module _ (model : PureTree) (flat : Flat) (rules : Rules K) where
      fired_same : (n m : ℕ) (o : Option ActorRow) (c : ClusterAt) (w : World K) → fired model flat rules n m o (re n c) (re_world w) ≡ re_world (fired model flat rules n m o c w)
      fired_same n m None c w = with_re n (stepped c) w
      fired_same n m (Some row) c w = of_kind row.kind
        where
          of_kind : (kind : Actor) → fired_as model flat rules n m kind (re n c) (re_world w) ≡ re_world (fired_as model flat rules n m kind c w)
          of_kind actor.Module = with_re n (stepped c) w
          of_kind actor.Sampler = with_re n (stepped (with_read m (slice_index_or (rules.event_side.values w.events) (signal_of flat.tables m) zero_sample) c)) w
          of_kind actor.Sink = ap
              (λ l. record w { clusters = l; left = w.left - 1; written = w.written ++ record { signal = signal_of flat.tables m; value = sample_taken model flat (n + 1) c m } ∷ [] })
              (re_set n w.clusters (stepped c))

      firing_same : (time n : ℕ) (w : World K) → firing model flat rules time n (re_world w) ≡ As (firing model flat rules time n w)
      firing_same time n w = ap (λ o. firing_of model flat rules time n o (re_world w)) (re_get n w.clusters) ∙ go (slice_get w.clusters n)
        where
          go : (o : Option ClusterAt) → firing_of model flat rules time n (option_map (re n) o) (re_world w) ≡ As (firing_of model flat rules time n o w)
          go None = refl
          go (Some c) = either (is_entry_due time c (next_entry c)) (nat_eq w.left 0) w _ _
              (fired_same n (actor_of_entry (next_entry c)) (slice_get flat.tables.actors (actor_of_entry (next_entry c))) c w)

      plan_same : (n : ℕ) (w : World K) → plan_length (slice_get (re_world w).clusters n) ≡ plan_length (slice_get w.clusters n)
      plan_same n w = ap plan_length (re_get n w.clusters) ∙ go (slice_get w.clusters n)
        where
          go : (o : Option ClusterAt) → plan_length (option_map (re n) o) ≡ plan_length o
          go None = refl
          go (Some c) = refl

      firings_same : (time n : ℕ) (w : World K) → all_firings model flat rules time n (re_world w) ≡ As (all_firings model flat rules time n w)
      firings_same time n w = ap (λ k. turns_to (λ j v. firing model flat rules time n v) k (re_world w)) (plan_same n w)
          ∙ re_turns (λ j v. firing model flat rules time n v) (λ j v. firing_same time n v) (plan_length (slice_get w.clusters n)) w

      events_same : (time : ℕ) (w : World K) → events_of rules time (re_world w) ≡ As (events_of rules time w)
      events_same time w = both (has_write w.written || rules.event_side.is_due w.events time)
        where
          settled : (o : Option (Settled K)) → settled_as o (re_world w) ≡ As (settled_as o w)
          settled None = refl
          settled (Some s) = refl

          both : (b : Bool) → (if b then settled_as (rules.event_side.settle time w.written w.left w.events) (re_world w) else Going (re_world w))
              ≡ As (if b then settled_as (rules.event_side.settle time w.written w.left w.events) w else Going w)
          both true = settled (rules.event_side.settle time w.written w.left w.events)
          both false = refl

      -- what follows the boundaries of an instant
      abbrev pub Rest : (time : ℕ) → Step (World K) RunFault → (n : ℕ) → Step (World K) RunFault
      Rest time s n = and_then (and_then s (λ v. turns_to (all_firings model flat rules time) n v)) (events_of rules time)

      pub re_rest : (time n : ℕ) (s : Step (World K) RunFault) → Rest time (As s) n ≡ As (Rest time s n)
      re_rest time n s =
          ap (λ t. and_then t (events_of rules time)) (re_then s (λ v. turns_to (all_firings model flat rules time) n v) (λ v. re_turns (all_firings model flat rules time) (λ j u. firings_same time j u) n v))
          ∙ re_then (and_then s (λ v. turns_to (all_firings model flat rules time) n v)) (events_of rules time) (λ v. events_same time v)
