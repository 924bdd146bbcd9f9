-- Why an own net has no plan is why its cluster has none in the whole net.
use Rattle.std.proofs.Common.{◌≡◌, ◌∙◌, ℕ, ◌*◌, ◌<◌, ◌≤◌, ◌⊎◌, inl, inr, List, length, sym, ap, subst, arith}
use Rattle.std.proofs.lemmas.Bool.{cases_eq, cases_lt}
use Rattle.std.proofs.lemmas.List.{get_or_past}
use Rattle.std.specs.Prelude.{slice_get, slice_index}
use Rattle.tdf_cluster_net.proofs.Edges.{number_less}
use Rattle.tdf_cluster_net.proofs.Keys.{IsOwn, number_of, HasPace, own_in, grounded_up, grounded_down, key_up, key_down}
use Rattle.tdf_cluster_net.specs.Laws.{IsClusterNet}
use Rattle.tdf_cluster_net.specs.Numbers.{AreSpread}
use Rattle.tdf_cluster_net.specs.Own.{OwnOf, IsActorInCluster}
use Rattle.tdf_graph.specs.declared.actors.Actor.{Actor}
use Rattle.tdf_graph.specs.declared.actors.Edge.{Edge}
use Rattle.tdf_graph.specs.declared.actors.Port.{Port}
use Rattle.tdf_schedule.specs.Needs.{IsGrounded}
use Rattle.tdf_schedule.specs.Plan.{pace_of, pace_by, IsDeadlock, IsLate, IsNoncausal}

-- the own actor with a number in the whole net
pub record HasOwnActor (own : OwnOf) (m : ℕ) : Type 0 where
  pub actor : ℕ
  pub inside : IsOwn own actor
  pub number : number_of own actor ≡ m

module _ {actors : List Actor} {edges : List Edge} {ports : List Port} {clusters : List ℕ} {cluster : ℕ} {own : OwnOf}
    (net : IsClusterNet actors edges ports clusters cluster own) where
  pub pace_up : (steps all : List ℕ) → AreSpread own.actor_numbers (length actors) steps all
      → (i : ℕ) → IsOwn own i → pace_of own.actors steps i ≡ pace_of actors all (number_of own i)
  pace_up steps all spread i i_in =
      ap (λ o. pace_by o (slice_index steps i)) (net.own_is.actors_are i i_in)
      ∙ ap (pace_by (slice_get actors (number_of own i))) (sym (spread.at i i_in))

  pub own_less : (i j : ℕ) → IsOwn own i → IsOwn own j → number_of own i < number_of own j → i < j
  own_less i j i_in j_in less = number_less own.actor_numbers (length actors) (IsActorInCluster clusters cluster) net.own_is.actor_numbers i j i_in j_in less

  -- an actor of the cluster is own, and others are not
  pub actor_own : (m : ℕ) → m < length actors → slice_index clusters m ≡ cluster → HasOwnActor own m
  actor_own m m_in same = let found = net.own_is.actor_numbers.all m m_in same in record { actor = found.0; inside = found.1; number = found.2 }

  pub not_own : (m : ℕ) → (slice_index clusters m ≡ cluster → ⊥) → (i : ℕ) → IsOwn own i → number_of own i ≡ m → ⊥
  not_own m other i i_in is = other (ap (slice_index clusters) (sym is) ∙ own_in net i i_in)

  module _ (counts all : List ℕ) (long : length counts ≡ length own.actor_numbers) (spread : AreSpread own.actor_numbers (length actors) counts all) where
    -- what fires is own
    pub fires_own : (m a : ℕ) → a < slice_index counts m → IsOwn own m
    fires_own m a less = go (cases_lt m (length own.actor_numbers))
      where
        go : (m < length own.actor_numbers) ⊎ (length own.actor_numbers ≤ m) → IsOwn own m
        go (inl here) = here
        go (inr past) = absurd (let e = get_or_past counts m 0 (subst (λ n. n ≤ m) (sym long) past) in omega (arith, e, less))

    pub fires_whole : (m a : ℕ) → a < slice_index all m → HasOwnActor own m
    fires_whole m a less = go (cases_lt m (length actors)) (cases_eq (slice_index clusters m) cluster)
      where
        go : (m < length actors) ⊎ (length actors ≤ m) → (slice_index clusters m ≡ cluster) ⊎ (slice_index clusters m ≡ cluster → ⊥) → HasOwnActor own m
        go (inl here) (inl same) = actor_own m here same
        go (inl here) (inr other) = absurd (let e = spread.elsewhere m (not_own m other) in omega (arith, e, less))
        go (inr past) second = absurd (let e = get_or_past all m 0 (subst (λ n. n ≤ m) (sym spread.long) past) in omega (arith, e, less))

    pub fires_up : (m a : ℕ) → IsOwn own m → a < slice_index counts m → a < slice_index all (number_of own m)
    fires_up m a m_in less = subst (λ n. a < n) (sym (spread.at m m_in)) less

    pub fires_down : (m a : ℕ) → IsOwn own m → a < slice_index all (number_of own m) → a < slice_index counts m
    fires_down m a m_in less = subst (λ n. a < n) (spread.at m m_in) less

    module _ (pace own_pace : ℕ → ℕ) (pace_is : HasPace own pace own_pace) where
      pub late_up : (m a : ℕ) → IsLate own.edges own.actors own_pace counts m a → IsLate edges actors pace all (number_of own m) a
      late_up m a late = record {
        sink = sym (net.own_is.actors_are m m_in) ∙ late.sink;
        within = fires_up m a m_in late.within;
        key = late.key;
        is = key_up net pace own_pace pace_is m a late.key m_in late.is;
        late = subst (λ p. a * p < late.key.offset) (pace_is m m_in) late.late;
      }
        where
          m_in : IsOwn own m
          m_in = fires_own m a late.within

      pub late_down : (m a : ℕ) → IsOwn own m → IsLate edges actors pace all (number_of own m) a → IsLate own.edges own.actors own_pace counts m a
      late_down m a m_in late = record {
        sink = net.own_is.actors_are m m_in ∙ late.sink;
        within = fires_down m a m_in late.within;
        key = late.key;
        is = key_down net pace own_pace pace_is m a late.key m_in late.is;
        late = subst (λ p. a * p < late.key.offset) (sym (pace_is m m_in)) late.late;
      }

      -- own firings are grounded where those of the whole net are
      all_grounded_up : (P : ℕ → Type 0) → ((i a : ℕ) → IsOwn own i → P (number_of own i) → a < slice_index counts i → IsGrounded own.edges own_pace i a)
          → (m a : ℕ) → P m → a < slice_index all m → IsGrounded edges pace m a
      all_grounded_up P grounded m a meant less =
          let w = fires_whole m a less in
          subst (λ k. IsGrounded edges pace k a) w.number
          (grounded_up net pace own_pace pace_is w.actor a w.inside
          (grounded w.actor a w.inside (subst P (sym w.number) meant) (fires_down w.actor a w.inside (subst (λ k. a < slice_index all k) (sym w.number) less))))

      own_grounded_down : (i a : ℕ) → a < slice_index counts i → (a < slice_index all (number_of own i) → IsGrounded edges pace (number_of own i) a) → IsGrounded own.edges own_pace i a
      own_grounded_down i a less grounded =
          let i_in = fires_own i a less in
          grounded_down net pace own_pace pace_is i a i_in (grounded (fires_up i a i_in less))

      pub deadlock_up : (m : ℕ) → IsDeadlock own.edges own_pace counts m → IsDeadlock edges pace all (number_of own m)
      deadlock_up m dead = record {
        firing = dead.firing;
        within = fires_up m dead.firing m_in dead.within;
        ungrounded = λ is. dead.ungrounded (grounded_down net pace own_pace pace_is m dead.firing m_in is);
        first = λ k a before less. all_grounded_up (λ n. n < number_of own m)
            (λ i b i_in i_before b_in. dead.first i b (own_less i m i_in m_in i_before) b_in) k a before less;
      }
        where
          m_in : IsOwn own m
          m_in = fires_own m dead.firing dead.within

      deadlock_own : (i : ℕ) → IsOwn own i → IsDeadlock edges pace all (number_of own i) → IsDeadlock own.edges own_pace counts i
      deadlock_own i i_in dead = record {
        firing = dead.firing;
        within = fires_down i dead.firing i_in dead.within;
        ungrounded = λ is. dead.ungrounded (grounded_up net pace own_pace pace_is i dead.firing i_in is);
        first = λ k a before less. own_grounded_down k a less
            (dead.first (number_of own k) a (net.own_is.actor_numbers.rising k i before i_in));
      }

      pub deadlock_down : (m : ℕ) → IsDeadlock edges pace all m
          → (i : ℕ) × (i < length own.actor_numbers) × (slice_index own.actor_numbers i ≡ m) × IsDeadlock own.edges own_pace counts i
      deadlock_down m dead =
          let w = fires_whole m dead.firing dead.within in
          (w.actor, w.inside, w.number, deadlock_own w.actor w.inside (subst (IsDeadlock edges pace all) (sym w.number) dead))

      pub noncausal_up : (m a : ℕ) → IsNoncausal own.edges own.actors own_pace counts m a → IsNoncausal edges actors pace all (number_of own m) a
      noncausal_up m a is = record {
        grounded = λ k b less. all_grounded_up (λ n. Unit {0}) (λ i c i_in meant c_in. is.grounded i c c_in) k b tt less;
        late = late_up m a is.late;
        first = λ k b before late. none_before k b (fires_whole k b late.within) before late;
        earliest = λ b before late. is.earliest b before (late_down m b m_in late);
      }
        where
          m_in : IsOwn own m
          m_in = fires_own m a is.late.within

          none_before : (k b : ℕ) → HasOwnActor own k → k < number_of own m → IsLate edges actors pace all k b → ⊥
          none_before k b w before late = is.first w.actor b (own_less w.actor m w.inside m_in (subst (λ n. n < number_of own m) (sym w.number) before))
              (late_down w.actor b w.inside (subst (λ n. IsLate edges actors pace all n b) (sym w.number) late))

      noncausal_own : (i a : ℕ) → IsOwn own i → IsNoncausal edges actors pace all (number_of own i) a → IsNoncausal own.edges own.actors own_pace counts i a
      noncausal_own i a i_in is = record {
        grounded = λ k b less. own_grounded_down k b less (is.grounded (number_of own k) b);
        late = late_down i a i_in is.late;
        first = λ k b before late. is.first (number_of own k) b (net.own_is.actor_numbers.rising k i before i_in) (late_up k b late);
        earliest = λ b before late. is.earliest b before (late_up i b late);
      }

      pub noncausal_down : (m a : ℕ) → IsNoncausal edges actors pace all m a
          → (i : ℕ) × (i < length own.actor_numbers) × (slice_index own.actor_numbers i ≡ m) × IsNoncausal own.edges own.actors own_pace counts i a
      noncausal_down m a is =
          let w = fires_whole m a is.late.within in
          (w.actor, w.inside, w.number, noncausal_own w.actor a w.inside (subst (λ n. IsNoncausal edges actors pace all n a) (sym w.number) is))
