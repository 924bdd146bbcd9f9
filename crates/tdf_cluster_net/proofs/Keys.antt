-- What a firing of an own actor needs, and its key, are those of the firing in the whole net.
use Rattle.std.proofs.Common.{◌≡◌, ◌∙◌, ℕ, zero, suc, ◌+◌, ◌-◌, ◌*◌, ◌/◌, ◌<◌, ◌≤◌, inl, inr, List, length, refl, sym, ap, subst}
use Rattle.std.specs.Prelude.{slice_index, Contains}
use Rattle.tdf_cluster_net.proofs.Edges.{at_contains, contains_at, number_once, one_cluster, HasOwnEdge, edge_down, edge_up}
use Rattle.tdf_cluster_net.specs.Laws.{IsClusterNet}
use Rattle.tdf_cluster_net.specs.Own.{OwnOf, IsActorInCluster, whole_edge}
use Rattle.tdf_graph.specs.declared.actors.Actor.{Actor}
use Rattle.tdf_graph.specs.declared.actors.Edge.{Edge}
use Rattle.tdf_graph.specs.declared.actors.Port.{Port}
use Rattle.tdf_schedule.specs.Needs.{Takes, Needs, Within, IsGrounded, HasKey}
use Rattle.tdf_schedule.specs.declared.key.Key.{Key}

-- the number that an own actor has in the whole net
abbrev pub IsOwn : OwnOf → ℕ → Type 0
IsOwn own m = m < length own.actor_numbers

abbrev pub number_of : OwnOf → ℕ → ℕ
number_of own m = slice_index own.actor_numbers m

abbrev pub HasPace : OwnOf → (pace own_pace : ℕ → ℕ) → Type 0
HasPace own pace own_pace = (i : ℕ) → IsOwn own i → own_pace i ≡ pace (number_of own i)

-- what of a firing with number m in the own net stands for a need in the whole net
pub record HasOwnTake (own : OwnOf) (m a n b : ℕ) : Type 0 where
  pub actor : ℕ
  pub inside : IsOwn own actor
  pub number : number_of own actor ≡ n
  pub takes : Takes own.edges m a actor b

pub record HasOwnNeed (own : OwnOf) (m a n b : ℕ) : Type 0 where
  pub actor : ℕ
  pub inside : IsOwn own actor
  pub number : number_of own actor ≡ n
  pub needs : Needs own.edges m a actor b

module _ {actors : List Actor} {edges : List Edge} {ports : List Port} {clusters : List ℕ} {cluster : ℕ} {own : OwnOf}
    (net : IsClusterNet actors edges ports clusters cluster own) where
  pub own_in : (m : ℕ) → IsOwn own m → slice_index clusters (number_of own m) ≡ cluster
  own_in m m_in = net.own_is.actor_numbers.meant m m_in

  pub takes_up : (m a n b : ℕ) → Takes own.edges m a n b
      → Takes edges (number_of own m) a (number_of own n) b
  takes_up m a n b takes = record {
    edge = whole_edge own.actor_numbers takes.edge;
    there = edge_up net takes.edge takes.there;
    reads = ap (number_of own) takes.reads;
    writes = ap (number_of own) takes.writes;
    place = takes.place;
    low = takes.low;
    high = takes.high;
    late = takes.late;
    made = takes.made;
  }

  take_from : (m a n b : ℕ) → IsOwn own m → (takes : Takes edges (number_of own m) a n b)
      → (k : ℕ) → HasOwnEdge own k takes.edge → HasOwnTake own m a n b
  take_from m a n b m_in takes k down = record {
    actor = down.edge.writer;
    inside = net.own_is.writers down.place down.edge down.is;
    number = ap (λ (e : Edge). e.writer) down.same ∙ takes.writes;
    takes = record {
      edge = down.edge;
      there = at_own;
      reads = number_once own.actor_numbers (length actors) (IsActorInCluster clusters cluster) net.own_is.actor_numbers
          down.edge.reader m (net.own_is.readers down.place down.edge down.is) m_in (ap (λ (e : Edge). e.reader) down.same ∙ takes.reads);
      writes = refl;
      place = takes.place;
      low = subst (λ (e : Edge). a * e.read_rate ≤ takes.place) (sym down.same) takes.low;
      high = subst (λ (e : Edge). takes.place < a * e.read_rate + e.read_rate) (sym down.same) takes.high;
      late = subst (λ (e : Edge). e.initial ≤ takes.place) (sym down.same) takes.late;
      made = subst (λ (e : Edge). b ≡ (takes.place - e.initial) / e.write_rate) (sym down.same) takes.made;
    };
  }
    where
      at_own : Contains own.edges down.edge
      at_own = at_contains own.edges down.place down.edge down.is

  pub takes_down : (m a n b : ℕ) → IsOwn own m → Takes edges (number_of own m) a n b → HasOwnTake own m a n b
  takes_down m a n b m_in takes =
      let at = contains_at edges takes.edge takes.there in
      take_from m a n b m_in takes at.0 (edge_down net at.0 takes.edge at.1
      (one_cluster net takes.edge takes.there ∙ ap (slice_index clusters) takes.reads ∙ own_in m m_in))

  pub needs_up : (m a n b : ℕ) → Needs own.edges m a n b → Needs edges (number_of own m) a (number_of own n) b
  needs_up m a n b (inl before) = inl (ap (number_of own) before.0, before.1)
  needs_up m a n b (inr takes) = inr (takes_up m a n b takes)

  pub needs_down : (m a n b : ℕ) → IsOwn own m → Needs edges (number_of own m) a n b → HasOwnNeed own m a n b
  needs_down m a n b m_in (inl before) = record { actor = m; inside = m_in; number = sym before.0; needs = inl (refl, before.1) }
  needs_down m a n b m_in (inr takes) =
      let down = takes_down m a n b m_in takes in
      record { actor = down.actor; inside = down.inside; number = down.number; needs = inr down.takes }

  -- what an own actor needs is own
  pub needs_own : (m a n b : ℕ) → IsOwn own m → Needs own.edges m a n b → IsOwn own n
  needs_own m a n b m_in (inl before) = subst (IsOwn own) (sym before.0) m_in
  needs_own m a n b m_in (inr takes) =
      let at = contains_at own.edges takes.edge takes.there in
      subst (IsOwn own) takes.writes (net.own_is.writers at.0 takes.edge at.1)

  module _ (pace own_pace : ℕ → ℕ) (pace_is : HasPace own pace own_pace) where
    pub within_up : (f o m a : ℕ) → IsOwn own m → Within own.edges own_pace f o m a
        → Within edges pace f o (number_of own m) a
    unfolding Within
    within_up zero o m a m_in is = is
    within_up (suc f) o m a m_in is = (
      subst (λ p. a * p ≤ o) (pace_is m m_in) is.0,
      λ n b needs.
          (let down = needs_down m a n b m_in needs in
          subst (λ k. Within edges pace f o k b) down.number (within_up f o down.actor b down.inside (is.1 down.actor b down.needs))),
    )

    pub within_down : (f o m a : ℕ) → IsOwn own m → Within edges pace f o (number_of own m) a
        → Within own.edges own_pace f o m a
    unfolding Within
    within_down zero o m a m_in is = is
    within_down (suc f) o m a m_in is = (
      subst (λ p. a * p ≤ o) (sym (pace_is m m_in)) is.0,
      λ n b needs. within_down f o n b (needs_own m a n b m_in needs) (is.1 (number_of own n) b (needs_up m a n b needs)),
    )

    pub grounded_up : (m a : ℕ) → IsOwn own m → IsGrounded own.edges own_pace m a → IsGrounded edges pace (number_of own m) a
    grounded_up m a m_in is = (is.0, is.1, within_up is.0 is.1 m a m_in is.2)

    pub grounded_down : (m a : ℕ) → IsOwn own m → IsGrounded edges pace (number_of own m) a → IsGrounded own.edges own_pace m a
    grounded_down m a m_in is = (is.0, is.1, within_down is.0 is.1 m a m_in is.2)

    pub key_up : (m a : ℕ) (key : Key) → IsOwn own m → HasKey own.edges own_pace m a key → HasKey edges pace (number_of own m) a key
    key_up m a key m_in has = record {
      within = within_up key.level key.offset m a m_in has.within;
      least = λ f o is. has.least f o (within_down f o m a m_in is);
    }

    pub key_down : (m a : ℕ) (key : Key) → IsOwn own m → HasKey edges pace (number_of own m) a key → HasKey own.edges own_pace m a key
    key_down m a key m_in has = record {
      within = within_down key.level key.offset m a m_in has.within;
      least = λ f o is. has.least f o (within_up f o m a m_in is);
    }
