-- A plan of the own net, with the numbers of the whole net, is a plan of the cluster there.
use Rattle.std.proofs.Common.{◌≡◌, ◌∙◌, ℕ, zero, suc, ◌+◌, ◌<◌, ◌≤◌, ◌⊎◌, inl, inr, Bool, true, false, ◌&&◌, ◌||◌, Some, List, [], ◌∷◌, length, map, cond, nat_lt, nat_eq, refl, sym, ap, subst, arith}
use Rattle.std.proofs.Math.ListN.{get_or}
use Rattle.std.proofs.lemmas.Bool.{cases_eq, cases_lt, le-ltb, eq-eqb, ne_eqb}
use Rattle.std.proofs.lemmas.List.Elements.{All-map, recursion_from_All}
use Rattle.std.proofs.lemmas.List.Sums.{sum_by-cons, get_or-le-sum_by}
use Rattle.std.proofs.lemmas.Option.{none-some, same_Some, slice_get_within, get_or_from_slice_get}
use Rattle.std.specs.List.{AllByRecursion, count_by}
use Rattle.std.specs.Prelude.{slice_get, slice_index, All}
use Rattle.tdf_cluster_net.proofs.Bounds.{bound_up}
use Rattle.tdf_cluster_net.proofs.Edges.{HasOwnEdge, edge_down}
use Rattle.tdf_cluster_net.proofs.Faults.{HasOwnActor, actor_own, not_own, fires_own, fires_whole, fires_down}
use Rattle.tdf_cluster_net.proofs.Keys.{IsOwn, number_of, HasPace, key_up}
use Rattle.tdf_cluster_net.proofs.Ranks.{number_eq, number_lt}
use Rattle.tdf_cluster_net.specs.Laws.{IsClusterNet}
use Rattle.tdf_cluster_net.specs.Whole.{IsWholePlan}
use Rattle.tdf_cluster_net.specs.Numbers.{AreNumbers, AreSpread}
use Rattle.tdf_cluster_net.specs.Own.{OwnOf, IsActorInCluster, IsEdgeInCluster, whole_edge, whole_entry}
use Rattle.tdf_graph.specs.declared.actors.Actor.{Actor}
use Rattle.tdf_graph.specs.declared.actors.Edge.{Edge}
use Rattle.tdf_graph.specs.declared.actors.Port.{Port}
use Rattle.tdf_schedule.specs.Needs.{HasKey}
use Rattle.tdf_schedule.specs.Plan.{is_firing, is_earlier, key_in, IsPlan, IsBound, HasPlan}
use Rattle.tdf_schedule.specs.declared.entry.Entry.{Entry}
use Rattle.tdf_schedule.specs.declared.entry.Plan.{Plan}

-- counts of a list whose members are changed
module _ {X : Type 0} where
  one_at : (p : X → Bool) (xs : List X) (k : ℕ) (d : X) → k < length xs → p (get_or xs k d) ≡ true → 1 ≤ count_by p xs
  one_at p xs k d k_in met =
      let l : cond {A = ℕ} (p (get_or xs k d)) 1 0 ≤ count_by p xs = get_or-le-sum_by (λ x. cond {A = ℕ} (p x) 1 0) xs k d k_in in
      let c : cond {A = ℕ} (p (get_or xs k d)) 1 0 ≡ 1 = ap (λ b. cond {A = ℕ} b 1 0) met in
      omega (arith, l, c)

  count_map : (P : X → Type 0) (f : X → X) (p q : X → Bool) → ((x : X) → P x → p (f x) ≡ q x)
      → (xs : List X) → AllByRecursion P xs → count_by p (map f xs) ≡ count_by q xs
  count_map P f p q same [] are = refl
  count_map P f p q same (x ∷ xs) are =
      let one : count_by p (map f (x ∷ xs)) ≡ cond {A = ℕ} (p (f x)) 1 0 + count_by p (map f xs) = sum_by-cons (λ y. cond {A = ℕ} (p y) 1 0) (f x) (map f xs) in
      let two : count_by q (x ∷ xs) ≡ cond {A = ℕ} (q x) 1 0 + count_by q xs = sum_by-cons (λ y. cond {A = ℕ} (q y) 1 0) x xs in
      let here : cond {A = ℕ} (p (f x)) 1 0 ≡ cond {A = ℕ} (q x) 1 0 = ap (λ b. cond {A = ℕ} b 1 0) (same x are.0) in
      let rest : count_by p (map f xs) ≡ count_by q xs = count_map P f p q same xs are.1 in
      omega (arith, one, two, here, rest)

  count_none : (xs : List X) → count_by (λ x. false) xs ≡ 0
  count_none [] = refl
  count_none (x ∷ xs) =
      let one : count_by {X = X} (λ y. false) (x ∷ xs) ≡ 0 + count_by {X = X} (λ y. false) xs = sum_by-cons (λ y. 0) x xs in
      let rest = count_none xs in
      omega (arith, one, rest)

  map_get : (f : X → X) (xs : List X) (k : ℕ) (y : X) → slice_get (map f xs) k ≡ Some y → (x : X) × (slice_get xs k ≡ Some x) × (f x ≡ y)
  map_get f [] k y is = absurd (none-some y is)
  map_get f (x ∷ xs) zero y is = (x, refl, same_Some (f x) y is)
  map_get f (x ∷ xs) (suc k) y is = map_get f xs k y is

-- entries with the numbers of the whole net are in the same order
module _ (numbers : List ℕ) (count : ℕ) (IsMeant : ℕ → Type 0) (are : AreNumbers count IsMeant numbers) where
  -- whether actors are in order and the same decides which entry is earlier
  abbrev by_actors : (x y : Entry) → (less same : Bool) → Bool
  by_actors x y less same = nat_lt x.offset y.offset || (nat_eq x.offset y.offset
      && (nat_lt x.level y.level || (nat_eq x.level y.level && (less || (same && nat_lt x.index y.index)))))

  earlier_same : (x y : Entry) → x.actor < length numbers → y.actor < length numbers
      → is_earlier (whole_entry numbers x) (whole_entry numbers y) ≡ is_earlier x y
  earlier_same x y x_in y_in =
      ap (λ b. by_actors x y b (nat_eq (slice_index numbers x.actor) (slice_index numbers y.actor))) (number_lt numbers count IsMeant are x.actor y.actor x_in y_in)
      ∙ ap (by_actors x y (nat_lt x.actor y.actor)) (number_eq numbers count IsMeant are x.actor y.actor x_in y_in)

  firing_same : (i a : ℕ) (x : Entry) → i < length numbers → x.actor < length numbers
      → is_firing (slice_index numbers i) a (whole_entry numbers x) ≡ is_firing i a x
  firing_same i a x i_in x_in = ap (λ b. b && nat_eq x.index a) (number_eq numbers count IsMeant are x.actor i x_in i_in)

  firing_other : (m a : ℕ) (x : Entry) → ((i : ℕ) → i < length numbers → slice_index numbers i ≡ m → ⊥) → x.actor < length numbers
      → is_firing m a (whole_entry numbers x) ≡ false
  firing_other m a x other x_in = ap (λ b. b && nat_eq x.index a) (ne_eqb (slice_index numbers x.actor) m (other x.actor x_in))

  sorted_up : (entries : List Entry) → ((k : ℕ) (x : Entry) → slice_get entries k ≡ Some x → x.actor < length numbers)
      → ((i j : ℕ) (x y : Entry) → i < j → slice_get entries i ≡ Some x → slice_get entries j ≡ Some y → is_earlier y x ≡ false)
      → (i j : ℕ) (x y : Entry) → i < j → slice_get (map (whole_entry numbers) entries) i ≡ Some x → slice_get (map (whole_entry numbers) entries) j ≡ Some y
      → is_earlier y x ≡ false
  sorted_up entries own sorted i j x y less x_is y_is =
      let a = map_get (whole_entry numbers) entries i x x_is in
      let b = map_get (whole_entry numbers) entries j y y_is in
      subst (λ (z : Entry). is_earlier y z ≡ false) a.2 (subst (λ (z : Entry). is_earlier z (whole_entry numbers a.0) ≡ false) b.2
      (earlier_same b.0 a.0 (own j b.0 b.1) (own i a.0 a.1) ∙ sorted i j a.0 b.0 less a.1 b.1))

firing_itself : (x : Entry) → is_firing x.actor x.index x ≡ true
firing_itself x = rw (eq-eqb x.actor x.actor refl, eq-eqb x.index x.index refl) refl

module _ {actors : List Actor} {edges : List Edge} {ports : List Port} {clusters : List ℕ} {cluster : ℕ} {own : OwnOf}
    (net : IsClusterNet actors edges ports clusters cluster own)
    (counts all : List ℕ) (long : length counts ≡ length own.actor_numbers) (spread : AreSpread own.actor_numbers (length actors) counts all)
    (pace own_pace : ℕ → ℕ) (pace_is : HasPace own pace own_pace) where
  module _ (entries : List Entry) (planned : IsPlan own.edges own_pace counts entries) where
    pub entries_own : All (λ (x : Entry). IsOwn own x.actor) entries
    entries_own k d k_in = go (get_or entries k d) refl
      where
        go : (x : Entry) → get_or entries k d ≡ x → IsOwn own x.actor
        go x is = by_count (cases_lt x.index (slice_index counts x.actor))
          where
            some : 1 ≤ count_by (is_firing x.actor x.index) entries
            some = one_at (is_firing x.actor x.index) entries k d k_in (ap (is_firing x.actor x.index) is ∙ firing_itself x)

            by_count : (x.index < slice_index counts x.actor) ⊎ (slice_index counts x.actor ≤ x.index) → IsOwn own x.actor
            by_count (inl less) = fires_own net counts all long spread x.actor x.index less
            by_count (inr past) = absurd (
                let c = planned.complete x.actor x.index in
                let n : cond {A = ℕ} (nat_lt x.index (slice_index counts x.actor)) 1 0 ≡ 0 = ap (λ b. cond {A = ℕ} b 1 0) (le-ltb x.index (slice_index counts x.actor) past) in
                omega (arith, c, n, some))

    own_at : (k : ℕ) (x : Entry) → slice_get entries k ≡ Some x → IsOwn own x.actor
    own_at k x is = subst (λ (z : Entry). IsOwn own z.actor) (get_or_from_slice_get entries k x x is) (entries_own k x (slice_get_within entries k x is))

    complete_own : (i a : ℕ) → IsOwn own i → count_by (is_firing (number_of own i) a) (map (whole_entry own.actor_numbers) entries)
        ≡ cond {A = ℕ} (nat_lt a (slice_index all (number_of own i))) 1 0
    complete_own i a i_in =
        count_map (λ (x : Entry). IsOwn own x.actor) (whole_entry own.actor_numbers) (is_firing (number_of own i) a) (is_firing i a)
        (λ x x_in. firing_same own.actor_numbers (length actors) (IsActorInCluster clusters cluster) net.own_is.actor_numbers i a x i_in x_in)
        entries (recursion_from_All (λ (x : Entry). IsOwn own x.actor) entries entries_own)
        ∙ planned.complete i a ∙ ap (λ n. cond {A = ℕ} (nat_lt a n) 1 0) (sym (spread.at i i_in))

    complete_other : (m a : ℕ) → ((i : ℕ) → IsOwn own i → number_of own i ≡ m → ⊥) → count_by (is_firing m a) (map (whole_entry own.actor_numbers) entries)
        ≡ cond {A = ℕ} (nat_lt a (slice_index all m)) 1 0
    complete_other m a other =
        count_map (λ (x : Entry). IsOwn own x.actor) (whole_entry own.actor_numbers) (is_firing m a) (λ x. false)
        (λ x x_in. firing_other own.actor_numbers (length actors) (IsActorInCluster clusters cluster) net.own_is.actor_numbers m a x other x_in)
        entries (recursion_from_All (λ (x : Entry). IsOwn own x.actor) entries entries_own)
        ∙ count_none entries
        ∙ sym (ap (λ n. cond {A = ℕ} (nat_lt a n) 1 0) (spread.elsewhere m other) ∙ ap (λ b. cond {A = ℕ} b 1 0) (le-ltb a 0 (omega arith)))

    complete_up : (m a : ℕ) → count_by (is_firing m a) (map (whole_entry own.actor_numbers) entries) ≡ cond {A = ℕ} (nat_lt a (slice_index all m)) 1 0
    complete_up m a = go (cases_lt a (slice_index all m)) (cases_lt m (length actors)) (cases_eq (slice_index clusters m) cluster)
      where
        from_own : HasOwnActor own m → count_by (is_firing m a) (map (whole_entry own.actor_numbers) entries) ≡ cond {A = ℕ} (nat_lt a (slice_index all m)) 1 0
        from_own w = subst (λ k. count_by (is_firing k a) (map (whole_entry own.actor_numbers) entries) ≡ cond {A = ℕ} (nat_lt a (slice_index all k)) 1 0) w.number
            (complete_own w.actor a w.inside)

        past_all : length actors ≤ m → (i : ℕ) → IsOwn own i → number_of own i ≡ m → ⊥
        past_all past i i_in is = let w = net.own_is.actor_numbers.within i i_in in omega (arith, w, is, past)

        go : (a < slice_index all m) ⊎ (slice_index all m ≤ a) → (m < length actors) ⊎ (length actors ≤ m) → (slice_index clusters m ≡ cluster) ⊎ (slice_index clusters m ≡ cluster → ⊥)
            → count_by (is_firing m a) (map (whole_entry own.actor_numbers) entries) ≡ cond {A = ℕ} (nat_lt a (slice_index all m)) 1 0
        go (inl less) second third = from_own (fires_whole net counts all long spread m a less)
        go (inr high) (inl here) (inl same) = from_own (actor_own net m here same)
        go (inr high) (inl here) (inr other) = complete_other m a (not_own net m other)
        go (inr high) (inr past) third = complete_other m a (past_all past)

    pub plan_up : IsPlan edges pace all (map (whole_entry own.actor_numbers) entries)
    plan_up = record {
      complete = complete_up;
      keys = All-map (λ (x : Entry). HasKey edges pace x.actor x.index (key_in x)) (whole_entry own.actor_numbers) entries
          (λ k d k_in. key_up net pace own_pace pace_is _ _ _ (entries_own k d k_in) (planned.keys k d k_in));
      sorted = sorted_up own.actor_numbers (length actors) (IsActorInCluster clusters cluster) net.own_is.actor_numbers entries own_at planned.sorted;
    }

  module _ (period : ℕ) (plan whole : Plan) (has : HasPlan own.edges own_pace counts period plan) (are : IsWholePlan own (length edges) plan whole) where
    bound_at : (k : ℕ) (e : Edge) (d : HasOwnEdge own k e) → slice_index whole.bounds.items k ≡ slice_index plan.bounds.items d.place
    bound_at k e d = ap (slice_index whole.bounds.items) (sym d.number) ∙ are.bounds.at d.place (subst (λ n. d.place < n) net.own_is.edges_long (slice_get_within own.edges d.place d.edge d.is))

    bounded_own : (k : ℕ) (e : Edge) (d : HasOwnEdge own k e) → 0 < slice_index all e.writer → IsBound whole.entries.items e (slice_index whole.bounds.items k)
    bounded_own k e d some =
        subst (λ n. IsBound whole.entries.items e n) (sym (bound_at k e d))
        (subst (λ (z : Edge). IsBound whole.entries.items z (slice_index plan.bounds.items d.place)) d.same
        (subst (λ (es : List Entry). IsBound es (whole_edge own.actor_numbers d.edge) (slice_index plan.bounds.items d.place)) (sym are.entries)
        (bound_up own.actor_numbers (length actors) (IsActorInCluster clusters cluster) net.own_is.actor_numbers plan.entries.items d.edge
        (slice_index plan.bounds.items d.place) (entries_own plan.entries.items has.planned)
        (net.own_is.writers d.place d.edge d.is) (net.own_is.readers d.place d.edge d.is)
        (has.bounded d.place d.edge d.is (fires_down net counts all long spread d.edge.writer 0 (net.own_is.writers d.place d.edge d.is)
        (subst (λ (z : Edge). 0 < slice_index all z.writer) (sym d.same) some))))))

    inside_by : (k : ℕ) (e : Edge) → HasOwnActor own e.writer → slice_index clusters e.writer ≡ cluster
    inside_by k e w = ap (slice_index clusters) (sym w.number) ∙ net.own_is.actor_numbers.meant w.actor w.inside

    outside_own : (k : ℕ) (e : Edge) (d : HasOwnEdge own k e) → slice_index all e.writer ≡ 0 → slice_index whole.bounds.items k ≡ 0
    outside_own k e d none = bound_at k e d ∙ has.outside d.place d.edge d.is
        (sym (spread.at d.edge.writer (net.own_is.writers d.place d.edge d.is)) ∙ ap (λ (z : Edge). slice_index all z.writer) d.same ∙ none)

    not_inside : (k : ℕ) (e : Edge) → slice_get edges k ≡ Some e → (slice_index clusters e.writer ≡ cluster → ⊥)
        → (i : ℕ) → i < length own.edge_numbers → slice_index own.edge_numbers i ≡ k → ⊥
    not_inside k e is other i i_in number =
        let meant : IsEdgeInCluster edges clusters cluster (slice_index own.edge_numbers i) = net.own_is.edge_numbers.meant i i_in in
        let same = same_Some meant.0 e (sym meant.1 ∙ ap (slice_get edges) number ∙ is) in
        other (ap (λ (z : Edge). slice_index clusters z.writer) (sym same) ∙ meant.2)

    outside_up : (k : ℕ) (e : Edge) → slice_get edges k ≡ Some e → slice_index all e.writer ≡ 0 → slice_index whole.bounds.items k ≡ 0
    outside_up k e is none = go (cases_eq (slice_index clusters e.writer) cluster)
      where
        go : (slice_index clusters e.writer ≡ cluster) ⊎ (slice_index clusters e.writer ≡ cluster → ⊥) → slice_index whole.bounds.items k ≡ 0
        go (inl same) = outside_own k e (edge_down net k e is same) none
        go (inr other) = are.bounds.elsewhere k (not_inside k e is other)

    pub whole_plan : HasPlan edges pace all period whole
    whole_plan = record {
      planned = subst (λ (es : List Entry). IsPlan edges pace all es) (sym are.entries) (plan_up plan.entries.items has.planned);
      long = are.bounds.long;
      bounded = λ k e is some. bounded_own k e (edge_down net k e is (inside_by k e (fires_whole net counts all long spread e.writer 0 some))) some;
      outside = outside_up;
      same = are.period ∙ has.same;
    }
