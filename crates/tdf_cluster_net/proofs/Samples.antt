-- The samples of the own net are those of the whole net.
use Rattle.std.proofs.Common.{◌≡◌, ◌≢◌, ◌∙◌, ℕ, zero, suc, ◌+◌, ◌*◌, ◌<◌, ◌≤◌, ◌⊎◌, inl, inr, List, Some, None, length, take, cond, nat_eq, refl, sym, ap, subst, arith}
use Rattle.std.proofs.Math.ListN.{get_or}
use Rattle.std.proofs.lemmas.Bool.{cases_eq, cases_lt, eq-eqb}
use Rattle.std.proofs.lemmas.List.{take_all}
use Rattle.std.proofs.lemmas.List.Sums.{sum_by_more}
use Rattle.std.proofs.lemmas.Option.{slice_get_within, slice_get_cases, get_or_from_slice_get}
use Rattle.std.specs.List.{sum_by}
use Rattle.std.specs.Prelude.{slice_get}
use Rattle.tdf_cluster_net.specs.Laws.{IsClusterNet}
use Rattle.tdf_cluster_net.specs.Numbers.{AreNumbers, AreSpread}
use Rattle.tdf_cluster_net.specs.Own.{OwnOf, IsEdgeInCluster, IsPortInCluster, whole_edge, whole_port}
use Rattle.tdf_graph.specs.declared.actors.Actor.{Actor}
use Rattle.tdf_graph.specs.declared.actors.Edge.{Edge}
use Rattle.tdf_graph.specs.declared.actors.Port.{Port}
use Rattle.tdf_schedule.specs.Plan.{period_samples}

-- an element of a list within its length
element : {X : Type 0} (xs : List X) (i : ℕ) → i < length xs → (x : X) × (slice_get xs i ≡ Some x)
element {X} xs i within = go (slice_get_cases xs i).1
  where
    go : ((x : X) × (i < length xs) × (slice_get xs i ≡ Some x) × (get_or xs i x ≡ x)) ⊎ ((length xs ≤ i) × (slice_get xs i ≡ None)) → (x : X) × (slice_get xs i ≡ Some x)
    go (inl found) = (found.0, found.2)
    go (inr past) = absurd (let p = past.0 in omega (arith, p, within))

-- the sum of the things before n is that of those with the first numbers, which are below n
record IsSummed {X Y : Type 0} (f : X → ℕ) (g : Y → ℕ) (xs : List X) (ys : List Y) (numbers : List ℕ) (n : ℕ) : Type 0 where
  pub part : ℕ
  pub within : part ≤ length numbers
  pub before : (i : ℕ) → i < part → get_or numbers i 0 < n
  pub after : (i : ℕ) → part ≤ i → i < length numbers → n ≤ get_or numbers i 0
  pub same : sum_by f (take n xs) ≡ sum_by g (take part ys)

-- a sum over things of which those without a number weigh nothing
module _ (X Y : Type 0) (f : X → ℕ) (g : Y → ℕ) (xs : List X) (ys : List Y) (numbers : List ℕ) (count : ℕ) (IsMeant : ℕ → Type 0) (are : AreNumbers count IsMeant numbers)
    (long : length ys ≡ length numbers)
    (given : (k : ℕ) (y : Y) → slice_get ys k ≡ Some y → (x : X) × (slice_get xs (get_or numbers k 0) ≡ Some x) × (f x ≡ g y))
    (light : (n : ℕ) (x : X) → slice_get xs n ≡ Some x → ((k : ℕ) → k < length numbers → get_or numbers k 0 ≢ n) → f x ≡ 0) where
  abbrev Summed : ℕ → Type 0
  Summed n = IsSummed f g xs ys numbers n

  summed_none : Summed 0
  summed_none = record {
    part = 0;
    within = omega arith;
    before = λ i less. absurd (omega (arith, less));
    after = λ i most less. omega arith;
    same = refl;
  }

  module _ (n : ℕ) (here : n < length xs) (is : Summed n) where
    -- the next thing has the next number
    taken : is.part < length numbers → get_or numbers is.part 0 ≡ n → Summed (n + 1)
    taken more at = record {
      part = is.part + 1;
      within = omega (arith, more);
      before = λ i less. before i less (cases_eq i is.part);
      after = λ i most less. let r = are.rising is.part i (omega (arith, most)) less in omega (arith, r, at);
      same = same (element ys is.part (subst (λ l. is.part < l) (sym long) more));
    }
      where
        before : (i : ℕ) → i < is.part + 1 → (i ≡ is.part) ⊎ (i ≡ is.part → ⊥) → get_or numbers i 0 < n + 1
        before i less (inl e) = let a = ap (λ m. get_or numbers m 0) e in omega (arith, a, at)
        before i less (inr other) = let b = is.before i (omega (arith, less, other)) in omega (arith, b)

        same : (y : Y) × (slice_get ys is.part ≡ Some y) → sum_by f (take (n + 1) xs) ≡ sum_by g (take (is.part + 1) ys)
        same y = go (given is.part y.0 y.1)
          where
            go : (x : X) × (slice_get xs (get_or numbers is.part 0) ≡ Some x) × (f x ≡ g y.0) → sum_by f (take (n + 1) xs) ≡ sum_by g (take (is.part + 1) ys)
            go x =
                sum_by_more f xs n x.0 here
                ∙ ap (λ m. m + f (get_or xs n x.0)) is.same
                ∙ ap (λ (z : X). sum_by g (take is.part ys) + f z) (get_or_from_slice_get xs n x.0 x.0 (ap (slice_get xs) (sym at) ∙ x.1))
                ∙ ap (λ m. sum_by g (take is.part ys) + m) (x.2 ∙ ap g (sym (get_or_from_slice_get ys is.part y.0 y.0 y.1)))
                ∙ sym (sum_by_more g ys is.part y.0 (subst (λ l. is.part < l) (sym long) more))

    -- the next thing has no number
    left : ((k : ℕ) → k < length numbers → get_or numbers k 0 ≢ n) → Summed (n + 1)
    left none = record {
      part = is.part;
      within = is.within;
      before = λ i less. let b = is.before i less in omega (arith, b);
      after = λ i most less. let a = is.after i most less in let o = none i less in omega (arith, a, o);
      same = same (element xs n here);
    }
      where
        same : (x : X) × (slice_get xs n ≡ Some x) → sum_by f (take (n + 1) xs) ≡ sum_by g (take is.part ys)
        same x =
            sum_by_more f xs n x.0 here
            ∙ ap (λ m. m + f (get_or xs n x.0)) is.same
            ∙ ap (λ (z : X). sum_by g (take is.part ys) + f z) (get_or_from_slice_get xs n x.0 x.0 x.1)
            ∙ ap (λ m. sum_by g (take is.part ys) + m) (light n x.0 x.1 none)
            ∙ nothing (sum_by g (take is.part ys))
          where
            nothing : (m : ℕ) → m + 0 ≡ m
            nothing m = omega arith

    summed_more : Summed (n + 1)
    summed_more = go (cases_lt is.part (length numbers))
      where
        apart : is.part < length numbers → (get_or numbers is.part 0 ≡ n → ⊥) → (k : ℕ) → k < length numbers → (k < is.part) ⊎ (is.part ≤ k) → (k ≡ is.part) ⊎ (k ≡ is.part → ⊥) → get_or numbers k 0 ≢ n
        apart more other k k_in (inl low) q e = let b = is.before k low in omega (arith, b, e)
        apart more other k k_in (inr high) (inl same) e = other (ap (λ m. get_or numbers m 0) (sym same) ∙ e)
        apart more other k k_in (inr high) (inr later) e =
            let r = are.rising is.part k (omega (arith, high, later)) k_in in let a = is.after is.part (omega arith) more in omega (arith, r, a, e)

        by_number : is.part < length numbers → (get_or numbers is.part 0 ≡ n) ⊎ (get_or numbers is.part 0 ≡ n → ⊥) → Summed (n + 1)
        by_number more (inl at) = taken more at
        by_number more (inr other) = left (λ k k_in. apart more other k k_in (cases_lt k is.part) (cases_eq k is.part))

        go : (is.part < length numbers) ⊎ (length numbers ≤ is.part) → Summed (n + 1)
        go (inl more) = by_number more (cases_eq (get_or numbers is.part 0) n)
        go (inr past) = left (λ k k_in e. let b = is.before k (omega (arith, past, k_in)) in omega (arith, b, e))

  summed_to : (n : ℕ) → n ≤ length xs → Summed n
  summed_to zero most = summed_none
  summed_to (suc n) most = subst Summed (after n) (summed_more n (omega (arith, most)) (summed_to n (omega (arith, most))))
    where
      after : (m : ℕ) → m + 1 ≡ suc m
      after m = omega arith

  -- the number of a thing that is given is that of a thing of the whole list
  number_in : (k : ℕ) → k < length numbers → get_or numbers k 0 < length xs
  number_in k k_in = go (element ys k (subst (λ l. k < l) (sym long) k_in))
    where
      go : (y : Y) × (slice_get ys k ≡ Some y) → get_or numbers k 0 < length xs
      go y = let x = given k y.0 y.1 in slice_get_within xs (get_or numbers k 0) x.0 x.1

  pub sums_same : sum_by f xs ≡ sum_by g ys
  sums_same = go (summed_to (length xs) (omega arith))
    where
      go : Summed (length xs) → sum_by f xs ≡ sum_by g ys
      go is =
          ap (λ (l : List X). sum_by f l) (sym (take_all (length xs) xs (omega arith)))
          ∙ is.same
          ∙ ap (λ (l : List Y). sum_by g l) (take_all is.part ys (all (cases_lt is.part (length numbers))))
        where
          all : (is.part < length numbers) ⊎ (length numbers ≤ is.part) → length ys ≤ is.part
          all (inl more) = absurd (let a = is.after is.part (omega arith) more in let w = number_in is.part more in omega (arith, a, w))
          all (inr past) = subst (λ l. l ≤ is.part) (sym long) past

module _ (actors : List Actor) (edges : List Edge) (ports : List Port) (clusters : List ℕ) (cluster : ℕ) (own : OwnOf)
    (net : IsClusterNet actors edges ports clusters cluster own)
    (counts all : List ℕ) (spread : AreSpread own.actor_numbers (length actors) counts all) where
  abbrev waits : List ℕ → Edge → ℕ
  waits firings e = cond (nat_eq (get_or firings e.writer 0) 0) 0 e.initial

  abbrev passes : List ℕ → Port → ℕ
  passes firings p = get_or firings p.actor 0 * p.rate

  -- an actor that isn't the cluster's doesn't fire
  foreign : (m : ℕ) → (get_or clusters m 0 ≡ cluster → ⊥) → get_or all m 0 ≡ 0
  foreign m other = spread.elsewhere m (λ i i_in same. other (ap (λ n. get_or clusters n 0) (sym same) ∙ net.own_is.actor_numbers.meant i i_in))

  edge_sums : sum_by (waits all) edges ≡ sum_by (waits counts) own.edges
  edge_sums = sums_same Edge Edge (waits all) (waits counts) edges own.edges own.edge_numbers (length edges) (IsEdgeInCluster edges clusters cluster) net.own_is.edge_numbers net.own_is.edges_long
      (λ k e is. (
        whole_edge own.actor_numbers e,
        net.own_is.edges_are k e is,
        ap (λ n. cond {A = ℕ} (nat_eq n 0) 0 e.initial) (spread.at e.writer (net.own_is.writers k e is)),
      ))
      (λ n e is none. nothing e (foreign e.writer (λ inside.
      let found = net.own_is.edge_numbers.all n (slice_get_within edges n e is) (e, is, inside) in none found.0 found.1 found.2)))
    where
      nothing : (e : Edge) → get_or all e.writer 0 ≡ 0 → waits all e ≡ 0
      nothing e none = rw (eq-eqb (get_or all e.writer 0) 0 none) refl

  port_sums : sum_by (passes all) ports ≡ sum_by (passes counts) own.ports
  port_sums = sums_same Port Port (passes all) (passes counts) ports own.ports own.port_numbers (length ports) (IsPortInCluster ports clusters cluster) net.own_is.port_numbers net.own_is.ports_long
      (λ n p is. (
        whole_port own.actor_numbers p,
        net.own_is.ports_are n p is,
        ap (λ m. m * p.rate) (spread.at p.actor (net.own_is.port_actors n p is)),
      ))
      (λ n p is none. nothing p (foreign p.actor (λ inside.
      let found = net.own_is.port_numbers.all n (slice_get_within ports n p is) (p, is, inside) in none found.0 found.1 found.2)))
    where
      nothing : (p : Port) → get_or all p.actor 0 ≡ 0 → passes all p ≡ 0
      nothing p none = ap (λ m. m * p.rate) none ∙ omega arith

  pub samples_same : period_samples own.edges own.ports counts ≡ period_samples edges ports all
  samples_same = ap (λ n. n + sum_by (passes counts) own.ports) (sym edge_sums) ∙ ap (λ n. sum_by (waits all) edges + n) (sym port_sums)
