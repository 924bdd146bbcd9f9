-- Chains, solutions and faults of edges by the numbers of a cluster, and by those of the whole net.
use Rattle.std.proofs.Common.{◌≡◌, ◌≢◌, ◌∙◌, ℕ, ◌*◌, ◌<◌, ◌≤◌, ◌⊎◌, inl, inr, List, [], length, refl, sym, ap, subst, arith}
use Rattle.std.proofs.lemmas.Bool.{cases_lt}
use Rattle.std.proofs.lemmas.Nat.Gcd.{dvd_refl}
use Rattle.std.specs.Int.{◌∣◌}
use Rattle.std.specs.Prelude.{slice_index, Contains}
use Rattle.tdf_balance.specs.Balance.{IsUnsolvable, IsTooLarge, IsBad}
use Rattle.tdf_base.specs.Limits.{most_firings}
use Rattle.tdf_cluster_net.proofs.Spread.{IsOnce, StandsOrNot, stands_or_not, extended, extended_at, extended_some}
use Rattle.tdf_cluster_net.specs.Own.{whole_edge}
use Rattle.tdf_graph.specs.Clusters.{Joined, stays, goes, comes}
use Rattle.tdf_graph.specs.Counts.{IsBalanced, Solves, IsLeast}
use Rattle.tdf_graph.specs.declared.actors.Edge.{Edge}

-- an actor with no edge is joined with itself alone
module _ (edges : List Edge) (m : ℕ) (not_writer : (e : Edge) → Contains edges e → e.writer ≢ m) (not_reader : (e : Edge) → Contains edges e → e.reader ≢ m) where
  alone : {a b : ℕ} → Joined edges a b → a ≡ m → b ≡ m
  alone (stays a) is = is
  alone (goes e there rest) is = absurd (not_writer e there is)
  alone (comes e there rest) is = absurd (not_reader e there is)

  alone_one : (counts : ℕ → ℕ) → IsLeast edges m counts → counts m ≡ 1
  alone_one counts least = least.least (counts m) (λ a chain. subst (λ n. counts m ∣ counts n) (sym (alone chain refl)) (dvd_refl (counts m)))

  pub alone_small : (counts : ℕ → ℕ) → IsLeast edges m counts → most_firings < counts m → ⊥
  alone_small counts least above = let one = alone_one counts least in omega (arith, one, above)

pub none_bad : IsBad [] → ⊥
none_bad (inl unsolvable) = unsolvable (λ a. 1) (record { positive = λ a. omega arith; balanced = λ e there. absurd (none e there) })
  where
    none : (e : Edge) → Contains [] e → ⊥
    none e there = let less = there.1 in omega (arith, less)
none_bad (inr large) = alone_small [] large.actor (λ e there is. none e there) (λ e there is. none e there) large.counts large.least large.above
  where
    none : (e : Edge) → Contains [] e → ⊥
    none e there = let less = there.1 in omega (arith, less)

-- the own edge of which an edge is made
pub record IsOfOwn (numbers : List ℕ) (own : List Edge) (e : Edge) : Type 0 where
  pub edge : Edge
  pub there : Contains own edge
  pub same : whole_edge numbers edge ≡ e

pub record AreWithin (numbers : List ℕ) (own : List Edge) : Type 0 where
  pub writers : (e : Edge) → Contains own e → e.writer < length numbers
  pub readers : (e : Edge) → Contains own e → e.reader < length numbers

-- a chain leads over own edges as far as it begins at an own actor
module _ (numbers : List ℕ) (own edges : List Edge) (once : IsOnce numbers) (within : AreWithin numbers own)
    (down : (e : Edge) → Contains edges e → (i : ℕ) → i < length numbers → (slice_index numbers i ≡ e.writer) ⊎ (slice_index numbers i ≡ e.reader) → IsOfOwn numbers own e) where
  abbrev EndsAt : (i y : ℕ) → Type 0
  EndsAt i y = (a : ℕ) × (a < length numbers) × (slice_index numbers a ≡ y) × Joined own i a

  over_writer : (e : Edge) (y i : ℕ) → i < length numbers → slice_index numbers i ≡ e.writer → (of : IsOfOwn numbers own e) → EndsAt of.edge.reader y → EndsAt i y
  over_writer e y i i_in is of rest = (rest.0, rest.1, rest.2, subst (λ n. Joined own n rest.0) same (goes of.edge of.there rest.3))
    where
      same : of.edge.writer ≡ i
      same = once of.edge.writer i (within.writers of.edge of.there) i_in (ap (λ (x : Edge). x.writer) of.same ∙ sym is)

  over_reader : (e : Edge) (y i : ℕ) → i < length numbers → slice_index numbers i ≡ e.reader → (of : IsOfOwn numbers own e) → EndsAt of.edge.writer y → EndsAt i y
  over_reader e y i i_in is of rest = (rest.0, rest.1, rest.2, subst (λ n. Joined own n rest.0) same (comes of.edge of.there rest.3))
    where
      same : of.edge.reader ≡ i
      same = once of.edge.reader i (within.readers of.edge of.there) i_in (ap (λ (x : Edge). x.reader) of.same ∙ sym is)

  pub joined_down : {x y : ℕ} → Joined edges x y → (i : ℕ) → i < length numbers → slice_index numbers i ≡ x → EndsAt i y
  joined_down (stays x) i i_in is = (i, i_in, is, stays i)
  joined_down {y = y} (goes e there rest) i i_in is =
      let of = down e there i i_in (inl is) in
      over_writer e y i i_in is of (joined_down rest of.edge.reader (within.readers of.edge of.there) (ap (λ (x : Edge). x.reader) of.same))
  joined_down {y = y} (comes e there rest) i i_in is =
      let of = down e there i i_in (inr is) in
      over_reader e y i i_in is of (joined_down rest of.edge.writer (within.writers of.edge of.there) (ap (λ (x : Edge). x.writer) of.same))

-- edges that are just those made of some own edges
pub record AreOwnEdges (numbers : List ℕ) (own edges : List Edge) : Type 0 where
  pub once : IsOnce numbers
  pub within : AreWithin numbers own
  pub up : (e : Edge) → Contains own e → Contains edges (whole_edge numbers e)
  pub down : (e : Edge) → Contains edges e → IsOfOwn numbers own e

module _ (numbers : List ℕ) (own edges : List Edge) (are : AreOwnEdges numbers own edges) where
  joined_up : {a b : ℕ} → Joined own a b → Joined edges (slice_index numbers a) (slice_index numbers b)
  joined_up (stays a) = stays (slice_index numbers a)
  joined_up (goes e there rest) = goes (whole_edge numbers e) (are.up e there) (joined_up rest)
  joined_up (comes e there rest) = comes (whole_edge numbers e) (are.up e there) (joined_up rest)

  solves_down : (p : ℕ → ℕ) → Solves edges p → Solves own (λ i. p (slice_index numbers i))
  solves_down p solves = record {
    positive = λ i. solves.positive (slice_index numbers i);
    balanced = λ e there. solves.balanced (whole_edge numbers e) (are.up e there);
  }

  balanced_up : (p : ℕ → ℕ) → Solves own p → (d : Edge) → Contains own d → IsBalanced (extended numbers p 1) (whole_edge numbers d)
  balanced_up p solves d there =
      ap (λ n. n * d.write_rate) (extended_at numbers p 1 d.writer are.once (are.within.writers d there))
      ∙ solves.balanced d there
      ∙ sym (ap (λ n. n * d.read_rate) (extended_at numbers p 1 d.reader are.once (are.within.readers d there)))

  solves_up : (p : ℕ → ℕ) → Solves own p → Solves edges (extended numbers p 1)
  solves_up p solves = record {
    positive = λ m. extended_some numbers p 1 m solves.positive (omega arith);
    balanced = λ e there. (let of = are.down e there in
        subst (IsBalanced (extended numbers p 1)) of.same (balanced_up p solves of.edge of.there));
  }

  least_up : (p : ℕ → ℕ) (i : ℕ) → i < length numbers → IsLeast own i p → IsLeast edges (slice_index numbers i) (extended numbers p 1)
  least_up p i i_in least = record {
    solves = solves_up p least.solves;
    least = λ d each. least.least d (λ a chain. subst (λ n. d ∣ n) (at d a chain) (each (slice_index numbers a) (joined_up chain)));
  }
    where
      ends : {x y : ℕ} → Joined own x y → x < length numbers → y < length numbers
      ends (stays x) x_in = x_in
      ends (goes e there rest) x_in = ends rest (are.within.readers e there)
      ends (comes e there rest) x_in = ends rest (are.within.writers e there)

      at : (d a : ℕ) → Joined own i a → extended numbers p 1 (slice_index numbers a) ≡ p a
      at d a chain = extended_at numbers p 1 a are.once (ends chain i_in)

  least_down : (p : ℕ → ℕ) (i : ℕ) → i < length numbers → IsLeast edges (slice_index numbers i) p → IsLeast own i (λ k. p (slice_index numbers k))
  least_down p i i_in least = record {
    solves = solves_down p least.solves;
    least = λ d each. least.least d (λ m chain. at d each m (joined_down numbers own edges are.once are.within (λ e there k k_in is. are.down e there) chain i i_in refl));
  }
    where
      at : (d : ℕ) → ((a : ℕ) → Joined own i a → d ∣ p (slice_index numbers a)) → (m : ℕ)
          → (a : ℕ) × (a < length numbers) × (slice_index numbers a ≡ m) × Joined own i a → d ∣ p m
      at d each m found = subst (λ n. d ∣ p n) found.2 (each found.0 found.3)

  pub unsolvable_up : IsUnsolvable own → IsUnsolvable edges
  unsolvable_up not p solves = not (λ i. p (slice_index numbers i)) (solves_down p solves)

  unsolvable_down : IsUnsolvable edges → IsUnsolvable own
  unsolvable_down not p solves = not (extended numbers p 1) (solves_up p solves)

  pub large_up : IsTooLarge own → IsTooLarge edges
  large_up large = go (cases_lt large.actor (length numbers))
    where
      go : (large.actor < length numbers) ⊎ (length numbers ≤ large.actor) → IsTooLarge edges
      go (inl inside) = record {
        actor = slice_index numbers large.actor;
        counts = extended numbers large.counts 1;
        least = least_up large.counts large.actor inside large.least;
        above = subst (λ n. most_firings < n) (sym (extended_at numbers large.counts 1 large.actor are.once inside)) large.above;
      }
      go (inr past) = absurd (alone_small own large.actor
          (λ e there is. let less = are.within.writers e there in omega (arith, less, is, past))
          (λ e there is. let less = are.within.readers e there in omega (arith, less, is, past))
          large.counts large.least large.above)

  large_down : IsTooLarge edges → IsTooLarge own
  large_down large = go (stands_or_not numbers large.actor)
    where
      go : StandsOrNot numbers large.actor → IsTooLarge own
      go (inl found) = record {
        actor = found.0;
        counts = λ k. large.counts (slice_index numbers k);
        least = least_down large.counts found.0 found.1 (subst (λ m. IsLeast edges m large.counts) (sym found.2) large.least);
        above = subst (λ m. most_firings < large.counts m) (sym found.2) large.above;
      }
      go (inr none) = absurd (alone_small edges large.actor
          (λ e there is. let of = are.down e there in
          none of.edge.writer (are.within.writers of.edge of.there) (ap (λ (x : Edge). x.writer) of.same ∙ is))
          (λ e there is. let of = are.down e there in
          none of.edge.reader (are.within.readers of.edge of.there) (ap (λ (x : Edge). x.reader) of.same ∙ is))
          large.counts large.least large.above)

  pub bad_up : IsBad own → IsBad edges
  bad_up (inl not) = inl (unsolvable_up not)
  bad_up (inr large) = inr (large_up large)

  pub bad_down : IsBad edges → IsBad own
  bad_down (inl not) = inl (unsolvable_down not)
  bad_down (inr large) = inr (large_down large)
