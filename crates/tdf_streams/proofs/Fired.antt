-- The next turn of an actor, and what its firing leaves.
use Rattle.std.proofs.Common.{◌≡◌, ◌≢◌, ℕ, ◌+◌, ◌<◌, Bool, true, false, Some, List, [], ◌∷◌, ◌++◌, length, map, set, slice_get, slice_index, slice_index_or, refl, arith}
use Rattle.std.specs.List.{range_with_len, sum_by}
use Rattle.std.proofs.lemmas.List.FromFn.{get_or-map-range_with_len}
use Rattle.std.proofs.lemmas.List.Sums.{sum_by_push}
use Rattle.tdf_streams.specs.Net.{Net, Period, Turn, count}
use Rattle.tdf_streams.specs.Streams.{sampled}
use Rattle.tdf_streams.specs.Stands.{Play}
use Rattle.tdf_streams.specs.Firing.{Flows, IsNextTurn, fronts, given, moved, processed}
use Rattle.tdf_streams.specs.Grounds.{AreGiven}
use Rattle.tdf_streams.proofs.Lists.{get_inside, get_set_other, get_set_same}

module _ {S V I : Type 0} (net : Net S V I) (p : Period I) (m : ℕ) (t : Turn S V) (y : Play S V) where
  -- what the firing leaves, with these turns
  unfoldable pub fired_with : List ℕ → Play S V
  fired_with turns = record {
    turns = turns;
    states = set y.states m t.state;
    lists = map (λ (e : ℕ). moved net p m t e (slice_index_or y.lists e [])) (range_with_len 0 net.edges);
  }

  pub fired_flows : (turns : List ℕ) → slice_index turns m ≡ slice_index y.turns m + 1 → ((k : ℕ) → k ≢ m → slice_index turns k ≡ slice_index y.turns k)
      → (net.is_sampler m ≡ false → m < length y.states) → Flows net p m t y (fired_with turns)
  unfolding fired_with
  fired_flows turns more others there = record {
    turn = more;
    other_turns = others;
    state = λ plain. get_set_same y.states m t.state (there plain);
    other_states = λ k apart. get_set_other y.states m k t.state apart;
    lists = λ e below. get_or-map-range_with_len (λ (e : ℕ). moved net p m t e (slice_index_or y.lists e [])) 0 net.edges e e [] below (omega arith);
  }

module _ {S V I : Type 0} (net : Net S V I) (old : List (Period I)) (p : Period I) (reads : ℕ → List V) where
  -- a sampler was given its value, another actor has a state
  pub next_turn : (m : ℕ) (y : Play S V) → AreGiven net reads (old ++ p ∷ []) → (net.is_sampler m ≡ false → (s : S) × (slice_get y.states m ≡ Some s))
      → slice_index y.turns m < slice_index p.counts m → (t : Turn S V) × IsNextTurn net old p reads m y t
  next_turn m y are_given state left = go (net.is_sampler m) refl
    where
      go : (b : Bool) → net.is_sampler m ≡ b → (t : Turn S V) × IsNextTurn net old p reads m y t
      go true is = (let s = sum_by_push (count m) old p in
          let x = get_inside (reads m) (sum_by (count m) old + slice_index y.turns m) (are_given m (sum_by (count m) old + slice_index y.turns m) is (omega (arith, s, left))) in
          (sampled net m x.0, given x.0 is x.1 refl))
      go false plain = (let s = state plain in (net.process m p s.0 (fronts net p m y.lists 0 net.edges), processed s.0 plain s.1 refl))
