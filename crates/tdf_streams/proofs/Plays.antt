-- An order can be played, or it is played up to a step that lacks a sample.
use Rattle.std.proofs.Common.{◌≡◌, ℕ, ◌+◌, ◌<◌, ◌≤◌, ◌⊎◌, inl, inr, false, Some, List, [], ◌∷◌, ◌++◌, length, slice_get, slice_index, slice_index_or, refl, ap, sym, ◌∙◌, subst, arith}
use Rattle.std.proofs.lemmas.Bool.{cases_eq, eq-eqb}
use Rattle.std.proofs.lemmas.Option.{slice_get_within}
use Rattle.tdf_streams.specs.Net.{Net, Period, Turn}
use Rattle.tdf_streams.specs.Stands.{Play}
use Rattle.tdf_streams.specs.Firing.{Flows, IsNextTurn}
use Rattle.tdf_streams.specs.Grounds.{AreGiven}
use Rattle.tdf_streams.specs.Playing.{HasStates, IsPlayed, IsStep, Lacks, StopsShort, turns_in}
use Rattle.tdf_streams.proofs.Fired.{fired_flows, fired_with, next_turn}
use Rattle.tdf_streams.proofs.Lacks.{present_or_short}
use Rattle.tdf_streams.proofs.Lists.{placed, placed_other, placed_same}
use Rattle.tdf_streams.proofs.Playing.{step_turns, turns_cons}

turns_own : (k : ℕ) (order : List ℕ) → turns_in (k ∷ order) k ≡ 1 + turns_in order k
turns_own k order = turns_cons k k order ∙ rw (eq-eqb k k refl) refl

module _ {S V I : Type 0} (net : Net S V I) (old : List (Period I)) (p : Period I) (reads : ℕ → List V) where
  states_kept : (m : ℕ) (t : Turn S V) (y z : Play S V) → Flows net p m t y z → HasStates net p y → HasStates net p z
  states_kept m t y z flows states k some plain = elim (cases_eq k m) [
    | inl same ↦ (t.state, subst (λ q. slice_get z.states q ≡ Some t.state) (sym same) (flows.state (subst (λ q. net.is_sampler q ≡ false) same plain)))
    | inr apart ↦ (let s = states k some plain in (s.0, flows.other_states k apart ∙ s.1))
  ]

  module _ (are_given : AreGiven net reads (old ++ p ∷ [])) where
    step_or_lacks : (m : ℕ) (y : Play S V) → HasStates net p y → slice_index y.turns m < slice_index p.counts m
        → ((z : Play S V) × IsStep net old p reads m y z × HasStates net p z) ⊎ Lacks net p m y
    step_or_lacks m y states left = elim (present_or_short net p (λ e. length (slice_index_or y.lists e [])) m net.edges (omega arith)) [
      | inr short ↦ inr (record { left = left; edge = short.edge; inside = short.inside; reads = short.reads; few = short.few })
      | inl present ↦ inl (fired_with net p m turn.0 y turns, record { turn = turn.0; left = left; present = present; next = turn.1; flows = flows }, states_kept m turn.0 y (fired_with net p m turn.0 y turns) flows states)
    ]
      where
        state : net.is_sampler m ≡ false → (s : S) × (slice_get y.states m ≡ Some s)
        state plain = states m (omega (arith, left)) plain

        turn : (t : Turn S V) × IsNextTurn net old p reads m y t
        turn = next_turn net old p reads m y are_given state left

        turns : List ℕ
        turns = placed y.turns m (slice_index y.turns m + 1)

        flows : Flows net p m turn.0 y (fired_with net p m turn.0 y turns)
        flows = fired_flows net p m turn.0 y turns (placed_same y.turns m (slice_index y.turns m + 1)) (λ k apart. placed_other y.turns m k (slice_index y.turns m + 1) apart)
            (λ plain. slice_get_within y.states m (state plain).0 (state plain).1)

    pub order_plays : (order : List ℕ) (y : Play S V) → HasStates net p y → ((m : ℕ) → slice_index y.turns m + turns_in order m ≤ slice_index p.counts m)
        → ((z : Play S V) × IsPlayed net old p reads order y z) ⊎ StopsShort net old p reads order y
    unfolding IsPlayed
    order_plays [] y states few = inl (y, refl)
    order_plays (k ∷ order) y states few = elim (step_or_lacks k y states (let n = few k in let c = turns_own k order in omega (arith, n, c))) [
      | inr lacks ↦ inr (record { before = []; actor = k; after = order; order_is = refl; mid = y; played = refl; lacks = lacks })
      | inl here ↦ elim (order_plays order here.0 here.2 (λ m. (let n = few m in let c = turns_cons k m order in let t = step_turns net old p reads k m y here.0 here.1 in omega (arith, n, c, t)))) [
        | inl rest ↦ inl (rest.0, (here.0, here.1, rest.1))
        | inr stops ↦ inr (record {
          before = k ∷ stops.before;
          actor = stops.actor;
          after = stops.after;
          order_is = ap (λ (ms : List ℕ). k ∷ ms) stops.order_is;
          mid = stops.mid;
          played = (here.0, here.1, stops.played);
          lacks = stops.lacks;
        })
      ]
    ]
