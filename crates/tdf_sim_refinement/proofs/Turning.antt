-- One turn of a pass, by what a cluster did in it.
use Rattle.std.proofs.Common.{◌≡◌, ◌∙◌, ℕ, suc, ◌+◌, ◌-◌, ◌<◌, ◌≤◌, Bool, true, false, List, [], ◌++◌, Some, length, slice_get, slice_index_or, slice_set, refl, sym, ap, subst, arith, add-one}
use Rattle.std.proofs.lemmas.Option.{slice_get-get_or, slice_get_within}
use Rattle.tdf_convert.specs.Outputs.{OutputsOf}
use Rattle.tdf_convert.specs.declared.outputs.Sent.{Sent}
use Rattle.tdf_exec.specs.Cluster.{ClusterOf, is_next_due}
use Rattle.tdf_exec.specs.Gained.{HaveRoom}
use Rattle.tdf_exec.specs.Made.{IsClusterOf}
use Rattle.tdf_exec.specs.Played.{AreInputsFor}
use Rattle.tdf_fixed.specs.declared.raw.Raw.{Raw}
use Rattle.tdf_bind.specs.declared.model.Flat.{Flat}
use Rattle.tdf_streams.proofs.Api.{get_inside}
use Rattle.tdf_sim_refinement.proofs.Due.{true_false}
use Rattle.tdf_sim_refinement.proofs.Passing.{later}
use Rattle.tdf_sim_refinement.proofs.Roomy.{room_at}
use Rattle.tdf_sim_refinement.specs.Fired.{HasFired, HasStayed, HasTooFew}
use Rattle.tdf_sim_refinement.specs.Pass.{CanPass, HasEnded, HasPassedPart, PassHasTurn, HavePassed, IsTurnOf, PassAt, RunOf, TurnAt, pass_run}

pub nothing_passed : (flat : Flat) (pass : PassAt) (x : RunOf) → (sent : List Sent) × HavePassed flat pass 0 x x sent
unfolding HavePassed
nothing_passed flat pass x = ([], (refl, refl))

one_more : (flat : Flat) (pass : PassAt) (n : ℕ) (x y z : RunOf) (sent t : List Sent) → HavePassed flat pass n x y sent → PassHasTurn flat pass n y z t → HavePassed flat pass (suc n) x z (sent ++ t)
unfolding HavePassed
one_more flat pass n x y z sent t passed turn = (y, sent, t, passed, turn, refl)

module _ (flat : Flat) (pass : PassAt) (x : RunOf) (can : CanPass flat pass x) where
  pub begun_by : (n : ℕ) → n < length x.clusters → slice_index_or pass.since n 0 ≤ pass.time
  begun_by n inside = let l = can.since in can.begun n (slice_index_or pass.since n 0) (slice_get-get_or pass.since n 0 (omega (arith, l, inside)))

  module _ (n : ℕ) (y : RunOf) (passed : (sent : List Sent) × HavePassed flat pass n x y sent) (c : ClusterOf) (inside : n < length x.clusters) (value : c ≡ slice_index_or y.clusters n c) where
    there : slice_get y.clusters n ≡ Some c
    there =
        let z = get_inside x.clusters n inside in
        let i = slice_get_within y.clusters n z.0 (later flat pass x n y passed.0 passed.1 n (omega arith) ∙ z.1) in slice_get-get_or y.clusters n c i ∙ ap Some (sym value)

    abbrev since : ℕ
    since = slice_index_or pass.since n 0

    first : slice_get x.clusters n ≡ Some c
    first = sym (later flat pass x n y passed.0 passed.1 n (omega arith)) ∙ there

    since_is : slice_get pass.since n ≡ Some since
    since_is = let l = can.since in slice_get-get_or pass.since n 0 (omega (arith, l, inside))

    pub of_now : IsClusterOf flat c
    of_now = can.of n c first

    pub room_now : is_next_due c (pass.time - since) ≡ true → HaveRoom (pass.time - since) c y.outputs
    room_now due = room_at flat pass x can.room n since c y passed.0 passed.1 there since_is due

    module _ (inputs : List Raw) (value_at : inputs ≡ slice_index_or pass.inputs n inputs) where
      inputs_at : slice_get pass.inputs n ≡ Some inputs
      inputs_at = let l = can.inputs in slice_get-get_or pass.inputs n inputs (omega (arith, l, inside)) ∙ ap Some (sym value_at)

      pub given_now : is_next_due c (pass.time - since) ≡ true → AreInputsFor flat (pass.time - since) c inputs
      given_now due = can.given n since c inputs first since_is inputs_at due

      module _ (d : ClusterOf) (after : OutputsOf) (rest : ℕ) (result : Bool) where
        abbrev turn : TurnAt
        turn = record { before = c; after = d; since = since; inputs = inputs }

        abbrev z : RunOf
        z = pass_run (slice_set y.clusters n d) after rest

        is : IsTurnOf pass n y z turn
        is = record { before = there; after = refl; since = since_is; inputs = inputs_at }

        module _ (stays : is_next_due c (pass.time - since) ≡ false → HasStayed c d y.outputs after y.left rest)
            (fired : is_next_due c (pass.time - since) ≡ true → result ≡ true → HasFired flat (pass.time - since) inputs c d y.outputs after y.left rest) (yes : result ≡ true) where
          turned : (b : Bool) → is_next_due c (pass.time - since) ≡ b → (t : List Sent) × PassHasTurn flat pass n y z t
          turned true due = ((fired due yes).gained.sent, PassHasTurn.Done turn is (record { due = due; fired = fired due yes; sent_is = refl }))
          turned false due = ([], PassHasTurn.Idle turn is (record { none = due; same = (stays due).same; outputs = (stays due).none; left = (stays due).kept; nothing = refl }))

          pub passed_more : (sent : List Sent) × HavePassed flat pass (n + 1) x z sent
          passed_more = let t = turned (is_next_due c (pass.time - since)) refl in
              (passed.0 ++ t.0, subst (λ k. HavePassed flat pass k x z (passed.0 ++ t.0)) (sym (add-one n)) (one_more flat pass n x y z passed.0 t.0 passed.1 t.1))

        module _ (idle : is_next_due c (pass.time - since) ≡ false → result ≡ true)
            (few : is_next_due c (pass.time - since) ≡ true → result ≡ false → HasTooFew (pass.time - since) c d y.outputs after y.left rest) (no : result ≡ false) where
          ended : (b : Bool) → is_next_due c (pass.time - since) ≡ b → HasEnded pass.time turn y z
          ended true due = record { due = due; few = few due no }
          ended false due = absurd (true_false (sym (idle due) ∙ no))

          pub passed_part : HasPassedPart flat pass x z
          passed_part = record {
            number = n;
            to = record { mid = y; sent = passed.0; passed = passed.1; turn = turn; is = is; ended = ended (is_next_due c (pass.time - since)) refl };
          }
