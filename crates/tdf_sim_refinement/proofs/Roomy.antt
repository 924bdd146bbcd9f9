-- How much a pass gives: room for all of it is room for each turn of it.
use Rattle.std.proofs.Common.{◌≡◌, ◌∙◌, ℕ, zero, suc, ◌+◌, ◌-◌, ◌≤◌, Bool, true, List, [], ◌∷◌, Option, Some, length, drop, if◌then◌else◌, slice_get, refl, sym, ap, subst, arith}
use Rattle.tdf_convert.specs.Outputs.{OutputsOf}
use Rattle.tdf_convert.specs.declared.outputs.Sent.{Sent}
use Rattle.tdf_exec.proofs.Api.{gained_room, sent_total, traced_total}
use Rattle.tdf_exec.specs.Cluster.{ClusterOf, is_next_due}
use Rattle.tdf_exec.specs.Gained.{HaveRoom, sent_size, size_due, traced_size}
use Rattle.tdf_exec.specs.declared.runners.Runner.{Runner}
use Rattle.tdf_bind.specs.declared.model.Flat.{Flat}
use Rattle.tdf_streams.proofs.Api.{some_same}
use Rattle.tdf_sim_refinement.proofs.Passing.{later}
use Rattle.tdf_sim_refinement.specs.Pass.{HasPassedAll, PassHasTurn, HaveRoomForAll, HavePassed, PassAt, RunOf, pass_size, turn_size}

-- the clusters from one on give what it gives, and what those after it give
size_head : (size : Option Runner → ℕ) (time n s : ℕ) (c : ClusterOf) (since : List ℕ) (cs : List ClusterOf) → slice_get since n ≡ Some s → slice_get cs n ≡ Some c
    → pass_size size time (drop n since) (drop n cs) ≡ turn_size size time s c + pass_size size time (drop (suc n) since) (drop (suc n) cs)
unfolding pass_size
size_head size time n s c [] cs since_at at = absurd cc
size_head size time n s c (k ∷ since) [] since_at at = absurd cc
size_head size time zero s c (k ∷ since) (d ∷ cs) since_at at =
    ap (λ i. turn_size size time i d + pass_size size time since cs) (some_same k s since_at)
    ∙ ap (λ i. turn_size size time s i + pass_size size time since cs) (some_same d c at)
size_head size time (suc n) s c (k ∷ since) (d ∷ cs) since_at at = size_head size time n s c since cs since_at at

-- what a cluster gives that is due, and one that is not
size_if_due : (size : Option Runner → ℕ) (time s : ℕ) (c : ClusterOf) (b : Bool) → is_next_due c (time - s) ≡ b
    → turn_size size time s c ≡ (if b then size_due size c.runners (time - s) (drop c.place c.entries) else 0)
size_if_due size time s c b due = ap (λ (o : Bool). if o then size_due size c.runners (time - s) (drop c.place c.entries) else 0) due

-- what some turns gave, and what those to come give, are no more than all of them give
pub record GaveUpTo (pass : PassAt) (n : ℕ) (x y : RunOf) : Type 0 where
  pub sent : length y.outputs.sent + pass_size sent_size pass.time (drop n pass.since) (drop n x.clusters) ≤ length x.outputs.sent + pass_size sent_size pass.time pass.since x.clusters
  pub traced : length y.outputs.traced + pass_size traced_size pass.time (drop n pass.since) (drop n x.clusters) ≤ length x.outputs.traced + pass_size traced_size pass.time pass.since x.clusters
  pub rooms : (y.outputs.sent_room ≡ x.outputs.sent_room) × (y.outputs.traced_room ≡ x.outputs.traced_room)

module _ (flat : Flat) (pass : PassAt) (x : RunOf) where
  after_turn : (n : ℕ) (mid y : RunOf) (t : List Sent) → GaveUpTo pass n x mid → slice_get mid.clusters n ≡ slice_get x.clusters n → PassHasTurn flat pass n mid y t → GaveUpTo pass (suc n) x y
  after_turn n mid y t before untouched (PassHasTurn.Idle turn is idled) = subst (λ (o : OutputsOf). GaveUpTo pass (suc n) x (record y { outputs = o })) (sym idled.outputs) (record {
    sent = let h = size_head sent_size pass.time n turn.since turn.before pass.since x.clusters is.since (sym untouched ∙ is.before) in let b = before.sent in omega (arith, h, b);
    traced = let h = size_head traced_size pass.time n turn.since turn.before pass.since x.clusters is.since (sym untouched ∙ is.before) in let b = before.traced in omega (arith, h, b);
    rooms = before.rooms;
  })
  after_turn n mid y t before untouched (PassHasTurn.Done turn is did) = record {
    sent =
        let h = size_head sent_size pass.time n turn.since turn.before pass.since x.clusters is.since (sym untouched ∙ is.before) in
        let d = size_if_due sent_size pass.time turn.since turn.before true did.due in
        let g = sent_total flat (pass.time - turn.since) turn.inputs turn.before turn.after mid.outputs y.outputs did.fired.gained in
        let b = before.sent in omega (arith, h, d, g, b);
    traced =
        let h = size_head traced_size pass.time n turn.since turn.before pass.since x.clusters is.since (sym untouched ∙ is.before) in
        let d = size_if_due traced_size pass.time turn.since turn.before true did.due in
        let g = traced_total flat (pass.time - turn.since) turn.inputs turn.before turn.after mid.outputs y.outputs did.fired.gained in
        let b = before.traced in omega (arith, h, d, g, b);
    rooms =
        let r = gained_room flat (pass.time - turn.since) turn.inputs turn.before turn.after mid.outputs y.outputs did.fired.gained in
        (r.0 ∙ before.rooms.0, r.1 ∙ before.rooms.1);
  }

  pub gave_up_to : (n : ℕ) (y : RunOf) (sent : List Sent) → HavePassed flat pass n x y sent → GaveUpTo pass n x y
  unfolding HavePassed
  gave_up_to zero y sent passed = subst (GaveUpTo pass zero x) (sym passed.0) (record { sent = omega arith; traced = omega arith; rooms = (refl, refl) })
  gave_up_to (suc n) y sent passed = after_turn n passed.0 y passed.2 (gave_up_to n passed.0 passed.1 passed.3) (later flat pass x n passed.0 passed.1 passed.3 n (omega arith)) passed.4

  -- what a pass gives in all
  pub pass_sent : (y : RunOf) → HasPassedAll flat pass x y → length y.outputs.sent ≤ length x.outputs.sent + pass_size sent_size pass.time pass.since x.clusters
  pass_sent y all = let g = (gave_up_to (length x.clusters) y all.sent all.passed).sent in omega (arith, g)

  pub pass_traced : (y : RunOf) → HasPassedAll flat pass x y → length y.outputs.traced ≤ length x.outputs.traced + pass_size traced_size pass.time pass.since x.clusters
  pass_traced y all = let g = (gave_up_to (length x.clusters) y all.sent all.passed).traced in omega (arith, g)

  pub pass_rooms : (y : RunOf) → HasPassedAll flat pass x y → (y.outputs.sent_room ≡ x.outputs.sent_room) × (y.outputs.traced_room ≡ x.outputs.traced_room)
  pass_rooms y all = (gave_up_to (length x.clusters) y all.sent all.passed).rooms

  pub room_at : HaveRoomForAll pass x → (n s : ℕ) (c : ClusterOf) (y : RunOf) (sent : List Sent) → HavePassed flat pass n x y sent → slice_get y.clusters n ≡ Some c → slice_get pass.since n ≡ Some s
      → is_next_due c (pass.time - s) ≡ true → HaveRoom (pass.time - s) c y.outputs
  room_at room n s c y sent passed at since_at due = record {
    sent =
        let h = size_head sent_size pass.time n s c pass.since x.clusters since_at first in
        let d = size_if_due sent_size pass.time s c true due in
        let b = from.sent in
        let r = room.sent in
        let k = from.rooms.0 in omega (arith, h, d, b, r, k);
    traced =
        let h = size_head traced_size pass.time n s c pass.since x.clusters since_at first in
        let d = size_if_due traced_size pass.time s c true due in
        let b = from.traced in
        let r = room.traced in
        let k = from.rooms.1 in omega (arith, h, d, b, r, k);
  }
    where
      first : slice_get x.clusters n ≡ Some c
      first = sym (later flat pass x n y sent passed n (omega arith)) ∙ at

      from : GaveUpTo pass n x y
      from = gave_up_to n y sent passed
