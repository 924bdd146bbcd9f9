-- Room for what all clusters give in a pass.
use Rattle.std.proofs.Common.{◌≡◌, ◌∙◌, ℕ, suc, ◌-◌, ◌≤◌, Bool, true, false, List, [], ◌∷◌, Option, Some, length, drop, if◌then◌else◌, slice_get, refl, sym, arith}
use Rattle.std.proofs.lemmas.List.Sums.{sum_by-cons}
use Rattle.std.specs.Prelude.{sum}
use Rattle.tdf_sim_instants.specs.Engine.{HaveRooms}
use Rattle.tdf_sim_refinement.proofs.Api.{due_left}
use Rattle.tdf_sim_refinement.specs.Below.{ClusterOf, Runner, is_next_due, size_due}
use Rattle.tdf_sim_refinement.specs.Pass.{pass_size}

turn_few : (size : Option Runner → ℕ) (time s m : ℕ) (c : ClusterOf) (b : Bool) → size_due size c.runners (time - s) c.entries ≤ m
    → (if b then size_due size c.runners (time - s) (drop c.place c.entries) else 0) ≤ m
turn_few size time s m c true few = let d = due_left size c.runners (time - s) c.place c.entries in omega (arith, few, d)
turn_few size time s m c false few = omega arith

pub pass_few : (size : Option Runner → ℕ) (time : ℕ) (since : List ℕ) (clusters : List ClusterOf) (most : List ℕ) → length most ≡ length clusters
    → ((n m offset : ℕ) (c : ClusterOf) → slice_get clusters n ≡ Some c → slice_get most n ≡ Some m → size_due size c.runners offset c.entries ≤ m)
    → pass_size size time since clusters ≤ sum most
unfolding pass_size
pass_few size time [] clusters most same each = omega arith
pass_few size time (s ∷ since) [] most same each = omega arith
pass_few size time (s ∷ since) (c ∷ clusters) [] same each = absurd (omega (arith, same))
pass_few size time (s ∷ since) (c ∷ clusters) (m ∷ most) same each =
    let here = turn_few size time s m c (is_next_due c (time - s)) (each 0 m (time - s) c refl refl) in
    let total = sum_by-cons (λ (k : ℕ). k) m most in
    let rest = pass_few size time since clusters most (omega (arith, same)) (λ n k offset d d_at k_at. each (suc n) k offset d d_at k_at) in
    omega (arith, here, rest, total)

pub room_for_pass : (size : Option Runner → ℕ) (time room : ℕ) (since : List ℕ) (clusters : List ClusterOf) → HaveRooms size clusters room → pass_size size time since clusters ≤ room
room_for_pass size time room since clusters rooms =
    let p = pass_few size time since clusters rooms.most rooms.same rooms.each in let w = rooms.within in omega (arith, p, w)

-- clusters with the same plans and alike actors give no more
pub rooms_kept : (size : Option Runner → ℕ) (room : ℕ) (cs ds : List ClusterOf) → HaveRooms size cs room → length ds ≡ length cs
    → ((n offset : ℕ) (d : ClusterOf) → slice_get ds n ≡ Some d → (c : ClusterOf) × (slice_get cs n ≡ Some c) × (size_due size d.runners offset d.entries ≡ size_due size c.runners offset c.entries))
    → HaveRooms size ds room
rooms_kept size room cs ds rooms same alike = record {
  most = rooms.most;
  same = rooms.same ∙ sym same;
  each = λ n m offset d d_at m_at. (
      let c = alike n offset d d_at in
      let e = rooms.each n m offset c.0 c.1 m_at in let s = c.2 in omega (arith, e, s));
  within = rooms.within;
}
