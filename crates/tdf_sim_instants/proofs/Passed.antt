-- What a pass over all clusters makes of each.
use Rattle.std.proofs.Common.{◌≡◌, ◌≢◌, ◌⊎◌, ◌∙◌, ℕ, zero, suc, ◌-◌, ◌<◌, true, false, List, Some, length, length-set, slice_get, inl, inr, sym, ap, subst, arith}
use Rattle.std.proofs.lemmas.Option.{slice_get_within}
use Rattle.tdf_convert.specs.declared.outputs.Sent.{Sent}
use Rattle.tdf_sim_refinement.specs.Below.{AreDone, ClusterOf, IsClusterOf, is_next_due}
use Rattle.tdf_bind.specs.declared.model.Flat.{Flat}
use Rattle.tdf_streams.proofs.Api.{some_same}
use Rattle.tdf_sim_refinement.proofs.Api.{get_set_other, later, same_or_not, set_is}
use Rattle.tdf_sim_refinement.specs.Pass.{PassHasTurn, HavePassed, IsTurnOf, PassAt, RunOf, TurnAt}

-- a cluster after its turn: nothing was due in it, or it has done its entries of the time
pub data Turns (flat : Flat) (offset : ℕ) (c d : ClusterOf) : Type 0 where
  Idles : is_next_due c offset ≡ false → d ≡ c → Turns flat offset c d
  Fires : is_next_due c offset ≡ true → IsClusterOf flat d → AreDone offset c d → Turns flat offset c d

module _ (flat : Flat) (pass : PassAt) (x : RunOf) where
  made : (n : ℕ) (mid y : RunOf) (t : List Sent) → PassHasTurn flat pass n mid y t → (turn : TurnAt) × IsTurnOf pass n mid y turn × Turns flat (pass.time - turn.since) turn.before turn.after
  made n mid y t (PassHasTurn.Idle turn is idled) = (turn, is, Turns.Idles idled.none idled.same)
  made n mid y t (PassHasTurn.Done turn is did) = (turn, is, Turns.Fires did.due did.fired.of did.fired.done)

  pub passed_long : (n : ℕ) (y : RunOf) (sent : List Sent) → HavePassed flat pass n x y sent → length y.clusters ≡ length x.clusters
  unfolding HavePassed
  passed_long zero y sent passed = ap (λ (z : RunOf). length z.clusters) passed.0
  passed_long (suc n) y sent passed =
      let t = made n passed.0 y passed.2 passed.4 in
      ap length t.1.after ∙ length-set passed.0.clusters n t.0.after ∙ passed_long n passed.0 passed.1 passed.3

  turns_at : (n : ℕ) (y : RunOf) (mid : RunOf) (sent t : List Sent) → HavePassed flat pass n x mid sent → (turn : TurnAt) → IsTurnOf pass n mid y turn → Turns flat (pass.time - turn.since) turn.before turn.after
      → ((m s : ℕ) (d : ClusterOf) → slice_get mid.clusters m ≡ Some d → slice_get pass.since m ≡ Some s → m < n → (c : ClusterOf) × (slice_get x.clusters m ≡ Some c) × Turns flat (pass.time - s) c d)
      → (m s : ℕ) (d : ClusterOf) → slice_get y.clusters m ≡ Some d → slice_get pass.since m ≡ Some s → m < suc n → (m ≡ n) ⊎ (m ≢ n)
      → (c : ClusterOf) × (slice_get x.clusters m ≡ Some c) × Turns flat (pass.time - s) c d
  turns_at n y mid sent t passed turn is turns before m s d d_at s_at below (inl same) =
      let d_is = set_is mid.clusters n m turn.after d (slice_get_within mid.clusters n turn.before is.before) same (sym (ap (λ l. slice_get l m) is.after) ∙ d_at) in
      let s_is : turn.since ≡ s = some_same turn.since s (sym is.since ∙ ap (slice_get pass.since) (sym same) ∙ s_at) in (
        turn.before,
        ap (slice_get x.clusters) same ∙ sym (later flat pass x n mid sent passed n (omega arith)) ∙ is.before,
        subst (λ k. Turns flat (pass.time - k) turn.before d) s_is (subst (λ k. Turns flat (pass.time - turn.since) turn.before k) d_is turns),
      )
  turns_at n y mid sent t passed turn is turns before m s d d_at s_at below (inr apart) =
      before m s d (sym (get_set_other mid.clusters n m turn.after apart) ∙ sym (ap (λ l. slice_get l m) is.after) ∙ d_at) s_at (omega (arith, below, apart))

  pub all_turns : (n : ℕ) (y : RunOf) (sent : List Sent) → HavePassed flat pass n x y sent → (m s : ℕ) (d : ClusterOf) → slice_get y.clusters m ≡ Some d → slice_get pass.since m ≡ Some s → m < n
      → (c : ClusterOf) × (slice_get x.clusters m ≡ Some c) × Turns flat (pass.time - s) c d
  unfolding HavePassed
  all_turns zero y sent passed m s d d_at s_at below = absurd (omega (arith, below))
  all_turns (suc n) y sent passed m s d d_at s_at below =
      let t = made n passed.0 y passed.2 passed.4 in
      turns_at n y passed.0 passed.1 passed.2 passed.3 t.0 t.1 t.2 (all_turns n passed.0 passed.1 passed.3) m s d d_at s_at below (same_or_not m n)
