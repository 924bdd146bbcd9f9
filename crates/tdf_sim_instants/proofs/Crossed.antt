-- What the boundaries of clusters leave as it was.
use Rattle.std.proofs.Common.{◌≡◌, ◌≢◌, ◌⊎◌, ◌∙◌, ℕ, zero, suc, ◌<◌, Bool, true, false, List, [], ◌∷◌, ◌++◌, Some, length, length-set, slice_get, inl, inr, refl, sym, ap, subst, arith}
use Rattle.std.proofs.lemmas.Option.{slice_get_within}
use Rattle.tdf_sim_instants.proofs.Boundaries.{still_to_come, turn_in}
use Rattle.tdf_sim_instants.specs.Crossing.{CrossingOf, EndingAt, HasEnding, HaveCrossed, IsEndingOf, is_ending, is_new, planned_if}
use Rattle.tdf_dynamic.specs.declared.next.Next.{Next}
use Rattle.tdf_dynamic.specs.declared.next.Next.TheVariants as answer
use Rattle.tdf_sim_refinement.specs.Below.{ClusterOf, HasBegunPeriod, HasCrossed as HasLeft, IsClusterOf, sent_size, size_due, traced_size}
use Rattle.tdf_sim_instants.specs.Engine.{IsNoneOf}
use Rattle.tdf_streams.proofs.Api.{none_some}
use Rattle.tdf_bind.specs.declared.model.Flat.{Flat}
use Rattle.tdf_sim_refinement.proofs.Api.{due_alike, get_set_other, like_sent, like_traced, same_or_not, set_is, sizes_alike}

-- the next period of a cluster has begun, and no entry of it is done
pub record IsAtHead (c d : ClusterOf) : Type 0 where
  pub number : d.number ≡ c.number
  pub going : d.crossed ≡ false
  pub place : d.place ≡ 0

-- its entries give as many samples as before
pub record GivesAsMuch (c d : ClusterOf) : Type 0 where
  pub sent : (offset : ℕ) → size_due sent_size d.runners offset d.entries ≡ size_due sent_size c.runners offset c.entries
  pub traced : (offset : ℕ) → size_due traced_size d.runners offset d.entries ≡ size_due traced_size c.runners offset c.entries

-- a cluster after its boundary: it is as it was, or at the head of its next period, which begins now, and gives as much where P
pub data Crosses (P : Type 0) (flat : Flat) (time : ℕ) (c d : ClusterOf) (s t : ℕ) : Type 0 where
  Stays : is_ending time s c ≡ false → d ≡ c → t ≡ s → Crosses P flat time c d s t
  Begins : IsAtHead c d → (P → GivesAsMuch c d) → IsClusterOf flat d → t ≡ time → Crosses P flat time c d s t

at_head : (next : Next) (c between d : ClusterOf) → HasLeft c between → HasBegunPeriod between next d → IsAtHead c d
at_head answer.Same c between d left begun = record {
  number = ap (λ (z : ClusterOf). z.number) begun ∙ ap (λ (z : ClusterOf). z.number) left.rest;
  going = ap (λ (z : ClusterOf). z.crossed) begun;
  place = ap (λ (z : ClusterOf). z.place) begun;
}
at_head (answer.Changed attrs plan) c between d left begun = record {
  number = ap (λ (z : ClusterOf). z.number) begun.rest ∙ ap (λ (z : ClusterOf). z.number) left.rest;
  going = ap (λ (z : ClusterOf). z.crossed) begun.rest;
  place = ap (λ (z : ClusterOf). z.place) begun.rest;
}

as_much : (next : Next) (c between d : ClusterOf) → is_new next ≡ false → HasLeft c between → HasBegunPeriod between next d → GivesAsMuch c d
as_much answer.Same c between d is left begun =
    let runners : d.runners ≡ between.runners = ap (λ (z : ClusterOf). z.runners) begun in
    let entries : d.entries ≡ c.entries = ap (λ (z : ClusterOf). z.entries) begun ∙ ap (λ (z : ClusterOf). z.entries) left.rest in
    record {
      sent = λ offset. (λ i. size_due sent_size (runners i) offset (entries i))
          ∙ due_alike sent_size c.runners between.runners offset c.entries (sizes_alike sent_size like_sent c.runners between.runners left.same left.runners);
      traced = λ offset. (λ i. size_due traced_size (runners i) offset (entries i))
          ∙ due_alike traced_size c.runners between.runners offset c.entries (sizes_alike traced_size like_traced c.runners between.runners left.same left.runners);
    }
as_much (answer.Changed attrs plan) c between d is left begun = absurd cc

-- lists of places
get_front : (xs ys : List ℕ) (k n : ℕ) → slice_get xs k ≡ Some n → slice_get (xs ++ ys) k ≡ Some n
get_front [] ys k n at = none_some n at
get_front (x ∷ xs) ys zero n at = at
get_front (x ∷ xs) ys (suc k) n at = get_front xs ys k n at

get_last : (xs : List ℕ) (n : ℕ) → slice_get (xs ++ n ∷ []) (length xs) ≡ Some n
get_last [] n = refl
get_last (x ∷ xs) n = get_last xs n

front_none : (xs ys : List ℕ) (n : ℕ) → IsNoneOf (xs ++ ys) n → IsNoneOf xs n
front_none xs ys n none k at = none k (get_front xs ys k n at)

not_new : (new : Bool) (xs : List ℕ) (n : ℕ) → IsNoneOf (xs ++ planned_if new n) n → new ≡ false
not_new true xs n none = absurd (none (length xs) (get_last xs n))
not_new false xs n none = refl

-- which turn it was
turn_of : (flat : Flat) (time n : ℕ) (mid y : CrossingOf) → HasEnding flat time n mid y → (turn : EndingAt) × IsEndingOf n mid y turn
turn_of flat time n mid y (HasEnding.Open turn is gone planned) = (turn, is)
turn_of flat time n mid y (HasEnding.Over turn new is crossed planned) = (turn, is)

-- a cluster without a new plan after this turn had none before it
none_before : (flat : Flat) (time n : ℕ) (mid y : CrossingOf) → HasEnding flat time n mid y → (m : ℕ) → IsNoneOf y.planned m → IsNoneOf mid.planned m
none_before flat time n mid y (HasEnding.Open turn is gone planned) m none = subst (λ l. IsNoneOf l m) planned none
none_before flat time n mid y (HasEnding.Over turn new is crossed planned) m none = front_none mid.planned (planned_if new n) m (subst (λ l. IsNoneOf l m) planned none)

module _ (P : Type 0) (flat : Flat) (time : ℕ) (x : CrossingOf) where
  -- as many as before
  pub crossed_long : (n : ℕ) (y : CrossingOf) → HaveCrossed flat time n x y → (length y.clusters ≡ length x.clusters) × (length y.since ≡ length x.since)
  unfolding HaveCrossed
  crossed_long zero y passed = (ap (λ (z : CrossingOf). length z.clusters) passed, ap (λ (z : CrossingOf). length z.since) passed)
  crossed_long (suc n) y passed =
      let t = turn_in flat time n passed.0 y passed.2 in
      let before = crossed_long n passed.0 passed.1 in
      (ap length t.1.after ∙ length-set passed.0.clusters n t.0.after ∙ before.0, ap length t.1.begun ∙ length-set passed.0.since n t.0.begun ∙ before.1)

  -- what the turn of cluster n made of it
  turned : (n : ℕ) (mid y : CrossingOf) → HasEnding flat time n mid y → (P → IsNoneOf y.planned n) → (turn : EndingAt) × IsEndingOf n mid y turn × Crosses P flat time turn.before turn.after turn.since turn.begun
  turned n mid y (HasEnding.Open turn is gone planned) none = (turn, is, Crosses.Stays gone.going gone.same gone.kept)
  turned n mid y (HasEnding.Over turn new is crossed planned) none = (
    turn,
    is,
    Crosses.Begins (at_head crossed.next turn.before crossed.between turn.after crossed.passed.crossed_is crossed.passed.begun)
        (λ p. as_much crossed.next turn.before crossed.between turn.after (crossed.new_is ∙ not_new new mid.planned n (subst (λ l. IsNoneOf l n) planned (none p))) crossed.passed.crossed_is crossed.passed.begun)
        crossed.passed.of crossed.now,
  )

  abbrev From : (m t : ℕ) → ClusterOf → Type 0
  From m t d = (c : ClusterOf) × (s : ℕ) × (slice_get x.clusters m ≡ Some c) × (slice_get x.since m ≡ Some s) × Crosses P flat time c d s t

  crosses_here : (n : ℕ) (mid y : CrossingOf) → HaveCrossed flat time n x mid → (turn : EndingAt) → IsEndingOf n mid y turn → Crosses P flat time turn.before turn.after turn.since turn.begun
      → (m t : ℕ) (d : ClusterOf) → slice_get y.clusters m ≡ Some d → slice_get y.since m ≡ Some t → m ≡ n → From m t d
  crosses_here n mid y passed turn is crosses m t d d_at t_at same =
      let d_is = set_is mid.clusters n m turn.after d (slice_get_within mid.clusters n turn.before is.before) same (sym (ap (λ l. slice_get l m) is.after) ∙ d_at) in
      let t_is = set_is mid.since n m turn.begun t (slice_get_within mid.since n turn.since is.since) same (sym (ap (λ l. slice_get l m) is.begun) ∙ t_at) in
      let first = still_to_come flat time x n mid passed n (omega arith) in (
        turn.before,
        turn.since,
        ap (slice_get x.clusters) same ∙ sym first.0 ∙ is.before,
        ap (slice_get x.since) same ∙ sym first.1 ∙ is.since,
        subst (λ k. Crosses P flat time turn.before d turn.since k) t_is (subst (λ k. Crosses P flat time turn.before k turn.since turn.begun) d_is crosses),
      )

  crosses_at : (n : ℕ) (mid y : CrossingOf) → HaveCrossed flat time n x mid → HasEnding flat time n mid y → (m : ℕ) → (P → IsNoneOf y.planned m)
      → ((t : ℕ) (d : ClusterOf) → slice_get mid.clusters m ≡ Some d → slice_get mid.since m ≡ Some t → m < n → From m t d)
      → (t : ℕ) (d : ClusterOf) → slice_get y.clusters m ≡ Some d → slice_get y.since m ≡ Some t → m < suc n → (m ≡ n) ⊎ (m ≢ n) → From m t d
  crosses_at n mid y passed ending m none before t d d_at t_at below (inl same) =
      let turn = turned n mid y ending (λ p. subst (λ k. IsNoneOf y.planned k) same (none p)) in
      crosses_here n mid y passed turn.0 turn.1 turn.2 m t d d_at t_at same
  crosses_at n mid y passed ending m none before t d d_at t_at below (inr apart) =
      let turn = turn_of flat time n mid y ending in
      before t d (sym (get_set_other mid.clusters n m turn.0.after apart) ∙ sym (ap (λ l. slice_get l m) turn.1.after) ∙ d_at)
      (sym (get_set_other mid.since n m turn.0.begun apart) ∙ sym (ap (λ l. slice_get l m) turn.1.begun) ∙ t_at) (omega (arith, below, apart))

  pub all_crosses : (n : ℕ) (y : CrossingOf) → HaveCrossed flat time n x y → (m : ℕ) → (P → IsNoneOf y.planned m) → (t : ℕ) (d : ClusterOf) → slice_get y.clusters m ≡ Some d → slice_get y.since m ≡ Some t → m < n → From m t d
  unfolding HaveCrossed
  all_crosses zero y passed m none t d d_at t_at below = absurd (omega (arith, below))
  all_crosses (suc n) y passed m none t d d_at t_at below =
      crosses_at n passed.0 y passed.1 passed.2 m none
      (λ t d d_at t_at less. all_crosses n passed.0 passed.1 m (λ p. none_before flat time n passed.0 y passed.2 m (none p)) t d d_at t_at less) t d d_at t_at below (same_or_not m n)
