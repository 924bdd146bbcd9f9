-- Firings that are played from the head of a period are grounded: each is within the number of steps done.
use Rattle.std.proofs.Common.{◌≡◌, ℕ, zero, suc, ◌+◌, ◌-◌, ◌*◌, ◌<◌, inl, inr, List, [], ◌∷◌, length, slice_index, ap, sym, ◌∙◌, subst, arith}
use Rattle.std.specs.List.{sum_by}
use Rattle.std.proofs.Math.Nat.{div-lt_iff_lt-mul}
use Rattle.std.proofs.lemmas.Bool.{cases_eq, cases_lt}
use Rattle.tdf_streams.specs.Net.{Net, Period, taken, written}
use Rattle.tdf_streams.specs.Stands.{Play, Stands}
use Rattle.tdf_streams.specs.Grounds.{EndsIn, IsGrounded, IsHead, Takes}
use Rattle.tdf_streams.specs.Playing.{IsPlayed, IsStep}
use Rattle.tdf_streams.proofs.Playing.{step_keeps}

module _ {S V I : Type 0} (net : Net S V I) (delay : ℕ → ℕ) (old : List (Period I)) (p : Period I) (reads : ℕ → List V) where
  ends_more : (f m a : ℕ) → EndsIn net delay p f m a → EndsIn net delay p (suc f) m a
  unfolding EndsIn
  ends_more zero m a ends = absurd ends
  ends_more (suc f) m a ends = λ n b needs. ends_more f n b (ends n b needs)

  -- all that is done ends within g steps
  AllEnd : ℕ → Play S V → Type 0
  AllEnd g y = (m a : ℕ) → a < slice_index y.turns m → EndsIn net delay p g m a

  -- the samples at the head of the period, in the numbers of the streams
  IsBase : Type 0
  IsBase = (e : ℕ) → e < net.edges → net.delay e + sum_by (written net e) old ≡ delay e + sum_by (taken net e) old

  module _ (positive : (e : ℕ) → e < net.edges → (0 < slice_index p.writes e) × (0 < slice_index p.reads e)) (base : IsBase) where
    -- what the next firing of m takes is written by what is done
    written_before : (f m a n b : ℕ) (y z : Play S V) → Stands net old p reads f y → IsStep net old p reads m y z → a ≡ slice_index y.turns m → Takes net delay p m a n b → b < slice_index y.turns n
    unfolding IsBase
    written_before f m a n b y z stands step same takes =
        subst (λ k. b < slice_index y.turns k) takes.writes (subst (λ k. k < slice_index y.turns (net.writer e)) (sym takes.made) ((div-lt_iff_lt-mul (positive e takes.inside).0).1 early))
      where
        e : ℕ
        e = takes.edge

        early : takes.place - delay takes.edge < slice_index y.turns (net.writer takes.edge) * slice_index p.writes takes.edge
        early = (let c = (stands.lists takes.edge takes.inside).count in let here = step.present takes.edge takes.inside takes.reads in let b = base takes.edge takes.inside in
            let high : takes.place < slice_index y.turns m * slice_index p.reads takes.edge + slice_index p.reads takes.edge = subst (λ k. takes.place < k * slice_index p.reads takes.edge + slice_index p.reads takes.edge) same takes.high in
            let of_m : slice_index y.turns (net.reader takes.edge) * slice_index p.reads takes.edge ≡ slice_index y.turns m * slice_index p.reads takes.edge = ap (λ k. slice_index y.turns k * slice_index p.reads takes.edge) takes.reads in
            let late = takes.late in omega (arith, c, here, b, high, of_m, late))

    step_ends : (f g m : ℕ) (y z : Play S V) → Stands net old p reads f y → IsStep net old p reads m y z → AllEnd g y → AllEnd (suc g) z
    unfolding AllEnd EndsIn
    step_ends f g m y z stands step all k a below = elim (cases_eq k m) [
      | inr apart ↦ ends_more g k a (all k a (let t = step.flows.other_turns k apart in omega (arith, below, t)))
      | inl same ↦ elim (cases_lt a (slice_index y.turns m)) [
        | inl early ↦ ends_more g k a (all k a (subst (λ q. a < slice_index y.turns q) (sym same) early))
        | inr late ↦ (let now : a ≡ slice_index y.turns m = (let t = step.flows.turn in let b : a < slice_index z.turns m = subst (λ q. a < slice_index z.turns q) same below in omega (arith, b, t, late)) in
            λ n b needs. elim needs [
              | inl before ↦ all n b (subst (λ q. b < slice_index y.turns q) (sym (before.0 ∙ same)) (let s = before.1 in omega (arith, s, now)))
              | inr takes ↦ all n b (written_before f m a n b y z stands step now (subst (λ q. Takes net delay p q a n b) same takes))
            ])
      ]
    ]

    order_ends : (order : List ℕ) (f g : ℕ) (y z : Play S V) → Stands net old p reads f y → AllEnd g y → IsPlayed net old p reads order y z → AllEnd (length order + g) z
    unfolding IsPlayed
    order_ends [] f g y z stands all played = let e : g ≡ 0 + g = omega arith in subst (λ k. AllEnd k z) e (subst (λ (w : Play S V). AllEnd g w) (sym played) all)
    order_ends (m ∷ ms) f g y z stands all played = let e : length ms + suc g ≡ suc (length ms) + g = omega arith in
        subst (λ k. AllEnd k z) e (order_ends ms (suc f) (suc g) played.0 z (step_keeps net old p reads f m y played.0 stands played.1) (step_ends f g m y played.0 stands played.1 all) played.2)

  pub played_are_grounded : (f : ℕ) (y z : Play S V) (order : List ℕ) → IsHead net delay p y → Stands net old p reads f y → IsPlayed net old p reads order y z
      → (m a : ℕ) → a < slice_index z.turns m → IsGrounded net delay p m a
  unfolding AllEnd IsBase
  played_are_grounded f y z order head stands played m a below =
      (length order + 0, order_ends head.positive (λ e inside. base e inside) order f 0 y z stands (λ k b early. absurd (let t = head.turns k in omega (arith, early, t))) played m a below)
    where
      none_of : (k c : ℕ) → slice_index y.turns k * c ≡ 0
      none_of k c = rw (head.turns k) (omega arith)

      base : (e : ℕ) → e < net.edges → net.delay e + sum_by (written net e) old ≡ delay e + sum_by (taken net e) old
      base e inside = let c = (stands.lists e inside).count in let l = head.lists e inside in let r = none_of (net.reader e) (slice_index p.reads e) in let w = none_of (net.writer e) (slice_index p.writes e) in
          omega (arith, c, l, r, w)
