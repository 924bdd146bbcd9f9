-- One turn after the other.
use Rattle.std.proofs.Common.{◌≡◌, ℕ, zero, suc, ◌+◌, ◌-◌, ◌<◌, refl, ap, ◌∙◌, arith, add-one}
use Rattle.tdf_sim_history.specs.History.{Step, Going, Fault, Past, and_then, turns_to}

module _ {W F : Type 0} (turn : ℕ → W → Step W F) where
  pub turns_none : (w : W) → turns_to turn 0 w ≡ Going w
  unfolding turns_to
  turns_none w = refl

  pub turns_more : (n : ℕ) (w v : W) (x : Step W F) → turns_to turn n w ≡ Going v → turn n v ≡ x → turns_to turn (n + 1) w ≡ x
  unfolding turns_to
  turns_more n w v x now next = rw (add-one n, now) next

  -- what ended stays so
  stays : (n : ℕ) (w : W) (x : Step W F) → ((f : W → Step W F) → and_then x f ≡ x) → (k : ℕ) → turns_to turn n w ≡ x → turns_to turn (k + n) w ≡ x
  unfolding turns_to
  stays n w x ends zero h = let e : 0 + n ≡ n = omega arith in ap (λ m. turns_to turn m w) e ∙ h
  stays n w x ends (suc k) h =
      let e : suc k + n ≡ suc (k + n) = omega arith in
      ap (λ m. turns_to turn m w) e ∙ ap (λ s. and_then s (turn (k + n))) (stays n w x ends k h) ∙ ends (turn (k + n))

  pub turns_fault : (n m : ℕ) (w v : W) (fault : F) (u : W) → n < m → turns_to turn n w ≡ Going v → turn n v ≡ Fault fault u → turns_to turn m w ≡ Fault fault u
  turns_fault n m w v fault u less now next =
      let e : m ≡ m - (n + 1) + (n + 1) = omega (arith, less) in
      ap (λ j. turns_to turn j w) e ∙ stays (n + 1) w (Fault fault u) (λ f. refl) (m - (n + 1)) (turns_more n w v (Fault fault u) now next)

  pub turns_past : (n m : ℕ) (w v u : W) → n < m → turns_to turn n w ≡ Going v → turn n v ≡ Past u → turns_to turn m w ≡ Past u
  turns_past n m w v u less now next =
      let e : m ≡ m - (n + 1) + (n + 1) = omega (arith, less) in
      ap (λ j. turns_to turn j w) e ∙ stays (n + 1) w (Past u) (λ f. refl) (m - (n + 1)) (turns_more n w v (Past u) now next)
