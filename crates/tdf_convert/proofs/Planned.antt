-- The entries of a plan go by offset.
use Rattle.std.proofs.Common.{◌≡◌, ◌≢◌, ℕ, ◌≤◌, ◌⊎◌, inl, inr, subst, arith, Bool, false}
use Rattle.std.proofs.Math.ListN.{get_or}
use Rattle.std.proofs.lemmas.Bool.{cases_eq}
use Rattle.std.proofs.lemmas.Bool.Decides.{nat_tests}
use Rattle.std.proofs.lemmas.Option.{slice_get-get_or}
use Rattle.std.specs.Prelude.{◌||◌, nat_lt}
use Rattle.tdf_convert.specs.Sampled.{PlansGoByOffset}

pub by_offset : PlansGoByOffset
by_offset edges pace counts entries plan i j d least below = choose (cases_eq i j)
  where
    first : (m n : ℕ) (rest : Bool) → nat_lt n m || rest ≡ false → m ≤ n
    first m n rest h = grind (arith, nat_tests, h)

    choose : (i ≡ j) ⊎ (i ≢ j) → (get_or entries i d).offset ≤ (get_or entries j d).offset
    choose (inl same) = subst (λ n. (get_or entries i d).offset ≤ (get_or entries n d).offset) same (omega arith)
    choose (inr other) =
        first (get_or entries i d).offset (get_or entries j d).offset _
        (plan.sorted i j (get_or entries i d) (get_or entries j d) (omega (arith, least, other))
        (slice_get-get_or entries i d (omega (arith, least, below))) (slice_get-get_or entries j d below))
