-- One number set to 0, and two.
use Rattle.std.proofs.Common.{◌≡◌, ◌∙◌, ℕ, zero, suc, ◌+◌, ◌<◌, List, [], ◌∷◌, ◌++◌, length, drop, replicate, take, slice_set, ℤ, pos, refl, ap, sym, arith}
use Rattle.tdf_expr_state.specs.Resets.{with_zeros}

pub one_zero : (nums : List ℤ) (from : ℕ) → from < length nums → slice_set nums from (pos 0) ≡ with_zeros from 1 nums
one_zero [] from inside = absurd (omega (arith, inside))
one_zero (x ∷ xs) zero inside = refl
one_zero (x ∷ xs) (suc from) inside =
    let e : suc from + 1 ≡ suc (from + 1) = omega arith in
    ap (λ l. x ∷ l) (one_zero xs from (omega (arith, inside)))
    ∙ sym (ap (λ n. take (suc from) (x ∷ xs) ++ (replicate 1 (pos 0) ++ drop n (x ∷ xs))) e)

pub two_zeros : (nums : List ℤ) (from : ℕ) → from + 1 < length nums → slice_set (slice_set nums from (pos 0)) (from + 1) (pos 0) ≡ with_zeros from 2 nums
two_zeros [] from inside = absurd (omega (arith, inside))
two_zeros (x ∷ []) zero inside = absurd (omega (arith, inside))
two_zeros (x ∷ y ∷ xs) zero inside = refl
two_zeros (x ∷ xs) (suc from) inside =
    let e : suc from + 2 ≡ suc (from + 2) = omega arith in
    let f : suc from + 1 ≡ suc (from + 1) = omega arith in
    ap (λ n. slice_set (x ∷ slice_set xs from (pos 0)) n (pos 0)) f
    ∙ ap (λ l. x ∷ l) (two_zeros xs from (omega (arith, inside)))
    ∙ sym (ap (λ n. take (suc from) (x ∷ xs) ++ (replicate 2 (pos 0) ++ drop n (x ∷ xs))) e)
