-- The equations of `bits_text`, for a loop that writes one bit a turn.
use Rattle.std.proofs.Common.{◌≡◌, ℕ, zero, suc, ◌+◌, ◌-◌, ◌<◌, List, [], ◌∷◌, ℤ, refl, ap, append_assoc, append-nil, arith}
use Rattle.std.proofs.lemmas.List.{take-append-le}
use Rattle.tdf_fixed.specs.Bits.{bit_at, bits_text}

pub bits_none : (num : ℤ) (n : ℕ) → n ≡ 0 → bits_text num n ≡ []
unfolding bits_text
bits_none num n e = rw e refl

pub bits_step : (num : ℤ) (n k : ℕ) → k < n → bits_text num (n - k) ≡ bit_at num (n - 1 - k) ∷ bits_text num (n - (k + 1))
unfolding bits_text
bits_step num n k within =
    let one : n - k ≡ suc (n - (k + 1)) = omega arith in
    let place : n - 1 - k ≡ n - (k + 1) = omega arith in
    rw (one, place) refl

pub ruleset bits_lemmas = (bits_none, bits_step, take-append-le, append_assoc, append-nil)
