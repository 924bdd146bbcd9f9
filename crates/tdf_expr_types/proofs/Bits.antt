-- The equations of `bits_from`, for a loop that tries one count a turn.
use Rattle.std.proofs.Common.{◌≡◌, ℕ, suc, ◌+◌, ◌-◌, ◌^◌, ◌<◌, true, false, refl, arith}
use Rattle.std.specs.Prelude.{nat_lt}
use Rattle.tdf_expr_symbols.specs.Width.{bits_from}

pub bits_none : (n bits more : ℕ) → more ≡ 0 → bits_from n bits more ≡ bits
unfolding bits_from
bits_none n bits more e = rw e refl

pub bits_here : (n k : ℕ) → k < 60 → nat_lt n (2 ^ k) ≡ true → bits_from n k (60 - k) ≡ k
unfolding bits_from
bits_here n k within fits =
    let one : 60 - k ≡ suc (60 - (k + 1)) = omega arith in
    rw (one, fits) refl

pub bits_next : (n k : ℕ) → k < 60 → nat_lt n (2 ^ k) ≡ false → bits_from n k (60 - k) ≡ bits_from n (k + 1) (60 - (k + 1))
unfolding bits_from
bits_next n k within wide =
    let one : 60 - k ≡ suc (60 - (k + 1)) = omega arith in
    rw (one, wide) refl

pub ruleset bits_laws = (bits_none, bits_here, bits_next)
