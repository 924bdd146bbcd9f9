-- Weights as the code counts them (own): up to one more than the greatest that a body may have.
use Rattle.std.specs.Prelude.{ℕ, min}

unfoldable pub capped : ℕ → ℕ
capped n = min n 65537
