-- The zeros at the end of a text of digits (own).
use Rattle.std.specs.Prelude.{ℕ, Bool, nat_eq}

abbrev pub is_zero : ℕ → Bool
is_zero c = nat_eq c 48
