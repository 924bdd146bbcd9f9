-- How many rate variables come before each name (own).
use Rattle.std.specs.Prelude.{◌≡◌, ◌<◌, ℕ, List, length, slice_index}
use Rattle.tdf_expr_compiler.specs.Below.{rate_number}
use Rattle.tdf_expr_symbols.specs.Names.{Names}

pub record AreRateNumbers (own : Names) (numbers : List ℕ) : Type 0 where
  pub long : length numbers ≡ length own.things
  pub each : (n : ℕ) → n < length own.things → slice_index numbers n ≡ rate_number own n
