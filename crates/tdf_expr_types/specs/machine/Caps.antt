-- Widths and numbers as the code counts them (own): up to a greatest number.
use Rattle.std.specs.Prelude.{◌≡◌, ◌-◌, ◌^◌, min}
use Rattle.tdf_expr_types.specs.declared.sizes.Sizes.{Sizes}
use Rattle.tdf_expr_symbols.specs.Width.{Width}

-- the width, or the greatest number where a side is greater
pub record IsCapped (s : Sizes) (w : Width) : Type 0 where
  pub whole : s.whole ≡ min w.whole (2 ^ 64 - 1)
  pub part : s.part ≡ min w.part (2 ^ 64 - 1)
