-- The format that a line of the text writes (own).
use Rattle.std.specs.Prelude.{◌≡◌}
use Rattle.tdf_fixed.specs.declared.format.Format.{Format}
use Rattle.tdf_lang_tree.specs.declared.shapes.Shape.{Shape}

-- a format, by the line that wrote it
pub record IsFormatOf (shape : Shape) (f : Format) : Type 0 where
  pub signed : f.signed ≡ shape.signed
  pub wl : f.wl ≡ shape.wl
  pub iwl : f.iwl ≡ shape.iwl
  pub quant : f.quant ≡ shape.quant
  pub over : f.over ≡ shape.over
