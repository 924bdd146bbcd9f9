-- Numbers that fit, number by number (own).
use Rattle.std.specs.Prelude.{ℤ, List, [], ◌∷◌, Option, Some, None}
use Rattle.tdf_fixed.specs.Overflow.{IsOfWidth}
use Rattle.tdf_lang_tree.specs.declared.shapes.Shape.{Shape}

abbrev pub FitsShape : Option Shape → ℤ → Type 0
FitsShape None num = Unit {0}
FitsShape (Some s) num = IsOfWidth s.signed s.wl num

-- as many numbers as formats, each in the range of its format
abbrev pub AllFit : List (Option Shape) → List ℤ → Type 0
AllFit [] [] = Unit {0}
AllFit (s ∷ ss) (n ∷ ns) = FitsShape s n × AllFit ss ns
AllFit _ _ = ⊥
