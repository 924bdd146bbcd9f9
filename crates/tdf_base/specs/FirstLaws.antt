-- What makes `first_of` the first fault (own).
use Rattle.std.specs.Prelude.{◌≡◌, ◌⊎◌, false, List, [], ◌∷◌, Some, None}
use Rattle.tdf_base.specs.First.{comes_before, first_of}
use Rattle.tdf_base.specs.declared.first.LineFault.{LineFault}

abbrev pub IsIn : List LineFault → LineFault → Type 0
IsIn [] f = ⊥
IsIn (g ∷ gs) f = (g ≡ f) ⊎ IsIn gs f

pub record IsFirst (faults : List LineFault) (f : LineFault) : Type 0 where
  pub among : IsIn faults f
  pub least : (g : LineFault) → IsIn faults g → comes_before g f ≡ false

-- the first of some faults is one of them, and none of them comes before it;
-- there is none only where there is no fault
pub record FindsFirst : Type 0 where
  pub first : (faults : List LineFault) (f : LineFault) → first_of faults ≡ Some f
      → IsFirst faults f
  pub none : (faults : List LineFault) → first_of faults ≡ None → faults ≡ []
