-- Pieces of a text that is read, and why there is none.
-- Source: own.
use Rattle.std.specs.Prelude.{◌≡◌, ℕ, ℤ, Option, IfSome, false, List, ◌++◌}
use Rattle.tdf_save.specs.Members.{IsNum}
use Rattle.tdf_save.specs.machine.Pieces.{Any, begins_with_byte}
use Rattle.tdf_saved.specs.declared.err.StateErr.{StateErr}
use Rattle.tdf_saved.specs.declared.err.StateErr.TheVariants.{Bad, Memory}

-- a text begins with that of v, which fits, and `ends` holds of what comes after it
pub record IsPiece {V : Type 0} (text : V → List ℕ) (fits : V → Type 0) (ends : List ℕ → Type 0)
    (whole : List ℕ) (v : V) (rest : List ℕ) : Type 0 where
  pub fit : fits v
  pub end : ends rest
  pub is : whole ≡ text v ++ rest

-- a text begins so with that of nothing
abbrev pub NoPiece : {V : Type 0} → (V → List ℕ) → (V → Type 0) → (List ℕ → Type 0) → List ℕ
    → Type 0
NoPiece {V} text fits ends whole =
    (v : V) (rest : List ℕ) → IsPiece text fits ends whole v rest → ⊥

-- out of memory is free; else there is a reason
abbrev pub IsStateRefusal : Type 0 → StateErr → Type 0
IsStateRefusal reason Bad = reason
IsStateRefusal reason Memory = Unit {0}

abbrev pub IsWant : StateErr → Type 0
IsWant Bad = ⊥
IsWant Memory = Unit {0}

-- no sample comes
abbrev pub NoSample : List ℕ → Type 0
NoSample rest = Any rest × (begins_with_byte 115 rest ≡ false)

-- a carry in range, or none
abbrev pub HasCarry : Option ℤ → Type 0
HasCarry carry = IfSome carry IsNum
