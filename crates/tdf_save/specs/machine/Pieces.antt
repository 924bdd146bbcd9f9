-- Pieces of a text, each cut off in one way.
-- Source: own.
use Rattle.std.specs.Prelude.{◌≡◌, ℕ, Bool, true, false, ◌||◌, nat_eq, List, [], ◌∷◌, ◌++◌}

-- a space or LF
abbrev pub is_stop : ℕ → Bool
is_stop byte = nat_eq byte 32 || nat_eq byte 10

-- what comes after a word begins with a space or LF
abbrev pub begins_with_stop : List ℕ → Bool
begins_with_stop [] = false
begins_with_stop (byte ∷ rest) = is_stop byte

abbrev pub Stops : List ℕ → Type 0
Stops rest = begins_with_stop rest ≡ true

abbrev pub begins_with_byte : ℕ → List ℕ → Bool
begins_with_byte byte [] = false
begins_with_byte byte (first ∷ rest) = nat_eq first byte

-- anything may come
abbrev pub Any : List ℕ → Type 0
Any rest = Unit {0}

-- so may any flag
abbrev pub AnyFlag : Bool → Type 0
AnyFlag flag = Unit {0}

-- what may come after the notifications, and after a column: neither `sample`, nor `later`, nor
-- `pending`
pub record IsNext (rest : List ℕ) : Type 0 where
  pub sample : begins_with_byte 115 rest ≡ false
  pub later : begins_with_byte 108 rest ≡ false
  pub pending : begins_with_byte 112 rest ≡ false

-- a text that begins with that of something which fits, so that `ends` holds of what comes after
-- it, does so in one way
pub record IsOne {V : Type 0} (text : V → List ℕ) (fits : V → Type 0)
    (ends : List ℕ → Type 0) : Type 0 where
  pub only : (v w : V) (r s : List ℕ) → fits v → fits w → ends r → ends s
      → text v ++ r ≡ text w ++ s → (v ≡ w) × (r ≡ s)
