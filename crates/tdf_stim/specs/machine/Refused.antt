-- Why a check refuses.
-- Source: own.
use Rattle.std.specs.Prelude.{◌≡◌, ℕ, Option, Some}
use Rattle.tdf_stim.specs.declared.err.StimErr.{StimErr}
use Rattle.tdf_stim.specs.declared.err.StimErr.TheVariants as why

-- the digits are at fault on this line; out of memory is free
abbrev pub IsDigits : Option ℕ → StimErr → Type 0
IsDigits found (why.Digits line) = found ≡ Some line
IsDigits found why.Memory = Unit {0}
IsDigits found _ = ⊥

-- the time is at fault on this line; out of memory is free
abbrev pub IsTime : Option ℕ → StimErr → Type 0
IsTime found (why.Time line) = found ≡ Some line
IsTime found why.Memory = Unit {0}
IsTime found _ = ⊥

abbrev pub IsMemory : StimErr → Type 0
IsMemory why.Memory = Unit {0}
IsMemory _ = ⊥
