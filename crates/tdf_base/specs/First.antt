-- The first fault of a phase that goes by line (own): the least line, and on that line the code
-- that comes first in the table.
-- It is found among all faults of the phase, whatever the order in which they were looked for.
use Rattle.std.specs.Prelude.{ℕ, Bool, ◌||◌, ◌&&◌, if◌then◌else◌, nat_lt, nat_eq, List, [], ◌∷◌, Option, Some, None, Result, Ok, Err}
use Rattle.tdf_base.specs.declared.codes.Code.{Code}
use Rattle.tdf_base.specs.declared.codes.Code.TheVariants as code
use Rattle.tdf_base.specs.declared.first.LineFault.{LineFault}
use Rattle.tdf_base.specs.declared.refusal.TypeErr.{TypeErr}
use Rattle.tdf_base.specs.declared.refusal.TypeErr.TheVariants as why

-- the place of a code in the table of its phase: names, then types and bodies, then binding
abbrev pub rank : Code → ℕ
rank code.Duplicate = 0
rank code.Unknown = 1
rank code.Limit = 2
rank code.Format = 3
rank code.Kind = 4
rank code.InexactLiteral = 5
rank code.Wide = 6
rank code.WideCast = 7
rank code.Index = 8
rank code.Heavy = 9
rank code.Writers = 10
rank code.UnknownPort = 11
rank code.TwiceBound = 12
rank code.Mismatch = 13
rank code.Unbound = 14
rank _ = 15

abbrev pub comes_before : LineFault → LineFault → Bool
comes_before a b =
    nat_lt a.line b.line || (nat_eq a.line b.line && nat_lt (rank a.code) (rank b.code))

-- the first of two; where neither comes before the other, the one that was found before
unfoldable pub lesser : Option LineFault → LineFault → Option LineFault
lesser None fault = Some fault
lesser (Some first) fault = if comes_before fault first then Some fault else Some first

-- the first of some faults and one that was found before
unfoldable pub least_with : Option LineFault → List LineFault → Option LineFault
least_with first [] = first
least_with first (f ∷ fs) = least_with (lesser first f) fs

-- the first of some faults
abbrev pub first_of : List LineFault → Option LineFault
first_of faults = least_with None faults

-- one fault, where something is so
unfoldable pub fault_if : Bool → Code → ℕ → List LineFault
fault_if is code line = if is then record { line = line; code = code } ∷ [] else []

unfoldable pub noted : Bool → Code → ℕ → Option LineFault → Option LineFault
noted is code line first = if is then lesser first (record { line = line; code = code }) else first

-- the answer of a check that found this fault, or none
abbrev pub verdict_of : Option LineFault → Result (Unit {0}) TypeErr
verdict_of None = Ok tt
verdict_of (Some fault) = Err (why.Line fault.code fault.line)
