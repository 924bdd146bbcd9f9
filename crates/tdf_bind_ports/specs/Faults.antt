-- What may be wrong with a `bind` or an `instance` line, and the first of some faults: the least
-- line, and on that line the code that comes first in the table.
-- Source: own.
use Rattle.std.specs.Prelude.{ℕ, Bool, List, [], ◌∷◌, Option, Some, None, if◌then◌else◌}
use Rattle.tdf_base.specs.declared.codes.Code.{Code}
use Rattle.tdf_base.specs.declared.codes.Code.TheVariants as code
use Rattle.tdf_base.specs.declared.faults.Fault.{Fault}
use Rattle.tdf_base.specs.declared.faults.Place.{Place}
use Rattle.tdf_base.specs.declared.faults.Place.TheVariants as place
use Rattle.tdf_base.specs.First as lines
use Rattle.tdf_base.specs.declared.first.LineFault.{LineFault}

-- a port that no line binds is named
pub data Wrong : Type 0 where
  UnknownPort : Wrong
  TwiceBound : Wrong
  Mismatch : Wrong
  Unbound : (port : List ℕ) → Wrong

pub record LinkFault : Type 0 where
  pub line : ℕ
  pub wrong : Wrong

abbrev pub code_of : Wrong → Code
code_of UnknownPort = code.UnknownPort
code_of TwiceBound = code.TwiceBound
code_of Mismatch = code.Mismatch
code_of (Unbound port) = code.Unbound

-- the fault without its port
abbrev pub as_line_fault : LinkFault → LineFault
as_line_fault f = record { line = f.line; code = code_of f.wrong }

abbrev pub link_comes_before : LinkFault → LinkFault → Bool
link_comes_before a b = lines.comes_before (as_line_fault a) (as_line_fault b)

-- the first of two; where neither comes before the other, the one that was found before
unfoldable pub lesser_link : Option LinkFault → LinkFault → Option LinkFault
lesser_link None fault = Some fault
lesser_link (Some first) fault = if link_comes_before fault first then Some fault else Some first

-- the first of some faults and one that was found before
unfoldable pub least_link_with : Option LinkFault → List LinkFault → Option LinkFault
least_link_with first [] = first
least_link_with first (f ∷ fs) = least_link_with (lesser_link first f) fs

-- the first of some faults
abbrev pub first_link_fault : List LinkFault → Option LinkFault
first_link_fault faults = least_link_with None faults

-- one fault, where something is so
unfoldable pub link_fault_if : Bool → Wrong → ℕ → List LinkFault
link_fault_if is wrong line = if is then record { line = line; wrong = wrong } ∷ [] else []

unfoldable pub link_noted : Bool → Wrong → ℕ → Option LinkFault → Option LinkFault
link_noted is wrong line first =
    if is then lesser_link first (record { line = line; wrong = wrong }) else first

abbrev pub link_place : ℕ → Wrong → Place
link_place line (Unbound port) = place.LinePort line port
link_place line _ = place.Line line

-- the fault that is printed
abbrev pub fault_of_link : LinkFault → Fault
fault_of_link f = record { code = code_of f.wrong; place = link_place f.line f.wrong }
