-- What makes the first fault trustworthy: it is one of the faults, and it is the first of them as
-- all faults that go by line are ordered.
-- Source: own.
use Rattle.std.specs.Prelude.{◌≡◌, ◌⊎◌, List, [], ◌∷◌, Some, map}
use Rattle.std.specs.Option.{option_map}
use Rattle.tdf_base.specs.First as lines
use Rattle.tdf_bind_ports.specs.Faults.{LinkFault, as_line_fault, first_link_fault}

abbrev pub IsLinkFaultIn : List LinkFault → LinkFault → Type 0
IsLinkFaultIn [] f = ⊥
IsLinkFaultIn (g ∷ gs) f = (g ≡ f) ⊎ IsLinkFaultIn gs f

pub record FindsFirstLink : Type 0 where
  pub among : (faults : List LinkFault) (f : LinkFault) → first_link_fault faults ≡ Some f
      → IsLinkFaultIn faults f
  pub first : (faults : List LinkFault)
      → option_map as_line_fault (first_link_fault faults)
      ≡ lines.first_of (map as_line_fault faults)
