-- What flat code does and when it is safe (own): steps one after another, on a number in hand.
use Rattle.std.specs.Int.{w64}
use Rattle.std.specs.Prelude.{◌≡◌, ℕ, ◌-◌, ◌*◌, ◌^◌, ◌<◌, ◌≤◌, List, [], ◌∷◌, length, ℤ, pos, ◌+ℤ◌, ◌-ℤ◌, ◌*ℤ◌, ◌≤ℤ◌, unsigned_abs, FitsSigned}
use Rattle.tdf_expr_flat.specs.declared.steps.Fit.{Fit}
use Rattle.tdf_expr_flat.specs.declared.steps.Operand.{Operand}
use Rattle.tdf_expr_flat.specs.declared.steps.Operand.TheVariants as operand
use Rattle.tdf_expr_flat.specs.declared.steps.Operation.{Operation}
use Rattle.tdf_expr_flat.specs.declared.steps.Operation.TheVariants as operation
use Rattle.tdf_expr_state.specs.State.{State, cell_at, with_cell, with_notice, with_sample}
use Rattle.tdf_fixed.specs.Cast.{cast_of, fraction_of}
use Rattle.tdf_fixed.specs.Quantise.{below}

-- the number in hand, and the state
pub record Hand : Type 0 where
  pub number : ℤ
  pub state : State

abbrev pub hand_of : ℤ → State → Hand
hand_of number s = record { number = number; state = s }

-- the number of an operand
abbrev pub operand_value : Operand → State → ℤ
operand_value (operand.Cell place up) s = cell_at s.frame.cells place *ℤ pos (2 ^ up)
operand_value (operand.Sample place up) s = cell_at s.ports.samples place *ℤ pos (2 ^ up)
operand_value (operand.Number num) s = num

-- what a step leaves
abbrev pub after_step : Operation → Hand → Hand
after_step (operation.Take o) h = hand_of (operand_value o h.state) h.state
after_step (operation.Add o) h = hand_of (h.number +ℤ operand_value o h.state) h.state
after_step (operation.Subtract o) h = hand_of (h.number -ℤ operand_value o h.state) h.state
after_step (operation.Multiply o) h = hand_of (h.number *ℤ operand_value o h.state) h.state
after_step (operation.PutCell place fit) h =
    hand_of h.number (with_cell place (cast_of fit.format h.number fit.frac) h.state)
after_step (operation.PutSample port place fit) h =
    hand_of h.number (with_sample port place (cast_of fit.format h.number fit.frac) h.state)
after_step (operation.Notify event after) h = hand_of h.number (with_notice event after h.state)

-- what steps leave, one after another
abbrev pub after_steps : List Operation → Hand → Hand
after_steps [] h = h
after_steps (o ∷ os) h = after_steps os (after_step o h)

-- moved up by so many bits the number is below 2 ^ 61
abbrev pub IsLow : ℤ → ℕ → Type 0
IsLow num up = (up ≤ 61) × (unsigned_abs num < 2 ^ (61 - up))

-- the place is there, and its number is low
abbrev pub IsOperand : Operand → State → Type 0
IsOperand (operand.Cell place up) s =
    (place < length s.frame.cells) × IsLow (cell_at s.frame.cells place) up
IsOperand (operand.Sample place up) s =
    (place < length s.ports.samples) × IsLow (cell_at s.ports.samples place) up
IsOperand (operand.Number num) s = Unit {0}

-- the cast of a number is its neighbour below, where that lies between the bounds
pub record IsBoundedCut (fit : Fit) : Type 0 where
  pub few : fit.shift ≤ 62
  pub casts : (num : ℤ) → fit.least ≤ℤ below num (2 ^ fit.shift)
      → below num (2 ^ fit.shift) ≤ℤ fit.most
      → cast_of fit.format num fit.frac ≡ below num (2 ^ fit.shift)

-- the number can be cast
abbrev pub IsFit : ℤ → Fit → Type 0
IsFit num fit = IsBoundedCut fit × (fit.frac ≤ 120)
    × (unsigned_abs num * 2 ^ (fraction_of fit.format - fit.frac) ≤ 2 ^ 120)

-- no number in hand passes 64 bits, and no place lies outside
abbrev pub IsSafeStep : Operation → Hand → Type 0
IsSafeStep (operation.Take o) h = IsOperand o h.state
IsSafeStep (operation.Add o) h =
    IsOperand o h.state × FitsSigned w64 (h.number +ℤ operand_value o h.state)
IsSafeStep (operation.Subtract o) h =
    IsOperand o h.state × FitsSigned w64 (h.number -ℤ operand_value o h.state)
IsSafeStep (operation.Multiply o) h =
    IsOperand o h.state × FitsSigned w64 (h.number *ℤ operand_value o h.state)
IsSafeStep (operation.PutCell place fit) h =
    IsFit h.number fit × (place < length h.state.frame.cells)
IsSafeStep (operation.PutSample port place fit) h = IsFit h.number fit
    × (place < length h.state.ports.samples) × (port < length h.state.ports.assigned)
IsSafeStep (operation.Notify event after) h = event < length h.state.ports.notified

-- each step is safe at what those before it left
abbrev pub AreSafeSteps : List Operation → Hand → Type 0
AreSafeSteps [] h = Unit {0}
AreSafeSteps (o ∷ os) h = IsSafeStep o h × AreSafeSteps os (after_step o h)
