-- Which steps of flat code do what an expression or a statement does.
use Rattle.std.specs.Int.{w64}
use Rattle.std.specs.Prelude.{◌≡◌, ℕ, ◌^◌, List, ◌++◌, ℤ, pos, ◌*ℤ◌, FitsSigned}
use Rattle.tdf_expr_flat.specs.Flat.{AreSafeSteps, Hand, IsFit, IsOperand, hand_of, operand_value, after_steps}
use Rattle.tdf_expr_flat.specs.declared.steps.Fit.{Fit}
use Rattle.tdf_expr_flat.specs.declared.steps.Operand.{Operand}
use Rattle.tdf_expr_flat.specs.declared.steps.Operation.{Operation}
use Rattle.tdf_expr_machine.specs.Acts.{acted, IsSafeAct}
use Rattle.tdf_expr_machine.specs.Nodes.{IsCastable, IsSafe, node_value}
use Rattle.tdf_expr_machine.specs.Sequences.{acted_all, AreSafeAll}
use Rattle.tdf_expr_machine.specs.declared.acts.Act.{Act}
use Rattle.tdf_expr_machine.specs.declared.acts.CastNode.{CastNode}
use Rattle.tdf_expr_machine.specs.declared.nodes.Node.{Node}
use Rattle.tdf_expr_machine.specs.machine.Steps.{StepsFit}
use Rattle.tdf_expr_state.specs.State.{State}
use Rattle.tdf_fixed.specs.Cast.{cast_of, fraction_of}

-- code that goes on with steps of a kind
pub record GoesOn (IsKind : List Operation → Type 0) (old new : List Operation) : Type 0 where
  pub steps : List Operation
  pub more : new ≡ old ++ steps
  pub kind : IsKind steps

-- an operand that is an expression, moved up by so many bits
pub record IsOperandOf (node : Node) (up : ℕ) (o : Operand) : Type 0 where
  pub value : (s : State) (loops : List ℕ)
      → operand_value o s ≡ node_value node s loops *ℤ pos (2 ^ up)
  pub there : (s : State) (loops : List ℕ) → IsSafe node s loops → IsOperand o s

-- steps that take the value of an expression in hand, moved up by so many bits
pub record TakesValue (node : Node) (up : ℕ) (steps : List Operation) : Type 0 where
  pub value : (h : Hand) (loops : List ℕ)
      → after_steps steps h ≡ hand_of (node_value node h.state loops *ℤ pos (2 ^ up)) h.state
  pub safe : (h : Hand) (loops : List ℕ) → IsSafe node h.state loops → StepsFit node h.state loops
      → AreSafeSteps steps h

-- wherever an expression is safe its value, moved up by so many bits, fits 64 bits
pub record FitsRaised (node : Node) (up : ℕ) : Type 0 where
  pub fits : (s : State) (loops : List ℕ) → IsSafe node s loops
      → FitsSigned w64 (node_value node s loops *ℤ pos (2 ^ up))

-- steps that take the value of an expression in hand, moved up so that its fit is the same cast
pub record TakesCast (cast : CastNode) (fit : Fit) (steps : List Operation) : Type 0 where
  pub up : ℕ
  pub value : (h : Hand) (loops : List ℕ) → after_steps steps h
      ≡ hand_of (node_value cast.value h.state loops *ℤ pos (2 ^ up)) h.state
  pub safe : (h : Hand) (loops : List ℕ) → IsSafe cast.value h.state loops → AreSafeSteps steps h
  pub same : (num : ℤ)
      → cast_of fit.format (num *ℤ pos (2 ^ up)) fit.frac ≡ cast_of cast.format num cast.frac
  pub fits : (num : ℤ) → IsCastable num cast.frac (fraction_of cast.format)
      → IsFit (num *ℤ pos (2 ^ up)) fit

-- steps that do what a statement does, whatever is in hand
pub record IsCodeOf (act : Act) (steps : List Operation) : Type 0 where
  pub same : (h : Hand) (loops : List ℕ) → (after_steps steps h).state ≡ acted act loops h.state
  pub safe : (h : Hand) (loops : List ℕ) → IsSafeAct act loops h.state → AreSafeSteps steps h

-- flat code that does what statements do in order
pub record IsFlatOf (acts : List Act) (code : List Operation) : Type 0 where
  pub same : (s : State) (loops : List ℕ)
      → (after_steps code (hand_of (pos 0) s)).state ≡ acted_all acts loops s
  pub safe : (s : State) (loops : List ℕ) → AreSafeAll acts loops s
      → AreSafeSteps code (hand_of (pos 0) s)
