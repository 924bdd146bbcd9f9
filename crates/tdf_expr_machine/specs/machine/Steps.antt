-- Expressions whose steps all fit 64 bits, so that no step of them is done in 128.
use Rattle.std.specs.Int.{w64}
use Rattle.std.specs.Prelude.{ℕ, ◌-◌, ◌^◌, ◌<◌, ◌≤◌, List, ℤ, unsigned_abs, FitsSigned}
use Rattle.tdf_expr_machine.specs.Nodes.{node_value, HasBits, IsSafe}
use Rattle.tdf_expr_machine.specs.declared.nodes.Node.{Node}
use Rattle.tdf_expr_machine.specs.declared.nodes.Node.TheVariants as node
use Rattle.tdf_expr_state.specs.State.{State}

-- moved up by so many bits the number is below 2 ^ 61
abbrev pub IsShortRaised : ℤ → ℕ → Type 0
IsShortRaised num bits = (bits ≤ 61) × (unsigned_abs num < 2 ^ (61 - bits))

-- an expression without parts that reads a number
abbrev pub IsLeaf : Node → Type 0
IsLeaf (node.Const num) = Unit {0}
IsLeaf (node.Cell place bits) = Unit {0}
IsLeaf (node.CellAt at bits) = Unit {0}
IsLeaf (node.Sample place bits) = Unit {0}
IsLeaf (node.SampleAt at bits) = Unit {0}
IsLeaf other = ⊥

-- the value of an expression, and that of each part, fit 64 bits, and so do parts that are moved up
abbrev pub StepsFit : Node → State → List ℕ → Type 0
StepsFit (node.Const num) s loops = FitsSigned w64 num
StepsFit (node.Cell place bits) s loops = FitsSigned w64 (node_value (node.Cell place bits) s loops)
StepsFit (node.CellAt at bits) s loops = FitsSigned w64 (node_value (node.CellAt at bits) s loops)
StepsFit (node.Sample place bits) s loops =
    FitsSigned w64 (node_value (node.Sample place bits) s loops)
StepsFit (node.SampleAt at bits) s loops =
    FitsSigned w64 (node_value (node.SampleAt at bits) s loops)
StepsFit (node.Rate number) s loops = Unit {0}
StepsFit (node.Loop depth) s loops = Unit {0}
StepsFit (node.Sum' p a m q b n) s loops = StepsFit a s loops × StepsFit b s loops
    × IsShortRaised (node_value a s loops) m × IsShortRaised (node_value b s loops) n
    × FitsSigned w64 (node_value (node.Sum' p a m q b n) s loops)
StepsFit (node.Difference' p a m q b n) s loops = StepsFit a s loops × StepsFit b s loops
    × IsShortRaised (node_value a s loops) m × IsShortRaised (node_value b s loops) n
    × FitsSigned w64 (node_value (node.Difference' p a m q b n) s loops)
StepsFit (node.Product' p a q b) s loops = StepsFit a s loops × StepsFit b s loops
    × FitsSigned w64 (node_value (node.Product' p a q b) s loops)
StepsFit (node.Negative' p a) s loops =
    StepsFit a s loops × FitsSigned w64 (node_value (node.Negative' p a) s loops)
StepsFit (node.Up' p a n) s loops = StepsFit a s loops × IsShortRaised (node_value a s loops) n
StepsFit (node.Compare' r p a m q b n) s loops = StepsFit a s loops × StepsFit b s loops
    × IsShortRaised (node_value a s loops) m × IsShortRaised (node_value b s loops) n
StepsFit (node.And' p a q b) s loops = StepsFit a s loops × StepsFit b s loops
StepsFit (node.Or' p a q b) s loops = StepsFit a s loops × StepsFit b s loops
StepsFit (node.Not' p a) s loops = StepsFit a s loops
StepsFit (node.Choice' o t p a m q b n) s loops =
    StepsFit t s loops × StepsFit a s loops × StepsFit b s loops
    × IsShortRaised (node_value a s loops) m × IsShortRaised (node_value b s loops) n
StepsFit (node.Cast' p a frac format) s loops =
    StepsFit a s loops × FitsSigned w64 (node_value (node.Cast' p a frac format) s loops)

-- wherever an expression is safe all its steps fit 64 bits, and its value has at most so many
pub record IsNarrow (node : Node) (bits : ℕ) : Type 0 where
  pub steps : (s : State) (loops : List ℕ) → IsSafe node s loops → StepsFit node s loops
  pub small : (s : State) (loops : List ℕ) → IsSafe node s loops
      → HasBits (node_value node s loops) bits
