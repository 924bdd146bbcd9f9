-- What compiled expressions give and when they are safe (own). These definitions are about the
-- types of the compiled code; no public clause of a crate above shows them.
use Rattle.std.specs.Prelude.{ℕ, zero, ◌+◌, ◌-◌, ◌*◌, ◌^◌, ◌<◌, ◌≤◌, Bool, true, false, not, ◌&&◌, ◌||◌, if◌then◌else◌, List, length, slice_index, ℤ, pos, ◌+ℤ◌, ◌-ℤ◌, ◌*ℤ◌, neg_ℤ, int_le, unsigned_abs}
use Rattle.std.specs.Ordering.{int_eq}
use Rattle.tdf_fixed.specs.Cast.{cast_of, fraction_of}
use Rattle.tdf_fixed.specs.Overflow.{IsOfWidth}
use Rattle.tdf_expr_machine.specs.declared.nodes.Node.{Node}
use Rattle.tdf_expr_machine.specs.declared.nodes.Node.TheVariants as node
use Rattle.tdf_expr_machine.specs.declared.nodes.Relation.{Relation}
use Rattle.tdf_expr_machine.specs.declared.nodes.Relation.TheVariants as relation
use Rattle.tdf_expr_machine.specs.declared.spots.Spot.{Spot}
use Rattle.tdf_expr_machine.specs.declared.spots.Spot.TheVariants as spot
use Rattle.tdf_expr_state.specs.State.{State, cell_at}

-- the place that a spot names at these loop variables, outermost first
abbrev pub spot_place : Spot → List ℕ → ℕ
spot_place (spot.Fixed at) loops = at
spot_place (spot.Rise at times variable less) loops = at + times * slice_index loops variable - less
spot_place (spot.Fall at variable) loops = at - slice_index loops variable

-- the loop variable is there, and the place isn't below 0
abbrev pub IsSpot : Spot → List ℕ → Type 0
IsSpot (spot.Fixed at) loops = Unit {0}
IsSpot (spot.Rise at times variable less) loops =
    (variable < length loops) × (less ≤ at + times * slice_index loops variable)
IsSpot (spot.Fall at variable) loops = (variable < length loops) × (slice_index loops variable ≤ at)

-- a number holds where it isn't 0
abbrev pub is_true : ℤ → Bool
is_true (pos zero) = false
is_true num = true

abbrev pub truth_number : Bool → ℤ
truth_number so = if so then pos 1 else pos 0

abbrev pub relates : Relation → ℤ → ℤ → Bool
relates relation.Less a b = not (int_le b a)
relates relation.AtMost a b = int_le a b
relates relation.Equal a b = int_eq a b
relates relation.Different a b = not (int_eq a b)

-- the value of an expression, in units of its last place
abbrev pub node_value : Node → State → List ℕ → ℤ
node_value (node.Const num) s loops = num
node_value (node.Cell place bits) s loops = cell_at s.frame.cells place
node_value (node.CellAt at bits) s loops = cell_at s.frame.cells (spot_place at loops)
node_value (node.Sample place bits) s loops = cell_at s.ports.samples place
node_value (node.SampleAt at bits) s loops = cell_at s.ports.samples (spot_place at loops)
node_value (node.Rate number) s loops = pos (slice_index s.frame.rates number)
node_value (node.Loop depth) s loops = pos (slice_index loops depth)
node_value (node.Sum' p a m q b n) s loops =
    node_value a s loops *ℤ pos (2 ^ m) +ℤ node_value b s loops *ℤ pos (2 ^ n)
node_value (node.Difference' p a m q b n) s loops =
    node_value a s loops *ℤ pos (2 ^ m) -ℤ node_value b s loops *ℤ pos (2 ^ n)
node_value (node.Product' p a q b) s loops = node_value a s loops *ℤ node_value b s loops
node_value (node.Negative' p a) s loops = neg_ℤ (node_value a s loops)
node_value (node.Up' p a n) s loops = node_value a s loops *ℤ pos (2 ^ n)
node_value (node.Compare' r p a m q b n) s loops =
    truth_number (relates r (node_value a s loops *ℤ pos (2 ^ m))
    (node_value b s loops *ℤ pos (2 ^ n)))
node_value (node.And' p a q b) s loops =
    truth_number (is_true (node_value a s loops) && is_true (node_value b s loops))
node_value (node.Or' p a q b) s loops =
    truth_number (is_true (node_value a s loops) || is_true (node_value b s loops))
node_value (node.Not' p a) s loops = truth_number (not (is_true (node_value a s loops)))
node_value (node.Choice' o t p a m q b n) s loops =
    if is_true (node_value t s loops) then node_value a s loops *ℤ pos (2 ^ m)
    else node_value b s loops *ℤ pos (2 ^ n)
node_value (node.Cast' p a frac format) s loops = cast_of format (node_value a s loops) frac

-- a number has at most so many bits, its sign aside
abbrev pub HasBits : ℤ → ℕ → Type 0
HasBits num bits = unsigned_abs num ≤ 2 ^ bits

-- a number of a list is there, and lies in the signed range of so many bits beside the sign
abbrev pub IsNumberAt : List ℤ → (place bits : ℕ) → Type 0
IsNumberAt nums place bits = (place < length nums) × IsOfWidth true (bits + 1) (cell_at nums place)

-- moved up by so many bits the number is at most 2 ^ 120
abbrev pub IsRaised : ℤ → ℕ → Type 0
IsRaised num bits = (bits ≤ 120) × (unsigned_abs num * 2 ^ bits ≤ 2 ^ 120)

-- a number with so many bits after the point can be cast
abbrev pub IsCastable : ℤ → (frac fraction : ℕ) → Type 0
IsCastable num frac fraction = (frac ≤ 120) × (unsigned_abs num * 2 ^ (fraction - frac) ≤ 2 ^ 120)

-- no step passes 2 ^ 120, no place lies outside, and no number has more bits than its operand says
abbrev pub IsSafe : Node → State → List ℕ → Type 0
IsSafe (node.Const num) s loops = Unit {0}
IsSafe (node.Cell place bits) s loops = IsNumberAt s.frame.cells place bits
IsSafe (node.CellAt at bits) s loops =
    IsSpot at loops × IsNumberAt s.frame.cells (spot_place at loops) bits
IsSafe (node.Sample place bits) s loops = IsNumberAt s.ports.samples place bits
IsSafe (node.SampleAt at bits) s loops =
    IsSpot at loops × IsNumberAt s.ports.samples (spot_place at loops) bits
IsSafe (node.Rate number) s loops = number < length s.frame.rates
IsSafe (node.Loop depth) s loops = depth < length loops
IsSafe (node.Sum' p a m q b n) s loops = IsSafe a s loops × IsSafe b s loops
    × IsRaised (node_value a s loops) m × IsRaised (node_value b s loops) n
IsSafe (node.Difference' p a m q b n) s loops = IsSafe a s loops × IsSafe b s loops
    × IsRaised (node_value a s loops) m × IsRaised (node_value b s loops) n
IsSafe (node.Product' p a q b) s loops = IsSafe a s loops × IsSafe b s loops
    × (unsigned_abs (node_value a s loops) * unsigned_abs (node_value b s loops) ≤ 2 ^ 120)
IsSafe (node.Negative' p a) s loops =
    IsSafe a s loops × (unsigned_abs (node_value a s loops) ≤ 2 ^ 120)
IsSafe (node.Up' p a n) s loops = IsSafe a s loops × IsRaised (node_value a s loops) n
IsSafe (node.Compare' r p a m q b n) s loops = IsSafe a s loops × IsSafe b s loops
    × IsRaised (node_value a s loops) m × IsRaised (node_value b s loops) n
IsSafe (node.And' p a q b) s loops = IsSafe a s loops × IsSafe b s loops
IsSafe (node.Or' p a q b) s loops = IsSafe a s loops × IsSafe b s loops
IsSafe (node.Not' p a) s loops = IsSafe a s loops
IsSafe (node.Choice' o t p a m q b n) s loops =
    IsSafe t s loops × IsSafe a s loops × IsSafe b s loops
    × IsRaised (node_value a s loops) m × IsRaised (node_value b s loops) n
IsSafe (node.Cast' p a frac format) s loops =
    IsSafe a s loops × IsCastable (node_value a s loops) frac (fraction_of format)
