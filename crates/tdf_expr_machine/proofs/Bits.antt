-- Expressions whose steps fit 64 bits: how many bits each form has at most.
use Rattle.std.proofs.Common.{◌≡◌, ℕ, ◌+◌, ◌-◌, ◌*◌, ◌^◌, ◌<◌, ◌≤◌, Bool, true, false, Box, Global, List, ℤ, pos, negsuc, neg_ℤ, ◌+ℤ◌, ◌-ℤ◌, ◌*ℤ◌, ◌≤ℤ◌, unsigned_abs, sym, subst, arith}
use Rattle.std.proofs.Math.Nat.{pow-le-pow_right, mul-le-mul, mul-le-mul_right}
use Rattle.std.proofs.lemmas.Int.{ints, unsigned_abs-mul}
use Rattle.std.proofs.lemmas.Nat.{pow-add, pow_pos}
use Rattle.std.specs.Int.{w64}
use Rattle.std.specs.Prelude.{FitsSigned, if◌then◌else◌}
use Rattle.tdf_expr_cuts.proofs.Api.{small_power}
use Rattle.tdf_expr_machine.specs.Nodes.{is_true, node_value, truth_number, HasBits, IsSafe}
use Rattle.tdf_expr_machine.specs.declared.nodes.Node.{Node}
use Rattle.tdf_expr_machine.specs.declared.nodes.Node.TheVariants as variant
use Rattle.tdf_expr_machine.specs.declared.nodes.Node.TheViews as view
use Rattle.tdf_expr_machine.specs.declared.nodes.Relation.{Relation}
use Rattle.tdf_expr_machine.specs.declared.spots.Spot.{Spot}
use Rattle.tdf_expr_machine.specs.machine.Steps.{IsNarrow, IsShortRaised}
use Rattle.tdf_expr_state.specs.State.{State, cell_at}
use Rattle.tdf_fixed.proofs.Api.{in_range, in_width}
use Rattle.tdf_fixed.specs.Cast.{cast_of}
use Rattle.tdf_fixed.specs.Overflow.{IsOfWidth}
use Rattle.tdf_fixed.specs.declared.format.Format.{Format}

-- ---- numbers

pub fits : (num : ℤ) (bits : ℕ) → bits ≤ 62 → HasBits num bits → FitsSigned w64 num
fits (pos n) bits few small = let power = small_power bits few in record { sfits = omega (arith, power, small) }
fits (negsuc n) bits few small = let power = small_power bits few in record { sfits = omega (arith, power, small) }

-- a number of the signed range of so many bits and one has so many bits
pub has_bits : (num : ℤ) (bits : ℕ) → IsOfWidth true (bits + 1) num → HasBits num bits
has_bits num bits range =
    let one : bits + 1 - 1 ≡ bits = omega arith in
    go num (2 ^ bits) (subst (λ k. neg_ℤ (pos (2 ^ k)) ≤ℤ num) one range.low) (subst (λ k. num ≤ℤ pos (2 ^ k - 1)) one range.high)
  where
    go : (z : ℤ) (m : ℕ) → neg_ℤ (pos m) ≤ℤ z → z ≤ℤ pos (m - 1) → unsigned_abs z ≤ m
    go z m low high = omega (arith, ints, low, high)

more_bits : (num : ℤ) (bits more : ℕ) → bits ≤ more → HasBits num bits → HasBits num more
more_bits num bits more up small = let power : 2 ^ bits ≤ 2 ^ more = pow-le-pow_right (omega arith) up in omega (arith, power, small)

pub short_raised : (num : ℤ) (x m bits : ℕ) → x + m ≤ bits → bits ≤ 60 → HasBits num x → IsShortRaised num m
short_raised num x m bits low few small =
    let power : 2 ^ x ≤ 2 ^ (60 - m) = pow-le-pow_right (omega arith) (omega (arith, low, few)) in
    let next : 61 - m ≡ 60 - m + 1 = omega (arith, low, few) in
    let twice : 2 ^ (60 - m + 1) ≡ 2 ^ (60 - m) * 2 ^ 1 = pow-add 2 (60 - m) 1 in
    let some = pow_pos (60 - m) in
    let less : unsigned_abs num < 2 ^ (60 - m + 1) = omega (arith, power, twice, some, small) in
    (omega (arith, low, few), subst (λ k. unsigned_abs num < 2 ^ k) (sym next) less)

pub raised_bits : (num : ℤ) (x m bits : ℕ) → x + m ≤ bits → HasBits num x → HasBits (num *ℤ pos (2 ^ m)) bits
raised_bits num x m bits low small =
    let times : unsigned_abs num * 2 ^ m ≤ 2 ^ x * 2 ^ m = mul-le-mul_right (2 ^ m) small in
    let power : 2 ^ (x + m) ≡ 2 ^ x * 2 ^ m = pow-add 2 x m in
    let most : 2 ^ (x + m) ≤ 2 ^ bits = pow-le-pow_right (omega arith) low in
    rw (unsigned_abs-mul num (pos (2 ^ m))) (omega (arith, times, power, most))

twice : (n : ℕ) → 2 ^ n + 2 ^ n ≡ 2 ^ (n + 1)
twice n = omega (arith, pow-add 2 n 1)

sum_bits : (x y : ℤ) (bits : ℕ) → HasBits x bits → HasBits y bits → HasBits (x +ℤ y) (bits + 1)
sum_bits x y bits p q =
    let m = 2 ^ bits in
    let two : unsigned_abs (x +ℤ y) ≤ m + m = omega (arith, ints, p, q) in
    let power = twice bits in omega (arith, two, power)

difference_bits : (x y : ℤ) (bits : ℕ) → HasBits x bits → HasBits y bits → HasBits (x -ℤ y) (bits + 1)
difference_bits x y bits p q =
    let m = 2 ^ bits in
    let two : unsigned_abs (x -ℤ y) ≤ m + m = omega (arith, ints, p, q) in
    let power = twice bits in omega (arith, two, power)

product_bits : (u v : ℤ) (x y : ℕ) → HasBits u x → HasBits v y → HasBits (u *ℤ v) (x + y)
product_bits u v x y p q =
    let times : unsigned_abs u * unsigned_abs v ≤ 2 ^ x * 2 ^ y = mul-le-mul p q in
    let power = pow-add 2 x y in rw (unsigned_abs-mul u v) (omega (arith, times, power))

negative_bits : (u : ℤ) (x : ℕ) → HasBits u x → HasBits (neg_ℤ u) x
negative_bits u x p = let m = 2 ^ x in go u m p
  where
    go : (u : ℤ) (m : ℕ) → unsigned_abs u ≤ m → unsigned_abs (neg_ℤ u) ≤ m
    go u m p = omega (arith, ints, p)

truth_bits : (so : Bool) → HasBits (truth_number so) 0
truth_bits true = omega arith
truth_bits false = omega arith

-- the result of a cast has the bits of its format
cast_bits : (f : Format) (num : ℤ) (frac : ℕ) → HasBits (cast_of f num frac) f.wl
unfolding cast_of
cast_bits f num frac =
    let less = in_width f.signed f.wl (cast_of f num frac) f.some_bits (in_range f.over f.signed f.wl _ f.some_bits) in omega (arith, less)

-- ---- expressions

pub narrow_const : (node : Node) (num : ℤ) (bits : ℕ) → node ≡ variant.Const num → bits ≤ 62 → HasBits num bits → IsNarrow node bits
narrow_const node num bits is few small = rw is (record { steps = λ s l safe. fits num bits few small; small = λ s l safe. small })

pub narrow_cell : (node : Node) (place bits : ℕ) → node ≡ variant.Cell place bits → bits ≤ 62 → IsNarrow node bits
narrow_cell node place bits is few = rw is (record { steps = λ s l safe. fits (cell_at s.frame.cells place) bits few (has_bits _ bits safe.1); small = λ s l safe. has_bits _ bits safe.1 })

pub narrow_sample : (node : Node) (place bits : ℕ) → node ≡ variant.Sample place bits → bits ≤ 62 → IsNarrow node bits
narrow_sample node place bits is few = rw is (record { steps = λ s l safe. fits (cell_at s.ports.samples place) bits few (has_bits _ bits safe.1); small = λ s l safe. has_bits _ bits safe.1 })

pub narrow_cell_at : (node : Node) (at : Spot) (bits : ℕ) → node ≡ variant.CellAt at bits → bits ≤ 62 → IsNarrow node bits
narrow_cell_at node at bits is few = rw is (record { steps = λ s l safe. fits _ bits few (has_bits _ bits safe.1.1); small = λ s l safe. has_bits _ bits safe.1.1 })

pub narrow_sample_at : (node : Node) (at : Spot) (bits : ℕ) → node ≡ variant.SampleAt at bits → bits ≤ 62 → IsNarrow node bits
narrow_sample_at node at bits is few = rw is (record { steps = λ s l safe. fits _ bits few (has_bits _ bits safe.1.1); small = λ s l safe. has_bits _ bits safe.1.1 })

module _ (node : Node) (a b : Box Node Global) (m n x y bits : ℕ) (first : IsNarrow a.value x) (second : IsNarrow b.value y) (low : x + m ≤ bits) (low' : y + n ≤ bits) (few : bits ≤ 60) where
  lifted_first : (s : State) (l : List ℕ) → IsSafe a.value s l → IsShortRaised (node_value a.value s l) m
  lifted_first s l safe = short_raised (node_value a.value s l) x m bits low few (first.small s l safe)

  lifted_second : (s : State) (l : List ℕ) → IsSafe b.value s l → IsShortRaised (node_value b.value s l) n
  lifted_second s l safe = short_raised (node_value b.value s l) y n bits low' few (second.small s l safe)

  bits_first : (s : State) (l : List ℕ) → IsSafe a.value s l → HasBits (node_value a.value s l *ℤ pos (2 ^ m)) bits
  bits_first s l safe = raised_bits (node_value a.value s l) x m bits low (first.small s l safe)

  bits_second : (s : State) (l : List ℕ) → IsSafe b.value s l → HasBits (node_value b.value s l *ℤ pos (2 ^ n)) bits
  bits_second s l safe = raised_bits (node_value b.value s l) y n bits low' (second.small s l safe)

  pub narrow_sum : node ≡ view.Sum a m b n → IsNarrow node (bits + 1)
  narrow_sum is = rw is (record {
    steps = λ s l safe. (
      first.steps s l safe.0,
      second.steps s l safe.1,
      lifted_first s l safe.0,
      lifted_second s l safe.1,
      fits ((node_value a.value s l *ℤ pos (2 ^ m)) +ℤ (node_value b.value s l *ℤ pos (2 ^ n))) (bits + 1) (omega (arith, few)) (sum_bits (node_value a.value s l *ℤ pos (2 ^ m)) (node_value b.value s l *ℤ pos (2 ^ n)) bits (bits_first s l safe.0) (bits_second s l safe.1)),
    );
    small = λ s l safe. sum_bits (node_value a.value s l *ℤ pos (2 ^ m)) (node_value b.value s l *ℤ pos (2 ^ n)) bits (bits_first s l safe.0) (bits_second s l safe.1);
  })

  pub narrow_difference : node ≡ view.Difference a m b n → IsNarrow node (bits + 1)
  narrow_difference is = rw is (record {
    steps = λ s l safe. (
      first.steps s l safe.0,
      second.steps s l safe.1,
      lifted_first s l safe.0,
      lifted_second s l safe.1,
      fits ((node_value a.value s l *ℤ pos (2 ^ m)) -ℤ (node_value b.value s l *ℤ pos (2 ^ n))) (bits + 1) (omega (arith, few)) (difference_bits (node_value a.value s l *ℤ pos (2 ^ m)) (node_value b.value s l *ℤ pos (2 ^ n)) bits (bits_first s l safe.0) (bits_second s l safe.1)),
    );
    small = λ s l safe. difference_bits (node_value a.value s l *ℤ pos (2 ^ m)) (node_value b.value s l *ℤ pos (2 ^ n)) bits (bits_first s l safe.0) (bits_second s l safe.1);
  })

  pub narrow_compare : (r : Relation) → node ≡ view.Compare r a m b n → IsNarrow node 0
  narrow_compare r is = rw is (record {
    steps = λ s l safe. (first.steps s l safe.0, second.steps s l safe.1, lifted_first s l safe.0, lifted_second s l safe.1);
    small = λ s l safe. truth_bits _;
  })

  pub narrow_choice : (test : Box Node Global) (z : ℕ) → IsNarrow test.value z → node ≡ view.Choice test a m b n → IsNarrow node bits
  narrow_choice test z tested is = rw is (record {
    steps = λ s l safe. (tested.steps s l safe.0, first.steps s l safe.1, second.steps s l safe.2, lifted_first s l safe.1, lifted_second s l safe.2);
    small = λ s l safe. either (is_true (node_value test.value s l)) (node_value a.value s l *ℤ pos (2 ^ m)) (node_value b.value s l *ℤ pos (2 ^ n)) (bits_first s l safe.1) (bits_second s l safe.2);
  })
    where
      either : (so : Bool) (u v : ℤ) → HasBits u bits → HasBits v bits → HasBits (if so then u else v) bits
      either true u v p q = p
      either false u v p q = q

module _ (node : Node) (a b : Box Node Global) (x y : ℕ) (first : IsNarrow a.value x) (second : IsNarrow b.value y) where
  pub narrow_product : node ≡ view.Product a b → x + y ≤ 62 → IsNarrow node (x + y)
  narrow_product is few = rw is (record {
    steps = λ s l safe. (
      first.steps s l safe.0,
      second.steps s l safe.1,
      fits (node_value a.value s l *ℤ node_value b.value s l) (x + y) few (product_bits (node_value a.value s l) (node_value b.value s l) x y (first.small s l safe.0) (second.small s l safe.1)),
    );
    small = λ s l safe. product_bits (node_value a.value s l) (node_value b.value s l) x y (first.small s l safe.0) (second.small s l safe.1);
  })

  pub narrow_and : node ≡ view.And a b → IsNarrow node 0
  narrow_and is = rw is (record { steps = λ s l safe. (first.steps s l safe.0, second.steps s l safe.1); small = λ s l safe. truth_bits _ })

  pub narrow_or : node ≡ view.Or a b → IsNarrow node 0
  narrow_or is = rw is (record { steps = λ s l safe. (first.steps s l safe.0, second.steps s l safe.1); small = λ s l safe. truth_bits _ })

module _ (node : Node) (a : Box Node Global) (x : ℕ) (inner : IsNarrow a.value x) where
  pub narrow_negative : node ≡ view.Negative a → x ≤ 62 → IsNarrow node x
  narrow_negative is few = rw is (record {
    steps = λ s l safe. (inner.steps s l safe.0, fits _ x few (negative_bits _ x (inner.small s l safe.0)));
    small = λ s l safe. negative_bits _ x (inner.small s l safe.0);
  })

  pub narrow_not : node ≡ view.Not a → IsNarrow node 0
  narrow_not is = rw is (record { steps = λ s l safe. inner.steps s l safe; small = λ s l safe. truth_bits _ })

  pub narrow_up : (n bits : ℕ) → node ≡ view.Up a n → x + n ≤ bits → bits ≤ 60 → IsNarrow node bits
  narrow_up n bits is low few = rw is (record {
    steps = λ s l safe. (inner.steps s l safe.0, short_raised (node_value a.value s l) x n bits low few (inner.small s l safe.0));
    small = λ s l safe. raised_bits (node_value a.value s l) x n bits low (inner.small s l safe.0);
  })

  pub narrow_cast : (frac : ℕ) (f : Format) → node ≡ view.Cast a frac f → f.wl ≤ 62 → IsNarrow node f.wl
  narrow_cast frac f is few = rw is (record {
    steps = λ s l safe. (inner.steps s l safe.0, fits _ f.wl few (cast_bits f (node_value a.value s l) frac));
    small = λ s l safe. cast_bits f (node_value a.value s l) frac;
  })

pub ruleset narrow_laws = (
  narrow_const,
  narrow_cell,
  narrow_sample,
  narrow_cell_at,
  narrow_sample_at,
  narrow_sum,
  narrow_difference,
  narrow_compare,
  narrow_choice,
  narrow_product,
  narrow_and,
  narrow_or,
  narrow_negative,
  narrow_not,
  narrow_up,
  narrow_cast,
)
