-- The code of an operator with two operands.
use Rattle.std.specs.Prelude.{◌≡◌, ℕ, ◌*◌, ◌^◌, ◌≤◌, ◌&&◌, ◌||◌, not, int_le, if◌then◌else◌, List, ℤ, pos, unsigned_abs, ◌+ℤ◌, ◌-ℤ◌, ◌*ℤ◌, neg_ℤ}
use Rattle.std.specs.Ordering.{int_eq}
use Rattle.tdf_expr_machine.specs.Nodes.{node_value, is_true, truth_number, IsSafe, IsRaised}
use Rattle.tdf_expr_machine.specs.declared.nodes.Node.{Node}
use Rattle.tdf_expr_state.specs.State.{State}
use Rattle.tdf_lang_tree.specs.declared.expr.Op.{Op}
use Rattle.tdf_lang_tree.specs.declared.expr.Op.TheVariants as op

-- the number that an operator gives, where the operands are moved up by m and n bits
abbrev pub combined_number : Op → ℤ → ℕ → ℤ → ℕ → ℤ
combined_number op.Or x m y n = truth_number (is_true x || is_true y)
combined_number op.And x m y n = truth_number (is_true x && is_true y)
combined_number op.Lt x m y n = truth_number (not (int_le (y *ℤ pos (2 ^ n)) (x *ℤ pos (2 ^ m))))
combined_number op.Le x m y n = truth_number (int_le (x *ℤ pos (2 ^ m)) (y *ℤ pos (2 ^ n)))
combined_number op.Eq x m y n = truth_number (int_eq (x *ℤ pos (2 ^ m)) (y *ℤ pos (2 ^ n)))
combined_number op.Ne x m y n = truth_number (not (int_eq (x *ℤ pos (2 ^ m)) (y *ℤ pos (2 ^ n))))
combined_number op.Gt x m y n = truth_number (not (int_le (x *ℤ pos (2 ^ m)) (y *ℤ pos (2 ^ n))))
combined_number op.Ge x m y n = truth_number (int_le (y *ℤ pos (2 ^ n)) (x *ℤ pos (2 ^ m)))
combined_number op.Add x m y n = x *ℤ pos (2 ^ m) +ℤ y *ℤ pos (2 ^ n)
combined_number op.Sub x m y n = x *ℤ pos (2 ^ m) -ℤ y *ℤ pos (2 ^ n)
combined_number op.Mul x m y n = x *ℤ y

-- no operand passes 2 ^ 120, nor does a product
abbrev pub AreFew : Op → ℤ → ℕ → ℤ → ℕ → Type 0
AreFew op.Or x m y n = Unit {0}
AreFew op.And x m y n = Unit {0}
AreFew op.Mul x m y n = unsigned_abs x * unsigned_abs y ≤ 2 ^ 120
AreFew _ x m y n = IsRaised x m × IsRaised y n

pub record IsCombined (o : Op) (a : Node) (m : ℕ) (b : Node) (n : ℕ) (node : Node) : Type 0 where
  pub num : (turns : List ℕ) (s : State)
      → node_value node s turns
      ≡ combined_number o (node_value a s turns) m (node_value b s turns) n
  pub safe : (turns : List ℕ) (s : State) → IsSafe a s turns → IsSafe b s turns
      → AreFew o (node_value a s turns) m (node_value b s turns) n → IsSafe node s turns

-- a constant, and the number that is its opposite
pub record IsOpposite (node : Node) (num : ℤ) : Type 0 where
  pub is : (turns : List ℕ) (s : State) → num ≡ neg_ℤ (node_value node s turns)

pub record IsChoice (test a : Node) (m : ℕ) (b : Node) (n : ℕ) (node : Node) : Type 0 where
  pub num : (turns : List ℕ) (s : State) → node_value node s turns
      ≡ (if is_true (node_value test s turns) then node_value a s turns *ℤ pos (2 ^ m)
      else node_value b s turns *ℤ pos (2 ^ n))
  pub safe : (turns : List ℕ) (s : State) → IsSafe test s turns → IsSafe a s turns
      → IsSafe b s turns
      → IsRaised (node_value a s turns) m → IsRaised (node_value b s turns) n → IsSafe node s turns
