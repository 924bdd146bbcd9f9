-- What an operand of an expression without a fault has.
use Rattle.std.proofs.Common.{◌≡◌, ◌∙◌, ℕ, ◌+◌, ◌-◌, ◌*◌, ◌^◌, ◌≤◌, false, List, [], max, ℤ, unsigned_abs, sym, ap, subst, arith}
use Rattle.std.proofs.Math.Nat.{pow-le-pow_right, mul-le-mul}
use Rattle.std.proofs.lemmas.Bool.Decides.{nat_tests}
use Rattle.std.proofs.lemmas.Nat.{pow-add}
use Rattle.std.specs.Prelude.{nat_lt}
use Rattle.tdf_base.specs.declared.codes.Code.TheVariants as code
use Rattle.tdf_expr_compiler.specs.machine.Computed.{IsAt, Computes}
use Rattle.tdf_base.proofs.Api.{if_none, none_second}
use Rattle.tdf_expr_machine.specs.Nodes.{node_value, IsSafe, IsRaised}
use Rattle.tdf_expr_machine.specs.declared.nodes.Node.{Node}
use Rattle.tdf_expr_semantics.proofs.Api.{within, aligned, abs_times}
use Rattle.tdf_expr_semantics.specs.Value.{value}
use Rattle.tdf_expr_symbols.specs.Faults.{expr_faults, own_faults, wide_faults, is_wide}
use Rattle.tdf_expr_symbols.specs.Scope.{Scope, OpenLoop}
use Rattle.tdf_expr_symbols.specs.Width.{Width, width}
use Rattle.tdf_expr_symbols.specs.declared.kinds.Part.{Part}
use Rattle.tdf_expr_state.specs.State.{State}
use Rattle.tdf_lang_tree.specs.Pure.{PureExpr, ENumber, EName, EAt, ECast, ESelect, ENot, ENeg, EShift, EBinary}

pub narrow : (w : Width) → is_wide w ≡ false → w.whole + w.part ≤ 120
unfolding is_wide
narrow w e = let test : nat_lt 120 (w.whole + w.part) ≡ false = e in grind (arith, nat_tests)

pub narrow_line : (w : Width) (line : ℕ) → wide_faults w line ≡ [] → w.whole + w.part ≤ 120
narrow_line w line e = narrow w (if_none (is_wide w) code.Wide line e)

-- an expression without a fault has no more bits than a value may have
pub few_of : (scope : Scope) (loops : List OpenLoop) (body : Part) (line : ℕ) (e : PureExpr) → expr_faults scope loops body line e ≡ []
    → (width scope loops e).whole + (width scope loops e).part ≤ 120
unfolding expr_faults
few_of scope loops body line (ENumber digits) e = narrow_line (width scope loops (ENumber digits)) line (none_second (own_faults scope loops body line (ENumber digits)) _ e)
few_of scope loops body line (EName name) e = narrow_line (width scope loops (EName name)) line (none_second (own_faults scope loops body line (EName name)) _ e)
few_of scope loops body line (EAt name i) e = narrow_line (width scope loops (EAt name i)) line (none_second (own_faults scope loops body line (EAt name i)) _ e)
few_of scope loops body line (ECast name x) e =
    narrow_line (width scope loops (ECast name x)) line (none_second (own_faults scope loops body line (ECast name x)) _ (none_second (expr_faults scope loops body line x) _ e))
few_of scope loops body line (ESelect z x y) e =
    narrow_line (width scope loops (ESelect z x y)) line
    (none_second (expr_faults scope loops body line y) _ (none_second (expr_faults scope loops body line x) _ (none_second (expr_faults scope loops body line z) _ e)))
few_of scope loops body line (ENot x) e = narrow_line (width scope loops (ENot x)) line (none_second (expr_faults scope loops body line x) _ e)
few_of scope loops body line (ENeg x) e = narrow_line (width scope loops (ENeg x)) line (none_second (expr_faults scope loops body line x) _ e)
few_of scope loops body line (EShift x left n) e =
    narrow_line (width scope loops (EShift x left n)) line
    (none_second (own_faults scope loops body line (EShift x left n)) _ (none_second (expr_faults scope loops body line x) _ e))
few_of scope loops body line (EBinary o x y) e =
    narrow_line (width scope loops (EBinary o x y)) line
    (none_second (own_faults scope loops body line (EBinary o x y)) _ (none_second (expr_faults scope loops body line y) _ (none_second (expr_faults scope loops body line x) _ e)))

-- an operand in a state: safe, with its value within its width
pub record Operand (scope : Scope) (loops : List OpenLoop) (e : PureExpr) (node : Node) (part : ℕ) (turns : List ℕ) (s : State) : Type 0 where
  pub safe : IsSafe node s turns
  pub num : node_value node s turns ≡ (value scope loops turns s e).num
  pub frac : (value scope loops turns s e).frac ≡ part
  pub part_is : part ≡ (width scope loops e).part
  pub small : unsigned_abs (value scope loops turns s e).num ≤ 2 ^ ((width scope loops e).whole + part)
  pub few : (width scope loops e).whole + part ≤ 120

pub operand : (scope : Scope) (loops : List OpenLoop) (body : Part) (line : ℕ) (e : PureExpr) (node : Node) (part : ℕ) (turns : List ℕ) (s : State)
    → Computes scope loops e node part → expr_faults scope loops body line e ≡ [] → IsAt scope loops turns s → Operand scope loops e node part turns s
operand scope loops body line e node part turns s computes none at =
    let given = computes.gives body line turns s none at in
    let is = computes.part_is body line none in
    let bound = within scope loops body line e turns s at.sound none at.state at.running in
    record {
      safe = given.safe;
      num = given.num;
      frac = bound.frac ∙ sym is;
      part_is = is;
      small = subst (λ p. unsigned_abs (value scope loops turns s e).num ≤ 2 ^ ((width scope loops e).whole + p)) (sym is) bound.within;
      few = subst (λ p. (width scope loops e).whole + p ≤ 120) (sym is) (few_of scope loops body line e none);
    }

pub below_most : (n m : ℕ) → n ≤ 120 → m ≤ 2 ^ n → m ≤ 2 ^ 120
below_most n m few small = let power : 2 ^ n ≤ 2 ^ 120 = pow-le-pow_right (omega arith) few in omega (arith, power, small)

-- both operands at the finer last place stay below 2 ^ 120
pub both_raised : (u v : ℤ) (i f j g : ℕ) → unsigned_abs u ≤ 2 ^ (i + f) → unsigned_abs v ≤ 2 ^ (j + g) → max i j + max f g ≤ 120
    → IsRaised u (max f g - f) × IsRaised v (max f g - g)
both_raised u v i f j g small small' count =
    let two = aligned u v i f j g small small' in
    let first : unsigned_abs u * 2 ^ (max f g - f) ≤ 2 ^ (max i j + max f g) = rw abs_times at two.0 in
    let second : unsigned_abs v * 2 ^ (max f g - g) ≤ 2 ^ (max i j + max f g) = rw abs_times at two.1 in
    ((omega (arith, count), below_most _ _ count first), (omega (arith, count), below_most _ _ count second))

pub product_few : (a b i f j g : ℕ) → a ≤ 2 ^ (i + f) → b ≤ 2 ^ (j + g) → i + j + (f + g) ≤ 120 → a * b ≤ 2 ^ 120
product_few a b i f j g small small' count =
    let times : a * b ≤ 2 ^ (i + f) * 2 ^ (j + g) = mul-le-mul small small' in
    let power : 2 ^ (i + f) * 2 ^ (j + g) ≡ 2 ^ (i + j + (f + g)) = sym (pow-add 2 (i + f) (j + g)) ∙ ap (λ n. 2 ^ n) (omega arith) in
    below_most (i + j + (f + g)) (a * b) count (omega (arith, times, power))
