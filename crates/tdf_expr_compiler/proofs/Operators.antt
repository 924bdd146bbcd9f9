-- Each operator's code.
use Rattle.std.proofs.Common.{◌≡◌, ◌∙◌, ℕ, zero, suc, ◌+◌, ◌-◌, ◌*◌, ◌^◌, ◌≤◌, Bool, true, false, Option, Some, None, List, [], max, min, ℤ, pos, negsuc, unsigned_abs, neg_ℤ, Box, Global, refl, sym, ap, arith}
use Rattle.std.proofs.lemmas.Bool.Decides.{Decides-int_eq, nat_tests}
use Rattle.std.proofs.lemmas.Int.{ints}
use Rattle.std.specs.Ordering.{int_eq}
use Rattle.std.proofs.Math.Nat.{mul-le-mul_right}
use Rattle.std.proofs.lemmas.Nat.{pow-add}
use Rattle.std.specs.Prelude.{not, ◌&&◌, nat_lt}
use Rattle.tdf_base.specs.declared.codes.Code.TheVariants as code
use Rattle.tdf_expr_compiler.proofs.Literals.{same_fraction, same_cast}
use Rattle.tdf_expr_compiler.proofs.Operands.{Operand, operand, few_of, narrow, narrow_line, both_raised, product_few, below_most}
use Rattle.tdf_expr_compiler.specs.machine.Combined.{AreFew, IsCombined, IsChoice, IsOpposite, combined_number}
use Rattle.tdf_expr_compiler.specs.machine.Computed.{Computes}
use Rattle.tdf_expr_compiler.specs.Formats.{IsFormatOf}
use Rattle.tdf_base.proofs.Api.{if_none, none_first, none_second}
use Rattle.tdf_fixed.specs.Cast.{cast_of, IsLegal}
use Rattle.tdf_fixed.specs.declared.format.Format.{Format}
use Rattle.tdf_fixed.specs.declared.raw.Raw.{Raw}
use Rattle.tdf_expr_machine.specs.Nodes.{is_true, IsRaised, IsCastable}
use Rattle.tdf_expr_machine.specs.declared.nodes.Node.{Node}
use Rattle.tdf_expr_machine.specs.declared.nodes.Node.TheVariants.{Const, Not', Negative', Up', Cast'}
use Rattle.tdf_expr_semantics.proofs.Api.{global_sound}
use Rattle.tdf_expr_semantics.specs.Value.{value, combined, cast_in}
use Rattle.tdf_expr_symbols.specs.Faults.{cast_shape, expr_faults, own_faults, is_wide, is_wide_cast, is_comparison}
use Rattle.tdf_expr_symbols.specs.Index.{kind_faults}
use Rattle.tdf_expr_symbols.specs.Names.{Thing, TypeName, thing_of, type_shape}
use Rattle.tdf_expr_symbols.specs.Scope.{Scope, OpenLoop}
use Rattle.tdf_expr_symbols.specs.Sound.{IsSound}
use Rattle.tdf_expr_symbols.specs.Width.{Width, width, joint, of_binary, width_of_shape, fraction_bits}
use Rattle.tdf_expr_symbols.specs.declared.kinds.Part.{Part}
use Rattle.tdf_expr_symbols.specs.declared.kinds.Place.TheVariants as place
use Rattle.tdf_expr_state.specs.State.{State}
use Rattle.tdf_lang_tree.specs.Pure.{PureExpr, ECast, ESelect, ENot, ENeg, EShift, EBinary}
use Rattle.tdf_lang_tree.specs.declared.expr.Op.{Op}
use Rattle.tdf_lang_tree.specs.declared.expr.Op.TheVariants as op
use Rattle.tdf_lang_tree.specs.declared.shapes.Shape.{Shape}

type_of : (o : Option Thing) (s : Shape) → type_shape o ≡ Some s → o ≡ Some (TypeName s)
type_of (Some (TypeName t)) s e = ap (λ (o : Option Shape). named o) e
  where
    named : Option Shape → Option Thing
    named None = None
    named (Some x) = Some (TypeName x)
type_of None s e = absurd cc
type_of (Some _) s e = absurd cc

-- a cast's format is legal
pub cast_legal : (scope : Scope) (name : List ℕ) (s : Shape) → IsSound scope → cast_shape scope name ≡ Some s → IsLegal s.wl s.iwl
cast_legal scope name s sound e = global_sound scope sound name (TypeName s) (type_of (thing_of scope.globals name) s e)

is_false : (b : Bool) → (b ≡ true → ⊥) → b ≡ false
is_false true never = absurd (never refl)
is_false false never = refl

pub same_holds : (z : ℤ) → is_true z ≡ not (int_eq z (pos 0))
same_holds (pos zero) = refl
same_holds (pos (suc n)) = ap not (sym (is_false (int_eq (pos (suc n)) (pos 0)) (λ e. some n ((Decides-int_eq (pos (suc n)) (pos 0)).0 e))))
  where
    some : (n : ℕ) → pos (suc n) ≡ pos 0 → ⊥
    some n e = omega (arith, ints, e)
same_holds (negsuc n) = ap not (sym (is_false (int_eq (negsuc n) (pos 0)) (λ e. some n ((Decides-int_eq (negsuc n) (pos 0)).0 e))))
  where
    some : (n : ℕ) → negsuc n ≡ pos 0 → ⊥
    some n e = omega (arith, ints, e)

-- the parts of an operator without a fault
pub record AreSides (scope : Scope) (loops : List OpenLoop) (body : Part) (line : ℕ) (o : Op) (x y : PureExpr) : Type 0 where
  pub first : expr_faults scope loops body line x ≡ []
  pub second : expr_faults scope loops body line y ≡ []
  pub own : is_comparison o && is_wide (joint (width scope loops x) (width scope loops y)) ≡ false
  pub few : (of_binary o (width scope loops x) (width scope loops y)).whole + (of_binary o (width scope loops x) (width scope loops y)).part ≤ 120

sides : (scope : Scope) (loops : List OpenLoop) (body : Part) (line : ℕ) (o : Op) (x y : PureExpr) → expr_faults scope loops body line (EBinary o x y) ≡ []
    → AreSides scope loops body line o x y
unfolding expr_faults
sides scope loops body line o x y none =
    let more = none_second (expr_faults scope loops body line x) _ none in
    let last = none_second (expr_faults scope loops body line y) _ more in
    record {
      first = none_first _ _ none;
      second = none_first _ _ more;
      own = if_none (is_comparison o && is_wide (joint (width scope loops x) (width scope loops y))) code.Wide line (none_first _ _ last);
      few = narrow_line (of_binary o (width scope loops x) (width scope loops y)) line (none_second (own_faults scope loops body line (EBinary o x y)) _ last);
    }

-- operators that want one last place for both operands
abbrev IsAligned : Op → Type 0
IsAligned op.Or = ⊥
IsAligned op.And = ⊥
IsAligned op.Mul = ⊥
IsAligned _ = Unit {0}

-- the joint width of operands that are moved to one last place
joint_few : (o : Op) (v w : Width) → is_comparison o && is_wide (joint v w) ≡ false → (of_binary o v w).whole + (of_binary o v w).part ≤ 120
    → IsAligned o → max v.whole w.whole + max v.part w.part ≤ 120
joint_few op.Lt v w own few so = narrow (joint v w) own
joint_few op.Le v w own few so = narrow (joint v w) own
joint_few op.Eq v w own few so = narrow (joint v w) own
joint_few op.Ne v w own few so = narrow (joint v w) own
joint_few op.Gt v w own few so = narrow (joint v w) own
joint_few op.Ge v w own few so = narrow (joint v w) own
joint_few op.Add v w own few so = omega (arith, few)
joint_few op.Sub v w own few so = omega (arith, few)
joint_few op.Or v w own few so = absurd so
joint_few op.And v w own few so = absurd so
joint_few op.Mul v w own few so = absurd so

module _ (scope : Scope) (loops : List OpenLoop) (x y : PureExpr) (a b : Node) (f g : ℕ) where
  operands_few : (o : Op) (turns : List ℕ) (s : State) → Operand scope loops x a f turns s → Operand scope loops y b g turns s
      → is_comparison o && is_wide (joint (width scope loops x) (width scope loops y)) ≡ false
      → (of_binary o (width scope loops x) (width scope loops y)).whole + (of_binary o (width scope loops x) (width scope loops y)).part ≤ 120
      → AreFew o (value scope loops turns s x).num (max f g - f) (value scope loops turns s y).num (max f g - g)
  operands_few o turns s left right own few = go o own few
    where
      i : ℕ
      i = (width scope loops x).whole

      j : ℕ
      j = (width scope loops y).whole

      aligned_few : (o : Op) → is_comparison o && is_wide (joint (width scope loops x) (width scope loops y)) ≡ false
          → (of_binary o (width scope loops x) (width scope loops y)).whole + (of_binary o (width scope loops x) (width scope loops y)).part ≤ 120
          → IsAligned o → IsRaised (value scope loops turns s x).num (max f g - f) × IsRaised (value scope loops turns s y).num (max f g - g)
      aligned_few o own few so =
          both_raised (value scope loops turns s x).num (value scope loops turns s y).num i f j g left.small right.small
          (rw (left.part_is, right.part_is) (joint_few o (width scope loops x) (width scope loops y) own few so))

      go : (o : Op) → is_comparison o && is_wide (joint (width scope loops x) (width scope loops y)) ≡ false
          → (of_binary o (width scope loops x) (width scope loops y)).whole + (of_binary o (width scope loops x) (width scope loops y)).part ≤ 120
          → AreFew o (value scope loops turns s x).num (max f g - f) (value scope loops turns s y).num (max f g - g)
      go op.Or own few = tt
      go op.And own few = tt
      go op.Mul own few = product_few _ _ i f j g left.small right.small (rw (left.part_is, right.part_is) few)
      go op.Lt own few = aligned_few op.Lt own few tt
      go op.Le own few = aligned_few op.Le own few tt
      go op.Eq own few = aligned_few op.Eq own few tt
      go op.Ne own few = aligned_few op.Ne own few tt
      go op.Gt own few = aligned_few op.Gt own few tt
      go op.Ge own few = aligned_few op.Ge own few tt
      go op.Add own few = aligned_few op.Add own few tt
      go op.Sub own few = aligned_few op.Sub own few tt

  -- the number of an operator is that of its definition
  number_is : (o : Op) (p q : Raw) → p.frac ≡ f → q.frac ≡ g → combined_number o p.num (max f g - f) q.num (max f g - g) ≡ (combined o p q).num
  number_is op.Or p q pf qf = rw (same_holds p.num, same_holds q.num) refl
  number_is op.And p q pf qf = rw (same_holds p.num, same_holds q.num) refl
  number_is op.Mul p q pf qf = refl
  number_is op.Lt p q pf qf = rw (pf, qf) refl
  number_is op.Le p q pf qf = rw (pf, qf) refl
  number_is op.Eq p q pf qf = rw (pf, qf) refl
  number_is op.Ne p q pf qf = rw (pf, qf) refl
  number_is op.Gt p q pf qf = rw (pf, qf) refl
  number_is op.Ge p q pf qf = rw (pf, qf) refl
  number_is op.Add p q pf qf = rw (pf, qf) refl
  number_is op.Sub p q pf qf = rw (pf, qf) refl

  part_binary : (o : Op) (v w : Width) → f ≡ v.part → g ≡ w.part → (of_binary o v w).whole + (of_binary o v w).part ≤ 120
      → min (of_binary o (record { whole = 0; part = f }) (record { whole = 0; part = g })).part 255 ≡ (of_binary o v w).part
  part_binary op.Add v w fv gw few = omega (arith, fv, gw, few)
  part_binary op.Sub v w fv gw few = omega (arith, fv, gw, few)
  part_binary op.Mul v w fv gw few = omega (arith, fv, gw, few)
  part_binary op.Or v w fv gw few = refl
  part_binary op.And v w fv gw few = refl
  part_binary op.Lt v w fv gw few = refl
  part_binary op.Le v w fv gw few = refl
  part_binary op.Eq v w fv gw few = refl
  part_binary op.Ne v w fv gw few = refl
  part_binary op.Gt v w fv gw few = refl
  part_binary op.Ge v w fv gw few = refl

  pub computes_binary : (o : Op) (node : Node) → IsCombined o a (max f g - f) b (max f g - g) node → Computes scope loops x a f → Computes scope loops y b g
      → Computes scope loops (EBinary o x y) node (min (of_binary o (record { whole = 0; part = f }) (record { whole = 0; part = g })).part 255)
  computes_binary o node combines left right = record {
    part_is = λ body line none.
        let parts = sides scope loops body line o x y none in
        part_binary o (width scope loops x) (width scope loops y) (left.part_is body line parts.first) (right.part_is body line parts.second) parts.few;
    gives = λ body line turns s none at.
        let parts = sides scope loops body line o x y none in
        let first = operand scope loops body line x a f turns s left parts.first at in
        let second = operand scope loops body line y b g turns s right parts.second at in
        let few = operands_few o turns s first second parts.own parts.few in
        record {
          safe = combines.safe turns s first.safe second.safe (rw (first.num, second.num) few);
          num = combines.num turns s ∙ rw (first.num, second.num) (number_is o (value scope loops turns s x) (value scope loops turns s y) first.frac second.frac);
        };
  }

-- operators with one operand
module _ (scope : Scope) (loops : List OpenLoop) (x : PureExpr) (a : Node) (f : ℕ) where
  inner_not : (body : Part) (line : ℕ) → expr_faults scope loops body line (ENot x) ≡ [] → expr_faults scope loops body line x ≡ []
  unfolding expr_faults
  inner_not body line none = none_first _ _ none

  inner_neg : (body : Part) (line : ℕ) → expr_faults scope loops body line (ENeg x) ≡ [] → expr_faults scope loops body line x ≡ []
  unfolding expr_faults
  inner_neg body line none = none_first _ _ none

  inner_shift : (body : Part) (line : ℕ) (left : Bool) (n : ℕ) → expr_faults scope loops body line (EShift x left n) ≡ [] → expr_faults scope loops body line x ≡ []
  unfolding expr_faults
  inner_shift body line left n none = none_first _ _ none

  inner_cast : (body : Part) (line : ℕ) (name : List ℕ) → expr_faults scope loops body line (ECast name x) ≡ [] → expr_faults scope loops body line x ≡ []
  unfolding expr_faults
  inner_cast body line name none = none_first _ _ none

  own_cast : (body : Part) (line : ℕ) (name : List ℕ) → expr_faults scope loops body line (ECast name x) ≡ [] → is_wide_cast (cast_shape scope name) (width scope loops x) ≡ false
  unfolding expr_faults
  own_cast body line name none =
      if_none (is_wide_cast (cast_shape scope name) (width scope loops x)) code.WideCast line
      (none_second (kind_faults place.Format (thing_of scope.globals name) line) _ (none_first (own_faults scope loops body line (ECast name x)) _ (none_second (expr_faults scope loops body line x) _ none)))

  pub computes_not : (p : Box (Unit {0}) Global) → Computes scope loops x a f → Computes scope loops (ENot x) (Not' p a) 0
  computes_not p inner = record {
    part_is = λ body line none. refl;
    gives = λ body line turns s none at.
        let given = inner.gives body line turns s (inner_not body line none) at in
        record { safe = given.safe; num = rw (given.num, same_holds (value scope loops turns s x).num) refl };
  }

  pub computes_negative : (p : Box (Unit {0}) Global) → Computes scope loops x a f → Computes scope loops (ENeg x) (Negative' p a) f
  computes_negative p inner = record {
    part_is = λ body line none. inner.part_is body line (inner_neg body line none);
    gives = λ body line turns s none at.
        let given = operand scope loops body line x a f turns s inner (inner_neg body line none) at in
        record { safe = (given.safe, rw given.num (below_most _ _ given.few given.small)); num = ap neg_ℤ given.num };
  }

  pub computes_opposite : (num : ℤ) → IsOpposite a num → Computes scope loops x a f → Computes scope loops (ENeg x) (Const num) f
  computes_opposite num opposite inner = record {
    part_is = λ body line none. inner.part_is body line (inner_neg body line none);
    gives = λ body line turns s none at.
        let given = operand scope loops body line x a f turns s inner (inner_neg body line none) at in
        record { safe = record {}; num = opposite.is turns s ∙ ap neg_ℤ given.num };
  }

  pub computes_up : (p : Box (Unit {0}) Global) (n : ℕ) → Computes scope loops x a f → Computes scope loops (EShift x true n) (Up' p a (min n 8192)) f
  computes_up p n inner = record {
    part_is = λ body line none. inner.part_is body line (inner_shift body line true n none);
    gives = λ body line turns s none at.
        let given = operand scope loops body line x a f turns s inner (inner_shift body line true n none) at in
        let few = few_of scope loops body line (EShift x true n) none in
        let i = (width scope loops x).whole in
        let count : i + n + f ≤ 120 = rw given.part_is few in
        let same : min n 8192 ≡ n = omega (arith, count) in
        let u = (value scope loops turns s x).num in
        let times : unsigned_abs u * 2 ^ n ≤ 2 ^ (i + f) * 2 ^ n = mul-le-mul_right (2 ^ n) given.small in
        let power : 2 ^ (i + f) * 2 ^ n ≡ 2 ^ (i + n + f) = sym (pow-add 2 (i + f) n) ∙ ap (λ k. 2 ^ k) (omega arith) in
        let high : unsigned_abs u * 2 ^ n ≤ 2 ^ 120 = below_most (i + n + f) (unsigned_abs u * 2 ^ n) count (omega (arith, times, power)) in
        record {
          safe = (given.safe, rw (same, given.num) (omega (arith, count), high));
          num = rw (same, given.num) refl;
        };
  }

  pub computes_down : (n : ℕ) → Computes scope loops x a f → Computes scope loops (EShift x false n) a (min (f + min n 255) 255)
  computes_down n inner = record {
    part_is = λ body line none.
        let few = few_of scope loops body line (EShift x false n) none in
        let is = inner.part_is body line (inner_shift body line false n none) in
        omega (arith, few, is);
    gives = λ body line turns s none at.
        let given = inner.gives body line turns s (inner_shift body line false n none) at in
        record { safe = given.safe; num = given.num };
  }

  cast_few : (s : Shape) → is_wide_cast (Some s) (width scope loops x) ≡ false → (width scope loops x).whole + max (width scope loops x).part (fraction_bits s) ≤ 120
  cast_few s e = let test : nat_lt 120 ((width scope loops x).whole + max (width scope loops x).part (fraction_bits s)) ≡ false = e in grind (arith, nat_tests)

  -- what a cast moves up stays below 2 ^ 120
  pub castable : (u : ℤ) (i p g : ℕ) → i + max p g ≤ 120 → unsigned_abs u ≤ 2 ^ (i + p) → IsCastable u p g
  castable u i p g few small =
      let times : unsigned_abs u * 2 ^ (g - p) ≤ 2 ^ (i + p) * 2 ^ (g - p) = mul-le-mul_right (2 ^ (g - p)) small in
      let power : 2 ^ (i + p) * 2 ^ (g - p) ≡ 2 ^ (i + p + (g - p)) = sym (pow-add 2 (i + p) (g - p)) in
      let count : i + p + (g - p) ≤ 120 = omega (arith, few) in
      (omega (arith, few), below_most (i + p + (g - p)) (unsigned_abs u * 2 ^ (g - p)) count (omega (arith, times, power)))

  pub computes_cast : (p : Box (Unit {0}) Global) (name : List ℕ) (shape : Shape) (format : Format) → IsFormatOf shape format → IsLegal shape.wl shape.iwl
      → cast_shape scope name ≡ Some shape → Computes scope loops x a f → Computes scope loops (ECast name x) (Cast' p a f format) (min (width_of_shape (Some shape)).part 255)
  computes_cast p name shape format is legal named inner = record {
    part_is = λ body line none. omega (arith, legal.fraction_bits, ap (λ o. (width_of_shape o).part) named);
    gives = λ body line turns s none at.
        let given = operand scope loops body line x a f turns s inner (inner_cast body line name none) at in
        let wide = cast_few shape (ap (λ o. is_wide_cast o (width scope loops x)) (sym named) ∙ own_cast body line name none) in
        let v = value scope loops turns s x in
        let able = castable v.num (width scope loops x).whole f (fraction_bits shape) (rw given.part_is wide) given.small in
        record {
          safe = (given.safe, rw (given.num, same_fraction shape format is) able);
          num = rw given.num (ap (cast_of format v.num) (sym given.frac) ∙ same_cast shape format v is ∙ sym (ap (λ o. (cast_in o v).num) named));
        };
  }

  pub computes_no_cast : (name : List ℕ) → cast_shape scope name ≡ None → Computes scope loops (ECast name x) (Const (pos 0)) 0
  computes_no_cast name named = record {
    part_is = λ body line none. sym (ap (λ o. (width_of_shape o).part) named);
    gives = λ body line turns s none at. record { safe = tt; num = sym (ap (λ o. (cast_in o (value scope loops turns s x)).num) named) };
  }

-- `select`
record AreParts (scope : Scope) (loops : List OpenLoop) (body : Part) (line : ℕ) (z x y : PureExpr) : Type 0 where
  test : expr_faults scope loops body line z ≡ []
  first : expr_faults scope loops body line x ≡ []
  second : expr_faults scope loops body line y ≡ []

parts_of : (scope : Scope) (loops : List OpenLoop) (body : Part) (line : ℕ) (z x y : PureExpr) → expr_faults scope loops body line (ESelect z x y) ≡ []
    → AreParts scope loops body line z x y
unfolding expr_faults
parts_of scope loops body line z x y none =
    let more = none_second (expr_faults scope loops body line z) _ none in
    let last = none_second (expr_faults scope loops body line x) _ more in
    record { test = none_first _ _ none; first = none_first _ _ more; second = none_first _ _ last }

pub computes_choice : (scope : Scope) (loops : List OpenLoop) (z x y : PureExpr) (c a b node : Node) (h f g : ℕ) → IsChoice c a (max f g - f) b (max f g - g) node
    → Computes scope loops z c h → Computes scope loops x a f → Computes scope loops y b g → Computes scope loops (ESelect z x y) node (max f g)
computes_choice scope loops z x y c a b node h f g chooses test left right = record {
  part_is = λ body line none.
      let parts = parts_of scope loops body line z x y none in
      rw (left.part_is body line parts.first, right.part_is body line parts.second) refl;
  gives = λ body line turns s none at.
      let parts = parts_of scope loops body line z x y none in
      let zeroth = test.gives body line turns s parts.test at in
      let first = operand scope loops body line x a f turns s left parts.first at in
      let second = operand scope loops body line y b g turns s right parts.second at in
      let few = few_of scope loops body line (ESelect z x y) none in
      let u = (value scope loops turns s x).num in
      let v = (value scope loops turns s y).num in
      let both = both_raised u v (width scope loops x).whole f (width scope loops y).whole g first.small second.small (rw (first.part_is, second.part_is) few) in
      record {
        safe = chooses.safe turns s zeroth.safe first.safe second.safe (rw first.num both.0) (rw second.num both.1);
        num = chooses.num turns s ∙ rw (zeroth.num, same_holds (value scope loops turns s z).num, first.num, second.num, first.frac, second.frac) refl;
      };
}
