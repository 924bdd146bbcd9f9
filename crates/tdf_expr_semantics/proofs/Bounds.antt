-- Each operator keeps its operands' widths.
use Rattle.std.proofs.Common.{◌≡◌, ◌∙◌, ℕ, ◌+◌, ◌-◌, ◌*◌, ◌^◌, ◌≤◌, ◌<◌, Bool, true, false, max, ℤ, pos, neg_ℤ, ◌+ℤ◌, ◌-ℤ◌, ◌*ℤ◌, unsigned_abs, Some, refl, sym, ap, arith}
use Rattle.std.proofs.Math.Nat.{pow-le-pow_right, mul-le-mul, mul-le-mul_right}
use Rattle.std.proofs.lemmas.Int.{ints, unsigned_abs-mul}
use Rattle.std.proofs.lemmas.Nat.{pow-add}
use Rattle.std.specs.Prelude.{if◌then◌else◌}
use Rattle.tdf_fixed.proofs.Api.{in_range, in_width}
use Rattle.tdf_fixed.specs.Cast.{IsLegal}
use Rattle.tdf_fixed.specs.Overflow.{IsOfWidth}
use Rattle.tdf_fixed.specs.declared.raw.Raw.{Raw}
use Rattle.tdf_expr_semantics.specs.Laws.{IsWithinWidth}
use Rattle.tdf_expr_semantics.specs.Value.{both, chosen, truth, shifted, of_shape, cast_in, cast_number}
use Rattle.tdf_expr_symbols.specs.Width.{Width, of_sum, of_product, of_truth, of_shift, joint, width_of_shape as width_of_shape}
use Rattle.tdf_lang_tree.specs.declared.shapes.Shape.{Shape}

-- moved up to more bits after the point a number stays within its width
pub raised : (x : ℤ) (i f j g : ℕ) → f ≤ g → i ≤ j → unsigned_abs x ≤ 2 ^ (i + f) → unsigned_abs x * 2 ^ (g - f) ≤ 2 ^ (j + g)
raised x i f j g fg ij small =
    let times : unsigned_abs x * 2 ^ (g - f) ≤ 2 ^ (i + f) * 2 ^ (g - f) = mul-le-mul_right (2 ^ (g - f)) small in
    let power : 2 ^ (i + f) * 2 ^ (g - f) ≡ 2 ^ (i + f + (g - f)) = sym (pow-add 2 (i + f) (g - f)) in
    let more : 2 ^ (i + f + (g - f)) ≤ 2 ^ (j + g) = pow-le-pow_right (omega arith) (omega arith) in
    omega arith

pub abs_times : (x : ℤ) (k : ℕ) → unsigned_abs (x *ℤ pos k) ≡ unsigned_abs x * k
abs_times x k = unsigned_abs-mul x (pos k)

pub twice : (n : ℕ) → 2 ^ n + 2 ^ n ≡ 2 ^ (n + 1)
twice n = omega (arith, pow-add 2 n 1)

pub adds : (x y : ℤ) (i f : ℕ) → unsigned_abs x ≤ 2 ^ (i + f) → unsigned_abs y ≤ 2 ^ (i + f) → unsigned_abs (x +ℤ y) ≤ 2 ^ (i + 1 + f)
adds x y i f p q =
    let power : 2 ^ (i + 1 + f) ≡ 2 ^ (i + f) + 2 ^ (i + f) = ap (λ n. 2 ^ n) (omega arith) ∙ sym (twice (i + f)) in
    let m = 2 ^ (i + f) in
    let two : unsigned_abs (x +ℤ y) ≤ m + m = omega (arith, ints, p, q) in
    omega (arith, two, power)

pub differs : (x y : ℤ) (i f : ℕ) → unsigned_abs x ≤ 2 ^ (i + f) → unsigned_abs y ≤ 2 ^ (i + f) → unsigned_abs (x -ℤ y) ≤ 2 ^ (i + 1 + f)
differs x y i f p q =
    let power : 2 ^ (i + 1 + f) ≡ 2 ^ (i + f) + 2 ^ (i + f) = ap (λ n. 2 ^ n) (omega arith) ∙ sym (twice (i + f)) in
    let m = 2 ^ (i + f) in
    let two : unsigned_abs (x -ℤ y) ≤ m + m = omega (arith, ints, p, q) in
    omega (arith, two, power)

pub either : (t : Bool) (x y : ℤ) (m : ℕ) → unsigned_abs x ≤ m → unsigned_abs y ≤ m → unsigned_abs (if t then x else y) ≤ m
either true x y m p q = p
either false x y m p q = q

-- both operands at the finer last place
pub aligned : (u v : ℤ) (i f j g : ℕ) → unsigned_abs u ≤ 2 ^ (i + f) → unsigned_abs v ≤ 2 ^ (j + g)
    → (unsigned_abs (u *ℤ pos (2 ^ (max f g - f))) ≤ 2 ^ (max i j + max f g)) × (unsigned_abs (v *ℤ pos (2 ^ (max f g - g))) ≤ 2 ^ (max i j + max f g))
aligned u v i f j g small small' =
    let up : unsigned_abs u * 2 ^ (max f g - f) ≤ 2 ^ (max i j + max f g) = raised u i f (max i j) (max f g) (omega arith) (omega arith) small in
    let up' : unsigned_abs v * 2 ^ (max f g - g) ≤ 2 ^ (max i j + max f g) = raised v j g (max i j) (max f g) (omega arith) (omega arith) small' in
    (rw (abs_times u (2 ^ (max f g - f))) up, rw (abs_times v (2 ^ (max f g - g))) up')

pub within_sum : (v w : Width) (a b : Raw) → IsWithinWidth v a → IsWithinWidth w b → IsWithinWidth (of_sum v w) (both (λ x y. x +ℤ y) a b)
within_sum v w a b p q =
    let two = aligned a.num b.num v.whole v.part w.whole w.part p.within q.within in
    record {
      frac = rw (p.frac, q.frac) refl;
      within = rw (p.frac, q.frac) (adds (a.num *ℤ pos (2 ^ (max v.part w.part - v.part))) (b.num *ℤ pos (2 ^ (max v.part w.part - w.part))) (max v.whole w.whole) (max v.part w.part) two.0 two.1);
    }

pub within_difference : (v w : Width) (a b : Raw) → IsWithinWidth v a → IsWithinWidth w b → IsWithinWidth (of_sum v w) (both (λ x y. x -ℤ y) a b)
within_difference v w a b p q =
    let two = aligned a.num b.num v.whole v.part w.whole w.part p.within q.within in
    record {
      frac = rw (p.frac, q.frac) refl;
      within = rw (p.frac, q.frac) (differs (a.num *ℤ pos (2 ^ (max v.part w.part - v.part))) (b.num *ℤ pos (2 ^ (max v.part w.part - w.part))) (max v.whole w.whole) (max v.part w.part) two.0 two.1);
    }

pub within_chosen : (t : Bool) (v w : Width) (a b : Raw) → IsWithinWidth v a → IsWithinWidth w b → IsWithinWidth (joint v w) (chosen t a b)
within_chosen t v w a b p q =
    let two = aligned a.num b.num v.whole v.part w.whole w.part p.within q.within in
    record {
      frac = rw (p.frac, q.frac) refl;
      within = rw (p.frac, q.frac) (either t (a.num *ℤ pos (2 ^ (max v.part w.part - v.part))) (b.num *ℤ pos (2 ^ (max v.part w.part - w.part))) (2 ^ (max v.whole w.whole + max v.part w.part)) two.0 two.1);
    }

pub within_product : (v w : Width) (a b : Raw) → IsWithinWidth v a → IsWithinWidth w b → IsWithinWidth (of_product v w) (record { num = a.num *ℤ b.num; frac = a.frac + b.frac })
within_product v w a b p q =
    let times : unsigned_abs a.num * unsigned_abs b.num ≤ 2 ^ (v.whole + v.part) * 2 ^ (w.whole + w.part) = mul-le-mul p.within q.within in
    let power : 2 ^ (v.whole + v.part) * 2 ^ (w.whole + w.part) ≡ 2 ^ (v.whole + w.whole + (v.part + w.part)) =
    sym (pow-add 2 (v.whole + v.part) (w.whole + w.part)) ∙ ap (λ n. 2 ^ n) (omega arith) in
    record { frac = rw (p.frac, q.frac) refl; within = rw (unsigned_abs-mul a.num b.num) (omega (arith, times, power)) }

pub within_truth : (t : Bool) → IsWithinWidth of_truth (truth t)
within_truth true = record { frac = refl; within = omega arith }
within_truth false = record { frac = refl; within = omega arith }

pub within_negative : (w : Width) (a : Raw) → IsWithinWidth w a → IsWithinWidth w (record { num = neg_ℤ a.num; frac = a.frac })
within_negative w a p = record { frac = p.frac; within = size a.num (2 ^ (w.whole + w.part)) p.within }
  where
    size : (x : ℤ) (m : ℕ) → unsigned_abs x ≤ m → unsigned_abs (neg_ℤ x) ≤ m
    size x m p = omega (arith, ints)

pub within_shift : (left : Bool) (n : ℕ) (w : Width) (a : Raw) → IsWithinWidth w a → IsWithinWidth (of_shift left n w) (shifted left n a)
within_shift true n w a p =
    let times : unsigned_abs a.num * 2 ^ n ≤ 2 ^ (w.whole + w.part) * 2 ^ n = mul-le-mul_right (2 ^ n) p.within in
    let power : 2 ^ (w.whole + w.part) * 2 ^ n ≡ 2 ^ (w.whole + n + w.part) = sym (pow-add 2 (w.whole + w.part) n) ∙ ap (λ k. 2 ^ k) (omega arith) in
    record { frac = p.frac; within = rw (abs_times a.num (2 ^ n)) (omega (arith, times, power)) }
within_shift false n w a p =
    let more : 2 ^ (w.whole + w.part) ≤ 2 ^ (w.whole + (w.part + n)) = pow-le-pow_right (omega arith) (omega arith) in
    record { frac = ap (λ k. k + n) p.frac; within = omega (arith, more, p.within) }

-- a number of a format
pub within_format : (s : Shape) (num : ℤ) → IsLegal s.wl s.iwl → IsOfWidth s.signed s.wl num → IsWithinWidth (width_of_shape (Some s)) (of_shape (Some s) num)
within_format s num legal is_in =
    let bits : s.iwl + (s.wl - s.iwl) ≡ s.wl = omega (arith, legal.whole_bits) in
    let small : unsigned_abs num < 2 ^ s.wl = in_width s.signed s.wl num legal.some_bits is_in in
    record { frac = refl; within = rw bits (omega (arith, small)) }

pub within_cast : (s : Shape) (a : Raw) → IsLegal s.wl s.iwl → IsWithinWidth (width_of_shape (Some s)) (cast_in (Some s) a)
within_cast s a legal = within_format s (cast_number s a) legal (in_range s.over s.signed s.wl _ legal.some_bits)
