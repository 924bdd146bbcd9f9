-- The count of runs: its tests, and one more.
use Rattle.std.proofs.Common.{◌≡◌, ◌∙◌, ℕ, ◌+◌, ◌*◌, ◌<◌, Bool, true, false, nat_eq, List, length, Option, Some, refl, ap, arith, ℤ, pos, negsuc, ◌+ℤ◌, ◌*ℤ◌, ◌≤ℤ◌}
use Rattle.std.proofs.lemmas.Bool.Decides.{Decides-eqb, Decides-int_eq, Decides-like, same_from_decides}
use Rattle.std.proofs.lemmas.Int.{ints}
use Rattle.std.specs.Ordering.{int_eq}
use Rattle.std.specs.Prelude.{codes}
use Rattle.tdf_base.specs.Number.{numeral_of}
use Rattle.tdf_expr_semantics.specs.Bodies.{assigned, assigned_at, with_element}
use Rattle.tdf_expr_semantics.specs.Value.{cast_number, combined, element, element_at, holds, of_digits, of_shape, own_value, truth, whole_number}
use Rattle.tdf_expr_state.specs.State.{State, cell_at}
use Rattle.tdf_expr_symbols.specs.Names.{Names, Thing, found_at}
use Rattle.tdf_fixed.proofs.Api.{kept, placed_up}
use Rattle.tdf_fixed.specs.CastLaws.{least_kept}
use Rattle.tdf_fixed.specs.Literal.{exact_of, least_fraction, literal_exact, literal_of}
use Rattle.tdf_fixed.specs.Overflow.{most, overflowed}
use Rattle.tdf_fixed.specs.Quantise.{requantised}
use Rattle.tdf_fixed.specs.declared.over.Over.TheVariants.{Wrap}
use Rattle.tdf_fixed.specs.declared.quant.Quant.TheVariants.{Trn}
use Rattle.tdf_fixed.specs.declared.raw.Raw.{Raw}
use Rattle.tdf_lang_tree.specs.declared.expr.Op.TheVariants as op
use Rattle.tdf_stim.specs.Signals.{Column, count_shape}
use Rattle.tdf_stim_body.proofs.Numbers.{count_first}
use Rattle.tdf_stim_body.specs.Names.{HasDriverNames, IsNameAt, count_thing}
use Rattle.tdf_stim_body.specs.Runs.{count_cell}

-- what a name of a place gives and takes
pub own_at : (own : Names) (s : State) (name : List ℕ) (n k : ℕ) (thing : Thing) → IsNameAt own name n thing → own_value own s name (pos k) ≡ element own s n thing k
own_at own s name n k thing stands =
    ap (λ (o : Option ℕ). element_at own s o (found_at own.things o) (pos k)) stands.place
    ∙ ap (λ (t : Option Thing). element_at own s (Some n) t (pos k)) stands.is

pub assigned_is : (own : Names) (s : State) (name : List ℕ) (n k : ℕ) (thing : Thing) (v : Raw) → IsNameAt own name n thing → assigned own name (pos k) v s ≡ with_element own n thing k v s
assigned_is own s name n k thing v stands =
    ap (λ (o : Option ℕ). assigned_at own o (found_at own.things o) (pos k) v s) stands.place
    ∙ ap (λ (t : Option Thing). assigned_at own (Some n) t (pos k) v s) stands.is

-- the value of the count
pub count_is : (own : Names) (columns : List Column) (rows m : ℕ) (s : State) → HasDriverNames own columns rows → cell_at s.frame.cells (count_cell columns rows) ≡ pos m
    → own_value own s (codes "k") (pos 0) ≡ whole_number (pos m)
count_is own columns rows m s names is =
    let first = count_first own columns rows names in
    let place : count_cell columns rows + 0 ≡ count_cell columns rows = omega arith in
    own_at own s (codes "k") (2 * length columns) 0 count_thing names.count
    ∙ ap (λ p. of_shape (Some count_shape) (cell_at s.frame.cells (p + 0))) first
    ∙ ap (λ p. of_shape (Some count_shape) (cell_at s.frame.cells p)) place
    ∙ ap (λ (z : ℤ). of_shape (Some count_shape) z) is

pub zero_is : of_digits (exact_of (codes "0")) ≡ whole_number (pos 0)
unfolding exact_of literal_of numeral_of literal_exact least_fraction
zero_is = refl

pub one_is : of_digits (exact_of (codes "1")) ≡ whole_number (pos 1)
unfolding exact_of literal_of numeral_of literal_exact least_fraction
one_is = refl

times_one : (n : ℤ) → n *ℤ pos 1 ≡ n
times_one (pos n) = omega (arith, ints)
times_one (negsuc n) = omega (arith, ints)

holds_truth : (b : Bool) → holds (truth b) ≡ b
holds_truth true = refl
holds_truth false = refl

pos_same : (m n : ℕ) → pos m ≡ pos n → m ≡ n
pos_same m n e = cc

int_eq_pos : (m n : ℕ) → int_eq (pos m) (pos n) ≡ nat_eq m n
int_eq_pos m n = same_from_decides {P = m ≡ n} (int_eq (pos m) (pos n)) (nat_eq m n)
    (Decides-like {P = pos m ≡ pos n} {Q = m ≡ n} (int_eq (pos m) (pos n)) (pos_same m n) (λ e. ap pos e) (Decides-int_eq (pos m) (pos n))) (Decides-eqb m n)

-- whether two whole numbers are equal
pub same_count : (m n : ℕ) → holds (combined op.Eq (whole_number (pos m)) (whole_number (pos n))) ≡ nat_eq m n
same_count m n = holds_truth (int_eq (pos m *ℤ pos 1) (pos n *ℤ pos 1))
    ∙ ap (λ (z : ℤ). int_eq z (pos n *ℤ pos 1)) (times_one (pos m)) ∙ ap (λ (z : ℤ). int_eq (pos m) z) (times_one (pos n)) ∙ int_eq_pos m n

placed_same : (num : ℤ) → requantised Trn num 0 0 ≡ num
placed_same num = placed_up Trn num 0 0 (omega arith) ∙ times_one num

-- one more
pub next_count : (m : ℕ) → m < 4096 → cast_number count_shape (combined op.Add (whole_number (pos m)) (whole_number (pos 1))) ≡ pos (m + 1)
next_count m few =
    let sum : (pos m *ℤ pos 1) +ℤ (pos 1 *ℤ pos 1) ≡ pos (m + 1) = ap (λ (z : ℤ). z +ℤ (pos 1 *ℤ pos 1)) (times_one (pos m)) in
    let low : least_kept Wrap true 16 ≤ℤ pos (m + 1) = omega (arith, ints) in
    let high : pos (m + 1) ≤ℤ most true 16 = omega (arith, ints, few) in
    ap (λ (z : ℤ). overflowed Wrap true 16 z) (placed_same ((pos m *ℤ pos 1) +ℤ (pos 1 *ℤ pos 1)) ∙ sum)
    ∙ kept Wrap true 16 (pos (m + 1)) (omega arith) low high
