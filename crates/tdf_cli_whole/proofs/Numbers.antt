-- Numbers of a format are in the range that the text of a snapshot has.
use Rattle.std.proofs.Common.{◌≡◌, ◌∙◌, ℕ, suc, ◌-◌, ◌^◌, ◌≤◌, Bool, true, false, ℤ, pos, negsuc, List, [], ◌∷◌, Option, Some, None, All, length, map, slice_get, refl, arith}
use Rattle.std.proofs.Math.Nat.{pow-le-pow_right}
use Rattle.std.proofs.lemmas.Int.{ints}
use Rattle.std.proofs.lemmas.List.{length-map}
use Rattle.std.proofs.lemmas.List.Elements.{All-weaker, recursion_from_All}
use Rattle.std.specs.List.{AllByRecursion}
use Rattle.std.specs.Prelude.{IfSome}
use Rattle.tdf_bind_connections.specs.declared.drivers.SignalRow.{SignalRow}
use Rattle.tdf_expr.specs.Plans.{shape_of_format, shape_written}
use Rattle.tdf_expr_semantics.specs.Fits.{NumbersFit}
use Rattle.tdf_expr_state.specs.State.{cell_at}
use Rattle.tdf_fixed.proofs.Api.{in_small}
use Rattle.tdf_fixed.specs.Overflow.{IsOfWidth}
use Rattle.tdf_fixed.specs.declared.format.Format.{Format}
use Rattle.tdf_lang_tree.specs.declared.shapes.Shape.{Shape}
use Rattle.tdf_save.specs.Members.{AreNums, IsNum}
use Rattle.tdf_sim_resumed.specs.Valid.{IsNumberFor}

-- ---- one number

num_in : (signed : Bool) (wl : ℕ) (z : ℤ) → 1 ≤ wl → wl ≤ 64 → IsOfWidth signed wl z → IsNum z
num_in signed wl (pos n) some few is = in_small signed wl (pos n) some few is
num_in true wl (negsuc n) some few is =
    let fewer : wl - 1 ≤ 63 = omega (arith, few) in
    let width : 2 ^ (wl - 1) ≤ 2 ^ 63 = pow-le-pow_right (omega arith) fewer in
    let low = is.low in omega (arith, ints, low, width)
num_in false wl (negsuc n) some few is = let low = is.low in absurd (omega (arith, ints, low))

pub of_format : (f : Format) (z : ℤ) → IsOfWidth f.signed f.wl z → IsNum z
of_format f z is = num_in f.signed f.wl z f.some_bits f.few_bits is

pub of_signal : (o : Option SignalRow) (z : ℤ) → IsNumberFor o z → IsNum z
of_signal None z is = absurd is
of_signal (Some row) z is = of_format row.format z is

-- ---- numbers of formats

each_num : (formats : List Format) (nums : List ℤ) → length nums ≡ length formats
    → ((j : ℕ) (s : Shape) → slice_get (map shape_written formats) j ≡ Some (Some s) → IsOfWidth s.signed s.wl (cell_at nums j)) → AllByRecursion IsNum nums
each_num formats [] long each = tt
each_num [] (x ∷ xs) long each = absurd (omega (arith, long))
each_num (f ∷ fs) (x ∷ xs) long each = (of_format f x (each 0 (shape_of_format f) refl), each_num fs xs (omega (arith, long)) (λ j s at. each (suc j) s at))

pub nums_fit : (formats : List Format) (nums : List ℤ) → NumbersFit (map shape_written formats) nums → AreNums (length formats) nums
nums_fit formats nums fit = record { many = many; each = each_num formats nums many fit.each }
  where
    many : length nums ≡ length formats
    many = fit.long ∙ length-map formats shape_written

-- numbers in the range of one format
pub all_of_format : (f : Format) (nums : List ℤ) → All (IsOfWidth f.signed f.wl) nums → AllByRecursion IsNum nums
all_of_format f nums all = recursion_from_All IsNum nums (All-weaker (IsOfWidth f.signed f.wl) IsNum (of_format f) nums all)

pub all_of_signal : (o : Option SignalRow) (nums : List ℤ) → All (IsNumberFor o) nums → AllByRecursion IsNum nums
all_of_signal o nums all = recursion_from_All IsNum nums (All-weaker (IsNumberFor o) IsNum (of_signal o) nums all)

-- a number that may be there
pub carried_in : (row : Option SignalRow) (o : Option ℤ) → ((num : ℤ) → o ≡ Some num → IsNumberFor row num) → IfSome o IsNum
carried_in row None in_format = tt
carried_in row (Some num) in_format = of_signal row num (in_format num refl)
