-- The faults of a form of an expression, given the widths of its parts (own).
use Rattle.std.specs.Prelude.{ℕ, Bool, ◌&&◌, List, ◌++◌, nat_lt}
use Rattle.tdf_base.specs.declared.codes.Code.TheVariants as code
use Rattle.tdf_base.specs.First.{fault_if}
use Rattle.tdf_base.specs.declared.first.LineFault.{LineFault}
use Rattle.tdf_expr_symbols.specs.Faults.{cast_shape, is_comparison, is_wide, is_wide_cast, wide_faults}
use Rattle.tdf_expr_symbols.specs.Index.{kind_faults}
use Rattle.tdf_expr_symbols.specs.Names.{thing_of}
use Rattle.tdf_expr_symbols.specs.Scope.{Scope}
use Rattle.tdf_expr_symbols.specs.Width.{Width, joint, of_binary, width_of_shape, of_shift}
use Rattle.tdf_expr_symbols.specs.declared.kinds.Place.TheVariants as place
use Rattle.tdf_lang_tree.specs.declared.expr.Op.{Op}

abbrev pub cast_faults : Scope → ℕ → List ℕ → Width → List LineFault
cast_faults scope line name w =
    (kind_faults place.Format (thing_of scope.globals name) line
    ++ fault_if (is_wide_cast (cast_shape scope name) w) code.WideCast line)
    ++ wide_faults (width_of_shape (cast_shape scope name)) line

abbrev pub shift_faults : ℕ → Bool → ℕ → Width → List LineFault
shift_faults line left n w =
    fault_if (nat_lt 63 n) code.Limit line ++ wide_faults (of_shift left n w) line

abbrev pub binary_faults : ℕ → Op → Width → Width → List LineFault
binary_faults line o v w =
    fault_if (is_comparison o && is_wide (joint v w)) code.Wide line
    ++ wide_faults (of_binary o v w) line
