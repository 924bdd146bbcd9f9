-- One column more that may differ.
use Rattle.std.proofs.Common.{◌≡◌, ℕ, ◌+◌, false, ◌||◌, not, Option, List, refl, add-one}
use Rattle.tdf_fixed.specs.declared.raw.Raw.{Raw}
use Rattle.tdf_trace.specs.Tables.{cell_in_row}
use Rattle.tdf_trace.specs.Vcd.{column_differs, is_same}

pub differs_none : (before now : List (Option Raw)) → column_differs before now 0 ≡ false
unfolding column_differs
differs_none before now = refl

pub differs_more : (before now : List (Option Raw)) (n : ℕ) → column_differs before now (n + 1) ≡ (column_differs before now n || not (is_same (cell_in_row before n) (cell_in_row now n)))
unfolding column_differs
differs_more before now n = rw (add-one n) refl

pub ruleset differ_laws = (differs_none, differs_more)
