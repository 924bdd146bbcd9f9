-- What the values of a name need to be made (own): a legal format, starting values that are
-- numbers, and limits in their order.
use Rattle.std.specs.Prelude.{◌≤◌}
use Rattle.tdf_base.specs.Limits.{greatest_rate}
use Rattle.tdf_expr_symbols.specs.Names.{Thing, Var, Array, Port, RateVar}
use Rattle.tdf_expr_symbols.specs.Sound.{HasFormat}
use Rattle.tdf_lang_tree.specs.Kept.{Each, KeepsLit}

abbrev pub AreStartsKept : Thing → Type 0
AreStartsKept (Var shape start) = HasFormat shape × KeepsLit start
AreStartsKept (Array shape size starts) = HasFormat shape × Each KeepsLit starts
AreStartsKept _ = Unit {0}

abbrev pub IsRateKept : Thing → Type 0
IsRateKept (RateVar least greatest start) =
    (least ≤ start) × (start ≤ greatest) × (greatest ≤ greatest_rate)
IsRateKept _ = Unit {0}

abbrev pub IsPortKept : Thing → Type 0
IsPortKept (Port word shape rate delay) = HasFormat shape
IsPortKept _ = Unit {0}
