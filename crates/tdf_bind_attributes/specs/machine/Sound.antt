-- What the blocks of a model need so that their roles can be told (own).
use Rattle.tdf_expr_symbols.specs.Names.{Names}
use Rattle.tdf_expr_symbols.specs.Scope.{tdf_scope}
use Rattle.tdf_expr_symbols.specs.Sound.{IsSound}
use Rattle.tdf_lang_tree.specs.Kept.{KeepsTdf}
use Rattle.tdf_lang_tree.specs.Pure.{PureGlobal, GShape, GTdf, GDe, GNet}

-- a module is kept, and its names are sound
abbrev pub IsGood : Names → PureGlobal → Type 0
IsGood globals (GShape t) = Unit {0}
IsGood globals (GTdf block) = IsSound (tdf_scope globals block) × KeepsTdf block
IsGood globals (GDe block) = Unit {0}
IsGood globals (GNet block) = Unit {0}
