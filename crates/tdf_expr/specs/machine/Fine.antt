-- A block that can be compiled (own): its names are sound, and its bodies have no fault and are
-- nested no deeper than may be.
use Rattle.tdf_base.specs.Limits.{deepest_nesting}
use Rattle.tdf_expr_compiler.specs.Promises.{AreFaultless}
use Rattle.tdf_expr.specs.Blocks.{PureBlock, Module, Events, scope_of, body_of}
use Rattle.tdf_expr.specs.declared.bodies.Body.{Body}
use Rattle.tdf_expr_symbols.specs.Names.{Names}
use Rattle.tdf_expr_symbols.specs.Sound.{IsSound}
use Rattle.tdf_lang_tree.specs.Kept.{KeepsStmts}
use Rattle.tdf_lang_tree.specs.Pure.{PureGlobal, GShape, GTdf, GDe, GNet}

pub record IsFine (globals : Names) (p : PureBlock) : Type 0 where
  pub sound : IsSound (scope_of globals p)
  pub faultless : (part : Body) → AreFaultless (scope_of globals p) (body_of p part)
  pub nested : (part : Body) → KeepsStmts deepest_nesting (body_of p part)

abbrev pub IsBlockFine : Names → PureGlobal → Type 0
IsBlockFine globals (GShape t) = Unit {0}
IsBlockFine globals (GTdf block) = IsFine globals (Module block)
IsBlockFine globals (GDe block) = IsFine globals (Events block)
IsBlockFine globals (GNet block) = Unit {0}
