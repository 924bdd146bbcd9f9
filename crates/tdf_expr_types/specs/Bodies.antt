-- The faults of a body (own).
use Rattle.std.specs.Prelude.{List, [], ◌++◌}
use Rattle.tdf_base.specs.declared.first.LineFault.{LineFault}
use Rattle.tdf_expr_symbols.specs.Faults.{stmts_faults}
use Rattle.tdf_expr_symbols.specs.Scope.{Scope}
use Rattle.tdf_expr_symbols.specs.Weight.{heavy_faults}
use Rattle.tdf_expr_symbols.specs.declared.kinds.Part.{Part}
use Rattle.tdf_lang_tree.specs.Pure.{PureBody}

-- those of its statements, outside of which no loop variable is open; and its weight
unfoldable pub body_faults : Scope → Part → PureBody → List LineFault
body_faults scope part body =
    stmts_faults scope part [] body.list ++ heavy_faults scope.own body
