use Rattle.std.proofs.Common.{◌≡◌, drop}
use Rattle.tdf_expr_symbols.specs.Names.{with_attrs}
use Rattle.tdf_expr_symbols.proofs.scope.apply_attrs.Given as goal

abbrev pub invariant-loop-attr : goal.invariant-loop-attr
invariant-loop-attr l = with_attrs (drop l.attr-index l.attr-items) l.table ≡ with_attrs l.attr-items l.initial.table
