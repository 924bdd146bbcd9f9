use Rattle.std.proofs.Common.{◌≡◌, drop}
use Rattle.std.specs.Prelude.{map}
use Rattle.tdf_expr_symbols.specs.Names.{with_globals}
use Rattle.tdf_lang_tree.specs.Views.{pure_global}
use Rattle.tdf_expr_symbols.proofs.scope.globals_of.Given as goal

abbrev pub invariant-loop-global : goal.invariant-loop-global
invariant-loop-global l = with_globals (map pure_global (drop l.global-index l.global-items)) l.table ≡ with_globals (map pure_global l.global-items) l.initial.table
