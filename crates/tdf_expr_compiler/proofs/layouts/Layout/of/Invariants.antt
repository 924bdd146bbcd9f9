use Rattle.std.proofs.Common.{◌≡◌, length}
use Rattle.tdf_expr_compiler.specs.Layouts.{IsNumbered}
use Rattle.tdf_expr_compiler.proofs.Numbered.{AreNumbered}
use Rattle.tdf_expr_compiler.proofs.layouts.Layout.of.Given as goal

abbrev pub invariant-loop-place : goal.invariant-loop-place
invariant-loop-place l = record {
  long : length l.names.items ≡ l.place;
  all : AreNumbered l.scope.own l.names.items;
  next : IsNumbered l.scope.own l.place l.numbers;
}
