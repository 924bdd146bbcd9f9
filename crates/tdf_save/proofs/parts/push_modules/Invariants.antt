use Rattle.std.proofs.Common.{◌≡◌, ◌++◌}
use Rattle.tdf_save.specs.Text.{saved_module}
use Rattle.tdf_save.proofs.Each.{each_before}
use Rattle.tdf_save.proofs.parts.push_modules.Given as goal

abbrev pub invariant-loop-k : goal.invariant-loop-k
invariant-loop-k l = l.out.items ≡ l.initial.out.items ++ each_before saved_module l.members l.states l.k
