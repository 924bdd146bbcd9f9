use Rattle.std.proofs.Common.{◌≡◌, take}
use Rattle.std.specs.Prelude.{map}
use Rattle.tdf_bind_hierarchy.specs.machine.Walk.{number_of}
use Rattle.tdf_bind_hierarchy.proofs.walk.numbers_of.Given as goal

abbrev pub invariant-loop-target : goal.invariant-loop-target
invariant-loop-target l = l.numbers.items ≡ map (number_of l.around.own.now l.around.outer.now) (take l.target-index l.target-items)
