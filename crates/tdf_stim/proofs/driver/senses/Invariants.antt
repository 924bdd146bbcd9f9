use Rattle.std.proofs.Common.{◌≡◌, ◌-◌, map}
use Rattle.std.specs.List.{range_with_len}
use Rattle.tdf_stim.specs.Driver.{event_sense}
use Rattle.tdf_stim.proofs.driver.senses.Given as goal

abbrev pub invariant-loop-number : goal.invariant-loop-number
invariant-loop-number l = l.list.items ≡ map event_sense (range_with_len 1 (l.number - 1))
