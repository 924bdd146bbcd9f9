use Rattle.std.proofs.Common.{◌≡◌, ◌-◌, ◌++◌, [], length, replicate}
use Rattle.tdf_schedule.proofs.turns.reach.Given as goal

abbrev pub invariant-loop-made : goal.invariant-loop-made
invariant-loop-made l = record {
  long : length l.levels.items ≡ l.made;
  more : l.levels.items ≡ l.initial.levels.items ++ replicate (length l.levels.items - length l.initial.levels.items) [];
}
