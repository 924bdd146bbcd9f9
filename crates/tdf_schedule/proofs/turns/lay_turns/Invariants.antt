use Rattle.std.proofs.Common.{◌≡◌, ◌+◌, ℕ, take}
use Rattle.std.specs.Prelude.{slice_index}
use Rattle.tdf_schedule.specs.views.Turns.{AreLaid, turns_in}
use Rattle.tdf_schedule.proofs.turns.lay_turns.Given as goal

abbrev pub invariant-loop-i : goal.invariant-loop-i
invariant-loop-i l = record {
  laid : AreLaid l.table.items l.laid.done.items l.laid.entries.items;
  done : (k : ℕ) → slice_index l.laid.done.items k ≡ slice_index l.initial.laid.done.items k + turns_in (take l.i l.turns) k;
}
