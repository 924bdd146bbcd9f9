use Rattle.std.proofs.Common.{◌≡◌, ℕ, take}
use Rattle.std.specs.Prelude.{slice_index}
use Rattle.tdf_schedule.specs.views.Turns.{AreLaid, turns_of}
use Rattle.tdf_schedule.proofs.turns.entries_in_turn.Given as goal

abbrev pub invariant-loop-place : goal.invariant-loop-place
invariant-loop-place l = record {
  laid : AreLaid l.table.items l.laid.done.items l.laid.entries.items;
  done : (k : ℕ) → slice_index l.laid.done.items k ≡ turns_of (take l.place l.lists.items) k;
}
