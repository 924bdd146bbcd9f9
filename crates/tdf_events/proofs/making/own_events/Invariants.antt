use Rattle.std.proofs.Common.{◌≡◌, ◌<◌, ℕ, length, take}
use Rattle.tdf_events_queue.specs.Lists.{list_at}
use Rattle.tdf_events.specs.Processes.{owned_from}
use Rattle.tdf_events.proofs.making.own_events.Given as goal

abbrev pub invariant-loop-i : goal.invariant-loop-i
invariant-loop-i l = record {
  long : length l.lists ≡ l.blocks;
  lists : (n : ℕ) → n < l.blocks → list_at l.lists n ≡ owned_from n 0 (take l.i l.events);
}
