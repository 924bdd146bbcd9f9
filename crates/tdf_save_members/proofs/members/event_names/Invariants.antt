use Rattle.std.proofs.Common.{◌≡◌, ℕ, Vec, Global, map, take}
use Rattle.tdf_save_members.specs.OfFlat.{named_event}
use Rattle.tdf_save_members.proofs.members.event_names.Given as goal

abbrev pub invariant-loop-i : goal.invariant-loop-i
invariant-loop-i l = map (λ (x : Vec ℕ Global). x.items) l.list.items ≡ map (named_event l.flat.tables) (take l.i l.flat.tables.events)
