use Rattle.std.proofs.Common.{◌≡◌, ℕ, List, take}
use Rattle.tdf_stim.specs.machine.Maps.{found_source, found_type, source_by}
use Rattle.tdf_stim.proofs.signals.Signals.of.Given as goal

abbrev pub invariant-loop-member : goal.invariant-loop-member
invariant-loop-member l = (label : List ℕ) → found_source l.signals label ≡ source_by (found_type l.types) (take l.member-index l.members) label
