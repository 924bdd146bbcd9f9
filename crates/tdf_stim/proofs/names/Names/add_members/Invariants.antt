use Rattle.std.proofs.Common.{◌≡◌, ◌||◌, ℕ, List, take}
use Rattle.std.specs.List.{flat_map}
use Rattle.tdf_stim.specs.Driven.{is_listed, member_names}
use Rattle.tdf_stim.specs.machine.Maps.{holds}
use Rattle.tdf_stim.proofs.names.Names.add_members.Given as goal

abbrev pub invariant-loop-member : goal.invariant-loop-member
invariant-loop-member l = (name : List ℕ) → holds l.self name ≡ (holds l.fn.self name || is_listed (flat_map member_names (take l.member-index l.members)) name)
