use Rattle.std.proofs.Common.{◌≡◌, map, take}
use Rattle.tdf_save_members.specs.OfFlat.{block_members}
use Rattle.tdf_save_members.proofs.members.block_list.Given as goal

abbrev pub invariant-loop-i : goal.invariant-loop-i
invariant-loop-i l = l.list.items ≡ map (block_members l.flat) (take l.i l.flat.tables.blocks)
