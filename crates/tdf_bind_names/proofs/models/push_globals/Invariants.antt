-- The blocks so far.
use Rattle.std.proofs.Common.{◌≡◌, take}
use Rattle.std.specs.Prelude.{map}
use Rattle.tdf_bind_ports.specs.Ports.{known_after_all, no_blocks}
use Rattle.tdf_bind_names.proofs.models.push_globals.Given as goal
use Rattle.tdf_bind_names.specs.Resolved.{AreBlocks}
use Rattle.tdf_lang_tree.specs.Views.{pure_global}

abbrev pub invariant-loop-global : goal.invariant-loop-global
invariant-loop-global l = record {
  blocks : AreBlocks l.globals no_blocks (map pure_global (take l.global-index l.global-items)) l.out.items;
  known : l.known ≡ known_after_all (map pure_global (take l.global-index l.global-items)) no_blocks;
}
