-- The weights so far, with the blocks that are left.
use Rattle.std.proofs.Common.{◌≡◌, ◌++◌, drop}
use Rattle.std.specs.List.{flat_map}
use Rattle.std.specs.Prelude.{map}
use Rattle.tdf_bind_names.proofs.measures.push_weights.Given as goal
use Rattle.tdf_bind_names.specs.Counts.{weight_of}
use Rattle.tdf_bind_names.specs.machine.Counts.{capped}
use Rattle.tdf_lang_tree.specs.Views.{pure_global}

abbrev pub invariant-loop-global : goal.invariant-loop-global
invariant-loop-global l = l.out.items ++ map capped (flat_map (weight_of l.measure) (map pure_global (drop l.global-index l.global-items)))
    ≡ l.initial.out.items ++ map capped (flat_map (weight_of l.measure) (map pure_global l.global-items))
