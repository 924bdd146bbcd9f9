use Rattle.std.proofs.Common.{◌≡◌, ◌++◌, take}
use Rattle.std.specs.List.{flat_map}
use Rattle.tdf_dynamic_texts.specs.Plans.{edge_text, rows_of_plan}
use Rattle.tdf_dynamic_texts.proofs.plans.push_edges.Given as goal

abbrev pub invariant-loop-i : goal.invariant-loop-i
invariant-loop-i l = l.out.items ≡ l.initial.out.items ++ flat_map (edge_text l.flat (rows_of_plan l.plan) l.cluster) (take l.i l.numbers)
