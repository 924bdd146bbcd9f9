use Rattle.std.proofs.Common.{◌≡◌, ◌++◌, take}
use Rattle.std.specs.List.{flat_map}
use Rattle.tdf_dynamic_texts.specs.Plans.{actor_text, rows_of_plan}
use Rattle.tdf_dynamic_texts.proofs.plans.push_actors.Given as goal

abbrev pub invariant-loop-i : goal.invariant-loop-i
invariant-loop-i l = l.out.items ≡ l.initial.out.items ++ flat_map (actor_text l.lines.unit l.lines.flat.now (rows_of_plan l.lines.plan.now) l.lines.cluster) (take l.i l.numbers)
