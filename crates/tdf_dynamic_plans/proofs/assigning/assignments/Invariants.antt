use Rattle.std.proofs.Common.{◌≡◌, take}
use Rattle.std.specs.List.{flat_map}
use Rattle.tdf_dynamic_plans.specs.Assignments.{assigned_by}
use Rattle.tdf_dynamic_plans.proofs.assigning.assignments.Given as goal

abbrev pub invariant-loop-i : goal.invariant-loop-i
invariant-loop-i l = l.assigned.items ≡ flat_map assigned_by (take l.i l.table)
