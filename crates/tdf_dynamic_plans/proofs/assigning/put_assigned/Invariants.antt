use Rattle.std.proofs.Common.{◌≡◌, ◌++◌, take}
use Rattle.std.specs.List.{enumerate_from}
use Rattle.std.specs.Prelude.{filter_map}
use Rattle.tdf_dynamic_plans.specs.Assignments.{assign_at}
use Rattle.tdf_dynamic_plans.proofs.assigning.put_assigned.Given as goal

abbrev pub invariant-loop-place : goal.invariant-loop-place
invariant-loop-place l = l.assigned.items ≡ l.initial.assigned.items ++ filter_map (λ step. assign_at l.attrs step.0 step.1) (enumerate_from 0 (take l.place l.attrs.steps))
