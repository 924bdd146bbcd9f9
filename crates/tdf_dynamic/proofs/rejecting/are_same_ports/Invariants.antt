use Rattle.std.proofs.Common.{◌≡◌, take}
use Rattle.std.specs.Prelude.{All}
use Rattle.tdf_dynamic.specs.Change.{step_at_port}
use Rattle.tdf_dynamic_plans.specs.Rates.{net_ports}
use Rattle.tdf_dynamic.proofs.rejecting.are_same_ports.Given as goal

abbrev pub invariant-loop-i : goal.invariant-loop-i
invariant-loop-i l = All (λ port. step_at_port (net_ports l.tables l.before.table.now) l.before.steps.now l.«module» port ≡ step_at_port (net_ports l.tables l.after.table.now) l.after.steps.now l.«module» port) (take l.i l.ports)
