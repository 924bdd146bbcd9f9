use Rattle.std.proofs.Common.{◌≡◌, drop, length}
use Rattle.std.specs.Prelude.{replicate}
use Rattle.tdf_bind_attributes.proofs.steps.port_steps.Given as goal
use Rattle.tdf_bind_attributes.specs.machine.Standing.{stepped_all}

abbrev pub invariant-loop-attr : goal.invariant-loop-attr
invariant-loop-attr l = stepped_all l.scope.own (drop l.attr-index l.attr-items) l.steps.items
    ≡ stepped_all l.scope.own l.attr-items (replicate (length l.scope.own.things) 0)
