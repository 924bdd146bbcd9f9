use Rattle.std.proofs.Common.{take}
use Rattle.tdf_bind_hierarchy.specs.machine.Walk.{IsPut}
use Rattle.tdf_bind_hierarchy.proofs.walk.put_signals.Given as goal

abbrev pub invariant-loop-line : goal.invariant-loop-line
invariant-loop-line l = IsPut l.path (take l.line-index l.line-items) l.initial.tables l.own.items l.tables
