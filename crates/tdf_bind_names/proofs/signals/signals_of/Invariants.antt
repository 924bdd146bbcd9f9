-- The signals so far.
use Rattle.std.proofs.Common.{take}
use Rattle.std.specs.List.{AllZip, flat_map}
use Rattle.tdf_bind_names.proofs.signals.signals_of.Given as goal
use Rattle.tdf_bind_names.specs.Signals.{declared_by, IsSignal}

abbrev pub invariant-loop-member : goal.invariant-loop-member
invariant-loop-member l = AllZip (IsSignal l.globals) (flat_map declared_by (take l.member-index l.member-items)) l.out.items
