-- The names so far, with the lines that are left.
use Rattle.std.proofs.Common.{◌≡◌, ◌++◌, drop}
use Rattle.std.specs.List.{flat_map}
use Rattle.tdf_bind_names.proofs.bindings.signal_names.Given as goal
use Rattle.tdf_bind_names.specs.Targets.{name_of_signal}

abbrev pub invariant-loop-member : goal.invariant-loop-member
invariant-loop-member l = l.names ++ flat_map name_of_signal (drop l.member-index l.member-items) ≡ flat_map name_of_signal l.member-items
