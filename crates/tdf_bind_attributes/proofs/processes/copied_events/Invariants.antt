use Rattle.std.proofs.Common.{◌≡◌, ◌++◌, map, drop}
use Rattle.std.specs.List.{flat_map}
use Rattle.tdf_bind_attributes.proofs.processes.copied_events.Given as goal
use Rattle.tdf_bind_attributes.specs.Roles.{event_of}
use Rattle.tdf_lang_tree.specs.Views.{pure_de_line}

abbrev pub invariant-loop-line : goal.invariant-loop-line
invariant-loop-line l = l.names.items ++ flat_map event_of (map pure_de_line (drop l.line-index l.line-items)) ≡ flat_map event_of (map pure_de_line l.line-items)
