use Rattle.std.proofs.Common.{◌≡◌, ◌++◌, map, drop}
use Rattle.tdf_bind_attributes.proofs.roles.roles_in.Given as goal
use Rattle.tdf_bind_attributes.specs.Roles.{roles_from}
use Rattle.tdf_lang_tree.specs.Views.{pure_global}

abbrev pub invariant-loop-place : goal.invariant-loop-place
invariant-loop-place l = l.roles.items ++ roles_from l.globals l.number (map pure_global (drop l.place l.list.items)) ≡ roles_from l.globals 0 (map pure_global l.list.items)
