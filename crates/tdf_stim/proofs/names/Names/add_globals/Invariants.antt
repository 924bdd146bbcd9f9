use Rattle.std.proofs.Common.{◌≡◌, ◌||◌, ℕ, List, map, take}
use Rattle.tdf_lang_tree.specs.Views.{pure_global}
use Rattle.tdf_stim.specs.Driven.{is_listed, name_of_global}
use Rattle.tdf_stim.specs.machine.Maps.{holds}
use Rattle.tdf_stim.proofs.names.Names.add_globals.Given as goal

abbrev pub invariant-loop-global : goal.invariant-loop-global
invariant-loop-global l = (name : List ℕ) → holds l.self name ≡ (holds l.fn.self name || is_listed (map name_of_global (map pure_global (take l.global-index l.globals))) name)
