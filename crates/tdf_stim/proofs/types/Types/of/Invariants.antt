use Rattle.std.proofs.Common.{◌≡◌, ℕ, List, map, take}
use Rattle.tdf_lang_tree.specs.Views.{pure_global}
use Rattle.tdf_stim.specs.Signals.{type_named}
use Rattle.tdf_stim.specs.machine.Maps.{found_type}
use Rattle.tdf_stim.proofs.types.Types.of.Given as goal

abbrev pub invariant-loop-global : goal.invariant-loop-global
invariant-loop-global l = (name : List ℕ) → found_type l.types name ≡ type_named (map pure_global (take l.global-index l.globals)) name
