use Rattle.std.proofs.Common.{◌≡◌, ◌++◌, take}
use Rattle.std.specs.List.{flat_map}
use Rattle.tdf_lang_printer.specs.machine.Texts.{global_text}
use Rattle.tdf_lang_printer.proofs.tree.push_globals.Given as goal

abbrev pub invariant-loop-item : goal.invariant-loop-item
invariant-loop-item l = l.out.items ≡ l.initial.out.items ++ flat_map (global_text l.unit) (take l.item-index l.list)
