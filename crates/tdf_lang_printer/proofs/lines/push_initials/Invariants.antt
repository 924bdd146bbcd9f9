use Rattle.std.proofs.Common.{◌≡◌, ◌++◌, take}
use Rattle.std.specs.List.{flat_map}
use Rattle.tdf_lang_printer.specs.machine.Texts.{initial_text}
use Rattle.tdf_lang_printer.proofs.lines.push_initials.Given as goal

abbrev pub invariant-loop-initial : goal.invariant-loop-initial
invariant-loop-initial l = l.out.items ≡ l.initial.out.items ++ flat_map initial_text (take l.initial-index l.list)
