use Rattle.std.proofs.Common.{◌≡◌, ◌++◌, take}
use Rattle.std.specs.List.{flat_map}
use Rattle.tdf_lang_printer.specs.machine.Texts.{sense_text}
use Rattle.tdf_lang_printer.proofs.lines.push_senses.Given as goal

abbrev pub invariant-loop-sense : goal.invariant-loop-sense
invariant-loop-sense l = l.out.items ≡ l.initial.out.items ++ flat_map sense_text (take l.sense-index l.list)
