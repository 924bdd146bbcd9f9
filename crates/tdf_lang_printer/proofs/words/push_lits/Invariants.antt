use Rattle.std.proofs.Common.{◌≡◌, ◌++◌, take}
use Rattle.std.specs.List.{flat_map}
use Rattle.tdf_lang_printer.specs.machine.Texts.{value_text}
use Rattle.tdf_lang_printer.proofs.words.push_lits.Given as goal

abbrev pub invariant-loop-lit : goal.invariant-loop-lit
invariant-loop-lit l = l.out.items ≡ l.initial.out.items ++ flat_map value_text (take l.lit-index l.list)
