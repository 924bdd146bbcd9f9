use Rattle.std.proofs.Common.{◌≡◌, ◌++◌, take}
use Rattle.std.specs.List.{flat_map}
use Rattle.tdf_lang_printer.specs.machine.Texts.{process_text}
use Rattle.tdf_lang_printer.proofs.blocks.push_processes.Given as goal

abbrev pub invariant-loop-process : goal.invariant-loop-process
invariant-loop-process l = l.out.items ≡ l.initial.out.items ++ flat_map (process_text l.unit) (take l.process-index l.list)
