use Rattle.std.proofs.Common.{◌≡◌, ◌++◌, take}
use Rattle.tdf_lang_printer.specs.machine.Texts.{stmts_text}
use Rattle.tdf_lang_printer.proofs.stmts.+push_stmts.Given as goal

abbrev pub invariant-push_stmts-loop-stmt : goal.invariant-push_stmts-loop-stmt
invariant-push_stmts-loop-stmt l = l.out.items ≡ l.initial.out.items ++ stmts_text l.unit (take l.stmt-index l.stmt-items)
