use Rattle.std.proofs.Common.{subst}
use Rattle.tdf_lang_parser.specs.Refused.{IsWhy}
use Rattle.tdf_lang_parser.specs.declared.err.LangErr.{LangErr}
use Rattle.tdf_sim.specs.FirstFault.{of_bytes, of_length, of_syntax}
use Rattle.tdf_cli.proofs.refusals.first_fault.Goals as goal

pub returns-in-Byte : goal.returns-in-Byte
returns-in-Byte c = λ text is.
    of_bytes c.in-Byte.line (subst (λ (e : LangErr). IsWhy e text) c.in-Byte.is is) c.on_line.ensures

pub returns-in-LongLine : goal.returns-in-LongLine
returns-in-LongLine c = λ text is.
    of_length c.in-LongLine.line (subst (λ (e : LangErr). IsWhy e text) c.in-LongLine.is is) c.on_line-in-LongLine.ensures

pub returns-in-Syntax : goal.returns-in-Syntax
returns-in-Syntax c = λ text is.
    of_syntax c.in-Syntax.line (subst (λ (e : LangErr). IsWhy e text) c.in-Syntax.is is) c.on_line-in-Syntax.ensures
