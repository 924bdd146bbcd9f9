use Rattle.tdf_lang_parser.proofs.OtherForms.{plain_other}
use Rattle.tdf_lang_parser.proofs.items.plain_stmt.Goals as goal

pub returns : goal.returns
returns c = plain_other c.args.line c.args.form c.in_default.not-Assign
