use Rattle.tdf_lang_parser.proofs.OtherForms.{de_line_other}
use Rattle.tdf_lang_parser.proofs.items.de_line.Goals as goal

pub returns : goal.returns
returns c = de_line_other c.args.line c.args.form c.in_default.not-Port c.in_default.not-Const c.in_default.not-Var c.in_default.not-Array c.in_default.not-Event
