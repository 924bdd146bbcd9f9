use Rattle.tdf_lang_parser.proofs.OtherForms.{tdf_line_other}
use Rattle.tdf_lang_parser.proofs.items.tdf_line.Goals as goal

pub returns : goal.returns
returns c = tdf_line_other c.args.line c.args.form c.in_default.not-Port c.in_default.not-Const c.in_default.not-Var c.in_default.not-Array c.in_default.not-RateVar
