use Rattle.tdf_lang_parser.proofs.OtherForms.{member_other}
use Rattle.tdf_lang_parser.proofs.items.member.Goals as goal

pub returns : goal.returns
returns c = member_other c.args.line c.args.form c.in_default.not-Signal c.in_default.not-DeSignal c.in_default.not-Instance c.in_default.not-Bind
