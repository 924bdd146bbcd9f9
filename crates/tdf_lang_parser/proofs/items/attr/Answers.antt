use Rattle.tdf_lang_parser.proofs.OtherForms.{attr_other}
use Rattle.tdf_lang_parser.proofs.items.attr.Goals as goal

pub returns : goal.returns
returns c = attr_other c.args.line c.args.form c.in_default.not-Step c.in_default.not-Rate c.in_default.not-Delay c.in_default.not-Does c.in_default.not-Accept c.in_default.not-Reject
