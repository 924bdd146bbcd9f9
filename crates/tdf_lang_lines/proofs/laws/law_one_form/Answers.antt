use Rattle.tdf_lang_lines.proofs.Decided.{one_form}
use Rattle.tdf_lang_lines.proofs.laws.law_one_form.Goals as goal

pub returns : goal.returns
returns c = one_form
