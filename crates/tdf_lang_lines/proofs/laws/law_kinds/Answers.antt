use Rattle.tdf_lang_lines.proofs.KindLaws.{kinds}
use Rattle.tdf_lang_lines.proofs.laws.law_kinds.Goals as goal

pub returns : goal.returns
returns c = kinds
