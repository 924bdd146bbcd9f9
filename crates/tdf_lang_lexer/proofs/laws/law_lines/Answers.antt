use Rattle.tdf_lang_lexer.proofs.OnlyLaws.{lines_are_text}
use Rattle.tdf_lang_lexer.proofs.laws.law_lines.Goals as goal

pub returns : goal.returns
returns c = lines_are_text
