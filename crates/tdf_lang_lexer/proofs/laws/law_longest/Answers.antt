use Rattle.tdf_lang_lexer.proofs.OnlyLaws.{pieces_are_longest}
use Rattle.tdf_lang_lexer.proofs.laws.law_longest.Goals as goal

pub returns : goal.returns
returns c = pieces_are_longest
