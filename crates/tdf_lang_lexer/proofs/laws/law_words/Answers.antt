use Rattle.tdf_lang_lexer.proofs.WordLaws.{words_are_read, symbols_are_read}
use Rattle.tdf_lang_lexer.proofs.laws.law_words.Goals as goal

pub returns : goal.returns
returns c = record { words = words_are_read; symbols = symbols_are_read }
