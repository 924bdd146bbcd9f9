-- The lemmas that other crates cite.
pub use Rattle.tdf_lang_lexer.proofs.KeepLaws.{KeepsToken, KeepTokens, keep_split, token_keeps, tokens_keep}
pub use Rattle.tdf_lang_lexer.proofs.LineLaws.{before_first-more, before_first-here, after_first-more, after_first-here}
pub use Rattle.tdf_lang_lexer.proofs.OnlyLaws.{lines_only}
pub use Rattle.tdf_lang_lexer.proofs.WordLaws.{same_text, key_of-spelling, symbol_of-sign, words_are_read, symbols_are_read}
