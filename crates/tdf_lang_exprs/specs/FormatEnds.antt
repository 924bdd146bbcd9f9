-- Where a format ends that stands first (own).
use Rattle.std.specs.Prelude.{◌≡◌, ℕ, List, ◌++◌, length}
use Rattle.tdf_lang_lexer.specs.Token.{Tok}
use Rattle.tdf_lang_tree.specs.declared.shapes.FormatRef.{FormatRef}
use Rattle.tdf_lang_exprs.specs.Formats.{SpellsFormat, BeginsWithNoKey}

-- a format that stands first, before what begins with no reserved word, has so many tokens
abbrev pub EndsThere : List Tok → ℕ → Type 0
EndsThere ts n = (a rest : List Tok) (f : FormatRef) → ts ≡ a ++ rest → SpellsFormat a f → BeginsWithNoKey rest → n ≡ length a
