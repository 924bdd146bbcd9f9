-- What the canonical text promises (own): how trees and their texts come back from each other.
use Rattle.std.specs.Prelude.{◌≡◌, ◌≢◌, ◌↔◌, ℕ, true, nat_le, List, length, map, Some}
use Rattle.std.specs.List.{list_all}
use Rattle.tdf_lang_parser.specs.Refused.{SpellsText}
use Rattle.tdf_lang_parser.specs.SpellsTree.{SpellsTree}
use Rattle.tdf_lang_exprs.specs.SpellsExpr.{SpellsExpr}
use Rattle.tdf_lang.specs.Texts.{tokens_of}
use Rattle.tdf_lang_printer.specs.Canon.{canon}
use Rattle.tdf_lang_printer.specs.Exprs.{expr_text}
use Rattle.tdf_lang_lexer.specs.Dialect.{token_of}
use Rattle.tdf_lang_lexer.specs.Rows.{Row, rows_of}
use Rattle.tdf_lang_lexer.specs.Text.{fault_of, is_allowed_byte, lines_of}
use Rattle.tdf_base.specs.Limits.{longest_line}
use Rattle.tdf_lang_lexer.specs.declared.dialect.Dialect.{Dialect}
use Rattle.tdf_lang_lexer.specs.declared.text.TextFault.TheVariants as fault
use Rattle.tdf_lang_tree.specs.Alike.{Alike}
use Rattle.tdf_lang_tree.specs.Pure.{PureExpr, PureTree}

-- pieces that spell an expression in some dialect: the pieces of its canonical text spell it too
abbrev pub ExprsComeBack : Type 0
ExprsComeBack = (lang : Dialect) (pieces : List (List ℕ)) (x : PureExpr)
    → SpellsExpr lang.version 0 (map (token_of lang) pieces) x
    → SpellsExpr lang.version 0 (tokens_of lang (expr_text x)) x

-- some rows spell the tree
abbrev pub IsSpelled : PureTree → Type 0
IsSpelled t = (rows : List Row) × SpellsTree rows t

-- the rows of a spelled tree's canonical text spell a tree alike it; no line length is counted
abbrev pub TreesComeBack : Type 0
TreesComeBack = (t : PureTree) → IsSpelled t
    → (y : PureTree) × SpellsTree (rows_of (canon t)) y × Alike y t

-- trees that are alike have one canonical text
abbrev pub AlikeHaveOneText : Type 0
AlikeHaveOneText = (s t : PureTree) → Alike s t → canon s ≡ canon t

-- two spelled trees are alike exactly where their canonical texts are equal
abbrev pub TextsTellAlike : Type 0
TextsTellAlike =
    (s t : PureTree) → IsSpelled s → IsSpelled t → Alike s t ↔ (canon s ≡ canon t)

-- each byte of a spelled tree's canonical text is one that a text may hold: its fault is no `Byte`
abbrev pub NoBytesAtFault : Type 0
NoBytesAtFault = (t : PureTree) → IsSpelled t
    → (list_all is_allowed_byte (canon t) ≡ true)
    × ((line : ℕ) → fault_of (canon t) ≢ Some (fault.Byte line))

-- no line of a text has more bytes than a line may have
abbrev pub HasShortLines : List ℕ → Type 0
HasShortLines text = list_all (λ line. nat_le (length line) longest_line) (lines_of text) ≡ true

-- where its lines are short enough, a spelled tree's canonical text is parsed, to a tree alike it
abbrev pub TextsParseAgain : Type 0
TextsParseAgain = (t : PureTree) → IsSpelled t → HasShortLines (canon t)
    → (y : PureTree) × SpellsText (canon t) y × Alike y t
