-- What the answers of `parse` say of a text (own).
use Rattle.std.specs.Prelude.{◌≡◌, ℕ, ◌+◌, List, length, Some, None}
use Rattle.tdf_lang_parser.specs.Faults.{HasFault}
use Rattle.tdf_lang_parser.specs.SpellsTree.{SpellsTree}
use Rattle.tdf_lang_parser.specs.declared.err.LangErr.{LangErr}
use Rattle.tdf_lang_parser.specs.declared.err.LangErr.TheVariants as why
use Rattle.tdf_lang_lexer.specs.Rows.{rows_of}
use Rattle.tdf_lang_lexer.specs.Text.{fault_of, lines_of}
use Rattle.tdf_lang_lexer.specs.declared.text.TextFault.{TextFault}
use Rattle.tdf_lang_lexer.specs.declared.text.TextFault.TheVariants as fault
use Rattle.tdf_lang_tree.specs.Pure.{PureTree}

-- the text has no fault of bytes and line lengths, and its rows spell the tree
pub record SpellsText (text : List ℕ) (tree : PureTree) : Type 0 where
  pub clean : fault_of text ≡ None
  pub spelled : SpellsTree (rows_of text) tree

-- the text has no fault of bytes and line lengths, and its first syntax fault is on this line; that of a text that ends too early is on
-- the line after the last, whose number is that of all lines plus 1
pub record HasSyntaxFault (text : List ℕ) (line : ℕ) : Type 0 where
  pub clean : fault_of text ≡ None
  pub fault : HasFault (rows_of text) (length (lines_of text) + 1) line

abbrev pub refusal_of : TextFault → LangErr
refusal_of (fault.Byte line) = why.Byte line
refusal_of (fault.LongLine line) = why.LongLine line

-- `Byte` and `LongLine` come with the first fault of bytes and line lengths, and `Syntax` where there is none, with the first syntax
-- fault. Out of memory is free.
abbrev pub IsWhy : LangErr → List ℕ → Type 0
IsWhy (why.Byte line) text = fault_of text ≡ Some (fault.Byte line)
IsWhy (why.LongLine line) text = fault_of text ≡ Some (fault.LongLine line)
IsWhy (why.Syntax line) text = HasSyntaxFault text line
IsWhy why.Memory text = Unit {0}
