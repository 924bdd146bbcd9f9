-- What the reader of rows answers, by the table and by the machine of places.
use Rattle.std.specs.Prelude.{◌≡◌, ℕ, false, List, Some, Result, Ok, Err}
use Rattle.tdf_lang_parser.specs.Faults.{HasFault, Faults, AtGlobals}
use Rattle.tdf_lang_parser.specs.SpellsTree.{SpellsTree, SpellsModel}
use Rattle.tdf_lang_parser.specs.declared.err.LangErr.{LangErr}
use Rattle.tdf_lang_parser.specs.declared.err.LangErr.TheVariants as why
use Rattle.tdf_lang_parser.specs.machine.Places.{Place, PGlobals, PTraces, fault_from, is_traces, outset, reads_rows}
use Rattle.tdf_lang_lexer.specs.Rows.{Row}
use Rattle.tdf_lang_lexer.specs.Token.{TokenLine}
use Rattle.tdf_lang_lexer.specs.declared.dialect.Dialect.{Dialect}
use Rattle.tdf_lang_tree.specs.Views.{pure_tree}
use Rattle.tdf_lang_tree.specs.declared.tree.Tree.{Tree}

-- of all rows of a text
abbrev pub IsRead : Result Tree LangErr → List Row → ℕ → Type 0
IsRead (Ok t) rows after = SpellsTree rows (pure_tree t)
IsRead (Err (why.Syntax line)) rows after = HasFault rows after line
IsRead (Err why.Memory) rows after = Unit {0}
IsRead (Err _) rows after = ⊥

-- of the lines after those that open the text
abbrev pub IsModelRead : Result Tree LangErr → Dialect → List TokenLine → ℕ → Type 0
IsModelRead (Ok t) lang lines after = SpellsModel lang lines (pure_tree t)
IsModelRead (Err (why.Syntax line)) lang lines after = Faults lang AtGlobals lines after line
IsModelRead (Err why.Memory) lang lines after = Unit {0}
IsModelRead (Err _) lang lines after = ⊥

-- the same by the machine of places
abbrev pub IsWalked : Result Tree LangErr → Dialect → List TokenLine → ℕ → Type 0
IsWalked (Ok t) lang lines after = reads_rows lang (PGlobals (outset lang)) lines ≡ PTraces (pure_tree t)
IsWalked (Err (why.Syntax line)) lang lines after = fault_from lang (PGlobals (outset lang)) lines after ≡ Some line
IsWalked (Err why.Memory) lang lines after = Unit {0}
IsWalked (Err _) lang lines after = ⊥

-- what is left when all lines are read
abbrev pub IsEnd : Result Tree LangErr → Place → ℕ → Type 0
IsEnd (Ok t) p after = p ≡ PTraces (pure_tree t)
IsEnd (Err (why.Syntax line)) p after = (line ≡ after) × (is_traces p ≡ false)
IsEnd (Err _) p after = ⊥
