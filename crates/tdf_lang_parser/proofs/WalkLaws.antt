-- Rows read one after another.
use Rattle.std.proofs.Common.{◌≡◌, ℕ, ◌+◌, ◌≤◌, Bool, true, false, cond, List, [], ◌∷◌, length, map, ◌++◌, length-append, Option, Result, Ok, Err, Some, None, refl, sym, ap, subst, ◌∙◌, arith}
use Rattle.tdf_lang_parser.proofs.FaultLaws.{found_fault}
use Rattle.tdf_lang_parser.proofs.ReadSpells.{reads_spell}
use Rattle.tdf_lang_parser.proofs.HeadLaws.{no_version_says, resolution_read, read_after_resolution}
use Rattle.tdf_lang_parser.specs.Faults.{AtGlobals, HasFault, no_row, no_version}
use Rattle.tdf_lang_parser.specs.machine.Heads.{read_version, resolution_line}
use Rattle.tdf_lang_parser.specs.declared.err.LangErr.{LangErr}
use Rattle.tdf_lang_parser.specs.declared.err.LangErr.TheVariants as why
use Rattle.tdf_lang_parser.specs.machine.Places.{Place, PGlobals, outset, reads_row, reads_rows, fault_from, is_lost}
use Rattle.tdf_lang_parser.specs.Head.{SpellsVersion}
use Rattle.tdf_lang_parser.specs.machine.Walks.{IsEnd, IsModelRead, IsRead, IsWalked}
use Rattle.tdf_lang_lexer.specs.Dialect.{token_lines}
use Rattle.tdf_lang_lexer.specs.Rows.{Row}
use Rattle.tdf_lang_lexer.specs.Text.{unless_empty, lines_from, lines_of, is_line_end}
use Rattle.tdf_lang_lexer.specs.Token.{TokenLine}
use Rattle.tdf_lang_lexer.specs.declared.dialect.Dialect.{Dialect}
use Rattle.tdf_lang_parser.specs.declared.rows.RowsLeft.{RowsLeft}
use Rattle.tdf_lang_parser.specs.views.RowViews.{rows_with, rows_left}
use Rattle.tdf_lang_tree.specs.Views.{pure_tree}
use Rattle.tdf_lang_tree.specs.declared.tree.Tree.{Tree}

-- the first of the rows that are left
pub row_told : (r : RowsLeft) (n : ℕ) → r.number ≡ Some n → rows_left r ≡ (record { number = n; pieces = map (λ piece. piece.now) r.pieces.items }) ∷ r.after
row_told r n h = ap (λ (o : Option ℕ). rows_with o (map (λ piece. piece.now) r.pieces.items) r.after) h

no_number : (o : Option ℕ) (pieces : List (List ℕ)) (rows : List Row) → ((n : ℕ) → o ≡ Some n → ⊥) → rows_with o pieces rows ≡ []
no_number None pieces rows h = refl
no_number (Some n) pieces rows h = absurd (h n refl)

pub none_left : (r : RowsLeft) → ((n : ℕ) → r.number ≡ Some n → ⊥) → rows_left r ≡ []
none_left r h = no_number r.number (map (λ piece. piece.now) r.pieces.items) r.after h

pub reads_more : (lang : Dialect) (p : Place) (r : TokenLine) (rs : List TokenLine) → reads_rows lang p (r ∷ rs) ≡ reads_rows lang (reads_row lang p r) rs
unfolding reads_rows
reads_more lang p r rs = refl

pub fault_more : (lang : Dialect) (p : Place) (r : TokenLine) (rs : List TokenLine) (after : ℕ) → is_lost (reads_row lang p r) ≡ false
    → fault_from lang p (r ∷ rs) after ≡ fault_from lang (reads_row lang p r) rs after
unfolding fault_from
fault_more lang p r rs after h = rw h refl

pub fault_here : (lang : Dialect) (p : Place) (r : TokenLine) (rs : List TokenLine) (after : ℕ) → is_lost (reads_row lang p r) ≡ true
    → fault_from lang p (r ∷ rs) after ≡ Some r.number
unfolding fault_from
fault_here lang p r rs after h = rw h refl

pub ruleset walk_laws = (row_told, reads_more, fault_more, fault_here)

-- all rows are read
pub walked_end : (lang : Dialect) (r : Result Tree LangErr) (p : Place) (lines : List TokenLine) (after : ℕ) → reads_rows lang p [] ≡ reads_rows lang (PGlobals (outset lang)) lines
    → fault_from lang p [] after ≡ fault_from lang (PGlobals (outset lang)) lines after → IsEnd r p after → IsWalked r lang lines after
unfolding reads_rows fault_from
walked_end lang (Ok t) p lines after h g e = sym h ∙ e
walked_end lang (Err (why.Syntax line)) p lines after h g e = sym g ∙ ap (λ (b : Bool). cond b None (Some after)) e.1 ∙ ap Some (sym e.0)
walked_end lang (Err why.Memory) p lines after h g e = absurd e
walked_end lang (Err (why.Byte line)) p lines after h g e = absurd e
walked_end lang (Err (why.LongLine line)) p lines after h g e = absurd e

-- what the machine says is what the table and the grammar say
pub walked_read : (lang : Dialect) (r : Result Tree LangErr) (lines : List TokenLine) (after : ℕ) → IsWalked r lang lines after → IsModelRead r lang lines after
walked_read lang (Ok t) lines after h = reads_spell lang lines (pure_tree t) h
walked_read lang (Err (why.Syntax line)) lines after h = found_fault lang lines (PGlobals (outset lang)) AtGlobals after line refl h
walked_read lang (Err why.Memory) lines after h = tt
walked_read lang (Err (why.Byte line)) lines after h = absurd h
walked_read lang (Err (why.LongLine line)) lines after h = absurd h

-- a text has no more lines than bytes
few_at_end : (now : List ℕ) → length (unless_empty now) ≤ length now
few_at_end [] = omega arith
few_at_end (byte ∷ more) = omega arith

few_by : (byte : ℕ) (rest now : List ℕ) → ((line : List ℕ) → length (lines_from line rest) ≤ length rest + length line) → (b : Bool)
    → length (cond b (now ∷ lines_from [] rest) (lines_from (now ++ byte ∷ []) rest)) ≤ length (byte ∷ rest) + length now
few_by byte rest now ih true = omega (arith, ih [])
few_by byte rest now ih false = omega (arith, ih (now ++ byte ∷ []), length-append now (byte ∷ []))

few_lines : (rest now : List ℕ) → length (lines_from now rest) ≤ length rest + length now
unfolding lines_from
few_lines [] now = omega (arith, few_at_end now)
few_lines (byte ∷ rest) now = few_by byte rest now (λ line. few_lines rest line) (is_line_end byte)

pub few : (text : List ℕ) → length (lines_of text) ≤ length text
unfolding lines_of
few text = omega (arith, few_lines text [])

-- the rows after a resolution line
pub read_resolved : (h : Row) (lang : Dialect) (number : Option ℕ) (pieces : List (List ℕ)) (rows rest : List Row) (a : Result Tree LangErr) (after : ℕ) → SpellsVersion h.pieces lang.version
    → resolution_line lang.version (rows_with number pieces rows) ≡ Some lang.resolution → rest ≡ rows → IsModelRead a lang (token_lines lang rest) after
    → IsRead a (h ∷ rows_with number pieces rows) after
read_resolved h lang None pieces rows rest a after d n q e = absurd (let k = resolution_read lang.version [] lang.resolution n in let q : [] ≡ k.h ∷ k.rest = k.is in cc)
read_resolved h lang (Some number) pieces rows rest a after d n q e =
    read_after_resolution h (record { number = number; pieces = pieces }) rows lang.version lang.resolution a after d n
    (subst (λ (rs : List Row). IsModelRead a lang (token_lines lang rs) after) q e)

-- the first row of a text
pub no_first : (all : List Row) (after : ℕ) → all ≡ [] → HasFault all after after
no_first all after none = subst (λ (rs : List Row). HasFault rs after after) (sym none) no_row

pub no_version_first : (number : ℕ) (pieces : List (List ℕ)) (rows all : List Row) (after : ℕ) → all ≡ (record { number = number; pieces = pieces }) ∷ rows → read_version pieces ≡ None
    → HasFault all after number
no_version_first number pieces rows all after is none =
    subst (λ (rs : List Row). HasFault rs after number) (sym is) (no_version (record { number = number; pieces = pieces }) (no_version_says (record { number = number; pieces = pieces }) none))

pub read_first : (number : ℕ) (pieces : List (List ℕ)) (rows rest all : List Row) (a : Result Tree LangErr) (after : ℕ) → all ≡ (record { number = number; pieces = pieces }) ∷ rows → rest ≡ rows
    → IsRead a ((record { number = number; pieces = pieces }) ∷ rest) after → IsRead a all after
read_first number pieces rows rest all a after is same e =
    subst (λ (rs : List Row). IsRead a rs after) (sym is) (subst (λ (rs : List Row). IsRead a ((record { number = number; pieces = pieces }) ∷ rs) after) same e)
