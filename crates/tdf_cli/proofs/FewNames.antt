-- A text has fewer names than bytes, so the driver of its model has a name.
use Rattle.std.proofs.Common.{◌≡◌, ◌∙◌, ℕ, suc, ◌+◌, ◌<◌, ◌≤◌, ◌^◌, Bool, true, false, cond, List, [], ◌∷◌, ◌++◌, Option, length, map, arith}
use Rattle.std.proofs.lemmas.List.{length-append, length-map}
use Rattle.tdf_base.specs.Limits.{longest_text}
use Rattle.tdf_lang_lexer.specs.Dialect.{token_line, token_lines}
use Rattle.tdf_lang_lexer.specs.Pieces.{pieces_of, without_comment}
use Rattle.tdf_lang_lexer.specs.Rows.{Row, row_unless_bare, rows_from, rows_of}
use Rattle.tdf_lang_lexer.specs.Text.{is_line_end, lines_from, lines_of, unless_empty}
use Rattle.tdf_lang_lexer.specs.Token.{TokenLine}
use Rattle.tdf_lang_lexer.specs.declared.dialect.Dialect.{Dialect}
use Rattle.tdf_lang_parser.specs.Refused.{SpellsText}
use Rattle.tdf_lang_parser.specs.SpellsTree.{Lines, SpellsGlobal, SpellsGlobals, SpellsModel, SpellsTree, global_de, global_net, global_tdf, global_type, globals_more, globals_none, lines_more, lines_none, model, whole_text}
use Rattle.tdf_lang_tree.specs.Forms.{Form}
use Rattle.tdf_lang_tree.specs.Kept.{IsKept}
use Rattle.tdf_lang_tree.specs.Pure.{PureGlobal, PureTree}
use Rattle.tdf_stim.proofs.Api.{driven_kept, driver_named}
use Rattle.tdf_stim.specs.Drivable.{IsDrivable}
use Rattle.tdf_stim.specs.Driven.{driven_tree, tries}
use Rattle.tdf_tables.specs.Tables.{IsTableForm, TableOf}

lines_long : {lang : Dialect} {X : Type 0} {of : ℕ → Form → Option X} {rows : List TokenLine} {xs : List X} → Lines lang of rows xs → length xs ≡ length rows
lines_long lines_none = omega arith
lines_long (lines_more {a = a} {xs = xs} {x = x} before h line is) = omega (arith, lines_long before, length-append xs (x ∷ []), length-append a (h ∷ []))

global_some : {lang : Dialect} {rows : List TokenLine} {g : PureGlobal} → SpellsGlobal lang rows g → 0 < length rows
global_some (global_type h line) = omega arith
global_some (global_tdf {a = a} l block end) = omega (arith, length-append a (l ∷ []))
global_some (global_de h l head decls processes end) = omega arith
global_some (global_net h l head members end) = omega arith

globals_few : {lang : Dialect} {rows : List TokenLine} {gs : List PureGlobal} → SpellsGlobals lang rows gs → length gs ≤ length rows
globals_few globals_none = omega arith
globals_few (globals_more {a = a} {b = b} {gs = gs} {g = g} before one) = omega (arith, globals_few before, global_some one, length-append gs (g ∷ []), length-append a b)

model_few : {lang : Dialect} {rows : List TokenLine} {tree : PureTree} → SpellsModel lang rows tree → length tree.globals + length tree.top.members ≤ length rows
model_few (model {a = a} {b = b} {c = c} t l globals head members end traces) =
    omega (arith, globals_few globals, lines_long members, length-append a (t ∷ (b ++ l ∷ c)), length-append b (l ∷ c))

tree_few : {rows : List Row} {tree : PureTree} → SpellsTree rows tree → length tree.globals + length tree.top.members ≤ length rows
tree_few (whole_text {a = a} {lang = lang} b head body) = omega (arith, model_few body, length-map b (token_line lang), length-append a b)

row_one : (n : ℕ) (pieces : List (List ℕ)) → length (row_unless_bare n pieces) ≤ 1
row_one n [] = omega arith
row_one n (first ∷ more) = omega arith

rows_few : (n : ℕ) (lines : List (List ℕ)) → length (rows_from n lines) ≤ length lines
unfolding rows_from
rows_few n [] = omega arith
rows_few n (line ∷ rest) =
    omega (arith, rows_few (n + 1) rest, row_one n (pieces_of (without_comment line)), length-append (row_unless_bare n (pieces_of (without_comment line))) (rows_from (n + 1) rest))

last_one : (now : List ℕ) → length (unless_empty now) ≤ 1
last_one [] = omega arith
last_one (byte ∷ rest) = omega arith

lines_few : (now text : List ℕ) → length (lines_from now text) ≤ length text + 1
unfolding lines_from
lines_few now [] = omega (arith, last_one now)
lines_few now (byte ∷ rest) = by (is_line_end byte) (lines_few [] rest) (lines_few (now ++ byte ∷ []) rest)
  where
    by : (ends : Bool) → length (lines_from [] rest) ≤ length rest + 1 → length (lines_from (now ++ byte ∷ []) rest) ≤ length rest + 1
        → length (cond ends (now ∷ lines_from [] rest) (lines_from (now ++ byte ∷ []) rest)) ≤ suc (length rest) + 1
    by true one other = omega (arith, one)
    by false one other = omega (arith, other)

text_few : (text : List ℕ) → length (rows_of text) ≤ length text + 1
unfolding rows_of lines_of
text_few text = omega (arith, rows_few 1 (lines_from [] text), lines_few [] text)

-- so the driven tree keeps what the tree of each text keeps
pub stimulus_kept : (text : List ℕ) (tree : PureTree) (t : TableOf) → length text ≤ longest_text → SpellsText text tree → IsKept tree → IsTableForm t → IsDrivable tree t
    → IsKept (driven_tree tree t)
stimulus_kept text tree t short spells kept is fine =
    driven_kept tree t kept is fine (λ some. driver_named tree (omega (arith, short, tree_few spells.spelled, text_few text)))
