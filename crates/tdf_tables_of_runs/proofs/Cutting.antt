-- A text is that of one table, where the words of its lines have neither spaces nor LF.
use Rattle.std.proofs.Common.{◌≡◌, ◌∙◌, ℕ, ◌^◌, ◌<◌, Bool, true, nat_lt, List, [], ◌∷◌, ◌++◌, length, map, codes, sym, ap, refl, arith, append_assoc, length-append}
use Rattle.std.proofs.lemmas.Bool.{and_from, and_parts}
use Rattle.std.proofs.lemmas.Bool.Decides.{nat_tests}
use Rattle.std.proofs.lemmas.List.Folds.{list_all-append}
use Rattle.std.specs.List.{AllByRecursion, list_all}
use Rattle.tdf_base.specs.declared.resolution.Resolution.TheVariants.{Fs}
use Rattle.tdf_fixed.proofs.Api.{time_one}
use Rattle.tdf_fixed.specs.Decimal.{seconds_text_at}
use Rattle.tdf_tables.proofs.Api.{IsMarked, is_mark, spaced_more, spaced_none, without_spaces, words_spaced}
use Rattle.tdf_tables.specs.Tables.{TableOf, TableRow, table_head_text, table_row_text, table_rows_text, table_text}
use Rattle.tdf_tables.specs.Words.{spaced, words_of}
use Rattle.tdf_tables_of_runs.proofs.Bytes.{seconds_marked}

-- ---- a text is cut at its first LF in one way

abbrev is_inline : ℕ → Bool
is_inline c = nat_lt 10 c

abbrev IsInline : List ℕ → Type 0
IsInline text = list_all is_inline text ≡ true

marks_inline : (text : List ℕ) → IsMarked text → IsInline text
marks_inline [] h = refl
marks_inline (c ∷ cs) h =
    let both = and_parts (is_mark c) (list_all is_mark cs) h in
    let here : nat_lt 32 c ≡ true = both.0 in
    and_from (is_inline c) (list_all is_inline cs) (grind (arith, nat_tests)) (marks_inline cs both.1)

spaced_inline : (words : List (List ℕ)) → AllByRecursion IsMarked words → IsInline (spaced words)
spaced_inline [] h = ap (list_all is_inline) spaced_none
spaced_inline (w ∷ ws) h =
    let here : list_all is_inline w ≡ true = marks_inline w h.0 in
    let more : list_all is_inline (spaced ws) ≡ true = spaced_inline ws h.1 in
    ap (list_all is_inline) (spaced_more w ws) ∙ list_all-append is_inline w (spaced ws) ∙ rw (here, more) refl

no_end : (c : ℕ) (cs : List ℕ) → IsInline (c ∷ cs) → c ≡ 10 → ⊥
no_end c cs h e =
    let both = and_parts (is_inline c) (list_all is_inline cs) h in
    let here : nat_lt 10 c ≡ true = both.0 in
    let less : 10 < c = grind (arith, nat_tests) in
    omega (arith, less, e)

cut_once : (xs ys us vs : List ℕ) → IsInline xs → IsInline us → xs ++ (10 ∷ ys) ≡ us ++ (10 ∷ vs) → (xs ≡ us) × (ys ≡ vs)
cut_once [] ys [] vs a b e = (refl, cc)
cut_once [] ys (u ∷ us) vs a b e = let same : 10 ≡ u = cc in absurd (no_end u us b (sym same))
cut_once (x ∷ xs) ys [] vs a b e = let same : x ≡ 10 = cc in absurd (no_end x xs a same)
cut_once (x ∷ xs) ys (u ∷ us) vs a b e =
    let same : x ≡ u = cc in
    let rest : xs ++ (10 ∷ ys) ≡ us ++ (10 ∷ vs) = cc in
    let more = cut_once xs ys us vs (and_parts (is_inline x) (list_all is_inline xs) a).1 (and_parts (is_inline u) (list_all is_inline us) b).1 rest in
    let tails : xs ≡ us = more.0 in
    (cc, more.1)

-- ---- lines of words

record LineWords : Type 0 where
  first : List ℕ
  words : List (List ℕ)

abbrev line_of : List ℕ → List (List ℕ) → LineWords
line_of first words = record { first = first; words = words }

abbrev joined : LineWords → List ℕ
joined line = line.first ++ spaced line.words

abbrev lines_text : List LineWords → List ℕ
lines_text [] = []
lines_text (line ∷ lines) = joined line ++ (10 ∷ lines_text lines)

record HasMarkedWords (line : LineWords) : Type 0 where
  first : IsMarked line.first
  words : AllByRecursion IsMarked line.words

line_inline : (line : LineWords) → HasMarkedWords line → IsInline (joined line)
line_inline line h =
    let here : list_all is_inline line.first ≡ true = marks_inline line.first h.first in
    let more : list_all is_inline (spaced line.words) ≡ true = spaced_inline line.words h.words in
    list_all-append is_inline line.first (spaced line.words) ∙ rw (here, more) refl

all_words : (line : LineWords) → HasMarkedWords line → words_of (32 ∷ joined line) ≡ line.first ∷ line.words
all_words line h =
    ap words_of (sym (spaced_more line.first line.words))
    ∙ words_spaced (line.first ∷ line.words) (without_spaces (line.first ∷ line.words) (h.first, h.words))

line_one : (a b : LineWords) → HasMarkedWords a → HasMarkedWords b → joined a ≡ joined b → a ≡ b
line_one a b g h e =
    let all : a.first ∷ a.words ≡ b.first ∷ b.words = sym (all_words a g) ∙ ap (λ t. words_of (32 ∷ t)) e ∙ all_words b h in
    let first : a.first ≡ b.first = cc in
    let words : a.words ≡ b.words = cc in
    ap (λ f. line_of f a.words) first ∙ ap (λ ws. line_of b.first ws) words

some_text : (line : LineWords) (lines : List LineWords) → [] ≡ lines_text (line ∷ lines) → ⊥
some_text line lines e = omega (arith, ap length e, length-append (joined line) (10 ∷ lines_text lines))

lines_one : (xs ys : List LineWords) → AllByRecursion HasMarkedWords xs → AllByRecursion HasMarkedWords ys → lines_text xs ≡ lines_text ys → xs ≡ ys
lines_one [] [] g h e = refl
lines_one [] (y ∷ ys) g h e = absurd (some_text y ys e)
lines_one (x ∷ xs) [] g h e = absurd (some_text x xs (sym e))
lines_one (x ∷ xs) (y ∷ ys) g h e =
    let both = cut_once (joined x) (lines_text xs) (joined y) (lines_text ys) (line_inline x g.0) (line_inline y h.0) e in
    let here : x ≡ y = line_one x y g.0 h.0 both.0 in
    let more : xs ≡ ys = lines_one xs ys g.1 h.1 both.1 in
    cc

-- ---- the lines of a table

abbrev row_line : TableRow → LineWords
row_line row = line_of (seconds_text_at Fs row.time) row.cells

abbrev table_lines : TableOf → List LineWords
table_lines table = line_of (codes "%time") table.labels ∷ map row_line table.rows

line_cut : (first rest more : List ℕ) → (first ++ (rest ++ (10 ∷ []))) ++ more ≡ (first ++ rest) ++ (10 ∷ more)
line_cut first rest more =
    append_assoc first (rest ++ (10 ∷ [])) more ∙ ap (λ t. first ++ t) (append_assoc rest (10 ∷ []) more)
    ∙ sym (append_assoc first rest (10 ∷ more))

rows_lines : (rows : List TableRow) → table_rows_text rows ≡ lines_text (map row_line rows)
unfolding table_rows_text
rows_lines [] = refl
rows_lines (row ∷ rows) =
    ap (λ t. table_row_text row ++ t) (rows_lines rows) ∙ line_cut (seconds_text_at Fs row.time) (spaced row.cells) (lines_text (map row_line rows))

text_lines : (table : TableOf) → table_text table ≡ lines_text (table_lines table)
unfolding table_text
text_lines table =
    ap (λ t. table_head_text table.labels ++ t) (rows_lines table.rows) ∙ line_cut (codes "%time") (spaced table.labels) (lines_text (map row_line table.rows))

-- ---- one table

-- cells without spaces and LF, and a time of which there is one text
pub record IsPlainRow (row : TableRow) : Type 0 where
  pub early : row.time < 2 ^ 128
  pub cells : AllByRecursion IsMarked row.cells

pub record IsPlainTable (table : TableOf) : Type 0 where
  pub labels : AllByRecursion IsMarked table.labels
  pub rows : AllByRecursion IsPlainRow table.rows

rows_marked : (rows : List TableRow) → AllByRecursion IsPlainRow rows → AllByRecursion HasMarkedWords (map row_line rows)
rows_marked [] h = tt
rows_marked (row ∷ rows) h = (record { first = seconds_marked Fs row.time; words = h.0.cells }, rows_marked rows h.1)

table_marked : (table : TableOf) → IsPlainTable table → AllByRecursion HasMarkedWords (table_lines table)
table_marked table h = (record { first = refl; words = h.labels }, rows_marked table.rows h.rows)

abbrev row_at : ℕ → List (List ℕ) → TableRow
row_at time cells = record { time = time; cells = cells }

row_one : (a b : TableRow) → IsPlainRow a → IsPlainRow b → row_line a ≡ row_line b → a ≡ b
row_one a b g h e =
    let times : a.time ≡ b.time = time_one Fs a.time b.time g.early h.early (ap (λ (l : LineWords). l.first) e) in
    let cells : a.cells ≡ b.cells = ap (λ (l : LineWords). l.words) e in
    ap (λ t. row_at t a.cells) times ∙ ap (λ c. row_at b.time c) cells

rows_one : (xs ys : List TableRow) → AllByRecursion IsPlainRow xs → AllByRecursion IsPlainRow ys → map row_line xs ≡ map row_line ys → xs ≡ ys
rows_one [] [] g h e = refl
rows_one [] (y ∷ ys) g h e = absurd (cc)
rows_one (x ∷ xs) [] g h e = absurd (cc)
rows_one (x ∷ xs) (y ∷ ys) g h e =
    let first : row_line x ≡ row_line y = cc in
    let rest : map row_line xs ≡ map row_line ys = cc in
    let here : x ≡ y = row_one x y g.0 h.0 first in
    let more : xs ≡ ys = rows_one xs ys g.1 h.1 rest in
    cc

abbrev table_at : List (List ℕ) → List TableRow → TableOf
table_at labels rows = record { labels = labels; rows = rows }

pub table_one : (a b : TableOf) → IsPlainTable a → IsPlainTable b → table_text a ≡ table_text b → a ≡ b
table_one a b g h e =
    let all : table_lines a ≡ table_lines b = lines_one (table_lines a) (table_lines b) (table_marked a g) (table_marked b h) (sym (text_lines a) ∙ e ∙ text_lines b) in
    let head : line_of (codes "%time") a.labels ≡ line_of (codes "%time") b.labels = cc in
    let rest : map row_line a.rows ≡ map row_line b.rows = cc in
    let labels : a.labels ≡ b.labels = ap (λ (l : LineWords). l.words) head in
    let rows : a.rows ≡ b.rows = rows_one a.rows b.rows g.rows h.rows rest in
    ap (λ l. table_at l a.rows) labels ∙ ap (λ r. table_at b.labels r) rows
