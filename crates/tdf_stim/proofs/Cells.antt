-- The cells of all rows, one column after the other, and their literals.
use Rattle.std.proofs.Common.{◌≡◌, ◌∙◌, ℕ, suc, ◌+◌, ◌-◌, ◌<◌, ◌≤◌, Bor, List, [], ◌∷◌, ◌++◌, map, length, take, drop, get_or, set, refl, sym, ap, arith}
use Rattle.std.proofs.lemmas.Grind.{take_at_read}
use Rattle.std.proofs.lemmas.List.{map_more, map_push, take_more_set}
use Rattle.std.specs.Prelude.{slice_index_or}
use Rattle.tdf_lang_tree.specs.declared.names.Lit.{Lit}
use Rattle.tdf_stim.proofs.ColumnLists.{literals_push}
use Rattle.tdf_stim.specs.Driver.{cell_literal, literals}
use Rattle.tdf_stim.specs.machine.Cells.{above, first_words}
use Rattle.tdf_tables.specs.Rows.{row_of}
use Rattle.tdf_tables.specs.Tables.{TableRow}
use Rattle.tdf_tables.specs.Words.{words_of}
use Rattle.tdf_tables.specs.declared.table.Row.{Row}

abbrev pub words : Bor (List ℕ) → List (List ℕ)
words text = words_of text.now

-- one row more
pub cells_more : (rows : List Row) (i : ℕ) (d : Row) (cells new : List (Bor (List ℕ))) → i < length rows
    → map words cells ≡ map (λ row. row.cells) (map row_of (take i rows)) → new ≡ cells ++ (get_or rows i d).cells ∷ []
    → map words new ≡ map (λ row. row.cells) (map row_of (take (i + 1) rows))
cells_more rows i d cells new within done is =
    ap (map words) is ∙ map_push words cells (get_or rows i d).cells ∙ ap (λ l. l ++ words (get_or rows i d).cells ∷ []) done
    ∙ sym (ap (map (λ (x : TableRow). x.cells)) (map_more row_of rows i d within) ∙ map_push (λ (x : TableRow). x.cells) (map row_of (take i rows)) (row_of (get_or rows i d)))

-- one row further in place
pub next_more : (old now : List (Bor (List ℕ))) (i : ℕ) (s t : Bor (List ℕ)) → length now ≡ length old → ((k : ℕ) (d : Bor (List ℕ)) → i ≤ k → get_or now k d ≡ get_or old k d)
    → i < length now → s ≡ get_or now i s → words t ≡ drop 1 (words s) → map words (take i now) ≡ map (drop 1) (map words (take i old))
    → map words (take (i + 1) (set now i t)) ≡ map (drop 1) (map words (take (i + 1) old))
next_more old now i s t same ahead within here is done =
    let was : get_or now i s ≡ get_or old i s = ahead i s (omega arith) in
    let olds : take (i + 1) old ≡ take i old ++ (s ∷ []) = (take_at_read old i s (omega (arith, same, within))).1 ∙ ap (λ x. take i old ++ (x ∷ [])) (sym was ∙ sym here) in
    let news : take (i + 1) (set now i t) ≡ take i now ++ t ∷ [] = take_more_set now i t within in
    ap (map words) news ∙ map_push words (take i now) t ∙ ap (λ l. l ++ words t ∷ []) done ∙ ap (λ w. map (drop 1) (map words (take i old)) ++ w ∷ []) is
    ∙ sym (ap (λ xs. map (drop 1) (map words xs)) olds ∙ ap (map (drop 1)) (map_push words (take i old) s) ∙ map_push (drop 1) (map words (take i old)) (words s))

-- one literal more
pub literal_more : (start value : Lit) (cells : List (Bor (List ℕ))) (i : ℕ) (d : Bor (List ℕ)) (column new : List Lit) → i < length cells
    → column ≡ literals start (first_words (map words (take i cells))) → value ≡ cell_literal (above start column) (slice_index_or (words (get_or cells i d)) 0 [])
    → new ≡ column ++ value ∷ [] → new ≡ literals start (first_words (map words (take (i + 1) cells)))
literal_more start value cells i d column new within done is new_is =
    let first = λ (row : List (List ℕ)). slice_index_or row 0 [] in
    let front : first_words (map words (take (i + 1) cells)) ≡ first_words (map words (take i cells)) ++ first (words (get_or cells i d)) ∷ [] =
    ap first_words (map_more words cells i d within) ∙ map_push first (map words (take i cells)) (words (get_or cells i d)) in
    new_is ∙ ap (λ v. column ++ v ∷ []) is ∙ ap (λ c. c ++ cell_literal (above start c) (first (words (get_or cells i d))) ∷ []) done
    ∙ sym (ap (literals start) front ∙ literals_push start (first_words (map words (take i cells))) (first (words (get_or cells i d))))

-- what stands above the next cell
pub above_nil : (start : Lit) (column : List Lit) → length column ≡ 0 → above start column ≡ start
above_nil start [] none = refl
above_nil start (x ∷ column) none = absurd (omega arith)

pub above_last : (start : Lit) (column : List Lit) (d : Lit) → 0 < length column → above start column ≡ get_or column (length column - 1) d
above_last start [] d some = absurd (omega arith)
above_last start (x ∷ []) d some = refl
above_last start (x ∷ (y ∷ column)) d some =
    let e : length (x ∷ (y ∷ column)) - 1 ≡ suc (length (y ∷ column) - 1) = omega arith in
    above_last x (y ∷ column) d (omega arith) ∙ sym (ap (λ n. get_or (x ∷ (y ∷ column)) n d) e)
