-- A text of so many cells has these cells, and no others.
use Rattle.std.proofs.Common.{◌≡◌, ℕ, zero, suc, Bool, true, false, ◌&&◌, nat_eq, List, [], ◌∷◌, ◌++◌, length, refl, arith, ◌∙◌, sym, ap, subst, Some, None, Option, drop}
use Rattle.std.proofs.lemmas.Bool.{eqb-true, and_parts}
use Rattle.std.proofs.lemmas.List.{take-append-drop}
use Rattle.std.specs.List.{AllByRecursion, before_first, list_any, position_or_len}
use Rattle.tdf_tables.proofs.CellLaws.{cell_complete, cell_sound}
use Rattle.tdf_tables.proofs.Marks.{cell_marks, cells_marked, mark_no_space, none_of_marks, without_spaces}
use Rattle.tdf_tables.proofs.Words.{spaced_more, spaced_none, word_first, word_rest, words_none, words_spaced, words_step}
use Rattle.tdf_tables.specs.Cells.{IsCell}
use Rattle.tdf_tables.specs.Words.{is_blank, spaced, words_of}
use Rattle.tdf_tables.specs.machine.Scan.{after_cell, are_cells, is_cell}

-- ---- cells are told, and are the words of their text

after_is : (word : List ℕ) (words : List (List ℕ)) → IsCell word → after_cell (spaced (word ∷ words)) ≡ Some (spaced words)
unfolding spaced
after_is word words h =
    let none : list_any is_blank word ≡ false = none_of_marks is_blank word mark_no_space (cell_marks word h) in
    let first : before_first is_blank (word ++ spaced words) ≡ word = word_first word words none in
    let rest : drop (position_or_len is_blank (word ++ spaced words)) (word ++ spaced words) ≡ spaced words = word_rest word words none in
    rw (first, cell_complete word h, rest) refl

none_told : are_cells 0 (spaced []) ≡ true
unfolding are_cells spaced
none_told = refl

more_told : (n : ℕ) (text rest : List ℕ) → after_cell text ≡ Some rest → are_cells (suc n) text ≡ are_cells n rest
unfolding are_cells
more_told n text rest e = rw e refl

pub cells_told : (cells : List (List ℕ)) → AllByRecursion IsCell cells → are_cells (length cells) (spaced cells) ≡ true
cells_told [] h = none_told
cells_told (c ∷ cs) h = more_told (length cs) (spaced (c ∷ cs)) (spaced cs) (after_is c cs h.0) ∙ cells_told cs h.1

pub cells_back : (cells : List (List ℕ)) → AllByRecursion IsCell cells → words_of (spaced cells) ≡ cells
cells_back cells h = words_spaced cells (without_spaces cells (cells_marked cells h))

-- ---- what is told is so many cells

pub record AreCellsOf (n : ℕ) (text : List ℕ) : Type 0 where
  pub is : text ≡ spaced (words_of text)
  pub many : length (words_of text) ≡ n
  pub cells : AllByRecursion IsCell (words_of text)

-- a text after which the rest begins is a space, a cell and the rest
record Begins (text rest : List ℕ) : Type 0 where
  word : List ℕ
  cell : IsCell word
  is : text ≡ 32 ∷ (word ++ rest)
  words : words_of text ≡ word ∷ words_of rest

begins_by : (c : ℕ) (text rest : List ℕ) (b : Bool) → (nat_eq c 32 && is_cell (before_first is_blank text)) ≡ b
    → after_cell (c ∷ text) ≡ Some rest → Begins (c ∷ text) rest
begins_by c text rest false e h = absurd (let g : None ≡ Some rest = rw e at h in cc)
begins_by c text rest true e h =
    let parts = and_parts (nat_eq c 32) (is_cell (before_first is_blank text)) e in
    let space : c ≡ 32 = eqb-true c 32 parts.0 in
    let g : Some (drop (position_or_len is_blank text) text) ≡ Some rest = rw e at h in
    let same : drop (position_or_len is_blank text) text ≡ rest = cc in
    record {
      word = before_first is_blank text;
      cell = cell_sound (before_first is_blank text) parts.1;
      is = ap (λ x. x ∷ text) space ∙ ap (λ t. 32 ∷ t) (sym (take-append-drop (position_or_len is_blank text) text)
          ∙ ap (λ t. before_first is_blank text ++ t) same);
      words = words_step c text ∙ ap (λ t. before_first is_blank text ∷ words_of t) same;
    }

begins : (text rest : List ℕ) → after_cell text ≡ Some rest → Begins text rest
begins [] rest h = absurd (let g : None ≡ Some rest = h in cc)
begins (c ∷ text) rest h = begins_by c text rest (nat_eq c 32 && is_cell (before_first is_blank text)) refl h

sound_none : (text : List ℕ) → are_cells 0 text ≡ true → AreCellsOf 0 text
unfolding are_cells
sound_none [] h = record {
  is = sym (ap spaced words_none ∙ spaced_none);
  many = ap length words_none;
  cells = subst (AllByRecursion IsCell) (sym words_none) tt;
}
sound_none (c ∷ cs) h = let f : length (c ∷ cs) ≡ 0 = eqb-true (length (c ∷ cs)) 0 h in absurd (omega (arith, f))

none_left : (n : ℕ) (text : List ℕ) → after_cell text ≡ None → are_cells (suc n) text ≡ false
unfolding are_cells
none_left n text e = rw e refl

sound_by : (n : ℕ) → ((t : List ℕ) → are_cells n t ≡ true → AreCellsOf n t) → (text : List ℕ) (rest : Option (List ℕ)) → after_cell text ≡ rest
    → are_cells (suc n) text ≡ true → AreCellsOf (suc n) text
sound_by n before text None e h = absurd (let f = none_left n text e in cc)
sound_by n before text (Some rest) e h =
    let b = begins text rest e in
    let g : are_cells n rest ≡ true = sym (more_told n text rest e) ∙ h in
    let more = before rest g in
    record {
      is = b.is ∙ ap (λ t. 32 ∷ (b.word ++ t)) more.is ∙ sym (spaced_more b.word (words_of rest)) ∙ ap spaced (sym b.words);
      many = ap length b.words ∙ (let m = more.many in omega arith);
      cells = subst (AllByRecursion IsCell) (sym b.words) (b.cell, more.cells);
    }

pub cells_sound : (n : ℕ) (text : List ℕ) → are_cells n text ≡ true → AreCellsOf n text
cells_sound zero text h = sound_none text h
cells_sound (suc n) text h = sound_by n (cells_sound n) text (after_cell text) refl h
