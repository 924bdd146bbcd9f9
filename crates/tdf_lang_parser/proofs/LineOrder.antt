-- Numbers that rise, and lists that leave some of them out.
use Rattle.std.proofs.Common.{◌≡◌, ℕ, zero, suc, ◌+◌, ◌<◌, ◌≤◌, List, [], ◌∷◌, ◌++◌, refl, ap, subst, sym, arith}
use Rattle.std.specs.List.Sorted.{IsStrictlyIncreasing}
use Rattle.std.specs.Prelude.{slice_index}
use Rattle.tdf_lang_lexer.proofs.Api.{KeepTokens, tokens_keep}
use Rattle.tdf_lang_lexer.specs.Dialect.{token_lines}
use Rattle.tdf_lang_lexer.specs.Pieces.{without_comment, pieces_of}
use Rattle.tdf_lang_lexer.specs.Rows.{Row, row_unless_bare, rows_from, rows_of}
use Rattle.tdf_lang_lexer.specs.Text.{lines_of}
use Rattle.tdf_lang_lexer.specs.Token.{TokenLine}
use Rattle.tdf_lang_lexer.specs.declared.dialect.Dialect.{Dialect}

-- the second list has all that the first has, in its order
pub data Within : List ℕ → List ℕ → Type 0 where
  within_none : Within [] []
  within_both : {xs ys : List ℕ} (n : ℕ) → Within xs ys → Within (n ∷ xs) (n ∷ ys)
  within_more : {xs ys : List ℕ} (n : ℕ) → Within xs ys → Within xs (n ∷ ys)

pub within_nothing : (ys : List ℕ) → Within [] ys
within_nothing [] = within_none
within_nothing (y ∷ ys) = within_more y (within_nothing ys)

pub within_append : {a b c d : List ℕ} → Within a b → Within c d → Within (a ++ c) (b ++ d)
within_append within_none e = e
within_append (within_both n h) e = within_both n (within_append h e)
within_append (within_more n h) e = within_more n (within_append h e)

-- each is at least m and more than the one before
abbrev pub Rises : ℕ → List ℕ → Type 0
Rises m [] = Unit {0}
Rises m (n ∷ ns) = (m ≤ n) × Rises (n + 1) ns

rises_less : (k m : ℕ) (ns : List ℕ) → k ≤ m → Rises m ns → Rises k ns
rises_less k m [] h r = tt
rises_less k m (n ∷ ns) h r = (omega (arith, h, r.0), r.1)

pub rises_within : {xs ys : List ℕ} (m : ℕ) → Within xs ys → Rises m ys → Rises m xs
rises_within m within_none r = tt
rises_within m (within_both n h) r = (r.0, rises_within (n + 1) h r.1)
rises_within {xs = xs} m (within_more n h) r = rises_less m (n + 1) xs (omega (arith, r.0)) (rises_within (n + 1) h r.1)

pub rises_increase : (m : ℕ) (xs : List ℕ) → Rises m xs → IsStrictlyIncreasing xs
rises_increase m [] r k h = absurd (omega (arith, h))
rises_increase m (x ∷ []) r k h = absurd (omega (arith, h))
rises_increase m (x ∷ y ∷ ys) r zero h = omega (arith, r.1.0)
rises_increase m (x ∷ y ∷ ys) r (suc k) h =
    let next : suc (k + 1) ≡ suc k + 1 = omega arith in
    subst (λ (j : ℕ). slice_index (y ∷ ys) k < slice_index (x ∷ y ∷ ys) j) next (rises_increase (x + 1) (y ∷ ys) r.1 k (omega (arith, h)))

abbrev pub numbers : List TokenLine → List ℕ
numbers [] = []
numbers (h ∷ hs) = h.number ∷ numbers hs

pub numbers_append : (a b : List TokenLine) → numbers (a ++ b) ≡ numbers a ++ numbers b
numbers_append [] b = refl
numbers_append (h ∷ a) b = ap (λ ns. h.number ∷ ns) (numbers_append a b)

-- two parts, one after the other
pub within_rows : {xs ys : List ℕ} (a b : List TokenLine) → Within xs (numbers a) → Within ys (numbers b) → Within (xs ++ ys) (numbers (a ++ b))
within_rows {xs = xs} {ys = ys} a b h k = subst (λ ns. Within (xs ++ ys) ns) (sym (numbers_append a b)) (within_append h k)

-- a part, and rows after it that hold no number of its own
pub within_front : {xs : List ℕ} (a b : List TokenLine) → Within xs (numbers a) → Within xs (numbers (a ++ b))
within_front {xs = xs} [] b within_none = within_nothing (numbers b)
within_front (r ∷ a) b (within_both n h) = within_both r.number (within_front a b h)
within_front (r ∷ a) b (within_more n h) = within_more r.number (within_front a b h)

pub within_after : {xs : List ℕ} (a b : List TokenLine) → Within xs (numbers b) → Within xs (numbers (a ++ b))
within_after [] b h = h
within_after (r ∷ a) b h = within_more r.number (within_after a b h)

-- the tokens of each row are those of pieces
abbrev pub KeepRows : List TokenLine → Type 0
KeepRows [] = Unit {0}
KeepRows (h ∷ hs) = KeepTokens h.tokens × KeepRows hs

pub rows_split : (a b : List TokenLine) → KeepRows (a ++ b) → KeepRows a × KeepRows b
rows_split [] b k = (tt, k)
rows_split (h ∷ a) b k = let s = rows_split a b k.1 in ((k.0, s.0), s.1)

pub rows_keep : (lang : Dialect) (rows : List Row) → KeepRows (token_lines lang rows)
rows_keep lang [] = tt
rows_keep lang (r ∷ rows) = (tokens_keep lang r.pieces, rows_keep lang rows)

-- the rows of a text
abbrev pub row_numbers : List Row → List ℕ
row_numbers [] = []
row_numbers (r ∷ rows) = r.number ∷ row_numbers rows

pub numbers_of : (lang : Dialect) (rows : List Row) → numbers (token_lines lang rows) ≡ row_numbers rows
numbers_of lang [] = refl
numbers_of lang (r ∷ rows) = ap (λ ns. r.number ∷ ns) (numbers_of lang rows)

bare_rises : (n : ℕ) (pieces : List (List ℕ)) (rest : List Row) → Rises (n + 1) (row_numbers rest) → Rises n (row_numbers (row_unless_bare n pieces ++ rest))
bare_rises n [] rest r = rises_less n (n + 1) (row_numbers rest) (omega arith) r
bare_rises n (first ∷ more) rest r = (omega arith, r)

rows_rise_from : (n : ℕ) (lines : List (List ℕ)) → Rises n (row_numbers (rows_from n lines))
unfolding rows_from
rows_rise_from n [] = tt
rows_rise_from n (line ∷ lines) = bare_rises n (pieces_of (without_comment line)) (rows_from (n + 1) lines) (rows_rise_from (n + 1) lines)

pub rows_rise : (text : List ℕ) → Rises 1 (row_numbers (rows_of text))
unfolding rows_of
rows_rise text = rows_rise_from 1 (lines_of text)
