-- Words, each with or without a space after it, and the canonical words of an expression.
use Rattle.std.proofs.Common.{◌≡◌, ℕ, Bool, true, false, ◌&&◌, ◌||◌, not, List, [], ◌∷◌, ◌++◌, map, refl, sym, ap, subst, ◌∙◌, append_assoc, arith, eqb}
use Rattle.std.proofs.lemmas.Bool.{and_parts, and_from, false≢true}
use Rattle.std.proofs.lemmas.Bool.Decides.{nat_tests}
use Rattle.std.proofs.lemmas.List.{append-nil}
use Rattle.std.proofs.lemmas.List.Folds.{list_all-append}
use Rattle.std.specs.List.{list_all}
use Rattle.tdf_base.specs.Digits.{is_digit}
use Rattle.tdf_base.specs.Names.{is_letter, is_part}
use Rattle.tdf_lang_lexer.specs.Pieces.{is_pair, joins, pieces_from, pieces_of}
use Rattle.tdf_lang_lexer.specs.Dialect.{token_of}
use Rattle.tdf_lang_lexer.specs.declared.dialect.Dialect.{Dialect}
use Rattle.tdf_lang_lexer.specs.Token.{Tok}
use Rattle.tdf_lang_lexer.specs.Words as words
use Rattle.tdf_lang_lexer.specs.Words.{spelling}
use Rattle.tdf_lang_lexer.specs.declared.key.Symbol.TheVariants as symbol
use Rattle.tdf_lang.proofs.Scan.{EndsAt, space_ends, skip_space}
use Rattle.tdf_lang.proofs.Tokens.{spelled, is_plain, Writable, first_part, first_letter, letter_part}

-- a token, and whether there is a space after it
pub record Word : Type 0 where
  pub token : Tok
  pub space : Bool

abbrev pub tight : Tok → Word
tight t = record { token = t; space = false }

abbrev pub loose : Tok → Word
loose t = record { token = t; space = true }

abbrev pub word : Tok → Bool → Word
word t g = record { token = t; space = g }

abbrev pub gap : Bool → List ℕ
gap true = 32 ∷ []
gap false = []

abbrev pub written : Dialect → List Word → List ℕ
written lang [] = []
written lang (w ∷ ws) = spelled lang w.token ++ (gap w.space ++ written lang ws)

abbrev pub tokens_in : List Word → List Tok
tokens_in ws = map (λ w. w.token) ws

pub record Ends (now rest : List ℕ) : Type 0 where
  pub quiet : EndsAt now rest

pub by_space : {now rest : List ℕ} → Ends now (32 ∷ rest)
by_space {now = now} {rest = rest} = record { quiet = space_ends now rest }

-- each word is a token that can be written, and ends where the text after it begins
abbrev pub ApartTo : Dialect → List Word → List ℕ → Type 0
ApartTo lang [] rest = Unit {0}
ApartTo lang (w ∷ ws) rest = Writable lang w.token × Ends (spelled lang w.token) (gap w.space ++ (written lang ws ++ rest)) × ApartTo lang ws rest

pub written_append : (lang : Dialect) (xs ys : List Word) → written lang (xs ++ ys) ≡ written lang xs ++ written lang ys
written_append lang [] ys = refl
written_append lang (w ∷ xs) ys =
    ap (λ u. spelled lang w.token ++ (gap w.space ++ u)) (written_append lang xs ys)
    ∙ sym (append_assoc (spelled lang w.token) (gap w.space ++ written lang xs) (written lang ys)
    ∙ ap (λ u. spelled lang w.token ++ u) (append_assoc (gap w.space) (written lang xs) (written lang ys)))

pub apart_append : (lang : Dialect) (xs ys : List Word) (rest : List ℕ) → ApartTo lang xs (written lang ys ++ rest) → ApartTo lang ys rest → ApartTo lang (xs ++ ys) rest
apart_append lang [] ys rest h k = k
apart_append lang (w ∷ xs) ys rest h k =
    let e : written lang xs ++ (written lang ys ++ rest) ≡ written lang (xs ++ ys) ++ rest =
    sym (ap (λ u. u ++ rest) (written_append lang xs ys) ∙ append_assoc (written lang xs) (written lang ys) rest) in
    (h.0, subst (λ u. Ends (spelled lang w.token) (gap w.space ++ u)) e h.1, apart_append lang xs ys rest h.2 k)

skip_gap : (g : Bool) (rest : List ℕ) → pieces_from [] (gap g ++ rest) ≡ pieces_from [] rest
skip_gap true rest = skip_space rest
skip_gap false rest = refl

cut_words : (lang : Dialect) (ws : List Word) (rest : List ℕ) → ApartTo lang ws rest
    → pieces_from [] (written lang ws ++ rest) ≡ map (λ w. spelled lang w.token) ws ++ pieces_from [] rest
cut_words lang [] rest h = refl
cut_words lang (w ∷ ws) rest h =
    ap (pieces_from []) (append_assoc (spelled lang w.token) (gap w.space ++ written lang ws) rest
    ∙ ap (λ u. spelled lang w.token ++ u) (append_assoc (gap w.space) (written lang ws) rest))
    ∙ h.0.piece.scan (gap w.space ++ (written lang ws ++ rest)) h.1.quiet
    ∙ ap (λ u. spelled lang w.token ∷ u) (skip_gap w.space (written lang ws ++ rest) ∙ cut_words lang ws rest h.2)

read_words : (lang : Dialect) (ws : List Word) (rest : List ℕ) → ApartTo lang ws rest → map (token_of lang) (map (λ w. spelled lang w.token) ws) ≡ tokens_in ws
read_words lang [] rest h = refl
read_words lang (w ∷ ws) rest h = rw h.0.reads (ap (λ u. w.token ∷ u) (read_words lang ws rest h.2))

-- the words are the pieces of what is written
pub words_read : (lang : Dialect) (ws : List Word) → ApartTo lang ws [] → map (token_of lang) (pieces_of (written lang ws)) ≡ tokens_in ws
unfolding pieces_of pieces_from
words_read lang ws h =
    ap (λ u. map (token_of lang) (pieces_from [] u)) (sym (append-nil (written lang ws)))
    ∙ ap (map (token_of lang)) (cut_words lang ws [] h ∙ append-nil (map (λ w. spelled lang w.token) ws))
    ∙ read_words lang ws [] h

gap_plain : (g : Bool) → list_all is_plain (gap g) ≡ true
gap_plain true = refl
gap_plain false = refl

pub words_plain : (lang : Dialect) (ws : List Word) (rest : List ℕ) → ApartTo lang ws rest → list_all is_plain (written lang ws) ≡ true
words_plain lang [] rest h = refl
words_plain lang (w ∷ ws) rest h =
    list_all-append is_plain (spelled lang w.token) (gap w.space ++ written lang ws)
    ∙ and_from (list_all is_plain (spelled lang w.token)) _ h.0.plain
    (list_all-append is_plain (gap w.space) (written lang ws) ∙ and_from (list_all is_plain (gap w.space)) _ (gap_plain w.space) (words_plain lang ws rest h.2))

-- a text that ends each word before it: it begins with a space or another byte that no word takes, or is empty
abbrev pub soft : ℕ → Bool
soft b = not (is_part b) && not (eqb b 46)

abbrev pub SoftText : List ℕ → Type 0
SoftText [] = Unit {0}
SoftText (b ∷ rest) = soft b ≡ true

not_true : (b : Bool) → not b ≡ true → b ≡ false
not_true true h = absurd (false≢true h)
not_true false h = refl

part_ends_at : (f b : ℕ) (more rest : List ℕ) → is_part f ≡ true → is_part b ≡ false → eqb b 46 ≡ false → joins (f ∷ more) b rest ≡ false
part_ends_at f b more rest e h k = rw (e, h, k) refl

pub part_ends : (w rest : List ℕ) → first_part w ≡ true → SoftText rest → EndsAt w rest
part_ends [] rest e h = absurd (false≢true e)
part_ends (f ∷ more) [] e h = tt
part_ends (f ∷ more) (b ∷ rest) e h =
    let both = and_parts (not (is_part b)) (not (eqb b 46)) h in
    part_ends_at f b more rest e (not_true (is_part b) both.0) (not_true (eqb b 46) both.1)

-- a point ends a word that begins with a letter
letter_no_digit : (f : ℕ) → is_letter f ≡ true → is_digit f ≡ false
letter_no_digit f h = grind (arith, nat_tests)

pub point_ends : (w rest : List ℕ) → first_letter w ≡ true → EndsAt w (46 ∷ rest)
point_ends [] rest e = absurd (false≢true e)
point_ends (f ∷ more) rest e = rw (letter_part f e, letter_no_digit f e) refl

-- a symbol of one byte that is none of a symbol of two
pub lone_ends : (f : ℕ) (rest : List ℕ) → is_part f ≡ false → ((b : ℕ) → is_pair f b ≡ false) → EndsAt (f ∷ []) rest
lone_ends f [] e h = tt
lone_ends f (b ∷ rest) e h = rw (e, h b) refl

both_false : (x : Bool) → (((x && false) || false) || false) ≡ false
both_false true = refl
both_false false = refl

pub open_ends : (rest : List ℕ) → EndsAt (words.sign symbol.Open) rest
unfolding words.sign
open_ends rest = lone_ends 40 rest refl (λ b. both_false (eqb b 61))

pub close_ends : (rest : List ℕ) → EndsAt (words.sign symbol.Close) rest
unfolding words.sign
close_ends rest = lone_ends 41 rest refl (λ b. both_false (eqb b 61))

pub open_square_ends : (rest : List ℕ) → EndsAt (words.sign symbol.OpenSquare) rest
unfolding words.sign
open_square_ends rest = lone_ends 91 rest refl (λ b. both_false (eqb b 61))

pub close_square_ends : (rest : List ℕ) → EndsAt (words.sign symbol.CloseSquare) rest
unfolding words.sign
close_square_ends rest = lone_ends 93 rest refl (λ b. both_false (eqb b 61))

pub minus_ends : (rest : List ℕ) → EndsAt (words.sign symbol.Minus) rest
unfolding words.sign
minus_ends rest = lone_ends 45 rest refl (λ b. both_false (eqb b 61))

pub dot_ends : (rest : List ℕ) → EndsAt (words.sign symbol.Point) rest
unfolding words.sign
dot_ends rest = lone_ends 46 rest refl (λ b. both_false (eqb b 61))

pub by_soft : {w rest : List ℕ} → first_part w ≡ true → SoftText rest → Ends w rest
by_soft {w = w} {rest = rest} e h = record { quiet = part_ends w rest e h }

pub by_byte : {w rest : List ℕ} {b : ℕ} → first_part w ≡ true → soft b ≡ true → Ends w (b ∷ rest)
by_byte {w = w} {rest = rest} {b = b} e h = record { quiet = part_ends w (b ∷ rest) e h }

pub by_point : {w rest : List ℕ} → first_letter w ≡ true → Ends w (46 ∷ rest)
by_point {w = w} {rest = rest} e = record { quiet = point_ends w rest e }

pub by_open : {rest : List ℕ} → Ends (words.sign symbol.Open) rest
by_open {rest = rest} = record { quiet = open_ends rest }

pub by_close : {rest : List ℕ} → Ends (words.sign symbol.Close) rest
by_close {rest = rest} = record { quiet = close_ends rest }

pub by_open_square : {rest : List ℕ} → Ends (words.sign symbol.OpenSquare) rest
by_open_square {rest = rest} = record { quiet = open_square_ends rest }

pub by_close_square : {rest : List ℕ} → Ends (words.sign symbol.CloseSquare) rest
by_close_square {rest = rest} = record { quiet = close_square_ends rest }

pub by_minus : {rest : List ℕ} → Ends (words.sign symbol.Minus) rest
by_minus {rest = rest} = record { quiet = minus_ends rest }

pub by_dot : {rest : List ℕ} → Ends (words.sign symbol.Point) rest
by_dot {rest = rest} = record { quiet = dot_ends rest }
