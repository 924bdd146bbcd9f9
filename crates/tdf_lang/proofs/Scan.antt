-- Words with and without a space after them are cut into just these words again.
use Rattle.std.proofs.Common.{◌≡◌, ℕ, ◌≤◌, Bool, true, false, ◌&&◌, ◌||◌, List, [], ◌∷◌, ◌++◌, length, refl, sym, ap, ◌∙◌, append_assoc, arith, eqb}
use Rattle.std.proofs.lemmas.Bool.{and_parts, and_from, and_right}
use Rattle.std.proofs.lemmas.Bool.Decides.{nat_tests}
use Rattle.std.proofs.lemmas.List.{append-nil}
use Rattle.std.specs.List.{list_all}
use Rattle.tdf_base.specs.Digits.{is_digit}
use Rattle.tdf_base.specs.Names.{is_part}
use Rattle.tdf_lang_lexer.specs.Pieces.{is_space, is_pair, joins, begins_with_digit, pieces_from}

-- the byte after a piece doesn't make it longer
abbrev pub EndsAt : List ℕ → List ℕ → Type 0
EndsAt now [] = Unit {0}
EndsAt now (b ∷ rest) = joins now b rest ≡ false

pub record IsPiece (now : List ℕ) : Type 0 where
  pub scan : (rest : List ℕ) → EndsAt now rest → pieces_from [] (now ++ rest) ≡ now ∷ pieces_from [] rest

scan_end : (f : ℕ) (more rest : List ℕ) → EndsAt (f ∷ more) rest → pieces_from (f ∷ more) rest ≡ (f ∷ more) ∷ pieces_from [] rest
unfolding pieces_from
scan_end f more [] h = refl
scan_end f more (b ∷ rest) h = rw h refl

scan_first : (f : ℕ) (rest : List ℕ) → is_space f ≡ false → pieces_from [] (f ∷ rest) ≡ pieces_from (f ∷ []) rest
unfolding pieces_from
scan_first f rest h = rw h refl

scan_one : (now rest : List ℕ) (b : ℕ) → joins now b rest ≡ true → pieces_from now (b ∷ rest) ≡ pieces_from (now ++ b ∷ []) rest
unfolding pieces_from
scan_one now rest b h = rw h refl

part_joins : (f b : ℕ) (more rest : List ℕ) → is_part f ≡ true → is_part b ≡ true → joins (f ∷ more) b rest ≡ true
part_joins f b more rest e h = rw (e, h) refl

part_no_space : (f : ℕ) → is_part f ≡ true → is_space f ≡ false
part_no_space f h = grind (arith, nat_tests)

-- a word goes on with each of its bytes
scan_word : (f : ℕ) (more w rest : List ℕ) → is_part f ≡ true → list_all is_part w ≡ true → pieces_from (f ∷ more) (w ++ rest) ≡ pieces_from (f ∷ (more ++ w)) rest
scan_word f more [] rest e h = ap (λ u. pieces_from (f ∷ u) rest) (sym (append-nil more))
scan_word f more (b ∷ w) rest e h =
    let both = and_parts (is_part b) (list_all is_part w) h in
    scan_one (f ∷ more) (w ++ rest) b (part_joins f b more (w ++ rest) e both.0)
    ∙ scan_word f (more ++ b ∷ []) w rest e both.1
    ∙ ap (λ u. pieces_from (f ∷ u) rest) (append_assoc more (b ∷ []) w)

pub word_piece : (f : ℕ) (more : List ℕ) → is_part f ≡ true → list_all is_part more ≡ true → IsPiece (f ∷ more)
word_piece f more e h = record {
  scan = λ rest quiet.
      scan_first f (more ++ rest) (part_no_space f e) ∙ scan_word f [] more rest e h ∙ scan_end f more rest quiet;
}

point_joins : (f : ℕ) (more rest : List ℕ) → is_part f ≡ true → list_all is_digit (f ∷ more) ≡ true → begins_with_digit rest ≡ true → joins (f ∷ more) 46 rest ≡ true
point_joins f more rest e g h = rw (e, g, h) refl

digit_part : (b : ℕ) → is_digit b ≡ true → is_part b ≡ true
digit_part b h = grind (arith, nat_tests)

digits_part : (w : List ℕ) → list_all is_digit w ≡ true → list_all is_part w ≡ true
digits_part [] h = refl
digits_part (c ∷ w) h =
    let e = and_parts (is_digit c) (list_all is_digit w) h in and_from (is_part c) (list_all is_part w) (digit_part c e.0) (digits_part w e.1)

pub digits_piece : (w : List ℕ) → list_all is_digit w ≡ true → 1 ≤ length w → IsPiece w
digits_piece [] h k = absurd (omega arith)
digits_piece (c ∷ w) h k =
    let e = and_parts (is_digit c) (list_all is_digit w) h in word_piece c w (digit_part c e.0) (digits_part w e.1)

pub number_piece : (w f : List ℕ) → list_all is_digit w ≡ true → 1 ≤ length w → list_all is_digit f ≡ true → 1 ≤ length f → IsPiece (w ++ 46 ∷ f)
number_piece [] f h k g l = absurd (omega arith)
number_piece (c ∷ w) [] h k g l = absurd (omega arith)
number_piece (c ∷ w) (d ∷ f) h k g l =
    let e = and_parts (is_digit c) (list_all is_digit w) h in
    let u = and_parts (is_digit d) (list_all is_digit f) g in
    let first = digit_part c e.0 in
    record {
      scan = λ rest quiet.
          ap (pieces_from []) (append_assoc (c ∷ w) (46 ∷ d ∷ f) rest)
          ∙ scan_first c (w ++ 46 ∷ d ∷ (f ++ rest)) (part_no_space c first)
          ∙ scan_word c [] w (46 ∷ d ∷ (f ++ rest)) first (digits_part w e.1)
          ∙ scan_one (c ∷ w) (d ∷ (f ++ rest)) 46 (point_joins c w (d ∷ (f ++ rest)) first h u.0)
          ∙ scan_word c (w ++ 46 ∷ []) (d ∷ f) rest first (digits_part (d ∷ f) g)
          ∙ ap (λ u. pieces_from (c ∷ u) rest) (append_assoc w (46 ∷ []) (d ∷ f))
          ∙ scan_end c (w ++ 46 ∷ d ∷ f) rest quiet;
    }

pub byte_piece : (b : ℕ) → is_space b ≡ false → IsPiece (b ∷ [])
byte_piece b h = record { scan = λ rest quiet. scan_first b rest h ∙ scan_end b [] rest quiet }

pub pair_piece : (a b : ℕ) → is_space a ≡ false → ((rest : List ℕ) → joins (a ∷ []) b rest ≡ true) → IsPiece (a ∷ b ∷ [])
pair_piece a b h k = record { scan = λ rest quiet. scan_first a (b ∷ rest) h ∙ scan_one (a ∷ []) rest b (k rest) ∙ scan_end a (b ∷ []) rest quiet }

pair_space : (f : ℕ) → is_pair f 32 ≡ false
pair_space f = go (eqb f 60) (eqb f 62)
  where
    go : (x y : Bool) → ((x && false) || (y && false)) ≡ false
    go true true = refl
    go true false = refl
    go false true = refl
    go false false = refl

-- a space ends each piece, and is none
pub space_ends : (now rest : List ℕ) → EndsAt now (32 ∷ rest)
space_ends [] rest = refl
space_ends (f ∷ more) rest = go (is_part f) refl
  where
    go : (b : Bool) → is_part f ≡ b → joins (f ∷ more) 32 rest ≡ false
    go true e = rw e refl
    go false e = rw e (and_right (eqb (length more) 0) (is_pair f 32) (pair_space f))

pub skip_space : (rest : List ℕ) → pieces_from [] (32 ∷ rest) ≡ pieces_from [] rest
unfolding pieces_from
skip_space rest = refl
