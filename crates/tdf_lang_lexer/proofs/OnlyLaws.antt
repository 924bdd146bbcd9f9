-- The cut of a text into lines, and that of a line into pieces, is the only one.
use Rattle.std.proofs.Common.{◌≡◌, ℕ, ◌<◌, Bool, true, false, List, [], ◌∷◌, ◌++◌, length, take, refl, ap, sym, ◌∙◌, subst, append_assoc, arith, ◌||◌, nat_eq, length-append, inl, inr}
use Rattle.std.proofs.Math.Seq.{take-append_seam}
use Rattle.std.proofs.lemmas.Bool.{eqb-true, cases_lt}
use Rattle.std.proofs.lemmas.List.{append-nil}
use Rattle.std.specs.List.{list_all, list_any}
use Rattle.tdf_base.specs.Names.{is_part}
use Rattle.tdf_lang_lexer.specs.Longest.{IsForm, word, number, pair, single, IsCut, blank, piece, PiecesAreLongest}
use Rattle.tdf_lang_lexer.specs.Pieces.{is_space, is_pair, pieces_of}
use Rattle.tdf_lang_lexer.specs.Text.{is_line_end, unless_empty, lines_from, lines_of, IsLines, no_line, last_line, line_end, LinesAreText}
use Rattle.tdf_lang_lexer.proofs.LineLaws.{lines_from-on, lines_are}
use Rattle.tdf_lang_lexer.proofs.LongestLaws.{and_left, and_right, or_cases, all-inside, pair_first, digits_first, cut_is_longest}

none_left : (a b : Bool) → a || b ≡ false → a ≡ false
none_left true b h = absurd cc
none_left false b h = refl

none_right : (a b : Bool) → a || b ≡ false → b ≡ false
none_right true b h = absurd cc
none_right false b h = h

-- lines
lines_from-all : (line now : List ℕ) → list_any is_line_end line ≡ false → lines_from now line ≡ unless_empty (now ++ line)
unfolding lines_from
lines_from-all [] now h = ap unless_empty (sym (append-nil now))
lines_from-all (byte ∷ more) now h =
    lines_from-on now byte more (none_left (is_line_end byte) (list_any is_line_end more) h)
    ∙ lines_from-all more (now ++ byte ∷ []) (none_right (is_line_end byte) (list_any is_line_end more) h)
    ∙ ap unless_empty (append_assoc now (byte ∷ []) more)

lines_from-end : (line now rest : List ℕ) → list_any is_line_end line ≡ false → lines_from now (line ++ 10 ∷ rest) ≡ (now ++ line) ∷ lines_from [] rest
unfolding lines_from
lines_from-end [] now rest h = ap (λ (l : List ℕ). l ∷ lines_from [] rest) (sym (append-nil now))
lines_from-end (byte ∷ more) now rest h =
    lines_from-on now byte (more ++ 10 ∷ rest) (none_left (is_line_end byte) (list_any is_line_end more) h)
    ∙ lines_from-end more (now ++ byte ∷ []) rest (none_right (is_line_end byte) (list_any is_line_end more) h)
    ∙ ap (λ (l : List ℕ). l ∷ lines_from [] rest) (append_assoc now (byte ∷ []) more)

unless_empty-some : (line : List ℕ) → 0 < length line → unless_empty line ≡ line ∷ []
unless_empty-some [] h = absurd (omega (arith, h))
unless_empty-some (byte ∷ more) h = refl

pub lines_only : {text : List ℕ} {lines : List (List ℕ)} → IsLines text lines → lines ≡ lines_of text
unfolding lines_of lines_from
lines_only no_line = refl
lines_only (last_line line h k) = sym (lines_from-all line [] k ∙ unless_empty-some line h)
lines_only (line_end line rest h d) = ap (λ (ls : List (List ℕ)). line ∷ ls) (lines_only d) ∙ sym (lines_from-end line [] rest h)

pub lines_are_text : LinesAreText
unfolding lines_of
lines_are_text text lines = (
  λ (d : IsLines text lines). lines_only d,
  λ (e : lines ≡ lines_of text). subst (IsLines text) (sym e) (lines_are text [] refl),
)

-- pieces: what begins with no space
abbrev Black : List ℕ → Type 0
Black xs = (c : ℕ) × (more : List ℕ) × (xs ≡ c ∷ more) × (is_space c ≡ false)

part_black : (c : ℕ) (b : Bool) → is_part c ≡ true → is_space c ≡ b → is_space c ≡ false
part_black c false h e = e
part_black c true h e =
    elim (or_cases (nat_eq c 32) (nat_eq c 9) e) [
      | inl f ↦ let g : c ≡ 32 = eqb-true c 32 f in let i : is_part 32 ≡ true = subst (λ (x : ℕ). is_part x ≡ true) g h in absurd cc
      | inr f ↦ let g : c ≡ 9 = eqb-true c 9 f in let i : is_part 9 ≡ true = subst (λ (x : ℕ). is_part x ≡ true) g h in absurd cc
    ]

pair_black : (c second : ℕ) → is_pair c second ≡ true → is_space c ≡ false
pair_black c second h = elim (pair_first c second h) [ inl e ↦ rw e refl | inr f ↦ elim f [ inl e ↦ rw e refl | inr g ↦ elim g [ inl e ↦ rw e refl | inr e ↦ rw e refl ] ] ]

form_black : {now : List ℕ} → IsForm now → Black now
form_black (word [] h k) = absurd (omega (arith, h))
form_black (word (c ∷ more) h k) = (c, more, refl, part_black c (is_space c) (and_left (is_part c) (list_all is_part more) k) refl)
form_black (number [] fraction h k l m) = absurd (omega (arith, h))
form_black (number (c ∷ more) fraction h k l m) = (c, _, refl, part_black c (is_space c) (digits_first c more k) refl)
form_black (pair c second h) = (c, second ∷ [], refl, pair_black c second h)
form_black (single c h k) = (c, [], refl, h)

black_more : {now : List ℕ} (rest : List ℕ) → Black now → Black (now ++ rest)
black_more rest b = (b.0, b.1 ++ rest, ap (λ (l : List ℕ). l ++ rest) b.2, b.3)

not_black : (c : ℕ) (more xs : List ℕ) → Black xs → xs ≡ c ∷ more → is_space c ≡ true → ⊥
not_black c more xs b e h =
    let f : b.0 ∷ b.1 ≡ c ∷ more = sym b.2 ∙ e in
    let g : b.0 ≡ c = cc in
    let i : true ≡ false = sym h ∙ ap is_space (sym g) ∙ b.3 in
    absurd cc

spaces_end : (s t xs ys : List ℕ) → list_all is_space s ≡ true → list_all is_space t ≡ true → Black xs → Black ys → s ++ xs ≡ t ++ ys → xs ≡ ys
spaces_end [] [] xs ys h k b d e = e
spaces_end [] (c ∷ t) xs ys h k b d e = absurd (not_black c (t ++ ys) xs b e (and_left (is_space c) (list_all is_space t) k))
spaces_end (c ∷ s) [] xs ys h k b d e = absurd (not_black c (s ++ xs) ys d (sym e) (and_left (is_space c) (list_all is_space s) h))
spaces_end (c ∷ s) (x ∷ t) xs ys h k b d e =
    let f : s ++ xs ≡ t ++ ys = cc in
    spaces_end s t xs ys (and_right (is_space c) (list_all is_space s) h) (and_right (is_space x) (list_all is_space t) k) b d f

blank_black : (s t now rest : List ℕ) → list_all is_space s ≡ true → Black now → s ≡ t ++ (now ++ rest) → ⊥
blank_black s t now rest h b e =
    let f : s ≡ t ++ (b.0 ∷ (b.1 ++ rest)) = e ∙ ap (λ (l : List ℕ). t ++ (l ++ rest)) b.2 in
    let g : is_space b.0 ≡ true = all-inside is_space t (b.1 ++ rest) b.0 (subst (λ (l : List ℕ). list_all is_space l ≡ true) f h) in
    let i : true ≡ false = sym g ∙ b.3 in
    absurd cc

-- of two fronts of one text the longer goes on with what follows the shorter
longer : (n m r q : List ℕ) → n ++ r ≡ m ++ q → length n < length m → (k : ℕ) × (0 < k) × (0 < length r) × (m ≡ n ++ take k r)
longer [] m r q e h = (
  length m,
  h,
  omega (arith, h, ap length e, length-append m q),
  sym (ap (take (length m)) e ∙ take-append_seam m q),
)
longer (x ∷ xs) [] r q e h = absurd (omega (arith, h))
longer (x ∷ xs) (y ∷ ys) r q e h =
    let f : x ≡ y = cc in
    let g : xs ++ r ≡ ys ++ q = cc in
    let z = longer xs ys r q g (omega (arith, h)) in
    (z.0, z.1, z.2, let a : ys ≡ xs ++ take z.0 r = z.3 in let b : y ∷ ys ≡ x ∷ (xs ++ take z.0 r) = cc in b)

same_cut : (n m r q : List ℕ) → n ++ r ≡ m ++ q → length n ≡ length m → (n ≡ m) × (r ≡ q)
same_cut [] [] r q e h = (refl, e)
same_cut [] (y ∷ ys) r q e h = absurd (omega (arith, h))
same_cut (x ∷ xs) [] r q e h = absurd (omega (arith, h))
same_cut (x ∷ xs) (y ∷ ys) r q e h =
    let f : x ≡ y = cc in
    let g : xs ++ r ≡ ys ++ q = cc in
    let z = same_cut xs ys r q g (omega (arith, h)) in
    (let a : xs ≡ ys = z.0 in let b : x ∷ xs ≡ y ∷ ys = cc in b, z.1)

-- two longest pieces of one text are the same
one_piece : (n m r q : List ℕ) (ps qs : List (List ℕ)) → IsForm n → IsForm m → ((k : ℕ) → 0 < k → 0 < length r → IsForm (n ++ take k r) → ⊥)
    → ((k : ℕ) → 0 < k → 0 < length q → IsForm (m ++ take k q) → ⊥) → n ++ r ≡ m ++ q → (r ≡ q → ps ≡ qs) → n ∷ ps ≡ m ∷ qs
one_piece n m r q ps qs f g l w x ih =
    elim (cases_lt (length n) (length m)) [
      | inl lt ↦ let z = longer n m r q x lt in absurd (l z.0 z.1 z.2 (subst IsForm z.3 g))
      | inr le ↦
          elim (cases_lt (length m) (length n)) [
            | inl lt ↦ let z = longer m n q r (sym x) lt in absurd (w z.0 z.1 z.2 (subst IsForm z.3 f))
            | inr ge ↦
                let z = same_cut n m r q x (omega (arith, le, ge)) in
                let a : n ≡ m = z.0 in
                let b : ps ≡ qs = ih z.1 in
                cc
          ]
    ]

pub one_cut : {a b : List ℕ} {ps qs : List (List ℕ)} → IsCut a ps → IsCut b qs → a ≡ b → ps ≡ qs
one_cut (blank s h) (blank t k) e = refl
one_cut (blank s h) (piece t m q k g w c) e = absurd (blank_black s t m q h (form_black g) e)
one_cut (piece s n r h f l d) (blank t k) e = absurd (blank_black t s n r k (form_black f) (sym e))
one_cut (piece s n r {pieces = ps} h f l d) (piece t m q {pieces = qs} k g w c) e =
    one_piece n m r q ps qs f g l w
    (spaces_end s t (n ++ r) (m ++ q) h k (black_more r (form_black f)) (black_more q (form_black g)) e)
    (λ (x : r ≡ q). one_cut d c x)

pub pieces_are_longest : PiecesAreLongest
pieces_are_longest code pieces = (
  λ (d : IsCut code pieces). one_cut d (cut_is_longest code) refl,
  λ (e : pieces ≡ pieces_of code). subst (IsCut code) (sym e) (cut_is_longest code),
)
