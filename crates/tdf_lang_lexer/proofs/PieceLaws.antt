-- The pieces of a line, byte by byte.
use Rattle.std.proofs.Common.{◌≡◌, ◌≢◌, ℕ, zero, suc, ◌+◌, ◌-◌, ◌<◌, ◌≤◌, Bool, true, false, List, [], ◌∷◌, ◌++◌, length, take, drop, refl, ap, sym, ◌∙◌, cond, append_assoc, arith, not, nat_eq, add-one, length-drop, get_or, map, subst, drop-cons}
use Rattle.std.specs.Prelude.{slice_range}
use Rattle.std.proofs.lemmas.List.{take_more, get_or-drop, map-append, append-nil, drop_all, take_rest}
use Rattle.tdf_lang_lexer.specs.Pieces.{joins, is_space, pieces_from, pieces_of, without_comment}
use Rattle.tdf_lang_lexer.specs.machine.Pieces.{pieces_left}
use Rattle.tdf_lang_lexer.specs.Text.{unless_empty}

-- the piece so far, one byte longer
slice_range-more : (xs : List ℕ) (a i : ℕ) → a ≤ i → i < length xs → slice_range xs a (i + 1) ≡ slice_range xs a i ++ get_or xs i 0 ∷ []
slice_range-more xs a i h k =
    let e : i + 1 - a ≡ i - a + 1 = omega arith in
    let f : a + (i - a) ≡ i = omega arith in
    let g : i - a < length (drop a xs) = omega (arith, length-drop a xs) in
    rw e (take_more (drop a xs) (i - a) 0 g ∙ ap (λ (x : ℕ). take (i - a) (drop a xs) ++ x ∷ []) (get_or-drop a xs (i - a) 0 ∙ ap (λ (j : ℕ). get_or xs j 0) f))

slice_range-none : (xs : List ℕ) (i : ℕ) → slice_range xs i i ≡ []
slice_range-none xs i = let e : i - i ≡ 0 = omega arith in rw e refl

slice_range-one : (xs : List ℕ) (i : ℕ) → i < length xs → slice_range xs i (i + 1) ≡ get_or xs i 0 ∷ []
slice_range-one xs i k = slice_range-more xs i i (omega arith) k ∙ ap (λ (l : List ℕ). l ++ get_or xs i 0 ∷ []) (slice_range-none xs i)

pub drop-more : (xs : List ℕ) (i : ℕ) → i < length xs → drop i xs ≡ get_or xs i 0 ∷ drop (i + 1) xs
drop-more xs i k = rw (add-one, drop-cons xs i 0 k) refl

-- the byte makes the piece longer
pub left-joins : (code : List ℕ) (from i : ℕ) → from ≤ i → i < length code
    → joins (slice_range code from i) (get_or code i 0) (drop (i + 1) code) ≡ true → pieces_left code from i ≡ pieces_left code from (i + 1)
unfolding pieces_left pieces_from
left-joins code from i h k e =
    rw (drop-more code i k, e) (ap (λ (now : List ℕ). pieces_from now (drop (i + 1) code)) (sym (slice_range-more code from i h k)))

-- the byte is a space after the piece
pub left-space : (code : List ℕ) (from i : ℕ) → from ≤ i → i < length code
    → joins (slice_range code from i) (get_or code i 0) (drop (i + 1) code) ≡ false → is_space (get_or code i 0) ≡ true
    → pieces_left code from i ≡ unless_empty (slice_range code from i) ++ pieces_left code (i + 1) (i + 1)
unfolding pieces_left pieces_from
left-space code from i h k e f =
    rw (drop-more code i k, e, f)
    (ap (λ (now : List ℕ). unless_empty (slice_range code from i) ++ pieces_from now (drop (i + 1) code)) (sym (slice_range-none code (i + 1))))

pieces_from-begins : (now : List ℕ) (byte : ℕ) (rest : List ℕ) → joins now byte rest ≡ false → is_space byte ≡ false
    → pieces_from now (byte ∷ rest) ≡ unless_empty now ++ pieces_from (byte ∷ []) rest
unfolding pieces_from
pieces_from-begins now byte rest e f = rw (e, f) refl

-- the byte begins a piece
pub left-begins : (code : List ℕ) (from i : ℕ) → from ≤ i → i < length code
    → joins (slice_range code from i) (get_or code i 0) (drop (i + 1) code) ≡ false → is_space (get_or code i 0) ≡ false
    → pieces_left code from i ≡ unless_empty (slice_range code from i) ++ pieces_left code i (i + 1)
unfolding pieces_left pieces_from
left-begins code from i h k e f =
    ap (λ (rest : List ℕ). pieces_from (slice_range code from i) rest) (drop-more code i k)
    ∙ pieces_from-begins (slice_range code from i) (get_or code i 0) (drop (i + 1) code) e f
    ∙ ap (λ (now : List ℕ). unless_empty (slice_range code from i) ++ pieces_from now (drop (i + 1) code)) (sym (slice_range-one code i k))

-- at the line's end
pub left-all : (code : List ℕ) (from : ℕ) → pieces_left code from (length code) ≡ unless_empty (drop from code)
unfolding pieces_left pieces_from
left-all code from = rw (drop_all (length code) code (omega arith), take_rest code from) refl

pub left-none : (line : List ℕ) → pieces_left (without_comment line) 0 0 ≡ pieces_of (without_comment line)
unfolding pieces_left pieces_of
left-none line = refl

pub put-none : (piece : List ℕ) → length piece ≡ 0 → unless_empty piece ≡ []
put-none [] h = refl
put-none (byte ∷ rest) h = absurd (omega (arith, h))

pub put-one : (piece : List ℕ) → length piece ≢ 0 → unless_empty piece ≡ piece ∷ []
put-one [] h = absurd (h refl)
put-one (byte ∷ rest) h = refl

-- what was appended came from what is left
pub moved : (new old put left rest : List (List ℕ)) → new ≡ old ++ put → left ≡ put ++ rest → new ++ rest ≡ old ++ left
moved new old put left rest e f =
    ap (λ (l : List (List ℕ)). l ++ rest) e ∙ append_assoc old put rest ∙ ap (λ (l : List (List ℕ)). old ++ l) (sym f)

pub pieces-done : (line code : List ℕ) (from i : ℕ) (old list out : List (List ℕ)) → code ≡ without_comment line → i ≡ length code
    → out ≡ list ++ unless_empty (take (length code - from) (drop from code))
    → list ++ pieces_left code from i ≡ old ++ pieces_left code 0 0 → out ≡ old ++ pieces_of (without_comment line)
pieces-done line code from i old list out e f g h =
    g ∙ ap (λ (l : List ℕ). list ++ unless_empty l) (take_rest code from)
    ∙ ap (λ (l : List (List ℕ)). list ++ l) (sym (left-all code from))
    ∙ ap (λ (j : ℕ). list ++ pieces_left code from j) (sym f)
    ∙ h ∙ ap (λ (l : List ℕ). old ++ pieces_left l 0 0) e ∙ ap (λ (l : List (List ℕ)). old ++ l) (left-none line)

pub ruleset put_laws = (put-none, put-one, append-nil, map-append)

pub ruleset step_laws = (left-joins, left-space, left-begins)
