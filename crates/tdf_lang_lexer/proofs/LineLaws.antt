-- The first line of a text and the lines after it.
use Rattle.std.proofs.Common.{◌≡◌, ◌≢◌, ℕ, zero, suc, ◌+◌, ◌-◌, ◌<◌, ◌≤◌, Bool, true, false, List, [], ◌∷◌, ◌++◌, length, take, drop, refl, ap, sym, ◌∙◌, cond, subst, append_assoc, arith, not, nat_eq, add-one, length-drop, map}
use Rattle.std.proofs.lemmas.List.{append-nil, take_all, drop_all, take_rest}
use Rattle.std.proofs.lemmas.List.Sums.{prefix_len-le-length}
use Rattle.std.proofs.lemmas.Bool.{eqb-true}
use Rattle.std.proofs.lemmas.List.Folds.{list_any-append}
use Rattle.std.specs.List.{list_any, before_first, after_first, position_or_len}
use Rattle.std.specs.Prelude.{None}
use Rattle.tdf_lang_lexer.specs.Pieces.{without_comment, pieces_of}
use Rattle.tdf_lang_lexer.specs.Rows.{rows_from, row_unless_bare}
use Rattle.tdf_lang_lexer.specs.Text.{is_line_end, unless_empty, lines_from, lines_of, first_fault, line_fault_of, first_found, IsLines, no_line, last_line, line_end}

-- what stands before and after the first byte that passes, one byte further
pub before_first-more : (p : ℕ → Bool) (byte : ℕ) (rest : List ℕ) → p byte ≡ false → before_first p (byte ∷ rest) ≡ byte ∷ before_first p rest
before_first-more p byte rest e = rw e (let f : 1 + position_or_len p rest ≡ suc (position_or_len p rest) = omega arith in rw f)

pub after_first-more : (p : ℕ → Bool) (byte : ℕ) (rest : List ℕ) → p byte ≡ false → after_first p (byte ∷ rest) ≡ after_first p rest
after_first-more p byte rest e = rw e (let f : 1 + position_or_len p rest + 1 ≡ suc (position_or_len p rest + 1) = omega arith in rw f)

pub before_first-here : (p : ℕ → Bool) (byte : ℕ) (rest : List ℕ) → p byte ≡ true → before_first p (byte ∷ rest) ≡ []
before_first-here p byte rest e = rw e

pub after_first-here : (p : ℕ → Bool) (byte : ℕ) (rest : List ℕ) → p byte ≡ true → after_first p (byte ∷ rest) ≡ rest
after_first-here p byte rest e = rw e

unless_empty-snoc : (now : List ℕ) (byte : ℕ) → unless_empty (now ++ byte ∷ []) ≡ (now ++ byte ∷ []) ∷ []
unless_empty-snoc [] byte = refl
unless_empty-snoc (first ∷ more) byte = refl

pub lines_from-on : (now : List ℕ) (byte : ℕ) (rest : List ℕ) → is_line_end byte ≡ false → lines_from now (byte ∷ rest) ≡ lines_from (now ++ byte ∷ []) rest
unfolding lines_from
lines_from-on now byte rest e = rw e refl

glue : (now line line' rest rest' : List ℕ) (byte : ℕ) → line' ≡ byte ∷ line → rest' ≡ rest
    → ((now ++ byte ∷ []) ++ line) ∷ lines_of rest ≡ (now ++ line') ∷ lines_of rest'
glue now line line' rest rest' byte e f = let g : (now ++ byte ∷ []) ++ line ≡ now ++ byte ∷ line = append_assoc now (byte ∷ []) line in cc

-- the line so far goes on to the first line end
lines_from-by : (now : List ℕ) (byte : ℕ) (rest : List ℕ) (b : Bool) → is_line_end byte ≡ b
    → lines_from now (byte ∷ rest) ≡ (now ++ before_first is_line_end (byte ∷ rest)) ∷ lines_of (after_first is_line_end (byte ∷ rest))
unfolding lines_from lines_of
lines_from-by now byte rest true e =
    rw e (ap (λ (line : List ℕ). line ∷ lines_from [] rest) (sym (append-nil now)))
lines_from-by now byte [] false e = rw e (unless_empty-snoc now byte)
lines_from-by now byte (next ∷ rest) false e =
    lines_from-on now byte (next ∷ rest) e ∙ lines_from-by (now ++ byte ∷ []) next rest (is_line_end next) refl
    ∙ glue now (before_first is_line_end (next ∷ rest)) (before_first is_line_end (byte ∷ next ∷ rest)) (after_first is_line_end (next ∷ rest))
    (after_first is_line_end (byte ∷ next ∷ rest)) byte (before_first-more is_line_end byte (next ∷ rest) e) (after_first-more is_line_end byte (next ∷ rest) e)

pub lines_of-step : (text : List ℕ) → 0 < length text → lines_of text ≡ before_first is_line_end text ∷ lines_of (after_first is_line_end text)
unfolding lines_of
lines_of-step [] h = absurd (omega (arith, h))
lines_of-step (byte ∷ rest) h = lines_from-by [] byte rest (is_line_end byte) refl

pub position_or_len-le : (p : ℕ → Bool) (xs : List ℕ) → position_or_len p xs ≤ length xs
position_or_len-le p xs = prefix_len-le-length (λ x. not (p x)) xs

pub length-after_first : (p : ℕ → Bool) (xs : List ℕ) → 0 < length xs → length (after_first p xs) < length xs
length-after_first p xs h = omega (arith, length-drop (position_or_len p xs + 1) xs)

pub lines_of-none : (text : List ℕ) → length text ≡ 0 → lines_of text ≡ []
unfolding lines_of lines_from
lines_of-none [] h = refl
lines_of-none (byte ∷ rest) h = absurd (omega (arith, h))

pub count-step : (text : List ℕ) → 0 < length text → length (lines_of text) ≡ 1 + length (lines_of (after_first is_line_end text))
count-step text h = rw (lines_of-step text h) (omega arith)

pub count-none : (text : List ℕ) → length text ≡ 0 → length (lines_of text) ≡ 0
count-none text h = rw (lines_of-none text h) refl

pub fault-step : (number : ℕ) (text : List ℕ) → 0 < length text
    → first_fault number (lines_of text) ≡ first_found (line_fault_of number (before_first is_line_end text)) (first_fault (number + 1) (lines_of (after_first is_line_end text)))
unfolding first_fault
fault-step number text h = rw (lines_of-step text h) refl

pub fault-none : (number : ℕ) (text : List ℕ) → length text ≡ 0 → first_fault number (lines_of text) ≡ None
unfolding first_fault
fault-none number text h = rw (lines_of-none text h) refl

pub rows-step : (number : ℕ) (text : List ℕ) → 0 < length text
    → rows_from number (lines_of text)
    ≡ row_unless_bare number (pieces_of (without_comment (before_first is_line_end text))) ++ rows_from (number + 1) (lines_of (after_first is_line_end text))
unfolding rows_from
rows-step number text h = rw (lines_of-step text h) refl

pub rows-none : (number : ℕ) (text : List ℕ) → length text ≡ 0 → rows_from number (lines_of text) ≡ []
unfolding rows_from
rows-none number text h = rw (lines_of-none text h) refl

-- the first line has these pieces
rows-first : (number : ℕ) (text line after : List ℕ) (old new : List (List ℕ)) → 0 < length text
    → line ≡ before_first is_line_end text → after ≡ after_first is_line_end text → old ≡ [] → new ≡ old ++ pieces_of (without_comment line)
    → rows_from number (lines_of text) ≡ row_unless_bare number new ++ rows_from (number + 1) (lines_of after)
rows-first number text line after old new h e f n g =
    let same : pieces_of (without_comment (before_first is_line_end text)) ≡ new =
    ap (λ (l : List ℕ). pieces_of (without_comment l)) (sym e) ∙ sym (ap (λ (o : List (List ℕ)). o ++ pieces_of (without_comment line)) n) ∙ sym g in
    rows-step number text h
    ∙ ap (λ (ps : List (List ℕ)). row_unless_bare number ps ++ rows_from (number + 1) (lines_of (after_first is_line_end text))) same
    ∙ ap (λ (a : List ℕ). row_unless_bare number new ++ rows_from (number + 1) (lines_of a)) (sym f)

-- it has none
pub rows-bare : {A : Type 0} (f : A → List ℕ) (number : ℕ) (text line after : List ℕ) (old : List (List ℕ)) (items : List A) → 0 < length text
    → line ≡ before_first is_line_end text → after ≡ after_first is_line_end text → old ≡ [] → map f items ≡ old ++ pieces_of (without_comment line)
    → length items ≡ 0 → rows_from number (lines_of text) ≡ rows_from (number + 1) (lines_of after)
rows-bare f number text line after old [] h e g n o b = rows-first number text line after old [] h e g n o
rows-bare f number text line after old (x ∷ xs) h e g n o b = absurd (omega (arith, b))

pub map-none : {A : Type 0} (f : A → List ℕ) (items : List A) → length items ≡ 0 → map f items ≡ []
map-none f [] h = refl
map-none f (x ∷ xs) h = absurd (omega (arith, h))

-- it has some
pub rows-row : {A : Type 0} (f : A → List ℕ) (number : ℕ) (text line after : List ℕ) (old : List (List ℕ)) (items : List A) → 0 < length text
    → line ≡ before_first is_line_end text → after ≡ after_first is_line_end text → old ≡ [] → map f items ≡ old ++ pieces_of (without_comment line)
    → length items ≢ 0 → rows_from number (lines_of text) ≡ (record { number = number; pieces = map f items }) ∷ rows_from (number + 1) (lines_of after)
rows-row f number text line after old [] h e g n o b = absurd (b refl)
rows-row f number text line after old (x ∷ xs) h e g n o b = rows-first number text line after old (f x ∷ map f xs) h e g n o

pub ruleset row_laws = (rows-step, rows-none, length-after_first, append-nil)

pub ruleset count_laws = (count-step, count-none, length-after_first)

pub ruleset fault_laws = (fault-step, fault-none, length-after_first)

pub ruleset cut_laws = (position_or_len-le, append-nil, take_all, drop_all, take_rest)

any-snoc : (p : ℕ → Bool) (xs : List ℕ) (y : ℕ) → list_any p xs ≡ false → p y ≡ false → list_any p (xs ++ y ∷ []) ≡ false
any-snoc p xs y h k = rw (list_any-append p xs (y ∷ []), h, k) refl

last_now : (now : List ℕ) → list_any is_line_end now ≡ false → IsLines now (unless_empty now)
last_now [] h = no_line
last_now (byte ∷ more) h = last_line (byte ∷ more) (omega arith) h

lines_by : (byte : ℕ) (rest now : List ℕ) → ((line : List ℕ) → list_any is_line_end line ≡ false → IsLines (line ++ rest) (lines_from line rest))
    → list_any is_line_end now ≡ false → (b : Bool) → is_line_end byte ≡ b → IsLines (now ++ byte ∷ rest) (lines_from now (byte ∷ rest))
unfolding lines_from
lines_by byte rest now ih h true e =
    let f : 10 ≡ byte = sym (eqb-true byte 10 e) in
    rw e (subst (λ (b : ℕ). IsLines (now ++ b ∷ rest) (now ∷ lines_from [] rest)) f (line_end now rest h (ih [] refl)))
lines_by byte rest now ih h false e =
    rw e (subst (λ (l : List ℕ). IsLines l (lines_from (now ++ byte ∷ []) rest)) (append_assoc now (byte ∷ []) rest) (ih (now ++ byte ∷ []) (any-snoc is_line_end now byte h e)))

pub lines_are : (rest now : List ℕ) → list_any is_line_end now ≡ false → IsLines (now ++ rest) (lines_from now rest)
unfolding lines_from
lines_are [] now h = subst (λ (l : List ℕ). IsLines l (unless_empty now)) (sym (append-nil now)) (last_now now h)
lines_are (byte ∷ rest) now h = lines_by byte rest now (λ (line : List ℕ) (k : list_any is_line_end line ≡ false). lines_are rest line k) h (is_line_end byte) refl
