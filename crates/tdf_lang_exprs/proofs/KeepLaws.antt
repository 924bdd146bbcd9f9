-- What is spelled by tokens of pieces is kept by its tree: names and numbers have their forms, and whole numbers are below
-- their end.
use Rattle.std.proofs.Common.{◌≡◌, ℕ, zero, suc, ◌-◌, ◌*◌, ◌<◌, ◌≤◌, ◌^◌, Bool, true, false, List, [], ◌∷◌, ◌++◌, Option, Some, None, refl, ap, ◌∙◌, arith, length, take, drop, ◌&&◌, if◌then◌else◌, length-drop}
use Rattle.std.proofs.Math.Nat.{mul-le-mul, pow-le-pow_right, pow-suc}
use Rattle.std.proofs.lemmas.Bool.Decides.{nat_tests}
use Rattle.std.specs.List.{list_all, prefix_len, suffix_len, before_first, after_first}
use Rattle.std.specs.Prelude.{nat_le}
use Rattle.tdf_base.specs.declared.version.Version.{Version}
use Rattle.tdf_base.specs.Digits.{is_digit, are_digits, number, int_of}
use Rattle.tdf_base.specs.Limits.{time_end}
use Rattle.tdf_base.specs.Number.{Numeral, numeral_of, is_short, is_short_numeral, is_number}
use Rattle.tdf_base.specs.Spelling.{after_point, SpellsNumeral}
use Rattle.tdf_base.proofs.Api.{numeral_spells, numeral_spelled, digits_from, all_of}
use Rattle.tdf_lang_lexer.specs.Token.{Tok}
use Rattle.tdf_lang_lexer.proofs.Api.{KeepTokens, keep_split, before_first-more, before_first-here, after_first-more, after_first-here}
use Rattle.tdf_lang_tree.specs.Kept.{Each, IsName, IsCount, KeepsLit, KeepsShape, KeepsFormat, KeepsIndex, KeepsExpr}
use Rattle.tdf_lang_tree.specs.Pure.{PureExpr}
use Rattle.tdf_lang_tree.specs.declared.expr.Index.{Index}
use Rattle.tdf_lang_tree.specs.declared.names.Lit.{Lit}
use Rattle.tdf_lang_tree.specs.declared.shapes.FormatRef.{FormatRef}
use Rattle.tdf_lang_tree.specs.declared.shapes.Shape.{Shape}
use Rattle.tdf_lang_exprs.specs.Formats.{SpellsShape, shape, SpellsFormat, format_own, format_named}
use Rattle.tdf_lang_exprs.specs.Index.{SpellsIndex, index_int, index_var, index_plus, index_minus, index_from, index_times, index_times_plus}
use Rattle.tdf_lang_exprs.specs.Literals.{SpellsLit, lit_plain, lit_minus, SpellsLits, lits_none, lits_more}
use Rattle.tdf_lang_exprs.specs.Numbers.{trimmed, is_point, is_zero, or_zero_digit, without_first_zeros, without_last_zeros}
use Rattle.tdf_lang_exprs.specs.Paths.{SpellsPath, path_one, path_more}
use Rattle.tdf_lang_exprs.specs.SpellsExpr.{SpellsExpr, number as number_expr, variable, item, cast, select, parens, negation, shift, contrary, binary, tighter}

and_left : (a b : Bool) → a && b ≡ true → a ≡ true
and_left true b h = refl
and_left false b h = absurd cc

and_right : (a b : Bool) → a && b ≡ true → b ≡ true
and_right true b h = h
and_right false b h = absurd cc

and_both : (a b : Bool) → a ≡ true → b ≡ true → a && b ≡ true
and_both true b g h = h
and_both false b g h = absurd cc

-- whole numbers
digit_below : (c : ℕ) → is_digit c ≡ true → c - 48 ≤ 9
digit_below c h = grind (arith, nat_tests)

number_below : (text : List ℕ) → list_all is_digit text ≡ true → number text < 10 ^ length text
number_below [] h = omega arith
number_below (c ∷ cs) h =
    let less : number cs < 10 ^ length cs = number_below cs (and_right (is_digit c) (list_all is_digit cs) h) in
    let digit : c - 48 ≤ 9 = digit_below c (and_left (is_digit c) (list_all is_digit cs) h) in
    let most : (c - 48) * 10 ^ length cs ≤ 9 * 10 ^ length cs = mul-le-mul digit (let same : 10 ^ length cs ≤ 10 ^ length cs = omega arith in same) in
    let power : 10 ^ suc (length cs) ≡ 10 ^ length cs * 10 = pow-suc 10 (length cs) in
    let more : length (c ∷ cs) ≡ suc (length cs) = refl in
    rw more (omega (arith, less, most, power))

int_at : (text : List ℕ) (n : ℕ) (b : Bool) → (are_digits text && nat_le (length text) 18) ≡ b
    → (if b then Some (number text) else None) ≡ Some n → n < time_end
int_at text n false e h = absurd cc
int_at text n true e h =
    let same : number text ≡ n = cc in
    let digits : are_digits text ≡ true = and_left (are_digits text) (nat_le (length text) 18) e in
    let few : length text ≤ 18 = let f : nat_le (length text) 18 ≡ true = and_right (are_digits text) (nat_le (length text) 18) e in grind (arith, nat_tests) in
    let less : number text < 10 ^ length text = number_below text (all_of text digits) in
    let most : 10 ^ length text ≤ 10 ^ 18 = pow-le-pow_right (let some : 0 < 10 = omega arith in some) few in
    omega (arith, less, most, same)

pub int_count : (text : List ℕ) (n : ℕ) → int_of text ≡ Some n → IsCount n
unfolding int_of
int_count text n h = int_at text n (are_digits text && nat_le (length text) 18) refl h

-- numbers without needless zeros
all-drop : (p : ℕ → Bool) (k : ℕ) (xs : List ℕ) → list_all p xs ≡ true → list_all p (drop k xs) ≡ true
all-drop p zero xs h = h
all-drop p (suc k) [] h = h
all-drop p (suc k) (x ∷ xs) h = all-drop p k xs (and_right (p x) (list_all p xs) h)

all-take : (p : ℕ → Bool) (k : ℕ) (xs : List ℕ) → list_all p xs ≡ true → list_all p (take k xs) ≡ true
all-take p zero xs h = refl
all-take p (suc k) [] h = refl
all-take p (suc k) (x ∷ xs) h = and_both (p x) (list_all p (take k xs)) (and_left (p x) (list_all p xs) h) (all-take p k xs (and_right (p x) (list_all p xs) h))

take-few : (k : ℕ) (xs : List ℕ) → length (take k xs) ≤ length xs
take-few zero xs = omega arith
take-few (suc k) [] = omega arith
take-few (suc k) (x ∷ xs) = omega (arith, take-few k xs)

digit_no_point : (c : ℕ) → is_digit c ≡ true → is_point c ≡ false
digit_no_point c h = grind (arith, nat_tests)

whole_before : (whole fraction : List ℕ) → list_all is_digit whole ≡ true → before_first is_point (whole ++ after_point fraction) ≡ whole
whole_before [] [] h = refl
whole_before [] (c ∷ cs) h = before_first-here is_point 46 (c ∷ cs) refl
whole_before (w ∷ ws) fraction h =
    before_first-more is_point w (ws ++ after_point fraction) (digit_no_point w (and_left (is_digit w) (list_all is_digit ws) h))
    ∙ ap (λ (l : List ℕ). w ∷ l) (whole_before ws fraction (and_right (is_digit w) (list_all is_digit ws) h))

fraction_after : (whole fraction : List ℕ) → list_all is_digit whole ≡ true → after_first is_point (whole ++ after_point fraction) ≡ fraction
fraction_after [] [] h = refl
fraction_after [] (c ∷ cs) h = after_first-here is_point 46 (c ∷ cs) refl
fraction_after (w ∷ ws) fraction h =
    after_first-more is_point w (ws ++ after_point fraction) (digit_no_point w (and_left (is_digit w) (list_all is_digit ws) h))
    ∙ fraction_after ws fraction (and_right (is_digit w) (list_all is_digit ws) h)

or_zero_digits : (xs : List ℕ) → list_all is_digit xs ≡ true → list_all is_digit (or_zero_digit xs) ≡ true
or_zero_digits [] h = refl
or_zero_digits (c ∷ cs) h = h

or_zero_some : (xs : List ℕ) → 0 < length (or_zero_digit xs)
or_zero_some [] = omega arith
or_zero_some (c ∷ cs) = omega arith

or_zero_few : (xs : List ℕ) (n : ℕ) → length xs ≤ n → 0 < n → length (or_zero_digit xs) ≤ n
or_zero_few [] n h k = omega (arith, k)
or_zero_few (c ∷ cs) n h k = h

is_few : (n : ℕ) → nat_le n 18 ≡ true → n ≤ 18
is_few n h = grind (arith, nat_tests)

few_is : (n : ℕ) → n ≤ 18 → nat_le n 18 ≡ true
few_is n h = grind (arith, nat_tests)

trimmed_numeral : (n : Numeral) (text : List ℕ) → SpellsNumeral text n → is_short n ≡ true → is_number (trimmed text) ≡ true
unfolding is_number trimmed
trimmed_numeral n text d short =
    let whole = without_first_zeros n.whole in
    let fraction = without_last_zeros n.fraction in
    let digits : list_all is_digit n.whole ≡ true = all_of n.whole d.whole in
    let front : before_first is_point text ≡ n.whole = ap (before_first is_point) d.is ∙ whole_before n.whole n.fraction digits in
    let back : after_first is_point text ≡ n.fraction = ap (after_first is_point) d.is ∙ fraction_after n.whole n.fraction digits in
    let is : or_zero_digit (without_first_zeros (before_first is_point text)) ++ after_point (without_last_zeros (after_first is_point text))
    ≡ or_zero_digit whole ++ after_point fraction =
    ap (λ (l : List ℕ). or_zero_digit (without_first_zeros l) ++ after_point (without_last_zeros (after_first is_point text))) front
    ∙ ap (λ (l : List ℕ). or_zero_digit whole ++ after_point (without_last_zeros l)) back in
    let whole_is : are_digits (or_zero_digit whole) ≡ true =
    digits_from (or_zero_digit whole) (or_zero_some whole) (or_zero_digits whole (all-drop is_digit (prefix_len is_zero n.whole) n.whole digits)) in
    let fraction_is : list_all is_digit fraction ≡ true = all-take is_digit (length n.fraction - suffix_len is_zero n.fraction) n.fraction d.fraction in
    let spelled : numeral_of (or_zero_digit whole ++ after_point fraction) ≡ Some (record { whole = or_zero_digit whole; fraction = fraction }) =
    numeral_spelled (or_zero_digit whole ++ after_point fraction) (record { whole = or_zero_digit whole; fraction = fraction })
    (record { whole = whole_is; fraction = fraction_is; is = refl }) in
    let long : length n.whole ≤ 18 = is_few (length n.whole) (and_left (nat_le (length n.whole) 18) (nat_le (length n.fraction) 18) short) in
    let deep : length n.fraction ≤ 18 = is_few (length n.fraction) (and_right (nat_le (length n.whole) 18) (nat_le (length n.fraction) 18) short) in
    let dropped : length whole ≤ 18 = omega (arith, long, length-drop (prefix_len is_zero n.whole) n.whole) in
    let whole_few : nat_le (length (or_zero_digit whole)) 18 ≡ true = few_is (length (or_zero_digit whole)) (or_zero_few whole 18 dropped (omega arith)) in
    let taken : length fraction ≤ length n.fraction = take-few (length n.fraction - suffix_len is_zero n.fraction) n.fraction in
    let fraction_few : nat_le (length fraction) 18 ≡ true = few_is (length fraction) (omega (arith, taken, deep)) in
    ap (λ (l : List ℕ). is_short_numeral (numeral_of l)) is
    ∙ ap is_short_numeral spelled
    ∙ and_both (nat_le (length (or_zero_digit whole)) 18) (nat_le (length fraction) 18) whole_few fraction_few

trimmed_at : (text : List ℕ) (o : Option Numeral) → numeral_of text ≡ o → is_short_numeral o ≡ true → is_number (trimmed text) ≡ true
trimmed_at text None e h = absurd cc
trimmed_at text (Some n) e h = trimmed_numeral n text (numeral_spells text n e) h

pub trimmed_number : (text : List ℕ) → is_number text ≡ true → is_number (trimmed text) ≡ true
unfolding is_number
trimmed_number text h = trimmed_at text (numeral_of text) refl h

-- the parts of a line
pub lit_keeps : {ts : List Tok} {x : Lit} → SpellsLit ts x → KeepTokens ts → KeepsLit x
lit_keeps (lit_plain text) h = trimmed_number text h.0
lit_keeps (lit_minus text) h = trimmed_number text h.1.0

pub lits_keep : {ts : List Tok} {xs : List Lit} → SpellsLits ts xs → KeepTokens ts → Each KeepsLit xs
lits_keep lits_none h = tt
lits_keep (lits_more {a = a} {ts = ts} d e) h = let s = keep_split a ts h in (lit_keeps d s.0, lits_keep e s.1)

pub index_keeps : {v : Version} {ts : List Tok} {i : Index} → SpellsIndex v ts i → KeepTokens ts → KeepsIndex i
index_keeps (index_int text {n = n} e) h = int_count text n e
index_keeps (index_var name) h = h.0
index_keeps (index_plus name text {n = n} e) h = (h.0, int_count text n e)
index_keeps (index_minus name text {n = n} e) h = (h.0, int_count text n e)
index_keeps (index_from name text {n = n} e) h = (int_count text n e, h.1.1.0)
index_keeps (index_times le text name {n = n} e) h = (int_count text n e, h.1.1.0)
index_keeps (index_times_plus le text name last {n = n} {m = m} e f) h = (int_count text n e, h.1.1.0, int_count last m f)

pub shape_keeps : {ts : List Tok} {s : Shape} → SpellsShape ts s → KeepsShape s
shape_keeps (shape word first second {wl = m} {iwl = n} a b c d) = (int_count first m b, int_count second n c)

pub format_keeps : {ts : List Tok} {f : FormatRef} → SpellsFormat ts f → KeepTokens ts → KeepsFormat f
format_keeps (format_own d) h = shape_keeps d
format_keeps (format_named name) h = h.0

pub path_keeps : {ts : List Tok} {names : List (List ℕ)} → SpellsPath ts names → KeepTokens ts → Each IsName names
path_keeps (path_one name) h = (h.0, tt)
path_keeps (path_more name d) h = (h.0, path_keeps d h.1.1)

pub expr_keeps : {v : Version} {k : ℕ} {ts : List Tok} {x : PureExpr} → SpellsExpr v k ts x → KeepTokens ts → KeepsExpr x
expr_keeps (number_expr text) h = trimmed_number text h.0
expr_keeps (variable name) h = h.0
expr_keeps (item name {a = a} d) h = (h.0, index_keeps d (keep_split a _ h.1.1).0)
expr_keeps (cast name {a = a} d) h = (h.0, expr_keeps d (keep_split a _ h.1.1).0)
expr_keeps (select {a = a} {b = b} {c = c} d e f) h =
    let first = keep_split a _ h.1.1 in
    let second = keep_split b _ first.1.1 in
    let third = keep_split c _ second.1.1 in
    (expr_keeps d first.0, expr_keeps e second.0, expr_keeps f third.0)
expr_keeps (parens {a = a} d) h = expr_keeps d (keep_split a _ h.1).0
expr_keeps (negation d) h = expr_keeps d h.1
expr_keeps (shift left text {a = a} {n = n} d e) h = (expr_keeps d (keep_split a _ h).0, int_count text n e)
expr_keeps (contrary d) h = expr_keeps d h.1
expr_keeps (binary {a = a} op e d f) h = let s = keep_split a _ h in (expr_keeps d s.0, expr_keeps f s.1.1)
expr_keeps (tighter d) h = expr_keeps d h
