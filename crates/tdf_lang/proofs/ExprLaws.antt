-- The canonical text of an expression is cut into its canonical words, and these say the expression again.
use Rattle.std.proofs.Common.{◌≡◌, ℕ, suc, ◌^◌, ◌<◌, Bool, true, false, cond, List, [], ◌∷◌, ◌++◌, Some, refl, subst, arith}
use Rattle.std.proofs.lemmas.List.{append-nil}
use Rattle.std.specs.Fmt.{decimal}
use Rattle.tdf_lang_lexer.specs.Token.{Tok, TName, TNumber, TSymbol}
use Rattle.tdf_lang_lexer.specs.declared.dialect.Dialect.{Dialect}
use Rattle.tdf_lang_lexer.specs.Words as words
use Rattle.tdf_lang_lexer.specs.Words.{spelling}
use Rattle.tdf_lang_lexer.specs.declared.key.Key.TheVariants as key
use Rattle.tdf_lang_lexer.specs.declared.key.Symbol.TheVariants as symbol
use Rattle.tdf_lang_tree.specs.Pure.{PureExpr, ENumber, EName, EAt, ECast, ESelect, ENot, ENeg, EShift, EBinary}
use Rattle.tdf_lang_tree.specs.declared.expr.Index.{Index}
use Rattle.tdf_lang_tree.specs.declared.expr.Index.TheVariants as index
use Rattle.tdf_lang_tree.specs.declared.expr.Op.{Op}
use Rattle.tdf_lang_tree.specs.declared.expr.Op.TheVariants.{Or, And, Lt, Le, Eq, Ne, Gt, Ge, Add, Sub, Mul}
use Rattle.tdf_lang_exprs.specs.Numbers.{trimmed}
use Rattle.tdf_base.proofs.Api.{int_small, int_decimal}
use Rattle.tdf_base.specs.Digits.{int_of}
use Rattle.tdf_lang_exprs.specs.Index.{SpellsIndex, index_int, index_var, index_plus, index_minus, index_from, index_times, index_times_plus}
use Rattle.tdf_lang_exprs.specs.SpellsExpr.{level, left_level, operator_token, shift_sign, SpellsExpr, number, variable, item, cast, select, parens, negation, shift, contrary, binary, tighter}
use Rattle.tdf_lang_exprs.proofs.Api.{lower, left_le_five, level_lt_six}
use Rattle.tdf_lang_printer.specs.Exprs.{is_single}
use Rattle.tdf_lang.proofs.TokenLines.{IsToken, AreTokens}
use Rattle.tdf_lang.proofs.ExprWords.{opens, closes, comma, index_words, wrap_words, expr_words, index_tokens, wrap_tokens, expr_tokens, NameOk, NumberOk, IndexOk, ExprOk}
use Rattle.tdf_lang.proofs.Gaps.{Word, tight, loose, word, gap, ApartTo, apart_append, SoftText, by_space, by_soft, by_byte, by_open, by_close, by_open_square, by_close_square, by_minus}
use Rattle.tdf_lang.proofs.Numerals.{trimmed_twice, decimal_side, Side, trimmed_written, Written, whole_number, with_fraction}
use Rattle.tdf_lang.proofs.Tokens.{spelled, Writable, key_writable, symbol_writable, first_part, letter_first, name_writable, name_letter, number_writable, number_form, int_writable, part_of_front}

pub name_first : (lang : Dialect) {n : List ℕ} → NameOk lang n → first_part n ≡ true
name_first lang {n} h = letter_first n h.letter

pub last_apart : (lang : Dialect) (t : Tok) → Writable lang t → first_part (spelled lang t) ≡ true → (g : Bool) (rest : List ℕ) → SoftText (gap g ++ rest) → ApartTo lang (word t g ∷ []) rest
last_apart lang t h e g rest k = (h, by_soft e k, tt)

pub close_apart : (lang : Dialect) (g : Bool) (rest : List ℕ) → ApartTo lang (word closes g ∷ []) rest
close_apart lang g rest = (symbol_writable lang symbol.Close, by_close, tt)

pub close_square_apart : (lang : Dialect) (g : Bool) (rest : List ℕ) → ApartTo lang (word (TSymbol symbol.CloseSquare) g ∷ []) rest
close_square_apart lang g rest = (symbol_writable lang symbol.CloseSquare, by_close_square, tt)

pub index_apart : (lang : Dialect) (i : Index) → IndexOk lang i → (rest : List ℕ) → SoftText rest → ApartTo lang (index_words i) rest
index_apart lang (index.Int n) h rest k = last_apart lang (TNumber (decimal n)) h.0 h.1 false rest k
index_apart lang (index.Var v) h rest k = last_apart lang (TName v) h.writable (name_first lang h) false rest k
index_apart lang (index.Plus v n) h rest k =
    (h.0.writable, by_space, (symbol_writable lang symbol.Plus, by_space, last_apart lang (TNumber (decimal n)) h.1.0 h.1.1 false rest k))
index_apart lang (index.Minus v n) h rest k =
    (h.0.writable, by_space, (symbol_writable lang symbol.Minus, by_space, last_apart lang (TNumber (decimal n)) h.1.0 h.1.1 false rest k))
index_apart lang (index.From n v) h rest k =
    (h.1.0, by_space, (symbol_writable lang symbol.Minus, by_space, last_apart lang (TName v) h.0.writable (name_first lang h.0) false rest k))
index_apart lang (index.Times n v) h rest k =
    (h.1.0, by_space, (symbol_writable lang symbol.Times, by_space, last_apart lang (TName v) h.0.writable (name_first lang h.0) false rest k))
index_apart lang (index.TimesPlus n v m) h rest k = (
  h.1.0,
  by_space,
  (
    symbol_writable lang symbol.Times,
    by_space,
    (
      h.0.writable,
      by_space,
      (symbol_writable lang symbol.Plus, by_space, last_apart lang (TNumber (decimal m)) h.2.0 h.2.1 false rest k),
    ),
  ),
)

wrap_apart : (lang : Dialect) (x : PureExpr) (own inner : List Word) (g : Bool) (rest : List ℕ) → ApartTo lang own rest → ((r : List ℕ) → ApartTo lang inner (41 ∷ r)) → ApartTo lang (wrap_words x own inner g) rest
unfolding words.sign
wrap_apart lang x own inner g rest h k = go (is_single x)
  where
    go : (b : Bool) → ApartTo lang (cond b own (tight opens ∷ (inner ++ word closes g ∷ []))) rest
    go true = h
    go false = (symbol_writable lang symbol.Open, by_open, apart_append lang inner (word closes g ∷ []) rest (k _) (close_apart lang g rest))

shift_ok : (lang : Dialect) (left : Bool) → Writable lang (shift_sign left)
shift_ok lang true = symbol_writable lang symbol.ShiftLeft
shift_ok lang false = symbol_writable lang symbol.ShiftRight

sign_ok : (lang : Dialect) (op : Op) → Writable lang (operator_token op)
sign_ok lang Or = key_writable lang key.Or
sign_ok lang And = key_writable lang key.And
sign_ok lang Lt = symbol_writable lang symbol.Less
sign_ok lang Le = symbol_writable lang symbol.AtMost
sign_ok lang Eq = symbol_writable lang symbol.Equal
sign_ok lang Ne = symbol_writable lang symbol.NotEqual
sign_ok lang Gt = symbol_writable lang symbol.Greater
sign_ok lang Ge = symbol_writable lang symbol.AtLeast
sign_ok lang Add = symbol_writable lang symbol.Plus
sign_ok lang Sub = symbol_writable lang symbol.Minus
sign_ok lang Mul = symbol_writable lang symbol.Times

pub expr_apart : (lang : Dialect) (e : PureExpr) → ExprOk lang e → (g : Bool) (rest : List ℕ) → SoftText (gap g ++ rest) → ApartTo lang (expr_words e g) rest
unfolding words.sign spelling
expr_apart lang (ENumber digits) h g rest k = last_apart lang (TNumber digits) h.0 h.1 g rest k
expr_apart lang (EName name) h g rest k = last_apart lang (TName name) h.writable (name_first lang h) g rest k
expr_apart lang (EAt name i) h g rest k = (
  h.0.writable,
  by_byte (name_first lang h.0) refl,
  (
    symbol_writable lang symbol.OpenSquare,
    by_open_square,
    apart_append lang (index_words i) (word (TSymbol symbol.CloseSquare) g ∷ []) rest (index_apart lang i h.1 _ refl) (close_square_apart lang g rest),
  ),
)
expr_apart lang (ECast name x) h g rest k = (
  h.0.writable,
  by_byte (name_first lang h.0) refl,
  (
    symbol_writable lang symbol.Open,
    by_open,
    apart_append lang (expr_words x false) (word closes g ∷ []) rest (expr_apart lang x h.1 false _ refl) (close_apart lang g rest),
  ),
)
expr_apart lang (ESelect x y z) h g rest k = (
  key_writable lang key.Select,
  by_byte refl refl,
  (
    symbol_writable lang symbol.Open,
    by_open,
    apart_append lang (expr_words x false) (loose comma ∷ (expr_words y false ++ loose comma ∷ (expr_words z false ++ word closes g ∷ []))) rest (expr_apart lang x h.0 false _ refl) (
      symbol_writable lang symbol.Comma,
      by_space,
      apart_append lang (expr_words y false) (loose comma ∷ (expr_words z false ++ word closes g ∷ [])) rest (expr_apart lang y h.1 false _ refl) (
        symbol_writable lang symbol.Comma,
        by_space,
        apart_append lang (expr_words z false) (word closes g ∷ []) rest (expr_apart lang z h.2 false _ refl) (close_apart lang g rest),
      ),
    ),
  ),
)
expr_apart lang (ENot x) h g rest k = (
  key_writable lang key.Not,
  by_space,
  wrap_apart lang x (expr_words x g) (expr_words x false) g rest (expr_apart lang x h g rest k) (λ r. expr_apart lang x h false (41 ∷ r) refl),
)
expr_apart lang (ENeg x) h g rest k = (
  symbol_writable lang symbol.Minus,
  by_minus,
  wrap_apart lang x (expr_words x g) (expr_words x false) g rest (expr_apart lang x h g rest k) (λ r. expr_apart lang x h false (41 ∷ r) refl),
)
expr_apart lang (EShift x left n) h g rest k =
    apart_append lang (wrap_words x (expr_words x true) (expr_words x false) true) (loose (shift_sign left) ∷ word (TNumber (decimal n)) g ∷ []) rest
    (wrap_apart lang x (expr_words x true) (expr_words x false) true _ (expr_apart lang x h.0 true _ refl) (λ r. expr_apart lang x h.0 false (41 ∷ r) refl))
    (shift_ok lang left, by_space, last_apart lang (TNumber (decimal n)) h.1.0 h.1.1 g rest k)
expr_apart lang (EBinary op x y) h g rest k =
    apart_append lang (wrap_words x (expr_words x true) (expr_words x false) true) (loose (operator_token op) ∷ wrap_words y (expr_words y g) (expr_words y false) g) rest
    (wrap_apart lang x (expr_words x true) (expr_words x false) true _ (expr_apart lang x h.0 true _ refl) (λ r. expr_apart lang x h.0 false (41 ∷ r) refl)) (
      sign_ok lang op,
      by_space,
      wrap_apart lang y (expr_words y g) (expr_words y false) g rest (expr_apart lang y h.1 g rest k) (λ r. expr_apart lang y h.1 false (41 ∷ r) refl),
    )

-- tokens of a part of a line
pub all_left : (lang : Dialect) (a b : List Tok) → AreTokens lang (a ++ b) → AreTokens lang a
all_left lang [] b h = tt
all_left lang (t ∷ a) b h = (h.0, all_left lang a b h.1)

pub all_right : (lang : Dialect) (a b : List Tok) → AreTokens lang (a ++ b) → AreTokens lang b
all_right lang [] b h = h
all_right lang (t ∷ a) b h = all_right lang a b h.1

pub name_ok : (lang : Dialect) (n : List ℕ) → IsToken lang (TName n) → NameOk lang n
name_ok lang n h = record { writable = name_writable lang h.0 n h.1; letter = name_letter lang h.0 n h.1 }

decimal_first : (d : List ℕ) → Side d → first_part d ≡ true
decimal_first d s = subst (λ u. first_part u ≡ true) (append-nil d) (part_of_front d [] s.digits s.some)

written_first : {t : List ℕ} → Written t → first_part t ≡ true
written_first (whole_number w s) = decimal_first w s
written_first (with_fraction w f s u) = part_of_front w (46 ∷ f) s.digits s.some

pub count_ok : (lang : Dialect) (n : ℕ) → n < 10 ^ 18 → NumberOk lang n
count_ok lang n h = (int_writable lang n h, decimal_first (decimal n) (decimal_side n h))

pub int_ok : (lang : Dialect) (text : List ℕ) (n : ℕ) → int_of text ≡ Some n → NumberOk lang n
int_ok lang text n h = count_ok lang n (int_small text n h)

pub int_again : (text : List ℕ) (n : ℕ) → int_of text ≡ Some n → int_of (decimal n) ≡ Some n
int_again text n h = int_decimal n (int_small text n h)

pub index_ok : (lang : Dialect) {ts : List Tok} {i : Index} → SpellsIndex lang.version ts i → AreTokens lang ts → IndexOk lang i
index_ok lang (index_int text {n = n} is) h = int_ok lang text n is
index_ok lang (index_var v) h = name_ok lang v h.0
index_ok lang (index_plus v text {n = n} is) h = (name_ok lang v h.0, int_ok lang text n is)
index_ok lang (index_minus v text {n = n} is) h = (name_ok lang v h.0, int_ok lang text n is)
index_ok lang (index_from v text {n = n} is) h = (name_ok lang v h.1.1.0, int_ok lang text n is)
index_ok lang (index_times two text v {n = n} is) h = (name_ok lang v h.1.1.0, int_ok lang text n is)
index_ok lang (index_times_plus two text v last {n = n} {m = m} is also) h = (name_ok lang v h.1.1.0, int_ok lang text n is, int_ok lang last m also)

pub digits_ok : (lang : Dialect) (text : List ℕ) → IsToken lang (TNumber text) → Writable lang (TNumber (trimmed text)) × (first_part (trimmed text) ≡ true)
digits_ok lang text h = (number_writable lang h.0 text h.1, written_first (trimmed_written text (number_form lang h.0 text h.1)))

pub expr_ok : (lang : Dialect) {k : ℕ} {ts : List Tok} {e : PureExpr} → SpellsExpr lang.version k ts e → AreTokens lang ts → ExprOk lang e
expr_ok lang (number text) h = digits_ok lang text h.0
expr_ok lang (variable name) h = name_ok lang name h.0
expr_ok lang (item name {a = a} d) h = (name_ok lang name h.0, index_ok lang d (all_left lang a _ h.1.1))
expr_ok lang (cast name {a = a} d) h = (name_ok lang name h.0, expr_ok lang d (all_left lang a _ h.1.1))
expr_ok lang (select {a = a} {b = b} {c = c} d e f) h =
    let y = (all_right lang a _ h.1.1).1 in
    let z = (all_right lang b _ y).1 in
    (expr_ok lang d (all_left lang a _ h.1.1), expr_ok lang e (all_left lang b _ y), expr_ok lang f (all_left lang c _ z))
expr_ok lang (parens {a = a} d) h = expr_ok lang d (all_left lang a _ h.1)
expr_ok lang (negation d) h = expr_ok lang d h.1
expr_ok lang (shift left text {a = a} {n = n} d is) h = (expr_ok lang d (all_left lang a _ h), int_ok lang text n is)
expr_ok lang (contrary d) h = expr_ok lang d h.1
expr_ok lang (binary {a = a} op is d e) h = (expr_ok lang d (all_left lang a _ h), expr_ok lang e (all_right lang a _ h).1)
expr_ok lang (tighter d) h = expr_ok lang d h

-- the canonical tokens say the same
pub index_again : (lang : Dialect) {ts : List Tok} {i : Index} → SpellsIndex lang.version ts i → SpellsIndex lang.version (index_tokens i) i
index_again lang (index_int text {n = n} is) = index_int (decimal n) (int_again text n is)
index_again lang (index_var v) = index_var v
index_again lang (index_plus v text {n = n} is) = index_plus v (decimal n) (int_again text n is)
index_again lang (index_minus v text {n = n} is) = index_minus v (decimal n) (int_again text n is)
index_again lang (index_from v text {n = n} is) = index_from v (decimal n) (int_again text n is)
index_again lang (index_times two text v {n = n} is) = index_times two (decimal n) v (int_again text n is)
index_again lang (index_times_plus two text v last {n = n} {m = m} is also) =
    index_times_plus two (decimal n) v (decimal m) (int_again text n is) (int_again last m also)

-- alone, and as an operand
record Again (lang : Dialect) (e : PureExpr) : Type 0 where
  whole : SpellsExpr lang.version 0 (expr_tokens e) e
  operand : SpellsExpr lang.version 7 (wrap_tokens e (expr_tokens e)) e

alone : (lang : Dialect) (e : PureExpr) → is_single e ≡ true → SpellsExpr lang.version 7 (expr_tokens e) e → Again lang e
alone lang e h d = record { whole = lower lang.version 0 7 (expr_tokens e) e (omega arith) d; operand = rw h d }

within : (lang : Dialect) (e : PureExpr) → is_single e ≡ false → SpellsExpr lang.version 0 (expr_tokens e) e → Again lang e
within lang e h d = record { whole = d; operand = rw h (parens d) }

again : (lang : Dialect) {k : ℕ} {ts : List Tok} {e : PureExpr} → SpellsExpr lang.version k ts e → Again lang e
again lang (number text) = alone lang (ENumber (trimmed text)) refl (subst (λ u. SpellsExpr lang.version 7 (TNumber (trimmed text) ∷ []) (ENumber u)) (trimmed_twice text) (number (trimmed text)))
again lang (variable name) = alone lang (EName name) refl (variable name)
again lang (item name {i = i} d) = alone lang (EAt name i) refl (item name (index_again lang d))
again lang (cast name {x = x} d) = alone lang (ECast name x) refl (cast name (again lang d).whole)
again lang (select {x = x} {y = y} {z = z} d e f) = alone lang (ESelect x y z) refl (select (again lang d).whole (again lang e).whole (again lang f).whole)
again lang (parens d) = again lang d
again lang (negation {x = x} d) =
    within lang (ENeg x) refl (lower lang.version 0 6 _ (ENeg x) (omega arith) (negation (lower lang.version 6 7 _ x (omega arith) (again lang d).operand)))
again lang (shift left text {x = x} {n = n} d is) =
    within lang (EShift x left n) refl (lower lang.version 0 5 _ (EShift x left n) (omega arith) (shift left (decimal n) (lower lang.version 5 7 _ x (omega arith) (again lang d).operand) (int_again text n is)))
again lang (contrary {x = x} d) =
    within lang (ENot x) refl (lower lang.version 0 2 _ (ENot x) (omega arith) (contrary (lower lang.version 2 7 _ x (omega arith) (again lang d).operand)))
again lang (binary {x = x} {y = y} op is d e) =
    within lang (EBinary op x y) refl (lower lang.version 0 (level op) _ (EBinary op x y) (omega arith)
    (binary op refl (lower lang.version (left_level op) 7 _ x (omega (arith, left_le_five op)) (again lang d).operand)
    (lower lang.version (suc (level op)) 7 _ y (omega (arith, level_lt_six op)) (again lang e).operand)))
again lang (tighter d) = again lang d

pub expr_again : (lang : Dialect) {k : ℕ} {ts : List Tok} {e : PureExpr} → SpellsExpr lang.version k ts e → SpellsExpr lang.version 0 (expr_tokens e) e
expr_again lang d = (again lang d).whole
