-- The canonical words of an expression: they are its canonical text, and that is cut into just these words again.
use Rattle.std.proofs.Common.{◌≡◌, ℕ, Bool, true, false, cond, List, [], ◌∷◌, ◌++◌, refl, sym, ap, ◌∙◌, append_assoc}
use Rattle.std.proofs.lemmas.List.{append-nil}
use Rattle.std.specs.Prelude.{codes}
use Rattle.std.specs.Fmt.{decimal}
use Rattle.tdf_lang_lexer.specs.Token.{Tok, TName, TKey, TNumber, TSymbol}
use Rattle.tdf_lang_lexer.specs.declared.dialect.Dialect.{Dialect}
use Rattle.tdf_lang_lexer.specs.Words as words
use Rattle.tdf_lang_lexer.specs.Words.{spelling}
use Rattle.tdf_lang_lexer.specs.declared.key.Key.TheVariants as key
use Rattle.tdf_lang_lexer.specs.declared.key.Symbol.TheVariants as symbol
use Rattle.tdf_lang_tree.specs.Pure.{PureExpr, ENumber, EName, EAt, ECast, ESelect, ENot, ENeg, EShift, EBinary}
use Rattle.tdf_lang_tree.specs.declared.expr.Index.{Index}
use Rattle.tdf_lang_tree.specs.declared.expr.Index.TheVariants as index
use Rattle.tdf_lang_tree.specs.declared.expr.Op.{Op}
use Rattle.tdf_lang_tree.specs.declared.expr.Op.TheVariants.{Or, And, Lt, Le, Eq, Ne, Gt, Ge, Add, Sub, Mul}
use Rattle.tdf_lang_exprs.specs.SpellsExpr.{operator_token, shift_sign}
use Rattle.tdf_lang_printer.specs.Exprs.{op_text, shift_text, index_text, is_single, operand_text, expr_text}
use Rattle.tdf_lang.proofs.Tokens.{spelled, Writable, first_part, first_letter}
use Rattle.tdf_lang.proofs.Gaps.{Word, tight, loose, word, gap, written, tokens_in, written_append}

-- tokens
abbrev pub opens : Tok
opens = TSymbol symbol.Open

abbrev pub closes : Tok
closes = TSymbol symbol.Close

abbrev pub comma : Tok
comma = TSymbol symbol.Comma

abbrev pub index_words : Index → List Word
index_words (index.Int n) = tight (TNumber (decimal n)) ∷ []
index_words (index.Var v) = tight (TName v) ∷ []
index_words (index.Plus v n) = loose (TName v) ∷ loose (TSymbol symbol.Plus) ∷ tight (TNumber (decimal n)) ∷ []
index_words (index.Minus v n) = loose (TName v) ∷ loose (TSymbol symbol.Minus) ∷ tight (TNumber (decimal n)) ∷ []
index_words (index.From n v) = loose (TNumber (decimal n)) ∷ loose (TSymbol symbol.Minus) ∷ tight (TName v) ∷ []
index_words (index.Times n v) = loose (TNumber (decimal n)) ∷ loose (TSymbol symbol.Times) ∷ tight (TName v) ∷ []
index_words (index.TimesPlus n v m) =
    loose (TNumber (decimal n)) ∷ loose (TSymbol symbol.Times) ∷ loose (TName v) ∷ loose (TSymbol symbol.Plus) ∷ tight (TNumber (decimal m)) ∷ []

-- an operand, from its words with a space after them or not, and without
abbrev pub wrap_words : PureExpr → List Word → List Word → Bool → List Word
wrap_words x own inner g = cond (is_single x) own (tight opens ∷ (inner ++ word closes g ∷ []))

abbrev pub expr_words : PureExpr → Bool → List Word
expr_words (ENumber digits) g = word (TNumber digits) g ∷ []
expr_words (EName name) g = word (TName name) g ∷ []
expr_words (EAt name i) g = tight (TName name) ∷ tight (TSymbol symbol.OpenSquare) ∷ (index_words i ++ word (TSymbol symbol.CloseSquare) g ∷ [])
expr_words (ECast name x) g = tight (TName name) ∷ tight opens ∷ (expr_words x false ++ word closes g ∷ [])
expr_words (ESelect x y z) g = tight (TKey key.Select) ∷ tight opens ∷ (expr_words x false ++ loose comma ∷ (expr_words y false ++ loose comma ∷ (expr_words z false ++ word closes g ∷ [])))
expr_words (ENot x) g = loose (TKey key.Not) ∷ wrap_words x (expr_words x g) (expr_words x false) g
expr_words (ENeg x) g = tight (TSymbol symbol.Minus) ∷ wrap_words x (expr_words x g) (expr_words x false) g
expr_words (EShift x left n) g = wrap_words x (expr_words x true) (expr_words x false) true ++ loose (shift_sign left) ∷ word (TNumber (decimal n)) g ∷ []
expr_words (EBinary op x y) g = wrap_words x (expr_words x true) (expr_words x false) true ++ loose (operator_token op) ∷ wrap_words y (expr_words y g) (expr_words y false) g

-- the text of the words
op_is : (lang : Dialect) (op : Op) → op_text op ≡ 32 ∷ (spelled lang (operator_token op) ++ 32 ∷ [])
unfolding spelling words.sign
op_is lang Or = refl
op_is lang And = refl
op_is lang Lt = refl
op_is lang Le = refl
op_is lang Eq = refl
op_is lang Ne = refl
op_is lang Gt = refl
op_is lang Ge = refl
op_is lang Add = refl
op_is lang Sub = refl
op_is lang Mul = refl

shift_is : (lang : Dialect) (left : Bool) → shift_text left ≡ 32 ∷ (spelled lang (shift_sign left) ++ 32 ∷ [])
unfolding spelling words.sign
shift_is lang true = refl
shift_is lang false = refl

pub index_written : (lang : Dialect) (i : Index) → written lang (index_words i) ≡ index_text i
unfolding words.sign
index_written lang (index.Int n) = append-nil (decimal n)
index_written lang (index.Var v) = append-nil v
index_written lang (index.Plus v n) = ap (λ u. v ++ (codes " + " ++ u)) (append-nil (decimal n))
index_written lang (index.Minus v n) = ap (λ u. v ++ (codes " - " ++ u)) (append-nil (decimal n))
index_written lang (index.From n v) = ap (λ u. decimal n ++ (codes " - " ++ u)) (append-nil v)
index_written lang (index.Times n v) = ap (λ u. decimal n ++ (codes " * " ++ u)) (append-nil v)
index_written lang (index.TimesPlus n v m) = ap (λ u. decimal n ++ (codes " * " ++ (v ++ (codes " + " ++ u)))) (append-nil (decimal m))

-- words with more after them
pub written_then : (lang : Dialect) (xs ys : List Word) (s t : List ℕ) → written lang xs ≡ s → written lang ys ≡ t → written lang (xs ++ ys) ≡ s ++ t
written_then lang xs ys s t e f = written_append lang xs ys ∙ ap (λ u. u ++ written lang ys) e ∙ ap (λ u. s ++ u) f

pub last_written : (lang : Dialect) (t : Tok) (g : Bool) → written lang (word t g ∷ []) ≡ spelled lang t ++ gap g
last_written lang t g = ap (λ u. spelled lang t ++ u) (append-nil (gap g))

wrap_written : (lang : Dialect) (x : PureExpr) (own inner : List Word) (text : List ℕ) (g : Bool) → written lang own ≡ text ++ gap g → written lang inner ≡ text ++ []
    → written lang (wrap_words x own inner g) ≡ operand_text x text ++ gap g
unfolding words.sign
wrap_written lang x own inner text g e f = go (is_single x)
  where
    go : (b : Bool) → written lang (cond b own (tight opens ∷ (inner ++ word closes g ∷ []))) ≡ cond b text (codes "(" ++ (text ++ codes ")")) ++ gap g
    go true = e
    go false = ap (λ u. 40 ∷ u) (written_then lang inner (word closes g ∷ []) text (41 ∷ gap g) (f ∙ append-nil text) (last_written lang closes g) ∙ sym (append_assoc text (41 ∷ []) (gap g)))

regroup : (a b c k : List ℕ) → a ++ (44 ∷ 32 ∷ (b ++ (44 ∷ 32 ∷ (c ++ 41 ∷ k)))) ≡ (a ++ (44 ∷ 32 ∷ (b ++ (44 ∷ 32 ∷ (c ++ 41 ∷ []))))) ++ k
regroup a b c k = sym (simp append_assoc)

regroup_sign : (w s d k t : List ℕ) → t ≡ 32 ∷ (s ++ 32 ∷ []) → (w ++ 32 ∷ []) ++ (s ++ 32 ∷ (d ++ k)) ≡ (w ++ (t ++ d)) ++ k
regroup_sign w s d k t e = rw e (simp append_assoc)

pub expr_written : (lang : Dialect) (e : PureExpr) (g : Bool) → written lang (expr_words e g) ≡ expr_text e ++ gap g
unfolding words.sign spelling
expr_written lang (ENumber digits) g = last_written lang (TNumber digits) g
expr_written lang (EName name) g = last_written lang (TName name) g
expr_written lang (EAt name i) g =
    ap (λ u. name ++ 91 ∷ u) (written_then lang (index_words i) (word (TSymbol symbol.CloseSquare) g ∷ []) (index_text i) (93 ∷ gap g) (index_written lang i) (last_written lang (TSymbol symbol.CloseSquare) g))
    ∙ sym (append_assoc name (codes "[" ++ (index_text i ++ codes "]")) (gap g) ∙ ap (λ u. name ++ 91 ∷ u) (append_assoc (index_text i) (codes "]") (gap g)))
expr_written lang (ECast name x) g =
    ap (λ u. name ++ 40 ∷ u) (written_then lang (expr_words x false) (word closes g ∷ []) (expr_text x) (41 ∷ gap g) (expr_written lang x false ∙ append-nil (expr_text x)) (last_written lang closes g))
    ∙ sym (append_assoc name (codes "(" ++ (expr_text x ++ codes ")")) (gap g) ∙ ap (λ u. name ++ 40 ∷ u) (append_assoc (expr_text x) (codes ")") (gap g)))
expr_written lang (ESelect x y z) g =
    let third : written lang (expr_words z false ++ word closes g ∷ []) ≡ expr_text z ++ 41 ∷ gap g =
    written_then lang (expr_words z false) (word closes g ∷ []) (expr_text z) (41 ∷ gap g) (expr_written lang z false ∙ append-nil (expr_text z)) (last_written lang closes g) in
    let second : written lang (expr_words y false ++ loose comma ∷ (expr_words z false ++ word closes g ∷ [])) ≡ expr_text y ++ (44 ∷ 32 ∷ (expr_text z ++ 41 ∷ gap g)) =
    written_then lang (expr_words y false) (loose comma ∷ (expr_words z false ++ word closes g ∷ [])) (expr_text y) _ (expr_written lang y false ∙ append-nil (expr_text y)) (ap (λ u. 44 ∷ 32 ∷ u) third) in
    ap (λ u. codes "select(" ++ u)
    (written_then lang (expr_words x false) (loose comma ∷ (expr_words y false ++ loose comma ∷ (expr_words z false ++ word closes g ∷ []))) (expr_text x) _
    (expr_written lang x false ∙ append-nil (expr_text x)) (ap (λ u. 44 ∷ 32 ∷ u) second)
    ∙ regroup (expr_text x) (expr_text y) (expr_text z) (gap g))
expr_written lang (ENot x) g = ap (λ u. codes "not " ++ u) (wrap_written lang x (expr_words x g) (expr_words x false) (expr_text x) g (expr_written lang x g) (expr_written lang x false))
expr_written lang (ENeg x) g = ap (λ u. codes "-" ++ u) (wrap_written lang x (expr_words x g) (expr_words x false) (expr_text x) g (expr_written lang x g) (expr_written lang x false))
expr_written lang (EShift x left n) g =
    written_then lang (wrap_words x (expr_words x true) (expr_words x false) true) (loose (shift_sign left) ∷ word (TNumber (decimal n)) g ∷ []) _ _
    (wrap_written lang x (expr_words x true) (expr_words x false) (expr_text x) true (expr_written lang x true) (expr_written lang x false))
    (ap (λ u. spelled lang (shift_sign left) ++ 32 ∷ u) (last_written lang (TNumber (decimal n)) g))
    ∙ regroup_sign (operand_text x (expr_text x)) (spelled lang (shift_sign left)) (decimal n) (gap g) (shift_text left) (shift_is lang left)
expr_written lang (EBinary op x y) g =
    written_then lang (wrap_words x (expr_words x true) (expr_words x false) true) (loose (operator_token op) ∷ wrap_words y (expr_words y g) (expr_words y false) g) _ _
    (wrap_written lang x (expr_words x true) (expr_words x false) (expr_text x) true (expr_written lang x true) (expr_written lang x false))
    (ap (λ u. spelled lang (operator_token op) ++ 32 ∷ u) (wrap_written lang y (expr_words y g) (expr_words y false) (expr_text y) g (expr_written lang y g) (expr_written lang y false)))
    ∙ regroup_sign (operand_text x (expr_text x)) (spelled lang (operator_token op)) (operand_text y (expr_text y)) (gap g) (op_text op) (op_is lang op)

-- tokens of an expression, with no spaces
abbrev pub index_tokens : Index → List Tok
index_tokens (index.Int n) = TNumber (decimal n) ∷ []
index_tokens (index.Var v) = TName v ∷ []
index_tokens (index.Plus v n) = TName v ∷ TSymbol symbol.Plus ∷ TNumber (decimal n) ∷ []
index_tokens (index.Minus v n) = TName v ∷ TSymbol symbol.Minus ∷ TNumber (decimal n) ∷ []
index_tokens (index.From n v) = TNumber (decimal n) ∷ TSymbol symbol.Minus ∷ TName v ∷ []
index_tokens (index.Times n v) = TNumber (decimal n) ∷ TSymbol symbol.Times ∷ TName v ∷ []
index_tokens (index.TimesPlus n v m) = TNumber (decimal n) ∷ TSymbol symbol.Times ∷ TName v ∷ TSymbol symbol.Plus ∷ TNumber (decimal m) ∷ []

abbrev pub wrap_tokens : PureExpr → List Tok → List Tok
wrap_tokens x inner = cond (is_single x) inner (opens ∷ (inner ++ closes ∷ []))

abbrev pub expr_tokens : PureExpr → List Tok
expr_tokens (ENumber digits) = TNumber digits ∷ []
expr_tokens (EName name) = TName name ∷ []
expr_tokens (EAt name i) = TName name ∷ TSymbol symbol.OpenSquare ∷ (index_tokens i ++ TSymbol symbol.CloseSquare ∷ [])
expr_tokens (ECast name x) = TName name ∷ opens ∷ (expr_tokens x ++ closes ∷ [])
expr_tokens (ESelect x y z) = TKey key.Select ∷ opens ∷ (expr_tokens x ++ comma ∷ (expr_tokens y ++ comma ∷ (expr_tokens z ++ closes ∷ [])))
expr_tokens (ENot x) = TKey key.Not ∷ wrap_tokens x (expr_tokens x)
expr_tokens (ENeg x) = TSymbol symbol.Minus ∷ wrap_tokens x (expr_tokens x)
expr_tokens (EShift x left n) = wrap_tokens x (expr_tokens x) ++ shift_sign left ∷ TNumber (decimal n) ∷ []
expr_tokens (EBinary op x y) = wrap_tokens x (expr_tokens x) ++ operator_token op ∷ wrap_tokens y (expr_tokens y)

tokens_append : (xs ys : List Word) → tokens_in (xs ++ ys) ≡ tokens_in xs ++ tokens_in ys
tokens_append [] ys = refl
tokens_append (w ∷ xs) ys = ap (λ u. w.token ∷ u) (tokens_append xs ys)

pub tokens_then : (xs ys : List Word) (s t : List Tok) → tokens_in xs ≡ s → tokens_in ys ≡ t → tokens_in (xs ++ ys) ≡ s ++ t
tokens_then xs ys s t e f = tokens_append xs ys ∙ ap (λ u. u ++ tokens_in ys) e ∙ ap (λ u. s ++ u) f

pub index_tokens_are : (i : Index) → tokens_in (index_words i) ≡ index_tokens i
index_tokens_are (index.Int n) = refl
index_tokens_are (index.Var v) = refl
index_tokens_are (index.Plus v n) = refl
index_tokens_are (index.Minus v n) = refl
index_tokens_are (index.From n v) = refl
index_tokens_are (index.Times n v) = refl
index_tokens_are (index.TimesPlus n v m) = refl

wrap_tokens_are : (x : PureExpr) (own inner : List Word) (g : Bool) → tokens_in own ≡ expr_tokens x → tokens_in inner ≡ expr_tokens x
    → tokens_in (wrap_words x own inner g) ≡ wrap_tokens x (expr_tokens x)
wrap_tokens_are x own inner g e f = go (is_single x)
  where
    go : (b : Bool) → tokens_in (cond b own (tight opens ∷ (inner ++ word closes g ∷ []))) ≡ cond b (expr_tokens x) (opens ∷ (expr_tokens x ++ closes ∷ []))
    go true = e
    go false = ap (λ u. opens ∷ u) (tokens_then inner (word closes g ∷ []) (expr_tokens x) (closes ∷ []) f refl)

pub expr_tokens_are : (e : PureExpr) (g : Bool) → tokens_in (expr_words e g) ≡ expr_tokens e
expr_tokens_are (ENumber digits) g = refl
expr_tokens_are (EName name) g = refl
expr_tokens_are (EAt name i) g = ap (λ u. TName name ∷ TSymbol symbol.OpenSquare ∷ u) (tokens_then (index_words i) _ _ _ (index_tokens_are i) refl)
expr_tokens_are (ECast name x) g = ap (λ u. TName name ∷ opens ∷ u) (tokens_then (expr_words x false) _ _ _ (expr_tokens_are x false) refl)
expr_tokens_are (ESelect x y z) g =
    ap (λ u. TKey key.Select ∷ opens ∷ u) (tokens_then (expr_words x false) _ _ _ (expr_tokens_are x false)
    (ap (λ u. comma ∷ u) (tokens_then (expr_words y false) _ _ _ (expr_tokens_are y false)
    (ap (λ u. comma ∷ u) (tokens_then (expr_words z false) _ _ _ (expr_tokens_are z false) refl)))))
expr_tokens_are (ENot x) g = ap (λ u. TKey key.Not ∷ u) (wrap_tokens_are x (expr_words x g) (expr_words x false) g (expr_tokens_are x g) (expr_tokens_are x false))
expr_tokens_are (ENeg x) g = ap (λ u. TSymbol symbol.Minus ∷ u) (wrap_tokens_are x (expr_words x g) (expr_words x false) g (expr_tokens_are x g) (expr_tokens_are x false))
expr_tokens_are (EShift x left n) g =
    tokens_then (wrap_words x (expr_words x true) (expr_words x false) true) _ _ _
    (wrap_tokens_are x (expr_words x true) (expr_words x false) true (expr_tokens_are x true) (expr_tokens_are x false)) refl
expr_tokens_are (EBinary op x y) g =
    tokens_then (wrap_words x (expr_words x true) (expr_words x false) true) _ _ _
    (wrap_tokens_are x (expr_words x true) (expr_words x false) true (expr_tokens_are x true) (expr_tokens_are x false))
    (ap (λ u. operator_token op ∷ u) (wrap_tokens_are y (expr_words y g) (expr_words y false) g (expr_tokens_are y g) (expr_tokens_are y false)))

-- names that can be written
pub record NameOk (lang : Dialect) (n : List ℕ) : Type 0 where
  pub writable : Writable lang (TName n)
  pub letter : first_letter n ≡ true

abbrev pub NumberOk : Dialect → ℕ → Type 0
NumberOk lang n = Writable lang (TNumber (decimal n)) × (first_part (decimal n) ≡ true)

abbrev pub IndexOk : Dialect → Index → Type 0
IndexOk lang (index.Int n) = NumberOk lang n
IndexOk lang (index.Var v) = NameOk lang v
IndexOk lang (index.Plus v n) = NameOk lang v × NumberOk lang n
IndexOk lang (index.Minus v n) = NameOk lang v × NumberOk lang n
IndexOk lang (index.From n v) = NameOk lang v × NumberOk lang n
IndexOk lang (index.Times n v) = NameOk lang v × NumberOk lang n
IndexOk lang (index.TimesPlus n v m) = NameOk lang v × NumberOk lang n × NumberOk lang m

-- all names and numbers of an expression can be written
abbrev pub ExprOk : Dialect → PureExpr → Type 0
ExprOk lang (ENumber digits) = Writable lang (TNumber digits) × (first_part digits ≡ true)
ExprOk lang (EName name) = NameOk lang name
ExprOk lang (EAt name i) = NameOk lang name × IndexOk lang i
ExprOk lang (ECast name x) = NameOk lang name × ExprOk lang x
ExprOk lang (ESelect x y z) = ExprOk lang x × ExprOk lang y × ExprOk lang z
ExprOk lang (ENot x) = ExprOk lang x
ExprOk lang (ENeg x) = ExprOk lang x
ExprOk lang (EShift x left n) = ExprOk lang x × NumberOk lang n
ExprOk lang (EBinary op x y) = ExprOk lang x × ExprOk lang y
