-- EXPR: which tokens are which expression (own). A relation, one constructor a form; parentheses are in it alone.
-- The version of the language matters to indices only.
--
-- Levels, from the loosest: 0 `or`, 1 `and`, 2 `not`, 3 comparisons, 4 `+` and `-` between, 5 `*` and shifts, 6 `-`
-- before, 7 what needs no parentheses.
use Rattle.std.specs.Prelude.{◌≡◌, ℕ, suc, Bool, true, false, List, [], ◌∷◌, ◌++◌, Some}
use Rattle.tdf_base.specs.declared.version.Version.{Version}
use Rattle.tdf_base.specs.Digits.{int_of}
use Rattle.tdf_lang_lexer.specs.Token.{Tok, TName, TKey, TNumber, TSymbol}
use Rattle.tdf_lang_lexer.specs.declared.key.Key.TheVariants as key
use Rattle.tdf_lang_lexer.specs.declared.key.Symbol.TheVariants as symbol
use Rattle.tdf_lang_tree.specs.Pure.{PureExpr, ENumber, EName, EAt, ECast, ESelect, ENot, ENeg, EShift, EBinary}
use Rattle.tdf_lang_tree.specs.declared.expr.Index.{Index}
use Rattle.tdf_lang_tree.specs.declared.expr.Op.{Op}
use Rattle.tdf_lang_tree.specs.declared.expr.Op.TheVariants.{Or, And, Lt, Le, Eq, Ne, Gt, Ge, Add, Sub, Mul}
use Rattle.tdf_lang_exprs.specs.Numbers.{trimmed}
use Rattle.tdf_lang_exprs.specs.Index.{SpellsIndex}

abbrev pub level : Op → ℕ
level Or = 0
level And = 1
level Lt = 3
level Le = 3
level Eq = 3
level Ne = 3
level Gt = 3
level Ge = 3
level Add = 4
level Sub = 4
level Mul = 5

-- the level of the left operand: operators associate to the left, but comparisons don't
abbrev pub left_level : Op → ℕ
left_level Or = 0
left_level And = 1
left_level Lt = 4
left_level Le = 4
left_level Eq = 4
left_level Ne = 4
left_level Gt = 4
left_level Ge = 4
left_level Add = 4
left_level Sub = 4
left_level Mul = 5

abbrev pub operator_token : Op → Tok
operator_token Or = TKey key.Or
operator_token And = TKey key.And
operator_token Lt = TSymbol symbol.Less
operator_token Le = TSymbol symbol.AtMost
operator_token Eq = TSymbol symbol.Equal
operator_token Ne = TSymbol symbol.NotEqual
operator_token Gt = TSymbol symbol.Greater
operator_token Ge = TSymbol symbol.AtLeast
operator_token Add = TSymbol symbol.Plus
operator_token Sub = TSymbol symbol.Minus
operator_token Mul = TSymbol symbol.Times

abbrev pub shift_sign : Bool → Tok
shift_sign true = TSymbol symbol.ShiftLeft
shift_sign false = TSymbol symbol.ShiftRight

-- `SpellsExpr v k ts x`: in version v the tokens ts are the expression x, of level k or tighter
pub data SpellsExpr (v : Version) : ℕ → List Tok → PureExpr → Type 0 where
  number : (text : List ℕ) → SpellsExpr v 7 (TNumber text ∷ []) (ENumber (trimmed text))
  variable : (name : List ℕ) → SpellsExpr v 7 (TName name ∷ []) (EName name)
  item : (name : List ℕ) {a : List Tok} {i : Index} → SpellsIndex v a i
      → SpellsExpr v 7 (TName name ∷ TSymbol symbol.OpenSquare ∷ (a ++ TSymbol symbol.CloseSquare ∷ [])) (EAt name i)
  cast : (name : List ℕ) {a : List Tok} {x : PureExpr} → SpellsExpr v 0 a x
      → SpellsExpr v 7 (TName name ∷ TSymbol symbol.Open ∷ (a ++ TSymbol symbol.Close ∷ [])) (ECast name x)
  select : {a b c : List Tok} {x y z : PureExpr} → SpellsExpr v 0 a x → SpellsExpr v 0 b y → SpellsExpr v 0 c z
      → SpellsExpr v 7
      (TKey key.Select ∷ TSymbol symbol.Open
      ∷ (a ++ TSymbol symbol.Comma ∷ (b ++ TSymbol symbol.Comma ∷ (c ++ TSymbol symbol.Close ∷ []))))
      (ESelect x y z)
  parens : {a : List Tok} {x : PureExpr} → SpellsExpr v 0 a x
      → SpellsExpr v 7 (TSymbol symbol.Open ∷ (a ++ TSymbol symbol.Close ∷ [])) x
  negation : {a : List Tok} {x : PureExpr} → SpellsExpr v 6 a x → SpellsExpr v 6 (TSymbol symbol.Minus ∷ a) (ENeg x)
  shift : (left : Bool) (text : List ℕ) {a : List Tok} {x : PureExpr} {n : ℕ} → SpellsExpr v 5 a x
      → int_of text ≡ Some n → SpellsExpr v 5 (a ++ shift_sign left ∷ TNumber text ∷ []) (EShift x left n)
  contrary : {a : List Tok} {x : PureExpr} → SpellsExpr v 2 a x → SpellsExpr v 2 (TKey key.Not ∷ a) (ENot x)
  binary : {k : ℕ} {a b : List Tok} {x y : PureExpr} (op : Op) → level op ≡ k → SpellsExpr v (left_level op) a x
      → SpellsExpr v (suc k) b y → SpellsExpr v k (a ++ operator_token op ∷ b) (EBinary op x y)
  tighter : {k : ℕ} {a : List Tok} {x : PureExpr} → SpellsExpr v (suc k) a x → SpellsExpr v k a x

-- in version v the tokens are no expression
abbrev pub IsNoExpr : Version → List Tok → Type 0
IsNoExpr v ts = (x : PureExpr) → SpellsExpr v 0 ts x → ⊥
