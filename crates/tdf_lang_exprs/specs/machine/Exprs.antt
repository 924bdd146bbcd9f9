-- How an expression is read: token by token, with a stack of what waits for its right operand (own).
-- Private functions mirror it; `proofs/` show that it reads exactly what `SpellsExpr` says.
use Rattle.std.specs.Prelude.{ℕ, Bool, true, false, cond, nat_le, nat_lt, List, [], ◌∷◌, ◌++◌, Option, Some, None}
use Rattle.tdf_base.specs.declared.version.Version.{Version}
use Rattle.tdf_base.specs.Digits.{int_of}
use Rattle.tdf_lang_lexer.specs.Token.{Tok, TName, TKey, TNumber, TSymbol}
use Rattle.tdf_lang_lexer.specs.declared.key.Key.TheVariants as key
use Rattle.tdf_lang_lexer.specs.declared.key.Key.{Key}
use Rattle.tdf_lang_lexer.specs.declared.key.Symbol.{Symbol}
use Rattle.tdf_lang_lexer.specs.declared.key.Symbol.TheVariants as symbol
use Rattle.tdf_lang_tree.specs.Pure.{PureExpr, ENumber, EName, EAt, ECast, ESelect, ENot, ENeg, EShift, EBinary}
use Rattle.tdf_lang_tree.specs.declared.expr.Index.{Index}
use Rattle.tdf_lang_tree.specs.declared.expr.Op.{Op}
use Rattle.tdf_lang_tree.specs.declared.expr.Op.TheVariants.{Or, And, Lt, Le, Eq, Ne, Gt, Ge, Add, Sub, Mul}
use Rattle.tdf_lang_exprs.specs.declared.after.After.{After}
use Rattle.tdf_lang_exprs.specs.declared.after.After.TheVariants.{Joins, Shifts, Shuts, Parts, Breaks}
use Rattle.tdf_lang_exprs.specs.Numbers.{trimmed}
use Rattle.tdf_lang_exprs.specs.machine.Indices.{index_of}
use Rattle.tdf_lang_exprs.specs.SpellsExpr.{level, left_level}

-- an open bracket: `(`, `name (`, and `select (` with the operands before the last comma
pub data Opening : Type 0 where
  Group : Opening
  Call : List ℕ → Opening
  First : Opening
  Second : PureExpr → Opening
  Third : PureExpr → PureExpr → Opening

-- what waits for its right operand
pub data Wait : Type 0 where
  Within : Opening → Wait
  Negated : Wait
  Denied : Wait
  Left : Op → PureExpr → Wait

-- a stack, innermost first, and the operand above it
pub record Top : Type 0 where
  pub stack : List Wait
  pub tree : PureExpr

pub data Reading : Type 0 where
  Want : List Wait → Reading
  Have : List Wait → PureExpr → Reading
  Named : List Wait → List ℕ → Reading
  Indexing : List Wait → List ℕ → List Tok → Reading
  Shifting : List Wait → PureExpr → Bool → Reading
  Selecting : List Wait → Reading
  Bad : Reading

-- an operand of level k may stand above the stack
abbrev pub stops : ℕ → List Wait → Bool
stops k [] = true
stops k (Within b ∷ s) = true
stops k (Negated ∷ s) = nat_le 6 k
stops k (Denied ∷ s) = nat_le 2 k
stops k (Left op x ∷ s) = nat_lt (level op) k

-- all that binds at least as tight as level k takes its operand
abbrev pub reduce : ℕ → List Wait → PureExpr → Top
reduce k [] e = record { stack = []; tree = e }
reduce k (Within b ∷ s) e = record { stack = Within b ∷ s; tree = e }
reduce k (Negated ∷ s) e = reduce k s (ENeg e)
reduce k (Denied ∷ s) e = cond (nat_le k 2) (reduce k s (ENot e)) (record { stack = Denied ∷ s; tree = e })
reduce k (Left op x ∷ s) e = cond (nat_le k (level op)) (reduce k s (EBinary op x e)) (record { stack = Left op x ∷ s; tree = e })

-- what a token after an operand does
abbrev pub after_key : Key → After
after_key key.Or = Joins Or
after_key key.And = Joins And
after_key _ = Breaks

abbrev pub after_symbol : Symbol → After
after_symbol symbol.Less = Joins Lt
after_symbol symbol.AtMost = Joins Le
after_symbol symbol.Equal = Joins Eq
after_symbol symbol.NotEqual = Joins Ne
after_symbol symbol.Greater = Joins Gt
after_symbol symbol.AtLeast = Joins Ge
after_symbol symbol.Plus = Joins Add
after_symbol symbol.Minus = Joins Sub
after_symbol symbol.Times = Joins Mul
after_symbol symbol.ShiftLeft = Shifts true
after_symbol symbol.ShiftRight = Shifts false
after_symbol symbol.Close = Shuts
after_symbol symbol.Comma = Parts
after_symbol _ = Breaks

abbrev pub after : Tok → After
after (TKey k) = after_key k
after (TSymbol c) = after_symbol c
after _ = Breaks

-- `)`: the innermost bracket has its last operand
abbrev pub shut : List Wait → PureExpr → Reading
shut (Within Group ∷ s) e = Have s e
shut (Within (Call name) ∷ s) e = Have s (ECast name e)
shut (Within (Third x y) ∷ s) e = Have s (ESelect x y e)
shut _ e = Bad

-- `,`: the innermost bracket has one more operand
abbrev pub part : List Wait → PureExpr → Reading
part (Within First ∷ s) e = Want (Within (Second e) ∷ s)
part (Within (Second x) ∷ s) e = Want (Within (Third x e) ∷ s)
part _ e = Bad

abbrev pub joined : Op → Top → Reading
joined op r = cond (stops (level op) r.stack) (Want (Left op r.tree ∷ r.stack)) Bad

abbrev pub join : After → List Wait → PureExpr → Reading
join (Joins op) s e = joined op (reduce (left_level op) s e)
join (Shifts left) s e = Shifting (reduce 5 s e).stack (reduce 5 s e).tree left
join Shuts s e = shut (reduce 0 s e).stack (reduce 0 s e).tree
join Parts s e = part (reduce 0 s e).stack (reduce 0 s e).tree
join Breaks s e = Bad

abbrev pub start_key : Key → List Wait → Reading
start_key key.Not s = cond (stops 2 s) (Want (Denied ∷ s)) Bad
start_key key.Select s = Selecting s
start_key _ s = Bad

abbrev pub start_symbol : Symbol → List Wait → Reading
start_symbol symbol.Open s = Want (Within Group ∷ s)
start_symbol symbol.Minus s = Want (Negated ∷ s)
start_symbol _ s = Bad

-- a token where an operand is wanted
abbrev pub start : Tok → List Wait → Reading
start (TNumber text) s = Have s (ENumber (trimmed text))
start (TName name) s = Named s name
start (TKey k) s = start_key k s
start (TSymbol c) s = start_symbol c s
start _ s = Bad

abbrev pub after_name_symbol : Symbol → List Wait → List ℕ → Reading
after_name_symbol symbol.Open s name = Want (Within (Call name) ∷ s)
after_name_symbol symbol.OpenSquare s name = Indexing s name []
after_name_symbol c s name = join (after_symbol c) s (EName name)

-- a token after a name
abbrev pub after_name : Tok → List Wait → List ℕ → Reading
after_name (TSymbol c) s name = after_name_symbol c s name
after_name t s name = join (after t) s (EName name)

-- the index is whole
abbrev pub indexed : Option Index → List Wait → List ℕ → Reading
indexed (Some i) s name = Have s (EAt name i)
indexed None s name = Bad

abbrev pub within_index : Version → Tok → List Wait → List ℕ → List Tok → Reading
within_index v (TSymbol symbol.CloseSquare) s name a = indexed (index_of v a) s name
within_index v t s name a = Indexing s name (a ++ t ∷ [])

-- a shift has its number of bits
abbrev pub shifted : Option ℕ → List Wait → PureExpr → Bool → Reading
shifted (Some n) s e left = Have s (EShift e left n)
shifted None s e left = Bad

abbrev pub after_shift : Tok → List Wait → PureExpr → Bool → Reading
after_shift (TNumber text) s e left = shifted (int_of text) s e left
after_shift _ s e left = Bad

abbrev pub after_select : Tok → List Wait → Reading
after_select (TSymbol symbol.Open) s = Want (Within First ∷ s)
after_select _ s = Bad

abbrev pub step : Version → Reading → Tok → Reading
step v (Want s) t = start t s
step v (Have s e) t = join (after t) s e
step v (Named s name) t = after_name t s name
step v (Indexing s name a) t = within_index v t s name a
step v (Shifting s e left) t = after_shift t s e left
step v (Selecting s) t = after_select t s
step v Bad t = Bad

-- at the end no bracket is open
abbrev pub closed : List Wait → PureExpr → Option PureExpr
closed [] e = Some e
closed (w ∷ s) e = None

abbrev pub finish : Reading → Option PureExpr
finish (Have s e) = closed (reduce 0 s e).stack (reduce 0 s e).tree
finish (Named s name) = closed (reduce 0 s (EName name)).stack (reduce 0 s (EName name)).tree
finish _ = None

abbrev pub run : Version → Reading → List Tok → Option PureExpr
run v r [] = finish r
run v r (t ∷ ts) = run v (step v r t) ts

unfoldable pub expr_of : Version → List Tok → Option PureExpr
expr_of v ts = run v (Want []) ts
