-- The machine reads what the relation says: from an operand's first token to after its last.
use Rattle.std.proofs.Common.{◌≡◌, ℕ, suc, ◌≤◌, Bool, true, cond, List, [], ◌∷◌, ◌++◌, Some, refl, sym, ap, subst, ◌∙◌, arith, append_assoc, ◌&&◌}
use Rattle.std.proofs.lemmas.List.{append-nil}
use Rattle.tdf_base.specs.declared.version.Version.{Version}
use Rattle.tdf_lang_lexer.specs.Token.{Tok, TName, TKey, TNumber, TTime, TSymbol, TWrong}
use Rattle.tdf_lang_lexer.specs.declared.key.Symbol.{Symbol}
use Rattle.tdf_lang_lexer.specs.declared.key.Symbol.TheVariants as symbol
use Rattle.tdf_lang_tree.specs.Pure.{PureExpr, EName, EAt, ENot, ENeg, EShift, EBinary}
use Rattle.tdf_lang_tree.specs.declared.expr.Index.{Index}
use Rattle.tdf_lang_tree.specs.declared.expr.Op.{Op}
use Rattle.tdf_base.specs.Digits.{int_of}
use Rattle.tdf_lang_exprs.specs.Index.{SpellsIndex, index_int, index_var, index_plus, index_minus, index_from, index_times, index_times_plus}
use Rattle.tdf_lang_exprs.specs.declared.after.After.{After}
use Rattle.tdf_lang_exprs.specs.declared.after.After.TheVariants.{Joins, Shifts, Shuts, Parts, Breaks}
use Rattle.tdf_lang_exprs.specs.SpellsExpr.{level, left_level, operator_token, shift_sign, SpellsExpr, number, variable, item, cast, select, parens, negation, shift, contrary, binary, tighter}
use Rattle.tdf_lang_exprs.specs.machine.Exprs.{Group, Call, First, Second, Third, Wait, Within, Negated, Denied, Left, Top, Want, Have, Named, Indexing, Shifting, Bad, stops, reduce, after, after_symbol, shut, part, joined, join, after_name, indexed, shifted, closed, run, expr_of}
use Rattle.tdf_lang_exprs.specs.machine.Indices.{index_of, int_index, plus_index, minus_index, from_index, times_index, times_plus_index}
use Rattle.tdf_lang_exprs.proofs.Levels.{cond_le, ltb_true, after_sign, after_shift_sign, level_le, left_le_five, stops_more, stays, left_not_two}

-- what comes after an operand of level k puts it together
abbrev pub Lets : ℕ → After → Type 0
Lets k (Joins op) = left_level op ≤ k
Lets k (Shifts left) = 5 ≤ k
Lets k Shuts = Unit {0}
Lets k Parts = Unit {0}
Lets k Breaks = ⊥

abbrev pub Follows : ℕ → List Tok → Type 0
Follows k [] = Unit {0}
Follows k (t ∷ ts) = Lets k (after t)

lets_more : (j k : ℕ) (b : After) → j ≤ k → Lets j b → Lets k b
lets_more j k (Joins op) le h = omega arith
lets_more j k (Shifts left) le h = omega arith
lets_more j k Shuts le h = tt
lets_more j k Parts le h = tt
lets_more j k Breaks le h = h

follows_more : (j k : ℕ) (ts : List Tok) → j ≤ k → Follows j ts → Follows k ts
follows_more j k [] le h = tt
follows_more j k (t ∷ ts) le h = lets_more j k (after t) le h

-- what comes after looks at the operand and its stack only when they are put together
join_same : (k : ℕ) (b : After) (s u : List Wait) (e f : PureExpr)
    → ((j : ℕ) → j ≤ k → reduce j s e ≡ reduce j u f) → Lets k b → join b s e ≡ join b u f
join_same k (Joins op) s u e f same h = ap (joined op) (same (left_level op) h)
join_same k (Shifts left) s u e f same h = ap (λ (r : Top). Shifting r.stack r.tree left) (same 5 h)
join_same k Shuts s u e f same h = ap (λ (r : Top). shut r.stack r.tree) (same 0 (omega arith))
join_same k Parts s u e f same h = ap (λ (r : Top). part r.stack r.tree) (same 0 (omega arith))
join_same k Breaks s u e f same h = absurd h

runs_same : (v : Version) (k : ℕ) (rest : List Tok) (s u : List Wait) (e f : PureExpr)
    → ((j : ℕ) → j ≤ k → reduce j s e ≡ reduce j u f) → Follows k rest → run v (Have s e) rest ≡ run v (Have u f) rest
runs_same v k [] s u e f same h = ap (λ (r : Top). closed r.stack r.tree) (same 0 (omega arith))
runs_same v k (t ∷ ts) s u e f same h = ap (λ r. run v r ts) (join_same k (after t) s u e f same h)

-- a name is an operand where neither `(` nor `[` comes after it
name_symbol : (c : Symbol) (s : List Wait) (name : List ℕ) → Lets 7 (after_symbol c) → after_name (TSymbol c) s name ≡ join (after_symbol c) s (EName name)
name_symbol symbol.Open s name h = absurd h
name_symbol symbol.OpenSquare s name h = absurd h
name_symbol _ s name h = refl

runs_name : (v : Version) (rest : List Tok) (s : List Wait) (name : List ℕ) → Follows 7 rest → run v (Named s name) rest ≡ run v (Have s (EName name)) rest
runs_name v [] s name h = refl
runs_name v (TSymbol c ∷ ts) s name h = ap (λ r. run v r ts) (name_symbol c s name h)
runs_name v (TName n ∷ ts) s name h = refl
runs_name v (TKey k ∷ ts) s name h = refl
runs_name v (TNumber n ∷ ts) s name h = refl
runs_name v (TTime n ∷ ts) s name h = refl
runs_name v (TWrong ∷ ts) s name h = refl

-- an index and the bracket after it
pub index_reads : {v : Version} {a : List Tok} {i : Index} → SpellsIndex v a i → index_of v a ≡ Some i
index_reads (index_int text h) = ap int_index h
index_reads (index_var name) = refl
index_reads (index_plus name text h) = ap (plus_index name) h
index_reads (index_minus name text h) = ap (minus_index name) h
index_reads (index_from name text h) = ap (from_index name) h
index_reads {v = v} (index_times le text name h) =
    ap (λ b. times_index b name (int_of text)) le ∙ ap (times_index true name) h
index_reads {v = v} (index_times_plus le text name last {n = n} h k) =
    ap (λ b. times_plus_index (b && true) name (int_of text) (int_of last)) le
    ∙ ap (λ o. times_plus_index true name o (int_of last)) h ∙ ap (times_plus_index true name (Some n)) k

runs_index : {v : Version} {a : List Tok} {i : Index} → SpellsIndex v a i → (s : List Wait) (name : List ℕ) (rest : List Tok)
    → run v (Indexing s name []) (a ++ TSymbol symbol.CloseSquare ∷ rest) ≡ run v (Have s (EAt name i)) rest
runs_index {v = v} d s name rest = gathers d s name rest ∙ ap (λ o. run v (indexed o s name) rest) (index_reads d)
  where
    gathers : {v : Version} {a : List Tok} {i : Index} → SpellsIndex v a i → (s : List Wait) (name : List ℕ) (rest : List Tok)
        → run v (Indexing s name []) (a ++ TSymbol symbol.CloseSquare ∷ rest) ≡ run v (indexed (index_of v a) s name) rest
    gathers (index_int text h) s name rest = refl
    gathers (index_var n) s name rest = refl
    gathers (index_plus n text h) s name rest = refl
    gathers (index_minus n text h) s name rest = refl
    gathers (index_from n text h) s name rest = refl
    gathers (index_times le text n h) s name rest = refl
    gathers (index_times_plus le text n last h k) s name rest = refl

-- an operator that has its right operand
runs_left : (v : Version) (op : Op) (x e : PureExpr) (s : List Wait) (rest : List Tok) → Follows (level op) rest
    → run v (Have (Left op x ∷ s) e) rest ≡ run v (Have s (EBinary op x e)) rest
runs_left v op x e s rest h = runs_same v (level op) rest (Left op x ∷ s) s e (EBinary op x e) (λ j le. cond_le j (level op) _ _ le) h

runs_denied : (v : Version) (e : PureExpr) (s : List Wait) (rest : List Tok) → Follows 2 rest → run v (Have (Denied ∷ s) e) rest ≡ run v (Have s (ENot e)) rest
runs_denied v e s rest h = runs_same v 2 rest (Denied ∷ s) s e (ENot e) (λ j le. cond_le j 2 _ _ le) h

-- an operator after its left operand
runs_sign : (v : Version) (op : Op) (s : List Wait) (x : PureExpr) (rest : List Tok) → stops (level op) s ≡ true
    → run v (Have s x) (operator_token op ∷ rest) ≡ run v (Want (Left op x ∷ s)) rest
runs_sign v op s x rest h =
    ap (λ b. run v (join b s x) rest) (after_sign op)
    ∙ ap (λ (r : Top). run v (joined op r) rest) (stays (left_level op) s x (left_le_five op) (left_not_two op) (stops_more (level op) (left_level op) s (level_le op) h))
    ∙ ap (λ b. run v (cond b (Want (Left op x ∷ s)) Bad) rest) h

runs_shift : (v : Version) (left : Bool) (text : List ℕ) (n : ℕ) (s : List Wait) (x : PureExpr) (rest : List Tok) → stops 5 s ≡ true → int_of text ≡ Some n
    → run v (Have s x) (shift_sign left ∷ TNumber text ∷ rest) ≡ run v (Have s (EShift x left n)) rest
runs_shift v left text n s x rest h is =
    ap (λ b. run v (join b s x) (TNumber text ∷ rest)) (after_shift_sign left)
    ∙ ap (λ (r : Top). run v (Shifting r.stack r.tree left) (TNumber text ∷ rest)) (stays 5 s x (omega arith) (λ (e : 5 ≡ 2). omega arith) h)
    ∙ ap (λ o. run v (shifted o s x left) rest) is

pub reads : {v : Version} {k : ℕ} {ts : List Tok} {e : PureExpr} → SpellsExpr v k ts e → (s : List Wait) (rest : List Tok) → stops k s ≡ true → Follows k rest
    → run v (Want s) (ts ++ rest) ≡ run v (Have s e) rest
reads {v = v} (number text) s rest h f = refl
reads {v = v} (variable name) s rest h f = runs_name v rest s name f
reads {v = v} (item name {a = a} d) s rest h f =
    ap (run v (Indexing s name [])) (append_assoc a (TSymbol symbol.CloseSquare ∷ []) rest) ∙ runs_index d s name rest
reads {v = v} (cast name {a = a} d) s rest h f =
    ap (run v (Want (Within (Call name) ∷ s))) (append_assoc a (TSymbol symbol.Close ∷ []) rest)
    ∙ reads d (Within (Call name) ∷ s) (TSymbol symbol.Close ∷ rest) refl tt
reads {v = v} (select {a = a} {b = b} {c = c} {x = x} {y = y} d e g) s rest h f =
    ap (run v (Want (Within First ∷ s))) (append_assoc a _ rest)
    ∙ reads d (Within First ∷ s) (TSymbol symbol.Comma ∷ ((b ++ TSymbol symbol.Comma ∷ (c ++ TSymbol symbol.Close ∷ [])) ++ rest)) refl tt
    ∙ ap (run v (Want (Within (Second x) ∷ s))) (append_assoc b _ rest)
    ∙ reads e (Within (Second x) ∷ s) (TSymbol symbol.Comma ∷ ((c ++ TSymbol symbol.Close ∷ []) ++ rest)) refl tt
    ∙ ap (run v (Want (Within (Third x y) ∷ s))) (append_assoc c _ rest)
    ∙ reads g (Within (Third x y) ∷ s) (TSymbol symbol.Close ∷ rest) refl tt
reads {v = v} (parens {a = a} d) s rest h f =
    ap (run v (Want (Within Group ∷ s))) (append_assoc a (TSymbol symbol.Close ∷ []) rest)
    ∙ reads d (Within Group ∷ s) (TSymbol symbol.Close ∷ rest) refl tt
reads {v = v} (negation {x = x} d) s rest h f = reads d (Negated ∷ s) rest refl f ∙ runs_same v 6 rest (Negated ∷ s) s x (ENeg x) (λ j le. refl) f
reads {v = v} (shift left text {a = a} {x = x} {n = n} d is) s rest h f =
    ap (run v (Want s)) (append_assoc a (shift_sign left ∷ TNumber text ∷ []) rest)
    ∙ reads d s (shift_sign left ∷ TNumber text ∷ rest) h (subst (Lets 5) (sym (after_shift_sign left)) (omega arith))
    ∙ runs_shift v left text n s x rest h is
reads {v = v} (contrary {a = a} {x = x} d) s rest h f =
    ap (λ b. run v (cond b (Want (Denied ∷ s)) Bad) (a ++ rest)) h
    ∙ reads d (Denied ∷ s) rest refl f
    ∙ runs_denied v x s rest f
reads {v = v} (binary {k = k} {a = a} {b = b} {x = x} {y = y} op e c d) s rest h f =
    let open_now : stops (suc k) (Left op x ∷ s) ≡ true = ltb_true (level op) (suc k) (omega arith) in
    let quiet : stops (level op) s ≡ true = subst (λ j. stops j s ≡ true) (sym e) h in
    ap (run v (Want s)) (append_assoc a (operator_token op ∷ b) rest)
    ∙ reads c s (operator_token op ∷ (b ++ rest)) (stops_more (level op) (left_level op) s (level_le op) quiet) (subst (Lets (left_level op)) (sym (after_sign op)) (omega arith))
    ∙ runs_sign v op s x (b ++ rest) quiet
    ∙ reads d (Left op x ∷ s) rest open_now (follows_more k (suc k) rest (omega arith) f)
    ∙ runs_left v op x y s rest (subst (λ j. Follows j rest) (sym e) f)
reads {v = v} (tighter {k = k} d) s rest h f = reads d s rest (stops_more k (suc k) s (omega arith) h) (follows_more k (suc k) rest (omega arith) f)

pub expr_reads : {v : Version} {k : ℕ} {ts : List Tok} {e : PureExpr} → SpellsExpr v k ts e → expr_of v ts ≡ Some e
unfolding expr_of
expr_reads {v = v} {ts = ts} d = sym (ap (run v (Want [])) (append-nil ts)) ∙ reads d [] [] refl tt

-- tokens spell at most one expression
pub says_same : {v : Version} {j k : ℕ} {ts : List Tok} {x y : PureExpr} → SpellsExpr v j ts x → SpellsExpr v k ts y → x ≡ y
says_same {v = v} {ts = ts} {x = x} {y = y} d e =
    let p : expr_of v ts ≡ Some x = expr_reads d in
    let q : expr_of v ts ≡ Some y = expr_reads e in
    cc
