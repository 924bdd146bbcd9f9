-- What the machine reads, the relation says: the stack and the operand above it stand for the tokens that were read.
use Rattle.std.proofs.Common.{◌≡◌, ℕ, zero, suc, ◌≤◌, ◌+◌, ◌-◌, Bool, true, false, List, [], ◌∷◌, ◌++◌, Option, Some, None, refl, sym, ap, subst, ◌∙◌, arith, append_assoc, ◌&&◌}
use Rattle.std.proofs.Math.Bool.{and-true, and-false}
use Rattle.std.proofs.lemmas.List.{append-nil}
use Rattle.tdf_base.specs.Version.{has_multiples}
use Rattle.tdf_base.specs.declared.version.Version.{Version}
use Rattle.tdf_lang_lexer.specs.Token.{Tok, TName, TKey, TNumber, TTime, TSymbol, TWrong}
use Rattle.tdf_lang_lexer.specs.declared.key.Key.{Key}
use Rattle.tdf_lang_lexer.specs.declared.key.Key.TheVariants as key
use Rattle.tdf_lang_lexer.specs.declared.key.Symbol.{Symbol}
use Rattle.tdf_lang_lexer.specs.declared.key.Symbol.TheVariants as symbol
use Rattle.tdf_lang_tree.specs.Pure.{PureExpr, ENumber, EName, EAt, ECast, ESelect, ENot, ENeg, EBinary}
use Rattle.tdf_lang_tree.specs.declared.expr.Index.{Index}
use Rattle.tdf_lang_tree.specs.declared.expr.Index.TheVariants as index
use Rattle.tdf_lang_tree.specs.declared.expr.Op.{Op}
use Rattle.tdf_base.specs.Digits.{int_of}
use Rattle.tdf_lang_exprs.specs.Numbers.{trimmed}
use Rattle.tdf_lang_exprs.specs.Index.{SpellsIndex, index_int, index_var, index_plus, index_minus, index_from, index_times, index_times_plus}
use Rattle.tdf_lang_exprs.specs.declared.after.After.{After}
use Rattle.tdf_lang_exprs.specs.declared.after.After.TheVariants.{Joins, Shifts, Shuts, Parts, Breaks}
use Rattle.tdf_lang_exprs.specs.SpellsExpr.{level, left_level, operator_token, shift_sign, SpellsExpr, number, variable, item, cast, select, parens, negation, shift, contrary, binary, tighter}
use Rattle.tdf_lang_exprs.specs.machine.Exprs.{Opening, Group, Call, First, Second, Third, Wait, Within, Negated, Denied, Left, Top, Reading, Want, Have, Named, Indexing, Shifting, Selecting, Bad, stops, reduce, after, after_key, after_symbol, shut, part, joined, join, start, start_key, start_symbol, after_name, after_name_symbol, indexed, within_index, shifted, after_shift, after_select, step, closed, finish, run, expr_of}
use Rattle.tdf_lang_exprs.specs.machine.Indices.{index_of, int_index, plus_index, minus_index, from_index, times_index, times_plus_index, named_index, number_index, counted_index, is_sum}
use Rattle.tdf_lang_exprs.proofs.Levels.{leb_true, ltb_true, leb_le, ltb_lt, left_le_five, stops_more, stops_six, pick, pick_bool}

-- the tokens of an open bracket
abbrev pub Brings : Version → Opening → List Tok → Type 0
Brings v Group o = o ≡ TSymbol symbol.Open ∷ []
Brings v (Call name) o = o ≡ TName name ∷ TSymbol symbol.Open ∷ []
Brings v First o = o ≡ TKey key.Select ∷ TSymbol symbol.Open ∷ []
Brings v (Second x) o = (a : List Tok) × SpellsExpr v 0 a x × (o ≡ TKey key.Select ∷ TSymbol symbol.Open ∷ (a ++ TSymbol symbol.Comma ∷ []))
Brings v (Third x y) o = (a b : List Tok) × SpellsExpr v 0 a x × SpellsExpr v 0 b y × (o ≡ TKey key.Select ∷ TSymbol symbol.Open ∷ (a ++ TSymbol symbol.Comma ∷ (b ++ TSymbol symbol.Comma ∷ [])))

-- a stack stands for the tokens before the operand that is wanted
abbrev pub Holds : Version → List Wait → List Tok → Type 0
Holds v [] pre = pre ≡ []
Holds v (Within b ∷ s) pre = (p o : List Tok) × Holds v s p × Brings v b o × (pre ≡ p ++ o)
Holds v (Negated ∷ s) pre = (p : List Tok) × Holds v s p × (pre ≡ p ++ TSymbol symbol.Minus ∷ [])
Holds v (Denied ∷ s) pre = (p : List Tok) × Holds v s p × (stops 2 s ≡ true) × (pre ≡ p ++ TKey key.Not ∷ [])
Holds v (Left op x ∷ s) pre = (p a : List Tok) × Holds v s p × (stops (level op) s ≡ true) × SpellsExpr v (left_level op) a x × (pre ≡ p ++ (a ++ operator_token op ∷ []))

-- and with an operand of level k above it
pub record HoldsOne (v : Version) (k : ℕ) (s : List Wait) (e : PureExpr) (pre : List Tok) : Type 0 where
  pub front : List Tok
  pub own : List Tok
  pub holds : Holds v s front
  pub quiet : stops k s ≡ true
  pub says : SpellsExpr v k own e
  pub is : pre ≡ front ++ own

abbrev pub HoldsTop : Version → ℕ → List Tok → Top → Type 0
HoldsTop v k pre r = HoldsOne v k r.stack r.tree pre

lower_by : (v : Version) (n k : ℕ) (a : List Tok) (x : PureExpr) → SpellsExpr v (k + n) a x → SpellsExpr v k a x
lower_by v zero k a x d = subst (λ j. SpellsExpr v j a x) (omega arith) d
lower_by v (suc n) k a x d = lower_by v n k a x (tighter (subst (λ j. SpellsExpr v j a x) (omega arith) d))

-- what is of a tighter level is of a looser one
pub lower : (v : Version) (k m : ℕ) (a : List Tok) (x : PureExpr) → k ≤ m → SpellsExpr v m a x → SpellsExpr v k a x
lower v k m a x le d = lower_by v (m - k) k a x (subst (λ j. SpellsExpr v j a x) (omega arith) d)

joins_up : (pre front own p o q c : List Tok) → pre ≡ front ++ own → front ≡ p ++ o → o ≡ q → pre ++ c ≡ p ++ (q ++ (own ++ c))
joins_up pre front own p o q c is at e = rw (is, at, e) (simp append_assoc)

reduced : (v : Version) (m k : ℕ) (s : List Wait) (e : PureExpr) (pre : List Tok) → k ≤ m → k ≤ 5 → HoldsOne v m s e pre → HoldsTop v k pre (reduce k s e)
reduced v m k [] e pre le low h =
    record { front = h.front; own = h.own; holds = h.holds; quiet = refl; says = lower v k m h.own e le h.says; is = h.is }
reduced v m k (Within b ∷ s) e pre le low h =
    record { front = h.front; own = h.own; holds = h.holds; quiet = refl; says = lower v k m h.own e le h.says; is = h.is }
reduced v m k (Negated ∷ s) e pre le low h =
    reduced v 6 k s (ENeg e) pre (omega arith) low (record {
      front = h.holds.0;
      own = TSymbol symbol.Minus ∷ h.own;
      holds = h.holds.1;
      quiet = stops_six s;
      says = negation (lower v 6 m h.own e (leb_le 6 m h.quiet) h.says);
      is = h.is ∙ ap (λ t. t ++ h.own) h.holds.2 ∙ append_assoc h.holds.0 (TSymbol symbol.Minus ∷ []) h.own;
    })
reduced v m k (Denied ∷ s) e pre le low h =
    pick (HoldsTop v k pre) k 2 _ _
    (λ under. reduced v 2 k s (ENot e) pre under low (record {
      front = h.holds.0;
      own = TKey key.Not ∷ h.own;
      holds = h.holds.1;
      quiet = h.holds.2;
      says = contrary (lower v 2 m h.own e (leb_le 2 m h.quiet) h.says);
      is = h.is ∙ ap (λ t. t ++ h.own) h.holds.3 ∙ append_assoc h.holds.0 (TKey key.Not ∷ []) h.own;
    }))
    (λ over. record {
      front = h.front;
      own = h.own;
      holds = h.holds;
      quiet = leb_true 2 k (omega arith);
      says = lower v k m h.own e le h.says;
      is = h.is;
    })
reduced v m k (Left op x ∷ s) e pre le low h =
    pick (HoldsTop v k pre) k (level op) _ _
    (λ under. reduced v (level op) k s (EBinary op x e) pre under low (record {
      front = h.holds.0;
      own = h.holds.1 ++ operator_token op ∷ h.own;
      holds = h.holds.2;
      quiet = h.holds.3;
      says = binary op refl h.holds.4 (lower v (suc (level op)) m h.own e (ltb_lt (level op) m h.quiet) h.says);
      is = h.is ∙ ap (λ t. t ++ h.own) h.holds.5 ∙ append_assoc h.holds.0 (h.holds.1 ++ operator_token op ∷ []) h.own ∙ ap (λ t. h.holds.0 ++ t) (append_assoc h.holds.1 (operator_token op ∷ []) h.own);
    }))
    (λ over. record {
      front = h.front;
      own = h.own;
      holds = h.holds;
      quiet = ltb_true (level op) k over;
      says = lower v k m h.own e le h.says;
      is = h.is;
    })

-- what each state of the machine stands for
abbrev pub Kept : Version → Reading → List Tok → Type 0
Kept v (Want s) pre = Holds v s pre
Kept v (Have s e) pre = (m : ℕ) × (5 ≤ m) × HoldsOne v m s e pre
Kept v (Named s name) pre = (p : List Tok) × Holds v s p × (pre ≡ p ++ TName name ∷ [])
Kept v (Indexing s name a) pre = (p : List Tok) × Holds v s p × (pre ≡ p ++ TName name ∷ TSymbol symbol.OpenSquare ∷ a)
Kept v (Shifting s e left) pre = (p a : List Tok) × Holds v s p × (stops 5 s ≡ true) × SpellsExpr v 5 a e × (pre ≡ p ++ (a ++ shift_sign left ∷ []))
Kept v (Selecting s) pre = (p : List Tok) × Holds v s p × (pre ≡ p ++ TKey key.Select ∷ [])
Kept v Bad pre = Unit {0}

-- an operand that needs no parentheses
single : (v : Version) (s : List Wait) (e : PureExpr) (p a pre : List Tok) → Holds v s p → SpellsExpr v 7 a e → pre ≡ p ++ a → Kept v (Have s e) pre
single v s e p a pre h d is = (
  7,
  omega arith,
  record {
    front = p;
    own = a;
    holds = h;
    quiet = stops_more 6 7 s (omega arith) (stops_six s);
    says = d;
    is = is;
  },
)

kept_shut : (v : Version) (s : List Wait) (e : PureExpr) (pre : List Tok) → HoldsOne v 0 s e pre → Kept v (shut s e) (pre ++ TSymbol symbol.Close ∷ [])
kept_shut v (Within Group ∷ s) e pre h =
    single v s e h.holds.0 _ _ h.holds.2 (parens h.says)
    (joins_up pre h.front h.own h.holds.0 h.holds.1 _ (TSymbol symbol.Close ∷ []) h.is h.holds.4 h.holds.3)
kept_shut v (Within (Call name) ∷ s) e pre h =
    single v s (ECast name e) h.holds.0 _ _ h.holds.2 (cast name h.says)
    (joins_up pre h.front h.own h.holds.0 h.holds.1 _ (TSymbol symbol.Close ∷ []) h.is h.holds.4 h.holds.3)
kept_shut v (Within (Third x y) ∷ s) e pre h =
    single v s (ESelect x y e) h.holds.0 _ _ h.holds.2 (select h.holds.3.2 h.holds.3.3 h.says)
    (joins_up pre h.front h.own h.holds.0 h.holds.1 _ (TSymbol symbol.Close ∷ []) h.is h.holds.4 h.holds.3.4
    ∙ ap (λ u. h.holds.0 ++ TKey key.Select ∷ TSymbol symbol.Open ∷ u)
    (append_assoc h.holds.3.0 (TSymbol symbol.Comma ∷ (h.holds.3.1 ++ TSymbol symbol.Comma ∷ [])) (h.own ++ TSymbol symbol.Close ∷ [])
    ∙ ap (λ u. h.holds.3.0 ++ TSymbol symbol.Comma ∷ u) (append_assoc h.holds.3.1 (TSymbol symbol.Comma ∷ []) (h.own ++ TSymbol symbol.Close ∷ []))))
kept_shut v [] e pre h = tt
kept_shut v (Negated ∷ s) e pre h = tt
kept_shut v (Denied ∷ s) e pre h = tt
kept_shut v (Left op x ∷ s) e pre h = tt
kept_shut v (Within First ∷ s) e pre h = tt
kept_shut v (Within (Second x) ∷ s) e pre h = tt

kept_part : (v : Version) (s : List Wait) (e : PureExpr) (pre : List Tok) → HoldsOne v 0 s e pre → Kept v (part s e) (pre ++ TSymbol symbol.Comma ∷ [])
kept_part v (Within First ∷ s) e pre h =
    (h.holds.0, _, h.holds.2, (h.own, h.says, refl), joins_up pre h.front h.own h.holds.0 h.holds.1 _ (TSymbol symbol.Comma ∷ []) h.is h.holds.4 h.holds.3)
kept_part v (Within (Second x) ∷ s) e pre h = (
  h.holds.0,
  _,
  h.holds.2,
  (h.holds.3.0, h.own, h.holds.3.1, h.says, refl),
  joins_up pre h.front h.own h.holds.0 h.holds.1 _ (TSymbol symbol.Comma ∷ []) h.is h.holds.4 h.holds.3.2
      ∙ ap (λ u. h.holds.0 ++ TKey key.Select ∷ TSymbol symbol.Open ∷ u) (append_assoc h.holds.3.0 (TSymbol symbol.Comma ∷ []) (h.own ++ TSymbol symbol.Comma ∷ [])),
)
kept_part v [] e pre h = tt
kept_part v (Negated ∷ s) e pre h = tt
kept_part v (Denied ∷ s) e pre h = tt
kept_part v (Left op x ∷ s) e pre h = tt
kept_part v (Within Group ∷ s) e pre h = tt
kept_part v (Within (Call name) ∷ s) e pre h = tt
kept_part v (Within (Third x y) ∷ s) e pre h = tt

-- after (op) is the sign of op
abbrev Signs : After → Tok → Type 0
Signs (Joins op) t = t ≡ operator_token op
Signs (Shifts left) t = t ≡ shift_sign left
Signs Shuts t = t ≡ TSymbol symbol.Close
Signs Parts t = t ≡ TSymbol symbol.Comma
Signs Breaks t = Unit {0}

signs_key : (k : Key) → Signs (after_key k) (TKey k)
signs_key key.Or = refl
signs_key key.And = refl
signs_key _ = tt

signs_symbol : (c : Symbol) → Signs (after_symbol c) (TSymbol c)
signs_symbol symbol.Less = refl
signs_symbol symbol.AtMost = refl
signs_symbol symbol.Equal = refl
signs_symbol symbol.NotEqual = refl
signs_symbol symbol.Greater = refl
signs_symbol symbol.AtLeast = refl
signs_symbol symbol.Plus = refl
signs_symbol symbol.Minus = refl
signs_symbol symbol.Times = refl
signs_symbol symbol.ShiftLeft = refl
signs_symbol symbol.ShiftRight = refl
signs_symbol symbol.Close = refl
signs_symbol symbol.Comma = refl
signs_symbol _ = tt

signs : (t : Tok) → Signs (after t) t
signs (TKey k) = signs_key k
signs (TSymbol c) = signs_symbol c
signs (TName n) = tt
signs (TNumber n) = tt
signs (TTime n) = tt
signs TWrong = tt

kept_joined : (v : Version) (op : Op) (pre : List Tok) (r : Top) → HoldsTop v (left_level op) pre r → Kept v (joined op r) (pre ++ operator_token op ∷ [])
kept_joined v op pre r h =
    pick_bool (λ q. Kept v q (pre ++ operator_token op ∷ [])) (stops (level op) r.stack) _ _
    (λ quiet. (h.front, h.own, h.holds, quiet, h.says, ap (λ t. t ++ operator_token op ∷ []) h.is ∙ append_assoc h.front h.own (operator_token op ∷ [])))
    (λ _. tt)

kept_join : (v : Version) (b : After) (t : Tok) (m : ℕ) (s : List Wait) (e : PureExpr) (pre : List Tok) → Signs b t → 5 ≤ m → HoldsOne v m s e pre
    → Kept v (join b s e) (pre ++ t ∷ [])
kept_join v (Joins op) t m s e pre is le h =
    subst (λ c. Kept v (join (Joins op) s e) (pre ++ c ∷ [])) (sym is)
    (kept_joined v op pre (reduce (left_level op) s e) (reduced v m (left_level op) s e pre (omega (arith, left_le_five op)) (left_le_five op) h))
kept_join v (Shifts left) t m s e pre is le h =
    let r : HoldsTop v 5 pre (reduce 5 s e) = reduced v m 5 s e pre le (omega arith) h in (
      r.front,
      r.own,
      r.holds,
      r.quiet,
      r.says,
      ap (λ c. pre ++ c ∷ []) is ∙ ap (λ u. u ++ shift_sign left ∷ []) r.is ∙ append_assoc r.front r.own (shift_sign left ∷ []),
    )
kept_join v Shuts t m s e pre is le h =
    subst (λ c. Kept v (join Shuts s e) (pre ++ c ∷ [])) (sym is)
    (kept_shut v (reduce 0 s e).stack (reduce 0 s e).tree pre (reduced v m 0 s e pre (omega arith) (omega arith) h))
kept_join v Parts t m s e pre is le h =
    subst (λ c. Kept v (join Parts s e) (pre ++ c ∷ [])) (sym is)
    (kept_part v (reduce 0 s e).stack (reduce 0 s e).tree pre (reduced v m 0 s e pre (omega arith) (omega arith) h))
kept_join v Breaks t m s e pre is le h = tt

kept_start_key : (v : Version) (k : Key) (s : List Wait) (pre : List Tok) → Holds v s pre → Kept v (start_key k s) (pre ++ TKey k ∷ [])
kept_start_key v key.Not s pre h =
    pick_bool (λ q. Kept v q (pre ++ TKey key.Not ∷ [])) (stops 2 s) _ _ (λ quiet. (pre, h, quiet, refl)) (λ _. tt)
kept_start_key v key.Select s pre h = (pre, h, refl)
kept_start_key v _ s pre h = tt

kept_start_symbol : (v : Version) (c : Symbol) (s : List Wait) (pre : List Tok) → Holds v s pre → Kept v (start_symbol c s) (pre ++ TSymbol c ∷ [])
kept_start_symbol v symbol.Open s pre h = (pre, _, h, refl, refl)
kept_start_symbol v symbol.Minus s pre h = (pre, h, refl)
kept_start_symbol v _ s pre h = tt

kept_start : (v : Version) (t : Tok) (s : List Wait) (pre : List Tok) → Holds v s pre → Kept v (start t s) (pre ++ t ∷ [])
kept_start v (TNumber text) s pre h = single v s (ENumber (trimmed text)) pre (TNumber text ∷ []) _ h (number text) refl
kept_start v (TName name) s pre h = (pre, h, refl)
kept_start v (TKey k) s pre h = kept_start_key v k s pre h
kept_start v (TSymbol c) s pre h = kept_start_symbol v c s pre h
kept_start v (TTime n) s pre h = tt
kept_start v TWrong s pre h = tt

kept_have : (v : Version) (b : After) (t : Tok) (s : List Wait) (e : PureExpr) (pre : List Tok) → Signs b t → Kept v (Have s e) pre → Kept v (join b s e) (pre ++ t ∷ [])
kept_have v b t s e pre is h = kept_join v b t h.0 s e pre is h.1 h.2

named : (v : Version) (s : List Wait) (name : List ℕ) (pre : List Tok) → Kept v (Named s name) pre → Kept v (Have s (EName name)) pre
named v s name pre h = single v s (EName name) h.0 (TName name ∷ []) pre h.1 (variable name) h.2

kept_name_symbol : (v : Version) (c : Symbol) (s : List Wait) (name : List ℕ) (pre : List Tok) → Kept v (Named s name) pre
    → Kept v (after_name_symbol c s name) (pre ++ TSymbol c ∷ [])
kept_name_symbol v symbol.Open s name pre h =
    (h.0, _, h.1, refl, ap (λ u. u ++ TSymbol symbol.Open ∷ []) h.2 ∙ append_assoc h.0 (TName name ∷ []) (TSymbol symbol.Open ∷ []))
kept_name_symbol v symbol.OpenSquare s name pre h =
    (h.0, h.1, ap (λ u. u ++ TSymbol symbol.OpenSquare ∷ []) h.2 ∙ append_assoc h.0 (TName name ∷ []) (TSymbol symbol.OpenSquare ∷ []))
kept_name_symbol v c s name pre h = kept_have v (after_symbol c) (TSymbol c) s (EName name) pre (signs_symbol c) (named v s name pre h)

kept_name : (v : Version) (t : Tok) (s : List Wait) (name : List ℕ) (pre : List Tok) → Kept v (Named s name) pre → Kept v (after_name t s name) (pre ++ t ∷ [])
kept_name v (TSymbol c) s name pre h = kept_name_symbol v c s name pre h
kept_name v t s name pre h = kept_have v (after t) t s (EName name) pre (signs t) (named v s name pre h)

-- an index that was read is spelled by its tokens
int_says : (v : Version) (text : List ℕ) (o : Option ℕ) (i : Index) → int_of text ≡ o → int_index o ≡ Some i → SpellsIndex v (TNumber text ∷ []) i
int_says v text (Some n) i is h = let e : index.Int n ≡ i = cc in subst (SpellsIndex v (TNumber text ∷ [])) e (index_int text is)
int_says v text None i is h = absurd (cc)

plus_says : (v : Version) (name text : List ℕ) (o : Option ℕ) (i : Index) → int_of text ≡ o → plus_index name o ≡ Some i
    → SpellsIndex v (TName name ∷ TSymbol symbol.Plus ∷ TNumber text ∷ []) i
plus_says v name text (Some n) i is h = let e : index.Plus name n ≡ i = cc in subst (SpellsIndex v _) e (index_plus name text is)
plus_says v name text None i is h = absurd (cc)

minus_says : (v : Version) (name text : List ℕ) (o : Option ℕ) (i : Index) → int_of text ≡ o → minus_index name o ≡ Some i
    → SpellsIndex v (TName name ∷ TSymbol symbol.Minus ∷ TNumber text ∷ []) i
minus_says v name text (Some n) i is h = let e : index.Minus name n ≡ i = cc in subst (SpellsIndex v _) e (index_minus name text is)
minus_says v name text None i is h = absurd (cc)

from_says : (v : Version) (name text : List ℕ) (o : Option ℕ) (i : Index) → int_of text ≡ o → from_index name o ≡ Some i
    → SpellsIndex v (TNumber text ∷ TSymbol symbol.Minus ∷ TName name ∷ []) i
from_says v name text (Some n) i is h = let e : index.From n name ≡ i = cc in subst (SpellsIndex v _) e (index_from name text is)
from_says v name text None i is h = absurd (cc)

times_says : (v : Version) (name text : List ℕ) (b : Bool) (o : Option ℕ) (i : Index) → has_multiples v ≡ b → int_of text ≡ o → times_index b name o ≡ Some i
    → SpellsIndex v (TNumber text ∷ TSymbol symbol.Times ∷ TName name ∷ []) i
times_says v name text true (Some n) i le is h =
    let e : index.Times n name ≡ i = cc in subst (SpellsIndex v _) e (index_times le text name is)
times_says v name text true None i le is h = absurd (cc)
times_says v name text false o i le is h = absurd (cc)

times_plus_says : (v : Version) (name text last : List ℕ) (b : Bool) (o p : Option ℕ) (i : Index) → has_multiples v ≡ b → int_of text ≡ o → int_of last ≡ p
    → times_plus_index b name o p ≡ Some i
    → SpellsIndex v (TNumber text ∷ TSymbol symbol.Times ∷ TName name ∷ TSymbol symbol.Plus ∷ TNumber last ∷ []) i
times_plus_says v name text last true (Some n) (Some m) i le is also h =
    let e : index.TimesPlus n name m ≡ i = cc in subst (SpellsIndex v _) e (index_times_plus le text name last is also)
times_plus_says v name text last true (Some n) None i le is also h = absurd (cc)
times_plus_says v name text last true None p i le is also h = absurd (cc)
times_plus_says v name text last false o p i le is also h = absurd (cc)

named_says : (v : Version) (c : Symbol) (name text : List ℕ) (i : Index) → named_index c name text ≡ Some i
    → SpellsIndex v (TName name ∷ TSymbol c ∷ TNumber text ∷ []) i
named_says v symbol.Plus name text i h = plus_says v name text (int_of text) i refl h
named_says v symbol.Minus name text i h = minus_says v name text (int_of text) i refl h
named_says v _ name text i h = absurd (cc)

number_says : (v : Version) (c : Symbol) (name text : List ℕ) (i : Index) → number_index v c text name ≡ Some i
    → SpellsIndex v (TNumber text ∷ TSymbol c ∷ TName name ∷ []) i
number_says v symbol.Minus name text i h = from_says v name text (int_of text) i refl h
number_says v symbol.Times name text i h = times_says v name text (has_multiples v) (int_of text) i refl refl h
number_says v _ name text i h = absurd (cc)

-- a choice of `*` and `+` alone is a sum
sum_only : (v : Version) (c d : Symbol) (name text last : List ℕ) (i : Index)
    → times_plus_index (has_multiples v && is_sum c d) name (int_of text) (int_of last) ≡ Some i
    → SpellsIndex v (TNumber text ∷ TSymbol c ∷ TName name ∷ TSymbol d ∷ TNumber last ∷ []) i
sum_only v symbol.Times symbol.Plus name text last i h =
    times_plus_says v name text last (has_multiples v) (int_of text) (int_of last) i refl refl refl
    (subst (λ b. times_plus_index b name (int_of text) (int_of last) ≡ Some i) (and-true (has_multiples v)) h)
sum_only v c d name text last i h =
    let e : times_plus_index false name (int_of text) (int_of last) ≡ Some i =
    subst (λ b. times_plus_index b name (int_of text) (int_of last) ≡ Some i) (and-false (has_multiples v)) h in
    absurd (cc)

counted_says : (v : Version) (text : List ℕ) (c : Symbol) (ts : List Tok) (i : Index) → counted_index v text c ts ≡ Some i
    → SpellsIndex v (TNumber text ∷ TSymbol c ∷ ts) i
counted_says v text c (TName name ∷ []) i h = number_says v c name text i h
counted_says v text c (TName name ∷ (TSymbol d ∷ (TNumber last ∷ []))) i h = sum_only v c d name text last i h
counted_says v text c _ i h = absurd (cc)

pub index_says : (v : Version) (a : List Tok) (i : Index) → index_of v a ≡ Some i → SpellsIndex v a i
index_says v (TNumber text ∷ []) i h = int_says v text (int_of text) i refl h
index_says v (TName name ∷ []) i h = let e : index.Var name ≡ i = cc in subst (SpellsIndex v _) e (index_var name)
index_says v (TName name ∷ (TSymbol c ∷ (TNumber text ∷ []))) i h = named_says v c name text i h
index_says v (TNumber text ∷ (TSymbol c ∷ ts)) i h = counted_says v text c ts i h
index_says v _ i h = absurd (cc)

kept_indexed : (v : Version) (o : Option Index) (s : List Wait) (name : List ℕ) (a pre : List Tok) → index_of v a ≡ o → Kept v (Indexing s name a) pre
    → Kept v (indexed o s name) (pre ++ TSymbol symbol.CloseSquare ∷ [])
kept_indexed v (Some i) s name a pre is h =
    single v s (EAt name i) h.0 _ _ h.1 (item name (index_says v a i is))
    (ap (λ u. u ++ TSymbol symbol.CloseSquare ∷ []) h.2 ∙ append_assoc h.0 (TName name ∷ TSymbol symbol.OpenSquare ∷ a) (TSymbol symbol.CloseSquare ∷ []))
kept_indexed v None s name a pre is h = tt

within_more : (v : Version) (t : Tok) (s : List Wait) (name : List ℕ) (a pre : List Tok) → Kept v (Indexing s name a) pre → Kept v (Indexing s name (a ++ t ∷ [])) (pre ++ t ∷ [])
within_more v t s name a pre h =
    (h.0, h.1, ap (λ u. u ++ t ∷ []) h.2 ∙ append_assoc h.0 (TName name ∷ TSymbol symbol.OpenSquare ∷ a) (t ∷ []))

kept_within : (v : Version) (t : Tok) (s : List Wait) (name : List ℕ) (a pre : List Tok) → Kept v (Indexing s name a) pre → Kept v (within_index v t s name a) (pre ++ t ∷ [])
kept_within v (TSymbol symbol.CloseSquare) s name a pre h = kept_indexed v (index_of v a) s name a pre refl h
kept_within v t s name a pre h = within_more v t s name a pre h

kept_shifted : (v : Version) (o : Option ℕ) (text : List ℕ) (s : List Wait) (e : PureExpr) (left : Bool) (pre : List Tok) → int_of text ≡ o → Kept v (Shifting s e left) pre
    → Kept v (shifted o s e left) (pre ++ TNumber text ∷ [])
kept_shifted v (Some n) text s e left pre is h = (
  5,
  omega arith,
  record {
    front = h.0;
    own = h.1 ++ shift_sign left ∷ TNumber text ∷ [];
    holds = h.2;
    quiet = h.3;
    says = shift left text h.4 is;
    is = ap (λ u. u ++ TNumber text ∷ []) h.5 ∙ append_assoc h.0 (h.1 ++ shift_sign left ∷ []) (TNumber text ∷ [])
        ∙ ap (λ u. h.0 ++ u) (append_assoc h.1 (shift_sign left ∷ []) (TNumber text ∷ []));
  },
)
kept_shifted v None text s e left pre is h = tt

kept_shift : (v : Version) (t : Tok) (s : List Wait) (e : PureExpr) (left : Bool) (pre : List Tok) → Kept v (Shifting s e left) pre → Kept v (after_shift t s e left) (pre ++ t ∷ [])
kept_shift v (TNumber text) s e left pre h = kept_shifted v (int_of text) text s e left pre refl h
kept_shift v _ s e left pre h = tt

kept_select : (v : Version) (t : Tok) (s : List Wait) (pre : List Tok) → Kept v (Selecting s) pre → Kept v (after_select t s) (pre ++ t ∷ [])
kept_select v (TSymbol symbol.Open) s pre h =
    (h.0, _, h.1, refl, ap (λ u. u ++ TSymbol symbol.Open ∷ []) h.2 ∙ append_assoc h.0 (TKey key.Select ∷ []) (TSymbol symbol.Open ∷ []))
kept_select v _ s pre h = tt

kept_step : (v : Version) (r : Reading) (t : Tok) (pre : List Tok) → Kept v r pre → Kept v (step v r t) (pre ++ t ∷ [])
kept_step v (Want s) t pre h = kept_start v t s pre h
kept_step v (Have s e) t pre h = kept_have v (after t) t s e pre (signs t) h
kept_step v (Named s name) t pre h = kept_name v t s name pre h
kept_step v (Indexing s name a) t pre h = kept_within v t s name a pre h
kept_step v (Shifting s e left) t pre h = kept_shift v t s e left pre h
kept_step v (Selecting s) t pre h = kept_select v t s pre h
kept_step v Bad t pre h = tt

closed_says : (v : Version) (s : List Wait) (e x : PureExpr) (pre : List Tok) → HoldsOne v 0 s e pre → closed s e ≡ Some x → SpellsExpr v 0 pre x
closed_says v [] e x pre h is =
    let own : h.own ≡ pre = sym (h.is ∙ ap (λ u. u ++ h.own) h.holds) in
    let same : e ≡ x = cc in
    subst (SpellsExpr v 0 pre) same (subst (λ u. SpellsExpr v 0 u e) own h.says)
closed_says v (w ∷ s) e x pre h is = absurd (cc)

have_says : (v : Version) (s : List Wait) (e x : PureExpr) (pre : List Tok) → Kept v (Have s e) pre → closed (reduce 0 s e).stack (reduce 0 s e).tree ≡ Some x → SpellsExpr v 0 pre x
have_says v s e x pre h is = closed_says v (reduce 0 s e).stack (reduce 0 s e).tree x pre (reduced v h.0 0 s e pre (omega arith) (omega arith) h.2) is

finish_says : (v : Version) (r : Reading) (x : PureExpr) (pre : List Tok) → Kept v r pre → finish r ≡ Some x → SpellsExpr v 0 pre x
finish_says v (Have s e) x pre h is = have_says v s e x pre h is
finish_says v (Named s name) x pre h is = have_says v s (EName name) x pre (named v s name pre h) is
finish_says v _ x pre h is = absurd (cc)

run_says : (v : Version) (ts : List Tok) (r : Reading) (x : PureExpr) (pre : List Tok) → Kept v r pre → run v r ts ≡ Some x → SpellsExpr v 0 (pre ++ ts) x
run_says v [] r x pre h is = subst (λ u. SpellsExpr v 0 u x) (sym (append-nil pre)) (finish_says v r x pre h is)
run_says v (t ∷ ts) r x pre h is =
    subst (λ u. SpellsExpr v 0 u x) (append_assoc pre (t ∷ []) ts) (run_says v ts (step v r t) x (pre ++ t ∷ []) (kept_step v r t pre h) is)

-- what is read is said
pub expr_says : (v : Version) (ts : List Tok) (x : PureExpr) → expr_of v ts ≡ Some x → SpellsExpr v 0 ts x
unfolding expr_of
expr_says v ts x is = run_says v ts (Want []) x [] refl is
