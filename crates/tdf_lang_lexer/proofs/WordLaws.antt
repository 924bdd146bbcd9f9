-- Reserved words and symbols are read by their spelling.
use Rattle.std.proofs.Common.{◌≡◌, ℕ, Bool, true, false, List, [], ◌∷◌, refl, ap, sym, ◌∙◌, cond, nat_eq, subst, map, if◌then◌else◌}
use Rattle.std.proofs.lemmas.Bool.{eqb-true}
use Rattle.tdf_lang_lexer.proofs.LongestLaws.{and_left, and_right}
use Rattle.std.specs.Cmp.Lexicographic.{pointwise}
use Rattle.std.specs.Prelude.{Option, Some, None}
use Rattle.std.specs.List.{find}
use Rattle.tdf_lang_lexer.specs.Words.{spelling, sign, lookup, key_of, symbol_of, all_keys, all_symbols, WordsAreRead, SymbolsAreRead}
use Rattle.tdf_lang_lexer.specs.machine.Words.{begins_with_initial, begins_with_letter}
use Rattle.tdf_lang_lexer.specs.declared.key.Key.{Key}
use Rattle.tdf_lang_lexer.specs.declared.key.Key.TheVariants as key
use Rattle.tdf_lang_lexer.specs.declared.key.Symbol.{Symbol}
use Rattle.tdf_lang_lexer.specs.declared.key.Symbol.TheVariants as symbol

pub key_of-spelling : (word : Key) → key_of (spelling word) ≡ Some word
unfolding key_of spelling
key_of-spelling key.Language = refl
key_of-spelling key.Type = refl
key_of-spelling key.Tdf = refl
key_of-spelling key.De = refl
key_of-spelling key.Composite = refl
key_of-spelling key.Top = refl
key_of-spelling key.End = refl
key_of-spelling key.SetAttributes = refl
key_of-spelling key.Initialize = refl
key_of-spelling key.Processing = refl
key_of-spelling key.ChangeAttributes = refl
key_of-spelling key.Reinitialize = refl
key_of-spelling key.Process = refl
key_of-spelling key.In = refl
key_of-spelling key.Out = refl
key_of-spelling key.DeIn = refl
key_of-spelling key.DeOut = refl
key_of-spelling key.Const = refl
key_of-spelling key.Var = refl
key_of-spelling key.Array = refl
key_of-spelling key.Rate = refl
key_of-spelling key.Event = refl
key_of-spelling key.Signal = refl
key_of-spelling key.DeSignal = refl
key_of-spelling key.Instance = refl
key_of-spelling key.Bind = refl
key_of-spelling key.Trace = refl
key_of-spelling key.Timestep = refl
key_of-spelling key.Delay = refl
key_of-spelling key.Initial = refl
key_of-spelling key.DoesAttributeChanges = refl
key_of-spelling key.AcceptAttributeChanges = refl
key_of-spelling key.RejectAttributeChanges = refl
key_of-spelling key.Sensitive = refl
key_of-spelling key.DontInitialize = refl
key_of-spelling key.If = refl
key_of-spelling key.Else = refl
key_of-spelling key.For = refl
key_of-spelling key.Notify = refl
key_of-spelling key.After = refl
key_of-spelling key.And = refl
key_of-spelling key.Or = refl
key_of-spelling key.Not = refl
key_of-spelling key.Select = refl
key_of-spelling key.Fixed = refl
key_of-spelling key.Ufixed = refl
key_of-spelling key.Trn = refl
key_of-spelling key.TrnZero = refl
key_of-spelling key.Rnd = refl
key_of-spelling key.RndZero = refl
key_of-spelling key.RndMinInf = refl
key_of-spelling key.RndInf = refl
key_of-spelling key.RndConv = refl
key_of-spelling key.Wrap = refl
key_of-spelling key.Sat = refl
key_of-spelling key.SatZero = refl
key_of-spelling key.SatSym = refl

pub symbol_of-sign : (mark : Symbol) → symbol_of (sign mark) ≡ Some mark
unfolding symbol_of sign
symbol_of-sign symbol.Open = refl
symbol_of-sign symbol.Close = refl
symbol_of-sign symbol.OpenSquare = refl
symbol_of-sign symbol.CloseSquare = refl
symbol_of-sign symbol.Comma = refl
symbol_of-sign symbol.Point = refl
symbol_of-sign symbol.Plus = refl
symbol_of-sign symbol.Minus = refl
symbol_of-sign symbol.Times = refl
symbol_of-sign symbol.ShiftLeft = refl
symbol_of-sign symbol.ShiftRight = refl
symbol_of-sign symbol.Less = refl
symbol_of-sign symbol.AtMost = refl
symbol_of-sign symbol.Equal = refl
symbol_of-sign symbol.NotEqual = refl
symbol_of-sign symbol.Greater = refl
symbol_of-sign symbol.AtLeast = refl
symbol_of-sign symbol.Becomes = refl

find_at : {A : Type 0} (p : A → Bool) (y : A) (ys : List A) (x : A) → (find p ys ≡ Some x → p x ≡ true) → cond (p y) (Some y) (find p ys) ≡ Some x
    → (b : Bool) → p y ≡ b → p x ≡ true
find_at {A = A} p y ys x ih e true h =
    let g : cond true (Some y) (find p ys) ≡ Some x = subst (λ (b : Bool). cond b (Some y) (find p ys) ≡ Some x) h e in
    let f : y ≡ x = cc in
    subst (λ (z : A). p z ≡ true) f h
find_at p y ys x ih e false h = ih (subst (λ (b : Bool). cond b (Some y) (find p ys) ≡ Some x) h e)

find-passes : {A : Type 0} (p : A → Bool) (xs : List A) (x : A) → find p xs ≡ Some x → p x ≡ true
find-passes p [] x e = absurd cc
find-passes p (y ∷ ys) x e = find_at p y ys x (find-passes p ys x) e (p y) refl

pub same_text : (xs ys : List ℕ) → pointwise nat_eq xs ys ≡ true → xs ≡ ys
same_text [] [] h = refl
same_text [] (y ∷ ys) h = absurd cc
same_text (x ∷ xs) [] h = absurd cc
same_text (x ∷ xs) (y ∷ ys) h =
    let e : x ≡ y = eqb-true x y (and_left (nat_eq x y) (pointwise nat_eq xs ys) h) in
    let f : xs ≡ ys = same_text xs ys (and_right (nat_eq x y) (pointwise nat_eq xs ys) h) in
    cc

-- what a table answers stands in it, and is spelled so
lookup-at : (w : Key) (ws : List Key) (text : List ℕ) (word : Key) → (lookup (map (λ w. (spelling w, w)) ws) text ≡ Some word → text ≡ spelling word)
    → (if pointwise nat_eq text (spelling w) then Some w else lookup (map (λ w. (spelling w, w)) ws) text) ≡ Some word
    → (b : Bool) → pointwise nat_eq text (spelling w) ≡ b → text ≡ spelling word
lookup-at w ws text word ih e true h =
    let g : Some w ≡ Some word = rw h at e in
    let f : w ≡ word = cc in
    same_text text (spelling w) h ∙ ap spelling f
lookup-at w ws text word ih e false h = ih (rw h at e)

lookup-is : (words : List Key) (text : List ℕ) (word : Key) → lookup (map (λ w. (spelling w, w)) words) text ≡ Some word → text ≡ spelling word
lookup-is [] text word e = absurd cc
lookup-is (w ∷ ws) text word e = lookup-at w ws text word (lookup-is ws text word) e (pointwise nat_eq text (spelling w)) refl

words_are : (word : Key) (text : List ℕ) → key_of text ≡ Some word → text ≡ spelling word
unfolding key_of
words_are word text e = lookup-is all_keys text word e

symbols_are : (mark : Symbol) (text : List ℕ) → symbol_of text ≡ Some mark → text ≡ sign mark
unfolding symbol_of
symbols_are mark text e = same_text text (sign mark) (find-passes (λ symbol. pointwise nat_eq text (sign symbol)) all_symbols mark e)

pub words_are_read : WordsAreRead
words_are_read word text = (words_are word text, λ (e : text ≡ spelling word). ap key_of e ∙ key_of-spelling word)

pub symbols_are_read : SymbolsAreRead
symbols_are_read mark text = (symbols_are mark text, λ (e : text ≡ sign mark). ap symbol_of e ∙ symbol_of-sign mark)

initial_first : (word : Key) → begins_with_initial (spelling word) ≡ true
unfolding spelling
initial_first key.Language = refl
initial_first key.Type = refl
initial_first key.Tdf = refl
initial_first key.De = refl
initial_first key.Composite = refl
initial_first key.Top = refl
initial_first key.End = refl
initial_first key.SetAttributes = refl
initial_first key.Initialize = refl
initial_first key.Processing = refl
initial_first key.ChangeAttributes = refl
initial_first key.Reinitialize = refl
initial_first key.Process = refl
initial_first key.In = refl
initial_first key.Out = refl
initial_first key.DeIn = refl
initial_first key.DeOut = refl
initial_first key.Const = refl
initial_first key.Var = refl
initial_first key.Array = refl
initial_first key.Rate = refl
initial_first key.Event = refl
initial_first key.Signal = refl
initial_first key.DeSignal = refl
initial_first key.Instance = refl
initial_first key.Bind = refl
initial_first key.Trace = refl
initial_first key.Timestep = refl
initial_first key.Delay = refl
initial_first key.Initial = refl
initial_first key.DoesAttributeChanges = refl
initial_first key.AcceptAttributeChanges = refl
initial_first key.RejectAttributeChanges = refl
initial_first key.Sensitive = refl
initial_first key.DontInitialize = refl
initial_first key.If = refl
initial_first key.Else = refl
initial_first key.For = refl
initial_first key.Notify = refl
initial_first key.After = refl
initial_first key.And = refl
initial_first key.Or = refl
initial_first key.Not = refl
initial_first key.Select = refl
initial_first key.Fixed = refl
initial_first key.Ufixed = refl
initial_first key.Trn = refl
initial_first key.TrnZero = refl
initial_first key.Rnd = refl
initial_first key.RndZero = refl
initial_first key.RndMinInf = refl
initial_first key.RndInf = refl
initial_first key.RndConv = refl
initial_first key.Wrap = refl
initial_first key.Sat = refl
initial_first key.SatZero = refl
initial_first key.SatSym = refl

no_letter_first : (mark : Symbol) → begins_with_letter (sign mark) ≡ false
unfolding sign
no_letter_first symbol.Open = refl
no_letter_first symbol.Close = refl
no_letter_first symbol.OpenSquare = refl
no_letter_first symbol.CloseSquare = refl
no_letter_first symbol.Comma = refl
no_letter_first symbol.Point = refl
no_letter_first symbol.Plus = refl
no_letter_first symbol.Minus = refl
no_letter_first symbol.Times = refl
no_letter_first symbol.ShiftLeft = refl
no_letter_first symbol.ShiftRight = refl
no_letter_first symbol.Less = refl
no_letter_first symbol.AtMost = refl
no_letter_first symbol.Equal = refl
no_letter_first symbol.NotEqual = refl
no_letter_first symbol.Greater = refl
no_letter_first symbol.AtLeast = refl
no_letter_first symbol.Becomes = refl

none_of : {A : Type 0} (o : Option A) → ((x : A) → o ≡ Some x → ⊥) → None ≡ o
none_of None h = refl
none_of (Some x) h = absurd (h x refl)

-- what doesn't begin as a reserved word does is none, and what begins with a letter is no symbol
pub no_key : (text : List ℕ) → begins_with_initial text ≡ false → None ≡ key_of text
no_key text h = none_of (key_of text) (λ (word : Key) (e : key_of text ≡ Some word).
    let f : begins_with_initial text ≡ true = ap begins_with_initial (words_are word text e) ∙ initial_first word in
    let g : true ≡ false = sym f ∙ h in cc)

pub no_symbol : (text : List ℕ) → begins_with_letter text ≡ true → None ≡ symbol_of text
no_symbol text h = none_of (symbol_of text) (λ (mark : Symbol) (e : symbol_of text ≡ Some mark).
    let f : begins_with_letter text ≡ false = ap begins_with_letter (symbols_are mark text e) ∙ no_letter_first mark in
    let g : true ≡ false = sym h ∙ f in cc)
