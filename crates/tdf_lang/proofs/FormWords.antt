-- The canonical words of a line: they are its canonical text, and that is cut into just these words again.
use Rattle.std.proofs.Common.{◌≡◌, ℕ, Bool, true, false, List, [], ◌∷◌, ◌++◌, Option, Some, None, refl, sym, ap, ◌∙◌, append_assoc}
use Rattle.std.proofs.lemmas.List.{append-nil}
use Rattle.std.specs.Prelude.{codes}
use Rattle.std.specs.Fmt.{decimal}
use Rattle.tdf_fixed.specs.declared.over.Over.{Over}
use Rattle.tdf_fixed.specs.declared.over.Over.TheVariants.{Wrap, Sat, SatZero, SatSym}
use Rattle.tdf_fixed.specs.declared.quant.Quant.{Quant}
use Rattle.tdf_fixed.specs.declared.quant.Quant.TheVariants.{Trn, TrnZero, Rnd, RndZero, RndMinInf, RndInf, RndConv}
use Rattle.tdf_lang_tree.specs.Forms.{Form, FType, FTdf, FDe, FComposite, FTop, FEnd, FPort, FConst, FVar, FArray, FRateVar, FSetAttributes, FInitialize, FProcessing, FChangeAttributes, FReinitialize, FStep, FRate, FDelay, FDoes, FAccept, FReject, FInitial, FEvent, FProcess, FSensitive, FDontInitialize, FNotify, FSignal, FDeSignal, FInstance, FBind, FTrace, FAssign, FIf, FElse, FFor, FSetRate}
use Rattle.tdf_lang_lexer.specs.Token.{Tok, TName, TKey, TNumber, TTime, TSymbol}
use Rattle.tdf_lang_lexer.specs.declared.dialect.Dialect.{Dialect}
use Rattle.tdf_lang_lexer.specs.Words as words
use Rattle.tdf_lang_lexer.specs.Words.{spelling}
use Rattle.tdf_lang_lexer.specs.declared.key.Key.{Key}
use Rattle.tdf_lang_lexer.specs.declared.key.Key.TheVariants as key
use Rattle.tdf_lang_lexer.specs.declared.key.Symbol.TheVariants as symbol
use Rattle.tdf_lang_tree.specs.declared.blocks.PortKind.{PortKind}
use Rattle.tdf_lang_tree.specs.declared.blocks.PortKind.TheVariants as port_kind
use Rattle.tdf_lang_tree.specs.declared.expr.Index.{Index}
use Rattle.tdf_lang_tree.specs.declared.names.Lit.{Lit}
use Rattle.tdf_lang_tree.specs.declared.shapes.FormatRef.{FormatRef}
use Rattle.tdf_lang_tree.specs.declared.shapes.FormatRef.TheVariants.{Own, Named}
use Rattle.tdf_lang_tree.specs.declared.shapes.Shape.{Shape}
use Rattle.tdf_lang_tree.specs.declared.stmt.Limit.{Limit}
use Rattle.tdf_lang_tree.specs.declared.stmt.Limit.TheVariants as limit
use Rattle.tdf_lang_printer.specs.Exprs.{index_text, expr_text}
use Rattle.tdf_lang_printer.specs.Lines.{sign_text, quant_text, over_text, shape_text, format_text, minus_text, lit_text, lits_text, time_text, limit_text, points_text, path_text, port_text, step_text, target_text, line_text}
use Rattle.tdf_lang.proofs.ExprLaws.{name_first, last_apart, close_square_apart, index_apart, expr_apart}
use Rattle.tdf_lang.proofs.ExprWords.{index_words, expr_words, index_tokens, expr_tokens, index_written, expr_written, index_tokens_are, expr_tokens_are, tokens_then, written_then, last_written, NameOk, NumberOk, IndexOk, ExprOk}
use Rattle.tdf_lang.proofs.Gaps.{Word, tight, loose, word, gap, written, tokens_in, ApartTo, apart_append, SoftText, by_space, by_byte, by_point, by_open_square, by_minus, by_dot}
use Rattle.tdf_lang.proofs.Tokens.{Writable, key_writable, symbol_writable, first_part, letter_first, key_letter}

-- formats
abbrev pub sign_key : Bool → Key
sign_key true = key.Fixed
sign_key false = key.Ufixed

abbrev pub quant_key : Quant → Key
quant_key Trn = key.Trn
quant_key TrnZero = key.TrnZero
quant_key Rnd = key.Rnd
quant_key RndZero = key.RndZero
quant_key RndMinInf = key.RndMinInf
quant_key RndInf = key.RndInf
quant_key RndConv = key.RndConv

abbrev pub over_key : Over → Key
over_key Wrap = key.Wrap
over_key Sat = key.Sat
over_key SatZero = key.SatZero
over_key SatSym = key.SatSym

abbrev pub shape_words : Shape → Bool → List Word
shape_words s g = loose (TKey (sign_key s.signed)) ∷ loose (TNumber (decimal s.wl)) ∷ loose (TNumber (decimal s.iwl)) ∷ loose (TKey (quant_key s.quant)) ∷ word (TKey (over_key s.over)) g ∷ []

abbrev pub shape_tokens : Shape → List Tok
shape_tokens s = TKey (sign_key s.signed) ∷ TNumber (decimal s.wl) ∷ TNumber (decimal s.iwl) ∷ TKey (quant_key s.quant) ∷ TKey (over_key s.over) ∷ []

abbrev pub format_words : FormatRef → Bool → List Word
format_words (Own s) g = shape_words s g
format_words (Named name) g = word (TName name) g ∷ []

abbrev pub format_tokens : FormatRef → List Tok
format_tokens (Own s) = shape_tokens s
format_tokens (Named name) = TName name ∷ []

sign_is : (b : Bool) (u : List ℕ) → spelling (sign_key b) ++ 32 ∷ u ≡ sign_text b ++ u
unfolding spelling
sign_is true u = refl
sign_is false u = refl

quant_is : (q : Quant) → 32 ∷ spelling (quant_key q) ≡ quant_text q
unfolding spelling
quant_is Trn = refl
quant_is TrnZero = refl
quant_is Rnd = refl
quant_is RndZero = refl
quant_is RndMinInf = refl
quant_is RndInf = refl
quant_is RndConv = refl

over_is : (o : Over) → 32 ∷ spelling (over_key o) ≡ over_text o
unfolding spelling
over_is Wrap = refl
over_is Sat = refl
over_is SatZero = refl
over_is SatSym = refl

regroup_shape : (a b q o k : List ℕ) → a ++ (32 ∷ (b ++ (q ++ (o ++ k)))) ≡ (a ++ (32 ∷ (b ++ (q ++ o)))) ++ k
regroup_shape a b q o k = sym (simp append_assoc)

shape_written : (lang : Dialect) (s : Shape) (g : Bool) → written lang (shape_words s g) ≡ shape_text s ++ gap g
shape_written lang s g =
    sign_is s.signed (decimal s.wl ++ (32 ∷ (decimal s.iwl ++ (32 ∷ (spelling (quant_key s.quant) ++ (32 ∷ (spelling (over_key s.over) ++ (gap g ++ []))))))))
    ∙ ap (λ u. sign_text s.signed ++ u)
    (ap (λ u. decimal s.wl ++ (32 ∷ (decimal s.iwl ++ (32 ∷ (spelling (quant_key s.quant) ++ (32 ∷ (spelling (over_key s.over) ++ u))))))) (append-nil (gap g))
    ∙ ap (λ u. decimal s.wl ++ (32 ∷ (decimal s.iwl ++ (32 ∷ (spelling (quant_key s.quant) ++ (u ++ gap g)))))) (over_is s.over)
    ∙ ap (λ u. decimal s.wl ++ (32 ∷ (decimal s.iwl ++ (u ++ (over_text s.over ++ gap g))))) (quant_is s.quant)
    ∙ regroup_shape (decimal s.wl) (decimal s.iwl) (quant_text s.quant) (over_text s.over) (gap g))
    ∙ sym (append_assoc (sign_text s.signed) (decimal s.wl ++ (codes " " ++ (decimal s.iwl ++ (quant_text s.quant ++ over_text s.over)))) (gap g))

format_written : (lang : Dialect) (x : FormatRef) (g : Bool) → written lang (format_words x g) ≡ format_text x ++ gap g
format_written lang (Own s) g = shape_written lang s g
format_written lang (Named name) g = last_written lang (TName name) g

pub format_tokens_are : (x : FormatRef) (g : Bool) → tokens_in (format_words x g) ≡ format_tokens x
format_tokens_are (Own s) g = refl
format_tokens_are (Named name) g = refl

abbrev pub ShapeOk : Dialect → Shape → Type 0
ShapeOk lang s = NumberOk lang s.wl × NumberOk lang s.iwl

abbrev pub FormatOk : Dialect → FormatRef → Type 0
FormatOk lang (Own s) = ShapeOk lang s
FormatOk lang (Named name) = NameOk lang name

key_first : (w : Key) → first_part (spelling w) ≡ true
key_first w = letter_first (spelling w) (key_letter w)

shape_apart : (lang : Dialect) (s : Shape) → ShapeOk lang s → (g : Bool) (rest : List ℕ) → SoftText (gap g ++ rest) → ApartTo lang (shape_words s g) rest
shape_apart lang s h g rest k = (
  key_writable lang (sign_key s.signed),
  by_space,
  (
    h.0.0,
    by_space,
    (
      h.1.0,
      by_space,
      (
        key_writable lang (quant_key s.quant),
        by_space,
        last_apart lang (TKey (over_key s.over)) (key_writable lang (over_key s.over)) (key_first (over_key s.over)) g rest k,
      ),
    ),
  ),
)

format_apart : (lang : Dialect) (x : FormatRef) → FormatOk lang x → (g : Bool) (rest : List ℕ) → SoftText (gap g ++ rest) → ApartTo lang (format_words x g) rest
format_apart lang (Own s) h g rest k = shape_apart lang s h g rest k
format_apart lang (Named name) h g rest k = last_apart lang (TName name) h.writable (name_first lang h) g rest k

-- literals
abbrev pub signed_words : Bool → List ℕ → Bool → List Word
signed_words true digits g = tight (TSymbol symbol.Minus) ∷ word (TNumber digits) g ∷ []
signed_words false digits g = word (TNumber digits) g ∷ []

abbrev pub signed_tokens : Bool → List ℕ → List Tok
signed_tokens true digits = TSymbol symbol.Minus ∷ TNumber digits ∷ []
signed_tokens false digits = TNumber digits ∷ []

abbrev pub lit_words : Lit → Bool → List Word
lit_words v g = signed_words v.minus v.digits g

abbrev pub lit_tokens : Lit → List Tok
lit_tokens v = signed_tokens v.minus v.digits

signed_written : (lang : Dialect) (m : Bool) (d : List ℕ) (g : Bool) → written lang (signed_words m d g) ≡ (minus_text m ++ d) ++ gap g
unfolding words.sign
signed_written lang true d g = ap (λ u. 45 ∷ u) (last_written lang (TNumber d) g)
signed_written lang false d g = last_written lang (TNumber d) g

lit_written : (lang : Dialect) (v : Lit) (g : Bool) → written lang (lit_words v g) ≡ lit_text v ++ gap g
lit_written lang v g = signed_written lang v.minus v.digits g

signed_tokens_are : (m : Bool) (d : List ℕ) (g : Bool) → tokens_in (signed_words m d g) ≡ signed_tokens m d
signed_tokens_are true d g = refl
signed_tokens_are false d g = refl

pub lit_tokens_are : (v : Lit) (g : Bool) → tokens_in (lit_words v g) ≡ lit_tokens v
lit_tokens_are v g = signed_tokens_are v.minus v.digits g

abbrev pub LitOk : Dialect → Lit → Type 0
LitOk lang v = Writable lang (TNumber v.digits) × (first_part v.digits ≡ true)

signed_apart : (lang : Dialect) (m : Bool) (d : List ℕ) → Writable lang (TNumber d) × (first_part d ≡ true) → (g : Bool) (rest : List ℕ) → SoftText (gap g ++ rest) → ApartTo lang (signed_words m d g) rest
signed_apart lang true d h g rest k = (symbol_writable lang symbol.Minus, by_minus, last_apart lang (TNumber d) h.0 h.1 g rest k)
signed_apart lang false d h g rest k = last_apart lang (TNumber d) h.0 h.1 g rest k

lit_apart : (lang : Dialect) (v : Lit) → LitOk lang v → (g : Bool) (rest : List ℕ) → SoftText (gap g ++ rest) → ApartTo lang (lit_words v g) rest
lit_apart lang v h g rest k = signed_apart lang v.minus v.digits h g rest k

-- a whole number and literals after it
abbrev pub tail_words : Lit → List Lit → List Word
tail_words v [] = lit_words v false
tail_words v (u ∷ us) = lit_words v true ++ tail_words u us

abbrev pub size_words : ℕ → List Lit → List Word
size_words n [] = tight (TNumber (decimal n)) ∷ []
size_words n (v ∷ vs) = loose (TNumber (decimal n)) ∷ tail_words v vs

abbrev pub lits_tokens : List Lit → List Tok
lits_tokens [] = []
lits_tokens (v ∷ vs) = lit_tokens v ++ lits_tokens vs

abbrev pub LitsOk : Dialect → List Lit → Type 0
LitsOk lang [] = Unit {0}
LitsOk lang (v ∷ vs) = LitOk lang v × LitsOk lang vs

tail_written : (lang : Dialect) (v : Lit) (vs : List Lit) → 32 ∷ written lang (tail_words v vs) ≡ lits_text (v ∷ vs)
tail_written lang v [] = ap (λ u. 32 ∷ u) (lit_written lang v false)
tail_written lang v (u ∷ us) =
    ap (λ t. 32 ∷ t) (written_then lang (lit_words v true) (tail_words u us) (lit_text v ++ 32 ∷ []) (written lang (tail_words u us)) (lit_written lang v true) refl
    ∙ append_assoc (lit_text v) (32 ∷ []) (written lang (tail_words u us)))
    ∙ ap (λ t. (32 ∷ lit_text v) ++ t) (tail_written lang u us)

size_written : (lang : Dialect) (n : ℕ) (vs : List Lit) → written lang (size_words n vs) ≡ decimal n ++ lits_text vs
size_written lang n [] = refl
size_written lang n (v ∷ vs) = ap (λ u. decimal n ++ u) (tail_written lang v vs)

tail_tokens_are : (v : Lit) (vs : List Lit) → tokens_in (tail_words v vs) ≡ lits_tokens (v ∷ vs)
tail_tokens_are v [] = lit_tokens_are v false ∙ sym (append-nil (lit_tokens v))
tail_tokens_are v (u ∷ us) = tokens_then (lit_words v true) (tail_words u us) _ _ (lit_tokens_are v true) (tail_tokens_are u us)

pub size_tokens_are : (n : ℕ) (vs : List Lit) → tokens_in (size_words n vs) ≡ TNumber (decimal n) ∷ lits_tokens vs
size_tokens_are n [] = refl
size_tokens_are n (v ∷ vs) = ap (λ u. TNumber (decimal n) ∷ u) (tail_tokens_are v vs)

tail_apart : (lang : Dialect) (v : Lit) (vs : List Lit) → LitOk lang v → LitsOk lang vs → ApartTo lang (tail_words v vs) []
tail_apart lang v [] h k = lit_apart lang v h false [] tt
tail_apart lang v (u ∷ us) h k = apart_append lang (lit_words v true) (tail_words u us) [] (lit_apart lang v h true _ refl) (tail_apart lang u us k.0 k.1)

size_apart : (lang : Dialect) (n : ℕ) (vs : List Lit) → NumberOk lang n → LitsOk lang vs → ApartTo lang (size_words n vs) []
size_apart lang n [] h k = last_apart lang (TNumber (decimal n)) h.0 h.1 false [] tt
size_apart lang n (v ∷ vs) h k = (h.0, by_space, tail_apart lang v vs k.0 k.1)

-- limits
abbrev pub limit_words : Limit → List Word
limit_words (limit.Int n) = tight (TNumber (decimal n)) ∷ []
limit_words (limit.Var name) = tight (TName name) ∷ []
limit_words (limit.Times n name) = loose (TNumber (decimal n)) ∷ loose (TSymbol symbol.Times) ∷ tight (TName name) ∷ []

abbrev pub limit_tokens : Limit → List Tok
limit_tokens (limit.Int n) = TNumber (decimal n) ∷ []
limit_tokens (limit.Var name) = TName name ∷ []
limit_tokens (limit.Times n name) = TNumber (decimal n) ∷ TSymbol symbol.Times ∷ TName name ∷ []

limit_written : (lang : Dialect) (l : Limit) → written lang (limit_words l) ≡ limit_text l
unfolding words.sign
limit_written lang (limit.Int n) = append-nil (decimal n)
limit_written lang (limit.Var name) = append-nil name
limit_written lang (limit.Times n name) = ap (λ u. decimal n ++ (codes " * " ++ u)) (append-nil name)

limit_tokens_are : (l : Limit) → tokens_in (limit_words l) ≡ limit_tokens l
limit_tokens_are (limit.Int n) = refl
limit_tokens_are (limit.Var name) = refl
limit_tokens_are (limit.Times n name) = refl

abbrev pub LimitOk : Dialect → Limit → Type 0
LimitOk lang (limit.Int n) = NumberOk lang n
LimitOk lang (limit.Var name) = NameOk lang name
LimitOk lang (limit.Times n name) = NumberOk lang n × NameOk lang name

limit_apart : (lang : Dialect) (l : Limit) → LimitOk lang l → ApartTo lang (limit_words l) []
limit_apart lang (limit.Int n) h = last_apart lang (TNumber (decimal n)) h.0 h.1 false [] tt
limit_apart lang (limit.Var name) h = last_apart lang (TName name) h.writable (name_first lang h) false [] tt
limit_apart lang (limit.Times n name) h =
    (h.0.0, by_space, (symbol_writable lang symbol.Times, by_space, last_apart lang (TName name) h.1.writable (name_first lang h.1) false [] tt))

-- paths
abbrev pub path_words : List (List ℕ) → Bool → List Word
path_words [] g = []
path_words (n ∷ []) g = word (TName n) g ∷ []
path_words (n ∷ (m ∷ ms)) g = tight (TName n) ∷ tight (TSymbol symbol.Point) ∷ path_words (m ∷ ms) g

abbrev pub path_tokens : List (List ℕ) → List Tok
path_tokens [] = []
path_tokens (n ∷ []) = TName n ∷ []
path_tokens (n ∷ (m ∷ ms)) = TName n ∷ TSymbol symbol.Point ∷ path_tokens (m ∷ ms)

abbrev pub PathOk : Dialect → List (List ℕ) → Type 0
PathOk lang [] = ⊥
PathOk lang (n ∷ []) = NameOk lang n
PathOk lang (n ∷ (m ∷ ms)) = NameOk lang n × PathOk lang (m ∷ ms)

path_written : (lang : Dialect) (p : List (List ℕ)) → PathOk lang p → (g : Bool) → written lang (path_words p g) ≡ path_text p ++ gap g
unfolding words.sign
path_written lang [] h g = absurd h
path_written lang (n ∷ []) h g = last_written lang (TName n) g ∙ ap (λ u. u ++ gap g) (sym (append-nil n))
path_written lang (n ∷ (m ∷ ms)) h g =
    ap (λ u. n ++ (46 ∷ u)) (path_written lang (m ∷ ms) h.1 g)
    ∙ sym (append_assoc n (46 ∷ (m ++ points_text ms)) (gap g))

pub path_tokens_are : (p : List (List ℕ)) (g : Bool) → tokens_in (path_words p g) ≡ path_tokens p
path_tokens_are [] g = refl
path_tokens_are (n ∷ []) g = refl
path_tokens_are (n ∷ (m ∷ ms)) g = ap (λ u. TName n ∷ TSymbol symbol.Point ∷ u) (path_tokens_are (m ∷ ms) g)

path_apart : (lang : Dialect) (p : List (List ℕ)) → PathOk lang p → (g : Bool) (rest : List ℕ) → SoftText (gap g ++ rest) → ApartTo lang (path_words p g) rest
unfolding words.sign
path_apart lang [] h g rest k = absurd h
path_apart lang (n ∷ []) h g rest k = last_apart lang (TName n) h.writable (name_first lang h) g rest k
path_apart lang (n ∷ (m ∷ ms)) h g rest k = (h.0.writable, by_point h.0.letter, (symbol_writable lang symbol.Point, by_dot, path_apart lang (m ∷ ms) h.1 g rest k))

-- what is assigned
abbrev pub target_words : List ℕ → Option Index → List Word
target_words name None = loose (TName name) ∷ []
target_words name (Some i) = tight (TName name) ∷ tight (TSymbol symbol.OpenSquare) ∷ (index_words i ++ loose (TSymbol symbol.CloseSquare) ∷ [])

abbrev pub target_tokens : List ℕ → Option Index → List Tok
target_tokens name None = TName name ∷ []
target_tokens name (Some i) = TName name ∷ TSymbol symbol.OpenSquare ∷ (index_tokens i ++ TSymbol symbol.CloseSquare ∷ [])

abbrev pub TargetOk : Dialect → List ℕ → Option Index → Type 0
TargetOk lang name None = NameOk lang name
TargetOk lang name (Some i) = NameOk lang name × IndexOk lang i

target_written : (lang : Dialect) (name : List ℕ) (i : Option Index) → written lang (target_words name i) ≡ target_text name i ++ 32 ∷ []
unfolding words.sign
target_written lang name None = last_written lang (TName name) true
target_written lang name (Some i) =
    ap (λ u. name ++ 91 ∷ u) (written_then lang (index_words i) (loose (TSymbol symbol.CloseSquare) ∷ []) (index_text i) (93 ∷ 32 ∷ []) (index_written lang i) refl)
    ∙ sym (append_assoc name (codes "[" ++ (index_text i ++ codes "]")) (32 ∷ []) ∙ ap (λ u. name ++ 91 ∷ u) (append_assoc (index_text i) (codes "]") (32 ∷ [])))

target_tokens_are : (name : List ℕ) (i : Option Index) → tokens_in (target_words name i) ≡ target_tokens name i
target_tokens_are name None = refl
target_tokens_are name (Some i) = ap (λ u. TName name ∷ TSymbol symbol.OpenSquare ∷ u) (tokens_then (index_words i) (loose (TSymbol symbol.CloseSquare) ∷ []) _ _ (index_tokens_are i) refl)

target_apart : (lang : Dialect) (name : List ℕ) (i : Option Index) → TargetOk lang name i → (rest : List ℕ) → ApartTo lang (target_words name i) rest
unfolding words.sign
target_apart lang name None h rest = (h.writable, by_space, tt)
target_apart lang name (Some i) h rest = (
  h.0.writable,
  by_byte (name_first lang h.0) refl,
  (
    symbol_writable lang symbol.OpenSquare,
    by_open_square,
    apart_append lang (index_words i) (loose (TSymbol symbol.CloseSquare) ∷ []) rest (index_apart lang i h.1 _ refl) (close_square_apart lang true rest),
  ),
)

-- ports
abbrev pub port_key : PortKind → Key
port_key port_kind.In = key.In
port_key port_kind.Out = key.Out
port_key port_kind.DeIn = key.DeIn
port_key port_kind.DeOut = key.DeOut

port_is : (k : PortKind) (u : List ℕ) → spelling (port_key k) ++ 32 ∷ u ≡ port_text k ++ u
unfolding spelling
port_is port_kind.In u = refl
port_is port_kind.Out u = refl
port_is port_kind.DeIn u = refl
port_is port_kind.DeOut u = refl

abbrev pub step_words : Option (List ℕ) → ℕ → List Word
step_words None count = loose (TKey key.Timestep) ∷ tight (TTime count) ∷ []
step_words (Some port) count = loose (TKey key.Timestep) ∷ loose (TName port) ∷ tight (TTime count) ∷ []

abbrev pub step_tokens : Option (List ℕ) → ℕ → List Tok
step_tokens None count = TKey key.Timestep ∷ TTime count ∷ []
step_tokens (Some port) count = TKey key.Timestep ∷ TName port ∷ TTime count ∷ []

abbrev pub StepOk : Dialect → Option (List ℕ) → ℕ → Type 0
StepOk lang None count = Writable lang (TTime count)
StepOk lang (Some port) count = NameOk lang port × Writable lang (TTime count)

step_written : (lang : Dialect) (port : Option (List ℕ)) (count : ℕ) → written lang (step_words port count) ≡ step_text lang.resolution port count
unfolding spelling
step_written lang None count = ap (λ u. codes "timestep " ++ u) (append-nil (time_text lang.resolution count))
step_written lang (Some port) count = ap (λ u. codes "timestep " ++ (port ++ 32 ∷ u)) (append-nil (time_text lang.resolution count))

step_tokens_are : (port : Option (List ℕ)) (count : ℕ) → tokens_in (step_words port count) ≡ step_tokens port count
step_tokens_are None count = refl
step_tokens_are (Some port) count = refl

time_apart : (lang : Dialect) (count : ℕ) → Writable lang (TTime count) → ApartTo lang (tight (TTime count) ∷ []) []
time_apart lang count h = (h, record { quiet = tt }, tt)

step_apart : (lang : Dialect) (port : Option (List ℕ)) (count : ℕ) → StepOk lang port count → ApartTo lang (step_words port count) []
step_apart lang None count h = (key_writable lang key.Timestep, by_space, time_apart lang count h)
step_apart lang (Some port) count h = (key_writable lang key.Timestep, by_space, (h.0.writable, by_space, time_apart lang count h.1))

format_then : (lang : Dialect) (x : FormatRef) (v : Lit) → written lang (format_words x true ++ lit_words v false) ≡ format_text x ++ (codes " " ++ lit_text v)
format_then lang x v =
    written_then lang (format_words x true) (lit_words v false) _ (lit_text v) (format_written lang x true) (lit_written lang v false ∙ append-nil (lit_text v))
    ∙ append_assoc (format_text x) (32 ∷ []) (lit_text v)

format_size : (lang : Dialect) (x : FormatRef) (n : ℕ) (vs : List Lit) → written lang (format_words x true ++ size_words n vs) ≡ format_text x ++ (codes " " ++ (decimal n ++ lits_text vs))
format_size lang x n vs =
    written_then lang (format_words x true) (size_words n vs) _ (decimal n ++ lits_text vs) (format_written lang x true) (size_written lang n vs)
    ∙ append_assoc (format_text x) (32 ∷ []) (decimal n ++ lits_text vs)

-- the words and tokens of each form
abbrev pub form_words : Form → List Word
form_words (FType name s) = loose (TKey key.Type) ∷ loose (TName name) ∷ shape_words s false
form_words (FTdf name) = loose (TKey key.Tdf) ∷ tight (TName name) ∷ []
form_words (FDe name) = loose (TKey key.De) ∷ tight (TName name) ∷ []
form_words (FComposite name) = loose (TKey key.Composite) ∷ tight (TName name) ∷ []
form_words (FEvent name) = loose (TKey key.Event) ∷ tight (TName name) ∷ []
form_words (FSensitive name) = loose (TKey key.Sensitive) ∷ tight (TName name) ∷ []
form_words FTop = tight (TKey key.Top) ∷ []
form_words FEnd = tight (TKey key.End) ∷ []
form_words FSetAttributes = tight (TKey key.SetAttributes) ∷ []
form_words FInitialize = tight (TKey key.Initialize) ∷ []
form_words FProcessing = tight (TKey key.Processing) ∷ []
form_words FChangeAttributes = tight (TKey key.ChangeAttributes) ∷ []
form_words FReinitialize = tight (TKey key.Reinitialize) ∷ []
form_words FDoes = tight (TKey key.DoesAttributeChanges) ∷ []
form_words FAccept = tight (TKey key.AcceptAttributeChanges) ∷ []
form_words FReject = tight (TKey key.RejectAttributeChanges) ∷ []
form_words FProcess = tight (TKey key.Process) ∷ []
form_words FDontInitialize = tight (TKey key.DontInitialize) ∷ []
form_words FElse = tight (TKey key.Else) ∷ []
form_words (FPort kind name x) = loose (TKey (port_key kind)) ∷ loose (TName name) ∷ format_words x false
form_words (FConst name x v) = loose (TKey key.Const) ∷ loose (TName name) ∷ (format_words x true ++ lit_words v false)
form_words (FVar name x v) = loose (TKey key.Var) ∷ loose (TName name) ∷ (format_words x true ++ lit_words v false)
form_words (FDeSignal name x v) = loose (TKey key.DeSignal) ∷ loose (TName name) ∷ (format_words x true ++ lit_words v false)
form_words (FArray name x size vs) = loose (TKey key.Array) ∷ loose (TName name) ∷ (format_words x true ++ size_words size vs)
form_words (FRateVar name least greatest start) = loose (TKey key.Rate) ∷ loose (TName name) ∷ loose (TNumber (decimal least)) ∷ loose (TNumber (decimal greatest)) ∷ tight (TNumber (decimal start)) ∷ []
form_words (FStep port count) = step_words port count
form_words (FRate port l) = loose (TKey key.Rate) ∷ loose (TName port) ∷ limit_words l
form_words (FDelay port count) = loose (TKey key.Delay) ∷ loose (TName port) ∷ tight (TNumber (decimal count)) ∷ []
form_words (FInitial port place v) = loose (TKey key.Initial) ∷ loose (TName port) ∷ loose (TNumber (decimal place)) ∷ lit_words v false
form_words (FNotify event after) = loose (TKey key.Notify) ∷ loose (TName event) ∷ loose (TKey key.After) ∷ tight (TTime after) ∷ []
form_words (FSignal name x) = loose (TKey key.Signal) ∷ loose (TName name) ∷ format_words x false
form_words (FInstance name block) = loose (TKey key.Instance) ∷ loose (TName name) ∷ tight (TName block) ∷ []
form_words (FBind instance port target) = loose (TKey key.Bind) ∷ tight (TName instance) ∷ tight (TSymbol symbol.Point) ∷ loose (TName port) ∷ tight (TName target) ∷ []
form_words (FTrace path label) = loose (TKey key.Trace) ∷ (path_words path true ++ tight (TName label) ∷ [])
form_words (FAssign name i e) = target_words name i ++ loose (TSymbol symbol.Becomes) ∷ expr_words e false
form_words (FIf e) = loose (TKey key.If) ∷ expr_words e false
form_words (FFor name from l) = loose (TKey key.For) ∷ loose (TName name) ∷ loose (TNumber (decimal from)) ∷ limit_words l
form_words (FSetRate name e) = loose (TKey key.Rate) ∷ loose (TName name) ∷ loose (TSymbol symbol.Becomes) ∷ expr_words e false

abbrev pub form_tokens : Form → List Tok
form_tokens (FType name s) = TKey key.Type ∷ TName name ∷ shape_tokens s
form_tokens (FTdf name) = TKey key.Tdf ∷ TName name ∷ []
form_tokens (FDe name) = TKey key.De ∷ TName name ∷ []
form_tokens (FComposite name) = TKey key.Composite ∷ TName name ∷ []
form_tokens (FEvent name) = TKey key.Event ∷ TName name ∷ []
form_tokens (FSensitive name) = TKey key.Sensitive ∷ TName name ∷ []
form_tokens FTop = TKey key.Top ∷ []
form_tokens FEnd = TKey key.End ∷ []
form_tokens FSetAttributes = TKey key.SetAttributes ∷ []
form_tokens FInitialize = TKey key.Initialize ∷ []
form_tokens FProcessing = TKey key.Processing ∷ []
form_tokens FChangeAttributes = TKey key.ChangeAttributes ∷ []
form_tokens FReinitialize = TKey key.Reinitialize ∷ []
form_tokens FDoes = TKey key.DoesAttributeChanges ∷ []
form_tokens FAccept = TKey key.AcceptAttributeChanges ∷ []
form_tokens FReject = TKey key.RejectAttributeChanges ∷ []
form_tokens FProcess = TKey key.Process ∷ []
form_tokens FDontInitialize = TKey key.DontInitialize ∷ []
form_tokens FElse = TKey key.Else ∷ []
form_tokens (FPort kind name x) = TKey (port_key kind) ∷ TName name ∷ format_tokens x
form_tokens (FConst name x v) = TKey key.Const ∷ TName name ∷ (format_tokens x ++ lit_tokens v)
form_tokens (FVar name x v) = TKey key.Var ∷ TName name ∷ (format_tokens x ++ lit_tokens v)
form_tokens (FDeSignal name x v) = TKey key.DeSignal ∷ TName name ∷ (format_tokens x ++ lit_tokens v)
form_tokens (FArray name x size vs) = TKey key.Array ∷ TName name ∷ (format_tokens x ++ TNumber (decimal size) ∷ lits_tokens vs)
form_tokens (FRateVar name least greatest start) = TKey key.Rate ∷ TName name ∷ TNumber (decimal least) ∷ TNumber (decimal greatest) ∷ TNumber (decimal start) ∷ []
form_tokens (FStep port count) = step_tokens port count
form_tokens (FRate port l) = TKey key.Rate ∷ TName port ∷ limit_tokens l
form_tokens (FDelay port count) = TKey key.Delay ∷ TName port ∷ TNumber (decimal count) ∷ []
form_tokens (FInitial port place v) = TKey key.Initial ∷ TName port ∷ TNumber (decimal place) ∷ lit_tokens v
form_tokens (FNotify event after) = TKey key.Notify ∷ TName event ∷ TKey key.After ∷ TTime after ∷ []
form_tokens (FSignal name x) = TKey key.Signal ∷ TName name ∷ format_tokens x
form_tokens (FInstance name block) = TKey key.Instance ∷ TName name ∷ TName block ∷ []
form_tokens (FBind instance port target) = TKey key.Bind ∷ TName instance ∷ TSymbol symbol.Point ∷ TName port ∷ TName target ∷ []
form_tokens (FTrace path label) = TKey key.Trace ∷ (path_tokens path ++ TName label ∷ [])
form_tokens (FAssign name i e) = target_tokens name i ++ TSymbol symbol.Becomes ∷ expr_tokens e
form_tokens (FIf e) = TKey key.If ∷ expr_tokens e
form_tokens (FFor name from l) = TKey key.For ∷ TName name ∷ TNumber (decimal from) ∷ limit_tokens l
form_tokens (FSetRate name e) = TKey key.Rate ∷ TName name ∷ TSymbol symbol.Becomes ∷ expr_tokens e

-- all names, numbers and times of a form can be written
abbrev pub FormOk : Dialect → Form → Type 0
FormOk lang (FType name s) = NameOk lang name × ShapeOk lang s
FormOk lang (FTdf name) = NameOk lang name
FormOk lang (FDe name) = NameOk lang name
FormOk lang (FComposite name) = NameOk lang name
FormOk lang (FEvent name) = NameOk lang name
FormOk lang (FSensitive name) = NameOk lang name
FormOk lang FTop = Unit {0}
FormOk lang FEnd = Unit {0}
FormOk lang FSetAttributes = Unit {0}
FormOk lang FInitialize = Unit {0}
FormOk lang FProcessing = Unit {0}
FormOk lang FChangeAttributes = Unit {0}
FormOk lang FReinitialize = Unit {0}
FormOk lang FDoes = Unit {0}
FormOk lang FAccept = Unit {0}
FormOk lang FReject = Unit {0}
FormOk lang FProcess = Unit {0}
FormOk lang FDontInitialize = Unit {0}
FormOk lang FElse = Unit {0}
FormOk lang (FPort kind name x) = NameOk lang name × FormatOk lang x
FormOk lang (FConst name x v) = NameOk lang name × FormatOk lang x × LitOk lang v
FormOk lang (FVar name x v) = NameOk lang name × FormatOk lang x × LitOk lang v
FormOk lang (FDeSignal name x v) = NameOk lang name × FormatOk lang x × LitOk lang v
FormOk lang (FArray name x size vs) = NameOk lang name × FormatOk lang x × NumberOk lang size × LitsOk lang vs
FormOk lang (FRateVar name least greatest start) = NameOk lang name × NumberOk lang least × NumberOk lang greatest × NumberOk lang start
FormOk lang (FStep port count) = StepOk lang port count
FormOk lang (FRate port l) = NameOk lang port × LimitOk lang l
FormOk lang (FDelay port count) = NameOk lang port × NumberOk lang count
FormOk lang (FInitial port place v) = NameOk lang port × NumberOk lang place × LitOk lang v
FormOk lang (FNotify event after) = NameOk lang event × Writable lang (TTime after)
FormOk lang (FSignal name x) = NameOk lang name × FormatOk lang x
FormOk lang (FInstance name block) = NameOk lang name × NameOk lang block
FormOk lang (FBind instance port target) = NameOk lang instance × NameOk lang port × NameOk lang target
FormOk lang (FTrace path label) = PathOk lang path × NameOk lang label
FormOk lang (FAssign name i e) = TargetOk lang name i × ExprOk lang e
FormOk lang (FIf e) = ExprOk lang e
FormOk lang (FFor name from l) = NameOk lang name × NumberOk lang from × LimitOk lang l
FormOk lang (FSetRate name e) = NameOk lang name × ExprOk lang e

pub form_written : (lang : Dialect) (f : Form) → FormOk lang f → written lang (form_words f) ≡ line_text lang.resolution f
unfolding spelling words.sign
form_written lang (FType name s) h = ap (λ u. codes "type " ++ (name ++ 32 ∷ u)) (shape_written lang s false ∙ append-nil (shape_text s))
form_written lang (FTdf name) h = ap (λ u. codes "tdf " ++ u) (append-nil name)
form_written lang (FDe name) h = ap (λ u. codes "de " ++ u) (append-nil name)
form_written lang (FComposite name) h = ap (λ u. codes "composite " ++ u) (append-nil name)
form_written lang (FEvent name) h = ap (λ u. codes "event " ++ u) (append-nil name)
form_written lang (FSensitive name) h = ap (λ u. codes "sensitive " ++ u) (append-nil name)
form_written lang FTop h = refl
form_written lang FEnd h = refl
form_written lang FSetAttributes h = refl
form_written lang FInitialize h = refl
form_written lang FProcessing h = refl
form_written lang FChangeAttributes h = refl
form_written lang FReinitialize h = refl
form_written lang FDoes h = refl
form_written lang FAccept h = refl
form_written lang FReject h = refl
form_written lang FProcess h = refl
form_written lang FDontInitialize h = refl
form_written lang FElse h = refl
form_written lang (FPort kind name x) h = port_is kind (name ++ 32 ∷ written lang (format_words x false)) ∙ ap (λ u. port_text kind ++ (name ++ 32 ∷ u)) (format_written lang x false ∙ append-nil (format_text x))
form_written lang (FConst name x v) h = ap (λ u. codes "const " ++ (name ++ 32 ∷ u)) (format_then lang x v)
form_written lang (FVar name x v) h = ap (λ u. codes "var " ++ (name ++ 32 ∷ u)) (format_then lang x v)
form_written lang (FDeSignal name x v) h = ap (λ u. codes "de_signal " ++ (name ++ 32 ∷ u)) (format_then lang x v)
form_written lang (FArray name x size vs) h = ap (λ u. codes "array " ++ (name ++ 32 ∷ u)) (format_size lang x size vs)
form_written lang (FRateVar name least greatest start) h = ap (λ u. codes "rate " ++ (name ++ 32 ∷ (decimal least ++ 32 ∷ (decimal greatest ++ 32 ∷ u)))) (append-nil (decimal start))
form_written lang (FStep port count) h = step_written lang port count
form_written lang (FRate port l) h = ap (λ u. codes "rate " ++ (port ++ 32 ∷ u)) (limit_written lang l)
form_written lang (FDelay port count) h = ap (λ u. codes "delay " ++ (port ++ 32 ∷ u)) (append-nil (decimal count))
form_written lang (FInitial port place v) h = ap (λ u. codes "initial " ++ (port ++ 32 ∷ (decimal place ++ 32 ∷ u))) (lit_written lang v false ∙ append-nil (lit_text v))
form_written lang (FNotify event after) h = ap (λ u. codes "notify " ++ (event ++ (codes " after " ++ u))) (append-nil (time_text lang.resolution after))
form_written lang (FSignal name x) h = ap (λ u. codes "signal " ++ (name ++ 32 ∷ u)) (format_written lang x false ∙ append-nil (format_text x))
form_written lang (FInstance name block) h = ap (λ u. codes "instance " ++ (name ++ 32 ∷ u)) (append-nil block)
form_written lang (FBind instance port target) h = ap (λ u. codes "bind " ++ (instance ++ 46 ∷ (port ++ 32 ∷ u))) (append-nil target)
form_written lang (FTrace path label) h = ap (λ u. codes "trace " ++ u) (written_then lang (path_words path true) (tight (TName label) ∷ []) _ label (path_written lang path h.0 true) (append-nil label) ∙ append_assoc (path_text path) (32 ∷ []) label)
form_written lang (FAssign name i e) h = written_then lang (target_words name i) (loose (TSymbol symbol.Becomes) ∷ expr_words e false) _ _ (target_written lang name i) (ap (λ u. 61 ∷ 32 ∷ u) (expr_written lang e false ∙ append-nil (expr_text e))) ∙ append_assoc (target_text name i) (32 ∷ []) (61 ∷ 32 ∷ expr_text e)
form_written lang (FIf e) h = ap (λ u. codes "if " ++ u) (expr_written lang e false ∙ append-nil (expr_text e))
form_written lang (FFor name from l) h = ap (λ u. codes "for " ++ (name ++ 32 ∷ (decimal from ++ 32 ∷ u))) (limit_written lang l)
form_written lang (FSetRate name e) h = ap (λ u. codes "rate " ++ (name ++ (codes " = " ++ u))) (expr_written lang e false ∙ append-nil (expr_text e))

pub form_tokens_are : (f : Form) → tokens_in (form_words f) ≡ form_tokens f
form_tokens_are (FType name s) = refl
form_tokens_are (FTdf name) = refl
form_tokens_are (FDe name) = refl
form_tokens_are (FComposite name) = refl
form_tokens_are (FEvent name) = refl
form_tokens_are (FSensitive name) = refl
form_tokens_are FTop = refl
form_tokens_are FEnd = refl
form_tokens_are FSetAttributes = refl
form_tokens_are FInitialize = refl
form_tokens_are FProcessing = refl
form_tokens_are FChangeAttributes = refl
form_tokens_are FReinitialize = refl
form_tokens_are FDoes = refl
form_tokens_are FAccept = refl
form_tokens_are FReject = refl
form_tokens_are FProcess = refl
form_tokens_are FDontInitialize = refl
form_tokens_are FElse = refl
form_tokens_are (FPort kind name x) = ap (λ u. TKey (port_key kind) ∷ TName name ∷ u) (format_tokens_are x false)
form_tokens_are (FConst name x v) = ap (λ u. TKey key.Const ∷ TName name ∷ u) (tokens_then (format_words x true) (lit_words v false) _ _ (format_tokens_are x true) (lit_tokens_are v false))
form_tokens_are (FVar name x v) = ap (λ u. TKey key.Var ∷ TName name ∷ u) (tokens_then (format_words x true) (lit_words v false) _ _ (format_tokens_are x true) (lit_tokens_are v false))
form_tokens_are (FDeSignal name x v) = ap (λ u. TKey key.DeSignal ∷ TName name ∷ u) (tokens_then (format_words x true) (lit_words v false) _ _ (format_tokens_are x true) (lit_tokens_are v false))
form_tokens_are (FArray name x size vs) = ap (λ u. TKey key.Array ∷ TName name ∷ u) (tokens_then (format_words x true) (size_words size vs) _ _ (format_tokens_are x true) (size_tokens_are size vs))
form_tokens_are (FRateVar name least greatest start) = refl
form_tokens_are (FStep port count) = step_tokens_are port count
form_tokens_are (FRate port l) = ap (λ u. TKey key.Rate ∷ TName port ∷ u) (limit_tokens_are l)
form_tokens_are (FDelay port count) = refl
form_tokens_are (FInitial port place v) = ap (λ u. TKey key.Initial ∷ TName port ∷ TNumber (decimal place) ∷ u) (lit_tokens_are v false)
form_tokens_are (FNotify event after) = refl
form_tokens_are (FSignal name x) = ap (λ u. TKey key.Signal ∷ TName name ∷ u) (format_tokens_are x false)
form_tokens_are (FInstance name block) = refl
form_tokens_are (FBind instance port target) = refl
form_tokens_are (FTrace path label) = ap (λ u. TKey key.Trace ∷ u) (tokens_then (path_words path true) (tight (TName label) ∷ []) _ _ (path_tokens_are path true) refl)
form_tokens_are (FAssign name i e) = tokens_then (target_words name i) (loose (TSymbol symbol.Becomes) ∷ expr_words e false) _ _ (target_tokens_are name i) (ap (λ u. TSymbol symbol.Becomes ∷ u) (expr_tokens_are e false))
form_tokens_are (FIf e) = ap (λ u. TKey key.If ∷ u) (expr_tokens_are e false)
form_tokens_are (FFor name from l) = ap (λ u. TKey key.For ∷ TName name ∷ TNumber (decimal from) ∷ u) (limit_tokens_are l)
form_tokens_are (FSetRate name e) = ap (λ u. TKey key.Rate ∷ TName name ∷ TSymbol symbol.Becomes ∷ u) (expr_tokens_are e false)

pub form_apart : (lang : Dialect) (f : Form) → FormOk lang f → ApartTo lang (form_words f) []
unfolding words.sign
form_apart lang (FType name s) h = (key_writable lang key.Type, by_space, (h.0.writable, by_space, shape_apart lang s h.1 false [] tt))
form_apart lang (FTdf name) h = (key_writable lang key.Tdf, by_space, last_apart lang (TName name) h.writable (name_first lang h) false [] tt)
form_apart lang (FDe name) h = (key_writable lang key.De, by_space, last_apart lang (TName name) h.writable (name_first lang h) false [] tt)
form_apart lang (FComposite name) h = (key_writable lang key.Composite, by_space, last_apart lang (TName name) h.writable (name_first lang h) false [] tt)
form_apart lang (FEvent name) h = (key_writable lang key.Event, by_space, last_apart lang (TName name) h.writable (name_first lang h) false [] tt)
form_apart lang (FSensitive name) h = (key_writable lang key.Sensitive, by_space, last_apart lang (TName name) h.writable (name_first lang h) false [] tt)
form_apart lang FTop h = last_apart lang (TKey key.Top) (key_writable lang key.Top) (key_first key.Top) false [] tt
form_apart lang FEnd h = last_apart lang (TKey key.End) (key_writable lang key.End) (key_first key.End) false [] tt
form_apart lang FSetAttributes h = last_apart lang (TKey key.SetAttributes) (key_writable lang key.SetAttributes) (key_first key.SetAttributes) false [] tt
form_apart lang FInitialize h = last_apart lang (TKey key.Initialize) (key_writable lang key.Initialize) (key_first key.Initialize) false [] tt
form_apart lang FProcessing h = last_apart lang (TKey key.Processing) (key_writable lang key.Processing) (key_first key.Processing) false [] tt
form_apart lang FChangeAttributes h = last_apart lang (TKey key.ChangeAttributes) (key_writable lang key.ChangeAttributes) (key_first key.ChangeAttributes) false [] tt
form_apart lang FReinitialize h = last_apart lang (TKey key.Reinitialize) (key_writable lang key.Reinitialize) (key_first key.Reinitialize) false [] tt
form_apart lang FDoes h = last_apart lang (TKey key.DoesAttributeChanges) (key_writable lang key.DoesAttributeChanges) (key_first key.DoesAttributeChanges) false [] tt
form_apart lang FAccept h = last_apart lang (TKey key.AcceptAttributeChanges) (key_writable lang key.AcceptAttributeChanges) (key_first key.AcceptAttributeChanges) false [] tt
form_apart lang FReject h = last_apart lang (TKey key.RejectAttributeChanges) (key_writable lang key.RejectAttributeChanges) (key_first key.RejectAttributeChanges) false [] tt
form_apart lang FProcess h = last_apart lang (TKey key.Process) (key_writable lang key.Process) (key_first key.Process) false [] tt
form_apart lang FDontInitialize h = last_apart lang (TKey key.DontInitialize) (key_writable lang key.DontInitialize) (key_first key.DontInitialize) false [] tt
form_apart lang FElse h = last_apart lang (TKey key.Else) (key_writable lang key.Else) (key_first key.Else) false [] tt
form_apart lang (FPort kind name x) h = (key_writable lang (port_key kind), by_space, (h.0.writable, by_space, format_apart lang x h.1 false [] tt))
form_apart lang (FConst name x v) h = (key_writable lang key.Const, by_space, (h.0.writable, by_space, apart_append lang (format_words x true) (lit_words v false) [] (format_apart lang x h.1 true _ refl) (lit_apart lang v h.2 false [] tt)))
form_apart lang (FVar name x v) h = (key_writable lang key.Var, by_space, (h.0.writable, by_space, apart_append lang (format_words x true) (lit_words v false) [] (format_apart lang x h.1 true _ refl) (lit_apart lang v h.2 false [] tt)))
form_apart lang (FDeSignal name x v) h = (key_writable lang key.DeSignal, by_space, (h.0.writable, by_space, apart_append lang (format_words x true) (lit_words v false) [] (format_apart lang x h.1 true _ refl) (lit_apart lang v h.2 false [] tt)))
form_apart lang (FArray name x size vs) h = (key_writable lang key.Array, by_space, (h.0.writable, by_space, apart_append lang (format_words x true) (size_words size vs) [] (format_apart lang x h.1 true _ refl) (size_apart lang size vs h.2 h.3)))
form_apart lang (FRateVar name least greatest start) h = (key_writable lang key.Rate, by_space, (h.0.writable, by_space, (h.1.0, by_space, (h.2.0, by_space, last_apart lang (TNumber (decimal start)) h.3.0 h.3.1 false [] tt))))
form_apart lang (FStep port count) h = step_apart lang port count h
form_apart lang (FRate port l) h = (key_writable lang key.Rate, by_space, (h.0.writable, by_space, limit_apart lang l h.1))
form_apart lang (FDelay port count) h = (key_writable lang key.Delay, by_space, (h.0.writable, by_space, last_apart lang (TNumber (decimal count)) h.1.0 h.1.1 false [] tt))
form_apart lang (FInitial port place v) h = (key_writable lang key.Initial, by_space, (h.0.writable, by_space, (h.1.0, by_space, lit_apart lang v h.2 false [] tt)))
form_apart lang (FNotify event after) h = (key_writable lang key.Notify, by_space, (h.0.writable, by_space, (key_writable lang key.After, by_space, time_apart lang after h.1)))
form_apart lang (FSignal name x) h = (key_writable lang key.Signal, by_space, (h.0.writable, by_space, format_apart lang x h.1 false [] tt))
form_apart lang (FInstance name block) h = (key_writable lang key.Instance, by_space, (h.0.writable, by_space, last_apart lang (TName block) h.1.writable (name_first lang h.1) false [] tt))
form_apart lang (FBind instance port target) h = (key_writable lang key.Bind, by_space, (h.0.writable, by_point h.0.letter, (symbol_writable lang symbol.Point, by_dot, (h.1.writable, by_space, last_apart lang (TName target) h.2.writable (name_first lang h.2) false [] tt))))
form_apart lang (FTrace path label) h = (key_writable lang key.Trace, by_space, apart_append lang (path_words path true) (tight (TName label) ∷ []) [] (path_apart lang path h.0 true _ refl) (last_apart lang (TName label) h.1.writable (name_first lang h.1) false [] tt))
form_apart lang (FAssign name i e) h = apart_append lang (target_words name i) (loose (TSymbol symbol.Becomes) ∷ expr_words e false) [] (target_apart lang name i h.0 _) (symbol_writable lang symbol.Becomes, by_space, expr_apart lang e h.1 false [] tt)
form_apart lang (FIf e) h = (key_writable lang key.If, by_space, expr_apart lang e h false [] tt)
form_apart lang (FFor name from l) h = (key_writable lang key.For, by_space, (h.0.writable, by_space, (h.1.0, by_space, limit_apart lang l h.2)))
form_apart lang (FSetRate name e) h = (key_writable lang key.Rate, by_space, (h.0.writable, by_space, (symbol_writable lang symbol.Becomes, by_space, expr_apart lang e h.1 false [] tt)))
