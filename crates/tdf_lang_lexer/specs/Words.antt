-- The spellings of the reserved words and of the symbols (own).
use Rattle.std.specs.Prelude.{◌≡◌, ◌↔◌, ℕ, nat_eq, List, [], ◌∷◌, map, Option, Some, None, codes, if◌then◌else◌}
use Rattle.std.specs.Cmp.Lexicographic.{pointwise}
use Rattle.std.specs.List.{find}
use Rattle.tdf_lang_lexer.specs.declared.key.Key.{Key}
use Rattle.tdf_lang_lexer.specs.declared.key.Key.TheVariants as key
use Rattle.tdf_lang_lexer.specs.declared.key.Symbol.{Symbol}
use Rattle.tdf_lang_lexer.specs.declared.key.Symbol.TheVariants as symbol

unfoldable pub spelling : Key → List ℕ
spelling key.Language = codes "language"
spelling key.Type = codes "type"
spelling key.Tdf = codes "tdf"
spelling key.De = codes "de"
spelling key.Composite = codes "composite"
spelling key.Top = codes "top"
spelling key.End = codes "end"
spelling key.SetAttributes = codes "set_attributes"
spelling key.Initialize = codes "initialize"
spelling key.Processing = codes "processing"
spelling key.ChangeAttributes = codes "change_attributes"
spelling key.Reinitialize = codes "reinitialize"
spelling key.Process = codes "process"
spelling key.In = codes "in"
spelling key.Out = codes "out"
spelling key.DeIn = codes "de_in"
spelling key.DeOut = codes "de_out"
spelling key.Const = codes "const"
spelling key.Var = codes "var"
spelling key.Array = codes "array"
spelling key.Rate = codes "rate"
spelling key.Event = codes "event"
spelling key.Signal = codes "signal"
spelling key.DeSignal = codes "de_signal"
spelling key.Instance = codes "instance"
spelling key.Bind = codes "bind"
spelling key.Trace = codes "trace"
spelling key.Timestep = codes "timestep"
spelling key.Delay = codes "delay"
spelling key.Initial = codes "initial"
spelling key.DoesAttributeChanges = codes "does_attribute_changes"
spelling key.AcceptAttributeChanges = codes "accept_attribute_changes"
spelling key.RejectAttributeChanges = codes "reject_attribute_changes"
spelling key.Sensitive = codes "sensitive"
spelling key.DontInitialize = codes "dont_initialize"
spelling key.If = codes "if"
spelling key.Else = codes "else"
spelling key.For = codes "for"
spelling key.Notify = codes "notify"
spelling key.After = codes "after"
spelling key.And = codes "and"
spelling key.Or = codes "or"
spelling key.Not = codes "not"
spelling key.Select = codes "select"
spelling key.Fixed = codes "fixed"
spelling key.Ufixed = codes "ufixed"
spelling key.Trn = codes "trn"
spelling key.TrnZero = codes "trn_zero"
spelling key.Rnd = codes "rnd"
spelling key.RndZero = codes "rnd_zero"
spelling key.RndMinInf = codes "rnd_min_inf"
spelling key.RndInf = codes "rnd_inf"
spelling key.RndConv = codes "rnd_conv"
spelling key.Wrap = codes "wrap"
spelling key.Sat = codes "sat"
spelling key.SatZero = codes "sat_zero"
spelling key.SatSym = codes "sat_sym"

unfoldable pub sign : Symbol → List ℕ
sign symbol.Open = codes "("
sign symbol.Close = codes ")"
sign symbol.OpenSquare = codes "["
sign symbol.CloseSquare = codes "]"
sign symbol.Comma = codes ","
sign symbol.Point = codes "."
sign symbol.Plus = codes "+"
sign symbol.Minus = codes "-"
sign symbol.Times = codes "*"
sign symbol.ShiftLeft = codes "<<"
sign symbol.ShiftRight = codes ">>"
sign symbol.Less = codes "<"
sign symbol.AtMost = codes "<="
sign symbol.Equal = codes "=="
sign symbol.NotEqual = codes "!="
sign symbol.Greater = codes ">"
sign symbol.AtLeast = codes ">="
sign symbol.Becomes = codes "="

-- the reserved words, by the alphabet
abbrev pub all_keys : List Key
all_keys =
    key.AcceptAttributeChanges ∷ key.After ∷ key.And ∷ key.Array ∷ key.Bind ∷
    key.ChangeAttributes ∷ key.Composite ∷ key.Const ∷ key.De ∷ key.DeIn ∷ key.DeOut ∷
    key.DeSignal ∷ key.Delay ∷ key.DoesAttributeChanges ∷ key.DontInitialize ∷ key.Else ∷
    key.End ∷ key.Event ∷ key.Fixed ∷ key.For ∷ key.If ∷ key.In ∷ key.Initial ∷ key.Initialize ∷
    key.Instance ∷ key.Language ∷ key.Not ∷ key.Notify ∷ key.Or ∷ key.Out ∷ key.Process ∷
    key.Processing ∷ key.Rate ∷ key.Reinitialize ∷ key.RejectAttributeChanges ∷ key.Rnd ∷
    key.RndConv ∷ key.RndInf ∷ key.RndMinInf ∷ key.RndZero ∷ key.Sat ∷ key.SatSym ∷ key.SatZero ∷
    key.Select ∷ key.Sensitive ∷ key.SetAttributes ∷ key.Signal ∷ key.Tdf ∷ key.Timestep ∷
    key.Top ∷ key.Trace ∷ key.Trn ∷ key.TrnZero ∷ key.Type ∷ key.Ufixed ∷ key.Var ∷ key.Wrap ∷ []

abbrev pub all_symbols : List Symbol
all_symbols = symbol.Open ∷ symbol.Close ∷ symbol.OpenSquare ∷ symbol.CloseSquare ∷ symbol.Comma ∷ symbol.Point ∷ symbol.Plus ∷ symbol.Minus ∷ symbol.Times ∷ symbol.ShiftLeft ∷ symbol.ShiftRight ∷ symbol.Less ∷ symbol.AtMost ∷ symbol.Equal ∷ symbol.NotEqual ∷ symbol.Greater ∷ symbol.AtLeast ∷ symbol.Becomes ∷ []

-- the first word of a table that is spelled so
abbrev pub lookup : List (List ℕ × Key) → List ℕ → Option Key
lookup [] text = None
lookup (entry ∷ rest) text =
    if pointwise nat_eq text entry.0 then Some entry.1 else lookup rest text

-- the reserved word that is spelled so
unfoldable pub key_of : List ℕ → Option Key
key_of text = lookup (map (λ word. (spelling word, word)) all_keys) text

-- the symbol that is written so
unfoldable pub symbol_of : List ℕ → Option Symbol
symbol_of text = find (λ symbol. pointwise nat_eq text (sign symbol)) all_symbols

-- a piece is a reserved word exactly where it is spelled so
abbrev pub WordsAreRead : Type 0
WordsAreRead = (word : Key) (text : List ℕ) → (key_of text ≡ Some word) ↔ (text ≡ spelling word)

-- a piece is a symbol exactly where it is written so
abbrev pub SymbolsAreRead : Type 0
SymbolsAreRead = (mark : Symbol) (text : List ℕ) → (symbol_of text ≡ Some mark) ↔ (text ≡ sign mark)
