-- SHAPE and FORMAT: number formats (own).
use Rattle.std.specs.Prelude.{◌≡◌, ℕ, Bool, true, false, List, [], ◌∷◌, Option, Some, None}
use Rattle.tdf_base.specs.Digits.{int_of}
use Rattle.tdf_fixed.specs.declared.over.Over.{Over}
use Rattle.tdf_fixed.specs.declared.over.Over.TheVariants.{Wrap, Sat, SatZero, SatSym}
use Rattle.tdf_fixed.specs.declared.quant.Quant.{Quant}
use Rattle.tdf_fixed.specs.declared.quant.Quant.TheVariants.{Trn, TrnZero, Rnd, RndZero, RndMinInf, RndInf, RndConv}
use Rattle.tdf_lang_lexer.specs.Token.{Tok, TName, TKey, TNumber}
use Rattle.tdf_lang_lexer.specs.declared.key.Key.{Key}
use Rattle.tdf_lang_lexer.specs.declared.key.Key.TheVariants as key
use Rattle.tdf_lang_tree.specs.declared.shapes.FormatRef.{FormatRef}
use Rattle.tdf_lang_tree.specs.declared.shapes.FormatRef.TheVariants.{Own, Named}
use Rattle.tdf_lang_tree.specs.declared.shapes.Shape.{Shape}

-- `fixed` is signed, `ufixed` is not
abbrev pub sign_of : Key → Option Bool
sign_of key.Fixed = Some true
sign_of key.Ufixed = Some false
sign_of _ = None

-- the word of a rounding
abbrev pub quant_of : Key → Option Quant
quant_of key.Trn = Some Trn
quant_of key.TrnZero = Some TrnZero
quant_of key.Rnd = Some Rnd
quant_of key.RndZero = Some RndZero
quant_of key.RndMinInf = Some RndMinInf
quant_of key.RndInf = Some RndInf
quant_of key.RndConv = Some RndConv
quant_of _ = None

-- the word of an overflow
abbrev pub over_of : Key → Option Over
over_of key.Wrap = Some Wrap
over_of key.Sat = Some Sat
over_of key.SatZero = Some SatZero
over_of key.SatSym = Some SatSym
over_of _ = None

-- the words after the widths: an absent rounding is `trn`, an absent overflow is `wrap`
pub data SpellsModes : List Tok → Quant → Over → Type 0 where
  modes_none : SpellsModes [] Trn Wrap
  modes_quant : (word : Key) {quant : Quant} → quant_of word ≡ Some quant → SpellsModes (TKey word ∷ []) quant Wrap
  modes_both : (word last : Key) {quant : Quant} {over : Over} → quant_of word ≡ Some quant → over_of last ≡ Some over
      → SpellsModes (TKey word ∷ TKey last ∷ []) quant over

-- the tokens are a shape
pub data SpellsShape : List Tok → Shape → Type 0 where
  shape : (word : Key) (first second : List ℕ) {signed : Bool} {wl iwl : ℕ} {ts : List Tok} {quant : Quant} {over : Over}
      → sign_of word ≡ Some signed → int_of first ≡ Some wl → int_of second ≡ Some iwl → SpellsModes ts quant over
      → SpellsShape (TKey word ∷ TNumber first ∷ TNumber second ∷ ts) (record { signed = signed; wl = wl; iwl = iwl; quant = quant; over = over })

-- the tokens are a format: a shape, or the name of one
pub data SpellsFormat : List Tok → FormatRef → Type 0 where
  format_own : {ts : List Tok} {s : Shape} → SpellsShape ts s → SpellsFormat ts (Own s)
  format_named : (name : List ℕ) → SpellsFormat (TName name ∷ []) (Named name)

-- the tokens are no shape, and no format
abbrev pub IsNoShape : List Tok → Type 0
IsNoShape ts = (s : Shape) → SpellsShape ts s → ⊥

abbrev pub IsNoFormat : List Tok → Type 0
IsNoFormat ts = (f : FormatRef) → SpellsFormat ts f → ⊥

-- no reserved word is first, as in what follows a format on a line
abbrev pub BeginsWithNoKey : List Tok → Type 0
BeginsWithNoKey (TKey word ∷ ts) = ⊥
BeginsWithNoKey _ = Unit {0}
