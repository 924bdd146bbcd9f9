-- The forms of the parts of a line, with no tree (own): what tokens a literal, an index, a format, a path or an expression may be.
use Rattle.std.specs.Prelude.{◌≡◌, ℕ, true, suc, Bool, List, [], ◌∷◌, ◌++◌, Some}
use Rattle.tdf_base.specs.Version.{has_multiples}
use Rattle.tdf_base.specs.declared.version.Version.{Version}
use Rattle.tdf_base.specs.Digits.{int_of}
use Rattle.tdf_fixed.specs.declared.over.Over.{Over}
use Rattle.tdf_fixed.specs.declared.quant.Quant.{Quant}
use Rattle.tdf_lang_lexer.specs.Token.{Tok, TName, TKey, TNumber, TSymbol}
use Rattle.tdf_lang_lexer.specs.declared.key.Key.{Key}
use Rattle.tdf_lang_lexer.specs.declared.key.Key.TheVariants as key
use Rattle.tdf_lang_lexer.specs.declared.key.Symbol.TheVariants as symbol
use Rattle.tdf_lang_tree.specs.declared.expr.Op.{Op}
use Rattle.tdf_lang_exprs.specs.Formats.{sign_of, quant_of, over_of}
use Rattle.tdf_lang_exprs.specs.SpellsExpr.{level, left_level, operator_token, shift_sign}

-- a text is a whole number
abbrev pub IsInt : List ℕ → Type 0
IsInt text = (n : ℕ) × (int_of text ≡ Some n)

pub data FitsLit : List Tok → Type 0 where
  fits_plain : (text : List ℕ) → FitsLit (TNumber text ∷ [])
  fits_minus : (text : List ℕ) → FitsLit (TSymbol symbol.Minus ∷ TNumber text ∷ [])

pub data FitsLits : List Tok → Type 0 where
  fits_none : FitsLits []
  fits_more : {a ts : List Tok} → FitsLit a → FitsLits ts → FitsLits (a ++ ts)

pub data FitsIndex (v : Version) : List Tok → Type 0 where
  fits_int : (text : List ℕ) → IsInt text → FitsIndex v (TNumber text ∷ [])
  fits_var : (name : List ℕ) → FitsIndex v (TName name ∷ [])
  fits_add : (name text : List ℕ) → IsInt text → FitsIndex v (TName name ∷ TSymbol symbol.Plus ∷ TNumber text ∷ [])
  fits_sub : (name text : List ℕ) → IsInt text → FitsIndex v (TName name ∷ TSymbol symbol.Minus ∷ TNumber text ∷ [])
  fits_from : (name text : List ℕ) → IsInt text → FitsIndex v (TNumber text ∷ TSymbol symbol.Minus ∷ TName name ∷ [])
  fits_times : has_multiples v ≡ true → (text name : List ℕ) → IsInt text
      → FitsIndex v (TNumber text ∷ TSymbol symbol.Times ∷ TName name ∷ [])
  fits_times_plus : has_multiples v ≡ true → (text name last : List ℕ) → IsInt text → IsInt last
      → FitsIndex v (TNumber text ∷ TSymbol symbol.Times ∷ TName name ∷ TSymbol symbol.Plus ∷ TNumber last ∷ [])

-- the words of a rounding and of an overflow, and those of a sign
abbrev pub IsSign : Key → Type 0
IsSign word = (signed : Bool) × (sign_of word ≡ Some signed)

abbrev pub IsQuant : Key → Type 0
IsQuant word = (quant : Quant) × (quant_of word ≡ Some quant)

abbrev pub IsOver : Key → Type 0
IsOver word = (over : Over) × (over_of word ≡ Some over)

pub data FitsModes : List Tok → Type 0 where
  fits_no_mode : FitsModes []
  fits_quant : (word : Key) → IsQuant word → FitsModes (TKey word ∷ [])
  fits_both : (word last : Key) → IsQuant word → IsOver last → FitsModes (TKey word ∷ TKey last ∷ [])

pub data FitsShape : List Tok → Type 0 where
  fits_shape : (word : Key) (first second : List ℕ) {ts : List Tok} → IsSign word → IsInt first → IsInt second → FitsModes ts
      → FitsShape (TKey word ∷ TNumber first ∷ TNumber second ∷ ts)

pub data FitsFormat : List Tok → Type 0 where
  fits_own : {ts : List Tok} → FitsShape ts → FitsFormat ts
  fits_named : (name : List ℕ) → FitsFormat (TName name ∷ [])

pub data FitsPath : List Tok → Type 0 where
  fits_one : (name : List ℕ) → FitsPath (TName name ∷ [])
  fits_step : (name : List ℕ) {ts : List Tok} → FitsPath ts → FitsPath (TName name ∷ TSymbol symbol.Point ∷ ts)

-- in version v an expression of level k or tighter
pub data FitsExpr (v : Version) : ℕ → List Tok → Type 0 where
  fits_number : (text : List ℕ) → FitsExpr v 7 (TNumber text ∷ [])
  fits_name : (name : List ℕ) → FitsExpr v 7 (TName name ∷ [])
  fits_item : (name : List ℕ) {a : List Tok} → FitsIndex v a → FitsExpr v 7 (TName name ∷ TSymbol symbol.OpenSquare ∷ (a ++ TSymbol symbol.CloseSquare ∷ []))
  fits_cast : (name : List ℕ) {a : List Tok} → FitsExpr v 0 a → FitsExpr v 7 (TName name ∷ TSymbol symbol.Open ∷ (a ++ TSymbol symbol.Close ∷ []))
  fits_select : {a b c : List Tok} → FitsExpr v 0 a → FitsExpr v 0 b → FitsExpr v 0 c
      → FitsExpr v 7 (TKey key.Select ∷ TSymbol symbol.Open ∷ (a ++ TSymbol symbol.Comma ∷ (b ++ TSymbol symbol.Comma ∷ (c ++ TSymbol symbol.Close ∷ []))))
  fits_parens : {a : List Tok} → FitsExpr v 0 a → FitsExpr v 7 (TSymbol symbol.Open ∷ (a ++ TSymbol symbol.Close ∷ []))
  fits_negation : {a : List Tok} → FitsExpr v 6 a → FitsExpr v 6 (TSymbol symbol.Minus ∷ a)
  fits_shift : (left : Bool) (text : List ℕ) {a : List Tok} → FitsExpr v 5 a → IsInt text → FitsExpr v 5 (a ++ shift_sign left ∷ TNumber text ∷ [])
  fits_contrary : {a : List Tok} → FitsExpr v 2 a → FitsExpr v 2 (TKey key.Not ∷ a)
  fits_binary : {k : ℕ} {a b : List Tok} (op : Op) → level op ≡ k → FitsExpr v (left_level op) a → FitsExpr v (suc k) b → FitsExpr v k (a ++ operator_token op ∷ b)
  fits_tighter : {k : ℕ} {a : List Tok} → FitsExpr v (suc k) a → FitsExpr v k a
