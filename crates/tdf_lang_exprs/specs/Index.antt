-- INDEX: a whole number, a loop variable, or the sum or difference of both; from version 2 on also a multiple of a loop
-- variable, with or without a whole number added (own).
use Rattle.std.specs.Prelude.{◌≡◌, ℕ, true, List, [], ◌∷◌, Some}
use Rattle.tdf_base.specs.Version.{has_multiples}
use Rattle.tdf_base.specs.declared.version.Version.{Version}
use Rattle.tdf_base.specs.Digits.{int_of}
use Rattle.tdf_lang_lexer.specs.Token.{Tok, TName, TNumber, TSymbol}
use Rattle.tdf_lang_lexer.specs.declared.key.Symbol.TheVariants as symbol
use Rattle.tdf_lang_tree.specs.declared.expr.Index.{Index}
use Rattle.tdf_lang_tree.specs.declared.expr.Index.TheVariants as index

-- in version v the tokens are an index
pub data SpellsIndex (v : Version) : List Tok → Index → Type 0 where
  index_int : (text : List ℕ) {n : ℕ} → int_of text ≡ Some n → SpellsIndex v (TNumber text ∷ []) (index.Int n)
  index_var : (name : List ℕ) → SpellsIndex v (TName name ∷ []) (index.Var name)
  index_plus : (name text : List ℕ) {n : ℕ} → int_of text ≡ Some n
      → SpellsIndex v (TName name ∷ TSymbol symbol.Plus ∷ TNumber text ∷ []) (index.Plus name n)
  index_minus : (name text : List ℕ) {n : ℕ} → int_of text ≡ Some n
      → SpellsIndex v (TName name ∷ TSymbol symbol.Minus ∷ TNumber text ∷ []) (index.Minus name n)
  index_from : (name text : List ℕ) {n : ℕ} → int_of text ≡ Some n
      → SpellsIndex v (TNumber text ∷ TSymbol symbol.Minus ∷ TName name ∷ []) (index.From n name)
  index_times : has_multiples v ≡ true → (text name : List ℕ) {n : ℕ} → int_of text ≡ Some n
      → SpellsIndex v (TNumber text ∷ TSymbol symbol.Times ∷ TName name ∷ []) (index.Times n name)
  index_times_plus : has_multiples v ≡ true → (text name last : List ℕ) {n m : ℕ} → int_of text ≡ Some n → int_of last ≡ Some m
      → SpellsIndex v
      (TNumber text ∷ TSymbol symbol.Times ∷ TName name ∷ TSymbol symbol.Plus ∷ TNumber last ∷ [])
      (index.TimesPlus n name m)

-- in version v the tokens are no index
abbrev pub IsNoIndex : Version → List Tok → Type 0
IsNoIndex v ts = (i : Index) → SpellsIndex v ts i → ⊥
