-- How literals are read (own). Private functions mirror it; `proofs/` show that it reads exactly what the relations say.
use Rattle.std.specs.Prelude.{ℕ, List, [], ◌∷◌, ◌++◌, Option, Some, None}
use Rattle.tdf_lang_lexer.specs.Token.{Tok, TNumber, TSymbol}
use Rattle.tdf_lang_lexer.specs.declared.key.Symbol.{Symbol}
use Rattle.tdf_lang_lexer.specs.declared.key.Symbol.TheVariants as symbol
use Rattle.tdf_lang_tree.specs.declared.names.Lit.{Lit}
use Rattle.tdf_lang_exprs.specs.Literals.{plain_lit, minus_lit}

abbrev pub minus_of : Symbol → List ℕ → Option Lit
minus_of symbol.Minus text = Some (minus_lit text)
minus_of _ text = None

abbrev pub lit_of : List Tok → Option Lit
lit_of (TNumber text ∷ []) = Some (plain_lit text)
lit_of (TSymbol c ∷ (TNumber text ∷ [])) = minus_of c text
lit_of _ = None

-- the literals so far, and whether a number is wanted after `-`
pub data LitsReading : Type 0 where
  Ready : List Lit → LitsReading
  Signed : List Lit → LitsReading
  NoLits : LitsReading

abbrev pub ready : Tok → List Lit → LitsReading
ready (TNumber text) xs = Ready (xs ++ plain_lit text ∷ [])
ready (TSymbol symbol.Minus) xs = Signed xs
ready _ xs = NoLits

abbrev pub signed : Tok → List Lit → LitsReading
signed (TNumber text) xs = Ready (xs ++ minus_lit text ∷ [])
signed _ xs = NoLits

abbrev pub lits_step : LitsReading → Tok → LitsReading
lits_step (Ready xs) t = ready t xs
lits_step (Signed xs) t = signed t xs
lits_step NoLits t = NoLits

abbrev pub lits_end : LitsReading → Option (List Lit)
lits_end (Ready xs) = Some xs
lits_end _ = None

abbrev pub lits_run : LitsReading → List Tok → Option (List Lit)
lits_run r [] = lits_end r
lits_run r (t ∷ ts) = lits_run (lits_step r t) ts

unfoldable pub lits_of : List Tok → Option (List Lit)
lits_of ts = lits_run (Ready []) ts
