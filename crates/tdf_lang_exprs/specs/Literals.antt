-- LIT and lists of them (own).
use Rattle.std.specs.Prelude.{ℕ, Bool, false, not, nat_eq, List, [], ◌∷◌, ◌++◌}
use Rattle.tdf_lang_lexer.specs.Token.{Tok, TNumber, TSymbol}
use Rattle.tdf_lang_lexer.specs.declared.key.Symbol.TheVariants as symbol
use Rattle.tdf_lang_tree.specs.declared.names.Lit.{Lit}
use Rattle.tdf_lang_exprs.specs.Numbers.{trimmed}

-- the text is 0
abbrev pub is_nought : List ℕ → Bool
is_nought (c ∷ []) = nat_eq c 48
is_nought _ = false

-- the number of a text, and the number below 0; zero has no sign
abbrev pub plain_lit : List ℕ → Lit
plain_lit text = record { minus = false; digits = trimmed text }

abbrev pub minus_lit : List ℕ → Lit
minus_lit text = record { minus = not (is_nought (trimmed text)); digits = trimmed text }

-- LIT: a number, or `-` and a number
pub data SpellsLit : List Tok → Lit → Type 0 where
  lit_plain : (text : List ℕ) → SpellsLit (TNumber text ∷ []) (plain_lit text)
  lit_minus : (text : List ℕ) → SpellsLit (TSymbol symbol.Minus ∷ TNumber text ∷ []) (minus_lit text)

-- any number of literals, one after another
pub data SpellsLits : List Tok → List Lit → Type 0 where
  lits_none : SpellsLits [] []
  lits_more : {a ts : List Tok} {x : Lit} {xs : List Lit} → SpellsLit a x → SpellsLits ts xs → SpellsLits (a ++ ts) (x ∷ xs)

abbrev pub IsNoLit : List Tok → Type 0
IsNoLit ts = (x : Lit) → SpellsLit ts x → ⊥

abbrev pub IsNoLits : List Tok → Type 0
IsNoLits ts = (xs : List Lit) → SpellsLits ts xs → ⊥
