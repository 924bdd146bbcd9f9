-- PATH: names joined by points (own).
use Rattle.std.specs.Prelude.{ℕ, List, [], ◌∷◌}
use Rattle.tdf_lang_lexer.specs.Token.{Tok, TName, TSymbol}
use Rattle.tdf_lang_lexer.specs.declared.key.Symbol.TheVariants as symbol

-- the tokens are a path
pub data SpellsPath : List Tok → List (List ℕ) → Type 0 where
  path_one : (name : List ℕ) → SpellsPath (TName name ∷ []) (name ∷ [])
  path_more : (name : List ℕ) {ts : List Tok} {names : List (List ℕ)} → SpellsPath ts names
      → SpellsPath (TName name ∷ TSymbol symbol.Point ∷ ts) (name ∷ names)

abbrev pub IsNoPath : List Tok → Type 0
IsNoPath ts = (names : List (List ℕ)) → SpellsPath ts names → ⊥
