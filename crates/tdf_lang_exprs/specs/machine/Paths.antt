-- How paths are read (own). Private functions mirror it; `proofs/` show that it reads exactly what the relation says.
use Rattle.std.specs.Prelude.{ℕ, List, [], ◌∷◌, ◌++◌, Option, Some, None}
use Rattle.tdf_lang_lexer.specs.Token.{Tok, TName, TSymbol}
use Rattle.tdf_lang_lexer.specs.declared.key.Symbol.TheVariants as symbol

-- the names so far, and whether a name is wanted
pub data PathReading : Type 0 where
  WantName : List (List ℕ) → PathReading
  HaveName : List (List ℕ) → PathReading
  NoPath : PathReading

abbrev pub want_name : Tok → List (List ℕ) → PathReading
want_name (TName name) names = HaveName (names ++ name ∷ [])
want_name _ names = NoPath

abbrev pub have_name : Tok → List (List ℕ) → PathReading
have_name (TSymbol symbol.Point) names = WantName names
have_name _ names = NoPath

abbrev pub path_step : PathReading → Tok → PathReading
path_step (WantName names) t = want_name t names
path_step (HaveName names) t = have_name t names
path_step NoPath t = NoPath

abbrev pub path_end : PathReading → Option (List (List ℕ))
path_end (HaveName names) = Some names
path_end _ = None

abbrev pub path_run : PathReading → List Tok → Option (List (List ℕ))
path_run r [] = path_end r
path_run r (t ∷ ts) = path_run (path_step r t) ts

unfoldable pub path_of : List Tok → Option (List (List ℕ))
path_of ts = path_run (WantName []) ts
