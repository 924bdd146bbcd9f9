-- A list up to the end of its line.
-- Source: own.
use Rattle.std.specs.Prelude.{ℕ, List, [], ◌∷◌, ◌++◌, map}
use Rattle.tdf_save.specs.Text.{after_spaces}

-- words, each after one space, and LF
unfoldable pub list_text : {V : Type 0} → (V → List ℕ) → List V → List ℕ
list_text word vs = after_spaces (map word vs) ++ 10 ∷ []
