-- Dotted paths.
-- Source: own.
use Rattle.std.specs.Prelude.{ℕ, List, ◌∷◌, ◌++◌, Option, Some, None}

-- the path of a name in what `front` is the path of; without a front, at the top of the model
abbrev pub path_in : Option (List ℕ) → List ℕ → List ℕ
path_in None name = name
path_in (Some front) name = front ++ 46 ∷ name
