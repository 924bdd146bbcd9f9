-- Where the text of the model begins in the text of a snapshot.
-- Source: own.
use Rattle.std.specs.Prelude.{◌≡◌, ℕ, ◌+◌, Bool, true, false, nat_eq, List, [], ◌∷◌, ◌++◌, codes, length}
use Rattle.std.specs.List.{AllByRecursion, flat_map, list_any, starts_with}

abbrev pub ends_a_line : ℕ → Bool
ends_a_line byte = nat_eq byte 10

-- bytes without an LF
abbrev pub IsInLine : List ℕ → Type 0
IsInLine line = list_any ends_a_line line ≡ false

abbrev pub names_text : (line : List ℕ) → Bool
names_text line = starts_with nat_eq line (codes "text ")

-- a line that begins with `text `
pub record IsTextLine (line : List ℕ) : Type 0 where
  pub plain : IsInLine line
  pub names : names_text line ≡ true

-- a line that begins otherwise
pub record IsOtherLine (line : List ℕ) : Type 0 where
  pub plain : IsInLine line
  pub names : names_text line ≡ false

-- lines, each ended by LF
abbrev pub ended : List (List ℕ) → List ℕ
ended lines = flat_map (λ line. line ++ 10 ∷ []) lines

-- `place` is the one after the first line that begins with `text `, where that ends with LF
pub record IsTextStart (text : List ℕ) (place : ℕ) : Type 0 where
  pub before : List (List ℕ)
  pub line : List ℕ
  pub rest : List ℕ
  pub is : text ≡ ended before ++ (line ++ (10 ∷ rest))
  pub others : AllByRecursion IsOtherLine before
  pub own : IsTextLine line
  pub after : place ≡ length (ended before) + (length line + 1)
