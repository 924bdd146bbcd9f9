-- The two parts of the text of `drive`: a model and a table, with a line `stimulus` between them.
-- Source: own.
use Rattle.std.specs.Cmp.Lexicographic.{pointwise}
use Rattle.std.specs.List.{starts_with}
use Rattle.std.specs.Prelude.{ℕ, ◌+◌, Bool, true, ◌&&◌, ◌||◌, nat_eq, if◌then◌else◌, List, [], ◌∷◌, take, drop, codes}

-- the line `stimulus` begins a text; as its last line it may lack its LF
abbrev pub is_parted_here : List ℕ → Bool
is_parted_here text = starts_with nat_eq text (codes "stimulus\n")
    || pointwise nat_eq text (codes "stimulus")

-- the bytes before the first line `stimulus`: all, where there is none. A line begins with the
-- text, and after each LF.
unfoldable pub bytes_before : (begins : Bool) → List ℕ → ℕ
bytes_before begins [] = 0
bytes_before begins (c ∷ cs) = if begins && is_parted_here (c ∷ cs) then 0
    else bytes_before (nat_eq c 10) cs + 1

-- the model
abbrev pub model_part : List ℕ → List ℕ
model_part text = take (bytes_before true text) text

-- the table, behind that line, which has 9 bytes
abbrev pub table_part : List ℕ → List ℕ
table_part text = drop 9 (drop (bytes_before true text) text)
