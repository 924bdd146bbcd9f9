-- Words of a line, each after one space.
-- Source: own.
use Rattle.std.specs.Prelude.{ℕ, zero, suc, Bool, nat_eq, List, [], ◌∷◌, ◌++◌, length, drop}
use Rattle.std.specs.List.{before_first, position_or_len}

abbrev pub is_blank : ℕ → Bool
is_blank byte = nat_eq byte 32

-- words, each after one space
unfoldable pub spaced : List (List ℕ) → List ℕ
spaced [] = []
spaced (word ∷ words) = 32 ∷ (word ++ spaced words)

-- the words of such a text, each up to the next space; `room` is enough of them
unfoldable pub words_in : (room : ℕ) → List ℕ → List (List ℕ)
words_in zero text = []
words_in (suc room) [] = []
words_in (suc room) (c ∷ text) = before_first is_blank text
    ∷ words_in room (drop (position_or_len is_blank text) text)

-- the words of such a text, of which there are no more than bytes
unfoldable pub words_of : List ℕ → List (List ℕ)
words_of text = words_in (length text) text
