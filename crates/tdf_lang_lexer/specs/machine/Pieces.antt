-- Where the cutting of a line into pieces has come to (own). Private functions mirror it.
use Rattle.std.specs.Prelude.{ℕ, ◌+◌, ◌&&◌, nat_lt, List, drop, get_or, slice_range, cond}
use Rattle.std.specs.List.{prefix_len}
use Rattle.tdf_base.specs.Names.{is_part}
use Rattle.tdf_lang_lexer.specs.Pieces.{pieces_from}

-- the pieces of what is left of a line's code at a place, where the piece so far began at `from`
unfoldable pub pieces_left : List ℕ → ℕ → ℕ → List (List ℕ)
pieces_left code from place = pieces_from (slice_range code from place) (drop place code)

-- where the word that began at `from` ends, when it has come to a place
-- the place itself, where no word is begun
abbrev pub word_end : List ℕ → ℕ → ℕ → ℕ
word_end code from place =
    cond (nat_lt from place && is_part (get_or code from 0))
    (place + prefix_len is_part (drop place code)) place
