-- Where the text of the model begins, as it is looked for: line by line.
-- Source: own.
use Rattle.std.specs.Prelude.{ℕ, zero, suc, ◌+◌, Bool, nat_eq, List, drop, codes, length}
use Rattle.std.specs.Prelude.{Option, Some, None, if◌then◌else◌}
use Rattle.std.specs.List.{position, starts_with}
use Rattle.tdf_save.specs.Start.{ends_a_line}

-- what comes of the first line, which ends before byte `end`: if it is that of the text, the place
-- after it, and else what the later lines give; none where no line ends
abbrev pub start_by_line : (place : ℕ) → (is_text : Bool) → (later : ℕ → Option ℕ)
    → (end : Option ℕ) → Option ℕ
start_by_line place is_text later None = None
start_by_line place is_text later (Some end) =
    if is_text then Some (place + (end + 1)) else later (end + 1)

-- the place after the first line that begins with `text `, where the text stands at a place, and
-- has no more lines than `room`
unfoldable pub text_start_in : (room : ℕ) → (place : ℕ) → List ℕ → Option ℕ
text_start_in zero place text = None
text_start_in (suc room) place text =
    start_by_line place (starts_with nat_eq text (codes "text "))
    (λ size. text_start_in room (place + size) (drop size text)) (position ends_a_line text)

-- none where there is no such line, or it doesn't end with LF
unfoldable pub text_start_of : List ℕ → Option ℕ
text_start_of text = text_start_in (length text) 0 text
