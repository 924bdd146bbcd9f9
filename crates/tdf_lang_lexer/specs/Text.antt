-- The bytes and the lines of a model text (own).
use Rattle.std.specs.Prelude.{◌≡◌, ◌↔◌, ℕ, ◌+◌, ◌<◌, Bool, false, ◌||◌, ◌&&◌, nat_eq, nat_le, nat_lt, List, [], ◌∷◌, ◌++◌, length, Option, Some, None, cond}
use Rattle.std.specs.List.{list_all, list_any}
use Rattle.tdf_base.specs.Limits.{longest_line}
use Rattle.tdf_lang_lexer.specs.declared.text.TextFault.{TextFault}
use Rattle.tdf_lang_lexer.specs.declared.text.TextFault.TheVariants.{Byte, LongLine}

-- a byte that a text may hold: LF, TAB, the space and the printable bytes of ASCII
abbrev pub is_allowed_byte : ℕ → Bool
is_allowed_byte byte = nat_eq byte 10 || nat_eq byte 9 || (nat_le 32 byte && nat_le byte 126)

abbrev pub is_line_end : ℕ → Bool
is_line_end byte = nat_eq byte 10

-- a list of one, or of none where it is empty
abbrev pub unless_empty : List ℕ → List (List ℕ)
unless_empty [] = []
unless_empty (byte ∷ rest) = (byte ∷ rest) ∷ []

-- the lines of what is left of a text, where `now` is the line so far
unfoldable pub lines_from : List ℕ → List ℕ → List (List ℕ)
lines_from now [] = unless_empty now
lines_from now (byte ∷ rest) = cond (is_line_end byte) (now ∷ lines_from [] rest) (lines_from (now ++ byte ∷ []) rest)

-- the lines of a text, without the LF that ends each; what follows the last LF is a line where it isn't empty
unfoldable pub lines_of : List ℕ → List (List ℕ)
lines_of text = lines_from [] text

-- the lines of a text, said without a scan
pub data IsLines : List ℕ → List (List ℕ) → Type 0 where
  no_line : IsLines [] []
  last_line : (line : List ℕ) → 0 < length line → list_any is_line_end line ≡ false → IsLines line (line ∷ [])
  line_end : (line rest : List ℕ) {lines : List (List ℕ)} → list_any is_line_end line ≡ false → IsLines rest lines → IsLines (line ++ 10 ∷ rest) (line ∷ lines)

-- each text has the lines that `lines_of` gives, and no others
abbrev pub LinesAreText : Type 0
LinesAreText = (text : List ℕ) (lines : List (List ℕ)) → IsLines text lines ↔ (lines ≡ lines_of text)

-- the fault of line `number`: a byte that isn't allowed, and else more bytes than a line may have
abbrev pub line_fault_of : ℕ → List ℕ → Option TextFault
line_fault_of number line = cond (list_all is_allowed_byte line) (cond (nat_lt longest_line (length line)) (Some (LongLine number)) None) (Some (Byte number))

-- the first of two answers, else the second
abbrev pub first_found : {A : Type 0} → Option A → Option A → Option A
first_found None second = second
first_found (Some first) second = Some first

-- the fault of the least line that has one, where the first line is `number`
unfoldable pub first_fault : ℕ → List (List ℕ) → Option TextFault
first_fault number [] = None
first_fault number (line ∷ rest) = first_found (line_fault_of number line) (first_fault (number + 1) rest)

unfoldable pub fault_of : List ℕ → Option TextFault
fault_of text = first_fault 1 (lines_of text)
