-- The first fault of a text's bytes and line lengths, said without a scan (own).
use Rattle.std.specs.Prelude.{◌≡◌, ◌↔◌, ℕ, ◌+◌, Bool, true, ◌&&◌, nat_le, List, ◌∷◌, ◌++◌, length, Some, None}
use Rattle.std.specs.List.{list_all}
use Rattle.tdf_base.specs.Limits.{longest_line}
use Rattle.tdf_lang_lexer.specs.Text.{is_allowed_byte, line_fault_of, fault_of, IsLines}
use Rattle.tdf_lang_lexer.specs.declared.text.TextFault.{TextFault}

-- a line without a fault: each byte is allowed, and they are few enough
abbrev pub is_faultless : List ℕ → Bool
is_faultless line = list_all is_allowed_byte line && nat_le (length line) longest_line

-- the first fault of some lines: that of a line before which no line has one; lines are numbered
-- from 1
pub record IsFirstTextFault (lines : List (List ℕ)) (fault : TextFault) : Type 0 where
  pub before : List (List ℕ)
  pub line : List ℕ
  pub after : List (List ℕ)
  pub split : lines ≡ before ++ line ∷ after
  pub clean : list_all is_faultless before ≡ true
  pub has : line_fault_of (1 + length before) line ≡ Some fault

-- `fault_of` names the first fault of the text's lines, whatever it is
abbrev pub FaultsAreFirst : Type 0
FaultsAreFirst = (text : List ℕ) (lines : List (List ℕ)) (fault : TextFault) → IsLines text lines
    → (fault_of text ≡ Some fault) ↔ IsFirstTextFault lines fault

-- and none exactly where no line has one
abbrev pub NoFaultIsClean : Type 0
NoFaultIsClean = (text : List ℕ) (lines : List (List ℕ)) → IsLines text lines
    → (fault_of text ≡ None) ↔ (list_all is_faultless lines ≡ true)
