-- How the lines of a text are looked through (own). Private functions mirror it.
use Rattle.std.specs.Prelude.{ℕ, Bool, ◌&&◌, nat_le, nat_lt, List, length, Option, Some, None, cond}
use Rattle.tdf_base.specs.Limits.{longest_line}
use Rattle.tdf_lang_lexer.specs.declared.text.TextFault.{TextFault}
use Rattle.tdf_lang_lexer.specs.declared.text.TextFault.TheVariants.{LongLine}

-- the space and the other printable bytes of ASCII
abbrev pub is_printable : ℕ → Bool
is_printable byte = nat_le 32 byte && nat_le byte 126

-- the fault of a line whose bytes are all allowed
abbrev pub length_fault : ℕ → List ℕ → Option TextFault
length_fault number line = cond (nat_lt longest_line (length line)) (Some (LongLine number)) None
