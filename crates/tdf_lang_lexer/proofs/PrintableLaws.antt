-- A line of printable bytes, which one look finds.
use Rattle.std.proofs.Common.{◌≡◌, ℕ, suc, ◌+◌, ◌<◌, Bool, true, false, List, [], ◌∷◌, length, take, drop, get_or, refl, arith}
use Rattle.std.proofs.lemmas.Bool.Decides.{nat_tests}
use Rattle.std.proofs.lemmas.List.Sums.{prefix_len-le-length, prefix_len_passes, position_or_len_is}
use Rattle.std.specs.List.{list_all, before_first, after_first, position_or_len, prefix_len}
use Rattle.tdf_lang_lexer.specs.Text.{is_allowed_byte, is_line_end, line_fault_of}
use Rattle.tdf_lang_lexer.specs.machine.Texts.{is_printable, length_fault}
use Rattle.tdf_lang_lexer.proofs.LongestLaws.{and_both}

no_end : (byte : ℕ) → is_printable byte ≡ true → is_line_end byte ≡ false
no_end byte h = grind (arith, nat_tests)

allowed : (byte : ℕ) → is_printable byte ≡ true → is_allowed_byte byte ≡ true
allowed byte h = grind (arith, nat_tests)

pub ended : {byte : ℕ} → byte ≡ 10 → is_line_end byte ≡ true
ended h = rw h refl

-- where the printable bytes end at a line's end
pub printable-end : (text : List ℕ) → (prefix_len is_printable text < length text → is_line_end (get_or text (prefix_len is_printable text) 0) ≡ true)
    → position_or_len is_line_end text ≡ prefix_len is_printable text
printable-end text h =
    position_or_len_is is_line_end text (prefix_len is_printable text) 0 (prefix_len-le-length is_printable text)
    (λ k l. no_end (get_or text k 0) (prefix_len_passes is_printable text k 0 l)) h

all_at : (byte : ℕ) (rest : List ℕ) (b : Bool) → is_printable byte ≡ b → list_all is_allowed_byte (take (prefix_len is_printable rest) rest) ≡ true
    → list_all is_allowed_byte (take (prefix_len is_printable (byte ∷ rest)) (byte ∷ rest)) ≡ true
all_at byte rest true e h =
    let f : 1 + prefix_len is_printable rest ≡ suc (prefix_len is_printable rest) = omega arith in
    rw (e, f) (and_both (is_allowed_byte byte) (list_all is_allowed_byte (take (prefix_len is_printable rest) rest)) (allowed byte e) h)
all_at byte rest false e h = rw e refl

pub printable-allowed : (text : List ℕ) → list_all is_allowed_byte (take (prefix_len is_printable text) text) ≡ true
printable-allowed [] = refl
printable-allowed (byte ∷ rest) = all_at byte rest (is_printable byte) refl (printable-allowed rest)

-- such a line's fault is that of its length
pub printable-fault : (number : ℕ) (text line : List ℕ) → (prefix_len is_printable text < length text → is_line_end (get_or text (prefix_len is_printable text) 0) ≡ true)
    → line ≡ take (prefix_len is_printable text) text → length_fault number line ≡ line_fault_of number (before_first is_line_end text)
printable-fault number text line h e = rw (printable-end text h, e, printable-allowed text) refl

pub printable-after : (text after : List ℕ) → (prefix_len is_printable text < length text → is_line_end (get_or text (prefix_len is_printable text) 0) ≡ true)
    → after ≡ drop (prefix_len is_printable text + 1) text → after ≡ after_first is_line_end text
printable-after text after h e = rw (printable-end text h) e

pub ruleset printable_laws = (prefix_len-le-length)
