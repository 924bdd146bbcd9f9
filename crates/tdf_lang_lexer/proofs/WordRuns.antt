-- The bytes of a word, one after another.
use Rattle.std.proofs.Common.{◌≡◌, ℕ, zero, suc, ◌+◌, ◌-◌, ◌<◌, ◌≤◌, Bool, true, false, List, ◌∷◌, length, take, drop, get_or, refl, ap, sym, ◌∙◌, cond, subst, ◌&&◌, arith, length-drop}
use Rattle.std.proofs.lemmas.Bool.Decides.{nat_tests}
use Rattle.std.proofs.lemmas.List.{get_or-drop, take_rest}
use Rattle.std.proofs.lemmas.List.Sums.{prefix_len-le-length, prefix_len_passes}
use Rattle.std.specs.List.{prefix_len}
use Rattle.std.specs.Prelude.{nat_lt, slice_range}
use Rattle.tdf_base.specs.Names.{is_part}
use Rattle.tdf_lang_lexer.specs.Pieces.{joins}
use Rattle.tdf_lang_lexer.specs.machine.Pieces.{pieces_left, word_end}
use Rattle.tdf_lang_lexer.proofs.LongestLaws.{and_left, and_right, joins_part}
use Rattle.tdf_lang_lexer.proofs.PieceLaws.{drop-more, left-joins}

-- a piece that is begun has the byte where it began
slice_range-first : (k : ℕ) (xs : List ℕ) (a i : ℕ) → i - a ≡ suc k → a < length xs → slice_range xs a i ≡ get_or xs a 0 ∷ take k (drop (a + 1) xs)
slice_range-first k xs a i e h = rw (e, drop-more xs a h) refl

word-joins : (code : List ℕ) (from i : ℕ) → from < i → i < length code → is_part (get_or code from 0) ≡ true → is_part (get_or code i 0) ≡ true
    → joins (slice_range code from i) (get_or code i 0) (drop (i + 1) code) ≡ true
word-joins code from i h k e f =
    let size : i - from ≡ suc (i - from - 1) = omega (arith, h) in
    subst (λ (now : List ℕ). joins now (get_or code i 0) (drop (i + 1) code) ≡ true) (sym (slice_range-first (i - from - 1) code from i size (omega (arith, h, k))))
    (joins_part (get_or code from 0) (get_or code i 0) (take (i - from - 1) (drop (from + 1) code)) (drop (i + 1) code) e f)

left-run : (n : ℕ) (code : List ℕ) (from at : ℕ) → from < at → at ≤ length code → is_part (get_or code from 0) ≡ true
    → n ≤ prefix_len is_part (drop at code) → pieces_left code from (at + n) ≡ pieces_left code from at
left-run zero code from at h k e l = let f : at + 0 ≡ at = omega arith in rw f refl
left-run (suc n) code from at h k e l =
    let few : prefix_len is_part (drop at code) ≤ length (drop at code) = prefix_len-le-length is_part (drop at code) in
    let room : at + n < length code = omega (arith, k, l, few, length-drop at code) in
    let part : is_part (get_or code (at + n) 0) ≡ true =
    subst (λ (b : ℕ). is_part b ≡ true) (get_or-drop at code n 0) (prefix_len_passes is_part (drop at code) n 0 (omega (arith, l))) in
    let more : at + suc n ≡ at + n + 1 = omega arith in
    ap (pieces_left code from) more
    ∙ sym (left-joins code from (at + n) (omega (arith, h)) room (word-joins code from (at + n) (omega (arith, h)) room e part))
    ∙ left-run n code from at h k e (omega (arith, l))

-- from a place to the end of the word is a part of one piece
pub record WordEnds (code : List ℕ) (from at end : ℕ) : Type 0 where
  pub same : pieces_left code from end ≡ pieces_left code from at
  pub begun : at ≤ end
  pub within : end ≤ length code

ends_at : (code : List ℕ) (from at : ℕ) (b : Bool) → from ≤ at → at ≤ length code → nat_lt from at && is_part (get_or code from 0) ≡ b
    → WordEnds code from at (cond b (at + prefix_len is_part (drop at code)) at)
ends_at code from at true h k e =
    let some : nat_lt from at ≡ true = and_left (nat_lt from at) (is_part (get_or code from 0)) e in
    let room : from < at = grind (arith, nat_tests) in
    let few : prefix_len is_part (drop at code) ≤ length (drop at code) = prefix_len-le-length is_part (drop at code) in
    record {
      same = left-run (prefix_len is_part (drop at code)) code from at room k (and_right (nat_lt from at) (is_part (get_or code from 0)) e) (omega arith);
      begun = omega arith;
      within = omega (arith, k, few, length-drop at code);
    }
ends_at code from at false h k e = record { same = refl; begun = omega arith; within = k }

pub word-ends : (code : List ℕ) (from at : ℕ) → from ≤ at → at ≤ length code → WordEnds code from at (word_end code from at)
word-ends code from at h k = ends_at code from at (nat_lt from at && is_part (get_or code from 0)) h k refl

pub ruleset run_laws = (prefix_len-le-length, take_rest)
