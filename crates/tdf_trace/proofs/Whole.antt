-- The text of a trace, from its parts.
use Rattle.std.proofs.Common.{List, ◌≡◌, ℕ, ◌-◌, ◌<◌, ◌≤◌, false, [], ◌++◌, append_assoc, append-nil, ap, sym, ◌∙◌, inl, inr, arith, Option, Result, Ok, subst}
use Rattle.std.specs.Io.KnownBytes.{Appends}
use Rattle.tdf_io.proofs.Api.{front_more, front_then, writes_then}
use Rattle.tdf_io.specs.Bytes.{AppendsFront, WritesText}
use Rattle.tdf_io.specs.declared.writing.SinkErr.{SinkErr}
use Rattle.std.proofs.lemmas.Bool.{cases_lt}
use Rattle.tdf_trace_rows.proofs.Api.{text_none, text_split, without_row}
use Rattle.tdf_trace_rows.specs.Rows.{Cells, Line, is_row, text_from, trace_text}
use Rattle.tdf_trace.specs.Writings.{AboutSeen, head_of, rest_text, rows_text, writing_of, written_text}

-- the rows below an end are those up to a time and the others
rows_whole : (about : AboutSeen) (g : Cells) (upto end : ℕ) → ((t : ℕ) → end ≤ t → t < upto → is_row g t ≡ false)
    → rows_text about g 0 upto ++ rows_text about g upto end ≡ text_from (writing_of about).line g 0 end
rows_whole about g upto end none = elim (cases_lt end upto) [
  | inl past ↦ (let line = (writing_of about).line in
      let e : end - upto ≡ 0 = omega (arith, past) in
      let z : text_from line g end (upto - end) ≡ [] = without_row line g end (upto - end) (λ t low high. none t low (omega (arith, high, past))) in
      let rest : text_from line g upto (end - upto) ≡ [] = ap (text_from line g upto) e ∙ text_none line g upto in
      ap (λ u. u ++ text_from line g upto (end - upto)) (text_split line g 0 end upto (omega arith) (omega (arith, past)) ∙ ap (λ u. text_from line g 0 (end - 0) ++ u) z ∙ append-nil (text_from line g 0 (end - 0)))
      ∙ ap (λ u. text_from line g 0 (end - 0) ++ u) rest ∙ append-nil (text_from line g 0 (end - 0)) ∙ whole line)
  | inr low ↦ (let line = (writing_of about).line in sym (text_split line g 0 upto end (omega arith) low) ∙ whole line)
]
  where
    whole : (line : Line) → text_from line g 0 (end - 0) ≡ text_from line g 0 end
    whole line = let e : end - 0 ≡ end = omega arith in ap (text_from line g 0) e

pub makes_whole : (about : AboutSeen) (g : Cells) (upto end : ℕ) → ((t : ℕ) → end ≤ t → t < upto → is_row g t ≡ false)
    → written_text about g upto ++ rest_text about g upto end ≡ trace_text (writing_of about) g end
makes_whole about g upto end none =
    let head = (writing_of about).head in let tail = (writing_of about).tail end in
    append_assoc head (rows_text about g 0 upto) (rows_text about g upto end ++ tail)
    ∙ ap (λ u. head ++ u) (sym (append_assoc (rows_text about g 0 upto) (rows_text about g upto end) tail))
    ∙ ap (λ u. head ++ (u ++ tail)) (rows_whole about g upto end none)
    ∙ sym (append_assoc head (text_from (writing_of about).line g 0 end) tail)

-- before any row
pub written_none : (about : AboutSeen) (g : Cells) → written_text about g 0 ≡ head_of about
written_none about g = let z : 0 - 0 ≡ 0 = omega arith in
    ap (λ n. head_of about ++ text_from (writing_of about).line g 0 n) z ∙ ap (λ u. head_of about ++ u) (text_none (writing_of about).line g 0) ∙ append-nil (head_of about)

-- and some rows more
pub written_more : (about : AboutSeen) (g : Cells) (x y : ℕ) → x ≤ y → written_text about g x ++ rows_text about g x y ≡ written_text about g y
written_more about g x y low = append_assoc (head_of about) (rows_text about g 0 x) (rows_text about g x y)
    ∙ ap (λ u. head_of about ++ u) (sym (text_split (writing_of about).line g 0 x y (omega arith) low))

-- a front part of the head is one of the whole text
pub head_front : (about : AboutSeen) (g : Cells) (end : ℕ) (a b : Option (List ℕ)) → AppendsFront a b (head_of about) → AppendsFront a b (trace_text (writing_of about) g end)
head_front about g end a b part = subst (λ (u : List ℕ). AppendsFront a b u)
    (sym (append_assoc (head_of about) (text_from (writing_of about).line g 0 end) ((writing_of about).tail end)))
    (front_more a b (head_of about) (text_from (writing_of about).line g 0 end ++ (writing_of about).tail end) part)

-- and so is a front part of the rows below a time up to the end, after what is written
pub rows_front : (about : AboutSeen) (g : Cells) (upto limit end : ℕ) (a b d : Option (List ℕ)) → upto ≤ limit → limit ≤ end
    → Appends a b (written_text about g upto) → AppendsFront b d (rows_text about g upto limit) → AppendsFront a d (trace_text (writing_of about) g end)
rows_front about g upto limit end a b d low high wrote part =
    let tail = (writing_of about).tail end in
    let first : AppendsFront a d (written_text about g upto ++ rows_text about g upto limit) = front_then a b d (written_text about g upto) (rows_text about g upto limit) wrote part in
    let second : AppendsFront a d (written_text about g limit) = subst (λ (u : List ℕ). AppendsFront a d u) (written_more about g upto limit low) first in
    subst (λ (u : List ℕ). AppendsFront a d u) (makes_whole about g limit end (λ t up down. absurd (omega (arith, up, down, high))))
    (front_more a d (written_text about g limit) (rest_text about g limit end) second)

-- the rest after what is written is the whole
pub writes_whole : {S T U : Type 0} (taken : S → Option (List ℕ)) (faults : S → ℕ) (a b d : S) (about : AboutSeen) (g : Cells) (upto end : ℕ) (value : U) (result : Result T SinkErr)
    → ((t : ℕ) → end ≤ t → t < upto → is_row g t ≡ false) → WritesText taken faults a b (written_text about g upto) (Ok value) → WritesText taken faults b d (rest_text about g upto end) result
    → WritesText taken faults a d (trace_text (writing_of about) g end) result
writes_whole taken faults a b d about g upto end value result none first rest =
    subst (λ (u : List ℕ). WritesText taken faults a d u result) (makes_whole about g upto end none)
    (writes_then taken faults a b d (written_text about g upto) (rest_text about g upto end) value result first rest)
