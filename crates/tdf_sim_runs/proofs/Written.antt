-- The rows that a run writes.
use Rattle.std.proofs.Common.{◌≡◌, ◌∙◌, ℕ, ◌-◌, ◌≤◌, List, [], ◌++◌, Option, ap, sym, subst, inl, inr, arith}
use Rattle.std.proofs.KnownBytes.{Appends-nil, Appends-trans}
use Rattle.std.proofs.lemmas.Bool.{cases_lt}
use Rattle.std.specs.Io.KnownBytes.{Appends}
use Rattle.tdf_io.proofs.Api.{front_more, front_none, front_then}
use Rattle.tdf_io.specs.Bytes.{AppendsFront}
use Rattle.tdf_trace_rows.proofs.Api.{text_none, text_same, text_split}
use Rattle.tdf_trace_rows.specs.Laws.{Agree}
use Rattle.tdf_trace_rows.specs.Rows.{Cells, text_from}
use Rattle.tdf_trace.specs.Writings.{AboutSeen, rows_text, writing_of}

-- no rows
pub rows_past : (about : AboutSeen) (g : Cells) (u v : ℕ) → v ≤ u → rows_text about g u v ≡ []
rows_past about g u v past = let z : v - u ≡ 0 = omega (arith, past) in ap (text_from (writing_of about).line g u) z ∙ text_none (writing_of about).line g u

pub none_taken : (about : AboutSeen) (g : Cells) (u v : ℕ) (taken : Option (List ℕ)) → v ≤ u → Appends taken taken (rows_text about g u v)
none_taken about g u v taken past = subst (λ (t : List ℕ). Appends taken taken t) (sym (rows_past about g u v past)) (Appends-nil taken)

-- the rows below a time at which cells agree are the same
pub rows_alike : (about : AboutSeen) (g h : Cells) (u v mark : ℕ) → Agree g h mark → u ≤ mark → v ≤ mark → rows_text about g u v ≡ rows_text about h u v
rows_alike about g h u v mark agree low high = elim (cases_lt u v) [
  | inl less ↦ text_same (writing_of about).line g h mark u (v - u) agree (omega (arith, less, high))
  | inr past ↦ rows_past about g u v past ∙ sym (rows_past about h u v past)
]

-- some rows and then more
pub rows_split : (about : AboutSeen) (g : Cells) (u v w : ℕ) → u ≤ v → v ≤ w → rows_text about g u w ≡ rows_text about g u v ++ rows_text about g v w
rows_split about g u v w low high = text_split (writing_of about).line g u v w low high

pub rows_then : (about : AboutSeen) (g h : Cells) (u v w : ℕ) (a b c : Option (List ℕ)) → u ≤ v → v ≤ w → Agree g h v
    → Appends a b (rows_text about g u v) → Appends b c (rows_text about h v w) → Appends a c (rows_text about h u w)
rows_then about g h u v w a b c low high agree one other =
    subst (λ (t : List ℕ). Appends a c t) (sym (rows_split about h u v w low high))
    (Appends-trans a b c (rows_text about h u v) (rows_text about h v w) (subst (λ (t : List ℕ). Appends a b t) (rows_alike about g h u v v agree low (omega arith)) one) other)

pub rows_part : (about : AboutSeen) (g h : Cells) (u v w : ℕ) (a b c : Option (List ℕ)) → u ≤ v → v ≤ w → Agree g h v
    → Appends a b (rows_text about g u v) → AppendsFront b c (rows_text about h v w) → AppendsFront a c (rows_text about h u w)
rows_part about g h u v w a b c low high agree one part =
    subst (λ (t : List ℕ). AppendsFront a c t) (sym (rows_split about h u v w low high))
    (front_then a b c (rows_text about h u v) (rows_text about h v w) (subst (λ (t : List ℕ). Appends a b t) (rows_alike about g h u v v agree low (omega arith)) one) part)

-- a front part of the rows below a mark is one of those below an end
pub rows_less : (about : AboutSeen) (g h : Cells) (u mark w : ℕ) (a b : Option (List ℕ)) → mark ≤ w → Agree g h mark
    → AppendsFront a b (rows_text about g u mark) → AppendsFront a b (rows_text about h u w)
rows_less about g h u mark w a b high agree part = elim (cases_lt mark u) [
  | inr low ↦ subst (λ (t : List ℕ). AppendsFront a b t) (sym (rows_split about h u mark w low high))
      (front_more a b (rows_text about h u mark) (rows_text about h mark w) (subst (λ (t : List ℕ). AppendsFront a b t) (rows_alike about g h u mark mark agree low (omega arith)) part))
  | inl past ↦ front_more a b [] (rows_text about h u w) (subst (λ (t : List ℕ). AppendsFront a b t) (rows_past about g u mark (omega (arith, past))) part)
]

pub none_front : (about : AboutSeen) (g : Cells) (u v : ℕ) (taken : Option (List ℕ)) → AppendsFront taken taken (rows_text about g u v)
none_front about g u v taken = front_none taken (rows_text about g u v)
