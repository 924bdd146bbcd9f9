-- The rest of a trace, by cells that agree below the end.
use Rattle.std.proofs.Common.{◌≡◌, ◌∙◌, ℕ, ◌-◌, Option, List, ◌++◌, Result, ap, subst, sym, inl, inr, arith}
use Rattle.std.proofs.lemmas.Bool.{cases_lt}
use Rattle.tdf_trace.specs.Calls.{StandBelow}
use Rattle.tdf_io.specs.Bytes.{WritesText}
use Rattle.tdf_io.specs.declared.writing.SinkErr.{SinkErr}
use Rattle.tdf_trace_rows.proofs.Api.{text_none, text_same}
use Rattle.tdf_trace_rows.specs.Laws.{Agree}
use Rattle.tdf_trace_rows.specs.Rows.{Cells, text_from}
use Rattle.tdf_trace.specs.Stands.{TraceSeen, WritesRest}
use Rattle.tdf_trace.specs.Writings.{AboutSeen, rest_text, rows_text, writing_of}

-- cells that agree below an end have the same rows below it
pub rows_same : (about : AboutSeen) (one other : Cells) (from end : ℕ) → Agree one other end → rows_text about one from end ≡ rows_text about other from end
rows_same about one other from end agree = elim (cases_lt end from) [
  | inl past ↦ (let z : end - from ≡ 0 = omega (arith, past) in
      ap (text_from (writing_of about).line one from) z ∙ text_none (writing_of about).line one from
      ∙ sym (ap (text_from (writing_of about).line other from) z ∙ text_none (writing_of about).line other from))
  | inr low ↦ text_same (writing_of about).line one other end from (end - from) agree (omega (arith, low))
]

-- what writes the rest of a trace that stands for such cells writes that of these
pub writes_rest : {S T : Type 0} (taken : S → Option (List ℕ)) (faults : S → ℕ) (old new : S) (about : AboutSeen) (upto : ℕ) (trace : TraceSeen) (cells : Cells) (end : ℕ) (result : Result T SinkErr)
    → trace.about ≡ about → trace.rows.upto ≡ upto → StandBelow cells end trace.rows → WritesRest taken faults old new trace end result
    → WritesText taken faults old new (rest_text about cells upto end) result
writes_rest taken faults old new about upto trace cells end result about_is upto_is stand wrote =
    subst (λ (text : List ℕ). WritesText taken faults old new text result)
    (ap (λ (text : List ℕ). text ++ (writing_of trace.about).tail end) (rows_same trace.about stand.noted cells trace.rows.upto end stand.agree)
    ∙ ap (λ (a : AboutSeen). rest_text a cells trace.rows.upto end) about_is ∙ ap (λ n. rest_text about cells n end) upto_is)
    (wrote stand.noted stand.stand)
