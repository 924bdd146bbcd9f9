-- Positions of a column lie before the end of its last period.
use Rattle.std.proofs.Common.{◌≡◌, ◌∙◌, ◌<◌, ◌≤◌, ◌+◌, ◌-◌, ◌*◌, ◌/◌, ◌%◌, ◌++◌, ◌&&◌, ℕ, zero, suc, Bool, true, false, nat_le, nat_lt, if◌then◌else◌, Option, Some, None, option_map, List, [], ◌∷◌, length, refl, ap, sym, subst, inl, inr, arith}
use Rattle.std.proofs.Math.Nat.{add-mul, div-mul-le_self, mul_comm}
use Rattle.std.proofs.lemmas.Bool.{cases_lt, le-ltb, ltb-true}
use Rattle.tdf_bind_connections.specs.declared.modules.PortRow.{PortRow}
use Rattle.tdf_sim_history.proofs.Api.{column_push}
use Rattle.tdf_sim_history.specs.Cells.{column_spans}
use Rattle.tdf_sim_history.specs.Columns.{ColumnStart, span_after, spans_to}
use Rattle.tdf_sim_history.specs.WorldLaws.{HoldsFirst}
use Rattle.tdf_streams.proofs.Api.{none_some}
use Rattle.tdf_streams.specs.Periods.{PeriodRecord}
use Rattle.tdf_streams.specs.Signals.{positions, step_in, time_of_periods}
use Rattle.tdf_trace_rows.specs.Positions.{AreChained, Span, place_in_span, position_at, span_end, span_of}

-- ---- chains

chain_end : (b : ℕ) (early : List Span) (last : Span) → AreChained b (early ++ last ∷ []) → b ≤ span_end last
unfolding AreChained
chain_end b [] last c = let e = c.0 in omega (arith, e)
chain_end b (p ∷ ps) last c = let r = chain_end (span_end p) ps last c.2 in let e = c.0 in omega (arith, r, e)

neither : {A : Type 0} (p q : Bool) (x y : A) → q ≡ false → (if p && q then x else y) ≡ y
neither true q x y off = ap (λ b. if b then x else y) off
neither false q x y off = refl

pub before_end : (b first : ℕ) (early : List Span) (last : Span) (t j : ℕ) → AreChained b (early ++ last ∷ []) → position_at first (early ++ last ∷ []) t ≡ Some j → t < span_end last
unfolding AreChained position_at
before_end b first [] last t j c at = elim (cases_lt t (span_end last)) [
  | inl low ↦ low
  | inr high ↦ none_some j (sym (neither (nat_le last.start t) (nat_lt t (span_end last)) (option_map (λ place. first + place) (place_in_span last t)) None (le-ltb t (span_end last) high)) ∙ at)
]
before_end b first (p ∷ ps) last t j c at = elim (cases_lt t (span_end p)) [
  | inl low ↦ (let r = chain_end (span_end p) ps last c.2 in omega (arith, low, r))
  | inr high ↦ before_end (span_end p) (first + p.count) ps last t j c.2
      (sym (neither (nat_le p.start t) (nat_lt t (span_end p)) (option_map (λ place. first + place) (place_in_span p t)) (position_at (first + p.count) (ps ++ last ∷ []) t) (le-ltb t (span_end p) high)) ∙ at)
]

-- ---- columns

-- spans whose last one ends before a time or at it
pub record EndsBy (spans : List Span) (limit : ℕ) : Type 0 where
  pub early : List Span
  pub last : Span
  pub is : spans ≡ early ++ last ∷ []
  pub within : span_end last ≤ limit

-- steps fill no more than the period
steps_within : (port : PortRow) (p : PeriodRecord) → positions port p * step_in port p ≤ p.info.period
steps_within port p = let d = div-mul-le_self p.info.period (positions port p) in let m = mul_comm (positions port p) (step_in port p) in omega (arith, d, m)

pub column_ends : (port : PortRow) (s : ColumnStart) (origin : ℕ) (old : List PeriodRecord) (now : PeriodRecord) → HoldsFirst s port (old ++ now ∷ [])
    → EndsBy (column_spans port s origin (old ++ now ∷ [])) (origin + time_of_periods old + now.info.period)
column_ends port s origin [] now holds = record {
  early = spans_to s.stamps (origin + s.skipped * step_in port now);
  last = span_after origin (step_in port now) (positions port now) s.skipped;
  is = refl;
  within = (
      let w = steps_within port now in
      let z : time_of_periods [] ≡ 0 = refl in
      let n : s.skipped + (positions port now - s.skipped) ≡ positions port now = (let l = holds.0 in omega (arith, l)) in
      let m : (s.skipped + (positions port now - s.skipped)) * step_in port now ≡ s.skipped * step_in port now + (positions port now - s.skipped) * step_in port now = add-mul s.skipped (positions port now - s.skipped) (step_in port now) in
      let e : (s.skipped + (positions port now - s.skipped)) * step_in port now ≡ positions port now * step_in port now = ap (λ k. k * step_in port now) n in
      omega (arith, w, z, m, e));
}
column_ends port s origin (q ∷ qs) now holds = record {
  early = column_spans port s origin (q ∷ qs);
  last = span_of (origin + time_of_periods (q ∷ qs)) (step_in port now) (positions port now);
  is = column_push port s origin (q ∷ qs) now (omega arith);
  within = (let w = steps_within port now in omega (arith, w));
}
