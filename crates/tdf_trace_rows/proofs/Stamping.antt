-- The next position, and a new period.
use Rattle.std.proofs.Common.{◌≡◌, ℕ, ◌+◌, ◌-◌, ◌*◌, ◌<◌, Some, List, [], ◌∷◌, ◌++◌, refl, ap, sym, ◌∙◌, arith}
use Rattle.std.proofs.lemmas.Bool.{lt-ltb, le-ltb}
use Rattle.tdf_trace_rows.specs.Positions.{Span, time_in_spans, count_of_spans}
use Rattle.tdf_trace_rows.specs.Stamping.{IsStamping}
use Rattle.tdf_trace_rows.specs.declared.stamps.Stamps.{Stamps}

abbrev stamps_of : (time step left : ℕ) → Stamps
stamps_of time step left = record { time = time; step = step; left = left }

pub stamped_none : (time step : ℕ) → IsStamping [] 0 (stamps_of time step 0)
unfolding count_of_spans
stamped_none time step = record { whole = refl; ahead = λ i less. absurd (omega (arith, less)) }

pub stamped_time : (spans : List Span) (done time step left : ℕ) → 0 < left → IsStamping spans done (stamps_of time step left) → time_in_spans spans done ≡ Some time
stamped_time spans done time step left more is = let e : done ≡ done + 0 = omega arith in let f : time + 0 * step ≡ time = omega arith in
    ap (time_in_spans spans) e ∙ is.ahead 0 more ∙ ap Some f

pub stamped_on : (spans : List Span) (done time step left : ℕ) → 0 < left → IsStamping spans done (stamps_of time step left) → IsStamping spans (done + 1) (stamps_of (time + step) step (left - 1))
stamped_on spans done time step left more is = record {
  whole = is.whole ∙ (let e : done + left ≡ done + 1 + (left - 1) = omega (arith, more) in e);
  ahead = λ i less. (let e : done + 1 + i ≡ done + (i + 1) = omega arith in let f : (i + 1) * step ≡ i * step + step = grind arith in
      let g : time + (i + 1) * step ≡ time + step + i * step = omega (arith, f) in ap (time_in_spans spans) e ∙ is.ahead (i + 1) (omega (arith, less)) ∙ ap Some g);
}

total_push : (spans : List Span) (p : Span) → count_of_spans (spans ++ p ∷ []) ≡ count_of_spans spans + p.count
unfolding count_of_spans
total_push [] p = omega arith
total_push (q ∷ qs) p = let e : count_of_spans (qs ++ p ∷ []) ≡ count_of_spans qs + p.count = total_push qs p in omega (arith, e)

time_push : (spans : List Span) (p : Span) (i : ℕ) → i < p.count → time_in_spans (spans ++ p ∷ []) (count_of_spans spans + i) ≡ Some (p.start + i * p.step)
unfolding count_of_spans time_in_spans
time_push [] p i less = let e : 0 + i ≡ i = omega arith in rw (e, lt-ltb i p.count less) refl
time_push (q ∷ qs) p i less = let e : q.count + count_of_spans qs + i - q.count ≡ count_of_spans qs + i = omega arith in
    rw (le-ltb (q.count + count_of_spans qs + i) q.count (omega arith), e) (time_push qs p i less)

pub stamped_begin : (spans : List Span) (done time step left start newstep count : ℕ) → left ≡ 0 → IsStamping spans done (stamps_of time step left)
    → IsStamping (spans ++ record { start = start; step = newstep; count = count } ∷ []) done (stamps_of start newstep count)
stamped_begin spans done time step left start newstep count none is =
    let t : count_of_spans spans ≡ done = is.whole ∙ (let e : done + left ≡ done = omega (arith, none) in e) in record {
      whole = total_push spans _ ∙ ap (λ n. n + count) t;
      ahead = λ i less. ap (λ n. time_in_spans (spans ++ record { start = start; step = newstep; count = count } ∷ []) (n + i)) (sym t) ∙ time_push spans (record { start = start; step = newstep; count = count }) i less;
    }
