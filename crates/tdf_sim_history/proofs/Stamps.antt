-- Samples at rising times as spans.
use Rattle.std.proofs.Common.{◌≡◌, ◌∙◌, ◌<◌, ◌≤◌, ◌+◌, ◌-◌, ◌*◌, ◌++◌, ℕ, zero, suc, Bool, true, false, nat_lt, if◌then◌else◌, List, [], ◌∷◌, length, Option, Some, option_map, slice_get, refl, ap, sym, subst, arith}
use Rattle.std.proofs.lemmas.Bool.{le-ltb, lt-ltb}
use Rattle.tdf_sim_history.specs.Columns.{Stamp, spans_to}
use Rattle.tdf_trace_rows.specs.Positions.{AreChained, Span, span_end, span_of, time_in_spans}

-- they rise, from a time on and below an end
unfoldable pub AreRising : (from : ℕ) → List Stamp → (end : ℕ) → Type 0
AreRising from [] end = from ≤ end
AreRising from (x ∷ xs) end = (from ≤ x.time) × AreRising (x.time + 1) xs end

-- the time of the first, or the end
abbrev pub first_time : List Stamp → (end : ℕ) → ℕ
first_time [] end = end
first_time (x ∷ xs) end = x.time

-- with periods after them they are spans one after the other
pub stamps_chain : (from end : ℕ) (stamps : List Stamp) (spans : List Span) → AreRising from stamps end → AreChained end spans → AreChained (first_time stamps end) (spans_to stamps end ++ spans)
unfolding spans_to AreRising AreChained
stamps_chain from end [] spans rising chained = chained
stamps_chain from end (x ∷ []) spans rising chained = let b : x.time + 1 ≤ end = rising.1 in let z : end ≡ x.time + 1 * (end - x.time) = omega (arith, b) in
    (refl, omega (arith, b), subst (λ e. AreChained e spans) z chained)
stamps_chain from end (x ∷ (y ∷ ys)) spans rising chained = let b : x.time + 1 ≤ y.time = rising.1.0 in let z : y.time ≡ x.time + 1 * (y.time - x.time) = omega (arith, b) in
    (refl, omega (arith, b), subst (λ e. AreChained e (spans_to (y ∷ ys) end ++ spans)) z (stamps_chain (x.time + 1) end (y ∷ ys) spans rising.1 chained))

one_more : (p : Span) (ps : List Span) (j : ℕ) → p.count ≡ 1 → time_in_spans (p ∷ ps) (suc j) ≡ time_in_spans ps j
unfolding time_in_spans
one_more p ps j one = let b : nat_lt (suc j) p.count ≡ false = le-ltb _ _ (omega (arith, one)) in let z : suc j - p.count ≡ j = omega (arith, one) in rw (b, z) refl

at_first : (p : Span) (ps : List Span) → p.count ≡ 1 → time_in_spans (p ∷ ps) 0 ≡ Some p.start
unfolding time_in_spans
at_first p ps one = let b : nat_lt 0 p.count ≡ true = lt-ltb _ _ (omega (arith, one)) in let z : p.start + 0 * p.step ≡ p.start = omega arith in rw (b, z) refl

-- their positions are at these times, and then come those of the periods
pub stamps_early : (end j : ℕ) (stamps : List Stamp) (spans : List Span) → j < length stamps → time_in_spans (spans_to stamps end ++ spans) j ≡ option_map (λ (s : Stamp). s.time) (slice_get stamps j)
unfolding spans_to
stamps_early end j [] spans inside = absurd (omega (arith, inside))
stamps_early end zero (x ∷ []) spans inside = at_first (span_of x.time (end - x.time) 1) spans refl
stamps_early end (suc j) (x ∷ []) spans inside = absurd (omega (arith, inside))
stamps_early end zero (x ∷ (y ∷ ys)) spans inside = at_first (span_of x.time (y.time - x.time) 1) (spans_to (y ∷ ys) end ++ spans) refl
stamps_early end (suc j) (x ∷ (y ∷ ys)) spans inside = one_more (span_of x.time (y.time - x.time) 1) (spans_to (y ∷ ys) end ++ spans) j refl ∙ stamps_early end j (y ∷ ys) spans (omega (arith, inside))

pub stamps_late : (end j : ℕ) (stamps : List Stamp) (spans : List Span) → time_in_spans (spans_to stamps end ++ spans) (length stamps + j) ≡ time_in_spans spans j
unfolding spans_to
stamps_late end j [] spans = let z : 0 + j ≡ j = omega arith in ap (time_in_spans spans) z
stamps_late end j (x ∷ []) spans = let z : 1 + j ≡ suc j = omega arith in ap (time_in_spans (span_of x.time (end - x.time) 1 ∷ spans)) z ∙ one_more (span_of x.time (end - x.time) 1) spans j refl
stamps_late end j (x ∷ (y ∷ ys)) spans = let z : suc (suc (length ys)) + j ≡ suc (suc (length ys) + j) = omega arith in
    ap (time_in_spans (span_of x.time (y.time - x.time) 1 ∷ (spans_to (y ∷ ys) end ++ spans))) z ∙ one_more (span_of x.time (y.time - x.time) 1) (spans_to (y ∷ ys) end ++ spans) (suc (length ys) + j) refl ∙ stamps_late end j (y ∷ ys) spans
