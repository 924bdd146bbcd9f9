-- Where the samples of ports lie, and samples that are 0.
use Rattle.std.proofs.Common.{◌≡◌, ◌∙◌, ℕ, zero, suc, ◌+◌, ◌<◌, ◌≤◌, ◌⊎◌, ◌≢◌, List, [], ◌∷◌, Some, ℤ, pos, Bool, true, false, length, refl, sym, ap, subst, inl, inr, arith}
use Rattle.std.proofs.lemmas.Bool.{cases_eq}
use Rattle.std.proofs.lemmas.Int.{ints}
use Rattle.std.proofs.lemmas.List.{get_or-set_other, get_or-set_same, length-append, length-replicate, length-set}
use Rattle.std.proofs.lemmas.Option.{same_Some}
use Rattle.std.specs.Prelude.{replicate, slice_get, slice_set}
use Rattle.tdf_dynamic.specs.machine.Asking.{AreZeroBelow}
use Rattle.tdf_expr.specs.Frames.{AreConsecutive, ArePortsFit, IsOfFormat, PortsSeen, sample_formats}
use Rattle.tdf_expr.specs.Plans.{shape_written}
use Rattle.tdf_expr.specs.declared.spans.PortSpan.{PortSpan}
use Rattle.tdf_fixed.specs.Cast.{fraction_of}
use Rattle.tdf_streams.proofs.Api.{get_inside}
use Rattle.tdf_fixed.specs.Overflow.{IsOfWidth}
use Rattle.tdf_expr_state.specs.State.{cell_at}

zero_in : (signed : Bool) (wl : ℕ) → IsOfWidth signed wl (pos 0)
zero_in true wl = record { low = omega (arith, ints); high = omega (arith, ints) }
zero_in false wl = record { low = omega (arith, ints); high = omega (arith, ints) }

pub zero_format : (p : PortSpan) → IsOfFormat p.format (record { num = pos 0; frac = fraction_of p.format })
zero_format p = record { frac = refl; num = zero_in p.format.signed p.format.wl }

-- how many samples come before those of a port
abbrev pub first_at : List PortSpan → ℕ → ℕ
first_at [] n = 0
first_at (p ∷ spans) zero = 0
first_at (p ∷ spans) (suc n) = p.count + first_at spans n

formats_long : (p : PortSpan) (spans : List PortSpan) → length (sample_formats (p ∷ spans)) ≡ p.count + length (sample_formats spans)
formats_long p spans =
    length-append (replicate p.count (shape_written p.format)) (sample_formats spans) ∙ ap (λ k. k + length (sample_formats spans)) (length-replicate p.count (shape_written p.format))

pub first_is : (first : ℕ) (spans : List PortSpan) (n : ℕ) (p : PortSpan) → AreConsecutive first spans → slice_get spans n ≡ Some p → p.first ≡ first + first_at spans n
first_is first [] n p row at = absurd cc
first_is first (q ∷ spans) zero p row at = subst (λ (x : PortSpan). x.first ≡ first + 0) (same_Some q p at) (omega (arith, row.0))
first_is first (q ∷ spans) (suc n) p row at = let rest = first_is (first + q.count) spans n p row.1 at in omega (arith, rest)

first_none : (spans : List PortSpan) → first_at spans 0 ≡ 0
first_none [] = refl
first_none (p ∷ spans) = refl

first_suc : (spans : List PortSpan) (n : ℕ) (p : PortSpan) → slice_get spans n ≡ Some p → first_at spans (suc n) ≡ first_at spans n + p.count
first_suc [] n p at = absurd cc
first_suc (q ∷ spans) zero p at = let same = ap (λ (x : PortSpan). x.count) (same_Some q p at) in let none = first_none spans in omega (arith, same, none)
first_suc (q ∷ spans) (suc n) p at = let rest = first_suc spans n p at in omega (arith, rest)

pub first_next : (spans : List PortSpan) (n : ℕ) (p : PortSpan) → slice_get spans n ≡ Some p → first_at spans (n + 1) ≡ first_at spans n + p.count
first_next spans n p at = let one : n + 1 ≡ suc n = omega arith in ap (first_at spans) one ∙ first_suc spans n p at

pub first_last : (spans : List PortSpan) → first_at spans (length spans) ≡ length (sample_formats spans)
first_last [] = refl
first_last (p ∷ spans) = let rest = first_last spans in let long = formats_long p spans in omega (arith, rest, long)

pub span_inside : (first : ℕ) (spans : List PortSpan) (n : ℕ) (p : PortSpan) → AreConsecutive first spans → slice_get spans n ≡ Some p
    → p.first + p.count ≤ first + length (sample_formats spans)
span_inside first [] n p row at = absurd cc
span_inside first (q ∷ spans) zero p row at =
    subst (λ (x : PortSpan). x.first + x.count ≤ first + length (sample_formats (q ∷ spans))) (same_Some q p at) (omega (arith, formats_long q spans, row.0))
span_inside first (q ∷ spans) (suc n) p row at =
    let rest = span_inside (first + q.count) spans n p row.1 at in
    omega (arith, formats_long q spans, rest)

abbrev with_samples : List ℤ → PortsSeen → PortsSeen
with_samples samples ports = record ports { state = record ports.state { samples = samples } }

-- one sample more is 0
pub zero_more : (n : ℕ) (value : ℤ) (before ports next : PortsSeen) → AreZeroBelow n before ports → n < length ports.state.samples → value ≡ pos 0
    → next ≡ record ports { state = record ports.state { samples = slice_set ports.state.samples n value } } → AreZeroBelow (n + 1) before next
zero_more n value before ports next zeros inside is e = record {
  rest = e ∙ ap (with_samples (slice_set ports.state.samples n value)) zeros.rest ∙ ap (λ l. with_samples l before) (sym samples);
  long = ap length samples ∙ length-set ports.state.samples n value ∙ zeros.long;
  zero = λ j below. ap (λ l. cell_at l j) samples ∙ at j below (cases_eq j n);
}
  where
    samples : next.state.samples ≡ slice_set ports.state.samples n value
    samples = ap (λ (q : PortsSeen). q.state.samples) e

    at : (j : ℕ) → j < n + 1 → (j ≡ n) ⊎ (j ≢ n) → cell_at (slice_set ports.state.samples n value) j ≡ pos 0
    at j below (inl same) = ap (cell_at (slice_set ports.state.samples n value)) same ∙ get_or-set_same ports.state.samples n value (pos 0) inside ∙ is
    at j below (inr other) = get_or-set_other ports.state.samples n j value (pos 0) other ∙ zeros.zero j (less j n below other)
      where
        less : (j n : ℕ) → j < n + 1 → j ≢ n → j < n
        less j n below other = grind (arith, below, other)

-- one sample more of a port
module _ (port i : ℕ) (span : PortSpan) (value : ℤ) (old cur next : PortsSeen) (fit : ArePortsFit old) (at : slice_get old.spans port ≡ Some span) (below : i < span.count) (is : value ≡ pos 0)
    (same : cur.spans ≡ old.spans) (long : length cur.state.samples ≡ length old.state.samples)
    (set : (q : PortSpan) → slice_get cur.spans port ≡ Some q → next ≡ record cur { state = record cur.state { samples = slice_set cur.state.samples (q.first + i) value } }) where
  set_is : next ≡ record cur { state = record cur.state { samples = slice_set cur.state.samples (span.first + i) value } }
  set_is = set span (ap (λ (l : List PortSpan). slice_get l port) same ∙ at)

  pub next_same : next.spans ≡ old.spans
  next_same = ap (λ (q : PortsSeen). q.spans) set_is ∙ same

  pub next_long : length next.state.samples ≡ length old.state.samples
  next_long = ap (λ (q : PortsSeen). length q.state.samples) set_is ∙ length-set cur.state.samples (span.first + i) value ∙ long

  pub next_zero : ((q : PortSpan) (before : PortsSeen) → slice_get old.spans port ≡ Some q → AreZeroBelow q.first before old → AreZeroBelow (q.first + i) before cur)
      → (p : PortSpan) (before : PortsSeen) → slice_get old.spans port ≡ Some p → AreZeroBelow p.first before old → AreZeroBelow (p.first + (i + 1)) before next
  next_zero zeros p before here start = subst (λ (n : ℕ). AreZeroBelow n before next) place (zero_more (p.first + i) value before cur next (zeros p before here start) inside is
      (subst (λ (x : PortSpan). next ≡ record cur { state = record cur.state { samples = slice_set cur.state.samples (x.first + i) value } }) one set_is))
    where
      one : span ≡ p
      one = same_Some span p (sym at ∙ here)

      place : p.first + i + 1 ≡ p.first + (i + 1)
      place = omega arith

      inside : p.first + i < length cur.state.samples
      inside =
          let fits = span_inside 0 old.spans port p fit.placed here in
          let all = fit.samples.long in
          let less : i < p.count = subst (λ (x : PortSpan). i < x.count) one below in
          omega (arith, fits, all, less, long)

-- one port more
pub all_start : (ports : PortsSeen) → AreZeroBelow (first_at ports.spans 0) ports ports
all_start ports = record { rest = refl; long = refl; zero = λ j below. absurd (none ports.spans j below) }
  where
    none : (spans : List PortSpan) (j : ℕ) → j < first_at spans 0 → ⊥
    none [] j below = omega (arith, below)
    none (p ∷ spans) j below = omega (arith, below)

pub all_inside : (n : ℕ) (old cur : PortsSeen) (k : ℕ) → AreZeroBelow k old cur → n < length old.spans → n < length cur.spans
all_inside n old cur k zeros below = subst (λ (l : List PortSpan). n < length l) (sym (ap (λ (q : PortsSeen). q.spans) zeros.rest)) below

pub all_next : (n : ℕ) (old cur next : PortsSeen) → ArePortsFit old → n < length old.spans → AreZeroBelow (first_at old.spans n) old cur
    → ((p : PortSpan) (before : PortsSeen) → slice_get cur.spans n ≡ Some p → AreZeroBelow p.first before cur → AreZeroBelow (p.first + p.count) before next)
    → AreZeroBelow (first_at old.spans (n + 1)) old next
all_next n old cur next fit below zeros step =
    let p = get_inside old.spans n below in
    let from = first_is 0 old.spans n p.0 fit.placed p.1 in
    let first : p.0.first ≡ first_at old.spans n = omega (arith, from) in
    let there : slice_get cur.spans n ≡ Some p.0 = ap (λ (q : PortsSeen). slice_get q.spans n) zeros.rest ∙ p.1 in
    subst (λ (k : ℕ). AreZeroBelow k old next) (ap (λ k. k + p.0.count) first ∙ sym (first_next old.spans n p.0 p.1))
    (step p.0 old there (subst (λ (k : ℕ). AreZeroBelow k old cur) (sym first) zeros))

pub all_done : (n : ℕ) (old cur : PortsSeen) → ArePortsFit old → n ≡ length old.spans → AreZeroBelow (first_at old.spans n) old cur → AreZeroBelow (length old.state.samples) old cur
all_done n old cur fit is zeros =
    subst (λ (k : ℕ). AreZeroBelow k old cur) (ap (first_at old.spans) is ∙ first_last old.spans ∙ sym fit.samples.long) zeros
