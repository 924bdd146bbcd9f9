-- Where the samples of ports lie.
use Rattle.std.proofs.Common.{◌≡◌, ◌∙◌, ℕ, zero, suc, ◌+◌, ◌-◌, ◌<◌, ◌≤◌, Bool, true, false, List, [], ◌∷◌, ◌++◌, Some, ℤ, pos, length, take, drop, refl, sym, ap, subst, inl, inr, ◌⊎◌, arith, if◌then◌else◌, map, min}
use Rattle.std.proofs.Math.ListN.{get_or}
use Rattle.std.proofs.lemmas.Bool.{cases_lt}
use Rattle.std.proofs.lemmas.List.{drop-drop, drop_all, ext_get_or, get_or-append_right, get_or-drop, get_or-replicate, get_or-take, get_or_append_left, get_or_past, length-append, length-drop, length-map, length-replicate, length-take, length-take-le, take-append-drop, take-map}
use Rattle.std.proofs.lemmas.Option.{same_Some}
use Rattle.std.specs.Prelude.{replicate, slice_get}
use Rattle.tdf_expr.specs.Frames.{AreConsecutive, ArePortsFit, IsOfFormat, PortsSeen, is_written, reset_port, reset_samples, sample_formats}
use Rattle.tdf_expr.specs.Plans.{shape_of_format, shape_written}
use Rattle.tdf_expr.specs.declared.spans.PortSpan.{PortSpan}
use Rattle.tdf_exec_firing.specs.Activation.{num_of, port_samples, sample_of_span, samples_from}
use Rattle.tdf_exec_firing.specs.Firing.{HoldFormats}
use Rattle.tdf_exec_firing.specs.machine.Filling.{num_at}
use Rattle.tdf_fixed.specs.declared.raw.Raw.{Raw}
use Rattle.tdf_expr_semantics.proofs.Api.{slice_left, slice_replicate, slice_right}
use Rattle.tdf_expr_state.specs.State.{cell_at}

-- what a place below the length has
pub has_at : {A : Type 0} (xs : List A) (n : ℕ) → n < length xs → (x : A) × (slice_get xs n ≡ Some x)
has_at [] n h = absurd (omega (arith, h))
has_at (x ∷ xs) zero h = (x, refl)
has_at (x ∷ xs) (suc n) h = has_at xs n (omega (arith, h))

pub formats_long : (p : PortSpan) (spans : List PortSpan) → length (sample_formats (p ∷ spans)) ≡ p.count + length (sample_formats spans)
formats_long p spans =
    length-append (replicate p.count (shape_written p.format)) (sample_formats spans) ∙ ap (λ k. k + length (sample_formats spans)) (length-replicate p.count (shape_written p.format))

-- the samples of each port come after those of the ports before it
pub first_after : (first : ℕ) (spans : List PortSpan) (n : ℕ) (p : PortSpan) → AreConsecutive first spans → slice_get spans n ≡ Some p → first ≤ p.first
first_after first [] n p row at = absurd cc
first_after first (q ∷ spans) zero p row at = subst (λ (x : PortSpan). first ≤ x.first) (same_Some q p at) (omega (arith, row.0))
first_after first (q ∷ spans) (suc n) p row at = let rest = first_after (first + q.count) spans n p row.1 at in omega (arith, rest)

pub spans_apart : (first : ℕ) (spans : List PortSpan) (m n : ℕ) (p q : PortSpan) → AreConsecutive first spans → slice_get spans m ≡ Some p → slice_get spans n ≡ Some q
    → m < n → p.first + p.count ≤ q.first
spans_apart first [] m n p q row at other below = absurd cc
spans_apart first (x ∷ spans) m zero p q row at other below = absurd (omega (arith, below))
spans_apart first (x ∷ spans) zero (suc n) p q row at other below =
    let after = first_after (first + x.count) spans n q row.1 other in
    subst (λ (y : PortSpan). y.first + y.count ≤ q.first) (same_Some x p at) (omega (arith, after, row.0))
spans_apart first (x ∷ spans) (suc m) (suc n) p q row at other below = spans_apart (first + x.count) spans m n p q row.1 at other (omega (arith, below))

pub span_inside : (first : ℕ) (spans : List PortSpan) (n : ℕ) (p : PortSpan) → AreConsecutive first spans → slice_get spans n ≡ Some p
    → p.first + p.count ≤ first + length (sample_formats spans)
span_inside first [] n p row at = absurd cc
span_inside first (q ∷ spans) zero p row at =
    subst (λ (x : PortSpan). x.first + x.count ≤ first + length (sample_formats (q ∷ spans))) (same_Some q p at) (omega (arith, formats_long q spans, row.0))
span_inside first (q ∷ spans) (suc n) p row at =
    let rest = span_inside (first + q.count) spans n p row.1 at in
    omega (arith, formats_long q spans, rest)

-- the format of a sample
format_at : (first : ℕ) (spans : List PortSpan) (n k i : ℕ) (p : PortSpan) → AreConsecutive first spans → slice_get spans n ≡ Some p → k < p.count → p.first + k ≡ first + i
    → slice_get (sample_formats spans) i ≡ Some (shape_written p.format)
format_at first [] n k i p row at below place = absurd cc
format_at first (q ∷ spans) zero k i p row at below place =
    let same = same_Some q p at in
    let start : q.first + k ≡ first + i = subst (λ (x : PortSpan). x.first + k ≡ first + i) (sym same) place in
    let inside : i < q.count = subst (λ (x : PortSpan). i < x.count) (sym same) (omega (arith, below, start, row.0)) in
    slice_left (replicate q.count (shape_written q.format)) (sample_formats spans) i (shape_written p.format)
    (slice_replicate q.count i (shape_written q.format) inside ∙ ap (λ (x : PortSpan). Some (shape_written x.format)) same)
format_at first (q ∷ spans) (suc n) k i p row at below place =
    let after = first_after (first + q.count) spans n p row.1 at in
    let here : q.count + (i - q.count) ≡ i = omega (arith, after, place) in
    ap (slice_get (sample_formats (q ∷ spans))) (sym here) ∙ slice_right q.count (shape_written q.format) (sample_formats spans) (i - q.count)
    ∙ format_at (first + q.count) spans n k (i - q.count) p row.1 at below (omega (arith, after, place))

pub hold_formats : (ports : PortsSeen) → ArePortsFit ports → HoldFormats ports
hold_formats ports fit = record {
  each = λ n k p at below.
      subst (λ o. IsOfFormat p.format (sample_of_span ports.state.samples k o)) (sym at)
      (record {
        frac = refl;
        num = fit.samples.each (p.first + k) (shape_of_format p.format) (format_at 0 ports.spans n k (p.first + k) p fit.placed at below (omega arith));
      });
}

-- a sample of a port that was set back
reset_long : (p : PortSpan) (nums : List ℤ) → p.count ≤ length nums → length (reset_port p nums) ≡ p.count
reset_long p nums enough = choose (is_written p.word)
  where
    choose : (b : Bool) → length (if b then replicate p.count (pos 0) else take p.count nums) ≡ p.count
    choose true = length-replicate p.count (pos 0)
    choose false = length-take-le p.count nums enough

pub reset_at : (first : ℕ) (spans : List PortSpan) (nums : List ℤ) (n k i : ℕ) (p : PortSpan) → AreConsecutive first spans → length nums ≡ length (sample_formats spans)
    → slice_get spans n ≡ Some p → k < p.count → p.first + k ≡ first + i → cell_at (reset_samples spans nums) i ≡ (if is_written p.word then pos 0 else cell_at nums i)
reset_at first [] nums n k i p row long at below place = absurd cc
reset_at first (q ∷ spans) nums zero k i p row long at below place =
    let same = same_Some q p at in
    let start : q.first + k ≡ first + i = subst (λ (x : PortSpan). x.first + k ≡ first + i) (sym same) place in
    let inside : i < q.count = subst (λ (x : PortSpan). i < x.count) (sym same) (omega (arith, below, start, row.0)) in
    let own = reset_long q nums (omega (arith, long, formats_long q spans)) in
    get_or_append_left (reset_port q nums) (reset_samples spans (drop q.count nums)) (pos 0) i (omega (arith, own, inside))
    ∙ choose (is_written q.word) inside
    ∙ ap (λ (x : PortSpan). if is_written x.word then pos 0 else cell_at nums i) same
  where
    choose : (b : Bool) → i < q.count → get_or (if b then replicate q.count (pos 0) else take q.count nums) i (pos 0) ≡ (if b then pos 0 else cell_at nums i)
    choose true inside = get_or-replicate q.count i (pos 0) (pos 0) inside
    choose false inside = get_or-take q.count nums i (pos 0) inside
reset_at first (q ∷ spans) nums (suc n) k i p row long at below place =
    let after = first_after (first + q.count) spans n p row.1 at in
    let own = reset_long q nums (omega (arith, long, formats_long q spans)) in
    let rest : length (drop q.count nums) ≡ length (sample_formats spans) = length-drop q.count nums ∙ omega (arith, long, formats_long q spans) in
    let here : q.count + (i - q.count) ≡ i = omega (arith, after, place) in
    get_or-append_right (reset_port q nums) (reset_samples spans (drop q.count nums)) q.count i (pos 0) own (omega (arith, after, place))
    ∙ reset_at (first + q.count) spans (drop q.count nums) n k (i - q.count) p row.1 rest at below (omega (arith, after, place))
    ∙ ap (λ z. if is_written p.word then pos 0 else z) (get_or-drop q.count nums (i - q.count) (pos 0) ∙ ap (cell_at nums) here)

-- a sample that a port reads
pub read_cell : (list : List Raw) (n k : ℕ) → k < n → num_at (take n list) k ≡ num_at list k
read_cell list n k below = ap (λ l. cell_at l k) (sym (take-map num_of n list)) ∙ get_or-take n (map num_of list) k (pos 0) below

pub read_past : (list : List Raw) (k : ℕ) → length list ≤ k → num_at list k ≡ pos 0
read_past list k past = get_or_past (map num_of list) k (pos 0) (omega (arith, past, length-map list num_of))

port_cell : (p : PortSpan) (read : List Raw) (k : ℕ) → k < p.count → cell_at (port_samples p read) k ≡ num_at read k
port_cell p read k below = choose (cases_lt k (length read))
  where
    front : List ℤ
    front = take p.count (map num_of read)

    long : length front ≡ min p.count (length read)
    long = length-take p.count (map num_of read) ∙ ap (min p.count) (length-map read num_of)

    choose : (k < length read) ⊎ (length read ≤ k) → cell_at (front ++ replicate (p.count - length read) (pos 0)) k ≡ num_at read k
    choose (inl there) =
        get_or_append_left front (replicate (p.count - length read) (pos 0)) (pos 0) k (omega (arith, long, there, below))
        ∙ get_or-take p.count (map num_of read) k (pos 0) below
    choose (inr past) =
        get_or-append_right front (replicate (p.count - length read) (pos 0)) (length front) k (pos 0) refl (omega (arith, long, past))
        ∙ get_or-replicate (p.count - length read) (k - length front) (pos 0) (pos 0) (omega (arith, long, past, below))
        ∙ sym (read_past read k past)

port_long : (p : PortSpan) (read : List Raw) → length (port_samples p read) ≡ p.count
port_long p read =
    let front : length (take p.count (map num_of read)) ≡ min p.count (length read) = length-take p.count (map num_of read) ∙ ap (min p.count) (length-map read num_of) in
    length-append (take p.count (map num_of read)) (replicate (p.count - length read) (pos 0))
    ∙ omega (arith, front, length-replicate (p.count - length read) (pos 0))

-- numbers that are those of the ports at each place are the samples of the ports
pub samples_are : (read : ℕ → List Raw) (place first : ℕ) (spans : List PortSpan) (nums : List ℤ) → AreConsecutive first spans
    → length nums ≡ first + length (sample_formats spans)
    → ((n k : ℕ) (p : PortSpan) → slice_get spans n ≡ Some p → k < p.count → cell_at nums (p.first + k) ≡ num_at (read (place + n)) k)
    → drop first nums ≡ samples_from read place spans
unfolding samples_from
samples_are read place first [] nums row long cells = drop_all first nums (omega (arith, long))
samples_are read place first (q ∷ spans) nums row long cells =
    sym (take-append-drop q.count (drop first nums)) ∙ ap (λ l. l ++ drop q.count (drop first nums)) own
    ∙ ap (λ l. port_samples q (read place) ++ l) (drop-drop q.count first nums
    ∙ samples_are read (place + 1) (first + q.count) spans nums row.1 (omega (arith, long, formats_long q spans))
    (λ n k p at below. cells (suc n) k p at below ∙ ap (λ i. num_at (read i) k) (omega arith)))
  where
    lengths : length (take q.count (drop first nums)) ≡ q.count
    lengths = length-take-le q.count (drop first nums) (omega (arith, length-drop first nums, long, formats_long q spans))

    cell : (i : ℕ) → i < q.count → get_or (take q.count (drop first nums)) i (pos 0) ≡ get_or (port_samples q (read place)) i (pos 0)
    cell i below =
        let here : first + i ≡ q.first + i = omega (arith, row.0) in
        let start : place + 0 ≡ place = omega arith in
        get_or-take q.count (drop first nums) i (pos 0) below ∙ get_or-drop first nums i (pos 0) ∙ ap (cell_at nums) here
        ∙ cells 0 i q refl below ∙ ap (λ m. num_at (read m) i) start ∙ sym (port_cell q (read place) i below)

    own : take q.count (drop first nums) ≡ port_samples q (read place)
    own = ext_get_or (pos 0) (take q.count (drop first nums)) (port_samples q (read place)) (lengths ∙ sym (port_long q (read place)))
        (λ i below. cell i (omega (arith, below, lengths)))
