-- The samples of an instance, port after port.
use Rattle.std.proofs.Common.{◌≡◌, ◌∙◌, ℕ, zero, suc, ◌+◌, ◌<◌, ◌≤◌, Bool, true, false, List, [], ◌∷◌, ◌++◌, Option, Some, None, ℤ, pos, length, take, drop, refl, sym, ap, subst, arith, append_assoc, append-nil, if◌then◌else◌}
use Rattle.std.proofs.Math.ListN.{get_or}
use Rattle.std.proofs.Math.Seq.{take-append_seam, drop-append-add}
use Rattle.std.proofs.lemmas.Option.{slice_get-get_or, slice_get_within}
use Rattle.std.proofs.lemmas.List.{take-append-drop, length-append, length-replicate, length-drop, length-take, drop_more, drop_all, length-map}
use Rattle.std.specs.List.{flat_map}
use Rattle.std.specs.Option.{option_map}
use Rattle.std.specs.Prelude.{map, replicate, slice_get, slice_set}
use Rattle.tdf_expr.proofs.Planned.{has_at}
use Rattle.tdf_expr.proofs.Fitting.{blanks_fit, fit_both, fit_first, fit_second, all_fit, numbers_fit}
use Rattle.tdf_expr.specs.Frames.{FrameSeen, PortsSeen, IsFrameFit, ArePortsFit, IsAllowedRate, limits_of_rate, sample_formats, AreConsecutive, is_written, reset_port, reset_samples, reset_state}
use Rattle.tdf_expr.specs.Plans.{PortPlace, shape_of_format, shape_written, place_of_span, places_from, port_places}
use Rattle.tdf_expr.specs.declared.samples.SamplePlace.{SamplePlace}
use Rattle.tdf_expr.specs.declared.samples.Stretch.{Stretch}
use Rattle.tdf_expr.specs.declared.spans.PortSpan.{PortSpan}
use Rattle.tdf_expr.specs.declared.spans.RateSpan.{RateSpan}
use Rattle.tdf_expr.specs.machine.Fitting.{AllFit}
use Rattle.tdf_expr.specs.machine.Zeroed.{sample_place, stretch_of, written_in, zeroed_one, zeroed}
use Rattle.tdf_fixed.specs.Overflow.{IsOfWidth}
use Rattle.tdf_fixed.specs.declared.format.Format.{Format}
use Rattle.tdf_expr_semantics.proofs.Api.{slice_replicate, slice_left, slice_right, numbers_set, rates_set}
use Rattle.tdf_expr_semantics.specs.Fits.{NumbersFit}
use Rattle.tdf_expr_semantics.specs.Places.{samples_of, ports_of, sample_shapes, total}
use Rattle.tdf_expr_symbols.specs.Names.{Names, Thing, Port, shape_of}
use Rattle.tdf_expr_symbols.specs.Scope.{greatest_of}
use Rattle.tdf_expr_state.specs.Resets.{with_zeros}
use Rattle.tdf_expr_state.specs.State.{PortsState}
use Rattle.tdf_lang_tree.specs.declared.shapes.Shape.{Shape}

-- what a list of images has at a place
pub map_at : {A B : Type 0} (f : A → B) (xs : List A) (n : ℕ) (x : A) → slice_get xs n ≡ Some x → slice_get (map f xs) n ≡ Some (f x)
map_at f [] n x at = absurd cc
map_at f (y ∷ xs) zero x at = ap (λ o. option_map f o) at
map_at f (y ∷ xs) (suc n) x at = map_at f xs n x at

-- the ports of a block's names, as places
abbrev AreInRow : ℕ → List PortPlace → Type 0
AreInRow first [] = Unit {0}
AreInRow first (p ∷ ps) = (p.first ≡ first) × AreInRow (first + p.count) ps

abbrev place_shapes : List PortPlace → List (Option Shape)
place_shapes places = flat_map (λ p. replicate p.count p.shape) places

places_row : (own : Names) (first : ℕ) (things : List Thing) → AreInRow first (places_from own first things)
unfolding places_from
places_row own first [] = tt
places_row own first (Port word shape rate delay ∷ things) = (refl, places_row own (first + greatest_of own rate) things)
places_row own first (_ ∷ things) = places_row own first things

places_shapes : (own : Names) (first : ℕ) (things : List Thing)
    → place_shapes (places_from own first things) ≡ flat_map (λ t. replicate (samples_of own t) (shape_of t)) things
unfolding places_from
places_shapes own first [] = refl
places_shapes own first (Port word shape rate delay ∷ things) = ap (λ l. replicate (greatest_of own rate) shape ++ l) (places_shapes own (first + greatest_of own rate) things)
places_shapes own first (_ ∷ things) = places_shapes own first things

places_count : (own : Names) (first : ℕ) (things : List Thing) → length (places_from own first things) ≡ total ports_of things
unfolding places_from total
places_count own first [] = refl
places_count own first (Port word shape rate delay ∷ things) = let rest = places_count own (first + greatest_of own rate) things in omega (arith, rest)
places_count own first (_ ∷ things) = places_count own first things ∙ omega arith

seen_row : (first : ℕ) (spans : List PortSpan) → AreInRow first (map place_of_span spans) → AreConsecutive first spans
seen_row first [] row = tt
seen_row first (p ∷ spans) row = (row.0, seen_row (first + p.count) spans row.1)

seen_shapes : (spans : List PortSpan) → place_shapes (map place_of_span spans) ≡ sample_formats spans
seen_shapes [] = refl
seen_shapes (p ∷ spans) = ap (λ l. replicate p.count (shape_written p.format) ++ l) (seen_shapes spans)

module _ (own : Names) (spans : List PortSpan) (are : map place_of_span spans ≡ port_places own) where
  pub spans_row : AreConsecutive 0 spans
  spans_row = seen_row 0 spans (subst (AreInRow 0) (sym are) (places_row own 0 own.things))

  pub spans_shapes : sample_formats spans ≡ sample_shapes own
  spans_shapes = sym (seen_shapes spans) ∙ ap place_shapes are ∙ places_shapes own 0 own.things

  pub spans_count : length spans ≡ total ports_of own.things
  spans_count = sym (length-map spans place_of_span) ∙ ap (λ (l : List PortPlace). length l) are ∙ places_count own 0 own.things

-- where a sample stands
pub record IsSampleAt (first : ℕ) (spans : List PortSpan) (p : PortSpan) (i : ℕ) : Type 0 where
  pub place : ℕ
  pub is : p.first + i ≡ first + place
  pub format : slice_get (sample_formats spans) place ≡ Some (shape_written p.format)

pub sample_at : (first : ℕ) (spans : List PortSpan) (n : ℕ) (p : PortSpan) (i : ℕ) → AreConsecutive first spans → slice_get spans n ≡ Some p → i < p.count
    → IsSampleAt first spans p i
sample_at first [] n p i row at below = absurd cc
sample_at first (q ∷ spans) zero p i row at below =
    let same : q ≡ p = ap held at in
    subst (λ (x : PortSpan). IsSampleAt first (q ∷ spans) x i) same (record {
      place = i;
      is = ap (λ k. k + i) row.0;
      format = slice_left (replicate q.count (shape_written q.format)) (sample_formats spans) i (shape_written q.format)
          (slice_replicate q.count i (shape_written q.format) (subst (λ (x : PortSpan). i < x.count) (sym same) below));
    })
  where
    held : Option PortSpan → PortSpan
    held None = q
    held (Some x) = x
sample_at first (q ∷ spans) (suc n) p i row at below =
    let rest = sample_at (first + q.count) spans n p i row.1 at below in
    record {
      place = q.count + rest.place;
      is = rest.is ∙ omega arith;
      format = slice_right q.count (shape_written q.format) (sample_formats spans) rest.place ∙ rest.format;
    }

-- samples set back to 0
reset_fits_one : (p : PortSpan) (nums : List ℤ) → AllFit (replicate p.count (shape_written p.format)) (take p.count nums)
    → AllFit (replicate p.count (shape_written p.format)) (reset_port p nums)
reset_fits_one p nums fits = choose (is_written p.word)
  where
    choose : (b : Bool) → AllFit (replicate p.count (shape_written p.format)) (if b then replicate p.count (pos 0) else take p.count nums)
    choose true = blanks_fit (shape_written p.format) p.count
    choose false = fits

reset_fits : (spans : List PortSpan) (nums : List ℤ) → AllFit (sample_formats spans) nums → AllFit (sample_formats spans) (reset_samples spans nums)
reset_fits [] nums all = all
reset_fits (p ∷ spans) nums all =
    let long : length (replicate p.count (shape_written p.format)) ≡ p.count = length-replicate p.count (shape_written p.format) in
    fit_both (replicate p.count (shape_written p.format)) (sample_formats spans) (reset_port p nums) (reset_samples spans (drop p.count nums))
    (reset_fits_one p nums (subst (λ n. AllFit (replicate p.count (shape_written p.format)) (take n nums)) long
    (fit_first (replicate p.count (shape_written p.format)) (sample_formats spans) nums all)))
    (reset_fits spans (drop p.count nums) (subst (λ n. AllFit (sample_formats spans) (drop n nums)) long
    (fit_second (replicate p.count (shape_written p.format)) (sample_formats spans) nums all)))

pub reset_numbers : (spans : List PortSpan) (nums : List ℤ) → NumbersFit (sample_formats spans) nums → NumbersFit (sample_formats spans) (reset_samples spans nums)
reset_numbers spans nums fits = numbers_fit (sample_formats spans) (reset_samples spans nums) (reset_fits spans nums (all_fit (sample_formats spans) nums fits))

-- what samples need of the spans
pub places_done : (spans : List PortSpan) (i : ℕ) (xs : List SamplePlace) → length spans ≤ i → xs ++ map sample_place (drop i spans) ≡ xs
places_done spans i xs past = ap (λ (l : List PortSpan). xs ++ map sample_place l) (drop_all i spans past) ∙ append-nil xs

pub places_more : (spans : List PortSpan) (i : ℕ) (d : PortSpan) (xs : List SamplePlace) → i < length spans
    → (xs ++ sample_place (get_or spans i d) ∷ []) ++ map sample_place (drop (i + 1) spans) ≡ xs ++ map sample_place (drop i spans)
places_more spans i d xs within =
    append_assoc xs (sample_place (get_or spans i d) ∷ []) (map sample_place (drop (i + 1) spans))
    ∙ ap (λ (l : List PortSpan). xs ++ map sample_place l) (sym (drop_more spans i d within))

pub ruleset place_laws = (places_done, places_more)

-- what is found at the place of a port is of its span
pub record IsFoundAt (spans : List PortSpan) (n : ℕ) (x : SamplePlace) : Type 0 where
  pub span : PortSpan
  pub at : slice_get spans n ≡ Some span
  pub is : x ≡ sample_place span

pub places_long : (spans : List PortSpan) (places : List SamplePlace) → places ≡ map sample_place spans → length places ≡ length spans
places_long spans places same = ap (λ (l : List SamplePlace). length l) same ∙ length-map spans sample_place

pub found_at : (spans : List PortSpan) (places : List SamplePlace) (n : ℕ) (x : SamplePlace) → places ≡ map sample_place spans → n < length spans
    → slice_get places n ≡ Some x → IsFoundAt spans n x
found_at spans places n x same within there =
    let p = has_at spans n within in
    record {
      span = p.0;
      at = p.1;
      is = ap held (sym there ∙ ap (λ (l : List SamplePlace). slice_get l n) same ∙ map_at sample_place spans n p.0 p.1);
    }
  where
    held : Option SamplePlace → SamplePlace
    held None = x
    held (Some y) = y

-- the loop over the ports, and that over the stretches
pub written_done : (spans : List PortSpan) (i : ℕ) (xs : List Stretch) → length spans ≤ i → xs ++ written_in (drop i spans) ≡ xs
written_done spans i xs past = ap (λ (l : List PortSpan). xs ++ written_in l) (drop_all i spans past) ∙ append-nil xs

pub written_more : (spans : List PortSpan) (i : ℕ) (d : PortSpan) (xs : List Stretch) → i < length spans → is_written (get_or spans i d).word ≡ true
    → (xs ++ stretch_of (get_or spans i d) ∷ []) ++ written_in (drop (i + 1) spans) ≡ xs ++ written_in (drop i spans)
written_more spans i d xs within is =
    let p = get_or spans i d in
    append_assoc xs (stretch_of p ∷ []) (written_in (drop (i + 1) spans))
    ∙ ap (λ (b : Bool). xs ++ (if b then stretch_of p ∷ written_in (drop (i + 1) spans) else written_in (drop (i + 1) spans))) (sym is)
    ∙ ap (λ (l : List PortSpan). xs ++ written_in l) (sym (drop_more spans i d within))

pub written_same : (spans : List PortSpan) (i : ℕ) (d : PortSpan) (xs : List Stretch) → i < length spans → is_written (get_or spans i d).word ≡ false
    → xs ++ written_in (drop (i + 1) spans) ≡ xs ++ written_in (drop i spans)
written_same spans i d xs within is =
    let p = get_or spans i d in
    ap (λ (b : Bool). xs ++ (if b then stretch_of p ∷ written_in (drop (i + 1) spans) else written_in (drop (i + 1) spans))) (sym is)
    ∙ ap (λ (l : List PortSpan). xs ++ written_in l) (sym (drop_more spans i d within))

pub ruleset written_laws = (written_done, written_more, written_same)

zeros_long : (first count : ℕ) (nums : List ℤ) → first + count ≤ length nums → length (with_zeros first count nums) ≡ length nums
zeros_long first count nums inside =
    length-append (take first nums) (replicate count (pos 0) ++ drop (first + count) nums)
    ∙ ap (λ k. length (take first nums) + k) (length-append (replicate count (pos 0)) (drop (first + count) nums))
    ∙ rw (length-take first nums, length-replicate count (pos 0), length-drop (first + count) nums) (omega (arith, inside))

pub zeroed_one_long : (p : Stretch) (s : PortsState) → p.first + p.count ≤ length s.samples → length (zeroed_one p s).samples ≡ length s.samples
unfolding zeroed_one
zeroed_one_long p s inside = zeros_long p.first p.count s.samples inside

pub zeroed_none : (spans : List Stretch) (i : ℕ) (s : PortsState) → length spans ≤ i → zeroed (drop i spans) s ≡ s
unfolding zeroed
zeroed_none spans i s past = ap (λ (l : List Stretch). zeroed l s) (drop_all i spans past)

pub zeroed_next : (spans : List Stretch) (i : ℕ) (d : Stretch) (s : PortsState) → i < length spans
    → zeroed (drop (i + 1) spans) (zeroed_one (get_or spans i d) s) ≡ zeroed (drop i spans) s
unfolding zeroed
zeroed_next spans i d s within = ap (λ (l : List Stretch). zeroed l s) (sym (drop_more spans i d within))

pub ruleset zero_laws = (zeroed_one_long, zeroed_none, zeroed_next)

pub stretch_inside : (xs : List Stretch) (i : ℕ) (d : Stretch) (n m : ℕ) → i < length xs
    → ((j : ℕ) (p : Stretch) → slice_get xs j ≡ Some p → p.first + p.count ≤ m) → n ≡ m → (get_or xs i d).first + (get_or xs i d).count ≤ n
stretch_inside xs i d n m within inside same = let here = inside i (get_or xs i d) (slice_get-get_or xs i d within) in omega (arith, here, same)

-- the stretches lie among the samples
pub written_inside : (first : ℕ) (spans : List PortSpan) (n : ℕ) (q : Stretch) → AreConsecutive first spans → slice_get (written_in spans) n ≡ Some q
    → q.first + q.count ≤ first + length (sample_formats spans)
written_inside first [] n q row at = absurd cc
written_inside first (p ∷ spans) n q row at =
    let long : length (sample_formats (p ∷ spans)) ≡ p.count + length (sample_formats spans) =
    length-append (replicate p.count (shape_written p.format)) (sample_formats spans) ∙ ap (λ k. k + length (sample_formats spans)) (length-replicate p.count (shape_written p.format)) in
    choose (is_written p.word) n at long (λ m there. written_inside (first + p.count) spans m q row.1 there)
  where
    held : Option Stretch → Stretch
    held None = q
    held (Some x) = x

    choose : (b : Bool) (m : ℕ) → slice_get (if b then stretch_of p ∷ written_in spans else written_in spans) m ≡ Some q
        → length (sample_formats (p ∷ spans)) ≡ p.count + length (sample_formats spans)
        → ((m : ℕ) → slice_get (written_in spans) m ≡ Some q → q.first + q.count ≤ first + p.count + length (sample_formats spans))
        → q.first + q.count ≤ first + length (sample_formats (p ∷ spans))
    choose true zero there long rest =
        subst (λ (x : Stretch). x.first + x.count ≤ first + length (sample_formats (p ∷ spans))) (ap held there) (omega (arith, long, row.0))
    choose true (suc m) there long rest = let inside = rest m there in omega (arith, long, inside)
    choose false m there long rest = let inside = rest m there in omega (arith, long, inside)

-- samples set back in place are those of the definition
zeros_behind : (pre nums : List ℤ) (first count : ℕ) → first ≡ length pre
    → with_zeros first count (pre ++ nums) ≡ (pre ++ replicate count (pos 0)) ++ drop count nums
zeros_behind pre nums first count at =
    ap (λ k. with_zeros k count (pre ++ nums)) at
    ∙ ap (λ l. l ++ (replicate count (pos 0) ++ drop (length pre + count) (pre ++ nums))) (take-append_seam pre nums)
    ∙ ap (λ l. pre ++ (replicate count (pos 0) ++ l)) (drop-append-add pre nums count)
    ∙ sym (append_assoc pre (replicate count (pos 0)) (drop count nums))

zeroed_is : (pre nums : List ℤ) (spans : List PortSpan) (s : PortsState) → AreConsecutive (length pre) spans → s.samples ≡ pre ++ nums
    → length nums ≡ length (sample_formats spans) → zeroed (written_in spans) s ≡ record s { samples = pre ++ reset_samples spans nums }
unfolding zeroed zeroed_one
zeroed_is pre nums [] s row samples long = ap (λ l. record s { samples = l }) samples
zeroed_is pre nums (p ∷ spans) s row samples long =
    let whole : length (sample_formats (p ∷ spans)) ≡ p.count + length (sample_formats spans) =
    length-append (replicate p.count (shape_written p.format)) (sample_formats spans) ∙ ap (λ k. k + length (sample_formats spans)) (length-replicate p.count (shape_written p.format)) in
    let rest : length (drop p.count nums) ≡ length (sample_formats spans) = length-drop p.count nums ∙ omega (arith, long, whole) in
    choose (is_written p.word) (length-take p.count nums ∙ omega (arith, long, whole))
    (λ own t are same. zeroed_is (pre ++ own) (drop p.count nums) spans t
    (subst (λ k. AreConsecutive k spans) (sym (length-append pre own ∙ ap (λ k. length pre + k) are)) row.1) same rest
    ∙ ap (λ l. record t { samples = l }) (append_assoc pre own (reset_samples spans (drop p.count nums))))
  where
    choose : (b : Bool) → length (take p.count nums) ≡ p.count
        → ((own : List ℤ) (t : PortsState) → length own ≡ p.count → t.samples ≡ (pre ++ own) ++ drop p.count nums
        → zeroed (written_in spans) t ≡ record t { samples = pre ++ (own ++ reset_samples spans (drop p.count nums)) })
        → zeroed (if b then stretch_of p ∷ written_in spans else written_in spans) s
        ≡ record s { samples = pre ++ ((if b then replicate p.count (pos 0) else take p.count nums) ++ reset_samples spans (drop p.count nums)) }
    choose true enough go =
        go (replicate p.count (pos 0)) (zeroed_one (stretch_of p) s) (length-replicate p.count (pos 0))
        (ap (λ l. with_zeros p.first p.count l) samples ∙ zeros_behind pre nums p.first p.count row.0)
    choose false enough go =
        go (take p.count nums) s enough
        (samples ∙ ap (λ l. pre ++ l) (sym (take-append-drop p.count nums)) ∙ sym (append_assoc pre (take p.count nums) (drop p.count nums)))

pub zeroed_all : (spans : List PortSpan) (s : PortsState) → AreConsecutive 0 spans → NumbersFit (sample_formats spans) s.samples
    → zeroed (written_in spans) s ≡ record s { samples = reset_samples spans s.samples }
zeroed_all spans s row fits = zeroed_is [] s.samples spans s row refl fits.long

-- a place has one port
pub one_span : (spans : List PortSpan) (n : ℕ) (p q : PortSpan) → slice_get spans n ≡ Some p → slice_get spans n ≡ Some q → p ≡ q
one_span spans n p q first second = ap held (sym first ∙ second)
  where
    held : Option PortSpan → PortSpan
    held None = p
    held (Some x) = x

-- a sample that is set
pub sample_there : (q : PortsSeen) (n i : ℕ) (p : PortSpan) → ArePortsFit q → slice_get q.spans n ≡ Some p → i < p.count → p.first + i < length q.state.samples
sample_there q n i p fit at below =
    let found = sample_at 0 q.spans n p i fit.placed at below in
    let within = slice_get_within (sample_formats q.spans) found.place (shape_written p.format) found.format in
    omega (arith, within, found.is, fit.samples.long)

pub sample_set : (q : PortsSeen) (n i : ℕ) (p : PortSpan) (num : ℤ) → ArePortsFit q → slice_get q.spans n ≡ Some p → i < p.count
    → IsOfWidth p.format.signed p.format.wl num → ArePortsFit (record q { state = record q.state { samples = slice_set q.state.samples (p.first + i) num } })
sample_set q n i p num fit at below is_in =
    let found = sample_at 0 q.spans n p i fit.placed at below in
    let here : found.place ≡ p.first + i = sym (found.is ∙ omega arith) in
    record {
      placed = fit.placed;
      samples = subst (λ k. NumbersFit (sample_formats q.spans) (slice_set q.state.samples k num)) here
          (numbers_set (sample_formats q.spans) q.state.samples found.place num (shape_of_format p.format) fit.samples found.format is_in);
      assigned = fit.assigned;
      steps = fit.steps;
    }

pub reset_fit : (q : PortsSeen) → ArePortsFit q → ArePortsFit (record q { state = reset_state q.spans q.state })
reset_fit q fit = record {
  placed = fit.placed;
  samples = reset_numbers q.spans q.state.samples fit.samples;
  assigned = length-replicate (length q.state.assigned) false ∙ fit.assigned;
  steps = length-replicate (length q.state.steps) None ∙ fit.steps;
}

-- a cell, and a rate, that is set
pub cell_set : (f : FrameSeen) (i : ℕ) (num : ℤ) → IsFrameFit f → i < length f.formats → ((g : Format) → slice_get f.formats i ≡ Some g → IsOfWidth g.signed g.wl num)
    → IsFrameFit (record f { state = record f.state { cells = slice_set f.state.cells i num } })
cell_set f i num fit within range =
    let held = has_at f.formats i within in
    record {
      few = fit.few;
      cells = numbers_set (map shape_written f.formats) f.state.cells i num (shape_of_format held.0) fit.cells (map_at shape_written f.formats i held.0 held.1) (range held.0 held.1);
      rates = fit.rates;
    }

pub rate_set : (f : FrameSeen) (i value : ℕ) → IsFrameFit f → i < length f.rates → ((r : RateSpan) → slice_get f.rates i ≡ Some r → IsAllowedRate r value)
    → IsFrameFit (record f { state = record f.state { rates = slice_set f.state.rates i value } })
rate_set f i value fit within allowed =
    let held = has_at f.rates i within in
    let is = allowed held.0 held.1 in
    record {
      few = fit.few;
      cells = fit.cells;
      rates = rates_set (map limits_of_rate f.rates) f.state.rates i value (limits_of_rate held.0) fit.rates (map_at limits_of_rate f.rates i held.0 held.1) is.least is.greatest;
    }
