-- Bodies leave samples of the formats of the ports that they write.
use Rattle.std.proofs.Common.{◌≡◌, ◌∙◌, ℕ, zero, suc, ◌+◌, ◌-◌, ◌<◌, Bool, true, List, [], ◌∷◌, ◌++◌, Some, None, map, replicate, ℤ, pos, slice_get, slice_set, sym, ap, subst, arith, ◌⊎◌, ◌≢◌, inl, inr, option_map}
use Rattle.std.proofs.lemmas.Bool.{cases_eq}
use Rattle.std.proofs.lemmas.List.{get_or-set_other}
use Rattle.std.proofs.lemmas.Option.{same_Some, slice_get-map}
use Rattle.std.specs.List.{flat_map}
use Rattle.tdf_expr.specs.Blocks.{PureBlock, blocks_of, scope_of}
use Rattle.tdf_expr.specs.Compiled.{AreBlocksOf}
use Rattle.tdf_expr.specs.Frames.{AreConsecutive, is_written}
use Rattle.tdf_expr.specs.Made.{spans_in}
use Rattle.tdf_expr.specs.Plans.{PortPlace, place_of_span, places_from, port_places, shape_of_format, shape_written}
use Rattle.tdf_expr.specs.declared.blocks.Block.{Block}
use Rattle.tdf_expr.specs.declared.spans.PortSpan.{PortSpan}
use Rattle.tdf_expr.proofs.Api.{zero_in}
use Rattle.tdf_expr_laws.proofs.Kept.{ElementsKeep, body_keeps, kept_at}
use Rattle.tdf_expr_laws.specs.Samples.{BodiesKeepSamples, PortsLieInOrder, WrittenFit}
use Rattle.tdf_expr_semantics.proofs.Api.{placed, slice_left, slice_replicate, slice_right}
use Rattle.tdf_expr_semantics.specs.Places.{first_sample, sample_shapes, samples_of}
use Rattle.tdf_expr_semantics.specs.Value.{cast_number}
use Rattle.tdf_expr_state.specs.State.{cell_at}
use Rattle.tdf_expr_symbols.specs.Names.{Array, Names, Port, Thing, Var, globals_of, shape_of}
use Rattle.tdf_expr_symbols.specs.Scope.{greatest_of}
use Rattle.tdf_fixed.proofs.Api.{in_range}
use Rattle.tdf_fixed.specs.Overflow.{IsOfWidth}
use Rattle.tdf_lang_tree.specs.declared.shapes.Shape.{Shape}

-- ---- where samples lie

-- the ports of a block lie one after another
consecutive : (own : Names) (first : ℕ) (things : List Thing) (spans : List PortSpan) → map place_of_span spans ≡ places_from own first things → AreConsecutive first spans
unfolding places_from
consecutive own first [] [] are = tt
consecutive own first [] (p ∷ spans) are = absurd cc
consecutive own first (Port word shape rate delay ∷ things) [] are = absurd cc
consecutive own first (Port word shape rate delay ∷ things) (p ∷ spans) are =
    let count : greatest_of own rate ≡ p.count = sym (ap (λ l. (head_of l).count) are) in
    (ap (λ l. (head_of l).first) are, subst (λ c. AreConsecutive (first + c) spans) count (consecutive own (first + greatest_of own rate) things spans (ap tail_of are)))
  where
    head_of : List PortPlace → PortPlace
    head_of [] = place_of_span p
    head_of (x ∷ xs) = x

    tail_of : List PortPlace → List PortPlace
    tail_of [] = []
    tail_of (x ∷ xs) = xs
consecutive own first (_ ∷ things) spans are = consecutive own first things spans are

-- the format of a sample of a port
shape_at : (own : Names) (first : ℕ) (things : List Thing) (n k : ℕ) (place : PortPlace) → slice_get (places_from own first things) n ≡ Some place → k < place.count
    → (i : ℕ) × (place.first ≡ first + i) × (slice_get (flat_map (λ t. replicate (samples_of own t) (shape_of t)) things) (i + k) ≡ Some place.shape)
unfolding places_from
shape_at own first [] n k place at below = absurd cc
shape_at own first (Port word shape rate delay ∷ things) zero k place at below =
    let here : PortPlace = record { word = word; shape = shape; first = first; count = greatest_of own rate } in
    let same : here ≡ place = same_Some here place at in
    let inside : k < greatest_of own rate = subst (λ (x : PortPlace). k < x.count) (sym same) below in
    let start : 0 + k ≡ k = omega arith in
    let rest = flat_map (λ t. replicate (samples_of own t) (shape_of t)) things in
    subst (λ (x : PortPlace). (i : ℕ) × (x.first ≡ first + i) × (slice_get (flat_map (λ t. replicate (samples_of own t) (shape_of t)) (Port word shape rate delay ∷ things)) (i + k) ≡ Some x.shape)) same
    (0, omega arith, ap (slice_get (replicate (greatest_of own rate) shape ++ rest)) start ∙ slice_left (replicate (greatest_of own rate) shape) rest k shape (slice_replicate (greatest_of own rate) k shape inside))
shape_at own first (Port word shape rate delay ∷ things) (suc n) k place at below =
    let rest = shape_at own (first + greatest_of own rate) things n k place at below in
    let start = rest.1 in
    let here : greatest_of own rate + rest.0 + k ≡ greatest_of own rate + (rest.0 + k) = omega arith in (
      greatest_of own rate + rest.0,
      omega (arith, start),
      ap (slice_get (replicate (greatest_of own rate) shape ++ flat_map (λ t. replicate (samples_of own t) (shape_of t)) things)) here
          ∙ slice_right (greatest_of own rate) shape (flat_map (λ t. replicate (samples_of own t) (shape_of t)) things) (rest.0 + k) ∙ rest.2,
    )
shape_at own first (_ ∷ things) n k place at below = shape_at own first things n k place at below

-- ---- what bodies keep

-- a number that is set, or 0 where there is no such place
set_in : (signed : Bool) (wl : ℕ) (nums : List ℤ) (j : ℕ) (num : ℤ) → IsOfWidth signed wl num → IsOfWidth signed wl (cell_at (slice_set nums j num) j)
set_in signed wl [] j num is_in = zero_in signed wl
set_in signed wl (x ∷ nums) zero num is_in = is_in
set_in signed wl (x ∷ nums) (suc j) num is_in = set_in signed wl nums j num is_in

module _ (own : Names) (spans : List PortSpan) (are : map place_of_span spans ≡ port_places own) where
  span_shape : (n k : ℕ) (p : PortSpan) → slice_get spans n ≡ Some p → k < p.count → slice_get (sample_shapes own) (p.first + k) ≡ Some (shape_written p.format)
  span_shape n k p at below =
      let x = shape_at own 0 own.things n k (place_of_span p) (sym (ap (λ l. slice_get l n) are) ∙ slice_get-map place_of_span spans n ∙ ap (option_map place_of_span) at) below in
      let start : p.first ≡ x.0 = x.1 ∙ omega arith in
      ap (λ i. slice_get (sample_shapes own) (i + k)) start ∙ x.2

  -- a sample is cast to the format of its port
  sample_fits : ElementsKeep own (λ cells samples. WrittenFit spans samples)
  sample_fits s m j (Var None a) v fits is legal below = fits
  sample_fits s m j (Var (Some shape) a) v fits is legal below = fits
  sample_fits s m j (Array None size a) v fits is legal below = fits
  sample_fits s m j (Array (Some shape) size a) v fits is legal below = fits
  sample_fits s m j (Port word None rate delay) v fits is legal below = fits
  sample_fits s m j (Port word (Some shape) rate delay) v fits is legal below = λ n k p at written inside. at_place n k p at written inside (cases_eq (p.first + k) (first_sample own m + j))
    where
      at_place : (n k : ℕ) (p : PortSpan) → slice_get spans n ≡ Some p → is_written p.word ≡ true → k < p.count → (p.first + k ≡ first_sample own m + j) ⊎ (p.first + k ≢ first_sample own m + j)
          → IsOfWidth p.format.signed p.format.wl (cell_at (slice_set s.ports.samples (first_sample own m + j) (cast_number shape v)) (p.first + k))
      at_place n k p at written inside (inl same) =
          let one : shape ≡ shape_of_format p.format = same_Some shape (shape_of_format p.format) (same_Some (Some shape) (shape_written p.format)
          (sym (placed (samples_of own) shape_of own.things m j (Port word (Some shape) rate delay) is below) ∙ ap (slice_get (sample_shapes own)) (sym same) ∙ span_shape n k p at inside)) in
          subst (λ (f : Shape). IsOfWidth f.signed f.wl (cell_at (slice_set s.ports.samples (first_sample own m + j) (cast_number shape v)) (p.first + k))) one
          (subst (λ i. IsOfWidth shape.signed shape.wl (cell_at (slice_set s.ports.samples (first_sample own m + j) (cast_number shape v)) i)) (sym same)
          (set_in shape.signed shape.wl s.ports.samples (first_sample own m + j) (cast_number shape v) (in_range shape.over shape.signed shape.wl _ legal.0.some_bits)))
      at_place n k p at written inside (inr other) =
          subst (IsOfWidth p.format.signed p.format.wl) (sym (get_or-set_other s.ports.samples (first_sample own m + j) (p.first + k) (cast_number shape v) (pos 0) other)) (fits n k p at written inside)
  sample_fits s m j _ v fits is legal below = fits

pub bodies_keep_samples : BodiesKeepSamples
bodies_keep_samples model checked number p part s is at most fits =
    let k = kept_at (globals_of model.globals) (blocks_of model.globals) checked.blocks.items number p is at in
    let own = (scope_of (globals_of model.globals) p).own in
    let spans = spans_in (slice_get checked.blocks.items number) in
    let are : map place_of_span spans ≡ port_places own = ap (λ o. map place_of_span (spans_in o)) k.at ∙ k.is.spans in
    body_keeps (globals_of model.globals) p (slice_get checked.blocks.items number) k (λ cells samples. WrittenFit spans samples) (sample_fits own spans are) part s most fits

-- ---- all blocks

block_ports : (globals : Names) (ps : List PureBlock) (bs : List Block) (n : ℕ) → AreBlocksOf globals ps bs → AreConsecutive 0 (spans_in (slice_get bs n))
block_ports globals ps [] n are = tt
block_ports globals [] (b ∷ bs) n are = absurd are
block_ports globals (p ∷ ps) (b ∷ bs) zero are = consecutive (scope_of globals p).own 0 (scope_of globals p).own.things b.ports.spans.items are.0.spans
block_ports globals (p ∷ ps) (b ∷ bs) (suc n) are = block_ports globals ps bs n are.1

pub ports_lie : PortsLieInOrder
ports_lie model checked number is = block_ports (globals_of model.globals) (blocks_of model.globals) checked.blocks.items number is
