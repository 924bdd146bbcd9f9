-- The numbers of a driver's cells, samples, ports and events among those of its block.
use Rattle.std.proofs.Common.{◌≡◌, ◌∙◌, ℕ, zero, suc, ◌+◌, ◌*◌, ◌<◌, ◌≤◌, List, [], ◌∷◌, length, Some, slice_get, refl, ap, arith}
use Rattle.tdf_expr_semantics.specs.Places.{before, cells_of, events_of, event_number, first_cell, first_sample, port_number, ports_of, samples_of}
use Rattle.tdf_expr_symbols.specs.Names.{Event, Names, Thing}
use Rattle.tdf_expr_symbols.specs.Scope.{greatest_of}
use Rattle.tdf_stim.specs.Signals.{Column}
use Rattle.tdf_stim_body.specs.Names.{HasDriverNames, array_thing, count_thing, port_thing}
use Rattle.tdf_stim_body.specs.Runs.{count_cell}

pub before_none : (count : Thing → ℕ) (things : List Thing) → before count things 0 ≡ 0
unfolding before
before_none count [] = refl
before_none count (x ∷ xs) = refl

pub before_next : (count : Thing → ℕ) (things : List Thing) (n : ℕ) (t : Thing) → slice_get things n ≡ Some t → before count things (n + 1) ≡ before count things n + count t
unfolding before
before_next count [] n t at = absurd (cc)
before_next count (x ∷ xs) zero t at =
    let same : x ≡ t = cc in
    let none = before_none count xs in
    let one = ap count same in
    let g : count x + before count xs 0 ≡ 0 + count t = omega (arith, none, one) in g
before_next count (x ∷ xs) (suc n) t at =
    let f : suc n + 1 ≡ suc (n + 1) = omega arith in
    let e = before_next count xs n t at in
    let g : count x + before count xs (n + 1) ≡ count x + before count xs n + count t = omega (arith, e) in
    ap (before count (x ∷ xs)) f ∙ g

pub has_item : {A : Type 0} (xs : List A) (n : ℕ) → n < length xs → (x : A) × (slice_get xs n ≡ Some x)
has_item [] n inside = absurd (omega (arith, inside))
has_item (x ∷ xs) zero inside = (x, refl)
has_item (x ∷ xs) (suc n) inside = has_item xs n (omega (arith, inside))

module _ (own : Names) (columns : List Column) (rows : ℕ) (names : HasDriverNames own columns rows) where
  two_next : (count : Thing → ℕ) (j : ℕ) (c : Column) → slice_get columns j ≡ Some c
      → before count own.things (2 * (j + 1)) ≡ before count own.things (2 * j) + count (port_thing c) + count (array_thing c)
  two_next count j c at =
      let f : 2 * (j + 1) ≡ 2 * j + 1 + 1 = omega arith in
      ap (before count own.things) f ∙ before_next count own.things (2 * j + 1) (array_thing c) (names.array j c at).is
      ∙ ap (λ n. n + count (array_thing c)) (before_next count own.things (2 * j) (port_thing c) (names.port j c at).is)

  each_column : (count : Thing → ℕ) (each : ℕ) → ((j : ℕ) (c : Column) → slice_get columns j ≡ Some c → count (port_thing c) + count (array_thing c) ≡ each)
      → (j : ℕ) → j ≤ length columns → before count own.things (2 * j) ≡ each * j
  each_column count each same zero low = before_none count own.things ∙ (let e : 0 ≡ each * 0 = omega arith in e)
  each_column count each same (suc j) low =
      let c = has_item columns j (omega (arith, low)) in
      let f : 2 * suc j ≡ 2 * (j + 1) = omega arith in
      let next = two_next count j c.0 c.1 in
      let one = same j c.0 c.1 in
      let before_it = each_column count each same j (omega (arith, low)) in
      let g : each * suc j ≡ each * j + each = omega arith in
      ap (before count own.things) f ∙ next ∙ (let h : before count own.things (2 * j) + count (port_thing c.0) + count (array_thing c.0) ≡ each * suc j = omega (arith, before_it, one, g) in h)

  column_inside : (j : ℕ) (c : Column) → slice_get columns j ≡ Some c → j < length columns
  column_inside j c at = inside_of columns j c at
    where
      inside_of : (xs : List Column) (n : ℕ) (x : Column) → slice_get xs n ≡ Some x → n < length xs
      inside_of [] n x there = absurd (cc)
      inside_of (y ∷ ys) zero x there = omega arith
      inside_of (y ∷ ys) (suc n) x there = let more = inside_of ys n x there in omega (arith, more)

  cells_before : (j : ℕ) → j ≤ length columns → before cells_of own.things (2 * j) ≡ rows * j
  cells_before j low = each_column cells_of rows (λ i c at. (let e = names.cells i c at in omega (arith, e))) j low

  pub array_cell : (j : ℕ) (c : Column) → slice_get columns j ≡ Some c → first_cell own (2 * j + 1) ≡ rows * j
  array_cell j c at =
      let low = column_inside j c at in
      let e = before_next cells_of own.things (2 * j) (port_thing c) (names.port j c at).is in
      let f = cells_before j (omega (arith, low)) in
      e ∙ (let g : before cells_of own.things (2 * j) + 0 ≡ rows * j = omega (arith, f) in g)

  pub count_first : first_cell own (2 * length columns) ≡ count_cell columns rows
  count_first = cells_before (length columns) (omega arith)

  one_sample : (j : ℕ) (c : Column) → slice_get columns j ≡ Some c → samples_of own (port_thing c) + samples_of own (array_thing c) ≡ 1
  unfolding greatest_of
  one_sample j c at = refl

  pub port_sample : (j : ℕ) (c : Column) → slice_get columns j ≡ Some c → first_sample own (2 * j) ≡ j
  port_sample j c at =
      let low = column_inside j c at in
      each_column (samples_of own) 1 one_sample j (omega (arith, low)) ∙ (let g : 1 * j ≡ j = omega arith in g)

  pub port_mark : (j : ℕ) (c : Column) → slice_get columns j ≡ Some c → port_number own (2 * j) ≡ j
  port_mark j c at =
      let low = column_inside j c at in
      each_column ports_of 1 (λ i x there. refl) j (omega (arith, low)) ∙ (let g : 1 * j ≡ j = omega arith in g)

  pub event_notice : (i : ℕ) → i + 1 < rows → event_number own (2 * length columns + (i + 1)) ≡ i
  event_notice zero less =
      let none = each_column events_of 0 (λ i x there. refl) (length columns) (omega arith) in
      let z : 0 * length columns ≡ 0 = omega arith in
      before_next events_of own.things (2 * length columns) count_thing names.count.is
      ∙ (let g : before events_of own.things (2 * length columns) + 0 ≡ 0 = omega (arith, none, z) in g)
  event_notice (suc i) less =
      let f : 2 * length columns + (suc i + 1) ≡ 2 * length columns + (i + 1) + 1 = omega arith in
      let e = event_notice i (omega (arith, less)) in
      ap (before events_of own.things) f
      ∙ before_next events_of own.things (2 * length columns + (i + 1)) Event (names.event i (omega (arith, less))).is
      ∙ (let g : before events_of own.things (2 * length columns + (i + 1)) + 1 ≡ suc i = omega (arith, e) in g)
