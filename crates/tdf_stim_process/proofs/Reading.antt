-- What is read off the checked block of a driver.
use Rattle.std.proofs.Common.{◌≡◌, ◌∙◌, ℕ, zero, suc, ◌+◌, ◌-◌, ◌*◌, ◌<◌, true, List, [], ◌∷◌, ◌++◌, map, replicate, length, Some, slice_get, slice_index_or, refl, sym, ap, arith, ℤ, pos}
use Rattle.std.proofs.lemmas.List.{append-nil, length-append, length-map}
use Rattle.std.specs.List.{flat_map}
use Rattle.tdf_base.specs.Number.{numeral_of}
use Rattle.tdf_bind.specs.declared.model.Flat.{Flat}
use Rattle.tdf_bind_connections.specs.ProcessBlocks.{BlockRowOf}
use Rattle.tdf_expr.specs.Blocks.{Events}
use Rattle.tdf_expr.specs.Checked.{IsCheckedOf}
use Rattle.tdf_expr.specs.Made.{event_count, port_spans_of, start_cells}
use Rattle.tdf_expr.specs.Plans.{PortPlace, place_of_span, places_from, shape_of_format, start_number, starts_of}
use Rattle.tdf_expr.specs.declared.spans.PortSpan.{PortSpan}
use Rattle.tdf_expr_laws.specs.Checked.{CheckedIsOfTree, IsReadOff}
use Rattle.tdf_expr_semantics.specs.Places.{events_of, total}
use Rattle.tdf_expr_state.specs.State.{cell_at}
use Rattle.tdf_expr_symbols.specs.Names.{Event, Names, de_names, globals_of}
use Rattle.tdf_expr_symbols.specs.Scope.{greatest_of}
use Rattle.tdf_fixed.specs.Literal.{placed_fraction}
use Rattle.tdf_fixed.specs.Overflow.{overflowed, wrapped}
use Rattle.tdf_fixed.specs.Quantise.{rounded_whole}
use Rattle.tdf_lang_printer.specs.Canon.{dont_lines}
use Rattle.tdf_lang_tree.specs.Pure.{PureTree}
use Rattle.tdf_lang_tree.specs.declared.blocks.PortKind.TheVariants.{DeOut}
use Rattle.tdf_lang_tree.specs.declared.names.Lit.{Lit}
use Rattle.tdf_lang_tree.specs.declared.shapes.Shape.{Shape}
use Rattle.tdf_stim.specs.Driver.{cell_literal, driver_block, driver_process, literals}
use Rattle.tdf_stim.specs.Signals.{Column, count_shape}
use Rattle.tdf_stim_body.proofs.Api.{columns_things, driver_names_stand, tail_things, things_are}
use Rattle.tdf_stim_body.specs.Names.{array_thing, no_runs}
use Rattle.tdf_stim_body.specs.Runs.{count_cell}
use Rattle.tdf_stim_lines.specs.Numbered.{de_at}
use Rattle.tdf_stim_process.specs.Laws.{TextGivesInstance}
use Rattle.tdf_stim_process.specs.Placed.{IsColumnSpan, IsDriverInstance, IsDriverText, row_value}

-- ---- ports

abbrev port_place : ℕ → Column → PortPlace
port_place first c = record { word = DeOut; shape = Some c.shape; first = first; count = 1 }

no_ports : (own : Names) (first n : ℕ) → places_from own first (replicate n Event) ≡ []
unfolding places_from
no_ports own first zero = refl
no_ports own first (suc n) = no_ports own first n

abbrev places_by : ℕ → List Column → List PortPlace
places_by first [] = []
places_by first (c ∷ cs) = port_place first c ∷ places_by (first + 1) cs

places_are : (own : Names) (first n : ℕ) (columns : List Column) → places_from own first (columns_things columns ++ tail_things n) ≡ places_by first columns
unfolding places_from greatest_of
places_are own first n [] = no_ports own first n
places_are own first n (c ∷ cs) = ap (λ (l : List PortPlace). port_place first c ∷ l) (places_are own (first + 1) n cs)

places_long : (first : ℕ) (columns : List Column) → length (places_by first columns) ≡ length columns
places_long first [] = refl
places_long first (c ∷ cs) = ap suc (places_long (first + 1) cs)

place_at : (first : ℕ) (columns : List Column) (j : ℕ) (c : Column) → slice_get columns j ≡ Some c → slice_get (places_by first columns) j ≡ Some (port_place (first + j) c)
place_at first [] j c at = absurd (cc)
place_at first (k ∷ ks) zero c at = (let same : k ≡ c = cc in let f : first ≡ first + 0 = omega arith in ap (λ (x : Column). Some (port_place first x)) same ∙ ap (λ i. Some (port_place i c)) f)
place_at first (k ∷ ks) (suc j) c at = (let f : first + 1 + j ≡ first + suc j = omega arith in place_at (first + 1) ks j c at ∙ ap (λ i. Some (port_place i c)) f)

-- a span by its place
record IsSpanAt (spans : List PortSpan) (j first : ℕ) (c : Column) : Type 0 where
  span : PortSpan
  at : slice_get spans j ≡ Some span
  start : span.first ≡ first
  shape : shape_of_format span.format ≡ c.shape

shape_same : (x y : Shape) → Some x ≡ Some y → x ≡ y
shape_same x y e = cc

place_same : (x y : PortPlace) → Some x ≡ Some y → x ≡ y
place_same x y e = cc

span_by : (spans : List PortSpan) (j first : ℕ) (c : Column) → slice_get (map place_of_span spans) j ≡ Some (port_place first c) → IsSpanAt spans j first c
span_by [] j first c at = absurd (cc)
span_by (p ∷ ps) zero first c at =
    let same : place_of_span p ≡ port_place first c = place_same (place_of_span p) (port_place first c) at in
    record {
      span = p;
      at = refl;
      start = ap (λ (x : PortPlace). x.first) same;
      shape = shape_same (shape_of_format p.format) c.shape (ap (λ (x : PortPlace). x.shape) same);
    }
span_by (p ∷ ps) (suc j) first c at =
    let rest : IsSpanAt ps j first c = span_by ps j first c at in
    record { span = rest.span; at = rest.at; start = rest.start; shape = rest.shape }

-- ---- events

total_replicate : (n : ℕ) → total events_of (replicate n Event) ≡ n
unfolding total
total_replicate zero = refl
total_replicate (suc n) = (let e = total_replicate n in let g : 1 + total events_of (replicate n Event) ≡ suc n = omega (arith, e) in g)

events_total : (n : ℕ) (columns : List Column) → total events_of (columns_things columns ++ tail_things n) ≡ n
unfolding total
events_total n [] = (let e = total_replicate n in let g : 0 + total events_of (replicate n Event) ≡ n = omega (arith, e) in g)
events_total n (c ∷ cs) = (let e = events_total n cs in let g : 0 + (0 + total events_of (columns_things cs ++ tail_things n)) ≡ n = omega (arith, e) in g)

-- ---- cells

literals_long : (above : Lit) (cells : List (List ℕ)) → length (literals above cells) ≡ length cells
unfolding literals
literals_long above [] = refl
literals_long above (cell ∷ cells) = ap suc (literals_long (cell_literal above cell) cells)

no_cells : (n : ℕ) → flat_map starts_of (replicate n Event) ≡ []
no_cells zero = refl
no_cells (suc n) = no_cells n

count_start : start_number (Some count_shape) no_runs ≡ pos 0
unfolding numeral_of overflowed wrapped placed_fraction rounded_whole
count_start = refl

abbrev array_starts : Column → List ℤ
array_starts c = map (start_number (Some c.shape)) (literals c.start c.cells)

-- an array has a literal for each element
starts_are : (c : Column) → starts_of (array_thing c) ≡ array_starts c
starts_are c =
    let long = literals_long c.start c.cells in
    let none : length c.cells - length (literals c.start c.cells) ≡ 0 = omega (arith, long) in
    ap (λ n. array_starts c ++ replicate n (pos 0)) none ∙ append-nil (array_starts c)

starts_long : (c : Column) (rows : ℕ) → length c.cells ≡ rows → length (array_starts c) ≡ rows
starts_long c rows all = length-map (literals c.start c.cells) (start_number (Some c.shape)) ∙ literals_long c.start c.cells ∙ all

abbrev cells_by : List Column → ℕ → List ℤ
cells_by columns n = flat_map starts_of (columns_things columns ++ tail_things n)

cells_more : (c : Column) (cs : List Column) (n : ℕ) → cells_by (c ∷ cs) n ≡ array_starts c ++ cells_by cs n
cells_more c cs n = ap (λ (l : List ℤ). l ++ cells_by cs n) (starts_are c)

cells_last : (n : ℕ) → cells_by [] n ≡ pos 0 ∷ []
cells_last n = ap (λ (z : ℤ). z ∷ flat_map starts_of (replicate n Event)) count_start ∙ ap (λ (l : List ℤ). pos 0 ∷ l) (no_cells n)

-- the element behind the first of two lists
behind : (xs ys : List ℤ) (k : ℕ) → cell_at (xs ++ ys) (length xs + k) ≡ cell_at ys k
behind [] ys k = (let f : 0 + k ≡ k = omega arith in ap (cell_at ys) f)
behind (x ∷ xs) ys k = (let f : suc (length xs) + k ≡ suc (length xs + k) = omega arith in ap (cell_at (x ∷ (xs ++ ys))) f ∙ behind xs ys k)

before : (xs ys : List ℤ) (k : ℕ) → k < length xs → cell_at (xs ++ ys) k ≡ cell_at xs k
before [] ys k less = absurd (omega (arith, less))
before (x ∷ xs) ys zero less = refl
before (x ∷ xs) ys (suc k) less = before xs ys k (omega (arith, less))

mapped : (shape : Shape) (lits : List Lit) (k : ℕ) (d : Lit) → k < length lits → cell_at (map (start_number (Some shape)) lits) k ≡ start_number (Some shape) (slice_index_or lits k d)
mapped shape [] k d less = absurd (omega (arith, less))
mapped shape (l ∷ ls) zero d less = refl
mapped shape (l ∷ ls) (suc k) d less = mapped shape ls k d (omega (arith, less))

abbrev AllHave : List Column → ℕ → Type 0
AllHave columns rows = (j : ℕ) (c : Column) → slice_get columns j ≡ Some c → length c.cells ≡ rows

rest_have : (c : Column) (cs : List Column) (rows : ℕ) → AllHave (c ∷ cs) rows → AllHave cs rows
rest_have c cs rows all j k at = all (suc j) k at

cell_is : (rows n : ℕ) (columns : List Column) (j row : ℕ) (c : Column) → AllHave columns rows → slice_get columns j ≡ Some c → row < rows → cell_at (cells_by columns n) (rows * j + row) ≡ (row_value c row).num
cell_is rows n [] j row c all at less = absurd (cc)
cell_is rows n (k ∷ ks) zero row c all at less =
    let same : k ≡ c = cc in
    let long = starts_long k rows (all 0 k refl) in
    let f : rows * 0 + row ≡ row = omega arith in
    let inside : row < length (literals k.start k.cells) = (let l = literals_long k.start k.cells in let e = all 0 k refl in omega (arith, l, e, less)) in
    ap (λ (l : List ℤ). cell_at l (rows * 0 + row)) (cells_more k ks n) ∙ ap (cell_at (array_starts k ++ cells_by ks n)) f
    ∙ before (array_starts k) (cells_by ks n) row (omega (arith, long, less)) ∙ mapped k.shape (literals k.start k.cells) row k.start inside
    ∙ ap (λ (x : Column). (row_value x row).num) same
cell_is rows n (k ∷ ks) (suc j) row c all at less =
    let long = starts_long k rows (all 0 k refl) in
    let g : rows * suc j ≡ rows * j + rows = omega arith in
    let f : rows * suc j + row ≡ length (array_starts k) + (rows * j + row) = omega (arith, long, g) in
    ap (λ (l : List ℤ). cell_at l (rows * suc j + row)) (cells_more k ks n) ∙ ap (cell_at (array_starts k ++ cells_by ks n)) f
    ∙ behind (array_starts k) (cells_by ks n) (rows * j + row) ∙ cell_is rows n ks j row c (rest_have k ks rows all) at less

count_is : (rows n : ℕ) (columns : List Column) → AllHave columns rows → cell_at (cells_by columns n) (rows * length columns) ≡ pos 0
count_is rows n [] all = (let f : rows * 0 ≡ 0 = omega arith in ap (cell_at (cells_by [] n)) f ∙ ap (λ (l : List ℤ). cell_at l 0) (cells_last n))
count_is rows n (k ∷ ks) all =
    let long = starts_long k rows (all 0 k refl) in
    let g : rows * suc (length ks) ≡ rows * length ks + rows = omega arith in
    let f : rows * suc (length ks) ≡ length (array_starts k) + rows * length ks = omega (arith, long, g) in
    ap (λ (l : List ℤ). cell_at l (rows * suc (length ks))) (cells_more k ks n) ∙ ap (cell_at (array_starts k ++ cells_by ks n)) f
    ∙ behind (array_starts k) (cells_by ks n) (rows * length ks) ∙ count_is rows n ks (rest_have k ks rows all)

cells_long : (rows n : ℕ) (columns : List Column) → AllHave columns rows → length (cells_by columns n) ≡ rows * length columns + 1
cells_long rows n [] all = ap length (cells_last n) ∙ (let f : 1 ≡ rows * 0 + 1 = omega arith in f)
cells_long rows n (k ∷ ks) all =
    let long = starts_long k rows (all 0 k refl) in
    let rest = cells_long rows n ks (rest_have k ks rows all) in
    let both = length-append (array_starts k) (cells_by ks n) in
    let g : rows * suc (length ks) ≡ rows * length ks + rows = omega arith in
    ap length (cells_more k ks n) ∙ (let f : length (array_starts k ++ cells_by ks n) ≡ rows * suc (length ks) + 1 = omega (arith, long, rest, both, g) in f)

-- ---- the instance

-- the line of the body in the block
abbrev body_line : ℕ → List ℕ → List Column → List ℕ → ℕ
body_line at name columns times =
    at + 1 + length (driver_block name columns times).decls + 1 + length (driver_process (length columns) times).sensitive + length (dont_lines true)

module _ (reads : CheckedIsOfTree) (model : PureTree) (flat : Flat) (columns : List Column) (times : List ℕ) (owner : ℕ) (block : BlockRowOf)
    (checked : IsCheckedOf model flat.checked) (some : 0 < length times) (t : IsDriverText model flat columns times owner block) where
  abbrev globals : Names
  globals = globals_of model.globals

  abbrev own : Names
  own = de_names globals (de_at t.line (driver_block t.name columns times))

  read : IsReadOff own flat.checked block.block
  read = (reads model flat.checked checked).each block.block (Events (de_at t.line (driver_block t.name columns times))) t.text

  things : own.things ≡ columns_things columns ++ tail_things (length times - 1)
  things = things_are globals t.names t.name columns times t.line t.once

  places : map place_of_span (port_spans_of flat.checked block.block) ≡ places_by 0 columns
  places = read.ports ∙ ap (places_from own 0) things ∙ places_are own 0 (length times - 1) columns

  spans_long : length (port_spans_of flat.checked block.block) ≡ length columns
  spans_long = sym (length-map (port_spans_of flat.checked block.block) place_of_span) ∙ ap length places ∙ places_long 0 columns

  span_of : (j : ℕ) (c : Column) → slice_get columns j ≡ Some c → IsColumnSpan (port_spans_of flat.checked block.block) j c
  span_of j c at =
      let f : 0 + j ≡ j = omega arith in
      let found : IsSpanAt (port_spans_of flat.checked block.block) j (0 + j) c = span_by (port_spans_of flat.checked block.block) j (0 + j) c (ap (λ (l : List PortPlace). slice_get l j) places ∙ place_at 0 columns j c at) in
      record { span = found.span; at = found.at; first = found.start ∙ f; shape = found.shape }

  starts : start_cells flat.checked block.block ≡ cells_by columns (length times - 1)
  starts = read.starts ∙ ap (flat_map starts_of) things

  instance : IsDriverInstance model flat columns times owner block
  instance = record {
    at = t.at;
    de = de_at t.line (driver_block t.name columns times);
    text = t.text;
    names = driver_names_stand globals t.names t.name columns times t.line t.cells t.once;
    line = body_line t.line t.name columns times;
    body = refl;
    ports = t.ports;
    spans = spans_long;
    span = span_of;
    apart = t.apart;
    signals = t.signals;
    cells = ap length starts ∙ cells_long (length times) (length times - 1) columns t.cells;
    cell = λ j row c at less. ap (λ (l : List ℤ). cell_at l (length times * j + row)) starts ∙ cell_is (length times) (length times - 1) columns j row c t.cells at less;
    count = ap (λ (l : List ℤ). cell_at l (count_cell columns (length times))) starts ∙ count_is (length times) (length times - 1) columns t.cells;
  }

  events : event_count flat.checked block.block ≡ length times - 1
  events = read.events ∙ ap (total events_of) things ∙ events_total (length times - 1) columns

pub text_gives_instance : CheckedIsOfTree → TextGivesInstance
text_gives_instance reads model flat columns times owner block checked some t =
    (instance reads model flat columns times owner block checked some t, events reads model flat columns times owner block checked some t)
