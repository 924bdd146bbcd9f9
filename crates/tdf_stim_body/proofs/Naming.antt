-- Lines that declare no name twice: each name stands at the place of its line.
use Rattle.std.proofs.Common.{◌≡◌, ◌∙◌, ℕ, zero, suc, ◌+◌, ◌-◌, ◌*◌, ◌<◌, Bool, true, false, not, ◌||◌, nat_eq, nat_lt, cond, if◌then◌else◌, List, [], ◌∷◌, ◌++◌, map, length, Some, None, slice_get, refl, sym, ap, subst, inl, inr, arith}
use Rattle.std.proofs.lemmas.Bool.Decides.{eqb_tells, leb_tells}
use Rattle.std.proofs.lemmas.List.{append_assoc, append-nil, length-map}
use Rattle.std.proofs.lemmas.Option.{slice_get-map, slice_get_within}
use Rattle.std.specs.Cmp.Lexicographic.{pointwise}
use Rattle.std.specs.List.{list_any, position_or_len, range_with_len}
use Rattle.std.specs.Prelude.{codes, option_map}
use Rattle.tdf_base.proofs.Api.{if_none}
use Rattle.tdf_base.specs.declared.codes.Code.TheVariants.{Duplicate}
use Rattle.tdf_base.specs.declared.first.LineFault.{LineFault}
use Rattle.tdf_expr_names.specs.Names.{de_line_name_faults, de_lines_faults, declares, format_name_faults, has, names_of_de_line, with_declared, with_names}
use Rattle.tdf_expr_symbols.specs.Names.{Array, Const, Event, Names, Port, Thing, Var, de_names, format_of, no_names, place_in, place_of, with_de_line, with_de_lines, with_name}
use Rattle.tdf_lang_tree.specs.Pure.{DEvent, DPort, DStore, PureDeLine, PureStore, SArray, SConst, SVar}
use Rattle.tdf_lang_tree.specs.declared.blocks.PortKind.TheVariants.{DeOut}
use Rattle.tdf_lang_tree.specs.declared.shapes.FormatRef.TheVariants.{Own}
use Rattle.tdf_lang_tree.specs.declared.stmt.Limit.TheVariants.{Int}
use Rattle.tdf_stim.specs.Driver.{array_name, columns_lines, count_line, driver_block, event_line, event_name, event_numbers, literals, port_name}
use Rattle.tdf_stim.specs.Signals.{Column}
use Rattle.tdf_stim_body.specs.Laws.{DriverNamesStand}
use Rattle.tdf_stim_body.specs.Names.{IsNameAt, array_thing, count_thing, port_thing}
use Rattle.tdf_stim_lines.specs.Numbered.{de_at, de_line_at, lines_at}

-- what a line declares
abbrev pub store_name : PureStore → List ℕ
store_name (SConst line name format value) = name
store_name (SVar line name format value) = name
store_name (SArray line name format size values) = name

abbrev pub store_thing : Names → PureStore → Thing
store_thing globals (SConst line name format value) = Const (format_of globals format) value
store_thing globals (SVar line name format value) = Var (format_of globals format) value
store_thing globals (SArray line name format size values) = Array (format_of globals format) size values

abbrev pub line_name : PureDeLine → List ℕ
line_name (DPort port) = port.name
line_name (DStore store) = store_name store
line_name (DEvent line name) = name

abbrev pub line_thing : Names → PureDeLine → Thing
line_thing globals (DPort port) = Port port.kind (format_of globals port.format) (Int 1) 0
line_thing globals (DStore store) = store_thing globals store
line_thing globals (DEvent line name) = Event

declares_is : (globals : Names) (d : PureDeLine) (s : Names) → with_de_line globals d s ≡ with_name (line_name d) (line_thing globals d) s
declares_is globals (DPort port) s = refl
declares_is globals (DStore (SConst line name format value)) s = refl
declares_is globals (DStore (SVar line name format value)) s = refl
declares_is globals (DStore (SArray line name format size values)) s = refl
declares_is globals (DEvent line name) s = refl

names_are : (d : PureDeLine) → names_of_de_line d ≡ line_name d ∷ []
names_are (DPort port) = refl
names_are (DStore (SConst line name format value)) = refl
names_are (DStore (SVar line name format value)) = refl
names_are (DStore (SArray line name format size values)) = refl
names_are (DEvent line name) = refl

abbrev pub both : List (List ℕ) → List Thing → Names
both names things = record { names = names; things = things }

-- lines each of which declares a name that isn't there yet
abbrev pub AreFresh : List (List ℕ) → List PureDeLine → Type 0
AreFresh locals [] = Unit {0}
AreFresh locals (d ∷ ds) = (has locals (line_name d) ≡ false) × AreFresh (locals ++ line_name d ∷ []) ds

first_none : (xs ys : List LineFault) → xs ++ ys ≡ [] → xs ≡ []
first_none [] ys e = refl
first_none (x ∷ xs) ys e = absurd (cc)

second_none : (xs ys : List LineFault) → xs ++ ys ≡ [] → ys ≡ []
second_none [] ys e = e
second_none (x ∷ xs) ys e = absurd (cc)

not_there : (locals : List (List ℕ)) (line : ℕ) (name : List ℕ) → declares locals line name ≡ [] → has locals name ≡ false
not_there locals line name none = if_none (has locals name) Duplicate line none

line_fresh : (globals locals : List (List ℕ)) (d : PureDeLine) → de_line_name_faults globals locals d ≡ [] → has locals (line_name d) ≡ false
line_fresh globals locals (DPort port) none = not_there locals port.line port.name (first_none (declares locals port.line port.name) (format_name_faults globals port.line port.format) none)
line_fresh globals locals (DStore (SConst line name format value)) none = not_there locals line name (first_none (declares locals line name) (format_name_faults globals line format) none)
line_fresh globals locals (DStore (SVar line name format value)) none = not_there locals line name (first_none (declares locals line name) (format_name_faults globals line format) none)
line_fresh globals locals (DStore (SArray line name format size values)) none = not_there locals line name (first_none (declares locals line name) (format_name_faults globals line format) none)
line_fresh globals locals (DEvent line name) none = not_there locals line name none

pub all_fresh : (globals locals : List (List ℕ)) (ds : List PureDeLine) → de_lines_faults globals locals ds ≡ [] → AreFresh locals ds
all_fresh globals locals [] none = tt
all_fresh globals locals (d ∷ ds) none =
    let here : has locals (line_name d) ≡ false = line_fresh globals locals d (first_none (de_line_name_faults globals locals d) _ none) in
    let next : with_declared locals (line_name d) ≡ locals ++ line_name d ∷ [] = ap (λ (b : Bool). if b then locals else locals ++ line_name d ∷ []) here in
    let rest : de_lines_faults globals (with_declared locals (line_name d)) ds ≡ [] =
    subst (λ (ns : List (List ℕ)). de_lines_faults globals (with_names locals ns) ds ≡ []) (names_are d) (second_none (de_line_name_faults globals locals d) _ none) in
    (here, all_fresh globals (locals ++ line_name d ∷ []) ds (subst (λ (l : List (List ℕ)). de_lines_faults globals l ds ≡ []) next rest))

-- all names and things, in the order of the lines
pub all_names : (globals : Names) (ds : List PureDeLine) (s : Names) → AreFresh s.names ds
    → with_de_lines globals ds s ≡ record { names = s.names ++ map line_name ds; things = s.things ++ map (line_thing globals) ds }
unfolding with_de_lines with_name
all_names globals [] s fresh = sym (ap (λ (l : List (List ℕ)). both l (s.things ++ [])) (append-nil s.names) ∙ ap (λ (l : List Thing). both s.names l) (append-nil s.things))
all_names globals (d ∷ ds) s fresh =
    let next : Names = both (s.names ++ line_name d ∷ []) (s.things ++ line_thing globals d ∷ []) in
    let one : with_de_line globals d s ≡ next = declares_is globals d s ∙ ap (λ (b : Bool). if b then s else next) fresh.0 in
    ap (with_de_lines globals ds) one ∙ all_names globals ds next fresh.1
    ∙ ap (λ (l : List (List ℕ)). both l (next.things ++ map (line_thing globals) ds)) (append_assoc s.names (line_name d ∷ []) (map line_name ds))
    ∙ ap (λ (l : List Thing). both (s.names ++ map line_name (d ∷ ds)) l) (append_assoc s.things (line_thing globals d ∷ []) (map (line_thing globals) ds))

-- a name stands where its line does
text_same : (xs : List ℕ) → pointwise nat_eq xs xs ≡ true
text_same [] = refl
text_same (x ∷ xs) = elim (eqb_tells x x) [ inl y ↦ rw (y.0) (text_same xs) | inr n ↦ absurd (n.1 refl) ]

any_first : (p : List ℕ → Bool) (xs : List (List ℕ)) (x : List ℕ) → list_any p (xs ++ x ∷ []) ≡ false → (list_any p xs ≡ false) × (p x ≡ false)
any_first p [] x none = (refl, or_left (p x) false none)
  where
    or_left : (a b : Bool) → (a || b) ≡ false → a ≡ false
    or_left true b h = absurd (cc)
    or_left false b h = refl
any_first p (y ∷ ys) x none = go (p y) refl none (any_first p ys x)
  where
    go : (b : Bool) → p y ≡ b → (b || list_any p (ys ++ x ∷ [])) ≡ false → (list_any p (ys ++ x ∷ []) ≡ false → (list_any p ys ≡ false) × (p x ≡ false)) → (list_any p (y ∷ ys) ≡ false) × (p x ≡ false)
    go true is h rest = absurd (cc)
    go false is h rest = (ap (λ (b : Bool). b || list_any p ys) is ∙ (rest h).0, (rest h).1)

-- a name that a line declares is neither among the earlier ones nor before its place
record StandsOnce (locals : List (List ℕ)) (ds : List PureDeLine) (n : ℕ) (d : PureDeLine) : Type 0 where
  apart : has locals (line_name d) ≡ false
  place : position_or_len (pointwise nat_eq (line_name d)) (map line_name ds) ≡ n

once : (locals : List (List ℕ)) (ds : List PureDeLine) (n : ℕ) (d : PureDeLine) → AreFresh locals ds → slice_get ds n ≡ Some d → StandsOnce locals ds n d
once locals [] n d fresh at = absurd (cc)
once locals (e ∷ es) zero d fresh at =
    let same : e ≡ d = cc in
    record {
      apart = ap (λ (x : PureDeLine). has locals (line_name x)) (sym same) ∙ fresh.0;
      place = ap (λ (x : PureDeLine). position_or_len (pointwise nat_eq (line_name d)) (line_name x ∷ map line_name es)) same
          ∙ ap (λ (b : Bool). cond (not b) (1 + position_or_len (pointwise nat_eq (line_name d)) (map line_name es)) 0) (text_same (line_name d));
    }
once locals (e ∷ es) (suc n) d fresh at =
    let rest : StandsOnce (locals ++ line_name e ∷ []) es n d = once (locals ++ line_name e ∷ []) es n d fresh.1 at in
    let parts = any_first (pointwise nat_eq (line_name d)) locals (line_name e) rest.apart in
    record {
      apart = parts.0;
      place = ap (λ (b : Bool). cond (not b) (1 + position_or_len (pointwise nat_eq (line_name d)) (map line_name es)) 0) parts.1 ∙ (let p = rest.place in let g : 1 + position_or_len (pointwise nat_eq (line_name d)) (map line_name es) ≡ suc n = omega (arith, p) in g);
    }

-- the place of a name in a block
name_at : (globals : Names) (names : List (List ℕ)) (ds : List PureDeLine) (n : ℕ) (d : PureDeLine) → de_lines_faults names [] ds ≡ [] → slice_get ds n ≡ Some d
    → IsNameAt (with_de_lines globals ds no_names) (line_name d) n (line_thing globals d)
name_at globals names ds n d none at =
    let fresh : AreFresh [] ds = all_fresh names [] ds none in
    let all : with_de_lines globals ds no_names ≡ both (map line_name ds) (map (line_thing globals) ds) = all_names globals ds no_names fresh in
    let stands : StandsOnce [] ds n d = once [] ds n d fresh at in
    let inside : n < length (map line_name ds) = (let l = slice_get_within ds n d at in let e = length-map ds line_name in omega (arith, l, e)) in
    let found : place_in (map line_name ds) (line_name d) ≡ Some n =
    ap (λ k. cond (nat_lt k (length (map line_name ds))) (Some k) None) stands.place
    ∙ ap (λ (b : Bool). cond b (Some n) None) (elim (leb_tells (suc n) (length (map line_name ds))) [ inl y ↦ y.0 | inr m ↦ (let past = m.1 in absurd (omega (arith, past, inside))) ]) in
    record {
      place = ap (λ (s : Names). place_of s (line_name d)) all ∙ found;
      is = ap (λ (s : Names). slice_get s.things n) all ∙ slice_get-map (line_thing globals) ds n ∙ ap (option_map (line_thing globals)) at;
    }

-- a line keeps its name and its thing whatever its number
line_at : (at : ℕ) (ds : List PureDeLine) (n : ℕ) (d : PureDeLine) → slice_get ds n ≡ Some d → slice_get (lines_at de_line_at at ds) n ≡ Some (de_line_at (at + n) d)
line_at at [] n d there = absurd (cc)
line_at at (e ∷ es) zero d there = (let same : e ≡ d = cc in let f : at ≡ at + 0 = omega arith in ap (λ (x : PureDeLine). Some (de_line_at at x)) same ∙ ap (λ k. Some (de_line_at k d)) f)
line_at at (e ∷ es) (suc n) d there = (let f : at + 1 + n ≡ at + suc n = omega arith in line_at (at + 1) es n d there ∙ ap (λ k. Some (de_line_at k d)) f)

-- ---- the lines of the driver

get_first : {A : Type 0} (xs ys : List A) (n : ℕ) (x : A) → slice_get xs n ≡ Some x → slice_get (xs ++ ys) n ≡ Some x
get_first [] ys n x at = absurd (cc)
get_first (y ∷ xs) ys zero x at = at
get_first (y ∷ xs) ys (suc n) x at = get_first xs ys n x at

get_second : {A : Type 0} (xs ys : List A) (n : ℕ) → slice_get (xs ++ ys) (length xs + n) ≡ slice_get ys n
get_second [] ys n = (let f : 0 + n ≡ n = omega arith in ap (slice_get ys) f)
get_second (x ∷ xs) ys n = (let f : suc (length xs) + n ≡ suc (length xs + n) = omega arith in ap (slice_get (x ∷ (xs ++ ys))) f ∙ get_second xs ys n)

abbrev port_line : ℕ → Column → PureDeLine
port_line j c = DPort (record { line = 0; kind = DeOut; name = port_name j; format = Own c.shape })

abbrev array_line : ℕ → Column → PureDeLine
array_line j c = DStore (SArray 0 (array_name j) (Own c.shape) (length c.cells) (literals c.start c.cells))

columns_long : (a : ℕ) (columns : List Column) → length (columns_lines a columns) ≡ 2 * length columns
unfolding columns_lines
columns_long a [] = refl
columns_long a (c ∷ cs) = (let more = columns_long (a + 1) cs in let g : suc (suc (length (columns_lines (a + 1) cs))) ≡ 2 * suc (length cs) = omega (arith, more) in g)

port_there : (a : ℕ) (columns : List Column) (j : ℕ) (c : Column) → slice_get columns j ≡ Some c → slice_get (columns_lines a columns) (2 * j) ≡ Some (port_line (a + j) c)
unfolding columns_lines
port_there a [] j c at = absurd (cc)
port_there a (k ∷ ks) zero c at = (let same : k ≡ c = cc in let f : a ≡ a + 0 = omega arith in ap (λ (x : Column). Some (port_line a x)) same ∙ ap (λ i. Some (port_line i c)) f)
port_there a (k ∷ ks) (suc j) c at =
    let f : 2 * suc j ≡ suc (suc (2 * j)) = omega arith in
    let g : a + 1 + j ≡ a + suc j = omega arith in
    ap (slice_get (port_line a k ∷ (array_line a k ∷ columns_lines (a + 1) ks))) f ∙ port_there (a + 1) ks j c at ∙ ap (λ i. Some (port_line i c)) g

array_there : (a : ℕ) (columns : List Column) (j : ℕ) (c : Column) → slice_get columns j ≡ Some c → slice_get (columns_lines a columns) (2 * j + 1) ≡ Some (array_line (a + j) c)
unfolding columns_lines
array_there a [] j c at = absurd (cc)
array_there a (k ∷ ks) zero c at = (let same : k ≡ c = cc in let f : a ≡ a + 0 = omega arith in ap (λ (x : Column). Some (array_line a x)) same ∙ ap (λ i. Some (array_line i c)) f)
array_there a (k ∷ ks) (suc j) c at =
    let f : 2 * suc j + 1 ≡ suc (suc (2 * j + 1)) = omega arith in
    let g : a + 1 + j ≡ a + suc j = omega arith in
    ap (slice_get (port_line a k ∷ (array_line a k ∷ columns_lines (a + 1) ks))) f ∙ array_there (a + 1) ks j c at ∙ ap (λ i. Some (array_line i c)) g

range_there : (a n i : ℕ) → i < n → slice_get (range_with_len a n) i ≡ Some (a + i)
range_there a zero i less = absurd (omega (arith, less))
range_there a (suc n) zero less = (let f : a ≡ a + 0 = omega arith in ap Some f)
range_there a (suc n) (suc i) less = (let f : a + 1 + i ≡ a + suc i = omega arith in range_there (a + 1) n i (omega (arith, less)) ∙ ap Some f)

event_there : (rows i : ℕ) → i + 1 < rows → slice_get (map event_line (event_numbers rows)) i ≡ Some (event_line (i + 1))
event_there rows i less =
    let f : 1 + i ≡ i + 1 = omega arith in
    slice_get-map event_line (event_numbers rows) i ∙ ap (option_map event_line) (range_there 1 (rows - 1) i (omega (arith, less)) ∙ ap Some f)

module _ (globals : Names) (names : List (List ℕ)) (name : List ℕ) (columns : List Column) (times : List ℕ) (at : ℕ)
    (none : de_lines_faults names [] (de_at at (driver_block name columns times)).decls ≡ []) where
  abbrev tail_lines : List PureDeLine
  tail_lines = count_line ∷ map event_line (event_numbers (length times))

  abbrev decls : List PureDeLine
  decls = columns_lines 0 columns ++ tail_lines

  stands : (n : ℕ) (d : PureDeLine) → slice_get decls n ≡ Some d → IsNameAt (de_names globals (de_at at (driver_block name columns times))) (line_name (de_line_at (at + 1 + n) d)) n (line_thing globals (de_line_at (at + 1 + n) d))
  stands n d there = name_at globals names (lines_at de_line_at (at + 1) decls) n (de_line_at (at + 1 + n) d) none (line_at (at + 1) decls n d there)

  port_stands : (j : ℕ) (c : Column) → slice_get columns j ≡ Some c → IsNameAt (de_names globals (de_at at (driver_block name columns times))) (port_name j) (2 * j) (port_thing c)
  port_stands j c there =
      let f : 0 + j ≡ j = omega arith in
      stands (2 * j) (port_line j c) (get_first (columns_lines 0 columns) tail_lines (2 * j) (port_line j c) (port_there 0 columns j c there ∙ ap (λ i. Some (port_line i c)) f))

  array_stands : (j : ℕ) (c : Column) → slice_get columns j ≡ Some c → IsNameAt (de_names globals (de_at at (driver_block name columns times))) (array_name j) (2 * j + 1) (array_thing c)
  array_stands j c there =
      let f : 0 + j ≡ j = omega arith in
      stands (2 * j + 1) (array_line j c) (get_first (columns_lines 0 columns) tail_lines (2 * j + 1) (array_line j c) (array_there 0 columns j c there ∙ ap (λ i. Some (array_line i c)) f))

  tail_at : (n : ℕ) (d : PureDeLine) → slice_get tail_lines n ≡ Some d → slice_get decls (2 * length columns + n) ≡ Some d
  tail_at n d there = ap (λ k. slice_get decls (k + n)) (sym (columns_long 0 columns)) ∙ get_second (columns_lines 0 columns) tail_lines n ∙ there

  count_stands : IsNameAt (de_names globals (de_at at (driver_block name columns times))) (codes "k") (2 * length columns) count_thing
  count_stands =
      let f : 2 * length columns + 0 ≡ 2 * length columns = omega arith in
      stands (2 * length columns) count_line (ap (slice_get decls) (sym f) ∙ tail_at 0 count_line refl)

  event_stands : (i : ℕ) → i + 1 < length times → IsNameAt (de_names globals (de_at at (driver_block name columns times))) (event_name (i + 1)) (2 * length columns + (i + 1)) Event
  event_stands i less =
      let f : suc i ≡ i + 1 = omega arith in
      stands (2 * length columns + (i + 1)) (event_line (i + 1))
      (ap (λ k. slice_get decls (2 * length columns + k)) (sym f) ∙ tail_at (suc i) (event_line (i + 1)) (event_there (length times) i less))

pub driver_names_stand : DriverNamesStand
driver_names_stand globals names name columns times at long none = record {
  port = port_stands globals names name columns times at none;
  array = array_stands globals names name columns times at none;
  count = count_stands globals names name columns times at none;
  event = event_stands globals names name columns times at none;
  cells = long;
}
