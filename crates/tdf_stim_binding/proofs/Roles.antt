-- The role of the driver's block.
use Rattle.std.proofs.Common.{◌≡◌, ◌≢◌, ◌∙◌, ℕ, zero, suc, ◌+◌, ◌-◌, ◌*◌, ◌<◌, ◌≤◌, Bool, true, false, not, nat_eq, nat_lt, cond, List, [], ◌∷◌, ◌++◌, map, replicate, length, Option, Some, None, slice_get, refl, sym, ap, subst, inl, inr, arith}
use Rattle.std.proofs.lemmas.Bool.Decides.{leb_tells}
use Rattle.std.proofs.lemmas.List.{append-nil, append_assoc, length-map}
use Rattle.std.proofs.lemmas.List.Concat.{flat_map-append}
use Rattle.std.proofs.lemmas.Option.{same_Some, slice_get_within}
use Rattle.std.specs.Cmp.Lexicographic.{bytes_decides, pointwise}
use Rattle.std.specs.List.{cons_option, flat_map, position_or_len, range_with_len}
use Rattle.tdf_base.proofs.Api.{none_first, none_second}
use Rattle.tdf_base.specs.declared.first.LineFault.{LineFault}
use Rattle.tdf_bind_attributes.specs.Roles.{event_of, names_of_events, places_among, processes_role, roles_from, roles_of}
use Rattle.tdf_bind_connections.specs.Roles.{ProcessOf}
use Rattle.tdf_bind_connections.specs.declared.roles.Role.{Role}
use Rattle.tdf_bind_connections.specs.declared.roles.Role.TheVariants.{Processes}
use Rattle.tdf_bind_ports.specs.Ports.{port_of_de_line, ports_of_de}
use Rattle.tdf_expr.specs.Blocks.{Events, PureBlock, block_of, blocks_of}
use Rattle.tdf_expr_names.specs.Names.{de_lines_faults, de_name_faults, declares, global_name_faults, globals_faults, in_order, name_faults, names_of_global, with_names}
use Rattle.tdf_expr_symbols.specs.Names.{Names, de_names, globals_of, place_in, place_of}
use Rattle.tdf_lang_tree.specs.Pure.{DEvent, DPort, DStore, GDe, GNet, GShape, GTdf, PureDe, PureDeLine, PureGlobal, PureTree}
use Rattle.tdf_lang_tree.specs.declared.blocks.PortKind.{PortKind}
use Rattle.tdf_lang_tree.specs.declared.blocks.PortKind.TheVariants.{DeOut}
use Rattle.tdf_lang_tree.specs.declared.blocks.PortLine.{PortLine}
use Rattle.tdf_stim.specs.Driver.{columns_lines, count_line, driver_block, event_line, event_name, event_numbers, event_sense, port_name}
use Rattle.tdf_stim.specs.Signals.{Column}
use Rattle.tdf_stim_body.proofs.Api.{driver_names_stand, has_item}
use Rattle.tdf_stim_body.specs.Names.{HasDriverNames}
use Rattle.tdf_stim_binding.specs.Laws.{DriverHasRole}
use Rattle.tdf_stim_binding.specs.Shape.{HasDriverRole, IsDrivenTree, driver_de}
use Rattle.tdf_stim_lines.specs.Numbered.{de_at, de_line_at, lines_at, sense_at}

-- ---- places among names

text_itself : (xs : List ℕ) → pointwise nat_eq xs xs ≡ true
text_itself xs = (bytes_decides xs xs).1 refl

text_apart : (xs ys : List ℕ) → xs ≢ ys → pointwise nat_eq xs ys ≡ false
text_apart xs ys apart = go (pointwise nat_eq xs ys) refl
  where
    go : (b : Bool) → pointwise nat_eq xs ys ≡ b → pointwise nat_eq xs ys ≡ false
    go true is = absurd (apart ((bytes_decides xs ys).0 is))
    go false is = is

-- the place of a name that stands before it nowhere
place_len : (names : List (List ℕ)) (i : ℕ) (name : List ℕ) → slice_get names i ≡ Some name → ((k : ℕ) (other : List ℕ) → k < i → slice_get names k ≡ Some other → name ≢ other)
    → position_or_len (pointwise nat_eq name) names ≡ i
place_len [] i name at apart = absurd (cc)
place_len (n ∷ ns) zero name at apart =
    let same : n ≡ name = cc in
    ap (λ (b : Bool). cond (not b) (1 + position_or_len (pointwise nat_eq name) ns) 0) (ap (pointwise nat_eq name) same ∙ text_itself name)
place_len (n ∷ ns) (suc i) name at apart =
    let rest = place_len ns i name at (λ k other less there. apart (suc k) other (omega (arith, less)) there) in
    ap (λ (b : Bool). cond (not b) (1 + position_or_len (pointwise nat_eq name) ns) 0) (text_apart name n (apart 0 n (omega arith) refl))
    ∙ (let g : 1 + position_or_len (pointwise nat_eq name) ns ≡ suc i = omega (arith, rest) in g)

pub place_is : (names : List (List ℕ)) (i : ℕ) (name : List ℕ) → slice_get names i ≡ Some name → ((k : ℕ) (other : List ℕ) → k < i → slice_get names k ≡ Some other → name ≢ other) → place_in names name ≡ Some i
place_is names i name at apart =
    let inside = slice_get_within names i name at in
    let test : nat_lt i (length names) ≡ true = elim (leb_tells (suc i) (length names)) [ inl y ↦ y.0 | inr m ↦ (let past = m.1 in absurd (omega (arith, past, inside))) ] in
    ap (λ k. cond (nat_lt k (length names)) (Some k) None) (place_len names i name at apart) ∙ ap (λ (b : Bool). cond b (Some i) None) test

none_len : (names : List (List ℕ)) (name : List ℕ) → ((k : ℕ) (other : List ℕ) → slice_get names k ≡ Some other → name ≢ other) → position_or_len (pointwise nat_eq name) names ≡ length names
none_len [] name apart = refl
none_len (n ∷ ns) name apart =
    let rest = none_len ns name (λ k other there. apart (suc k) other there) in
    ap (λ (b : Bool). cond (not b) (1 + position_or_len (pointwise nat_eq name) ns) 0) (text_apart name n (apart 0 n refl))
    ∙ (let g : 1 + position_or_len (pointwise nat_eq name) ns ≡ suc (length ns) = omega (arith, rest) in g)

pub place_none : (names : List (List ℕ)) (name : List ℕ) → ((k : ℕ) (other : List ℕ) → slice_get names k ≡ Some other → name ≢ other) → place_in names name ≡ None
place_none names name apart =
    let test : nat_lt (length names) (length names) ≡ false = elim (leb_tells (suc (length names)) (length names)) [ inl y ↦ (let e = y.1 in absurd (omega (arith, e))) | inr m ↦ m.0 ] in
    ap (λ k. cond (nat_lt k (length names)) (Some k) None) (none_len names name apart) ∙ ap (λ (b : Bool). cond b (Some (length names)) None) test

-- ---- blocks and roles behind others

roles_both : (globals : Names) (n : ℕ) (xs ys : List PureGlobal) → roles_from globals n (xs ++ ys) ≡ roles_from globals n xs ++ roles_from globals (n + length (blocks_of xs)) ys
unfolding roles_from
roles_both globals n [] ys = let f : n ≡ n + 0 = omega arith in ap (λ k. roles_from globals k ys) f
roles_both globals n (GShape t ∷ xs) ys = roles_both globals n xs ys
roles_both globals n (GTdf block ∷ xs) ys = let f : n + 1 + length (blocks_of xs) ≡ n + suc (length (blocks_of xs)) = omega arith in
    ap (λ (l : List Role). first_role (roles_from globals n (GTdf block ∷ [])) l) (roles_both globals (n + 1) xs ys ∙ ap (λ k. roles_from globals (n + 1) xs ++ roles_from globals k ys) f)
  where
    first_role : List Role → List Role → List Role
    first_role [] l = l
    first_role (r ∷ rs) l = r ∷ l
roles_both globals n (GDe block ∷ xs) ys = let f : n + 1 + length (blocks_of xs) ≡ n + suc (length (blocks_of xs)) = omega arith in
    ap (λ (l : List Role). Processes (processes_role n block) ∷ l) (roles_both globals (n + 1) xs ys ∙ ap (λ k. roles_from globals (n + 1) xs ++ roles_from globals k ys) f)
roles_both globals n (GNet block ∷ xs) ys = ap (λ (l : List Role). first_role (roles_from globals n (GNet block ∷ [])) l) (roles_both globals n xs ys)
  where
    first_role : List Role → List Role → List Role
    first_role [] l = l
    first_role (r ∷ rs) l = r ∷ l

pub behind : {A : Type 0} (xs ys : List A) (n : ℕ) → slice_get (xs ++ ys) (length xs + n) ≡ slice_get ys n
behind [] ys n = (let f : 0 + n ≡ n = omega arith in ap (slice_get ys) f)
behind (x ∷ xs) ys n = (let f : suc (length xs) + n ≡ suc (length xs + n) = omega arith in ap (slice_get (x ∷ (xs ++ ys))) f ∙ behind xs ys n)

pub just_behind : {A : Type 0} (xs ys : List A) (y : A) → slice_get (xs ++ y ∷ ys) (length xs) ≡ Some y
just_behind [] ys y = refl
just_behind (x ∷ xs) ys y = just_behind xs ys y

-- ---- the names of the last block are declared once

pub last_none : {L : Type 0} (faults : List (List ℕ) → L → List LineFault) (declared : L → List (List ℕ)) (names : List (List ℕ)) (xs : List L) (x : L) → in_order faults declared names (xs ++ x ∷ []) ≡ []
    → (before : List (List ℕ)) × (faults before x ≡ [])
last_none faults declared names [] x none = (names, none_first (faults names x) _ none)
last_none faults declared names (y ∷ ys) x none = last_none faults declared (with_names names (declared y)) ys x (none_second (faults names y) _ none)

pub once_in : (model : PureTree) (globals : List PureGlobal) (de : PureDe) → name_faults model ≡ [] → model.globals ≡ globals ++ GDe de ∷ [] → (names : List (List ℕ)) × (de_lines_faults names [] de.decls ≡ [])
unfolding name_faults
once_in model globals de none is =
    let all : globals_faults [] (globals ++ GDe de ∷ []) ≡ [] = subst (λ (l : List PureGlobal). globals_faults [] l ≡ []) is (none_first _ _ none) in
    let found = last_none global_name_faults names_of_global [] globals (GDe de) all in
    let own : de_name_faults found.0 de ≡ [] = none_second (declares found.0 de.line de.name) _ found.1 in
    (found.0, none_first _ _ own)

-- ---- the lines of the driver

-- ports and events of numbered lines
ports_numbered : (at : ℕ) (ds : List PureDeLine) → map (λ (p : PortLine). p.kind) (flat_map port_of_de_line (lines_at de_line_at at ds)) ≡ map (λ (p : PortLine). p.kind) (flat_map port_of_de_line ds)
ports_numbered at [] = refl
ports_numbered at (DPort port ∷ ds) = ap (λ (l : List PortKind). port.kind ∷ l) (ports_numbered (at + 1) ds)
ports_numbered at (DStore store ∷ ds) = ports_numbered (at + 1) ds
ports_numbered at (DEvent line name ∷ ds) = ports_numbered (at + 1) ds

names_numbered : (at : ℕ) (ds : List PureDeLine) → map (λ (p : PortLine). p.name) (flat_map port_of_de_line (lines_at de_line_at at ds)) ≡ map (λ (p : PortLine). p.name) (flat_map port_of_de_line ds)
names_numbered at [] = refl
names_numbered at (DPort port ∷ ds) = ap (λ (l : List (List ℕ)). port.name ∷ l) (names_numbered (at + 1) ds)
names_numbered at (DStore store ∷ ds) = names_numbered (at + 1) ds
names_numbered at (DEvent line name ∷ ds) = names_numbered (at + 1) ds

events_numbered : (at : ℕ) (ds : List PureDeLine) → flat_map event_of (lines_at de_line_at at ds) ≡ flat_map event_of ds
events_numbered at [] = refl
events_numbered at (DPort port ∷ ds) = events_numbered (at + 1) ds
events_numbered at (DStore store ∷ ds) = events_numbered (at + 1) ds
events_numbered at (DEvent line name ∷ ds) = ap (λ (l : List (List ℕ)). name ∷ l) (events_numbered (at + 1) ds)

-- the lines of columns have a port each, and no event
column_kinds : (a : ℕ) (columns : List Column) → map (λ (p : PortLine). p.kind) (flat_map port_of_de_line (columns_lines a columns)) ≡ replicate (length columns) DeOut
unfolding columns_lines
column_kinds a [] = refl
column_kinds a (c ∷ cs) = ap (λ (l : List PortKind). DeOut ∷ l) (column_kinds (a + 1) cs)

abbrev pub port_names : ℕ → List Column → List (List ℕ)
port_names a [] = []
port_names a (c ∷ cs) = port_name a ∷ port_names (a + 1) cs

column_names : (a : ℕ) (columns : List Column) → map (λ (p : PortLine). p.name) (flat_map port_of_de_line (columns_lines a columns)) ≡ port_names a columns
unfolding columns_lines
column_names a [] = refl
column_names a (c ∷ cs) = ap (λ (l : List (List ℕ)). port_name a ∷ l) (column_names (a + 1) cs)

column_events : (a : ℕ) (columns : List Column) → flat_map event_of (columns_lines a columns) ≡ []
unfolding columns_lines
column_events a [] = refl
column_events a (c ∷ cs) = column_events (a + 1) cs

event_no_ports : (is : List ℕ) → flat_map port_of_de_line (map event_line is) ≡ []
event_no_ports [] = refl
event_no_ports (i ∷ is) = event_no_ports is

event_names : (is : List ℕ) → flat_map event_of (map event_line is) ≡ map event_name is
event_names [] = refl
event_names (i ∷ is) = ap (λ (l : List (List ℕ)). event_name i ∷ l) (event_names is)

module _ (name : List ℕ) (columns : List Column) (times : List ℕ) (at : ℕ) where
  abbrev pub de : PureDe
  de = de_at at (driver_block name columns times)

  abbrev pub tail : List PureDeLine
  tail = count_line ∷ map event_line (event_numbers (length times))

  no_tail : flat_map port_of_de_line tail ≡ []
  no_tail = event_no_ports (event_numbers (length times))

  pub kinds_are : map (λ (p : PortLine). p.kind) (ports_of_de de) ≡ replicate (length columns) DeOut
  kinds_are = ports_numbered (at + 1) (columns_lines 0 columns ++ tail)
      ∙ ap (map (λ (p : PortLine). p.kind)) (flat_map-append port_of_de_line (columns_lines 0 columns) tail ∙ ap (λ (l : List PortLine). flat_map port_of_de_line (columns_lines 0 columns) ++ l) no_tail ∙ append-nil (flat_map port_of_de_line (columns_lines 0 columns)))
      ∙ column_kinds 0 columns

  pub names_are : map (λ (p : PortLine). p.name) (ports_of_de de) ≡ port_names 0 columns
  names_are = names_numbered (at + 1) (columns_lines 0 columns ++ tail)
      ∙ ap (map (λ (p : PortLine). p.name)) (flat_map-append port_of_de_line (columns_lines 0 columns) tail ∙ ap (λ (l : List PortLine). flat_map port_of_de_line (columns_lines 0 columns) ++ l) no_tail ∙ append-nil (flat_map port_of_de_line (columns_lines 0 columns)))
      ∙ column_names 0 columns

  pub events_are : names_of_events de ≡ map event_name (event_numbers (length times))
  events_are = events_numbered (at + 1) (columns_lines 0 columns ++ tail) ∙ flat_map-append event_of (columns_lines 0 columns) tail
      ∙ ap (λ (l : List (List ℕ)). l ++ flat_map event_of tail) (column_events 0 columns) ∙ event_names (event_numbers (length times))

-- ---- its names are different

module _ (own : Names) (columns : List Column) (rows : ℕ) (names : HasDriverNames own columns rows) where
  events_apart : (i k : ℕ) → i + 1 < rows → k + 1 < rows → i ≢ k → event_name (i + 1) ≢ event_name (k + 1)
  events_apart i k less below apart same =
      let e : 2 * length columns + (i + 1) ≡ 2 * length columns + (k + 1) =
      same_Some (2 * length columns + (i + 1)) (2 * length columns + (k + 1)) (sym (names.event i less).place ∙ ap (place_of own) same ∙ (names.event k below).place) in
      apart (omega (arith, e))

  event_no_port : (i j : ℕ) → i + 1 < rows → j < length columns → event_name (i + 1) ≢ port_name j
  event_no_port i j less below same =
      let c = has_item columns j below in
      let e : 2 * length columns + (i + 1) ≡ 2 * j = same_Some (2 * length columns + (i + 1)) (2 * j) (sym (names.event i less).place ∙ ap (place_of own) same ∙ (names.port j c.0 c.1).place) in
      omega (arith, e, below)

-- ---- places of the lines that it is sensitive to

some_places : (names : List (List ℕ)) (a n at : ℕ) → ((i : ℕ) → a ≤ i → i < a + n → place_in names (event_name (i + 1)) ≡ Some i)
    → places_among names (lines_at sense_at at (map event_sense (range_with_len (a + 1) n))) ≡ range_with_len a n
some_places names a zero at all = refl
some_places names a (suc n) at all =
    let rest = some_places names (a + 1) n (at + 1) (λ i low high. all i (omega (arith, low)) (omega (arith, high))) in
    ap (λ (o : Option ℕ). cons_option o (places_among names (lines_at sense_at (at + 1) (map event_sense (range_with_len (a + 1 + 1) n))))) (all a (omega arith) (omega arith))
    ∙ ap (λ (l : List ℕ). a ∷ l) rest

no_places : (names : List (List ℕ)) (a n at : ℕ) → ((i : ℕ) → a ≤ i → i < a + n → place_in names (event_name (i + 1)) ≡ None)
    → places_among names (lines_at sense_at at (map event_sense (range_with_len (a + 1) n))) ≡ []
no_places names a zero at none = refl
no_places names a (suc n) at none =
    let rest = no_places names (a + 1) n (at + 1) (λ i low high. none i (omega (arith, low)) (omega (arith, high))) in
    ap (λ (o : Option ℕ). cons_option o (places_among names (lines_at sense_at (at + 1) (map event_sense (range_with_len (a + 1 + 1) n))))) (none a (omega arith) (omega arith)) ∙ rest

-- the names of events and of ports by their places
event_name_at : (a n k : ℕ) (other : List ℕ) → slice_get (map event_name (range_with_len (a + 1) n)) k ≡ Some other → (k < n) × (other ≡ event_name (a + k + 1))
event_name_at a zero k other at = absurd (cc)
event_name_at a (suc n) zero other at =
    let same : event_name (a + 1) ≡ other = same_Some (event_name (a + 1)) other at in
    let f : a + 1 ≡ a + 0 + 1 = omega arith in
    let less : 0 < suc n = omega arith in
    (less, sym same ∙ ap event_name f)
event_name_at a (suc n) (suc k) other at =
    let rest = event_name_at (a + 1) n k other at in
    let below = rest.0 in
    let less : suc k < suc n = omega (arith, below) in
    let f : a + 1 + k + 1 ≡ a + suc k + 1 = omega arith in
    (less, rest.1 ∙ ap event_name f)

event_name_there : (a n i : ℕ) → i < n → slice_get (map event_name (range_with_len (a + 1) n)) i ≡ Some (event_name (a + i + 1))
event_name_there a zero i less = absurd (omega (arith, less))
event_name_there a (suc n) zero less = (let f : a + 1 ≡ a + 0 + 1 = omega arith in ap (λ k. Some (event_name k)) f)
event_name_there a (suc n) (suc i) less = (let f : a + 1 + i + 1 ≡ a + suc i + 1 = omega arith in event_name_there (a + 1) n i (omega (arith, less)) ∙ ap (λ k. Some (event_name k)) f)

port_name_at : (a : ℕ) (columns : List Column) (k : ℕ) (other : List ℕ) → slice_get (port_names a columns) k ≡ Some other → (k < length columns) × (other ≡ port_name (a + k))
port_name_at a [] k other at = absurd (cc)
port_name_at a (c ∷ cs) zero other at =
    let same : port_name a ≡ other = same_Some (port_name a) other at in
    let f : a ≡ a + 0 = omega arith in
    let less : 0 < suc (length cs) = omega arith in
    (less, sym same ∙ ap port_name f)
port_name_at a (c ∷ cs) (suc k) other at =
    let rest = port_name_at (a + 1) cs k other at in
    let below = rest.0 in
    let less : suc k < suc (length cs) = omega (arith, below) in
    let f : a + 1 + k ≡ a + suc k = omega arith in
    (less, rest.1 ∙ ap port_name f)

range_length : (a n : ℕ) → length (range_with_len a n) ≡ n
range_length a zero = refl
range_length a (suc n) = ap suc (range_length (a + 1) n)

module _ (model : PureTree) (columns : List Column) (times : List ℕ) (name : List ℕ) (d : IsDrivenTree model columns times name) (none : name_faults model ≡ [])
    (long : (j : ℕ) (c : Column) → slice_get columns j ≡ Some c → length c.cells ≡ length times) where
  abbrev block_de : PureDe
  block_de = driver_de d

  once_is : (names : List (List ℕ)) × (de_lines_faults names [] block_de.decls ≡ [])
  once_is = once_in model d.globals block_de none d.globals_are

  abbrev own : Names
  own = de_names (globals_of model.globals) block_de

  stands : HasDriverNames own columns (length times)
  stands = driver_names_stand (globals_of model.globals) once_is.0 name columns times d.line long once_is.1

  -- events are found among the events, and not among the ports
  event_place : (i : ℕ) → 0 ≤ i → i < 0 + (length times - 1) → place_in (names_of_events block_de) (event_name (i + 1)) ≡ Some i
  event_place i low high =
      let f : 0 + i + 1 ≡ i + 1 = omega arith in
      ap (λ (l : List (List ℕ)). place_in l (event_name (i + 1))) (events_are name columns times d.line)
      ∙ place_is (map event_name (event_numbers (length times))) i (event_name (i + 1)) (event_name_there 0 (length times - 1) i (omega (arith, high)) ∙ ap (λ k. Some (event_name k)) f)
      (λ k other less there same. (
      let at = event_name_at 0 (length times - 1) k other there in
      let g : 0 + k + 1 ≡ k + 1 = omega arith in
      events_apart own columns (length times) stands i k (omega (arith, high)) (omega (arith, high, less)) (λ e. omega (arith, e, less)) (same ∙ at.1 ∙ ap event_name g)))

  event_no_place : (i : ℕ) → 0 ≤ i → i < 0 + (length times - 1) → place_in (map (λ (p : PortLine). p.name) (ports_of_de block_de)) (event_name (i + 1)) ≡ None
  event_no_place i low high =
      ap (λ (l : List (List ℕ)). place_in l (event_name (i + 1))) (names_are name columns times d.line)
      ∙ place_none (port_names 0 columns) (event_name (i + 1)) (λ k other there same. (
      let at = port_name_at 0 columns k other there in
      let g : 0 + k ≡ k = omega arith in
      event_no_port own columns (length times) stands i k (omega (arith, high)) at.0 (same ∙ at.1 ∙ ap port_name g)))

  abbrev number : ℕ
  number = length (blocks_of d.globals)

  abbrev place : ℕ
  place = length (roles_from (globals_of model.globals) 0 d.globals)

  block_is : slice_get (blocks_of model.globals) number ≡ Some (Events block_de)
  block_is = ap (λ (l : List PureGlobal). slice_get (blocks_of l) number) d.globals_are
      ∙ ap (λ (l : List PureBlock). slice_get l number) (flat_map-append block_of d.globals (GDe block_de ∷ [])) ∙ just_behind (blocks_of d.globals) [] (Events block_de)

  last_roles : (k : ℕ) → roles_from (globals_of model.globals) k (GDe block_de ∷ (GNet model.top ∷ [])) ≡ Processes (processes_role k block_de) ∷ roles_from (globals_of model.globals) (k + 1) (GNet model.top ∷ [])
  unfolding roles_from
  last_roles k = refl

  role_is : slice_get (roles_of model) place ≡ Some (Processes (processes_role number block_de))
  role_is =
      let f : 0 + number ≡ number = omega arith in
      ap (λ (l : List PureGlobal). slice_get (roles_from (globals_of model.globals) 0 (l ++ GNet model.top ∷ [])) place) d.globals_are
      ∙ ap (λ (l : List PureGlobal). slice_get (roles_from (globals_of model.globals) 0 l) place) (append_assoc d.globals (GDe block_de ∷ []) (GNet model.top ∷ []))
      ∙ ap (λ (l : List Role). slice_get l place) (roles_both (globals_of model.globals) 0 d.globals (GDe block_de ∷ (GNet model.top ∷ []))
      ∙ ap (λ (l : List Role). roles_from (globals_of model.globals) 0 d.globals ++ l) (last_roles (0 + number)))
      ∙ just_behind (roles_from (globals_of model.globals) 0 d.globals) (roles_from (globals_of model.globals) (0 + number + 1) (GNet model.top ∷ [])) (Processes (processes_role (0 + number) block_de))
      ∙ ap (λ k. Some (Processes (processes_role k block_de))) f

  abbrev role_process : List ℕ → List ℕ → ProcessOf
  role_process ports events = record { starts = true; ports = ports; events = events }

  -- the line of the first that it is sensitive to
  abbrev senses : ℕ
  senses = d.line + 1 + length (driver_block name columns times).decls + 1

  has_role : HasDriverRole model columns times block_de number place
  has_role = record {
    block = block_is;
    role = role_is;
    ports = kinds_are name columns times d.line;
    process = ap (λ (l : List ℕ). role_process l (places_among (names_of_events block_de) (lines_at sense_at senses (map event_sense (event_numbers (length times))))) ∷ []) (no_places (map (λ (p : PortLine). p.name) (ports_of_de block_de)) 0 (length times - 1) senses event_no_place)
        ∙ ap (λ (l : List ℕ). role_process [] l ∷ []) (some_places (names_of_events block_de) 0 (length times - 1) senses event_place);
    events = ap length (events_are name columns times d.line) ∙ length-map (event_numbers (length times)) event_name ∙ range_length 1 (length times - 1);
  }

pub driver_has_role : DriverHasRole
driver_has_role model columns times name d none long = record {
  number = length (blocks_of d.globals);
  role = has_role model columns times name d none long;
  names = (once_in model d.globals (driver_de d) none d.globals_are).0;
  once = (once_in model d.globals (driver_de d) none d.globals_are).1;
}
