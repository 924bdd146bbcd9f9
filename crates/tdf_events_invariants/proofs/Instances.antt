-- An instance of a block of processes has the ports and the events of its block.
use Rattle.std.proofs.Common.{◌≤◌, ◌≡◌, ◌∙◌, ℕ, zero, suc, ◌+◌, ◌<◌, Bool, true, false, cond, List, [], ◌∷◌, ◌++◌, Option, Some, None, length, map, refl, sym, ap, subst, arith}
use Rattle.std.proofs.lemmas.Bool.Decides.{nat_tests}
use Rattle.std.proofs.lemmas.List.{length-append, length_push}
use Rattle.std.proofs.lemmas.List.Elements.{filter-append}
use Rattle.std.proofs.lemmas.Option.{same_Some, none-some, slice_get_within}
use Rattle.std.specs.List.{AllByRecursion, cons_option, flat_map}
use Rattle.std.specs.Prelude.{filter, nat_eq, slice_get}
use Rattle.tdf_expr.specs.Blocks.{Module as TdfBlock, Events, PureBlock, blocks_of, scope_of}
use Rattle.tdf_expr.specs.Compiled.{AreBlocksOf, IsBlockOf}
use Rattle.tdf_expr.specs.Made.{events_in, spans_in}
use Rattle.tdf_expr.specs.Plans.{PortPlace, place_of_span, shape_written}
use Rattle.tdf_expr.specs.declared.blocks.Block.{Block}
use Rattle.tdf_expr.specs.declared.spans.PortSpan.{PortSpan}
use Rattle.tdf_bind.specs.Flat.{IsFlatOf}
use Rattle.tdf_bind.specs.declared.model.Flat.{Flat}
use Rattle.tdf_bind_invariants.proofs.Api.{Differ, apart_differ, stays}
use Rattle.tdf_bind_invariants.specs.Formats.{IsSoundModel}
use Rattle.tdf_bind_ports.specs.Ports.{Known, known_after_all, no_blocks, ports_of_composite, ports_of_de, ports_of_tdf, with_block}
use Rattle.tdf_expr_names.specs.Law.{DeclaresOnce, HasNamesOnce, KeepsNamesOnce}
use Rattle.tdf_expr_names.specs.Names.{names_of_de_line, names_of_de_lines}
use Rattle.tdf_bind_names.specs.Resolved.{whole}
use Rattle.tdf_bind_attributes.specs.Roles.{processes_role, roles_from, roles_of}
use Rattle.tdf_events_invariants.proofs.Counts.{few_ports, mapped_long}
use Rattle.tdf_events_invariants.proofs.Lines.{events_total, place_at, place_line, places_long, places_of, ports_total}
use Rattle.tdf_events_invariants.specs.Runnable.{HasBlock, InstancesHaveBlocks}
use Rattle.tdf_expr_symbols.specs.Names.{Names, format_of, globals_of}
use Rattle.tdf_lang_tree.specs.Kept.{Each}
use Rattle.tdf_lang_tree.specs.Pure.{PureComposite, PureDe, PureGlobal, GShape, GTdf, GDe, GNet, PureTree}
use Rattle.tdf_lang_tree.specs.declared.blocks.PortLine.{PortLine}
use Rattle.tdf_bind_hierarchy.specs.Tables.{RowOf}
use Rattle.tdf_bind_connections.specs.ProcessBlocks.{BlockRowOf, PlacedBlock, as_block, block_row, event_row, events_from, placed_blocks}
use Rattle.tdf_bind_connections.specs.Roles.{ProcessesOf}
use Rattle.tdf_bind_connections.specs.declared.blocks.EventRow.{EventRow}
use Rattle.tdf_bind_connections.specs.declared.roles.Role.{Role}
use Rattle.tdf_bind_connections.specs.declared.roles.Role.TheVariants.{Module, Processes, Composite}

-- the events of an instance
abbrev is_of : ℕ → EventRow → Bool
is_of m row = nat_eq row.owner m

all_counted : (n m : ℕ) (names : List (List ℕ)) → n ≡ m → length (filter (is_of m) (map (event_row n) names)) ≡ length names
all_counted n m [] same = refl
all_counted n m (x ∷ names) same = go (nat_eq n m) refl (all_counted n m names same)
  where
    differ : true ≡ false → ⊥
    differ h = absurd cc

    go : (b : Bool) → nat_eq n m ≡ b → length (filter (is_of m) (map (event_row n) names)) ≡ length names
        → length (cond b (event_row n x ∷ filter (is_of m) (map (event_row n) names)) (filter (is_of m) (map (event_row n) names))) ≡ suc (length names)
    go true e later = ap suc later
    go false e later = absurd (let f : nat_eq n m ≡ true = grind (arith, nat_tests) in differ (sym f ∙ e))

none_counted : (m : ℕ) (rows : List EventRow) → AllByRecursion (λ (row : EventRow). row.owner ≡ m → ⊥) rows → length (filter (is_of m) rows) ≡ 0
none_counted m [] all = refl
none_counted m (row ∷ rows) all = go (nat_eq row.owner m) refl (none_counted m rows all.1)
  where
    go : (b : Bool) → nat_eq row.owner m ≡ b → length (filter (is_of m) rows) ≡ 0 → length (cond b (row ∷ filter (is_of m) rows) (filter (is_of m) rows)) ≡ 0
    go false e later = later
    go true e later = absurd (all.0 (grind (arith, nat_tests)))

both_all : {A : Type 0} (P : A → Type 0) (xs ys : List A) → AllByRecursion P xs → AllByRecursion P ys → AllByRecursion P (xs ++ ys)
both_all P [] ys one other = other
both_all P (x ∷ xs) ys one other = (one.0, both_all P xs ys one.1 other)

not_of : (n m : ℕ) → (n ≡ m → ⊥) → (names : List (List ℕ)) → AllByRecursion (λ (row : EventRow). row.owner ≡ m → ⊥) (map (event_row n) names)
not_of n m other [] = tt
not_of n m other (x ∷ names) = (other, not_of n m other names)

later_not : (m first : ℕ) → m < first → (ps : List PlacedBlock) → AllByRecursion (λ (row : EventRow). row.owner ≡ m → ⊥) (events_from first ps)
later_not m first low [] = tt
later_not m first low (p ∷ ps) = both_all (λ (row : EventRow). row.owner ≡ m → ⊥) (map (event_row first) p.role.events) (events_from (first + 1) ps)
    (not_of first m (λ same. absurd (omega (arith, low, same))) p.role.events) (later_not m (first + 1) (omega (arith, low)) ps)

pub events_owned : (first : ℕ) (ps : List PlacedBlock) (k : ℕ) (p : PlacedBlock) → slice_get ps k ≡ Some p → length (filter (is_of (first + k)) (events_from first ps)) ≡ length p.role.events
events_owned first [] k p at = absurd (none-some p at)
events_owned first (q ∷ ps) zero p at =
    let here : first ≡ first + 0 = omega arith in
    let low : first + 0 < first + 1 = omega arith in
    let own = all_counted first (first + 0) q.role.events here in
    let none = none_counted (first + 0) (events_from (first + 1) ps) (later_not (first + 0) (first + 1) low ps) in
    let long = length-append (filter (is_of (first + 0)) (map (event_row first) q.role.events)) (filter (is_of (first + 0)) (events_from (first + 1) ps)) in
    let sum : length (filter (is_of (first + 0)) (map (event_row first) q.role.events) ++ filter (is_of (first + 0)) (events_from (first + 1) ps)) ≡ length q.role.events = omega (arith, own, none, long) in
    ap length (filter-append (is_of (first + 0)) (map (event_row first) q.role.events) (events_from (first + 1) ps)) ∙ sum ∙ ap (λ (x : PlacedBlock). length x.role.events) (same_Some q p at)
events_owned first (q ∷ ps) (suc k) p at =
    let none = none_counted (first + suc k) (map (event_row first) q.role.events) (not_of first (first + suc k) (λ same. absurd (omega (arith, same))) q.role.events) in
    let next : first + 1 + k ≡ first + suc k = omega arith in
    let later = subst (λ m. length (filter (is_of m) (events_from (first + 1) ps)) ≡ length p.role.events) next (events_owned (first + 1) ps k p at) in
    let long = length-append (filter (is_of (first + suc k)) (map (event_row first) q.role.events)) (filter (is_of (first + suc k)) (events_from (first + 1) ps)) in
    let sum : length (filter (is_of (first + suc k)) (map (event_row first) q.role.events) ++ filter (is_of (first + suc k)) (events_from (first + 1) ps)) ≡ length p.role.events = omega (arith, none, later, long) in
    ap length (filter-append (is_of (first + suc k)) (map (event_row first) q.role.events) (events_from (first + 1) ps)) ∙ sum

-- the block of an instance
pub record IsProcessesRole (P : PureGlobal → Type 0) (globals : Names) (number : ℕ) (gs : List PureGlobal) (known : Known) (j : ℕ) (role : ProcessesOf) : Type 0 where
  pub block : PureDe
  pub k : ℕ
  pub role_is : role ≡ processes_role (number + k) block
  pub at : slice_get (blocks_of gs) k ≡ Some (Events block)
  pub ports_are : slice_get (known_after_all gs known).ports (length known.ports + j) ≡ Some (ports_of_de block)
  pub once : Differ (flat_map names_of_de_line block.decls)
  pub holds : P (GDe block)

abbrev role_in : ProcessesOf → Option Role → ProcessesOf
role_in other (Some (Processes role)) = role
role_in other _ = other

abbrev is_processes : Option Role → Type 0
is_processes (Some (Processes role)) = Unit {0}
is_processes _ = ⊥

pushed_at : {A : Type 0} (xs : List A) (x : A) → slice_get (xs ++ x ∷ []) (length xs) ≡ Some x
pushed_at [] x = refl
pushed_at (y ∷ xs) x = pushed_at xs x

next_place : (known : Known) (name : List ℕ) (ports : List PortLine) (j : ℕ) → length known.ports + suc j ≡ length (with_block name ports known).ports + j
next_place known name ports j = let long : length (known.ports ++ ports ∷ []) ≡ length known.ports + 1 = length_push known.ports ports in omega (arith, long)

module _ (P : PureGlobal → Type 0) (globals : Names) where
  pub role_found : (number : ℕ) (gs : List PureGlobal) (known : Known) → Each DeclaresOnce gs → AllByRecursion P gs → (j : ℕ) (role : ProcessesOf) → slice_get (roles_from globals number gs) j ≡ Some (Processes role)
      → IsProcessesRole P globals number gs known j role
  unfolding roles_from known_after_all
  role_found number [] known once all j role e = absurd (none-some (Processes role) e)
  role_found number (GShape t ∷ gs) known once all j role e =
      let it = role_found number gs known once.1 all.1 j role e in
      record { block = it.block; k = it.k; role_is = it.role_is; at = it.at; ports_are = it.ports_are; once = it.once; holds = it.holds }
  role_found number (GTdf block ∷ gs) known once all zero role e = absurd (subst is_processes (sym e) tt)
  role_found number (GTdf block ∷ gs) known once all (suc j) role e =
      let next = with_block block.name (ports_of_tdf block) known in
      let it = role_found (number + 1) gs next once.1 all.1 j role e in
      let later : number + 1 + it.k ≡ number + suc it.k = omega arith in
      record {
        block = it.block;
        k = suc it.k;
        role_is = it.role_is ∙ ap (λ n. processes_role n it.block) later;
        at = it.at;
        ports_are = ap (slice_get (known_after_all gs next).ports) (next_place known block.name (ports_of_tdf block) j) ∙ it.ports_are;
        once = it.once;
        holds = it.holds;
      }
  role_found number (GDe block ∷ gs) known once all zero role e =
      let here : number ≡ number + 0 = omega arith in
      let place : length known.ports ≡ length known.ports + 0 = omega arith in
      record {
        block = block;
        k = 0;
        role_is = sym (ap (role_in role) e) ∙ ap (λ n. processes_role n block) here;
        at = refl;
        ports_are = ap (slice_get (known_after_all gs (with_block block.name (ports_of_de block) known)).ports) (sym place)
            ∙ stays gs (with_block block.name (ports_of_de block) known) (length known.ports) (ports_of_de block) (pushed_at known.ports (ports_of_de block));
        once = apart_differ (names_of_de_lines block.decls) once.0;
        holds = all.0;
      }
  role_found number (GDe block ∷ gs) known once all (suc j) role e =
      let next = with_block block.name (ports_of_de block) known in
      let it = role_found (number + 1) gs next once.1 all.1 j role e in
      let later : number + 1 + it.k ≡ number + suc it.k = omega arith in
      record {
        block = it.block;
        k = suc it.k;
        role_is = it.role_is ∙ ap (λ n. processes_role n it.block) later;
        at = it.at;
        ports_are = ap (slice_get (known_after_all gs next).ports) (next_place known block.name (ports_of_de block) j) ∙ it.ports_are;
        once = it.once;
        holds = it.holds;
      }
  role_found number (GNet block ∷ gs) known once all zero role e = absurd (subst is_processes (sym e) tt)
  role_found number (GNet block ∷ gs) known once all (suc j) role e =
      let next = with_block block.name (ports_of_composite block) known in
      let it = role_found number gs next once.1 all.1 j role e in
      record {
        block = it.block;
        k = it.k;
        role_is = it.role_is;
        at = it.at;
        ports_are = ap (slice_get (known_after_all gs next).ports) (next_place known block.name (ports_of_composite block) j) ∙ it.ports_are;
        once = it.once;
        holds = it.holds;
      }

abbrev HasRole : List Role → PlacedBlock → Type 0
HasRole roles p = slice_get roles p.instance.block ≡ Some (Processes p.role)

roles_placed : (roles : List Role) (rows : List RowOf) → AllByRecursion (HasRole roles) (placed_blocks roles rows)
roles_placed roles [] = tt
roles_placed roles (row ∷ rows) = go (slice_get roles row.block) refl (roles_placed roles rows)
  where
    go : (o : Option Role) → slice_get roles row.block ≡ o → AllByRecursion (HasRole roles) (placed_blocks roles rows) → AllByRecursion (HasRole roles) (cons_option (as_block row o) (placed_blocks roles rows))
    go None is later = later
    go (Some (Module role)) is later = later
    go (Some (Processes role)) is later = (is, later)
    go (Some Composite) is later = later

pub item_at : {A : Type 0} (P : A → Type 0) (xs : List A) → AllByRecursion P xs → (n : ℕ) (x : A) → slice_get xs n ≡ Some x → P x
item_at P [] all n x at = absurd (none-some x at)
item_at P (y ∷ ys) all zero x at = subst P (same_Some y x at) all.0
item_at P (y ∷ ys) all (suc n) x at = item_at P ys all.1 n x at

pub unmapped : {A B : Type 0} (f : A → B) (xs : List A) (n : ℕ) (y : B) → slice_get (map f xs) n ≡ Some y → (x : A) × (slice_get xs n ≡ Some x) × (f x ≡ y)
unmapped f [] n y at = absurd (none-some y at)
unmapped f (x ∷ xs) zero y at = (x, refl, same_Some (f x) y at)
unmapped f (x ∷ xs) (suc n) y at = unmapped f xs n y at

pub mapped : {A B : Type 0} (f : A → B) (xs : List A) (n : ℕ) (x : A) → slice_get xs n ≡ Some x → slice_get (map f xs) n ≡ Some (f x)
mapped f [] n x at = absurd (none-some x at)
mapped f (y ∷ xs) zero x at = ap (λ z. Some (f z)) (same_Some y x at)
mapped f (y ∷ xs) (suc n) x at = mapped f xs n x at

compiled : (globals : Names) (ps : List PureBlock) (bs : List Block) → AreBlocksOf globals ps bs → (k : ℕ) (p : PureBlock) → slice_get ps k ≡ Some p → (b : Block) × (slice_get bs k ≡ Some b) × IsBlockOf (scope_of globals p) p b
compiled globals [] bs are k p at = absurd (none-some p at)
compiled globals (q ∷ ps) [] are k p at = absurd are
compiled globals (q ∷ ps) (b ∷ bs) are zero p at = (b, refl, subst (λ (x : PureBlock). IsBlockOf (scope_of globals x) x b) (same_Some q p at) are.0)
compiled globals (q ∷ ps) (b ∷ bs) are (suc k) p at = compiled globals ps bs are.1 k p at

blocks_whole : (gs : List PureGlobal) (top : PureComposite) → blocks_of (gs ++ GNet top ∷ []) ≡ blocks_of gs
blocks_whole [] top = refl
blocks_whole (GShape t ∷ gs) top = blocks_whole gs top
blocks_whole (GTdf block ∷ gs) top = ap (λ l. TdfBlock block ∷ l) (blocks_whole gs top)
blocks_whole (GDe block ∷ gs) top = ap (λ l. Events block ∷ l) (blocks_whole gs top)
blocks_whole (GNet block ∷ gs) top = blocks_whole gs top

each_push : (P : PureGlobal → Type 0) (gs : List PureGlobal) (g : PureGlobal) → Each P gs → P g → Each P (gs ++ g ∷ [])
each_push P [] g each last = (last, tt)
each_push P (h ∷ gs) g each last = (each.0, each_push P gs g each.1 last)

pub all_push : (P : PureGlobal → Type 0) (gs : List PureGlobal) (g : PureGlobal) → AllByRecursion P gs → P g → AllByRecursion P (gs ++ g ∷ [])
all_push P [] g all last = (last, tt)
all_push P (h ∷ gs) g all last = (all.0, all_push P gs g all.1 last)

-- the lines that declare the ports of an instance
pub record HasLines (P : PureGlobal → Type 0) (model : PureTree) (flat : Flat) (p : PlacedBlock) : Type 0 where
  pub of_block : IsProcessesRole P (globals_of model.globals) 0 (whole model) no_blocks p.instance.block p.role
  pub long : length (spans_in (slice_get flat.checked.blocks.items p.role.block)) ≡ length (ports_of_de of_block.block)
  pub line : (k : ℕ) (span : PortSpan) → slice_get (spans_in (slice_get flat.checked.blocks.items p.role.block)) k ≡ Some span
      → (l : PortLine) × (slice_get (ports_of_de of_block.block) k ≡ Some l) × (shape_written span.format ≡ format_of (globals_of model.globals) l.format)

module _ (P : PureGlobal → Type 0) (names_once : KeepsNamesOnce) (model : PureTree) (flat : Flat) (sound : IsSoundModel model) (is : IsFlatOf model flat) (all : AllByRecursion P (whole model))
    (n : ℕ) (p : PlacedBlock) (at : slice_get (placed_blocks (roles_of model) is.tables.tables.instances) n ≡ Some p) where
  abbrev globals : Names
  globals = globals_of model.globals

  abbrev ps : List PlacedBlock
  ps = placed_blocks (roles_of model) is.tables.tables.instances

  once : HasNamesOnce model
  once = names_once model sound.names

  of_block : IsProcessesRole P globals 0 (whole model) no_blocks p.instance.block p.role
  of_block = role_found P globals 0 (whole model) no_blocks (each_push DeclaresOnce model.globals (GNet model.top) once.blocks once.top) all p.instance.block p.role
      (item_at (HasRole (roles_of model)) ps (roles_placed (roles_of model) is.tables.tables.instances) n p at)

  made : (b : Block) × (slice_get flat.checked.blocks.items of_block.k ≡ Some b) × IsBlockOf (scope_of globals (Events of_block.block)) (Events of_block.block) b
  made = compiled globals (blocks_of model.globals) flat.checked.blocks.items is.bodies of_block.k (Events of_block.block)
      (ap (λ (l : List PureBlock). slice_get l of_block.k) (sym (blocks_whole model.globals model.top)) ∙ of_block.at)

  there : slice_get flat.checked.blocks.items p.role.block ≡ Some made.0
  there = let same : 0 + of_block.k ≡ of_block.k = omega arith in ap (λ (r : ProcessesOf). slice_get flat.checked.blocks.items r.block) of_block.role_is ∙ ap (slice_get flat.checked.blocks.items) same ∙ made.1

  place_there : (k : ℕ) (span : PortSpan) → slice_get (spans_in (slice_get flat.checked.blocks.items p.role.block)) k ≡ Some span → slice_get (places_of globals 0 (ports_of_de of_block.block)) k ≡ Some (place_of_span span)
  place_there k span e =
      ap (λ (l : List PortPlace). slice_get l k) (sym (made.2.spans ∙ ports_total globals of_block.block of_block.once))
      ∙ mapped place_of_span made.0.ports.spans.items k span (ap (λ (o : Option Block). slice_get (spans_in o) k) (sym there) ∙ e)

  placed : (k : ℕ) (span : PortSpan) → slice_get (spans_in (slice_get flat.checked.blocks.items p.role.block)) k ≡ Some span → (span.first ≡ 0 + k) × (span.count ≡ 1)
  placed k span e = place_at globals 0 (ports_of_de of_block.block) k (place_of_span span) (place_there k span e)

  spans_long : length (spans_in (slice_get flat.checked.blocks.items p.role.block)) ≡ length (ports_of_de of_block.block)
  spans_long =
      let here = ap (λ (o : Option Block). length (spans_in o)) there in
      let spans = mapped_long place_of_span made.0.ports.spans.items in
      let same = ap length (made.2.spans ∙ ports_total globals of_block.block of_block.once) in
      let long = places_long globals 0 (ports_of_de of_block.block) in
      omega (arith, here, spans, same, long)

  few_spans : length (spans_in (slice_get flat.checked.blocks.items p.role.block)) ≤ 8192
  few_spans =
      let few = few_ports model flat is n p at in
      let role = ap (λ (r : ProcessesOf). length r.ports) of_block.role_is in
      let kinds = mapped_long (λ (l : PortLine). l.kind) (ports_of_de of_block.block) in
      let long = spans_long in
      omega (arith, few, role, kinds, long)

  pub has_block : HasBlock flat n (block_row p)
  has_block = record {
    block = slice_get_within flat.checked.blocks.items p.role.block made.0 there;
    few = few_spans;
    first = λ k span e. let same : 0 + k ≡ k = omega arith in (placed k span e).0 ∙ same;
    one = λ k span e. (placed k span e).1;
    events = let same : n ≡ 0 + n = omega arith in
        ap (λ (l : List EventRow). length (filter (is_of n) l)) is.tables.follows.blocks.events
        ∙ ap (λ m. length (filter (is_of m) (events_from 0 ps))) same ∙ events_owned 0 ps n p at
        ∙ ap (λ (r : ProcessesOf). length r.events) of_block.role_is
        ∙ sym (events_total globals of_block.block of_block.once) ∙ sym made.2.events ∙ ap events_in (sym there);
  }

  pub has_lines : HasLines P model flat p
  has_lines = record {
    of_block = of_block;
    long = spans_long;
    line = λ k span e. place_line globals 0 (ports_of_de of_block.block) k (place_of_span span) (place_there k span e);
  }

-- the instance of a row
pub row_placed : (model : PureTree) (flat : Flat) (is : IsFlatOf model flat) (n : ℕ) (row : BlockRowOf) → slice_get flat.tables.blocks n ≡ Some row
    → (p : PlacedBlock) × (slice_get (placed_blocks (roles_of model) is.tables.tables.instances) n ≡ Some p) × (block_row p ≡ row)
row_placed model flat is n row at = unmapped block_row (placed_blocks (roles_of model) is.tables.tables.instances) n row (ap (λ (l : List BlockRowOf). slice_get l n) (sym is.tables.follows.blocks.blocks) ∙ at)

all_declared : (gs : List PureGlobal) → AllByRecursion (λ (g : PureGlobal). Unit {0}) gs
all_declared [] = tt
all_declared (g ∷ gs) = (tt, all_declared gs)

pub instances_have_blocks : KeepsNamesOnce → InstancesHaveBlocks
instances_have_blocks names_once model flat sound is n row at =
    let it = row_placed model flat is n row at in
    subst (HasBlock flat n) it.2 (has_block (λ (g : PureGlobal). Unit {0}) names_once model flat sound is (all_declared (whole model)) n it.0 it.1)
