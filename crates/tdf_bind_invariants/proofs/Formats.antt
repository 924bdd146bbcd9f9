-- The ports of the modules of a flat model have the formats of their signals.
use Rattle.std.proofs.Common.{◌≡◌, ◌∙◌, ℕ, zero, suc, ◌+◌, ◌-◌, ◌≤◌, Bool, true, false, List, [], ◌∷◌, ◌++◌, Option, Some, None, length, map, refl, sym, ap, subst, arith, Ordering, Less, Equal, Greater}
use Rattle.std.proofs.lemmas.Int.{ints}
use Rattle.std.proofs.lemmas.List.{length_push}
use Rattle.std.proofs.lemmas.List.Elements.{All-from_recursion}
use Rattle.std.proofs.lemmas.Option.{same_Some, none-some}
use Rattle.std.specs.BTreeMap.{insert_entry}
use Rattle.std.specs.Cmp.Lexicographic.{pointwise}
use Rattle.std.specs.List.{AllByRecursion, enumerate_from, flat_map}
use Rattle.std.specs.Option.{option_map}
use Rattle.std.specs.Ordering.{nat_cmp, match_ordering}
use Rattle.std.specs.Prelude.{filter, if◌then◌else◌, nat_eq, pos, slice_get, slice_index_or, take}
use mathlib.Core.HLevel.{is_prop→PathP}
use native.Mathlib.Bridge.{le_prop}
use Rattle.tdf_base.specs.Number.{Numeral, numeral_of}
use Rattle.tdf_expr.specs.Blocks.{Module as TdfBlock, Events, PureBlock, blocks_of, scope_of}
use Rattle.tdf_expr.specs.Compiled.{AreBlocksOf, IsBlockOf}
use Rattle.tdf_expr.specs.Frames.{IsOfFormat, limits_of_rate}
use Rattle.tdf_expr.specs.Made.{block_rates, spans_in}
use Rattle.tdf_expr.specs.Plans.{PortPlace, place_of_span, port_places, rate_span, rate_spans, shape_of_format, shape_written}
use Rattle.tdf_expr.specs.declared.blocks.Block.{Block}
use Rattle.tdf_expr.specs.declared.spans.PortSpan.{PortSpan}
use Rattle.tdf_fixed.proofs.Api.{in_range}
use Rattle.tdf_fixed.specs.Overflow.{IsOfWidth}
use Rattle.tdf_fixed.specs.declared.format.Format.{Format}
use Rattle.tdf_fixed.specs.declared.raw.Raw.{Raw}
use Rattle.tdf_bind.specs.Flat.{IsFlatOf, top_place}
use Rattle.tdf_bind.specs.declared.model.Flat.{Flat}
use Rattle.tdf_bind_invariants.proofs.Blocks.{apart_differ, keep_tags, stays}
use Rattle.tdf_bind_invariants.proofs.FormatRows.{IsRowPort, IsTaggedModule, modules_tagged, row_port}
use Rattle.tdf_bind_invariants.proofs.Spaces.{Differ}
use Rattle.tdf_bind_invariants.proofs.Spans.{IsPortPlace, port_placed, rate_most}
use Rattle.tdf_bind_invariants.proofs.Walked.{IsTagged, rows_tagged}
use Rattle.tdf_bind_invariants.specs.Formats.{IsOwnPort, IsSoundModel, PortsHaveFormats, format_of_row, module_of_port, module_of_row, place_of_port as own_place, signal_format}
use Rattle.tdf_bind_invariants.specs.Tags.{Tag, block_tags, model_tags, number_tag, numbered_tag, port_tag, port_tags, tag_with, tags_at}
use Rattle.tdf_bind_invariants.specs.Limits.{limits_in, times_value}
use Rattle.tdf_bind_ports.specs.Ports.{Known, known_after, known_after_all, no_blocks, ports_of_composite, ports_of_de, ports_of_tdf, with_block}
use Rattle.tdf_expr_semantics.proofs.Api.{least_greatest, thing_sound}
use Rattle.tdf_expr_semantics.specs.Fits.{RatesFit}
use Rattle.tdf_expr_semantics.specs.Places.{RateLimits, limits_of, rate_limits}
use Rattle.tdf_expr_semantics.specs.Value.{literal_in, literal_number}
use Rattle.tdf_expr_names.specs.Law.{DeclaresOnce, HasNamesOnce, KeepsNamesOnce}
use Rattle.tdf_expr_names.specs.Names.{names_of_tdf_line, names_of_tdf_lines}
use Rattle.tdf_bind_names.specs.Resolved.{AreBlocks, AreResolved, whole}
use Rattle.tdf_bind.specs.Below.{data_of_port, initials_of_port, module_role, port_data, rate_of_limit, roles_from, roles_of, with_initial, with_initials}
use Rattle.tdf_expr_symbols.specs.Names.{Names, Thing, Port, RateVar, format_of, globals_of, tdf_names, thing_of}
use Rattle.tdf_expr_symbols.specs.Scope.{Scope, greatest_of, tdf_scope}
use Rattle.tdf_lang_tree.specs.Kept.{Each}
use Rattle.tdf_lang_tree.specs.Pure.{PureComposite, PureGlobal, GShape, GTdf, GDe, GNet, PureTdf, PureTree}
use Rattle.tdf_lang_tree.specs.declared.blocks.Initial.{Initial}
use Rattle.tdf_lang_tree.specs.declared.blocks.PortKind.{PortKind}
use Rattle.tdf_lang_tree.specs.declared.blocks.PortKind.TheVariants.{In, Out, DeIn, DeOut}
use Rattle.tdf_lang_tree.specs.declared.blocks.PortLine.{PortLine}
use Rattle.tdf_lang_tree.specs.declared.names.Lit.{Lit}
use Rattle.tdf_lang_tree.specs.declared.shapes.Shape.{Shape}
use Rattle.tdf_lang_tree.specs.declared.stmt.Limit.{Limit}
use Rattle.tdf_bind_hierarchy.specs.Blocks.{BlockOf}
use Rattle.tdf_bind_hierarchy.specs.Tables.{TablesOf, table}
use Rattle.tdf_bind_hierarchy.specs.declared.tables.Signal.{Signal}
use Rattle.tdf_bind_hierarchy.specs.declared.tables.SignalNumber.{SignalNumber}
use Rattle.tdf_bind_connections.specs.Drivers.{signal_row, signal_rows}
use Rattle.tdf_bind_connections.specs.Edges.{is_event_port}
use Rattle.tdf_bind_connections.specs.Modules.{PlacedModule, module_row, placed_modules, ports_from}
use Rattle.tdf_bind_connections.specs.Roles.{ModuleRole}
use Rattle.tdf_bind_connections.specs.declared.drivers.SignalRow.{SignalRow}
use Rattle.tdf_bind_connections.specs.declared.modules.ModuleRow.{ModuleRow}
use Rattle.tdf_bind_connections.specs.declared.modules.PortRow.{PortRow}
use Rattle.tdf_bind_connections.specs.declared.roles.PortData.{PortData}
use Rattle.tdf_bind_connections.specs.declared.roles.Rate.{Rate}
use Rattle.tdf_bind_connections.specs.declared.roles.Role.{Role}
use Rattle.tdf_bind_connections.specs.declared.roles.Role.TheVariants.{Module}
use Rattle.tdf_bind_connections.specs.declared.writers.Writer.{Writer}

-- the block of a module
record IsModuleRole (globals : Names) (number : ℕ) (gs : List PureGlobal) (known : Known) (j : ℕ) (role : ModuleRole) : Type 0 where
  block : PureTdf
  k : ℕ
  role_is : role ≡ module_role globals (number + k) block
  at : slice_get (blocks_of gs) k ≡ Some (TdfBlock block)
  ports_are : slice_get (known_after_all gs known).ports (length known.ports + j) ≡ Some (ports_of_tdf block)
  once : Differ (flat_map names_of_tdf_line block.decls)

pushed_at : {A : Type 0} (xs : List A) (x : A) → slice_get (xs ++ x ∷ []) (length xs) ≡ Some x
pushed_at [] x = refl
pushed_at (y ∷ xs) x = pushed_at xs x

abbrev role_in : ModuleRole → Option Role → ModuleRole
role_in other (Some (Module role)) = role
role_in other _ = other

abbrev is_module : Option Role → Type 0
is_module (Some (Module role)) = Unit {0}
is_module _ = ⊥

module_found : (globals : Names) (number : ℕ) (gs : List PureGlobal) (known : Known) → Each DeclaresOnce gs → (j : ℕ) (role : ModuleRole) → slice_get (roles_from globals number gs) j ≡ Some (Module role)
    → IsModuleRole globals number gs known j role
unfolding roles_from known_after_all
module_found globals number [] known once j role e = absurd (none-some (Module role) e)
module_found globals number (GShape t ∷ gs) known once j role e =
    let it = module_found globals number gs known once.1 j role e in
    record { block = it.block; k = it.k; role_is = it.role_is; at = it.at; ports_are = it.ports_are; once = it.once }
module_found globals number (GTdf block ∷ gs) known once zero role e =
    let here : number ≡ number + 0 = omega arith in
    let place : length known.ports ≡ length known.ports + 0 = omega arith in
    record {
      block = block;
      k = 0;
      role_is = sym (ap (role_in role) e) ∙ ap (λ n. module_role globals n block) here;
      at = refl;
      ports_are = ap (slice_get (known_after_all gs (with_block block.name (ports_of_tdf block) known)).ports) (sym place)
          ∙ stays gs (with_block block.name (ports_of_tdf block) known) (length known.ports) (ports_of_tdf block) (pushed_at known.ports (ports_of_tdf block));
      once = apart_differ (names_of_tdf_lines block.decls) once.0;
    }
module_found globals number (GTdf block ∷ gs) known once (suc j) role e =
    let next = with_block block.name (ports_of_tdf block) known in
    let it = module_found globals (number + 1) gs next once.1 j role e in
    let later : number + 1 + it.k ≡ number + suc it.k = omega arith in
    let long : length next.ports ≡ length known.ports + 1 = length_push known.ports (ports_of_tdf block) in
    let place : length known.ports + suc j ≡ length next.ports + j = omega (arith, long) in
    record {
      block = it.block;
      k = suc it.k;
      role_is = it.role_is ∙ ap (λ n. module_role globals n it.block) later;
      at = it.at;
      ports_are = ap (slice_get (known_after_all gs next).ports) place ∙ it.ports_are;
      once = it.once;
    }
module_found globals number (GDe block ∷ gs) known once zero role e = absurd (subst is_module (sym e) tt)
module_found globals number (GDe block ∷ gs) known once (suc j) role e =
    let next = with_block block.name (ports_of_de block) known in
    let it = module_found globals (number + 1) gs next once.1 j role e in
    let later : number + 1 + it.k ≡ number + suc it.k = omega arith in
    let long : length next.ports ≡ length known.ports + 1 = length_push known.ports (ports_of_de block) in
    let place : length known.ports + suc j ≡ length next.ports + j = omega (arith, long) in
    record {
      block = it.block;
      k = suc it.k;
      role_is = it.role_is ∙ ap (λ n. module_role globals n it.block) later;
      at = it.at;
      ports_are = ap (slice_get (known_after_all gs next).ports) place ∙ it.ports_are;
      once = it.once;
    }
module_found globals number (GNet block ∷ gs) known once zero role e = absurd (subst is_module (sym e) tt)
module_found globals number (GNet block ∷ gs) known once (suc j) role e =
    let next = with_block block.name (ports_of_composite block) known in
    let it = module_found globals number gs next once.1 j role e in
    let long : length next.ports ≡ length known.ports + 1 = length_push known.ports (ports_of_composite block) in
    let place : length known.ports + suc j ≡ length next.ports + j = omega (arith, long) in
    record {
      block = it.block;
      k = it.k;
      role_is = it.role_is;
      at = it.at;
      ports_are = ap (slice_get (known_after_all gs next).ports) place ∙ it.ports_are;
      once = it.once;
    }

-- the block that was compiled
compiled : (globals : Names) (ps : List PureBlock) (bs : List Block) → AreBlocksOf globals ps bs → (k : ℕ) (p : PureBlock) → slice_get ps k ≡ Some p → (b : Block) × (slice_get bs k ≡ Some b) × IsBlockOf (scope_of globals p) p b
compiled globals [] bs are k p at = absurd (none-some p at)
compiled globals (q ∷ ps) [] are k p at = absurd are
compiled globals (q ∷ ps) (b ∷ bs) are zero p at = (b, refl, subst (λ (x : PureBlock). IsBlockOf (scope_of globals x) x b) (same_Some q p at) are.0)
compiled globals (q ∷ ps) (b ∷ bs) are (suc k) p at = compiled globals ps bs are.1 k p at

-- an item of a list that was mapped
unmapped : {A B : Type 0} (f : A → B) (xs : List A) (n : ℕ) (y : B) → slice_get (map f xs) n ≡ Some y → (x : A) × (slice_get xs n ≡ Some x) × (f x ≡ y)
unmapped f [] n y at = absurd (none-some y at)
unmapped f (x ∷ xs) zero y at = (x, refl, same_Some (f x) y at)
unmapped f (x ∷ xs) (suc n) y at = unmapped f xs n y at

mapped : {A B : Type 0} (f : A → B) (xs : List A) (n : ℕ) (x : A) → slice_get xs n ≡ Some x → slice_get (map f xs) n ≡ Some (f x)
mapped f [] n x at = absurd (none-some x at)
mapped f (y ∷ xs) zero x at = ap (λ z. Some (f z)) (same_Some y x at)
mapped f (y ∷ xs) (suc n) x at = mapped f xs n x at

item_or : {A : Type 0} (xs : List A) (n : ℕ) (x d : A) → slice_get xs n ≡ Some x → slice_index_or xs n d ≡ x
item_or [] n x d at = absurd (none-some x at)
item_or (y ∷ xs) zero x d at = same_Some y x at
item_or (y ∷ xs) (suc n) x d at = item_or xs n x d at

item_at : {A : Type 0} (P : A → Type 0) (xs : List A) → AllByRecursion P xs → (n : ℕ) (x : A) → slice_get xs n ≡ Some x → P x
item_at P [] all n x at = absurd (none-some x at)
item_at P (y ∷ ys) all zero x at = subst P (same_Some y x at) all.0
item_at P (y ∷ ys) all (suc n) x at = item_at P ys all.1 n x at

-- formats of equal shapes are equal
pub same_format : (f g : Format) → shape_of_format f ≡ shape_of_format g → f ≡ g
same_format f g e = λ i. record {
  signed = (e i).signed;
  wl = (e i).wl;
  iwl = (e i).iwl;
  quant = (e i).quant;
  over = (e i).over;
  some_bits = is_prop→PathP (λ j. 1 ≤ (e j).wl) (λ j. le_prop) f.some_bits g.some_bits i;
  few_bits = is_prop→PathP (λ j. (e j).wl ≤ 64) (λ j. le_prop) f.few_bits g.few_bits i;
  whole_bits = is_prop→PathP (λ j. (e j).iwl ≤ (e j).wl) (λ j. le_prop) f.whole_bits g.whole_bits i;
  fraction_bits = is_prop→PathP (λ j. (e j).wl - (e j).iwl ≤ 63) (λ j. le_prop) f.fraction_bits g.fraction_bits i;
}

-- the formats in the tables of signals
pub rows_format : (writers : List Writer) (from : ℕ) (signals : List Signal) (k : ℕ) → format_of_row (slice_get (map (λ signal. signal_row writers signal.0 signal.1) (enumerate_from from signals)) k)
    ≡ option_map (λ (s : Signal). s.format) (slice_get signals k)
rows_format writers from [] k = refl
rows_format writers from (s ∷ signals) zero = refl
rows_format writers from (s ∷ signals) (suc k) = rows_format writers (from + 1) signals k

-- what a tag of a number says of its signal
abbrev tag_event : Tag → Option Tag → Bool
tag_event d None = d.event
tag_event d (Some t) = t.event

abbrev tag_shape : Tag → Option Tag → Shape
tag_shape d None = d.shape
tag_shape d (Some t) = t.shape

pub record IsNumberTag (t : TablesOf) (n : SignalNumber) (event : Bool) (shape : Shape) : Type 0 where
  pub signal : Signal
  pub there : slice_get (table n.event t) n.number ≡ Some signal
  pub event_is : n.event ≡ event
  pub shape_is : shape_of_format signal.format ≡ shape

pub number_is : (t : TablesOf) (n : SignalNumber) (event : Bool) (shape : Shape) → number_tag t n ≡ Some (record { event = event; shape = shape }) → IsNumberTag t n event shape
number_is t n event shape e = go (slice_get (table n.event t) n.number) refl e
  where
    go : (o : Option Signal) → slice_get (table n.event t) n.number ≡ o → option_map (numbered_tag n.event) o ≡ Some (record { event = event; shape = shape }) → IsNumberTag t n event shape
    go None at f = absurd (none-some (record { event = event; shape = shape }) f)
    go (Some s) at f = record { signal = s; there = at; event_is = ap (tag_event (numbered_tag n.event s)) f; shape_is = ap (tag_shape (numbered_tag n.event s)) f }

-- the literals of a format
zero_in : (signed : Bool) (wl : ℕ) → IsOfWidth signed wl (pos 0)
zero_in true wl = record { low = omega (arith, ints); high = omega (arith, ints) }
zero_in false wl = record { low = omega (arith, ints); high = omega (arith, ints) }

literal_fits : (s : Shape) (minus : Bool) (n : Option Numeral) → 1 ≤ s.wl → IsOfWidth s.signed s.wl (literal_number s minus n)
literal_fits s minus None some = zero_in s.signed s.wl
literal_fits s minus (Some n) some = in_range s.over s.signed s.wl _ some

-- the initial samples of a port
abbrev AreOfFormat : Format → List (ℕ × Raw) → Type 0
AreOfFormat f entries = AllByRecursion (λ (e : ℕ × Raw). IsOfFormat f e.1) entries

entry_fits : (f : Format) (entries : List (ℕ × Raw)) (k : ℕ) (v : Raw) → AreOfFormat f entries → IsOfFormat f v → AreOfFormat f (insert_entry nat_cmp entries k v)
entry_fits f [] k v all is = (is, tt)
entry_fits f (e ∷ entries) k v all is = go (nat_cmp k e.0) (entry_fits f entries k v all.1 is)
  where
    go : (o : Ordering) → AreOfFormat f (insert_entry nat_cmp entries k v) → AreOfFormat f (match_ordering o ((k, v) ∷ e ∷ entries) ((e.0, v) ∷ entries) (e ∷ insert_entry nat_cmp entries k v))
    go Less later = (is, (all.0, all.1))
    go Equal later = (is, all.1)
    go Greater later = (all.0, later)

literal_is : (f : Format) (shape : Shape) (v : Lit) → shape_of_format f ≡ shape → IsOfFormat f (literal_in (Some shape) v)
literal_is f shape v same = subst (λ (s : Shape). IsOfFormat f (literal_in (Some s) v)) same
    (record { frac = refl; num = literal_fits (shape_of_format f) v.minus (numeral_of v.digits) f.some_bits })

initials_fit : (f : Format) (shape : Shape) (port : List ℕ) (lines : List Initial) (entries : List (ℕ × Raw)) → shape_of_format f ≡ shape → AreOfFormat f entries → AreOfFormat f (with_initials port shape lines entries)
unfolding with_initials
initials_fit f shape port [] entries same all = all
initials_fit f shape port (i ∷ is) entries same all = initials_fit f shape port is (with_initial port shape i entries) same (go (pointwise nat_eq port i.port))
  where
    go : (b : Bool) → AreOfFormat f (if b then insert_entry nat_cmp entries i.place (literal_in (Some shape) i.value) else entries)
    go true = entry_fits f entries i.place (literal_in (Some shape) i.value) all (literal_is f shape i.value same)
    go false = all

port_initials : (f : Format) (port : List ℕ) (word : PortKind) (shape : Option Shape) (rate : Limit) (delay : ℕ) (lines : List Initial) → Some (shape_of_format f) ≡ shape
    → AreOfFormat f (initials_of_port port (Some (Port word shape rate delay)) lines)
port_initials f port word None rate delay lines same = tt
port_initials f port word (Some shape) rate delay lines same = initials_fit f shape port lines [] (same_Some (shape_of_format f) shape same) tt

-- the rate variables of a block
limits_same : (globals : Names) (block : PureTdf) (b : Block) → b.rates.items ≡ rate_spans (tdf_names globals block) → map limits_of_rate b.rates.items ≡ rate_limits (tdf_names globals block)
limits_same globals block b is = ap (map limits_of_rate) is ∙ sym (go (tdf_names globals block).things)
  where
    go : (things : List Thing) → flat_map limits_of things ≡ map limits_of_rate (flat_map rate_span things)
    go [] = refl
    go (RateVar least greatest start ∷ things) = ap (λ l. record { least = least; greatest = greatest } ∷ l) (go things)
    go (_ ∷ things) = go things

blocks_whole : (gs : List PureGlobal) (top : PureComposite) → blocks_of (gs ++ GNet top ∷ []) ≡ blocks_of gs
blocks_whole [] top = refl
blocks_whole (GShape t ∷ gs) top = blocks_whole gs top
blocks_whole (GTdf block ∷ gs) top = ap (λ l. TdfBlock block ∷ l) (blocks_whole gs top)
blocks_whole (GDe block ∷ gs) top = ap (λ l. Events block ∷ l) (blocks_whole gs top)
blocks_whole (GNet block ∷ gs) top = blocks_whole gs top

each_push : (P : PureGlobal → Type 0) (gs : List PureGlobal) (g : PureGlobal) → Each P gs → P g → Each P (gs ++ g ∷ [])
each_push P [] g each last = (last, tt)
each_push P (h ∷ gs) g each last = (each.0, each_push P gs g each.1 last)

pub tags_there : (globals : Names) (list : List (List PortLine)) (k : ℕ) (ports : List PortLine) → slice_get list k ≡ Some ports → tags_at (block_tags globals list) k ≡ port_tags globals ports
tags_there globals [] k ports at = absurd (none-some ports at)
tags_there globals (p ∷ list) zero ports at = ap (port_tags globals) (same_Some p ports at)
tags_there globals (p ∷ list) (suc k) ports at = tags_there globals list k ports at

-- the ports of the last block, `top`
closed_top : (globals : Names) (known : Known) (gs : List PureGlobal) (top : PureComposite) → ports_of_composite top ≡ [] → slice_get (known_after_all (gs ++ GNet top ∷ []) known).ports (length (known_after_all (gs ++ GNet top ∷ []) known).ports - 1) ≡ Some []
unfolding known_after_all
closed_top globals known [] top none =
    let long : length (known.ports ++ ports_of_composite top ∷ []) ≡ length known.ports + 1 = length_push known.ports (ports_of_composite top) in
    let place : length (known.ports ++ ports_of_composite top ∷ []) - 1 ≡ length known.ports = omega (arith, long) in
    ap (slice_get (known.ports ++ ports_of_composite top ∷ [])) place ∙ pushed_at known.ports (ports_of_composite top) ∙ ap Some none
closed_top globals known (g ∷ gs) top none = closed_top globals (known_after g known) gs top none

-- as many blocks as ports of blocks
long_blocks : (globals : Names) (known : Known) (gs : List PureGlobal) (bs : List BlockOf) → AreBlocks globals known gs bs → length (known_after_all gs known).ports ≡ length known.ports + length bs
unfolding known_after_all
long_blocks globals known [] bs are = let none : length bs ≡ 0 = ap length are in omega (arith, none)
long_blocks globals known (GShape t ∷ gs) bs are = long_blocks globals known gs bs are
long_blocks globals known (GTdf block ∷ gs) [] are = absurd are
long_blocks globals known (GTdf block ∷ gs) (b ∷ bs) are =
    let next = with_block block.name (ports_of_tdf block) known in
    let long : length next.ports ≡ length known.ports + 1 = length_push known.ports (ports_of_tdf block) in
    let rest = long_blocks globals next gs bs are.1 in
    let both : length next.ports + length bs ≡ length known.ports + suc (length bs) = omega (arith, long) in rest ∙ both
long_blocks globals known (GDe block ∷ gs) [] are = absurd are
long_blocks globals known (GDe block ∷ gs) (b ∷ bs) are =
    let next = with_block block.name (ports_of_de block) known in
    let long : length next.ports ≡ length known.ports + 1 = length_push known.ports (ports_of_de block) in
    let rest = long_blocks globals next gs bs are.1 in
    let both : length next.ports + length bs ≡ length known.ports + suc (length bs) = omega (arith, long) in rest ∙ both
long_blocks globals known (GNet block ∷ gs) [] are = absurd are
long_blocks globals known (GNet block ∷ gs) (b ∷ bs) are =
    let next = with_block block.name (ports_of_composite block) known in
    let long : length next.ports ≡ length known.ports + 1 = length_push known.ports (ports_of_composite block) in
    let rest = long_blocks globals next gs bs are.1 in
    let both : length next.ports + length bs ≡ length known.ports + suc (length bs) = omega (arith, long) in rest ∙ both

closed_tags : (model : PureTree) (blocks : List BlockOf) → AreResolved model blocks → ports_of_composite model.top ≡ [] → tags_at (model_tags model) (top_place blocks) ≡ []
closed_tags model blocks are none =
    let globals = globals_of model.globals in
    let all = (known_after_all (whole model) no_blocks).ports in
    let long : length all ≡ 0 + length blocks = long_blocks globals no_blocks (whole model) blocks are in
    let place : length blocks - 1 ≡ length all - 1 = omega (arith, long) in
    ap (tags_at (block_tags globals all)) place ∙ tags_there globals all (length all - 1) [] (closed_top globals no_blocks model.globals model.top none)

-- each port of each instance reaches a signal of its own tag
pub model_tagged : KeepsNamesOnce → (model : PureTree) (flat : Flat) → IsSoundModel model → (is : IsFlatOf model flat)
    → AllByRecursion (IsTagged (model_tags model) is.tables.tables) is.tables.tables.instances
model_tagged names_once model flat sound is =
    rows_tagged (model_tags model) is.blocks (top_place is.blocks) is.tables.tables
    (keep_tags model is.blocks (top_place is.blocks) sound.types (names_once model sound.names) is.linked.links is.linked.resolved (closed_tags model is.blocks is.linked.resolved sound.closed)) is.tables.met

module_there : (ports : List PortRow) (n : ℕ) (p : PortRow) → slice_get ports n ≡ Some p → module_of_port ports n ≡ p.«module»
module_there ports n p at = ap module_of_row at

-- the port, by the line that declares it
module _ (names_once : KeepsNamesOnce) (model : PureTree) (flat : Flat) (sound : IsSoundModel model) (is : IsFlatOf model flat) (number : ℕ) (port : PortRow) (at : slice_get flat.tables.ports number ≡ Some port) where
  abbrev globals : Names
  globals = globals_of model.globals

  abbrev t : TablesOf
  t = is.tables.tables

  abbrev tags : List (List (Option Tag))
  tags = model_tags model

  abbrev placed : List PlacedModule
  placed = placed_modules (roles_of model) t.instances

  once : HasNamesOnce model
  once = names_once model sound.names

  all_tagged : AllByRecursion (IsTaggedModule (roles_of model) tags t) placed
  all_tagged = modules_tagged (roles_of model) tags t t.instances (model_tagged names_once model flat sound is)

  ports_are : flat.tables.ports ≡ ports_from 0 placed
  ports_are = is.tables.follows.modules.ports

  it : IsRowPort placed 0 [] (ports_from 0 placed) number port
  it = row_port placed 0 [] tt number port (sym (ap (λ (l : List PortRow). slice_get l number) ports_are) ∙ at)

  module_at : slice_get placed port.«module» ≡ Some it.placed
  module_at = let same : 0 + it.offset ≡ it.offset = omega arith in ap (slice_get placed) (it.number_is ∙ same) ∙ it.there

  row_at : slice_get flat.tables.modules port.«module» ≡ Some (module_row it.placed)
  row_at = ap (λ (l : List ModuleRow). slice_get l port.«module») is.tables.follows.modules.modules ∙ mapped module_row placed port.«module» it.placed module_at

  tagged : IsTaggedModule (roles_of model) tags t it.placed
  tagged = item_at (IsTaggedModule (roles_of model) tags t) placed all_tagged port.«module» it.placed module_at

  of_block : IsModuleRole globals 0 (whole model) no_blocks it.placed.instance.block it.placed.role
  of_block = module_found globals 0 (whole model) no_blocks (each_push DeclaresOnce model.globals (GNet model.top) once.blocks once.top) it.placed.instance.block it.placed.role tagged.role_is

  abbrev block : PureTdf
  block = of_block.block

  abbrev scope : Scope
  scope = tdf_scope globals block

  abbrev own : Names
  own = scope.own

  number_of_block : it.placed.role.block ≡ of_block.k
  number_of_block = let same : 0 + of_block.k ≡ of_block.k = omega arith in ap (λ (r : ModuleRole). r.block) of_block.role_is ∙ same

  made : (b : Block) × (slice_get flat.checked.blocks.items of_block.k ≡ Some b) × IsBlockOf (scope_of globals (TdfBlock block)) (TdfBlock block) b
  made = compiled globals (blocks_of model.globals) flat.checked.blocks.items is.bodies of_block.k (TdfBlock block) (ap (λ (l : List PureBlock). slice_get l of_block.k) (sym (blocks_whole model.globals model.top)) ∙ of_block.at)

  block_at : slice_get flat.checked.blocks.items it.placed.role.block ≡ Some made.0
  block_at = ap (slice_get flat.checked.blocks.items) number_of_block ∙ made.1

  line : (l : PortLine) × (slice_get (ports_of_tdf block) it.place ≡ Some l) × (port_data scope block l ≡ it.port_data)
  line = unmapped (port_data scope block) (ports_of_tdf block) it.place it.port_data (sym (ap (λ (r : ModuleRole). slice_get r.ports it.place) of_block.role_is) ∙ it.at)

  place : IsPortPlace globals own (port_places own) it.place line.0
  place = port_placed globals block of_block.once it.place line.0 line.1

  span : (p : PortSpan) × (slice_get made.0.ports.spans.items it.place ≡ Some p) × (place_of_span p ≡ place.place)
  span = unmapped place_of_span made.0.ports.spans.items it.place place.place (ap (λ (l : List PortPlace). slice_get l it.place) made.2.spans ∙ place.there)

  span_shape : shape_written span.0.format ≡ format_of globals line.0.format
  span_shape = ap (λ (p : PortPlace). p.shape) span.2 ∙ place.shape

  kind_is : port.kind ≡ line.0.kind
  kind_is = ap (λ (p : PortRow). p.kind) it.is ∙ sym (ap (λ (d : PortData). d.kind) line.2)

  word_is : span.0.word ≡ port.kind
  word_is = ap (λ (p : PortPlace). p.word) span.2 ∙ place.word ∙ sym kind_is

  -- the number of its signal
  signal_tags : map (number_tag t) it.placed.instance.signals ≡ port_tags globals (ports_of_tdf block)
  signal_tags = let same : 0 + it.placed.instance.block ≡ it.placed.instance.block = omega arith in
      tagged.tagged ∙ tags_there globals (known_after_all (whole model) no_blocks).ports it.placed.instance.block (ports_of_tdf block) (ap (slice_get (known_after_all (whole model) no_blocks).ports) (sym same) ∙ of_block.ports_are)

  signal_number : (n : SignalNumber) × (slice_get it.placed.instance.signals it.place ≡ Some n) × (number_tag t n ≡ port_tag globals line.0)
  signal_number = unmapped (number_tag t) it.placed.instance.signals it.place (port_tag globals line.0)
      (ap (λ (l : List (Option Tag)). slice_get l it.place) signal_tags ∙ mapped (port_tag globals) (ports_of_tdf block) it.place line.0 line.1)

  signal_is : IsNumberTag t signal_number.0 (is_event_port line.0.kind) (shape_of_format span.0.format)
  signal_is = number_is t signal_number.0 (is_event_port line.0.kind) (shape_of_format span.0.format) (signal_number.2 ∙ ap (tag_with (is_event_port line.0.kind)) (sym span_shape))

  signal_place : port.signal ≡ signal_number.0.number
  signal_place = ap (λ (p : PortRow). p.signal) it.is ∙ ap (λ (n : SignalNumber). n.number) (item_or it.placed.instance.signals it.place signal_number.0 (record { event = false; number = 0 }) signal_number.1)

  format_is : signal_is.signal.format ≡ span.0.format
  format_is = same_format signal_is.signal.format span.0.format signal_is.shape_is

  sampled : (l : List SignalRow) (writers : List Writer) (s : List Signal) → l ≡ signal_rows writers s → table signal_number.0.event t ≡ s → format_of_row (slice_get l port.signal) ≡ Some span.0.format
  sampled l writers s rows same =
      ap (λ (k : List SignalRow). format_of_row (slice_get k port.signal)) rows ∙ rows_format writers 0 s port.signal
      ∙ ap (λ (k : List Signal). option_map (λ (x : Signal). x.format) (slice_get k port.signal)) (sym same)
      ∙ ap (λ k. option_map (λ (x : Signal). x.format) (slice_get (table signal_number.0.event t) k)) signal_place
      ∙ ap (option_map (λ (x : Signal). x.format)) signal_is.there ∙ ap Some format_is

  event_of : (k : PortKind) → port.kind ≡ k → signal_number.0.event ≡ is_event_port k
  event_of k same = signal_is.event_is ∙ ap is_event_port (sym kind_is ∙ same)

  signal_formats : (k : PortKind) → port.kind ≡ k → signal_format flat.tables k port.signal ≡ Some span.0.format
  signal_formats In same = sampled flat.tables.signals _ t.signals is.tables.follows.signals.signals (ap (λ b. table b t) (event_of In same))
  signal_formats Out same = sampled flat.tables.signals _ t.signals is.tables.follows.signals.signals (ap (λ b. table b t) (event_of Out same))
  signal_formats DeIn same = sampled flat.tables.de_signals _ t.event_signals is.tables.follows.signals.de_signals (ap (λ b. table b t) (event_of DeIn same))
  signal_formats DeOut same = sampled flat.tables.de_signals _ t.event_signals is.tables.follows.signals.de_signals (ap (λ b. table b t) (event_of DeOut same))

  -- its data
  thing_is : thing_of own line.0.name ≡ Some (Port line.0.kind (format_of globals line.0.format) place.rate place.delay)
  thing_is = place.thing

  data_is : it.port_data ≡ data_of_port scope block line.0 (Some (Port line.0.kind (format_of globals line.0.format) place.rate place.delay))
  data_is = sym line.2 ∙ ap (data_of_port scope block line.0) thing_is

  rate_is : port.rate ≡ rate_of_limit own place.rate
  rate_is = ap (λ (p : PortRow). p.rate) it.is ∙ ap (λ (d : PortData). d.rate) data_is

  greatest_some : 1 ≤ greatest_of own place.rate
  greatest_some =
      let holds = thing_sound scope made.2.sound line.0.name (Port line.0.kind (format_of globals line.0.format) place.rate place.delay) thing_is in
      let least = least_greatest scope made.2.sound place.rate in
      let some = holds.1 in omega (arith, some, least)

  limits_are : limits_in flat.checked (Some (module_row it.placed)) ≡ rate_limits own
  limits_are = ap (λ (o : Option Block). map limits_of_rate (block_rates o)) block_at ∙ limits_same globals block made.0 made.2.rates

  wide : (values : List ℕ) → RatesFit (limits_in flat.checked (Some (module_row it.placed))) values → times_value port.rate.times values port.rate.var ≤ span.0.count
  wide values fit =
      let most = rate_most own place.rate values (subst (λ (l : List RateLimits). RatesFit l values) limits_are fit) greatest_some in
      let count : span.0.count ≡ greatest_of own place.rate = ap (λ (p : PortPlace). p.count) span.2 ∙ place.count in
      subst (λ c. times_value port.rate.times values port.rate.var ≤ c) (sym count) (subst (λ (r : Rate). times_value r.times values r.var ≤ greatest_of own place.rate) (sym rate_is) most)

  initials_are : port.initials ≡ initials_of_port line.0.name (Some (Port line.0.kind (format_of globals line.0.format) place.rate place.delay)) block.initials
  initials_are = ap (λ (p : PortRow). p.initials) it.is ∙ ap (λ (d : PortData). d.initials) data_is

  pub own_port : IsOwnPort flat number port
  own_port = record {
    row = module_row it.placed;
    module_is = row_at;
    span = span.0;
    at = ap (λ n. slice_get (spans_in (slice_get flat.checked.blocks.items it.placed.role.block)) n) place_of ∙ ap (λ (o : Option Block). slice_get (spans_in o) it.place) block_at ∙ span.1;
    word = word_is;
    format = signal_formats port.kind refl;
    wide = wide;
    initials = All-from_recursion (λ (e : ℕ × Raw). IsOfFormat span.0.format e.1) port.initials
        (subst (AreOfFormat span.0.format) (sym initials_are) (port_initials span.0.format line.0.name line.0.kind (format_of globals line.0.format) place.rate place.delay block.initials span_shape));
  }
    where
      place_of : own_place flat.tables.ports number ≡ it.place
      place_of = ap (λ (l : List PortRow). own_place l number) ports_are
          ∙ ap (λ m. length (filter (λ (p : PortRow). nat_eq p.«module» m) (take number (ports_from 0 placed)))) (module_there (ports_from 0 placed) number port (sym (ap (λ (l : List PortRow). slice_get l number) ports_are) ∙ at)) ∙ it.place_is

pub ports_have_formats : KeepsNamesOnce → PortsHaveFormats
ports_have_formats names_once model flat sound is number port at = own_port names_once model flat sound is number port at
