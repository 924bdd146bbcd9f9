-- The ports of an instance of a block of processes reach event signals of their own formats.
use Rattle.std.proofs.Common.{◌≡◌, ◌∙◌, ℕ, zero, suc, ◌+◌, ◌<◌, true, false, List, [], ◌∷◌, Option, Some, None, length, map, refl, sym, ap, arith}
use Rattle.std.proofs.lemmas.Option.{same_Some, none-some, slice_get-map, slice_get_within}
use Rattle.std.specs.List.{AllByRecursion, cons_option, flat_map}
use Rattle.std.specs.Option.{option_map}
use Rattle.std.specs.Prelude.{slice_get, slice_index_or}
use Rattle.tdf_events.specs.Runnable.{ArePortsOf, signal_formats}
use Rattle.tdf_expr.specs.Made.{spans_in}
use Rattle.tdf_expr.specs.Plans.{shape_of_format}
use Rattle.tdf_expr.specs.declared.spans.PortSpan.{PortSpan}
use Rattle.tdf_bind.specs.Flat.{IsFlatOf}
use Rattle.tdf_bind.specs.declared.model.Flat.{Flat}
use Rattle.tdf_bind_invariants.proofs.Api.{IsNumberTag, IsTagged, model_tagged, number_is, rows_format, same_format, tags_there}
use Rattle.tdf_bind_invariants.specs.Formats.{IsSoundModel, format_of_row}
use Rattle.tdf_bind_invariants.specs.Tags.{Tag, model_tags, number_tag, port_tag, port_tags, tag_with}
use Rattle.tdf_bind_ports.specs.Ports.{known_after_all, no_blocks, port_of_de_line, ports_of_de}
use Rattle.tdf_expr_names.specs.Law.{KeepsNamesOnce}
use Rattle.tdf_bind_names.specs.Resolved.{whole}
use Rattle.tdf_bind_attributes.specs.Roles.{roles_of}
use Rattle.tdf_events_invariants.proofs.Counts.{mapped_long}
use Rattle.tdf_events_invariants.proofs.Instances.{HasLines, item_at, mapped, unmapped}
use Rattle.tdf_events_invariants.specs.Runnable.{HasBlock, HasEventPorts, IsEventKind, IsEventLine}
use Rattle.tdf_expr_symbols.specs.Names.{Names, globals_of}
use Rattle.tdf_lang_tree.specs.Pure.{PureDe, PureDeLine, DPort, DStore, DEvent, PureTree}
use Rattle.tdf_lang_tree.specs.declared.blocks.PortKind.{PortKind}
use Rattle.tdf_lang_tree.specs.declared.blocks.PortKind.TheVariants.{In, Out, DeIn, DeOut}
use Rattle.tdf_lang_tree.specs.declared.blocks.PortLine.{PortLine}
use Rattle.tdf_bind_hierarchy.specs.Tables.{RowOf, TablesOf, table}
use Rattle.tdf_bind_hierarchy.specs.declared.tables.Signal.{Signal}
use Rattle.tdf_bind_hierarchy.specs.declared.tables.SignalNumber.{SignalNumber}
use Rattle.tdf_bind_connections.specs.Drivers.{writers_in}
use Rattle.tdf_bind_connections.specs.Edges.{is_event_port}
use Rattle.tdf_bind_connections.specs.Modules.{signal_at}
use Rattle.tdf_bind_connections.specs.ProcessBlocks.{PlacedBlock, as_block, block_row, placed_blocks}
use Rattle.tdf_bind_connections.specs.declared.drivers.SignalRow.{SignalRow}
use Rattle.tdf_bind_connections.specs.declared.roles.Role.{Role}
use Rattle.tdf_bind_connections.specs.declared.roles.Role.TheVariants.{Module, Processes, Composite}

-- what holds of all instances holds of those of blocks of processes
placed_all : (Q : RowOf → Type 0) (roles : List Role) (rows : List RowOf) → AllByRecursion Q rows → AllByRecursion (λ (p : PlacedBlock). Q p.instance) (placed_blocks roles rows)
placed_all Q roles [] all = tt
placed_all Q roles (row ∷ rows) all = go (slice_get roles row.block) (placed_all Q roles rows all.1)
  where
    go : (o : Option Role) → AllByRecursion (λ (p : PlacedBlock). Q p.instance) (placed_blocks roles rows) → AllByRecursion (λ (p : PlacedBlock). Q p.instance) (cons_option (as_block row o) (placed_blocks roles rows))
    go None later = later
    go (Some (Module role)) later = later
    go (Some (Processes role)) later = (all.0, later)
    go (Some Composite) later = later

-- the ports of a block are event ports
kind_is : (kind : PortKind) → IsEventKind kind → is_event_port kind ≡ true
kind_is In event = absurd event
kind_is Out event = absurd event
kind_is DeIn event = refl
kind_is DeOut event = refl

lines_event : (ds : List PureDeLine) → AllByRecursion IsEventLine ds → AllByRecursion (λ (l : PortLine). is_event_port l.kind ≡ true) (flat_map port_of_de_line ds)
lines_event [] all = tt
lines_event (DPort port ∷ ds) all = (kind_is port.kind all.0, lines_event ds all.1)
lines_event (DStore store ∷ ds) all = lines_event ds all.1
lines_event (DEvent line name ∷ ds) all = lines_event ds all.1

item_or : {A : Type 0} (xs : List A) (n : ℕ) (x d : A) → slice_get xs n ≡ Some x → slice_index_or xs n d ≡ x
item_or [] n x d at = absurd (none-some x at)
item_or (y ∷ xs) zero x d at = same_Some y x at
item_or (y ∷ xs) (suc n) x d at = item_or xs n x d at

item_there : {A : Type 0} (xs : List A) (n : ℕ) → n < length xs → (x : A) × (slice_get xs n ≡ Some x)
item_there [] n low = absurd (omega (arith, low))
item_there (x ∷ xs) zero low = (x, refl)
item_there (x ∷ xs) (suc n) low = item_there xs n (omega (arith, low))

module _ (names_once : KeepsNamesOnce) (model : PureTree) (flat : Flat) (sound : IsSoundModel model) (is : IsFlatOf model flat)
    (n : ℕ) (p : PlacedBlock) (at : slice_get (placed_blocks (roles_of model) is.tables.tables.instances) n ≡ Some p) (lines : HasLines HasEventPorts model flat p) where
  abbrev globals : Names
  globals = globals_of model.globals

  abbrev t : TablesOf
  t = is.tables.tables

  abbrev block : PureDe
  block = lines.of_block.block

  tagged : IsTagged (model_tags model) t p.instance
  tagged = item_at (λ (q : PlacedBlock). IsTagged (model_tags model) t q.instance) (placed_blocks (roles_of model) t.instances)
      (placed_all (IsTagged (model_tags model) t) (roles_of model) t.instances (model_tagged names_once model flat sound is)) n p at

  signal_tags : map (number_tag t) p.instance.signals ≡ port_tags globals (ports_of_de block)
  signal_tags = let same : 0 + p.instance.block ≡ p.instance.block = omega arith in
      tagged ∙ tags_there globals (known_after_all (whole model) no_blocks).ports p.instance.block (ports_of_de block)
      (ap (slice_get (known_after_all (whole model) no_blocks).ports) (sym same) ∙ lines.of_block.ports_are)

  signals_long : length p.instance.signals ≡ length (ports_of_de block)
  signals_long = sym (mapped_long (number_tag t) p.instance.signals) ∙ ap length signal_tags ∙ mapped_long (port_tag globals) (ports_of_de block)

  -- the signal of the port at a place
  number_there : (k : ℕ) (s : SignalNumber) (l : PortLine) → slice_get p.instance.signals k ≡ Some s → slice_get (ports_of_de block) k ≡ Some l → number_tag t s ≡ port_tag globals l
  number_there k s l there declared = same_Some (number_tag t s) (port_tag globals l)
      (sym (mapped (number_tag t) p.instance.signals k s there) ∙ ap (λ (o : List (Option Tag)). slice_get o k) signal_tags ∙ mapped (port_tag globals) (ports_of_de block) k l declared)

  event_is : (k : ℕ) (l : PortLine) → slice_get (ports_of_de block) k ≡ Some l → is_event_port l.kind ≡ true
  event_is k l declared = item_at (λ (x : PortLine). is_event_port x.kind ≡ true) (ports_of_de block) (lines_event block.decls lines.of_block.holds) k l declared

  abbrev spans : List PortSpan
  spans = spans_in (slice_get flat.checked.blocks.items p.role.block)

  signal_is : (k : ℕ) (s : SignalNumber) (span : PortSpan) → slice_get spans k ≡ Some span → slice_get p.instance.signals k ≡ Some s → IsNumberTag t s true (shape_of_format span.format)
  signal_is k s span placed there =
      let line = lines.line k span placed in
      number_is t s true (shape_of_format span.format)
      (number_there k s line.0 there line.1 ∙ ap (tag_with (is_event_port line.0.kind)) (sym line.2) ∙ ap (λ b. tag_with b (Some (shape_of_format span.format))) (event_is k line.0 line.1))

  pub format_is : (k : ℕ) (s : SignalNumber) (span : PortSpan) → slice_get spans k ≡ Some span → slice_get p.instance.signals k ≡ Some s → slice_get (signal_formats flat) s.number ≡ Some span.format
  format_is k s span placed there =
      let it = signal_is k s span placed there in
      slice_get-map (λ (row : SignalRow). row.format) flat.tables.de_signals s.number
      ∙ ap (λ (l : List SignalRow). format_of_row (slice_get l s.number)) is.tables.follows.signals.de_signals
      ∙ rows_format (writers_in (roles_of model) t flat.tables.ports true) 0 t.event_signals s.number
      ∙ ap (λ b. option_map (λ (x : Signal). x.format) (slice_get (table b t) s.number)) (sym it.event_is)
      ∙ ap (option_map (λ (x : Signal). x.format)) it.there ∙ ap Some (same_format it.signal.format span.format it.shape_is)

  pub ports_are : HasBlock flat n (block_row p) → ArePortsOf (signal_formats flat) spans (block_row p).signals
  ports_are has = record {
    few = let few = has.few in omega (arith, few);
    long = mapped_long (λ (s : SignalNumber). s.number) p.instance.signals ∙ signals_long ∙ sym lines.long;
    first = has.first;
    one = has.one;
    format = λ k s span placed there.
        let it = unmapped (λ (x : SignalNumber). x.number) p.instance.signals k s there in
        ap (slice_get (signal_formats flat)) (sym it.2) ∙ format_is k it.0 span placed it.1;
  }

  -- each port reaches an event signal that there is
  pub reached : (k : ℕ) → k < length (ports_of_de block) → signal_at p.instance.signals k < length flat.tables.de_signals
  reached k low =
      let long = lines.long in
      let signals = signals_long in
      let span = item_there spans k (omega (arith, low, long)) in
      let s = item_there p.instance.signals k (omega (arith, low, signals)) in
      let below = slice_get_within (signal_formats flat) s.0.number span.0.format (format_is k s.0 span.0 span.1 s.1) in
      let same = mapped_long (λ (row : SignalRow). row.format) flat.tables.de_signals in
      let number = ap (λ (x : SignalNumber). x.number) (item_or p.instance.signals k s.0 (record { event = false; number = 0 }) s.1) in
      omega (arith, below, same, number)
