-- The samples of a traced signal have the fraction bits of its format.
use Rattle.std.proofs.Common.{◌≡◌, ◌∙◌, ℕ, ℤ, suc, ◌-◌, ◌<◌, Bool, true, false, if◌then◌else◌, nat_eq, Option, Some, None, option_map, List, [], ◌∷◌, length, map, slice_get, slice_index, refl, ap, sym, subst}
use Rattle.std.proofs.lemmas.Option.{get_or_from_slice_get, slice_get-map, slice_get_within}
use Rattle.std.specs.List.{range_with_len}
use Rattle.tdf_bind.specs.Flat.{IsFlatOf}
use Rattle.tdf_bind.specs.declared.model.Flat.{Flat}
use Rattle.tdf_bind_attributes.specs.Roles.{roles_of}
use Rattle.tdf_bind_connections.specs.Edges.{driver_row}
use Rattle.tdf_bind_connections.specs.ProcessBlocks.{placed_blocks}
use Rattle.tdf_bind_connections.specs.declared.drivers.SignalRow.{SignalRow}
use Rattle.tdf_bind_connections.specs.declared.modules.PortRow.{PortRow}
use Rattle.tdf_bind_connections.specs.declared.traces.TraceRow.{TraceRow}
use Rattle.tdf_bind_invariants.specs.Formats.{IsOwnPort, IsSoundModel, PortsHaveFormats, format_of_row, signal_format}
use Rattle.tdf_bind_invariants.specs.Limits.{AreWithinLimits}
use Rattle.tdf_dynamic_plans.specs.Attributes.{clusters_of}
use Rattle.tdf_events.specs.Side.{SideOf}
use Rattle.tdf_exec_firing.specs.Activation.{assigned_sample, sample_of_span}
use Rattle.tdf_exec_layout.proofs.Api.{IsDriver, driver_is, module_kind}
use Rattle.tdf_expr.specs.Frames.{IsOfFormat}
use Rattle.tdf_expr.specs.Made.{port_spans_of}
use Rattle.tdf_fixed.specs.Cast.{fraction_of}
use Rattle.tdf_fixed.specs.declared.format.Format.{Format}
use Rattle.tdf_fixed.specs.declared.raw.Raw.{Raw}
use Rattle.tdf_graph.specs.declared.actors.Actor.TheVariants as actor
use Rattle.tdf_lang_tree.specs.Pure.{PureTree}
use Rattle.tdf_lang_tree.specs.declared.blocks.PortKind.TheVariants.{Out}
use Rattle.tdf_sim_history.specs.Cells.{driver_of_row, sample_at}
use Rattle.tdf_sim_history.specs.Columns.{ColumnStart, held_by, no_start, start_of}
use Rattle.tdf_sim_history.specs.Instant.{periods_of}
use Rattle.tdf_sim_history.specs.Start.{text_column, text_columns}
use Rattle.tdf_sim_history.specs.World.{ClusterAt, World}
use Rattle.tdf_sim_refinement.proofs.Api.{all_at}
use Rattle.tdf_sim_resumed.specs.Starting.{row_of_trace}
use Rattle.tdf_sim_split.proofs.Fits.{every_of}
use Rattle.tdf_sim_split.proofs.Fitting.{FitsTrace, SamplesFit}
use Rattle.tdf_sim_split.proofs.Outputs.{map_some, sample_has}
use Rattle.tdf_streams.proofs.Api.{none_some, some_same}
use Rattle.tdf_streams.specs.Bodies.{module_acted}
use Rattle.tdf_streams.specs.Cluster.{driver_samples, fraction_of_kind, fraction_of_row, given_at, initial_sample, initial_samples, zero_of_port}
use Rattle.tdf_streams.specs.Periods.{PeriodInfo}
use Rattle.tdf_streams.specs.Places.{actor_kind, block_of_row, place_of_port}

driver_same : (o : Option SignalRow) → driver_row o ≡ driver_of_row o
driver_same None = refl
driver_same (Some row) = refl

row_fraction : (o : Option SignalRow) (f : Format) → format_of_row o ≡ Some f → fraction_of_row o ≡ fraction_of f
row_fraction None f is = none_some f is
row_fraction (Some s) f is = ap fraction_of (some_same s.format f is)

pub given_has : (P : Raw → Type 0) (k : ℕ) (none : Raw) (given : List (ℕ × Raw)) → P none → ((j : ℕ) (g : ℕ × Raw) → slice_get given j ≡ Some g → P g.1) → P (given_at none k given)
given_has P k none [] first all = first
given_has P k none (g ∷ given) first all = given_has P k (if nat_eq g.0 k then g.1 else none) given (choose (nat_eq g.0 k)) (λ j x at. all (suc j) x at)
  where
    choose : (b : Bool) → P (if b then g.1 else none)
    choose true = all 0 g refl
    choose false = first

module _ (formats : PortsHaveFormats) (model : PureTree) (flat : Flat) (sound : IsSoundModel model) (is : IsFlatOf model flat) (limits : AreWithinLimits flat)
    (row : TraceRow) (plain : row.event ≡ false) (number : ℕ) (drives : driver_of_row (slice_get flat.tables.signals row.signal) ≡ Some number) (port : PortRow) (there : slice_get flat.tables.ports number ≡ Some port) where
  d : IsDriver flat.tables.ports number row.signal
  d = driver_is flat.tables.ports (placed_blocks (roles_of model) is.tables.tables.instances) is.tables.tables.signals flat.tables.signals row.signal number is.tables.follows.signals.signals (driver_same (slice_get flat.tables.signals row.signal) ∙ drives)

  port_is : d.row ≡ port
  port_is = some_same d.row port (sym d.at ∙ there)

  pub kind : port.kind ≡ Out
  kind = sym (ap (λ (p : PortRow). p.kind) port_is) ∙ d.kind

  signal : port.signal ≡ row.signal
  signal = sym (ap (λ (p : PortRow). p.signal) port_is) ∙ d.writes

  abbrev pub own : IsOwnPort flat number port
  own = formats model flat sound is number port there

  abbrev bits : ℕ
  bits = fraction_of own.span.format

  pub form : format_of_row (slice_get flat.tables.signals row.signal) ≡ Some own.span.format
  form = (λ i. signal_format flat.tables (sym kind i) (sym signal i)) ∙ own.format

  zero_bits : (zero_of_port flat.tables port).frac ≡ bits
  zero_bits = (λ i. fraction_of_kind flat.tables (kind i) (signal i)) ∙ row_fraction (slice_get flat.tables.signals row.signal) own.span.format form

  row_bits : fraction_of_row (row_of_trace flat.tables row) ≡ bits
  row_bits = ap (λ (b : Bool). fraction_of_row (if b then slice_get flat.tables.de_signals row.signal else slice_get flat.tables.signals row.signal)) plain
      ∙ row_fraction (slice_get flat.tables.signals row.signal) own.span.format form

  -- initial samples
  first_bits : (k : ℕ) → (initial_sample flat.tables port k).frac ≡ bits
  first_bits k = given_has (λ (v : Raw). v.frac ≡ bits) k (zero_of_port flat.tables port) port.initials
      zero_bits
      (λ j g at. (all_at (λ (x : ℕ × Raw). IsOfFormat own.span.format x.1) port.initials j g own.initials at).frac)

  -- what the module writes
  span_at : slice_get (port_spans_of flat.checked (block_of_row (slice_get flat.tables.modules port.«module»))) (place_of_port flat.tables.ports number) ≡ Some own.span
  span_at = ap (λ o. slice_get (port_spans_of flat.checked (block_of_row o)) (place_of_port flat.tables.ports number)) own.module_is ∙ own.at

  assigned_bits : (samples : List ℤ) (k : ℕ) → (assigned_sample (port_spans_of flat.checked (block_of_row (slice_get flat.tables.modules port.«module»))) samples (place_of_port flat.tables.ports number) k).frac ≡ bits
  assigned_bits samples k = ap (λ o. (sample_of_span samples k o).frac) span_at

  pub module_is : actor_kind flat.tables port.«module» ≡ Some actor.Module
  module_is = module_kind (length flat.tables.modules) flat.tables limits.actors port.«module»
      (subst (λ (r : PortRow). r.«module» < length flat.tables.modules) (get_or_from_slice_get flat.tables.ports number port port there) (limits.in_range.port_modules number port (slice_get_within flat.tables.ports number port there)))

  acted_bits : (info : PeriodInfo) (cells : List ℤ) (given : List (List Raw)) (k : ℕ) → ((module_acted model flat port.«module» (actor_kind flat.tables port.«module») info cells given).outputs number k).frac ≡ bits
  acted_bits info cells given k = ap (λ o. ((module_acted model flat port.«module» o info cells given).outputs number k).frac) module_is ∙ assigned_bits _ k

  -- a sample of a column that begins as the text says it
  module _ (start : ColumnStart) (text : start ≡ text_column flat.tables row) (c : ClusterAt) where
    held_is : held_by start ≡ map (initial_sample flat.tables port) (range_with_len 0 port.delay)
    unfolding held_by
    held_is = ap held_by text ∙ ap (driver_samples flat.tables) drives ∙ ap (initial_samples flat.tables) there

    held_bits : (j : ℕ) (v : Raw) → slice_get (held_by start) j ≡ Some v → v.frac ≡ bits
    held_bits j v at =
        let k = map_some (initial_sample flat.tables port) (slice_get (range_with_len 0 port.delay) j) v (sym (slice_get-map (initial_sample flat.tables port) (range_with_len 0 port.delay) j) ∙ sym (ap (λ (l : List Raw). slice_get l j) held_is) ∙ at) in
        subst (λ (u : Raw). u.frac ≡ bits) k.2 (first_bits k.0)

    pub sample_bits : (j : ℕ) (v : Raw) → sample_at model flat (slice_index (clusters_of flat.tables) port.«module») c start port number j ≡ Some v → FitsTrace flat.tables row v
    sample_bits j v at =
        sample_has model flat number port module_is (λ (u : Raw). u.frac ≡ bits) (λ p. Unit {0}) (λ p q cells given k one two low. acted_bits p.info cells given k) start c
        (every_of (λ p. Unit {0}) (periods_of c) (λ k p there. tt)) (λ i u is. held_bits i u is) j v at
        ∙ sym row_bits

-- so it is with all traces of a run from its text
pub samples_fit : PortsHaveFormats → (model : PureTree) (flat : Flat) → IsSoundModel model → IsFlatOf model flat → AreWithinLimits flat → (one w : World SideOf) → one.shown ≡ text_columns flat.tables
    → (column : ℕ) (row : TraceRow) → slice_get flat.tables.traces column ≡ Some row → row.event ≡ false → SamplesFit model flat one w column row
samples_fit formats model flat sound is limits one w shown column row at plain number port c drives there inside j v sample =
    sample_bits formats model flat sound is limits row plain number drives port there (start_of one.shown column) text c j v sample
  where
    text : start_of one.shown column ≡ text_column flat.tables row
    text = ap (λ (l : List ColumnStart). start_of l column) shown
        ∙ get_or_from_slice_get (text_columns flat.tables) column (text_column flat.tables row) no_start (slice_get-map (text_column flat.tables) flat.tables.traces column ∙ ap (option_map (text_column flat.tables)) at)
