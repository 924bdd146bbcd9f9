-- The formats of edges, and of what they hold at first.
use Rattle.std.proofs.Common.{◌≡◌, ◌∙◌, ℕ, ◌<◌, Bool, true, false, Option, Some, None, if◌then◌else◌, List, [], ◌∷◌, length, ap, sym, subst, arith, nat_eq, slice_get}
use Rattle.std.proofs.lemmas.Int.{ints}
use Rattle.std.proofs.lemmas.List.Elements.{All-append, recursion_from_All}
use Rattle.std.proofs.lemmas.List.FromFn.{get_or-map-range_with_len, length-map-range_with_len}
use Rattle.std.specs.List.{AllByRecursion}
use Rattle.std.specs.Prelude.{All, pos}
use Rattle.tdf_expr.specs.Frames.{IsOfFormat}
use Rattle.tdf_expr.specs.declared.spans.PortSpan.{PortSpan}
use Rattle.tdf_exec_firing.specs.Wires.{WiresOf}
use Rattle.tdf_exec_firing.specs.declared.wires.InWire.{InWire}
use Rattle.tdf_exec_firing.specs.declared.wires.OutWire.{OutWire}
use Rattle.tdf_fixed.specs.Cast.{fraction_of}
use Rattle.tdf_fixed.specs.Overflow.{IsOfWidth}
use Rattle.tdf_fixed.specs.declared.format.Format.{Format}
use Rattle.tdf_fixed.specs.declared.raw.Raw.{Raw}
use Rattle.tdf_bind_invariants.specs.Below.{Flat, IsFlatOf}
use Rattle.tdf_streams.proofs.Api.{none_some, some_same}
use Rattle.tdf_bind_invariants.specs.Formats.{IsOwnPort, IsSoundModel, PortsHaveFormats, format_of_row, signal_format}
use Rattle.tdf_exec_layout.proofs.Edges.{edge_row}
use Rattle.tdf_exec_layout.proofs.Wired.{InSpan, IsAtPlace, OutSpan, at_place, in_span, out_span, spans_at}
use Rattle.tdf_exec_layout.specs.Edges.{IsBetween, IsEdgeRow}
use Rattle.tdf_exec_layout.specs.Samples.{EdgesHaveFormats, EdgeHasFormat, IsPortOfFormat, edge_format, format_of_port}
use Rattle.tdf_exec_layout.specs.Wiring.{AreWiresOf, port_of_row}
use Rattle.tdf_streams.specs.Cluster.{driver_samples, fraction_of_kind, fraction_of_row, given_at, initial_sample, initial_samples, zero_of_port}
use Rattle.tdf_streams.specs.Places.{driver_or, module_of_row, place_of_port}
use Rattle.tdf_lang_tree.specs.Pure.{PureTree}
use Rattle.tdf_lang_tree.specs.declared.blocks.PortKind.{PortKind}
use Rattle.tdf_lang_tree.specs.declared.blocks.PortKind.TheVariants.{In, Out, DeIn, DeOut}
use Rattle.tdf_bind_connections.specs.declared.drivers.SignalRow.{SignalRow}
use Rattle.tdf_bind_connections.specs.declared.edges.EdgeRow.{EdgeRow}
use Rattle.tdf_bind_connections.specs.declared.modules.PortRow.{PortRow}

zero_in : (signed : Bool) (wl : ℕ) → IsOfWidth signed wl (pos 0)
zero_in true wl = record { low = omega (arith, ints); high = omega (arith, ints) }
zero_in false wl = record { low = omega (arith, ints); high = omega (arith, ints) }

row_fraction : (o : Option SignalRow) (f : Format) → format_of_row o ≡ Some f → fraction_of_row o ≡ fraction_of f
row_fraction None f is = none_some f is
row_fraction (Some s) f is = ap fraction_of (some_same s.format f is)

given_fits : (f : Format) (k : ℕ) (zero : Raw) (given : List (ℕ × Raw)) → IsOfFormat f zero → AllByRecursion (λ (g : ℕ × Raw). IsOfFormat f g.1) given → IsOfFormat f (given_at zero k given)
given_fits f k zero [] z h = z
given_fits f k zero (g ∷ given) z h = given_fits f k (if nat_eq g.0 k then g.1 else zero) given (by_test (nat_eq g.0 k)) h.1
  where
    by_test : (b : Bool) → IsOfFormat f (if b then g.1 else zero)
    by_test true = h.0
    by_test false = z

module _ (formats : PortsHaveFormats) (model : PureTree) (flat : Flat) (sound : IsSoundModel model) (is : IsFlatOf model flat) where
  kind_fraction : (kind : PortKind) (signal : ℕ) (f : Format) → signal_format flat.tables kind signal ≡ Some f → fraction_of_kind flat.tables kind signal ≡ fraction_of f
  kind_fraction In signal f h = row_fraction (slice_get flat.tables.signals signal) f h
  kind_fraction Out signal f h = row_fraction (slice_get flat.tables.signals signal) f h
  kind_fraction DeIn signal f h = row_fraction (slice_get flat.tables.de_signals signal) f h
  kind_fraction DeOut signal f h = row_fraction (slice_get flat.tables.de_signals signal) f h

  -- the initial samples of a port are of the format of its signal
  pub samples_fit : (number : ℕ) (port : PortRow) (f : Format) → slice_get flat.tables.ports number ≡ Some port → signal_format flat.tables port.kind port.signal ≡ Some f
      → All (IsOfFormat f) (initial_samples flat.tables (slice_get flat.tables.ports number))
  samples_fit number port f at format = rw at (λ k d inside.
      let low : k < port.delay = (let l = length-map-range_with_len (initial_sample flat.tables port) 0 port.delay in omega (arith, inside, l)) in
      subst (IsOfFormat f) (sym (get_or-map-range_with_len (initial_sample flat.tables port) 0 port.delay k k d low (omega arith)))
      (given_fits f k (zero_of_port flat.tables port) port.initials zero (recursion_from_All (λ (g : ℕ × Raw). IsOfFormat f g.1) port.initials given)))
    where
      own : IsOwnPort flat number port
      own = formats model flat sound is number port at

      same : own.span.format ≡ f
      same = some_same own.span.format f (sym own.format ∙ format)

      given : All (λ (g : ℕ × Raw). IsOfFormat f g.1) port.initials
      given = subst (λ (x : Format). All (λ (g : ℕ × Raw). IsOfFormat x g.1) port.initials) same own.initials

      zero : IsOfFormat f (zero_of_port flat.tables port)
      zero = record { frac = kind_fraction port.kind port.signal f format; num = zero_in f.signed f.wl }

  -- a port is of the format of its signal
  port_fits : (number : ℕ) (port : PortRow) (f : Format) → slice_get flat.tables.ports number ≡ Some port → signal_format flat.tables port.kind port.signal ≡ Some f → IsPortOfFormat flat number f
  port_fits number port f at format span there =
      let h : IsAtPlace formats model flat sound is number port = at_place formats model flat sound is number port at in
      let again : slice_get (spans_at formats model flat sound is port.«module») (place_of_port flat.tables.ports number) ≡ Some span =
      ap (λ o. slice_get (spans_at formats model flat sound is (module_of_row o)) (place_of_port flat.tables.ports number)) (sym at) ∙ there in
      ap (λ (s : PortSpan). s.format) (some_same span h.span (sym again ∙ h.at)) ∙ some_same h.span.format f (sym h.format ∙ format)

  -- edges without a driver
  alone : (e : ℕ) (edge : EdgeRow) (port : PortRow) → slice_get flat.tables.edges e ≡ Some edge → edge.driver ≡ None → slice_get flat.tables.ports edge.port ≡ Some port → EdgeHasFormat flat e edge
  alone e edge port eat none at =
      let h : IsAtPlace formats model flat sound is edge.port port = at_place formats model flat sound is edge.port port at in
      record {
        format = h.span.format;
        format_is = ap (λ o. format_of_port flat.tables (slice_get flat.tables.ports (port_of_row o))) eat ∙ ap (format_of_port flat.tables) at ∙ h.format;
        read = port_fits edge.port port h.span.format at h.format;
        written = subst (λ n. IsPortOfFormat flat n h.span.format) (ap (driver_or edge.port) (sym none)) (port_fits edge.port port h.span.format at h.format);
        initials = All-append (IsOfFormat h.span.format) (initial_samples flat.tables (slice_get flat.tables.ports edge.port)) (driver_samples flat.tables edge.driver)
            (samples_fit edge.port port h.span.format at h.format) (rw none (λ k d inside. absurd (omega (arith, inside))));
      }

  between : (e : ℕ) (edge : EdgeRow) (port : PortRow) (out : ℕ) (driver : PortRow) → slice_get flat.tables.edges e ≡ Some edge → IsBetween flat.tables edge port out driver → EdgeHasFormat flat e edge
  between e edge port out driver eat b =
      let h : IsAtPlace formats model flat sound is edge.port port = at_place formats model flat sound is edge.port port b.port_at in
      let same : signal_format flat.tables driver.kind driver.signal ≡ Some h.span.format =
      ap (λ k. signal_format flat.tables k driver.signal) b.driver_kind ∙ ap (signal_format flat.tables Out) b.signal ∙ ap (λ k. signal_format flat.tables k port.signal) (sym b.port_kind) ∙ h.format in
      record {
        format = h.span.format;
        format_is = ap (λ o. format_of_port flat.tables (slice_get flat.tables.ports (port_of_row o))) eat ∙ ap (format_of_port flat.tables) b.port_at ∙ h.format;
        read = port_fits edge.port port h.span.format b.port_at h.format;
        written = subst (λ n. IsPortOfFormat flat n h.span.format) (ap (driver_or edge.port) (sym b.driven)) (port_fits out driver h.span.format b.driver_at same);
        initials = All-append (IsOfFormat h.span.format) (initial_samples flat.tables (slice_get flat.tables.ports edge.port)) (driver_samples flat.tables edge.driver)
            (samples_fit edge.port port h.span.format b.port_at h.format) (rw b.driven (samples_fit out driver h.span.format b.driver_at same));
      }

  pub edge_fits : (e : ℕ) (edge : EdgeRow) → slice_get flat.tables.edges e ≡ Some edge → EdgeHasFormat flat e edge
  edge_fits e edge at = by_row (edge_row model flat is e edge at)
    where
      by_row : IsEdgeRow flat.tables edge → EdgeHasFormat flat e edge
      by_row (IsEdgeRow.Between port out driver h) = between e edge port out driver at h
      by_row (IsEdgeRow.FromSampler port h) = alone e edge port at h.not_driven h.port_at
      by_row (IsEdgeRow.ToSink port h) = alone e edge port at h.not_driven h.port_at

  -- the ports of a module's wires are of the formats of the edges
  module _ (m : ℕ) (wires : WiresOf) (below : m < length flat.tables.modules) (are : AreWiresOf flat.tables m wires) where
    pub read_format : (j : ℕ) (w : InWire) (p : PortSpan) → slice_get wires.ins j ≡ Some w → slice_get (spans_at formats model flat sound is m) w.port ≡ Some p
        → edge_format flat.tables w.edge ≡ Some p.format
    read_format j w p at pat =
        let h : InSpan formats model flat sound is m below wires are w = in_span formats model flat sound is m below wires are j w at in
        let f : EdgeHasFormat flat w.edge h.edge = edge_fits w.edge h.edge h.at in
        let there : slice_get (spans_at formats model flat sound is (module_of_row (slice_get flat.tables.ports h.edge.port))) (place_of_port flat.tables.ports h.edge.port) ≡ Some p =
        ap (λ o. slice_get (spans_at formats model flat sound is (module_of_row o)) (place_of_port flat.tables.ports h.edge.port)) h.read.at
        ∙ ap (λ n. slice_get (spans_at formats model flat sound is n) (place_of_port flat.tables.ports h.edge.port)) h.read.own
        ∙ ap (slice_get (spans_at formats model flat sound is m)) (sym h.place) ∙ pat in
        f.format_is ∙ ap Some (sym (f.read p there))

    pub write_format : (j : ℕ) (w : OutWire) (p : PortSpan) → slice_get wires.outs j ≡ Some w → slice_get (spans_at formats model flat sound is m) w.port ≡ Some p
        → edge_format flat.tables w.edge ≡ Some p.format
    write_format j w p at pat =
        let h : OutSpan formats model flat sound is m below wires are w = out_span formats model flat sound is m below wires are j w at in
        let f : EdgeHasFormat flat w.edge h.edge = edge_fits w.edge h.edge h.at in
        let number : ℕ = driver_or h.edge.port h.edge.driver in
        let there : slice_get (spans_at formats model flat sound is (module_of_row (slice_get flat.tables.ports number))) (place_of_port flat.tables.ports number) ≡ Some p =
        ap (λ o. slice_get (spans_at formats model flat sound is (module_of_row o)) (place_of_port flat.tables.ports number)) h.written.at
        ∙ ap (λ n. slice_get (spans_at formats model flat sound is n) (place_of_port flat.tables.ports number)) h.written.own
        ∙ ap (slice_get (spans_at formats model flat sound is m)) (sym h.place) ∙ pat in
        f.format_is ∙ ap Some (sym (f.written p there))

pub edges_have_formats : PortsHaveFormats → EdgesHaveFormats
edges_have_formats formats model flat e edge sound is at = edge_fits formats model flat sound is e edge at
