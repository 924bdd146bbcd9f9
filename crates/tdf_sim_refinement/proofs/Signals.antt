-- The signals and formats of the edges of samplers and sinks.
use Rattle.std.proofs.Common.{◌≡◌, ◌∙◌, ℕ, ◌<◌, Bool, true, Option, Some, None, length, refl, ap, sym, subst, slice_get}
use Rattle.std.proofs.lemmas.Option.{slice_get-map}
use Rattle.tdf_sim_history.specs.Below.{signal_formats}
use Rattle.tdf_bind.specs.Flat.{IsFlatOf}
use Rattle.tdf_bind.specs.declared.model.Flat.{Flat}
use Rattle.tdf_streams.proofs.Api.{get_inside}
use Rattle.tdf_bind_invariants.specs.Formats.{signal_format}
use Rattle.tdf_graph.specs.declared.actors.Actor.{Actor}
use Rattle.tdf_graph.specs.declared.actors.Actor.TheVariants as actor
use Rattle.tdf_sim_history.specs.Instant.{signal_of, signal_of_port, signal_of_row}
use Rattle.tdf_exec.proofs.Api.{edge_row, module_kind}
use Rattle.tdf_exec.specs.Below.{IsActorAt, IsEdgeRow, Reads, Writes, edge_format, format_of_port, port_of_row}
use Rattle.tdf_sim_refinement.proofs.Ports.{own_module}
use Rattle.tdf_sim_refinement.proofs.Rows.{false_true}
use Rattle.tdf_sim_refinement.specs.Linked.{is_converter}
use Rattle.tdf_streams.specs.Places.{actor_kind, reader_of_row, writer_of_row}
use Rattle.tdf_lang_tree.specs.Pure.{PureTree}
use Rattle.tdf_lang_tree.specs.declared.blocks.PortKind.{PortKind}
use Rattle.tdf_lang_tree.specs.declared.blocks.PortKind.TheVariants.{In, Out, DeIn, DeOut}
use Rattle.tdf_bind_connections.specs.Edges.{is_event_port}
use Rattle.tdf_bind_connections.specs.declared.drivers.SignalRow.{SignalRow}
use Rattle.tdf_bind_connections.specs.declared.edges.EdgeRow.{EdgeRow}
use Rattle.tdf_bind_connections.specs.declared.modules.PortRow.{PortRow}

abbrev converts : Option Actor → Bool
converts None = true
converts (Some kind) = is_converter kind

module _ (model : PureTree) (flat : Flat) (is : IsFlatOf model flat) where
  -- no port's module is a sampler or a sink
  no_module : (m number : ℕ) (port : PortRow) (kind : Actor) → slice_get flat.tables.ports number ≡ Some port → port.«module» ≡ m → actor_kind flat.tables m ≡ Some kind → is_converter kind ≡ true → ⊥
  no_module m number port kind at own is_kind converter =
      let below = subst (λ k. k < length flat.tables.modules) own (own_module model flat is number port at) in
      false_true (sym (ap converts (module_kind (length flat.tables.modules) flat.tables is.tables.follows.actors m below)) ∙ ap converts is_kind ∙ converter)

  -- the signal of a sampler or sink is that of its port
  port_signal : (m number : ℕ) (kind : Actor) (port : PortRow) → IsActorAt flat.tables m kind number port → slice_get flat.tables.ports number ≡ Some port → signal_of flat.tables m ≡ port.signal
  port_signal m number kind port h at = ap (signal_of_row flat.tables) h.row_at ∙ ap (λ n. signal_of_port (slice_get flat.tables.ports n)) h.port_is ∙ ap signal_of_port at

  -- the format of an edge that an event port gives
  event_format : (kind : PortKind) (s : ℕ) → is_event_port kind ≡ true → signal_format flat.tables kind s ≡ slice_get (signal_formats flat) s
  event_format In s h = false_true h
  event_format Out s h = false_true h
  event_format DeIn s h = sym (slice_get-map (λ (row : SignalRow). row.format) flat.tables.de_signals s)
  event_format DeOut s h = sym (slice_get-map (λ (row : SignalRow). row.format) flat.tables.de_signals s)

  edge_event : (e : ℕ) (edge : EdgeRow) (port : PortRow) → slice_get flat.tables.edges e ≡ Some edge → slice_get flat.tables.ports edge.port ≡ Some port → is_event_port port.kind ≡ true
      → edge_format flat.tables e ≡ slice_get (signal_formats flat) port.signal
  edge_event e edge port at there event =
      ap (λ n. format_of_port flat.tables (slice_get flat.tables.ports n)) (ap port_of_row at) ∙ ap (format_of_port flat.tables) there ∙ event_format port.kind port.signal event

  -- the format of the edges that a sampler writes is that of its signal
  pub written_format : (m e : ℕ) → actor_kind flat.tables m ≡ Some actor.Sampler → Writes flat.tables m e → edge_format flat.tables e ≡ slice_get (signal_formats flat) (signal_of flat.tables m)
  written_format m e kind w = let row = get_inside flat.tables.edges e w.inside in by_row row.0 row.1 (sym (ap writer_of_row row.1) ∙ w.writer) (edge_row model flat is e row.0 row.1)
    where
      by_row : (edge : EdgeRow) → slice_get flat.tables.edges e ≡ Some edge → edge.writer ≡ m → IsEdgeRow flat.tables edge → edge_format flat.tables e ≡ slice_get (signal_formats flat) (signal_of flat.tables m)
      by_row edge at writer (IsEdgeRow.Between port out driver h) = absurd (no_module m out driver actor.Sampler h.driver_at (sym h.writer ∙ writer) kind refl)
      by_row edge at writer (IsEdgeRow.FromSampler port h) = edge_event e edge port at h.port_at (ap is_event_port h.port_kind)
          ∙ ap (slice_get (signal_formats flat)) (sym (port_signal edge.writer edge.port actor.Sampler port h.writer h.port_at) ∙ ap (signal_of flat.tables) writer)
      by_row edge at writer (IsEdgeRow.ToSink port h) = absurd (no_module m edge.port port actor.Sampler h.port_at (sym h.writer ∙ writer) kind refl)

  -- and so is that of the edge that a sink reads
  pub read_format : (m e : ℕ) → actor_kind flat.tables m ≡ Some actor.Sink → Reads flat.tables m e → edge_format flat.tables e ≡ slice_get (signal_formats flat) (signal_of flat.tables m)
  read_format m e kind r = let row = get_inside flat.tables.edges e r.inside in by_row row.0 row.1 (sym (ap reader_of_row row.1) ∙ r.reader) (edge_row model flat is e row.0 row.1)
    where
      by_row : (edge : EdgeRow) → slice_get flat.tables.edges e ≡ Some edge → edge.reader ≡ m → IsEdgeRow flat.tables edge → edge_format flat.tables e ≡ slice_get (signal_formats flat) (signal_of flat.tables m)
      by_row edge at reader (IsEdgeRow.Between port out driver h) = absurd (no_module m edge.port port actor.Sink h.port_at (sym h.reader ∙ reader) kind refl)
      by_row edge at reader (IsEdgeRow.FromSampler port h) = absurd (no_module m edge.port port actor.Sink h.port_at (sym h.reader ∙ reader) kind refl)
      by_row edge at reader (IsEdgeRow.ToSink port h) = edge_event e edge port at h.port_at (ap is_event_port h.port_kind)
          ∙ ap (slice_get (signal_formats flat)) (sym (port_signal edge.reader edge.port actor.Sink port h.reader h.port_at) ∙ ap (signal_of flat.tables) reader)
