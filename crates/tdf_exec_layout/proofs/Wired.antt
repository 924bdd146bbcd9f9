-- The wires of a module are those of its block.
use Rattle.std.proofs.Common.{◌≡◌, ◌∙◌, ℕ, zero, suc, ◌<◌, ◌≤◌, Bool, true, false, Some, List, [], ◌∷◌, length, refl, ap, sym, subst, inl, inr, ◌⊎◌, arith, nat_eq, slice_get, take}
use Rattle.std.proofs.lemmas.Bool.{cases_lt, eq-eqb}
use Rattle.std.proofs.lemmas.Option.{slice_get_within}
use Rattle.std.specs.Prelude.{cond, filter}
use Rattle.tdf_expr.specs.Frames.{is_written}
use Rattle.tdf_expr.specs.Made.{port_spans_of}
use Rattle.tdf_expr.specs.declared.spans.PortSpan.{PortSpan}
use Rattle.tdf_exec_firing.specs.Wires.{AreWired, WiresOf}
use Rattle.tdf_exec_firing.specs.declared.wires.InWire.{InWire}
use Rattle.tdf_exec_firing.specs.declared.wires.OutWire.{OutWire}
use Rattle.tdf_bind_invariants.specs.Below.{Flat, IsFlatOf}
use Rattle.tdf_streams.proofs.Api.{get_inside, none_some, some_same}
use Rattle.tdf_bind_invariants.specs.Formats.{IsOwnPort, IsSoundModel, PortsHaveFormats, signal_format}
use Rattle.tdf_graph.specs.declared.actors.Actor.TheVariants as actor
use Rattle.tdf_exec_layout.proofs.Actors.{IsNoSampler, IsOtherKind, module_kind}
use Rattle.tdf_exec_layout.proofs.Counts.{place_is}
use Rattle.tdf_exec_layout.proofs.Edges.{edge_row, port_once}
use Rattle.tdf_exec_layout.specs.Edges.{IsEdgeRow, WiresAreWired}
use Rattle.tdf_exec_layout.specs.Wiring.{AreWiresOf, port_of_row}
use Rattle.tdf_exec_layout.specs.machine.Places.{count_of}
use Rattle.tdf_bind_invariants.specs.Limits.{limits_in, times_value}
use Rattle.tdf_expr_semantics.specs.Fits.{RatesFit}
use Rattle.tdf_streams.specs.Places.{actor_kind, block_at, block_of_row, driver_or, kind_of_row, place_of_port, reader_of_row, source_of_row, writer_of_row}
use Rattle.tdf_lang_tree.specs.Pure.{PureTree}
use Rattle.tdf_bind_connections.specs.declared.edges.EdgeRow.{EdgeRow}
use Rattle.tdf_bind_connections.specs.declared.modules.PortRow.{PortRow}

-- the ports of a module have different places
place_less : (ports : List PortRow) (a b m : ℕ) (x : PortRow) → slice_get ports a ≡ Some x → x.«module» ≡ m → a < b → count_of (take a ports) m < count_of (take b ports) m
place_less [] a b m x at own less = none_some x at
place_less (p ∷ ports) a zero m x at own less = absurd (omega (arith, less))
place_less (p ∷ ports) zero (suc b) m x at own less = rw (eq-eqb p.«module» m (ap (λ (y : PortRow). y.«module») (some_same p x at) ∙ own)) (omega arith)
place_less (p ∷ ports) (suc a) (suc b) m x at own less = by_test (nat_eq p.«module» m) (place_less ports a b m x at own (omega (arith, less)))
  where
    by_test : (t : Bool) → count_of (take a ports) m < count_of (take b ports) m
        → length (cond t (p ∷ filter (λ (port : PortRow). nat_eq port.«module» m) (take a ports)) (filter (λ (port : PortRow). nat_eq port.«module» m) (take a ports)))
        < length (cond t (p ∷ filter (λ (port : PortRow). nat_eq port.«module» m) (take b ports)) (filter (λ (port : PortRow). nat_eq port.«module» m) (take b ports)))
    by_test true h = omega (arith, h)
    by_test false h = h

pub place_once : (ports : List PortRow) (a b : ℕ) (x y : PortRow) → slice_get ports a ≡ Some x → slice_get ports b ≡ Some y → x.«module» ≡ y.«module» → place_of_port ports a ≡ place_of_port ports b → a ≡ b
place_once ports a b x y xat yat same places = by_order (cases_lt a b) (cases_lt b a)
  where
    counts : count_of (take a ports) y.«module» ≡ count_of (take b ports) y.«module»
    counts = ap (count_of (take a ports)) (sym same) ∙ sym (place_is ports a x xat) ∙ places ∙ place_is ports b y yat

    by_order : (a < b) ⊎ (b ≤ a) → (b < a) ⊎ (a ≤ b) → a ≡ b
    by_order (inl less) other = absurd (let l = place_less ports a b y.«module» x xat same less in let c = counts in omega (arith, l, c))
    by_order (inr high) (inl less) = absurd (let l = place_less ports b a y.«module» y yat refl less in let c = counts in omega (arith, l, c))
    by_order (inr high) (inr low) = omega (arith, high, low)

module _ (formats : PortsHaveFormats) (model : PureTree) (flat : Flat) (sound : IsSoundModel model) (is : IsFlatOf model flat) where
  abbrev pub spans_at : ℕ → List PortSpan
  spans_at m = port_spans_of flat.checked (block_at flat.tables.modules m)

  -- a port at its place in the block of its module
  pub record IsAtPlace (number : ℕ) (port : PortRow) : Type 0 where
    pub span : PortSpan
    pub at : slice_get (spans_at port.«module») (place_of_port flat.tables.ports number) ≡ Some span
    pub word : span.word ≡ port.kind
    pub format : signal_format flat.tables port.kind port.signal ≡ Some span.format
    pub wide : (values : List ℕ) → RatesFit (limits_in flat.checked (slice_get flat.tables.modules port.«module»)) values → times_value port.rate.times values port.rate.var ≤ span.count

  pub at_place : (number : ℕ) (port : PortRow) → slice_get flat.tables.ports number ≡ Some port → IsAtPlace number port
  at_place number port at =
      let h : IsOwnPort flat number port = formats model flat sound is number port at in
      record {
        span = h.span;
        at = ap (λ o. slice_get (port_spans_of flat.checked (block_of_row o)) (place_of_port flat.tables.ports number)) h.module_is ∙ h.at;
        word = h.word;
        format = h.format;
        wide = λ values fit. h.wide values (subst (λ o. RatesFit (limits_in flat.checked o) values) h.module_is fit);
      }

  -- the port by which a module reads an edge
  pub record IsReadBy (m : ℕ) (edge : EdgeRow) : Type 0 where
    pub port : PortRow
    pub at : slice_get flat.tables.ports edge.port ≡ Some port
    pub own : port.«module» ≡ m
    pub word : is_written port.kind ≡ false

  -- and the port by which it writes one
  pub record IsWrittenBy (m : ℕ) (edge : EdgeRow) : Type 0 where
    pub port : PortRow
    pub at : slice_get flat.tables.ports (driver_or edge.port edge.driver) ≡ Some port
    pub own : port.«module» ≡ m
    pub word : is_written port.kind ≡ true

  module _ (m : ℕ) (below : m < length flat.tables.modules) where
    kind_is : actor_kind flat.tables m ≡ Some actor.Module
    kind_is = module_kind (length flat.tables.modules) flat.tables is.tables.follows.actors m below

    pub read_by : (edge : EdgeRow) → IsEdgeRow flat.tables edge → edge.reader ≡ m → IsReadBy m edge
    read_by edge (IsEdgeRow.Between port out driver h) reader = record { port = port; at = h.port_at; own = sym h.reader ∙ reader; word = ap is_written h.port_kind }
    read_by edge (IsEdgeRow.FromSampler port h) reader = record { port = port; at = h.port_at; own = sym h.reader ∙ reader; word = ap is_written h.port_kind }
    read_by edge (IsEdgeRow.ToSink port h) reader =
        absurd (subst IsOtherKind (sym kind_is ∙ ap (actor_kind flat.tables) (sym reader) ∙ ap kind_of_row h.reader.row_at ∙ ap Some h.reader.kind_is) tt)

    pub written_by : (edge : EdgeRow) → IsEdgeRow flat.tables edge → edge.writer ≡ m → IsWrittenBy m edge
    written_by edge (IsEdgeRow.Between port out driver h) writer =
        record { port = driver; at = ap (λ o. slice_get flat.tables.ports (driver_or edge.port o)) h.driven ∙ h.driver_at; own = sym h.writer ∙ writer; word = ap is_written h.driver_kind }
    written_by edge (IsEdgeRow.FromSampler port h) writer =
        absurd (subst IsNoSampler (sym kind_is ∙ ap (actor_kind flat.tables) (sym writer) ∙ ap kind_of_row h.writer.row_at ∙ ap Some h.writer.kind_is) tt)
    written_by edge (IsEdgeRow.ToSink port h) writer =
        record { port = port; at = ap (λ o. slice_get flat.tables.ports (driver_or edge.port o)) h.not_driven ∙ h.port_at; own = sym h.writer ∙ writer; word = ap is_written h.port_kind }

    module _ (wires : WiresOf) (are : AreWiresOf flat.tables m wires) where
      -- the edge, the port and the span of a wire
      pub record InSpan (w : InWire) : Type 0 where
        pub edge : EdgeRow
        pub at : slice_get flat.tables.edges w.edge ≡ Some edge
        pub read : IsReadBy m edge
        pub span : PortSpan
        pub place : w.port ≡ place_of_port flat.tables.ports edge.port
        pub span_at : slice_get (spans_at m) w.port ≡ Some span
        pub word : is_written span.word ≡ false

      pub record OutSpan (w : OutWire) : Type 0 where
        pub edge : EdgeRow
        pub at : slice_get flat.tables.edges w.edge ≡ Some edge
        pub written : IsWrittenBy m edge
        pub span : PortSpan
        pub place : w.port ≡ place_of_port flat.tables.ports (driver_or edge.port edge.driver)
        pub span_at : slice_get (spans_at m) w.port ≡ Some span

      pub in_span : (j : ℕ) (w : InWire) → slice_get wires.ins j ≡ Some w → InSpan w
      in_span j w wat =
          let reads = are.in_edge j w wat in
          let row = get_inside flat.tables.edges w.edge reads.inside in
          let r : IsReadBy m row.0 = read_by row.0 (edge_row model flat is w.edge row.0 row.1) (sym (ap reader_of_row row.1) ∙ reads.reader) in
          let p : IsAtPlace row.0.port r.port = at_place row.0.port r.port r.at in
          let place : w.port ≡ place_of_port flat.tables.ports row.0.port = are.in_port j w wat ∙ ap (λ o. place_of_port flat.tables.ports (port_of_row o)) row.1 in
          record {
            edge = row.0;
            at = row.1;
            read = r;
            span = p.span;
            place = place;
            span_at = ap (slice_get (spans_at m)) place ∙ ap (λ k. slice_get (spans_at k) (place_of_port flat.tables.ports row.0.port)) (sym r.own) ∙ p.at;
            word = ap is_written p.word ∙ r.word;
          }

      pub out_span : (j : ℕ) (w : OutWire) → slice_get wires.outs j ≡ Some w → OutSpan w
      out_span j w wat =
          let writes = are.out_edge j w wat in
          let row = get_inside flat.tables.edges w.edge writes.inside in
          let r : IsWrittenBy m row.0 = written_by row.0 (edge_row model flat is w.edge row.0 row.1) (sym (ap writer_of_row row.1) ∙ writes.writer) in
          let p : IsAtPlace (driver_or row.0.port row.0.driver) r.port = at_place (driver_or row.0.port row.0.driver) r.port r.at in
          let place : w.port ≡ place_of_port flat.tables.ports (driver_or row.0.port row.0.driver) = are.out_port j w wat ∙ ap (λ o. place_of_port flat.tables.ports (source_of_row o)) row.1 in
          record {
            edge = row.0;
            at = row.1;
            written = r;
            span = p.span;
            place = place;
            span_at = ap (slice_get (spans_at m)) place ∙ ap (λ k. slice_get (spans_at k) (place_of_port flat.tables.ports (driver_or row.0.port row.0.driver))) (sym r.own) ∙ p.at;
          }

      in_port_once : (i j : ℕ) (v w : InWire) → slice_get wires.ins i ≡ Some v → slice_get wires.ins j ≡ Some w → v.port ≡ w.port → i ≡ j
      in_port_once i j v w vi wj same =
          let a = in_span i v vi in let b = in_span j w wj in
          let ports : a.edge.port ≡ b.edge.port = place_once flat.tables.ports a.edge.port b.edge.port a.read.port b.read.port a.read.at b.read.at (a.read.own ∙ sym b.read.own) (sym a.place ∙ same ∙ b.place) in
          are.in_once i j v w vi wj (port_once model flat is v.edge w.edge a.edge b.edge a.at b.at ports)

      pub are_wired : AreWired wires (spans_at m) (length flat.tables.edges)
      are_wired = record {
        placed = record {
          in_port = λ j w at. let h = in_span j w at in slice_get_within (spans_at m) w.port h.span h.span_at;
          in_word = λ j w p at pat. let h = in_span j w at in ap (λ (s : PortSpan). is_written s.word) (some_same p h.span (sym pat ∙ h.span_at)) ∙ h.word;
          in_port_once = in_port_once;
          out_port = λ j w at. let h = out_span j w at in slice_get_within (spans_at m) w.port h.span h.span_at;
        };
        in_edge = λ j w at. let h = are.in_edge j w at in h.inside;
        in_edge_once = are.in_once;
        out_edge = λ j w at. let h = are.out_edge j w at in h.inside;
        out_edge_once = are.out_once;
      }

pub wires_are_wired : PortsHaveFormats → WiresAreWired
wires_are_wired formats model flat m wires sound is below are = are_wired formats model flat sound is m below wires are
