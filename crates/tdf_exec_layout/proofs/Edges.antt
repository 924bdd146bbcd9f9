-- What the edges of a flat model are.
use Rattle.std.proofs.Common.{◌≡◌, ◌∙◌, ℕ, ◌+◌, ◌<◌, Option, Some, None, List, length, refl, ap, sym, subst, arith, slice_get}
use Rattle.std.proofs.lemmas.Option.{slice_get_within}
use Rattle.tdf_bind_tables.specs.Actors.{AreActors, actor_of_kind}
use Rattle.tdf_bind_tables.specs.FlatTables.{FlatTablesOf}
use Rattle.tdf_bind_tables.specs.Ranges.{AreInRange}
use Rattle.tdf_bind_tables.specs.declared.actors.ActorRow.{ActorRow}
use Rattle.tdf_bind_invariants.specs.Below.{Flat, IsFlatOf}
use Rattle.tdf_streams.proofs.Api.{get_inside, none_some, some_same}
use Rattle.tdf_graph.specs.declared.actors.Actor.{Actor}
use Rattle.tdf_graph.specs.declared.actors.Actor.TheVariants as actor
use Rattle.tdf_exec_layout.proofs.Actors.{IsNoModule, IsNoSampler, IsOtherKind, IsSinkOf, module_kind, port_actor_at, sink_at}
use Rattle.tdf_exec_layout.proofs.Drivers.{IsDriver, driver_is}
use Rattle.tdf_exec_layout.proofs.Picked.{IsPicked, complete, once, picked, sound}
use Rattle.tdf_exec_layout.proofs.Rows.{all_at}
use Rattle.tdf_exec_layout.specs.Edges.{EdgesAreRows, IsEdgeRow, PortsGiveOnce, SamplersReadNone, SinksAreRead, SinksWriteNone}
use Rattle.tdf_exec_layout.specs.Wiring.{IsEdgeOf, Reads, Writes}
use Rattle.tdf_bind_attributes.specs.Roles.{roles_of}
use Rattle.tdf_streams.specs.Places.{actor_kind, kind_of_row, reader_of_row, writer_of_row}
use Rattle.tdf_lang_tree.specs.declared.blocks.PortKind.{PortKind}
use Rattle.tdf_lang_tree.specs.declared.blocks.PortKind.TheVariants.{In, Out, DeIn, DeOut}
use Rattle.tdf_bind_connections.specs.Edges.{actor_at, driven_edge, driver_port, edge_by, edge_from, edge_of_kind, sink_edge}
use Rattle.tdf_bind_connections.specs.ProcessBlocks.{placed_blocks}
use Rattle.tdf_bind_connections.specs.declared.edges.EdgeRow.{EdgeRow}
use Rattle.tdf_bind_connections.specs.declared.modules.PortRow.{PortRow}

module _ (flat : Flat) where
  abbrev tables : FlatTablesOf
  tables = flat.tables

  abbrev modules : ℕ
  modules = length flat.tables.modules

  abbrev gives : ℕ → PortRow → Option EdgeRow
  gives number port = edge_by flat.tables.signals flat.tables.ports number (actor_at modules flat.tables.ports number) port

  -- what was given by a port
  keyed : (n : ℕ) (x : PortRow) (y : EdgeRow) → gives n x ≡ Some y → y.port ≡ n
  keyed n x y is = by_kind x.kind is
    where
      from : (out : ℕ) (o : Option PortRow) → edge_from n x out o ≡ Some y → y.port ≡ n
      from out None is = none_some y is
      from out (Some driver) is = ap (λ (e : EdgeRow). e.port) (sym (some_same _ y is))

      driven : (o : Option ℕ) → driven_edge flat.tables.ports n x o ≡ Some y → y.port ≡ n
      driven None is = none_some y is
      driven (Some out) is = from out (slice_get flat.tables.ports out) is

      by_kind : (kind : PortKind) → edge_of_kind kind flat.tables.signals flat.tables.ports n (actor_at modules flat.tables.ports n) x ≡ Some y → y.port ≡ n
      by_kind In is = driven (driver_port flat.tables.signals x.signal) is
      by_kind Out is = none_some y is
      by_kind DeIn is = ap (λ (e : EdgeRow). e.port) (sym (some_same _ y is))
      by_kind DeOut is = ap (λ (e : EdgeRow). e.port) (sym (some_same _ y is))

  module _ (drives : (s out : ℕ) → driver_port flat.tables.signals s ≡ Some out → IsDriver flat.tables.ports out s)
      (are : AreActors modules flat.tables.ports flat.tables.edges flat.tables.actors) where
    row_is : (n : ℕ) (x : PortRow) (y : EdgeRow) → slice_get flat.tables.ports n ≡ Some x → gives n x ≡ Some y → IsEdgeRow flat.tables y
    row_is n x y at is = by_kind x.kind refl is
      where
        from : x.kind ≡ In → (out : ℕ) → IsDriver flat.tables.ports out x.signal → (o : Option PortRow) → slice_get flat.tables.ports out ≡ o → edge_from n x out o ≡ Some y → IsEdgeRow flat.tables y
        from kind out d None there is = none_some y is
        from kind out d (Some driver) there is = subst (IsEdgeRow flat.tables) (some_same _ y is) (IsEdgeRow.Between x out driver (record {
          port_at = at;
          port_kind = kind;
          driven = refl;
          driver_at = there;
          driver_kind = ap (λ (p : PortRow). p.kind) (some_same driver d.row (sym there ∙ d.at)) ∙ d.kind;
          signal = ap (λ (p : PortRow). p.signal) (some_same driver d.row (sym there ∙ d.at)) ∙ d.writes;
          writer = refl;
          reader = refl;
          initial = refl;
        }))

        driven : x.kind ≡ In → (o : Option ℕ) → driver_port flat.tables.signals x.signal ≡ o → driven_edge flat.tables.ports n x o ≡ Some y → IsEdgeRow flat.tables y
        driven kind None drive is = none_some y is
        driven kind (Some out) drive is = from kind out (drives x.signal out drive) (slice_get flat.tables.ports out) refl is

        by_kind : (kind : PortKind) → x.kind ≡ kind → edge_of_kind kind flat.tables.signals flat.tables.ports n (actor_at modules flat.tables.ports n) x ≡ Some y → IsEdgeRow flat.tables y
        by_kind In kind is = driven kind (driver_port flat.tables.signals x.signal) refl is
        by_kind Out kind is = none_some y is
        by_kind DeIn kind is = subst (IsEdgeRow flat.tables) (some_same _ y is) (IsEdgeRow.FromSampler x (record {
          port_at = at;
          port_kind = kind;
          not_driven = refl;
          writer = port_actor_at modules flat.tables are n x actor.Sampler (record { kind = actor.Sampler; «module» = x.«module»; port = n }) at (ap (λ k. actor_of_kind k n x) kind) refl refl refl;
          reader = refl;
          initial = refl;
        }))
        by_kind DeOut kind is = subst (IsEdgeRow flat.tables) (some_same _ y is) (IsEdgeRow.ToSink x (record {
          port_at = at;
          port_kind = kind;
          not_driven = refl;
          writer = refl;
          reader = port_actor_at modules flat.tables are n x actor.Sink (record { kind = actor.Sink; «module» = x.«module»; port = n }) at (ap (λ k. actor_of_kind k n x) kind) refl refl refl;
          initial = refl;
        }))

module _ (model : _) (flat : Flat) (is : IsFlatOf model flat) where
  abbrev all_edges : List EdgeRow
  all_edges = picked (gives flat) 0 flat.tables.ports

  edges_are : flat.tables.edges ≡ all_edges
  edges_are = is.tables.follows.edges

  drives : (s out : ℕ) → driver_port flat.tables.signals s ≡ Some out → IsDriver flat.tables.ports out s
  drives s out h = driver_is flat.tables.ports (placed_blocks (roles_of model) is.tables.tables.instances) is.tables.tables.signals flat.tables.signals s out is.tables.follows.signals.signals h

  pub edge_row : (e : ℕ) (edge : EdgeRow) → slice_get flat.tables.edges e ≡ Some edge → IsEdgeRow flat.tables edge
  edge_row e edge at =
      let h : IsPicked (gives flat) 0 flat.tables.ports edge = sound (gives flat) 0 flat.tables.ports e edge (ap (λ l. slice_get l e) (sym edges_are) ∙ at) in
      row_is flat drives is.tables.follows.actors (0 + h.number) h.thing edge ((let z : 0 + h.number ≡ h.number = omega arith in ap (slice_get flat.tables.ports) z) ∙ h.at) h.gives

  pub port_once : (d e : ℕ) (x y : EdgeRow) → slice_get flat.tables.edges d ≡ Some x → slice_get flat.tables.edges e ≡ Some y → x.port ≡ y.port → d ≡ e
  port_once d e x y xat yat same = once (gives flat) (λ (r : EdgeRow). r.port) (keyed flat) 0 flat.tables.ports d e x y
      (ap (λ l. slice_get l d) (sym edges_are) ∙ xat) (ap (λ l. slice_get l e) (sym edges_are) ∙ yat) same

  -- what no module of the model is
  not_module : (m : ℕ) → m < length flat.tables.modules → actor_kind flat.tables m ≡ Some actor.Sink → ⊥
  not_module m below sink = subst IsOtherKind (sym (module_kind (length flat.tables.modules) flat.tables is.tables.follows.actors m below) ∙ sink) tt

  module _ (ranges : AreInRange flat.tables) where
    own_module : (number : ℕ) (port : PortRow) → slice_get flat.tables.ports number ≡ Some port → port.«module» < length flat.tables.modules
    own_module number port at = all_at (λ (p : PortRow). p.«module» < length flat.tables.modules) flat.tables.ports number port ranges.port_modules at

    -- an edge that a sink reads is that of its port
    reads_its : (m e : ℕ) (row : ActorRow) (edge : EdgeRow) → slice_get flat.tables.actors m ≡ Some row → row.kind ≡ actor.Sink → slice_get flat.tables.edges e ≡ Some edge → edge.reader ≡ m → edge.port ≡ row.port
    reads_its m e row edge at sink eat reader = by_row (edge_row e edge eat)
      where
        kind_is : actor_kind flat.tables m ≡ Some actor.Sink
        kind_is = ap kind_of_row at ∙ ap Some sink

        by_row : IsEdgeRow flat.tables edge → edge.port ≡ row.port
        by_row (IsEdgeRow.Between port out driver h) = absurd (not_module m (subst (λ k. k < length flat.tables.modules) (sym h.reader ∙ reader) (own_module edge.port port h.port_at)) kind_is)
        by_row (IsEdgeRow.FromSampler port h) = absurd (not_module m (subst (λ k. k < length flat.tables.modules) (sym h.reader ∙ reader) (own_module edge.port port h.port_at)) kind_is)
        by_row (IsEdgeRow.ToSink port h) = sym h.reader.port_is ∙ ap (λ (r : ActorRow). r.port) (some_same h.reader.row row (sym h.reader.row_at ∙ ap (slice_get flat.tables.actors) reader ∙ at))

    -- the edge of a sink
    has_edge : (m : ℕ) (row : ActorRow) → slice_get flat.tables.actors m ≡ Some row → row.kind ≡ actor.Sink → (e : ℕ) × IsEdgeOf flat.tables m e
    has_edge m row at sink =
        let h : IsSinkOf (length flat.tables.modules) flat.tables is.tables.follows.actors m = sink_at (length flat.tables.modules) flat.tables is.tables.follows.actors m row at sink in
        let edge : EdgeRow = sink_edge h.number (actor_at (length flat.tables.modules) flat.tables.ports h.number) h.port in
        let given : gives flat (0 + h.number) h.port ≡ Some edge =
        (let z : 0 + h.number ≡ h.number = omega arith in ap (λ n. gives flat n h.port) z)
        ∙ ap (λ k. edge_of_kind k flat.tables.signals flat.tables.ports h.number (actor_at (length flat.tables.modules) flat.tables.ports h.number) h.port) h.kind in
        let found = complete (gives flat) 0 flat.tables.ports h.number h.port edge h.at given in
        let there : slice_get flat.tables.edges found.0 ≡ Some edge = ap (λ l. slice_get l found.0) edges_are ∙ found.1 in
        let port_is : edge.port ≡ row.port = reads_its m found.0 row edge at sink there (sym h.actor_is) in (
          found.0,
          record {
            is = record { inside = slice_get_within flat.tables.edges found.0 edge there; reader = ap reader_of_row there ∙ sym h.actor_is };
            only = λ d r. (let x = get_inside flat.tables.edges d r.inside in port_once d found.0 x.0 edge x.1 there (reads_its m d row x.0 at sink x.1 (sym (ap reader_of_row x.1) ∙ r.reader) ∙ sym port_is));
          },
        )

    -- no port's module is a sampler or a sink
    not_there : (m number : ℕ) (port : PortRow) → slice_get flat.tables.ports number ≡ Some port → port.«module» ≡ m → (kind : Actor) → actor_kind flat.tables m ≡ Some kind → IsNoModule (Some kind) → ⊥
    not_there m number port at own kind kind_is other =
        subst IsNoModule (sym kind_is ∙ module_kind (length flat.tables.modules) flat.tables is.tables.follows.actors m (subst (λ k. k < length flat.tables.modules) own (own_module number port at))) other

    pub sampler_reads : (m e : ℕ) → actor_kind flat.tables m ≡ Some actor.Sampler → Reads flat.tables m e → ⊥
    sampler_reads m e kind r = let row = get_inside flat.tables.edges e r.inside in by_row row.0 (sym (ap reader_of_row row.1) ∙ r.reader) (edge_row e row.0 row.1)
      where
        by_row : (edge : EdgeRow) → edge.reader ≡ m → IsEdgeRow flat.tables edge → ⊥
        by_row edge reader (IsEdgeRow.Between port out driver h) = not_there m edge.port port h.port_at (sym h.reader ∙ reader) actor.Sampler kind tt
        by_row edge reader (IsEdgeRow.FromSampler port h) = not_there m edge.port port h.port_at (sym h.reader ∙ reader) actor.Sampler kind tt
        by_row edge reader (IsEdgeRow.ToSink port h) =
            subst IsNoSampler (sym (ap (actor_kind flat.tables) (sym reader) ∙ ap kind_of_row h.reader.row_at ∙ ap Some h.reader.kind_is) ∙ kind) tt

    pub sink_writes : (m e : ℕ) → actor_kind flat.tables m ≡ Some actor.Sink → Writes flat.tables m e → ⊥
    sink_writes m e kind r = let row = get_inside flat.tables.edges e r.inside in by_row row.0 (sym (ap writer_of_row row.1) ∙ r.writer) (edge_row e row.0 row.1)
      where
        by_row : (edge : EdgeRow) → edge.writer ≡ m → IsEdgeRow flat.tables edge → ⊥
        by_row edge writer (IsEdgeRow.Between port out driver h) = not_there m out driver h.driver_at (sym h.writer ∙ writer) actor.Sink kind tt
        by_row edge writer (IsEdgeRow.FromSampler port h) =
            subst IsOtherKind (sym (ap (actor_kind flat.tables) (sym writer) ∙ ap kind_of_row h.writer.row_at ∙ ap Some h.writer.kind_is) ∙ kind) tt
        by_row edge writer (IsEdgeRow.ToSink port h) = not_there m edge.port port h.port_at (sym h.writer ∙ writer) actor.Sink kind tt

    pub sinks_read : (m : ℕ) → actor_kind flat.tables m ≡ Some actor.Sink → (e : ℕ) × IsEdgeOf flat.tables m e
    sinks_read m sink = by_row (slice_get flat.tables.actors m) refl sink
      where
        by_row : (o : Option ActorRow) → slice_get flat.tables.actors m ≡ o → kind_of_row o ≡ Some actor.Sink → (e : ℕ) × IsEdgeOf flat.tables m e
        by_row None at kind = none_some actor.Sink kind
        by_row (Some row) at kind = has_edge m row at (some_same row.kind actor.Sink kind)

pub edges_are_rows : EdgesAreRows
edges_are_rows model flat e edge is at = edge_row model flat is e edge at

pub ports_give_once : PortsGiveOnce
ports_give_once model flat d e x y is xat yat same = port_once model flat is d e x y xat yat same

pub sinks_are_read : SinksAreRead
sinks_are_read model flat ranges is m sink = sinks_read model flat is ranges m sink

pub samplers_read_none : SamplersReadNone
samplers_read_none model flat m e ranges is kind r = sampler_reads model flat is ranges m e kind r

pub sinks_write_none : SinksWriteNone
sinks_write_none model flat m e ranges is kind w = sink_writes model flat is ranges m e kind w
