-- What actors are told is what the tables say.
use Rattle.std.proofs.Common.{◌≡◌, ◌∙◌, ℕ, ◌+◌, Bool, true, false, Option, Some, None, option_map, if◌then◌else◌, nat_eq, List, length, map, take, refl, ap, sym, subst, arith, slice_get}
use Rattle.std.proofs.Math.Seq.{take-length}
use Rattle.std.proofs.lemmas.Bool.{eq-eqb, eqb-true}
use Rattle.std.proofs.lemmas.Option.{slice_get-map, slice_get_within}
use Rattle.tdf_bind_tables.specs.FlatTables.{FlatTablesOf}
use Rattle.tdf_bind_tables.specs.declared.actors.ActorRow.{ActorRow}
use Rattle.tdf_exec_firing.specs.Wires.{WiresOf}
use Rattle.tdf_exec_firing.specs.declared.wires.InWire.{InWire}
use Rattle.tdf_exec_firing.specs.declared.wires.OutWire.{OutWire}
use Rattle.tdf_streams.proofs.Api.{get_inside, none_some, some_same}
use Rattle.tdf_graph.specs.declared.actors.Actor.{Actor}
use Rattle.tdf_graph.specs.declared.actors.Actor.TheVariants as actor
use Rattle.tdf_exec_layout.proofs.Picked.{IsPicked, complete, once, sound}
use Rattle.tdf_exec_layout.specs.Wires.{AreAllWires, IsWiringOf, SinksHaveOne}
use Rattle.tdf_exec_layout.specs.Wiring.{AreEdgesOf, AreWiresOf, IsEdgeOf, Reads, Writes, port_of_row}
use Rattle.tdf_exec_layout.specs.declared.wiring.ActorWires.{ActorWires}
use Rattle.tdf_exec_layout.specs.declared.wiring.ActorWires.TheVariants.{Module, Sampler, Sink, Elsewhere}
use Rattle.tdf_exec_layout.specs.machine.Ends.{EndsUpTo, HasInput, IsTold, ToldUpTo, ends_at, in_wire, in_wires, out_wire, out_wires, wire_in, wire_out}
use Rattle.tdf_streams.specs.Places.{kind_of_row, place_of_port, reader_of_row, source_of_row, writer_of_row}
use Rattle.tdf_bind_connections.specs.declared.edges.EdgeRow.{EdgeRow}

some_if : {B : Type 0} (b : Bool) (x y : B) → (if b then Some x else None) ≡ Some y → (b ≡ true) × (x ≡ y)
some_if true x y is = (refl, some_same x y is)
some_if false x y is = none_some y is

module _ (tables : FlatTablesOf) (m : ℕ) where
  abbrev pub all_in : List InWire
  all_in = in_wires tables m (length tables.edges)

  abbrev pub all_out : List OutWire
  all_out = out_wires tables m (length tables.edges)

  -- an edge that the actor reads, with its wire
  record HasIn (w : InWire) : Type 0 where
    pub edge : EdgeRow
    pub at : slice_get tables.edges w.edge ≡ Some edge
    pub reader : edge.reader ≡ m
    pub wire : wire_in tables w.edge edge ≡ w

  record HasOut (w : OutWire) : Type 0 where
    pub edge : EdgeRow
    pub at : slice_get tables.edges w.edge ≡ Some edge
    pub writer : edge.writer ≡ m
    pub wire : wire_out tables w.edge edge ≡ w

  in_keyed : (n : ℕ) (x : EdgeRow) (y : InWire) → in_wire tables m n x ≡ Some y → y.edge ≡ n
  in_keyed n x y is = ap (λ (w : InWire). w.edge) (sym (some_if (nat_eq x.reader m) (wire_in tables n x) y is).1)

  out_keyed : (n : ℕ) (x : EdgeRow) (y : OutWire) → out_wire tables m n x ≡ Some y → y.edge ≡ n
  out_keyed n x y is = ap (λ (w : OutWire). w.edge) (sym (some_if (nat_eq x.writer m) (wire_out tables n x) y is).1)

  whole : take (length tables.edges) tables.edges ≡ tables.edges
  whole = take-length tables.edges

  has_in : (j : ℕ) (w : InWire) → slice_get all_in j ≡ Some w → HasIn w
  has_in j w at =
      let h : IsPicked (in_wire tables m) 0 (take (length tables.edges) tables.edges) w = sound (in_wire tables m) 0 (take (length tables.edges) tables.edges) j w at in
      let n : w.edge ≡ h.number = in_keyed (0 + h.number) h.thing w h.gives ∙ omega arith in
      let is = some_if (nat_eq h.thing.reader m) (wire_in tables (0 + h.number) h.thing) w h.gives in
      record {
        edge = h.thing;
        at = ap (slice_get tables.edges) n ∙ ap (λ l. slice_get l h.number) (sym whole) ∙ h.at;
        reader = eqb-true h.thing.reader m is.0;
        wire = let k : w.edge ≡ 0 + h.number = in_keyed (0 + h.number) h.thing w h.gives in ap (λ e. wire_in tables e h.thing) k ∙ is.1;
      }

  has_out : (j : ℕ) (w : OutWire) → slice_get all_out j ≡ Some w → HasOut w
  has_out j w at =
      let h : IsPicked (out_wire tables m) 0 (take (length tables.edges) tables.edges) w = sound (out_wire tables m) 0 (take (length tables.edges) tables.edges) j w at in
      let n : w.edge ≡ h.number = out_keyed (0 + h.number) h.thing w h.gives ∙ omega arith in
      let is = some_if (nat_eq h.thing.writer m) (wire_out tables (0 + h.number) h.thing) w h.gives in
      record {
        edge = h.thing;
        at = ap (slice_get tables.edges) n ∙ ap (λ l. slice_get l h.number) (sym whole) ∙ h.at;
        writer = eqb-true h.thing.writer m is.0;
        wire = let k : w.edge ≡ 0 + h.number = out_keyed (0 + h.number) h.thing w h.gives in ap (λ e. wire_out tables e h.thing) k ∙ is.1;
      }

  reads : (w : InWire) → HasIn w → Reads tables m w.edge
  reads w h = record { inside = slice_get_within tables.edges w.edge h.edge h.at; reader = ap reader_of_row h.at ∙ h.reader }

  writes : (w : OutWire) → HasOut w → Writes tables m w.edge
  writes w h = record { inside = slice_get_within tables.edges w.edge h.edge h.at; writer = ap writer_of_row h.at ∙ h.writer }

  pub all_read : (e : ℕ) → Reads tables m e → (j : ℕ) × (w : InWire) × (slice_get all_in j ≡ Some w) × (w.edge ≡ e)
  all_read e h =
      let row = get_inside tables.edges e h.inside in
      let mine : row.0.reader ≡ m = sym (ap reader_of_row row.1) ∙ h.reader in
      let gives : in_wire tables m (0 + e) row.0 ≡ Some (wire_in tables e row.0) =
      ap (λ b. if b then Some (wire_in tables (0 + e) row.0) else None) (eq-eqb row.0.reader m mine) ∙ (let z : 0 + e ≡ e = omega arith in ap (λ k. Some (wire_in tables k row.0)) z) in
      let found = complete (in_wire tables m) 0 (take (length tables.edges) tables.edges) e row.0 (wire_in tables e row.0) (ap (λ l. slice_get l e) whole ∙ row.1) gives in
      (found.0, wire_in tables e row.0, found.1, refl)

  pub all_written : (e : ℕ) → Writes tables m e → (j : ℕ) × (w : OutWire) × (slice_get all_out j ≡ Some w) × (w.edge ≡ e)
  all_written e h =
      let row = get_inside tables.edges e h.inside in
      let mine : row.0.writer ≡ m = sym (ap writer_of_row row.1) ∙ h.writer in
      let gives : out_wire tables m (0 + e) row.0 ≡ Some (wire_out tables e row.0) =
      ap (λ b. if b then Some (wire_out tables (0 + e) row.0) else None) (eq-eqb row.0.writer m mine) ∙ (let z : 0 + e ≡ e = omega arith in ap (λ k. Some (wire_out tables k row.0)) z) in
      let found = complete (out_wire tables m) 0 (take (length tables.edges) tables.edges) e row.0 (wire_out tables e row.0) (ap (λ l. slice_get l e) whole ∙ row.1) gives in
      (found.0, wire_out tables e row.0, found.1, refl)

  in_once : (i j : ℕ) (v w : InWire) → slice_get all_in i ≡ Some v → slice_get all_in j ≡ Some w → v.edge ≡ w.edge → i ≡ j
  in_once i j v w vi wj same = once (in_wire tables m) (λ (x : InWire). x.edge) in_keyed 0 (take (length tables.edges) tables.edges) i j v w vi wj same

  out_once : (i j : ℕ) (v w : OutWire) → slice_get all_out i ≡ Some v → slice_get all_out j ≡ Some w → v.edge ≡ w.edge → i ≡ j
  out_once i j v w vi wj same = once (out_wire tables m) (λ (x : OutWire). x.edge) out_keyed 0 (take (length tables.edges) tables.edges) i j v w vi wj same

  abbrev pub all_ends : WiresOf
  all_ends = record { ins = all_in; outs = all_out }

  pub are_wires : AreWiresOf tables m all_ends
  are_wires = record {
    in_edge = λ j w at. reads w (has_in j w at);
    in_port = λ j w at. let h = has_in j w at in ap (λ (x : InWire). x.port) (sym h.wire) ∙ ap (λ o. place_of_port tables.ports (port_of_row o)) (sym h.at);
    in_all = all_read;
    in_once = in_once;
    out_edge = λ j w at. writes w (has_out j w at);
    out_port = λ j w at. let h = has_out j w at in ap (λ (x : OutWire). x.port) (sym h.wire) ∙ ap (λ o. place_of_port tables.ports (source_of_row o)) (sym h.at);
    out_all = all_written;
    out_once = out_once;
  }

  edge_row : (j e : ℕ) → slice_get (map (λ (w : OutWire). w.edge) all_out) j ≡ Some e → (w : OutWire) × (slice_get all_out j ≡ Some w) × (w.edge ≡ e)
  edge_row j e at = go (slice_get all_out j) refl (sym (slice_get-map (λ (w : OutWire). w.edge) all_out j) ∙ at)
    where
      go : (o : Option OutWire) → slice_get all_out j ≡ o → option_map (λ (w : OutWire). w.edge) o ≡ Some e → (w : OutWire) × (slice_get all_out j ≡ Some w) × (w.edge ≡ e)
      go None is none = none_some e none
      go (Some w) is some = (w, is, some_same w.edge e some)

  pub are_edges : AreEdgesOf tables m (map (λ (w : OutWire). w.edge) all_out)
  are_edges = record {
    each = λ j e at. let w = edge_row j e at in subst (Writes tables m) w.2 (writes w.0 (has_out j w.0 w.1));
    all = λ e h. let w = all_written e h in (w.0, slice_get-map (λ (x : OutWire). x.edge) all_out w.0 ∙ ap (option_map (λ (x : OutWire). x.edge)) w.2 ∙ ap Some w.3);
    once = λ i j d e di ej same. let v = edge_row i d di in let w = edge_row j e ej in out_once i j v.0 w.0 v.1 w.1 (v.2 ∙ same ∙ sym w.2);
  }

  -- the first edge that a sink reads is its only one
  pub first_is : (e : ℕ) (w : InWire) → IsEdgeOf tables m e → slice_get all_in 0 ≡ Some w → IsEdgeOf tables m w.edge
  first_is e w h at = let r = reads w (has_in 0 w at) in
      record { is = r; only = λ d x. h.only d x ∙ sym (h.only w.edge r) }

row_ends : (tables : FlatTablesOf) (rows : List WiresOf) (m : ℕ) (row : ActorRow) → EndsUpTo tables (length tables.edges) rows → slice_get tables.actors m ≡ Some row
    → ends_at rows m ≡ all_ends tables m
row_ends tables rows m row h at = h.each m (slice_get_within tables.actors m row at)

has_input : (tables : FlatTablesOf) (m : ℕ) (kind : Actor) → (kind ≡ actor.Sink → (e : ℕ) × IsEdgeOf tables m e) → HasInput kind (all_ends tables m)
has_input tables m actor.Module sink = tt
has_input tables m actor.Sampler sink = tt
has_input tables m actor.Sink sink = let e = sink refl in let w = all_read tables m e.0 e.1.is in let i = slice_get_within (all_in tables m) w.0 w.1 w.2 in omega (arith, i)

-- each sink has an edge
pub sinks_have : (tables : FlatTablesOf) (rows : List WiresOf) → EndsUpTo tables (length tables.edges) rows → SinksHaveOne tables
    → (m : ℕ) (row : ActorRow) → slice_get tables.actors m ≡ Some row → HasInput row.kind (ends_at rows m)
sinks_have tables rows h sinks m row at =
    subst (HasInput row.kind) (sym (row_ends tables rows m row h at)) (has_input tables m row.kind (λ is. sinks m (ap kind_of_row at ∙ ap Some is)))

told_is : (tables : FlatTablesOf) (m : ℕ) (kind : Actor) (w : ActorWires) → (kind ≡ actor.Sink → (e : ℕ) × IsEdgeOf tables m e) → IsTold kind (all_ends tables m) w → IsWiringOf tables m kind w
told_is tables m actor.Module (Module wires) sink is = subst (AreWiresOf tables m) (sym is) (are_wires tables m)
told_is tables m actor.Module (Sampler edges) sink is = is
told_is tables m actor.Module (Sink edge) sink is = is
told_is tables m actor.Module Elsewhere sink is = is
told_is tables m actor.Sampler (Sampler edges) sink is = subst (AreEdgesOf tables m) (sym is) (are_edges tables m)
told_is tables m actor.Sampler (Module wires) sink is = is
told_is tables m actor.Sampler (Sink edge) sink is = is
told_is tables m actor.Sampler Elsewhere sink is = is
told_is tables m actor.Sink (Sink edge) sink is = let e = sink refl in subst (IsEdgeOf tables m) (sym is.2) (first_is tables m e.0 is.0 e.1 is.1)
told_is tables m actor.Sink (Module wires) sink is = is
told_is tables m actor.Sink (Sampler edges) sink is = is
told_is tables m actor.Sink Elsewhere sink is = is

-- so what is told is what the tables say
pub all_are : (tables : FlatTablesOf) (rows new : List WiresOf) (wires : List ActorWires) → EndsUpTo tables (length tables.edges) rows → SinksHaveOne tables
    → ToldUpTo tables.actors (length tables.actors) rows new wires → AreAllWires tables wires
all_are tables rows new wires h sinks told = record {
  long = told.long;
  each = λ m row w at wat. told_is tables m row.kind w (λ s. sinks m (ap kind_of_row at ∙ ap Some s))
      (subst (λ x. IsTold row.kind x w) (row_ends tables rows m row h at) (told.told m row w at wat));
}
