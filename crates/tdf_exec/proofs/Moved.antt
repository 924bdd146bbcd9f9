-- How a firing of a module, of a sampler and of a sink moves samples, by the edges of the flat model.
use Rattle.std.proofs.Common.{◌≡◌, ◌∙◌, ◌≢◌, ℕ, zero, suc, ◌+◌, ◌<◌, ◌≤◌, Bool, true, false, List, [], ◌∷◌, ◌++◌, Some, None, if◌then◌else◌, nat_eq, length, drop, map, refl, sym, ap, subst, inl, inr, ◌⊎◌, arith, append-nil}
use Rattle.std.proofs.lemmas.Bool.{cases_eq, eq-eqb, eqb-true, eqb-false, ne_eqb}
use Rattle.std.proofs.lemmas.List.Elements.{All-cons, All-nil}
use Rattle.std.proofs.lemmas.List.FromFn.{length-map-range_with_len}
use Rattle.std.proofs.lemmas.Option.{same_Some}
use Rattle.std.specs.List.{All, list_any, range_with_len}
use Rattle.std.specs.Prelude.{slice_get, slice_index}
use Rattle.tdf_bind_tables.specs.FlatTables.{FlatTablesOf}
use Rattle.tdf_exec.specs.Cluster.{ClusterOf}
use Rattle.tdf_exec.specs.Made.{IsModuleOf, IsSamplerOf, IsSinkOf}
use Rattle.tdf_exec_layout.specs.Samples.{edge_format}
use Rattle.tdf_exec.specs.machine.Fired.{HasFired}
use Rattle.tdf_exec.specs.Runners.{ModuleOf, SamplerOf}
use Rattle.tdf_exec.specs.machine.Steps.{AreMovedBy, kept}
use Rattle.tdf_expr.specs.Frames.{IsOfFormat, PortsSeen}
use Rattle.tdf_expr.specs.declared.spans.PortSpan.{PortSpan}
use Rattle.tdf_exec_firing.proofs.Api.{Passes, any_cases, writer_cases}
use Rattle.tdf_exec_firing.specs.Activation.{assigned_sample}
use Rattle.tdf_exec_firing.specs.Actors.{HasTaken, HavePut}
use Rattle.tdf_exec_firing.specs.Firing.{front_of, is_read, writer_of}
use Rattle.tdf_exec_firing.specs.Wires.{WiresOf}
use Rattle.tdf_exec_firing.specs.declared.wires.InWire.{InWire}
use Rattle.tdf_exec_firing.specs.declared.wires.OutWire.{OutWire}
use Rattle.tdf_fixed.specs.declared.format.Format.{Format}
use Rattle.tdf_fixed.specs.declared.raw.Raw.{Raw}
use Rattle.tdf_bind.specs.declared.model.Flat.{Flat}
use Rattle.tdf_exec_layout.specs.Wiring.{AreWiresOf, Writes}
use Rattle.tdf_rings.specs.Carried.{ring_at}
use Rattle.tdf_rings.specs.Rings.{RingOf, ring_of}
use Rattle.tdf_streams.specs.Places.{place_of_port, reader_at, source_at, writer_at}

pub some_inj : {A : Type 0} (a b : A) → Some a ≡ Some b → a ≡ b
some_inj a b e = same_Some a b e

-- the element at a place
pub some_at : {A : Type 0} (xs : List A) (i : ℕ) → i < length xs → (x : A) × (slice_get xs i ≡ Some x)
some_at [] i below = absurd (omega (arith, below))
some_at (x ∷ xs) zero below = (x, refl)
some_at (x ∷ xs) (suc i) below = some_at xs i (omega (arith, below))

all_range : {A : Type 0} (P : A → Type 0) (g : ℕ → A) (a n : ℕ) → ((k : ℕ) → a ≤ k → k < a + n → P (g k)) → All P (map g (range_with_len a n))
all_range P g a zero each = All-nil P
all_range P g a (suc n) each = All-cons P (g a) _ (each a (omega arith) (omega arith)) (all_range P g (a + 1) n (λ k low high. each k (omega (arith, low)) (omega (arith, high))))

module _ (tables : FlatTablesOf) (m : ℕ) (wires : WiresOf) (are : AreWiresOf tables m wires) (e : ℕ) (inside : e < length tables.edges) where
  -- a wire reads an edge where its reader is the module
  pub reads_it : is_read wires.ins e ≡ nat_eq (reader_at tables.edges e) m
  reads_it = choose (any_cases (λ (w : InWire). nat_eq w.edge e) wires.ins)
    where
      choose : (Passes (λ (w : InWire). nat_eq w.edge e) wires.ins × (is_read wires.ins e ≡ true))
          ⊎ (((j : ℕ) (w : InWire) → slice_get wires.ins j ≡ Some w → nat_eq w.edge e ≡ false) × (is_read wires.ins e ≡ false))
          → is_read wires.ins e ≡ nat_eq (reader_at tables.edges e) m
      choose (inl (found, is)) =
          let same : found.thing.edge ≡ e = eqb-true _ e found.passed in
          is ∙ sym (eq-eqb _ m (subst (λ d. reader_at tables.edges d ≡ m) same (are.in_edge found.place found.thing found.at).reader))
      choose (inr (none, is)) = is ∙ sym (ne_eqb _ m (λ reads.
          let w = are.in_all e (record { inside = inside; reader = reads }) in
          eqb-false _ e (none w.0 w.1 w.2) w.3))

  -- the port that writes an edge where its writer is the module
  pub writes_it : writer_at tables.edges e ≡ m → writer_of wires.outs e ≡ Some (place_of_port tables.ports (source_at tables.edges e))
  writes_it writes = choose (writer_cases wires.outs e)
    where
      choose : ((j : ℕ) × (w : OutWire) × (slice_get wires.outs j ≡ Some w) × (w.edge ≡ e) × (writer_of wires.outs e ≡ Some w.port))
          ⊎ (((j : ℕ) (w : OutWire) → slice_get wires.outs j ≡ Some w → w.edge ≡ e → ⊥) × (writer_of wires.outs e ≡ None))
          → writer_of wires.outs e ≡ Some (place_of_port tables.ports (source_at tables.edges e))
      choose (inl (j, w, at, same, is)) = is ∙ ap (λ p. Some p) (are.out_port j w at ∙ ap (λ d. place_of_port tables.ports (source_at tables.edges d)) same)
      choose (inr (none, is)) =
          let w = are.out_all e (record { inside = inside; writer = writes }) in
          absurd (none w.0 w.1 w.2 w.3)

  pub writes_none : writer_at tables.edges e ≢ m → writer_of wires.outs e ≡ None
  writes_none apart = choose (writer_cases wires.outs e)
    where
      choose : ((j : ℕ) × (w : OutWire) × (slice_get wires.outs j ≡ Some w) × (w.edge ≡ e) × (writer_of wires.outs e ≡ Some w.port))
          ⊎ (((j : ℕ) (w : OutWire) → slice_get wires.outs j ≡ Some w → w.edge ≡ e → ⊥) × (writer_of wires.outs e ≡ None))
          → writer_of wires.outs e ≡ None
      choose (inl (j, w, at, same, is)) = absurd (apart (subst (λ d. writer_at tables.edges d ≡ m) same (are.out_edge j w at).writer))
      choose (inr (none, is)) = is

-- what a module puts on an edge
abbrev pub given_by : FlatTablesOf → (writes : List ℕ) → PortsSeen → ℕ → List Raw
given_by tables writes ports e = front_of ports (Some (place_of_port tables.ports (source_at tables.edges e))) (slice_index writes e)

module _ (flat : Flat) (c : ClusterOf) (m : ℕ) (x y : ModuleOf) (is : IsModuleOf flat c m x) (new : List RingOf)
    (fired : HasFired flat.checked c.reads c.writes c.rings new x y) (same : length c.rings ≡ length flat.tables.edges) where
  spans_are : y.ports.spans ≡ x.ports.spans
  spans_are = fired.made.ports_are ∙ sym is.made.ports_are

  moved_at : (e : ℕ) → e < length flat.tables.edges → ring_at new e ≡ ring_of
      (kept flat.tables c.reads m e (ring_at c.rings e).samples ++ (if nat_eq (writer_at flat.tables.edges e) m then given_by flat.tables c.writes y.ports e else []))
      (ring_at c.rings e).capacity
  moved_at e inside =
      fired.moved.moved e (subst (λ n. e < n) (sym same) inside)
      ∙ ap (λ b. ring_of ((if b then drop (slice_index c.reads e) (ring_at c.rings e).samples else (ring_at c.rings e).samples)
      ++ front_of y.ports (writer_of x.wires.outs e) (slice_index c.writes e)) (ring_at c.rings e).capacity) (reads_it flat.tables m x.wires is.wires_are e inside)
      ∙ ap (λ l. ring_of (kept flat.tables c.reads m e (ring_at c.rings e).samples ++ l) (ring_at c.rings e).capacity) (written (cases_eq (writer_at flat.tables.edges e) m))
    where
      written : (writer_at flat.tables.edges e ≡ m) ⊎ (writer_at flat.tables.edges e ≢ m)
          → front_of y.ports (writer_of x.wires.outs e) (slice_index c.writes e) ≡ (if nat_eq (writer_at flat.tables.edges e) m then given_by flat.tables c.writes y.ports e else [])
      written (inl writes) =
          ap (λ o. front_of y.ports o (slice_index c.writes e)) (writes_it flat.tables m x.wires is.wires_are e inside writes)
          ∙ ap (λ (b : Bool). if b then given_by flat.tables c.writes y.ports e else []) (sym (eq-eqb _ _ writes))
      written (inr apart) =
          ap (λ o. front_of y.ports o (slice_index c.writes e)) (writes_none flat.tables m x.wires is.wires_are e inside apart)
          ∙ ap (λ (b : Bool). if b then given_by flat.tables c.writes y.ports e else []) (sym (ne_eqb _ _ apart))

  given_formats : (e : ℕ) (f : Format) → e < length flat.tables.edges → edge_format flat.tables e ≡ Some f → writer_at flat.tables.edges e ≡ m
      → All (IsOfFormat f) (given_by flat.tables c.writes y.ports e)
  given_formats e f inside form writes =
      let found = is.wires_are.out_all e (record { inside = inside; writer = writes }) in
      go found.0 found.1 found.2 found.3
    where
      go : (j : ℕ) (w : OutWire) → slice_get x.wires.outs j ≡ Some w → w.edge ≡ e → All (IsOfFormat f) (given_by flat.tables c.writes y.ports e)
      go j w at edge_is =
          all_range (IsOfFormat f) (assigned_sample y.ports.spans y.ports.state.samples (place_of_port flat.tables.ports (source_at flat.tables.edges e))) 0 (slice_index c.writes e)
          (λ k low high. subst (λ g. IsOfFormat g (assigned_sample y.ports.spans y.ports.state.samples (place_of_port flat.tables.ports (source_at flat.tables.edges e)) k)) form_is
          (subst (λ p. IsOfFormat span.format (assigned_sample y.ports.spans y.ports.state.samples p k)) port_is
          (fired.formats.each w.port k span (ap (λ l. slice_get l w.port) spans_are ∙ there) (short k high))))
        where
          port_is : w.port ≡ place_of_port flat.tables.ports (source_at flat.tables.edges e)
          port_is = is.wires_are.out_port j w at ∙ ap (λ d. place_of_port flat.tables.ports (source_at flat.tables.edges d)) edge_is

          span : PortSpan
          span = (some_at x.ports.spans w.port (is.wired.placed.out_port j w at)).0

          there : slice_get x.ports.spans w.port ≡ Some span
          there = (some_at x.ports.spans w.port (is.wired.placed.out_port j w at)).1

          form_is : span.format ≡ f
          form_is = some_inj span.format f (sym (is.write_format j w span at there) ∙ ap (edge_format flat.tables) edge_is ∙ form)

          short : (k : ℕ) → k < 0 + slice_index c.writes e → k < span.count
          short k high =
              let less : slice_index c.writes e ≤ span.count = subst (λ d. slice_index c.writes d ≤ span.count) edge_is (is.write_rate j w span at there) in
              omega (arith, high, less)

  pub module_moves : AreMovedBy flat.tables c m (given_by flat.tables c.writes y.ports) new
  module_moves = record {
    same = fired.moved.same;
    moved = moved_at;
    long = λ e inside writes. length-map-range_with_len _ 0 (slice_index c.writes e);
    formats = given_formats;
  }

-- what a sampler puts on each of its edges
abbrev pub given_one : Raw → ℕ → List Raw
given_one v e = v ∷ []

pub sampler_moves : (flat : Flat) (c : ClusterOf) (m : ℕ) (s : SamplerOf) (v : Raw) (new : List RingOf) → IsSamplerOf flat c m s → HavePut v s.edges c.rings new
    → length c.rings ≡ length flat.tables.edges
    → ((e : ℕ) (f : Format) → Writes flat.tables m e → edge_format flat.tables e ≡ Some f → IsOfFormat f v)
    → AreMovedBy flat.tables c m (given_one v) new
sampler_moves flat c m s v new is put same fits = record {
  same = put.same;
  moved = λ e inside.
      put.put e (subst (λ n. e < n) (sym same) inside)
      ∙ ap (λ b. ring_of ((ring_at c.rings e).samples ++ (if b then v ∷ [] else [])) (ring_at c.rings e).capacity) (named e inside)
      ∙ ap (λ (b : Bool). ring_of ((if b then drop (slice_index c.reads e) (ring_at c.rings e).samples else (ring_at c.rings e).samples)
      ++ (if nat_eq (writer_at flat.tables.edges e) m then v ∷ [] else [])) (ring_at c.rings e).capacity)
      (sym (ne_eqb _ m (λ reads. is.none e (record { inside = inside; reader = reads }))));
  long = λ e inside writes. sym (is.rate e (record { inside = inside; writer = writes }));
  formats = λ e f inside form writes. All-cons (IsOfFormat f) v [] (fits e f (record { inside = inside; writer = writes }) form) (All-nil (IsOfFormat f));
}
  where
    named : (e : ℕ) → e < length flat.tables.edges → list_any (λ d. nat_eq d e) s.edges ≡ nat_eq (writer_at flat.tables.edges e) m
    named e inside = choose (any_cases (λ d. nat_eq d e) s.edges)
      where
        choose : (Passes (λ d. nat_eq d e) s.edges × (list_any (λ d. nat_eq d e) s.edges ≡ true))
            ⊎ (((j d : ℕ) → slice_get s.edges j ≡ Some d → nat_eq d e ≡ false) × (list_any (λ d. nat_eq d e) s.edges ≡ false))
            → list_any (λ d. nat_eq d e) s.edges ≡ nat_eq (writer_at flat.tables.edges e) m
        choose (inl (found, here)) =
            let one : found.thing ≡ e = eqb-true _ e found.passed in
            here ∙ sym (eq-eqb _ m (subst (λ d. writer_at flat.tables.edges d ≡ m) one (is.edges_are.each found.place found.thing found.at).writer))
        choose (inr (none, here)) = here ∙ sym (ne_eqb _ m (λ writes.
            let j = is.edges_are.all e (record { inside = inside; writer = writes }) in
            eqb-false _ e (none j.0 e j.1) refl))

-- a sink puts nothing
abbrev pub given_none : ℕ → List Raw
given_none e = []

pub sink_moves : (flat : Flat) (c : ClusterOf) (m edge : ℕ) (new : List RingOf) → IsSinkOf flat c m edge → HasTaken edge c.rings new
    → length c.rings ≡ length flat.tables.edges → AreMovedBy flat.tables c m given_none new
sink_moves flat c m edge new is took same = record {
  same = took.same;
  moved = λ e inside.
      took.taken e (subst (λ n. e < n) (sym same) inside)
      ∙ ap (λ l. ring_of l (ring_at c.rings e).capacity) (left e inside (cases_eq (reader_at flat.tables.edges e) m) ∙ sym (append-nil _))
      ∙ ap (λ l. ring_of (kept flat.tables c.reads m e (ring_at c.rings e).samples ++ l) (ring_at c.rings e).capacity) (nothing (nat_eq (writer_at flat.tables.edges e) m));
  long = λ e inside writes. absurd (is.none e (record { inside = inside; writer = writes }));
  formats = λ e f inside form writes. absurd (is.none e (record { inside = inside; writer = writes }));
}
  where
    nothing : (b : Bool) → [] ≡ (if b then given_none 0 else [])
    nothing true = refl
    nothing false = refl

    left : (e : ℕ) → e < length flat.tables.edges → (reader_at flat.tables.edges e ≡ m) ⊎ (reader_at flat.tables.edges e ≢ m)
        → (if nat_eq edge e then drop 1 (ring_at c.rings e).samples else (ring_at c.rings e).samples) ≡ kept flat.tables c.reads m e (ring_at c.rings e).samples
    left e inside (inl reads) =
        let one : e ≡ edge = is.edge_is.only e (record { inside = inside; reader = reads }) in
        ap (λ (b : Bool). if b then drop 1 (ring_at c.rings e).samples else (ring_at c.rings e).samples) (eq-eqb edge e (sym one))
        ∙ ap (λ n. drop n (ring_at c.rings e).samples) (sym (ap (slice_index c.reads) one ∙ is.rate))
        ∙ ap (λ (b : Bool). if b then drop (slice_index c.reads e) (ring_at c.rings e).samples else (ring_at c.rings e).samples) (sym (eq-eqb _ _ reads))
    left e inside (inr apart) =
        ap (λ (b : Bool). if b then drop 1 (ring_at c.rings e).samples else (ring_at c.rings e).samples) (ne_eqb edge e (λ one. apart (subst (λ d. reader_at flat.tables.edges d ≡ m) one is.edge_is.is.reader)))
        ∙ ap (λ (b : Bool). if b then drop (slice_index c.reads e) (ring_at c.rings e).samples else (ring_at c.rings e).samples) (sym (ne_eqb _ _ apart))
