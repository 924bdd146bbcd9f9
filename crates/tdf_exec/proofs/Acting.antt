-- What the body of a module does, as the streams of its cluster say it.
use Rattle.std.proofs.Common.{◌≡◌, ◌∙◌, ◌≢◌, ℕ, zero, suc, ◌+◌, ◌<◌, ◌&&◌, Bool, true, false, List, [], ◌∷◌, ◌++◌, Option, Some, None, if◌then◌else◌, nat_eq, length, take, refl, sym, ap, inl, inr, ◌⊎◌, arith}
use Rattle.std.proofs.lemmas.Bool.{cases_eq, eq-eqb, eqb-true, and_parts, ne_eqb}
use Rattle.std.proofs.lemmas.Option.{slice_get_within}
use Rattle.std.specs.Prelude.{ℤ, slice_get, slice_index, slice_index_or}
use Rattle.tdf_dynamic_plans.specs.Attributes.{attrs_at, rates_in}
use Rattle.tdf_exec.proofs.Moved.{some_at, some_inj}
use Rattle.tdf_exec.specs.Cluster.{ClusterOf}
use Rattle.tdf_exec.specs.machine.Fired.{HasFired}
use Rattle.tdf_exec.specs.Made.{IsModuleOf}
use Rattle.tdf_exec.specs.Runners.{ModuleOf}
use Rattle.tdf_expr.specs.Blocks.{PureBlock, blocks_of, body_of}
use Rattle.tdf_expr.specs.Checked.{IsCheckedOf}
use Rattle.tdf_expr.specs.Compiled.{AreBlocksOf}
use Rattle.tdf_expr.specs.Made.{event_count, port_spans_of}
use Rattle.tdf_expr.specs.Runs.{scope_in}
use Rattle.tdf_expr.specs.declared.blocks.Block.{Block}
use Rattle.tdf_expr.specs.declared.bodies.Body.TheVariants as body
use Rattle.tdf_expr.specs.declared.spans.PortSpan.{PortSpan}
use Rattle.tdf_exec_firing.specs.Activation.{port_samples, ports_before, assigned_sample, samples_from}
use Rattle.tdf_exec_firing.specs.Firing.{read_on, samples_read, wire_of}
use Rattle.tdf_exec_firing.specs.Wires.{AreWired, WiresOf}
use Rattle.tdf_exec_firing.specs.declared.wires.InWire.{InWire}
use Rattle.tdf_fixed.specs.declared.raw.Raw.{Raw}
use Rattle.tdf_bind.specs.declared.model.Flat.{Flat}
use Rattle.tdf_streams.specs.Firing.{fronts}
use Rattle.tdf_streams.specs.Net.{Net, Period, Turn}
use Rattle.tdf_exec_layout.specs.Wiring.{AreWiresOf, Reads, port_of_edge, port_of_row}
use Rattle.tdf_bind_tables.specs.FlatTables.{FlatTablesOf}
use Rattle.tdf_expr_semantics.specs.Bodies.{after_body}
use Rattle.tdf_rings.specs.Carried.{ring_at}
use Rattle.tdf_rings.specs.Rings.{RingOf}
use Rattle.tdf_expr_symbols.specs.Names.{Names}
use Rattle.tdf_expr_state.specs.State.{State, state_of}
use Rattle.tdf_streams.specs.Bodies.{module_acted, after_part, done_by, module_rates, written_by}
use Rattle.tdf_streams.specs.Periods.{PeriodInfo}
use Rattle.tdf_streams.specs.Places.{actor_kind, block_at, place_of_port, read_through, reader_at, reader_of_row}
use Rattle.tdf_lang_tree.specs.Pure.{PureTree}
use Rattle.tdf_bind_connections.specs.declared.edges.EdgeRow.{EdgeRow}
use Rattle.tdf_bind_connections.specs.declared.modules.PortRow.{PortRow}

-- a block that was checked is one of the model
pub block_there : (globals : Names) (ps : List PureBlock) (bs : List Block) (n : ℕ) → AreBlocksOf globals ps bs → n < length bs → (p : PureBlock) × (slice_get ps n ≡ Some p)
block_there globals [] [] n are below = absurd (omega (arith, below))
block_there globals [] (b ∷ bs) n are below = absurd are
block_there globals (p ∷ ps) [] n are below = absurd are
block_there globals (p ∷ ps) (b ∷ bs) zero are below = (p, refl)
block_there globals (p ∷ ps) (b ∷ bs) (suc n) are below = block_there globals ps bs n are.1 (omega (arith, below))

-- ports that read the same hold the same
same_samples : (f g : ℕ → List Raw) (k : ℕ) (spans : List PortSpan) → ((n : ℕ) → f n ≡ g n) → samples_from f k spans ≡ samples_from g k spans
unfolding samples_from
same_samples f g k [] same = refl
same_samples f g k (p ∷ ps) same =
    ap (λ l. port_samples p l ++ samples_from f (k + 1) ps) (same k) ∙ ap (λ l. port_samples p (g k) ++ l) (same_samples f g (k + 1) ps same)

-- whether the edge at a place is read by a module through a port
abbrev test_of : List PortRow → (m place : ℕ) → Option EdgeRow → Bool
test_of ports m place None = false
test_of ports m place (Some edge) = nat_eq edge.reader m && nat_eq (place_of_port ports edge.port) place

read_found : (ports : List PortRow) (m place : ℕ) (edges : List EdgeRow) (lists : List (List Raw)) (e : ℕ) → length lists ≡ length edges
    → test_of ports m place (slice_get edges e) ≡ true → ((d : ℕ) → d < e → test_of ports m place (slice_get edges d) ≡ false)
    → read_through ports m edges lists place ≡ slice_index_or lists e []
read_found ports m place [] lists e long found before = absurd cc
read_found ports m place (edge ∷ edges) [] e long found before = absurd (omega (arith, long))
read_found ports m place (edge ∷ edges) (xs ∷ lists) zero long found before = ap (λ (b : Bool). if b then xs else read_through ports m edges lists place) found
read_found ports m place (edge ∷ edges) (xs ∷ lists) (suc e) long found before =
    ap (λ (b : Bool). if b then xs else read_through ports m edges lists place) (before 0 (omega arith))
    ∙ read_found ports m place edges lists e (omega (arith, long)) found (λ d below. before (suc d) (omega (arith, below)))

read_none : (ports : List PortRow) (m place : ℕ) (edges : List EdgeRow) (lists : List (List Raw))
    → ((d : ℕ) → test_of ports m place (slice_get edges d) ≡ false) → read_through ports m edges lists place ≡ []
read_none ports m place [] lists none = refl
read_none ports m place (edge ∷ edges) [] none = refl
read_none ports m place (edge ∷ edges) (xs ∷ lists) none =
    ap (λ (b : Bool). if b then xs else read_through ports m edges lists place) (none 0) ∙ read_none ports m place edges lists (λ d. none (suc d))

-- the wire of a port, or it has none
wire_cases : (ins : List InWire) (place : ℕ)
    → ((j : ℕ) × (w : InWire) × (slice_get ins j ≡ Some w) × (w.port ≡ place) × (wire_of ins place ≡ Some w))
    ⊎ (((j : ℕ) (w : InWire) → slice_get ins j ≡ Some w → w.port ≡ place → ⊥) × (wire_of ins place ≡ None))
wire_cases [] place = inr ((λ j w at. absurd cc), refl)
wire_cases (v ∷ ins) place = choose (cases_eq v.port place) (wire_cases ins place)
  where
    choose : (v.port ≡ place) ⊎ (v.port ≢ place)
        → ((j : ℕ) × (w : InWire) × (slice_get ins j ≡ Some w) × (w.port ≡ place) × (wire_of ins place ≡ Some w))
        ⊎ (((j : ℕ) (w : InWire) → slice_get ins j ≡ Some w → w.port ≡ place → ⊥) × (wire_of ins place ≡ None))
        → ((j : ℕ) × (w : InWire) × (slice_get (v ∷ ins) j ≡ Some w) × (w.port ≡ place) × (wire_of (v ∷ ins) place ≡ Some w))
        ⊎ (((j : ℕ) (w : InWire) → slice_get (v ∷ ins) j ≡ Some w → w.port ≡ place → ⊥) × (wire_of (v ∷ ins) place ≡ None))
    choose (inl same) rest = inl (0, v, refl, same, ap (λ (b : Bool). if b then Some v else wire_of ins place) (eq-eqb _ _ same))
    choose (inr other) (inl rest) = inl (suc rest.0, rest.1, rest.2, rest.3, ap (λ (b : Bool). if b then Some v else wire_of ins place) (ne_eqb _ _ other) ∙ rest.4)
    choose (inr other) (inr rest) = inr (none rest.0, ap (λ (b : Bool). if b then Some v else wire_of ins place) (ne_eqb _ _ other) ∙ rest.1)
      where
        none : ((j : ℕ) (w : InWire) → slice_get ins j ≡ Some w → w.port ≡ place → ⊥) → (j : ℕ) (w : InWire) → slice_get (v ∷ ins) j ≡ Some w → w.port ≡ place → ⊥
        none others zero w at = λ is. other (ap (λ (o : Option InWire). port_in o) at ∙ is)
          where
            port_in : Option InWire → ℕ
            port_in None = 0
            port_in (Some u) = u.port
        none others (suc j) w at = others j w at

-- the front of the list of an edge
pub fronts_at : {S V I : Type 0} (net : Net S V I) (p : Period I) (m : ℕ) (lists : List (List V)) (e k n : ℕ) → k < n
    → slice_index_or (fronts net p m lists e n) k [] ≡ (if nat_eq (net.reader (e + k)) m then take (slice_index p.reads (e + k)) (slice_index_or lists (e + k) []) else [])
unfolding fronts
fronts_at net p m lists e k zero below = absurd (omega (arith, below))
fronts_at net p m lists e zero (suc n) below =
    let z : e ≡ e + 0 = omega arith in
    ap (λ q. if nat_eq (net.reader q) m then take (slice_index p.reads q) (slice_index_or lists q []) else []) z
fronts_at net p m lists e (suc k) (suc n) below =
    let z : e + 1 + k ≡ e + suc k = omega arith in
    fronts_at net p m lists (e + 1) k n (omega (arith, below))
    ∙ ap (λ q. if nat_eq (net.reader q) m then take (slice_index p.reads q) (slice_index_or lists q []) else []) z

pub fronts_long : {S V I : Type 0} (net : Net S V I) (p : Period I) (m : ℕ) (lists : List (List V)) (e n : ℕ) → length (fronts net p m lists e n) ≡ n
unfolding fronts
fronts_long net p m lists e zero = refl
fronts_long net p m lists e (suc n) = ap suc (fronts_long net p m lists (e + 1) n)

module _ (tables : FlatTablesOf) (m : ℕ) (wires : WiresOf) (spans : List PortSpan) (are : AreWiresOf tables m wires) (wired : AreWired wires spans (length tables.edges))
    (lists : List (List Raw)) (long : length lists ≡ length tables.edges) (reads : List ℕ) (rings : List RingOf)
    (fronts_are : (e : ℕ) → e < length tables.edges → reader_at tables.edges e ≡ m → slice_index_or lists e [] ≡ take (slice_index reads e) (ring_at rings e).samples) where
  -- an edge that passes the test is read, through the port at the place
  record Passed (place e : ℕ) : Type 0 where
    is : Reads tables m e
    port_is : place_of_port tables.ports (port_of_edge tables.edges e) ≡ place

  passed : (place e : ℕ) → test_of tables.ports m place (slice_get tables.edges e) ≡ true → Passed place e
  passed place e = go (slice_get tables.edges e) refl
    where
      go : (o : Option EdgeRow) → slice_get tables.edges e ≡ o → test_of tables.ports m place o ≡ true → Passed place e
      go None at test = absurd cc
      go (Some edge) at test =
          let both = and_parts _ _ test in
          record {
            is = record {
              inside = slice_get_within tables.edges e edge at;
              reader = ap (λ (o : Option EdgeRow). reader_of_row o) at ∙ eqb-true _ _ both.0;
            };
            port_is = ap (λ (o : Option EdgeRow). place_of_port tables.ports (port_of_row o)) at ∙ eqb-true _ _ both.1;
          }

  passes : (place e : ℕ) → Reads tables m e → place_of_port tables.ports (port_of_edge tables.edges e) ≡ place → test_of tables.ports m place (slice_get tables.edges e) ≡ true
  passes place e is port = go (some_at tables.edges e is.inside)
    where
      go : (edge : EdgeRow) × (slice_get tables.edges e ≡ Some edge) → test_of tables.ports m place (slice_get tables.edges e) ≡ true
      go (edge, at) =
          let r : nat_eq edge.reader m ≡ true = eq-eqb _ _ (sym (ap (λ (o : Option EdgeRow). reader_of_row o) at) ∙ is.reader) in
          let q : nat_eq (place_of_port tables.ports edge.port) place ≡ true = eq-eqb _ _ (sym (ap (λ (o : Option EdgeRow). place_of_port tables.ports (port_of_row o)) at) ∙ port) in
          ap (test_of tables.ports m place) at ∙ ap (λ b. b && nat_eq (place_of_port tables.ports edge.port) place) r ∙ q

  -- what a port reads is what is read through it
  pub read_is : (place : ℕ) → samples_read wires reads rings place ≡ read_through tables.ports m tables.edges lists place
  read_is place = choose (wire_cases wires.ins place)
    where
      choose : ((j : ℕ) × (w : InWire) × (slice_get wires.ins j ≡ Some w) × (w.port ≡ place) × (wire_of wires.ins place ≡ Some w))
          ⊎ (((j : ℕ) (w : InWire) → slice_get wires.ins j ≡ Some w → w.port ≡ place → ⊥) × (wire_of wires.ins place ≡ None))
          → samples_read wires reads rings place ≡ read_through tables.ports m tables.edges lists place
      choose (inl (j, w, at, port, is)) =
          let reads_it = are.in_edge j w at in
          ap (read_on reads rings) is
          ∙ sym (fronts_are w.edge reads_it.inside reads_it.reader)
          ∙ sym (read_found tables.ports m place tables.edges lists w.edge long (passes place w.edge reads_it (sym (are.in_port j w at) ∙ port)) others)
        where
          others : (d : ℕ) → d < w.edge → test_of tables.ports m place (slice_get tables.edges d) ≡ false
          others d below = go (test_of tables.ports m place (slice_get tables.edges d)) refl
            where
              go : (b : Bool) → test_of tables.ports m place (slice_get tables.edges d) ≡ b → b ≡ false
              go false test = refl
              go true test =
                  let p = passed place d test in
                  let found = are.in_all d p.is in
                  let port_d : found.1.port ≡ place = are.in_port found.0 found.1 found.2 ∙ ap (λ e. place_of_port tables.ports (port_of_edge tables.edges e)) found.3 ∙ p.port_is in
                  let one : found.0 ≡ j = wired.placed.in_port_once found.0 j found.1 w found.2 at (port_d ∙ sym port) in
                  let same : found.1 ≡ w = some_inj found.1 w (sym found.2 ∙ ap (slice_get wires.ins) one ∙ at) in
                  let edge_is : w.edge ≡ d = sym (ap (λ (u : InWire). u.edge) same) ∙ found.3 in
                  absurd (omega (arith, below, edge_is))
      choose (inr (none, is)) =
          ap (read_on reads rings) is ∙ sym (read_none tables.ports m place tables.edges lists never)
        where
          never : (d : ℕ) → test_of tables.ports m place (slice_get tables.edges d) ≡ false
          never d = go (test_of tables.ports m place (slice_get tables.edges d)) refl
            where
              go : (b : Bool) → test_of tables.ports m place (slice_get tables.edges d) ≡ b → b ≡ false
              go false test = refl
              go true test =
                  let p = passed place d test in
                  let found = are.in_all d p.is in
                  absurd (none found.0 found.1 found.2 (are.in_port found.0 found.1 found.2 ∙ ap (λ e. place_of_port tables.ports (port_of_edge tables.edges e)) found.3 ∙ p.port_is))

-- the turn of a module that has fired
abbrev pub turn_of : Flat → ModuleOf → Turn (List ℤ) Raw
turn_of flat y = record {
  state = y.frame.state.cells;
  outputs = λ port k. assigned_sample y.ports.spans y.ports.state.samples (place_of_port flat.tables.ports port) k;
}

module _ (flat : Flat) (c : ClusterOf) (m : ℕ) (x y : ModuleOf) (is : IsModuleOf flat c m x) (new : List RingOf)
    (fired : HasFired flat.checked c.reads c.writes c.rings new x y) (model : PureTree) (checked : IsCheckedOf model flat.checked)
    (info : PeriodInfo) (table_is : info.table ≡ c.table) (lists : List (List Raw)) (long : length lists ≡ length flat.tables.edges)
    (fronts_are : (e : ℕ) → e < length flat.tables.edges → reader_at flat.tables.edges e ≡ m → slice_index_or lists e [] ≡ take (slice_index c.reads e) (ring_at c.rings e).samples) where
  abbrev read_def : ℕ → List Raw
  read_def = read_through flat.tables.ports m flat.tables.edges lists

  abbrev before : (block : ℕ) → List ℕ → List PortSpan → (ℕ → List Raw) → State
  before block rates spans read = state_of (record { cells = x.frame.state.cells; rates = rates }) (ports_before spans (event_count flat.checked block) read)

  before_same : before x.block x.frame.state.rates x.ports.spans (samples_read x.wires c.reads c.rings)
      ≡ before (block_at flat.tables.modules m) (module_rates info m) (port_spans_of flat.checked (block_at flat.tables.modules m)) read_def
  before_same =
      ap (λ l. with_samples x.block x.frame.state.rates x.ports.spans l)
      (same_samples _ _ 0 x.ports.spans (read_is flat.tables m x.wires x.ports.spans is.wires_are is.wired lists long c.reads c.rings fronts_are))
      ∙ ap (λ r. before x.block r x.ports.spans read_def) (is.rates ∙ ap (λ t. rates_in (attrs_at t m)) (sym table_is))
      ∙ ap (λ s. before x.block (module_rates info m) s read_def) is.made.ports_are
      ∙ ap (λ b. before b (module_rates info m) (port_spans_of flat.checked b) read_def) is.block_is
    where
      with_samples : (block : ℕ) → List ℕ → List PortSpan → List ℤ → State
      with_samples block rates spans samples = state_of (record { cells = x.frame.state.cells; rates = rates })
          (record (ports_before spans (event_count flat.checked block) read_def) { samples = samples })

  done_is : done_by model flat m body.Processing x.frame.state.cells (module_rates info m) read_def ≡ state_of y.frame.state y.ports.state
  unfolding done_by
  done_is =
      let block = block_there _ (blocks_of model.globals) flat.checked.blocks.items x.block checked is.made.block in
      ap (λ b. after_part model b body.Processing (before (block_at flat.tables.modules m) (module_rates info m) (port_spans_of flat.checked (block_at flat.tables.modules m)) read_def))
      (ap (slice_get (blocks_of model.globals)) (sym is.block_is) ∙ block.1)
      ∙ ap (after_body (scope_in model block.0) (body_of block.0 body.Processing)) (sym before_same)
      ∙ sym (fired.acted.after model block.0 checked block.1)

  -- the activation of the streams is what was done
  pub turn_is : module_acted model flat m (actor_kind flat.tables m) info x.frame.state.cells lists ≡ turn_of flat y
  turn_is =
      ap (λ k. module_acted model flat m k info x.frame.state.cells lists) is.actor_is.kind_is
      ∙ ap (written_by flat m) done_is
      ∙ ap (λ (s : List PortSpan). made s) (ap (port_spans_of flat.checked) (sym is.block_is) ∙ sym fired.made.ports_are)
    where
      made : List PortSpan → Turn (List ℤ) Raw
      made s = record {
        state = y.frame.state.cells;
        outputs = λ port k. assigned_sample s y.ports.state.samples (place_of_port flat.tables.ports port) k;
      }
