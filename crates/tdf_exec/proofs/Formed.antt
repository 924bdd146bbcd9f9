-- What is kept for the actors of a cluster at its start is their own.
use Rattle.std.proofs.Common.{◌≡◌, ◌∙◌, ◌≢◌, ℕ, zero, suc, ◌+◌, ◌<◌, ◌≤◌, Bool, true, false, if◌then◌else◌, nat_eq, List, [], ◌∷◌, Option, Some, None, option_map, length, map, refl, sym, ap, subst, inl, inr, ◌⊎◌, arith}
use Rattle.std.proofs.lemmas.Bool.{and_parts, cases_eq, eq-eqb, eqb-true, ne_eqb}
use Rattle.std.proofs.lemmas.Option.{slice_get-map, slice_get_within}
use Rattle.std.specs.List.{cons_option, enumerate_from}
use Rattle.std.specs.Prelude.{filter_map, slice_get, slice_index}
use Rattle.tdf_bind_tables.specs.FlatTables.{FlatTablesOf}
use Rattle.tdf_dynamic_plans.specs.Attributes.{AttrsOf, attrs_at, clusters_of, rates_in}
use Rattle.tdf_dynamic_first.specs.First.{IsFirstPlan}
use Rattle.tdf_dynamic_plans.specs.Rates.{net_of, port_rate, rate_by}
use Rattle.tdf_dynamic_first.specs.Text.{attrs_if, first_attrs, first_table}
use Rattle.tdf_dynamic_first.specs.declared.first.First.{First}
use Rattle.tdf_exec.proofs.Ends.{HasPort, below_modules, module_reads, module_writes}
use Rattle.tdf_exec.proofs.Planned.{start_of}
use Rattle.tdf_exec_parts.proofs.Api.{edge_reads, edge_writes, reads_at, writes_at}
use Rattle.tdf_exec.proofs.Rows.{all_at}
use Rattle.tdf_exec.specs.Cluster.{ClusterOf}
use Rattle.tdf_exec.specs.Made.{HasRows, IsInSpans, IsModuleOf}
use Rattle.tdf_exec_layout.specs.Samples.{edge_format}
use Rattle.tdf_exec.specs.Runners.{ModuleOf}
use Rattle.tdf_exec.specs.Traced.{rate_of_row, traced_port}
use Rattle.tdf_exec_layout.specs.Traced.{is_traced, number_if_traced, traced_ports}
use Rattle.tdf_exec.specs.declared.runners.Runner.{Runner}
use Rattle.tdf_exec.specs.declared.runners.TracedPort.{TracedPort}
use Rattle.tdf_exec.specs.machine.Tracing.{AreNumbered}
use Rattle.tdf_exec.specs.machine.Laid.{IsLaid}
use Rattle.tdf_exec.specs.machine.Starting.{HoldsText, IsBegun}
use Rattle.tdf_expr.specs.Made.{port_spans_of, start_rates}
use Rattle.tdf_expr.specs.declared.spans.PortSpan.{PortSpan}
use Rattle.tdf_expr_state.specs.State.{FrameState}
use Rattle.tdf_exec_firing.specs.Wires.{AreWired, WiresOf}
use Rattle.tdf_exec_firing.specs.declared.wires.InWire.{InWire}
use Rattle.tdf_exec_firing.specs.declared.wires.OutWire.{OutWire}
use Rattle.tdf_bind.specs.declared.model.Flat.{Flat}
use Rattle.tdf_streams.proofs.Api.{get_inside, none_some, some_same}
use Rattle.tdf_bind_invariants.specs.Formats.{IsOwnPort}
use Rattle.tdf_graph.specs.declared.actors.Actor.TheVariants as actor
use Rattle.tdf_exec_layout.specs.Wiring.{AreWiresOf, port_of_row}
use Rattle.tdf_bind_invariants.specs.Limits.{limits_in}
use Rattle.tdf_expr_semantics.specs.Fits.{RatesFit}
use Rattle.tdf_rings.specs.Rings.{RingOf}
use Rattle.tdf_streams.specs.Periods.{AreAttributes, HasAllowedRates, read_rates, write_rates}
use Rattle.tdf_streams.specs.Places.{actor_kind, block_at, block_of_row, driver_or, module_of_row, place_of_port, reader_of_row, source_of_row, writer_of_row}
use Rattle.tdf_bind_connections.specs.declared.modules.ModuleRow.{ModuleRow}
use Rattle.tdf_bind_connections.specs.declared.modules.PortRow.{PortRow}

-- the attributes of a module in the table of the text
module _ (flat : Flat) (cluster : ℕ) where
  abbrev listed : ℕ → List ModuleRow → List AttrsOf
  listed k rows = filter_map (λ row. attrs_if flat cluster row.0 row.1) (enumerate_from k rows)

  found : (k : ℕ) (rows : List ModuleRow) (j : ℕ) (row : ModuleRow) → slice_get rows j ≡ Some row → slice_index (clusters_of flat.tables) (k + j) ≡ cluster
      → attrs_at (listed k rows) (k + j) ≡ Some (first_attrs flat (k + j) row)
  found k [] j row at own = none_some row at
  found k (x ∷ rows) zero row at own =
      let z : k ≡ k + 0 = omega arith in
      let is : x ≡ row = some_same x row at in
      subst (λ n. attrs_at (listed k (x ∷ rows)) n ≡ Some (first_attrs flat n row)) z
      (rw (eq-eqb (slice_index (clusters_of flat.tables) k) cluster (ap (slice_index (clusters_of flat.tables)) z ∙ own), eq-eqb k k refl) (ap (λ r. Some (first_attrs flat k r)) is))
  found k (x ∷ rows) (suc j) row at own =
      let n : k + 1 + j ≡ k + suc j = omega arith in
      go (cases_eq (slice_index (clusters_of flat.tables) k) cluster)
      (subst (λ m. attrs_at (listed (k + 1) rows) m ≡ Some (first_attrs flat m row)) n (found (k + 1) rows j row at (ap (slice_index (clusters_of flat.tables)) n ∙ own)))
    where
      go : (slice_index (clusters_of flat.tables) k ≡ cluster) ⊎ (slice_index (clusters_of flat.tables) k ≢ cluster)
          → attrs_at (listed (k + 1) rows) (k + suc j) ≡ Some (first_attrs flat (k + suc j) row)
          → attrs_at (listed k (x ∷ rows)) (k + suc j) ≡ Some (first_attrs flat (k + suc j) row)
      go (inl here) rest = rw (eq-eqb (slice_index (clusters_of flat.tables) k) cluster here, ne_eqb k (k + suc j) (λ e. absurd (omega (arith, e)))) rest
      go (inr apart) rest = rw (ne_eqb (slice_index (clusters_of flat.tables) k) cluster apart) rest

  first_found : (m : ℕ) (row : ModuleRow) → slice_get flat.tables.modules m ≡ Some row → slice_index (clusters_of flat.tables) m ≡ cluster
      → attrs_at (first_table flat cluster) m ≡ Some (first_attrs flat m row)
  unfolding first_table
  first_found m row at own =
      let z : 0 + m ≡ m = omega arith in
      subst (λ n. attrs_at (listed 0 flat.tables.modules) n ≡ Some (first_attrs flat n row)) z (found 0 flat.tables.modules m row at (ap (slice_index (clusters_of flat.tables)) z ∙ own))

  -- their numbers rise
  listed_from : (k : ℕ) (rows : List ModuleRow) (i : ℕ) (a : AttrsOf) → slice_get (listed k rows) i ≡ Some a → k ≤ a.number
  listed_from k [] i a at = none_some a at
  listed_from k (x ∷ rows) i a at = go (nat_eq (slice_index (clusters_of flat.tables) k) cluster) i at (λ j there. listed_from (k + 1) rows j a there)
    where
      go : (b : Bool) (i : ℕ) → slice_get (cons_option (if b then Some (first_attrs flat k x) else None) (listed (k + 1) rows)) i ≡ Some a
          → ((j : ℕ) → slice_get (listed (k + 1) rows) j ≡ Some a → k + 1 ≤ a.number) → k ≤ a.number
      go false i at rest = let r = rest i at in omega (arith, r)
      go true zero at rest = let n : k ≡ a.number = ap (λ (y : AttrsOf). y.number) (some_same (first_attrs flat k x) a at) in omega (arith, n)
      go true (suc i) at rest = let r = rest i at in omega (arith, r)

  pub once_in : (k : ℕ) (rows : List ModuleRow) (i j : ℕ) (a b : AttrsOf) → slice_get (listed k rows) i ≡ Some a → slice_get (listed k rows) j ≡ Some b → a.number ≡ b.number → i ≡ j
  once_in k [] i j a b at there same = none_some a at
  once_in k (x ∷ rows) i j a b at there same = go (nat_eq (slice_index (clusters_of flat.tables) k) cluster) i j at there (λ n m one other. once_in (k + 1) rows n m a b one other same)
    where
      head : (n : AttrsOf) → Some (first_attrs flat k x) ≡ Some n → n.number ≡ k
      head n is = ap (λ (y : AttrsOf). y.number) (sym (some_same (first_attrs flat k x) n is))

      go : (c : Bool) (i j : ℕ) → slice_get (cons_option (if c then Some (first_attrs flat k x) else None) (listed (k + 1) rows)) i ≡ Some a
          → slice_get (cons_option (if c then Some (first_attrs flat k x) else None) (listed (k + 1) rows)) j ≡ Some b
          → ((n m : ℕ) → slice_get (listed (k + 1) rows) n ≡ Some a → slice_get (listed (k + 1) rows) m ≡ Some b → n ≡ m) → i ≡ j
      go false i j at there rest = rest i j at there
      go true zero zero at there rest = refl
      go true zero (suc j) at there rest = let r = listed_from (k + 1) rows j b there in let n = head a at in absurd (omega (arith, r, n, same))
      go true (suc i) zero at there rest = let r = listed_from (k + 1) rows i a at in let n = head b there in absurd (omega (arith, r, n, same))
      go true (suc i) (suc j) at there rest = ap suc (rest i j at there)

-- the number of a traced port of a module
pub record IsTracedOf (flat : Flat) (m n : ℕ) : Type 0 where
  pub port : PortRow
  pub at : slice_get flat.tables.ports n ≡ Some port
  pub own : port.«module» ≡ m

module _ (flat : Flat) (m : ℕ) where
  abbrev numbers : ℕ → List PortRow → List ℕ
  numbers k ports = filter_map (λ port. number_if_traced flat.tables m port.0 port.1) (enumerate_from k ports)

  traced_is : (k : ℕ) (ports : List PortRow) → ((j : ℕ) → slice_get flat.tables.ports (k + j) ≡ slice_get ports j) → (i n : ℕ) → slice_get (numbers k ports) i ≡ Some n → IsTracedOf flat m n
  traced_is k [] same i n at = none_some n at
  traced_is k (x ∷ ports) same i n at = go (is_traced flat.tables m x) refl i at
      (λ later there. traced_is (k + 1) ports (λ j. let z : k + 1 + j ≡ k + suc j = omega arith in ap (slice_get flat.tables.ports) z ∙ same (suc j)) later n there)
    where
      go : (b : Bool) → is_traced flat.tables m x ≡ b → (i : ℕ) → slice_get (cons_option (if b then Some k else None) (numbers (k + 1) ports)) i ≡ Some n
          → ((j : ℕ) → slice_get (numbers (k + 1) ports) j ≡ Some n → IsTracedOf flat m n) → IsTracedOf flat m n
      go false is i at rest = rest i at
      go true is (suc i) at rest = rest i at
      go true is zero at rest = record {
        port = x;
        at = ap (slice_get flat.tables.ports) (sym (some_same k n at)) ∙ (let z : k ≡ k + 0 = omega arith in ap (slice_get flat.tables.ports) z) ∙ same 0;
        own = eqb-true x.«module» m ((and_parts (nat_eq x.«module» m) _ is).0);
      }

-- the traced ports of a module have numbers of ports
pub traced_numbered : (flat : Flat) (m : ℕ) (port : ℕ → TracedPort) → ((n : ℕ) → (port n).number ≡ n) → (list : List TracedPort) → list ≡ map port (traced_ports flat.tables m)
    → AreNumbered flat.tables.ports list
traced_numbered flat m port number list are j t at = by_number (slice_get (traced_ports flat.tables m) j) refl
    (sym (slice_get-map port (traced_ports flat.tables m) j) ∙ ap (λ (l : List TracedPort). slice_get l j) (sym are) ∙ at)
  where
    by_number : (o : Option ℕ) → slice_get (traced_ports flat.tables m) j ≡ o → option_map port o ≡ Some t → t.number < length flat.tables.ports
    by_number None there given = none_some t given
    by_number (Some n) there given =
        let h : IsTracedOf flat m n = traced_is flat m 0 flat.tables.ports (λ k. let z : 0 + k ≡ k = omega arith in ap (slice_get flat.tables.ports) z) j n there in
        subst (λ (u : TracedPort). u.number < length flat.tables.ports) (some_same (port n) t given)
        (subst (λ k. k < length flat.tables.ports) (sym (number n)) (slice_get_within flat.tables.ports n h.port h.at))

-- the row of a module in a table
pub record FoundAt (table : List AttrsOf) (number : ℕ) : Type 0 where
  pub attrs : AttrsOf
  pub found : attrs_at table number ≡ Some attrs
  pub place : ℕ
  pub at : slice_get table place ≡ Some attrs
  pub own : attrs.number ≡ number

find_row : (table : List AttrsOf) (i : ℕ) (a : AttrsOf) (number : ℕ) → slice_get table i ≡ Some a → a.number ≡ number → FoundAt table number
find_row [] i a number at is = none_some a at
find_row (x ∷ table) zero a number at is = record {
  attrs = x;
  found = ap (λ b. if b then Some x else attrs_at table number) (eq-eqb x.number number (ap (λ (y : AttrsOf). y.number) (some_same x a at) ∙ is));
  place = 0;
  at = refl;
  own = ap (λ (y : AttrsOf). y.number) (some_same x a at) ∙ is;
}
find_row (x ∷ table) (suc i) a number at is = go (cases_eq x.number number) (find_row table i a number at is)
  where
    go : (x.number ≡ number) ⊎ (x.number ≢ number) → FoundAt table number → FoundAt (x ∷ table) number
    go (inl same) rest = record {
      attrs = x;
      found = ap (λ b. if b then Some x else attrs_at table number) (eq-eqb x.number number same);
      place = 0;
      at = refl;
      own = same;
    }
    go (inr apart) rest = record {
      attrs = rest.attrs;
      found = ap (λ b. if b then Some x else attrs_at table number) (ne_eqb x.number number apart) ∙ rest.found;
      place = suc rest.place;
      at = rest.at;
      own = rest.own;
    }

attrs_place : (table : List AttrsOf) (number : ℕ) (a : AttrsOf) → attrs_at table number ≡ Some a → (i : ℕ) × (slice_get table i ≡ Some a) × (a.number ≡ number)
attrs_place [] number a is = none_some a is
attrs_place (x ∷ table) number a is = go (cases_eq x.number number) (attrs_place table number a)
  where
    go : (x.number ≡ number) ⊎ (x.number ≢ number) → (attrs_at table number ≡ Some a → (i : ℕ) × (slice_get table i ≡ Some a) × (a.number ≡ number)) → (i : ℕ) × (slice_get (x ∷ table) i ≡ Some a) × (a.number ≡ number)
    go (inl same) rest =
        let one : x ≡ a = some_same x a (sym (ap (λ b. if b then Some x else attrs_at table number) (eq-eqb x.number number same)) ∙ is) in
        (0, ap Some one, ap (λ (y : AttrsOf). y.number) (sym one) ∙ same)
    go (inr apart) rest =
        let found = rest (sym (ap (λ b. if b then Some x else attrs_at table number) (ne_eqb x.number number apart)) ∙ is) in
        (suc found.0, found.1, found.2)

-- each module of the cluster has its row in the table of the text
pub text_rows : (flat : Flat) (cluster : ℕ) → HasRows flat.tables cluster (first_table flat cluster)
unfolding first_table
text_rows flat cluster = record {
  each = λ m below own. (
      let row = get_inside flat.tables.modules m below in
      let p = attrs_place (first_table flat cluster) m (first_attrs flat m row.0) (first_found flat cluster m row.0 row.1 own) in
      (p.0, first_attrs flat m row.0, p.1, p.2));
  once = λ i j one other at there same. once_in flat cluster 0 flat.tables.modules i j one other at there same;
}

-- so it has in each table with rows of the same modules
pub numbered : (one other : List AttrsOf) → map (λ (a : AttrsOf). a.number) other ≡ map (λ (a : AttrsOf). a.number) one → (i : ℕ) (a : AttrsOf) → slice_get one i ≡ Some a
    → (b : AttrsOf) × (slice_get other i ≡ Some b) × (b.number ≡ a.number)
numbered one other same i a at = go (slice_get other i) refl
    (sym (slice_get-map (λ (x : AttrsOf). x.number) other i) ∙ ap (λ l. slice_get l i) same ∙ slice_get-map (λ (x : AttrsOf). x.number) one i ∙ ap (option_map (λ (x : AttrsOf). x.number)) at)
  where
    go : (o : Option AttrsOf) → slice_get other i ≡ o → option_map (λ (x : AttrsOf). x.number) o ≡ Some a.number → (b : AttrsOf) × (slice_get other i ≡ Some b) × (b.number ≡ a.number)
    go None there e = none_some a.number e
    go (Some b) there e = (b, there, some_same b.number a.number e)

pub rows_by_numbers : (tables : FlatTablesOf) (cluster : ℕ) (one other : List AttrsOf) → map (λ (a : AttrsOf). a.number) other ≡ map (λ (a : AttrsOf). a.number) one → HasRows tables cluster one → HasRows tables cluster other
rows_by_numbers tables cluster one other same rows = record {
  each = λ m below own. (let r = rows.each m below own in let s = numbered one other same r.0 r.1 r.2 in (r.0, s.0, s.1, s.2 ∙ r.3));
  once = λ i j a b at there eq. (
      let x = numbered other one (sym same) i a at in let y = numbered other one (sym same) j b there in
      rows.once i j x.0 y.0 x.1 y.1 (x.2 ∙ eq ∙ sym y.2));
}

-- in a table with one row a module, each row is the one that is found
pub row_found : (tables : FlatTablesOf) (cluster : ℕ) (table : List AttrsOf) → HasRows tables cluster table → (i : ℕ) (a : AttrsOf) → slice_get table i ≡ Some a → attrs_at table a.number ≡ Some a
row_found tables cluster table rows i a at =
    let f : FoundAt table a.number = find_row table i a a.number at refl in
    let place : f.place ≡ i = rows.once f.place i f.attrs a f.at at f.own in
    f.found ∙ ap Some (some_same f.attrs a (sym f.at ∙ ap (slice_get table) place ∙ at))

-- the row of a module of the cluster
pub module_row : (tables : FlatTablesOf) (cluster : ℕ) (table : List AttrsOf) → HasRows tables cluster table → (m : ℕ) → m < length tables.modules → slice_index (clusters_of tables) m ≡ cluster
    → FoundAt table m
module_row tables cluster table rows m below own = let r = rows.each m below own in find_row table r.0 r.1 m r.2 r.3

-- no port of the cluster has a rate above its greatest
abbrev pub PortsFit : (flat : Flat) → (cluster : ℕ) → IsLaid flat → List AttrsOf → Type 0
PortsFit flat cluster laid table = (number : ℕ) (port : PortRow) (at : slice_get flat.tables.ports number ≡ Some port)
    → slice_index (clusters_of flat.tables) port.«module» ≡ cluster → port_rate table port ≤ (laid.ports number port at).span.count

-- so it is where all rates are within their limits
pub ports_fit : (flat : Flat) (cluster : ℕ) (laid : IsLaid flat) (table : List AttrsOf) → AreAttributes flat cluster table → HasRows flat.tables cluster table → PortsFit flat cluster laid table
ports_fit flat cluster laid table attributes rows number port at own =
    let h : IsOwnPort flat number port = laid.ports number port at in
    let f : FoundAt table port.«module» = module_row flat.tables cluster table rows port.«module» (slice_get_within flat.tables.modules port.«module» h.row h.module_is) own in
    let allowed : HasAllowedRates flat f.attrs = all_at (HasAllowedRates flat) table f.place f.attrs attributes.allowed f.at in
    subst (λ r. r ≤ h.span.count) (sym (ap (rate_by port) f.found))
    (h.wide f.attrs.rates (subst (λ o. RatesFit (limits_in flat.checked o) f.attrs.rates) (ap (slice_get flat.tables.modules) f.own ∙ h.module_is) allowed))

module _ (flat : Flat) (cluster : ℕ) (table : List AttrsOf) (laid : IsLaid flat) (port_fits : PortsFit flat cluster laid table) where
  -- the span of a port of a module
  span_there : (number m : ℕ) (port : PortRow) (at : slice_get flat.tables.ports number ≡ Some port) → port.«module» ≡ m
      → slice_get (port_spans_of flat.checked (block_at flat.tables.modules m)) (place_of_port flat.tables.ports number) ≡ Some (laid.ports number port at).span
  span_there number m port at own =
      let h : IsOwnPort flat number port = laid.ports number port at in
      ap (λ k. slice_get (port_spans_of flat.checked (block_at flat.tables.modules k)) (place_of_port flat.tables.ports number)) (sym own)
      ∙ ap (λ o. slice_get (port_spans_of flat.checked (block_of_row o)) (place_of_port flat.tables.ports number)) h.module_is ∙ h.at

  -- a module with its wires
  module _ (m : ℕ) (kind : actor_kind flat.tables m ≡ Some actor.Module) (own : slice_index (clusters_of flat.tables) m ≡ cluster) (w : WiresOf) (are : AreWiresOf flat.tables m w) where
    abbrev pub spans : List PortSpan
    spans = port_spans_of flat.checked (block_at flat.tables.modules m)

    pub record FitsWire (e rate : ℕ) (p : PortSpan) : Type 0 where
      pub small : rate ≤ p.count
      pub format : edge_format flat.tables e ≡ Some p.format

    pub in_fits : (j : ℕ) (x : InWire) (p : PortSpan) → slice_get w.ins j ≡ Some x → slice_get spans x.port ≡ Some p
        → FitsWire x.edge (slice_index (read_rates (net_of flat.tables table)) x.edge) p
    in_fits j x p at there =
        let reads = are.in_edge j x at in
        let row = get_inside flat.tables.edges x.edge reads.inside in
        let reader : row.0.reader ≡ m = sym (ap reader_of_row row.1) ∙ reads.reader in
        let port : HasPort flat laid table row.0.port row.0.reader (edge_reads flat.tables table row.0) =
        module_reads flat laid table row.0 (laid.rows x.edge row.0 row.1) (ap (actor_kind flat.tables) reader ∙ kind) in
        let place : x.port ≡ place_of_port flat.tables.ports row.0.port = are.in_port j x at ∙ ap (λ o. place_of_port flat.tables.ports (port_of_row o)) row.1 in
        let mine : port.port.«module» ≡ m = port.own ∙ reader in
        let span : (laid.ports row.0.port port.port port.at).span ≡ p = some_same _ p (sym (span_there row.0.port m port.port port.at mine) ∙ ap (slice_get spans) (sym place) ∙ there) in
        let fits = port_fits row.0.port port.port port.at (ap (slice_index (clusters_of flat.tables)) mine ∙ own) in
        let h = laid.formats x.edge row.0 row.1 in
        record {
          small = subst (λ r. r ≤ p.count) (sym (reads_at flat.tables table x.edge row.0 row.1 ∙ port.rate_is)) (subst (λ (s : PortSpan). port_rate table port.port ≤ s.count) span fits);
          format = h.format_is ∙ ap Some (sym (h.read p (ap (λ k. slice_get (port_spans_of flat.checked (block_at flat.tables.modules k)) (place_of_port flat.tables.ports row.0.port))
              (ap module_of_row port.at ∙ mine) ∙ ap (slice_get spans) (sym place) ∙ there)));
        }

    pub out_fits : (j : ℕ) (x : OutWire) (p : PortSpan) → slice_get w.outs j ≡ Some x → slice_get spans x.port ≡ Some p
        → FitsWire x.edge (slice_index (write_rates (net_of flat.tables table)) x.edge) p
    out_fits j x p at there =
        let writes = are.out_edge j x at in
        let row = get_inside flat.tables.edges x.edge writes.inside in
        let writer : row.0.writer ≡ m = sym (ap writer_of_row row.1) ∙ writes.writer in
        let port : HasPort flat laid table (driver_or row.0.port row.0.driver) row.0.writer (edge_writes flat.tables table row.0) =
        module_writes flat laid table row.0 (laid.rows x.edge row.0 row.1) (ap (actor_kind flat.tables) writer ∙ kind) in
        let place : x.port ≡ place_of_port flat.tables.ports (driver_or row.0.port row.0.driver) = are.out_port j x at ∙ ap (λ o. place_of_port flat.tables.ports (source_of_row o)) row.1 in
        let mine : port.port.«module» ≡ m = port.own ∙ writer in
        let span : (laid.ports (driver_or row.0.port row.0.driver) port.port port.at).span ≡ p =
        some_same _ p (sym (span_there (driver_or row.0.port row.0.driver) m port.port port.at mine) ∙ ap (slice_get spans) (sym place) ∙ there) in
        let fits = port_fits (driver_or row.0.port row.0.driver) port.port port.at (ap (slice_index (clusters_of flat.tables)) mine ∙ own) in
        let h = laid.formats x.edge row.0 row.1 in
        record {
          small = subst (λ r. r ≤ p.count) (sym (writes_at flat.tables table x.edge row.0 row.1 ∙ port.rate_is)) (subst (λ (s : PortSpan). port_rate table port.port ≤ s.count) span fits);
          format = h.format_is ∙ ap Some (sym (h.written p (ap (λ k. slice_get (port_spans_of flat.checked (block_at flat.tables.modules k)) (place_of_port flat.tables.ports (driver_or row.0.port row.0.driver)))
              (ap module_of_row port.at ∙ mine) ∙ ap (slice_get spans) (sym place) ∙ there)));
        }

    pub traced_fits : (list : List TracedPort) → list ≡ map (traced_port flat.tables table) (traced_ports flat.tables m) → (j : ℕ) (t : TracedPort) → slice_get list j ≡ Some t → IsInSpans spans t
    traced_fits list are_traced j t at = by_number (slice_get (traced_ports flat.tables m) j) refl
        (sym (slice_get-map (traced_port flat.tables table) (traced_ports flat.tables m) j) ∙ ap (λ (l : List TracedPort). slice_get l j) (sym are_traced) ∙ at)
      where
        by_number : (o : Option ℕ) → slice_get (traced_ports flat.tables m) j ≡ o → option_map (traced_port flat.tables table) o ≡ Some t → IsInSpans spans t
        by_number None there given = none_some t given
        by_number (Some n) there given =
            let h : IsTracedOf flat m n = traced_is flat m 0 flat.tables.ports (λ k. let z : 0 + k ≡ k = omega arith in ap (slice_get flat.tables.ports) z) j n there in
            subst (IsInSpans spans) (some_same (traced_port flat.tables table n) t given) (record {
              span = (laid.ports n h.port h.at).span;
              there = span_there n m h.port h.at h.own;
              rate = subst (λ r. r ≤ (laid.ports n h.port h.at).span.count) (sym (ap (rate_of_row table) h.at))
                  (port_fits n h.port h.at (ap (slice_index (clusters_of flat.tables)) h.own ∙ own));
            })

module _ (flat : Flat) (cluster : ℕ) (first : First) (laid : IsLaid flat) (is : IsFirstPlan flat cluster first) where
  pub attrs_found : (m : ℕ) (row : ModuleRow) → slice_get flat.tables.modules m ≡ Some row → slice_index (clusters_of flat.tables) m ≡ cluster
      → attrs_at first.attrs.rows m ≡ Some (first_attrs flat m row)
  attrs_found m row at own = ap (λ (t : List AttrsOf). attrs_at t m) is.attrs_are ∙ first_found flat cluster m row at own

  -- each module has its row in the first table
  pub first_rows : HasRows flat.tables cluster first.attrs.rows
  first_rows = subst (HasRows flat.tables cluster) (sym is.attrs_are) (text_rows flat cluster)

  -- the rates that a module of the cluster starts with
  pub first_rates_held : (m : ℕ) (s : FrameState) → m < length flat.tables.modules → slice_index (clusters_of flat.tables) m ≡ cluster → HoldsText flat true m s → s.rates ≡ rates_in (attrs_at first.attrs.rows m)
  first_rates_held m s below own held =
      let row = get_inside flat.tables.modules m below in
      held.rates ∙ ap (start_rates flat.checked) (ap block_of_row row.1) ∙ sym (ap rates_in (attrs_found m row.0 row.1 own))

-- a module with its wires, whose instance holds what is asked for
module _ (flat : Flat) (cluster : ℕ) (first : First) (laid : IsLaid flat) (fits : PortsFit flat cluster laid first.attrs.rows) (Holds : ℕ → FrameState → Type 0)
    (rates_held : (m : ℕ) (s : FrameState) → m < length flat.tables.modules → slice_index (clusters_of flat.tables) m ≡ cluster → Holds m s → s.rates ≡ rates_in (attrs_at first.attrs.rows m)) where
  module _ (m : ℕ) (kind : actor_kind flat.tables m ≡ Some actor.Module) (own : slice_index (clusters_of flat.tables) m ≡ cluster) (w : WiresOf) (are : AreWiresOf flat.tables m w) where
    module _ (place : ℕ) (rings : List RingOf) (runners : List Runner) (positions : List ℕ) (x : ModuleOf) (begun : IsBegun flat Holds m w x) where
      abbrev started : ClusterOf
      started = start_of cluster first place (read_rates (net_of flat.tables first.attrs.rows)) (write_rates (net_of flat.tables first.attrs.rows)) rings runners positions

      spans_are : x.ports.spans ≡ port_spans_of flat.checked (block_at flat.tables.modules m)
      spans_are = begun.made.ports_are ∙ ap (port_spans_of flat.checked) begun.block_is

      pub is_module : (list : List TracedPort) → list ≡ map (traced_port flat.tables first.attrs.rows) (traced_ports flat.tables m) → IsModuleOf flat started m (record x { traced = list })
      is_module list traced = record {
        actor_is = record { kind_is = kind; inside = own };
        block_is = begun.block_is;
        made = begun.made;
        rates = rates_held m x.frame.state (below_modules flat laid m kind) own begun.held;
        wires_are = subst (AreWiresOf flat.tables m) (sym begun.wires_are) are;
        wired = subst (λ v. AreWired v x.ports.spans (length flat.tables.edges)) (sym begun.wires_are)
            (subst (λ s. AreWired w s (length flat.tables.edges)) (sym spans_are) (laid.wired m w (below_modules flat laid m kind) are));
        read_rate = λ j v p at there. (in_fits flat cluster first.attrs.rows laid fits m kind own w are j v p (ins_at j v at) (span_at v.port p there)).small;
        write_rate = λ j v p at there. (out_fits flat cluster first.attrs.rows laid fits m kind own w are j v p (outs_at j v at) (span_at v.port p there)).small;
        read_format = λ j v p at there. (in_fits flat cluster first.attrs.rows laid fits m kind own w are j v p (ins_at j v at) (span_at v.port p there)).format;
        write_format = λ j v p at there. (out_fits flat cluster first.attrs.rows laid fits m kind own w are j v p (outs_at j v at) (span_at v.port p there)).format;
        zeros = begun.zeros (read_rates (net_of flat.tables first.attrs.rows));
        traced = traced;
        traced_rate = λ j t at. subst (λ s. IsInSpans s t) (sym spans_are) (traced_fits flat cluster first.attrs.rows laid fits m kind own w are list traced j t at);
      }
        where
          ins_at : (j : ℕ) (v : InWire) → slice_get x.wires.ins j ≡ Some v → slice_get w.ins j ≡ Some v
          ins_at j v at = ap (λ (l : WiresOf). slice_get l.ins j) (sym begun.wires_are) ∙ at

          outs_at : (j : ℕ) (v : OutWire) → slice_get x.wires.outs j ≡ Some v → slice_get w.outs j ≡ Some v
          outs_at j v at = ap (λ (l : WiresOf). slice_get l.outs j) (sym begun.wires_are) ∙ at

          span_at : (n : ℕ) (p : PortSpan) → slice_get x.ports.spans n ≡ Some p → slice_get (port_spans_of flat.checked (block_at flat.tables.modules m)) n ≡ Some p
          span_at n p at = ap (λ l. slice_get l n) (sym spans_are) ∙ at
