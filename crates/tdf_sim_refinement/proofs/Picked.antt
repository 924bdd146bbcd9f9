-- What an activation traces of one signal.
use Rattle.std.proofs.Common.{◌≡◌, ◌≢◌, ◌∙◌, ℕ, zero, suc, ◌+◌, Bool, true, false, ◌&&◌, List, [], ◌∷◌, ◌++◌, Option, Some, None, map, nat_eq, if◌then◌else◌, refl, sym, ap, arith, append-nil}
use Rattle.std.proofs.lemmas.Bool.{eq-eqb, eqb-true, ne_eqb}
use Rattle.std.proofs.lemmas.List.Elements.{filter_map-append}
use Rattle.std.specs.List.{cons_option, enumerate_from, filter_map, flat_map, list_any, range_with_len}
use Rattle.std.specs.Prelude.{slice_get, ℤ}
use Rattle.tdf_bind_tables.specs.FlatTables.{FlatTablesOf}
use Rattle.tdf_convert.specs.declared.outputs.Traced.{Traced}
use Rattle.tdf_dynamic_plans.specs.Attributes.{AttrsOf}
use Rattle.tdf_dynamic_plans.specs.Rates.{port_rate}
use Rattle.tdf_exec.specs.Gained.{traced_by}
use Rattle.tdf_exec.specs.Traced.{rate_of_row, signal_of_port_row, traced_sample, turn_samples}
use Rattle.tdf_fixed.specs.declared.raw.Raw.{Raw}
use Rattle.tdf_bind.specs.Flat.{IsFlatOf}
use Rattle.tdf_bind.specs.declared.model.Flat.{Flat}
use Rattle.tdf_streams.proofs.Api.{none_some, some_same}
use Rattle.tdf_streams.specs.Net.{Turn}
use Rattle.tdf_bind_invariants.specs.Formats.{IsSoundModel}
use Rattle.tdf_graph.specs.declared.actors.Actor.{Actor}
use Rattle.tdf_graph.specs.declared.actors.Actor.TheVariants as actor
use Rattle.tdf_exec.specs.Below.{SignalsHaveOnePort, is_out, is_trace_of, is_traced, number_if_traced}
use Rattle.tdf_sim_refinement.specs.Samples.{IsTracedPort, signal_samples, value_if}
use Rattle.tdf_lang_tree.specs.Pure.{PureTree}
use Rattle.tdf_lang_tree.specs.declared.blocks.PortKind.{PortKind}
use Rattle.tdf_lang_tree.specs.declared.blocks.PortKind.TheVariants.{In, Out, DeIn, DeOut}
use Rattle.tdf_bind_connections.specs.declared.modules.PortRow.{PortRow}

pub samples_append : (signal : ℕ) (a b : List Traced) → signal_samples signal (a ++ b) ≡ signal_samples signal a ++ signal_samples signal b
unfolding signal_samples
samples_append signal a b = filter_map-append (value_if signal) a b

pub samples_none : (signal : ℕ) → signal_samples signal [] ≡ []
unfolding signal_samples
samples_none signal = refl

-- the samples of one port
own_samples : (signal : ℕ) (f : ℕ → Raw) (ks : List ℕ) → signal_samples signal (map (λ k. traced_sample signal (f k)) ks) ≡ map f ks
unfolding signal_samples
own_samples signal f [] = refl
own_samples signal f (k ∷ ks) =
    ap (λ (b : Bool). cons_option (if b then Some (f k) else None) (filter_map (value_if signal) (map (λ i. traced_sample signal (f i)) ks))) (eq-eqb signal signal refl)
    ∙ ap (λ l. f k ∷ l) (own_samples signal f ks)

other_samples : (signal other : ℕ) (f : ℕ → Raw) (ks : List ℕ) → other ≢ signal → signal_samples signal (map (λ k. traced_sample other (f k)) ks) ≡ []
unfolding signal_samples
other_samples signal other f [] apart = refl
other_samples signal other f (k ∷ ks) apart =
    ap (λ (b : Bool). cons_option (if b then Some (f k) else None) (filter_map (value_if signal) (map (λ i. traced_sample other (f i)) ks))) (ne_eqb other signal apart)
    ∙ other_samples signal other f ks apart

false_true : {P : Type 0} → false ≡ true → P
false_true same = absurd (let e : ◌≡◌ {A = ℕ} 0 1 = ap (λ (o : Bool). if o then 1 else 0) same in omega (arith, e))

and_left : (a b : Bool) → (a && b) ≡ true → a ≡ true
and_left true b is = refl
and_left false b is = is

and_right : (a b : Bool) → (a && b) ≡ true → b ≡ true
and_right true b is = is
and_right false b is = false_true is

out_kind : (kind : PortKind) → is_out kind ≡ true → kind ≡ Out
out_kind In is = false_true is
out_kind Out is = refl
out_kind DeIn is = false_true is
out_kind DeOut is = false_true is

module _ (tables : FlatTablesOf) (table : List AttrsOf) (turn : Turn (List ℤ) Raw) (m signal : ℕ) where
  -- what the ports from number k on trace of the signal
  abbrev given : ℕ → List PortRow → List Raw
  given k ps = signal_samples signal (flat_map (turn_samples tables table turn) (filter_map (λ port. number_if_traced tables m port.0 port.1) (enumerate_from k ps)))

  row_is : (k : ℕ) (x : PortRow) → slice_get tables.ports k ≡ Some x
      → turn_samples tables table turn k ≡ map (λ i. traced_sample x.signal (turn.outputs k i)) (range_with_len 0 (port_rate table x))
  row_is k x at = ap (λ o. map (λ i. traced_sample (signal_of_port_row o) (turn.outputs k i)) (range_with_len 0 (rate_of_row table o))) at

  head_by : (b : Bool) (k : ℕ) (rest : List ℕ) → signal_samples signal (flat_map (turn_samples tables table turn) (cons_option (if b then Some k else None) rest))
      ≡ signal_samples signal (if b then turn_samples tables table turn k else []) ++ signal_samples signal (flat_map (turn_samples tables table turn) rest)
  head_by true k rest = samples_append signal (turn_samples tables table turn k) (flat_map (turn_samples tables table turn) rest)
  head_by false k rest = ap (λ l. l ++ signal_samples signal (flat_map (turn_samples tables table turn) rest)) (sym (samples_none signal))

  head : (k : ℕ) (x : PortRow) (ps : List PortRow) → given k (x ∷ ps) ≡ signal_samples signal (if is_traced tables m x then turn_samples tables table turn k else []) ++ given (k + 1) ps
  head k x ps = head_by (is_traced tables m x) k (filter_map (λ port. number_if_traced tables m port.0 port.1) (enumerate_from (k + 1) ps))

  head_none : (b : Bool) (k : ℕ) (x : PortRow) → slice_get tables.ports k ≡ Some x → (b ≡ true → x.signal ≢ signal) → signal_samples signal (if b then turn_samples tables table turn k else []) ≡ []
  head_none true k x at apart = ap (signal_samples signal) (row_is k x at) ∙ other_samples signal x.signal (turn.outputs k) (range_with_len 0 (port_rate table x)) (apart refl)
  head_none false k x at apart = samples_none signal

  none : (k : ℕ) (ps : List PortRow) → ((i : ℕ) (x : PortRow) → slice_get ps i ≡ Some x → slice_get tables.ports (k + i) ≡ Some x)
      → ((i : ℕ) (x : PortRow) → slice_get ps i ≡ Some x → is_traced tables m x ≡ true → x.signal ≢ signal) → given k ps ≡ []
  none k [] rows apart = samples_none signal
  none k (x ∷ ps) rows apart =
      let z : k + 0 ≡ k = omega arith in
      head k x ps
      ∙ ap (λ l. l ++ given (k + 1) ps) (head_none (is_traced tables m x) k x (ap (slice_get tables.ports) (sym z) ∙ rows 0 x refl) (λ ok. apart 0 x refl ok))
      ∙ none (k + 1) ps (λ i y at. (let e : k + 1 + i ≡ k + suc i = omega arith in ap (slice_get tables.ports) e ∙ rows (suc i) y at)) (λ i y at. apart (suc i) y at)

  one : (k : ℕ) (ps : List PortRow) (i : ℕ) (port : PortRow) → ((j : ℕ) (x : PortRow) → slice_get ps j ≡ Some x → slice_get tables.ports (k + j) ≡ Some x)
      → slice_get ps i ≡ Some port → is_traced tables m port ≡ true → port.signal ≡ signal
      → ((j : ℕ) (x : PortRow) → slice_get ps j ≡ Some x → is_traced tables m x ≡ true → x.signal ≡ signal → j ≡ i)
      → given k ps ≡ map (turn.outputs (k + i)) (range_with_len 0 (port_rate table port))
  one k [] i port rows at ok same only = none_some port at
  one k (x ∷ ps) zero port rows at ok same only =
      let z : k + 0 ≡ k = omega arith in
      let is : x ≡ port = some_same x port at in
      let row : slice_get tables.ports k ≡ Some port = ap (slice_get tables.ports) (sym z) ∙ rows 0 port at in
      head k x ps
      ∙ ap (λ l. signal_samples signal (if is_traced tables m x then turn_samples tables table turn k else []) ++ l)
      (none (k + 1) ps (λ j y there. (let e : k + 1 + j ≡ k + suc j = omega arith in ap (slice_get tables.ports) e ∙ rows (suc j) y there))
      (λ j y there traced equal. (let o = only (suc j) y there traced equal in absurd (omega (arith, o)))))
      ∙ append-nil (signal_samples signal (if is_traced tables m x then turn_samples tables table turn k else []))
      ∙ ap (λ (b : Bool). signal_samples signal (if b then turn_samples tables table turn k else [])) (ap (is_traced tables m) is ∙ ok)
      ∙ ap (signal_samples signal) (row_is k port row)
      ∙ ap (λ s. signal_samples signal (map (λ j. traced_sample s (turn.outputs k j)) (range_with_len 0 (port_rate table port)))) same
      ∙ own_samples signal (turn.outputs k) (range_with_len 0 (port_rate table port))
      ∙ ap (λ n. map (turn.outputs n) (range_with_len 0 (port_rate table port))) (sym z)
  one k (x ∷ ps) (suc i) port rows at ok same only =
      let z : k + 0 ≡ k = omega arith in
      let e : k + 1 + i ≡ k + suc i = omega arith in
      head k x ps
      ∙ ap (λ l. l ++ given (k + 1) ps) (head_none (is_traced tables m x) k x (ap (slice_get tables.ports) (sym z) ∙ rows 0 x refl)
      (λ traced equal. (let o = only 0 x refl traced equal in absurd (omega (arith, o)))))
      ∙ one (k + 1) ps i port (λ j y there. (let d : k + 1 + j ≡ k + suc j = omega arith in ap (slice_get tables.ports) d ∙ rows (suc j) y there)) at ok same
      (λ j y there traced equal. (let o = only (suc j) y there traced equal in omega (arith, o)))
      ∙ ap (λ n. map (turn.outputs n) (range_with_len 0 (port_rate table port))) e

-- a traced port of a flat model is the one of its signal
module _ (model : PureTree) (flat : Flat) (one_port : SignalsHaveOnePort) (sound : IsSoundModel model) (is : IsFlatOf model flat) (cluster number : ℕ) (port : PortRow) (traced : IsTracedPort flat cluster number port)
    (table : List AttrsOf) (turn : Turn (List ℤ) Raw) (m : ℕ) where
  all_rows : (i : ℕ) (x : PortRow) → slice_get flat.tables.ports i ≡ Some x → slice_get flat.tables.ports (0 + i) ≡ Some x
  all_rows i x at = let z : i ≡ 0 + i = omega arith in ap (slice_get flat.tables.ports) (sym z) ∙ at

  its_module : (x : PortRow) → is_traced flat.tables m x ≡ true → x.«module» ≡ m
  its_module x ok = eqb-true x.«module» m (and_left (nat_eq x.«module» m) (is_out x.kind && list_any (is_trace_of x.signal) flat.tables.traces) ok)

  its_kind : (x : PortRow) → is_traced flat.tables m x ≡ true → x.kind ≡ Out
  its_kind x ok = out_kind x.kind (and_left (is_out x.kind) (list_any (is_trace_of x.signal) flat.tables.traces)
      (and_right (nat_eq x.«module» m) (is_out x.kind && list_any (is_trace_of x.signal) flat.tables.traces) ok))

  same_port : (i : ℕ) (x : PortRow) → slice_get flat.tables.ports i ≡ Some x → is_traced flat.tables m x ≡ true → x.signal ≡ port.signal → i ≡ number
  same_port i x at ok same = one_port model flat i number x port sound is at traced.there (its_kind x ok) traced.kind_is same

  -- another module traces none of it
  none_by : (o : Option Actor) → m ≢ port.«module» → signal_samples port.signal (traced_by flat.tables o m table turn) ≡ []
  none_by None apart = samples_none port.signal
  none_by (Some actor.Module) apart = none flat.tables table turn m port.signal 0 flat.tables.ports all_rows (λ i x at ok same.
      (let i_is = same_port i x at ok same in
      let row : x ≡ port = some_same x port (sym at ∙ ap (slice_get flat.tables.ports) i_is ∙ traced.there) in
      apart (sym (its_module x ok) ∙ ap (λ (p : PortRow). p.«module») row)))
  none_by (Some actor.Sampler) apart = samples_none port.signal
  none_by (Some actor.Sink) apart = samples_none port.signal

  -- its own module traces what it writes by it
  pub own_traced : m ≡ port.«module» → signal_samples port.signal (traced_by flat.tables (Some actor.Module) m table turn) ≡ map (turn.outputs number) (range_with_len 0 (port_rate table port))
  own_traced own =
      let z : 0 + number ≡ number = omega arith in
      let ok : is_traced flat.tables m port ≡ true = ap (λ b. b && (is_out port.kind && list_any (is_trace_of port.signal) flat.tables.traces)) (eq-eqb port.«module» m (sym own))
      ∙ ap (λ (k : PortKind). is_out k && list_any (is_trace_of port.signal) flat.tables.traces) traced.kind_is ∙ traced.traced in
      one flat.tables table turn m port.signal 0 flat.tables.ports number port all_rows traced.there ok refl same_port
      ∙ ap (λ n. map (turn.outputs n) (range_with_len 0 (port_rate table port))) z

  pub none_traced : (o : Option Actor) → m ≢ port.«module» → signal_samples port.signal (traced_by flat.tables o m table turn) ≡ []
  none_traced o apart = none_by o apart
