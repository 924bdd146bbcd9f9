-- The lists of traced signals and of event columns, trace by trace.
use Rattle.std.proofs.Common.{◌≡◌, ℕ, zero, suc, ◌+◌, ◌-◌, ◌<◌, ◌≤◌, Bool, true, false, not, ◌&&◌, ◌||◌, nat_eq, if◌then◌else◌, Option, Some, None, List, [], ◌∷◌, ◌++◌, length, slice_get, slice_index, slice_index_or, option_map, refl, ap, sym, ◌∙◌, subst, inl, inr, arith}
use Rattle.std.proofs.lemmas.Bool.{cases_eq, eq-eqb, eqb-true}
use Rattle.std.proofs.lemmas.Option.{get_or_from_slice_get, slice_get-map, slice_get_within}
use Rattle.std.proofs.lemmas.List.Elements.{filter_map-append}
use Rattle.std.specs.List.{cons_option, list_any}
use Rattle.std.specs.Prelude.{filter_map}
use Rattle.tdf_bind_tables.specs.Actors.{cluster_of}
use Rattle.tdf_bind_tables.specs.FlatTables.{FlatTablesOf}
use Rattle.tdf_bind_tables.specs.declared.actors.ActorRow.{ActorRow}
use Rattle.tdf_dynamic_plans.specs.Attributes.{clusters_of}
use Rattle.tdf_fixed.specs.declared.raw.Raw.{Raw}
use Rattle.tdf_bind.specs.declared.model.Flat.{Flat}
use Rattle.tdf_streams.proofs.Api.{get_low, none_some, some_same}
use Rattle.tdf_sim_history.specs.Cells.{driver_of_row}
use Rattle.tdf_exec_layout.specs.Traced.{is_trace_of}
use Rattle.tdf_sim_traces.proofs.Items.{true_false}
use Rattle.tdf_trace.proofs.Api.{First, Last, get_last, pushed}
use Rattle.tdf_sim_traces.specs.Events.{AreEventColumns, IsEventColumn}
use Rattle.tdf_sim_traces.specs.Signals.{AreTracedSignals, IsDriverOf, IsListed, IsSignalOf}
use Rattle.tdf_sim_traces.specs.declared.events.EventColumn.{EventColumn}
use Rattle.tdf_sim_traces.specs.declared.signals.TracedSignal.{TracedSignal}
use Rattle.tdf_sim_traces.specs.machine.Pushing.{AreColumnsTo, AreSignalsTo, HasTrace, driver_of_trace}
use Rattle.tdf_streams.specs.Cluster.{zero_sample}
use Rattle.tdf_bind_connections.specs.declared.traces.TraceRow.{TraceRow}

-- a list has an item that passes a test
pub any_here : {A : Type 0} (f : A → Bool) (xs : List A) (i : ℕ) (x : A) → slice_get xs i ≡ Some x → f x ≡ true → list_any f xs ≡ true
any_here f [] i x at is = none_some x at
any_here f (y ∷ ys) zero x at is = ap (λ (b : Bool). b || list_any f ys) (ap f (some_same y x at) ∙ is)
any_here f (y ∷ ys) (suc i) x at is = ap (λ (b : Bool). f y || b) (any_here f ys i x at is) ∙ or_true (f y)
  where
    or_true : (b : Bool) → (b || true) ≡ true
    or_true true = refl
    or_true false = refl

-- no trace was looked at
pub no_signals : (flat : Flat) → AreSignalsTo flat 0 []
no_signals flat = record {
  are = λ k t at. none_some t at;
  once = λ i j t u ti uj same. none_some t ti;
  all = λ column number row below at plain driven. absurd (omega (arith, below));
}

pub no_columns : (traces : List TraceRow) (values : List Raw) → AreColumnsTo traces values 0 []
no_columns traces values = record {
  are = λ k e at. none_some e at;
  below = λ k e at. none_some e at;
  once = λ i j e f ei fj same. none_some e ei;
  all = λ column row below at event. absurd (omega (arith, below));
}

pub any_found : {A : Type 0} (f : A → Bool) (xs : List A) → list_any f xs ≡ true → (i : ℕ) × (x : A) × (slice_get xs i ≡ Some x) × (f x ≡ true)
any_found f [] is = absurd (true_false (sym is))
any_found {A} f (x ∷ xs) is = go (f x) refl (λ h. any_found f xs h) is
  where
    go : (b : Bool) → f x ≡ b → (list_any f xs ≡ true → (i : ℕ) × (y : A) × (slice_get xs i ≡ Some y) × (f y ≡ true)) → (b || list_any f xs) ≡ true → (i : ℕ) × (y : A) × (slice_get (x ∷ xs) i ≡ Some y) × (f y ≡ true)
    go true e rest h = (0, x, refl, e)
    go false e rest h = let r = rest h in (suc r.0, r.1, r.2, r.3)

-- a list without an item that passes
none_here : {A : Type 0} (f : A → Bool) (xs : List A) (i : ℕ) (x : A) → list_any f xs ≡ false → slice_get xs i ≡ Some x → f x ≡ true → ⊥
none_here f xs i x none at is = true_false (sym (any_here f xs i x at is) ∙ none)

-- a trace more
module _ (flat : Flat) (column : ℕ) (row : TraceRow) (at : slice_get flat.tables.traces column ≡ Some row) (list : List TracedSignal) (to : AreSignalsTo flat column list) where
  below_more : (c : ℕ) → c < column + 1 → (c ≡ column → ⊥) → c < column
  below_more c low apart = omega (arith, low, apart)

  same_row : (c : ℕ) (other : TraceRow) → c ≡ column → slice_get flat.tables.traces c ≡ Some other → other ≡ row
  same_row c other same there = some_same other row (sym there ∙ ap (slice_get flat.tables.traces) same ∙ at)

  -- its signal is listed, or no port drives it
  pub kept_signals : ((number : ℕ) → row.event ≡ false → driver_of_row (slice_get flat.tables.signals row.signal) ≡ Some number → IsSignalOf list row.signal) → AreSignalsTo flat (column + 1) list
  kept_signals has = record {
    are = to.are;
    once = to.once;
    all = λ c number other low there plain driven. elim (cases_eq c column) [
      | inl same ↦ (let e = same_row c other same there in subst (λ (r : TraceRow). IsSignalOf list r.signal) (sym e)
          (has number (ap (λ (r : TraceRow). r.event) (sym e) ∙ plain) (ap (λ (r : TraceRow). driver_of_row (slice_get flat.tables.signals r.signal)) (sym e) ∙ driven)))
      | inr apart ↦ to.all c number other (below_more c low apart) there plain driven
    ];
  }

  pub listed_before : list_any (λ (t : TracedSignal). nat_eq t.signal row.signal) list ≡ true → AreSignalsTo flat (column + 1) list
  listed_before is = kept_signals (λ number plain driven. (let f = any_found (λ (t : TracedSignal). nat_eq t.signal row.signal) list is in
      record { place = f.0; it = f.1; there = f.2; same = eqb-true f.1.signal row.signal f.3 }))

  pub never_driven : driver_of_trace flat.tables row ≡ None → AreSignalsTo flat (column + 1) list
  never_driven none = kept_signals (λ number plain driven. none_some number (sym none ∙ ap (λ (b : Bool). if b then None else driver_of_row (slice_get flat.tables.signals row.signal)) plain ∙ driven))

  pub listed_now : (t : TracedSignal) → IsListed flat t → t.signal ≡ row.signal → list_any (λ (t : TracedSignal). nat_eq t.signal row.signal) list ≡ false → AreSignalsTo flat (column + 1) (list ++ t ∷ [])
  listed_now t is same none = record {
    are = λ k u ku. elim (pushed list t k u ku) [
      | First low old ↦ to.are k u old
      | Last here e ↦ subst (IsListed flat) (sym e) is
    ];
    once = λ i j u v ui vj e. elim (pushed list t i u ui) [
      | First low old ↦ elim (pushed list t j v vj) [
        | First less was ↦ to.once i j u v old was e
        | Last here was ↦ absurd (none_here (λ (x : TracedSignal). nat_eq x.signal row.signal) list i u none old (eq-eqb u.signal row.signal (e ∙ ap (λ (x : TracedSignal). x.signal) was ∙ same)))
      ]
      | Last here old ↦ elim (pushed list t j v vj) [
        | First less was ↦ absurd (none_here (λ (x : TracedSignal). nat_eq x.signal row.signal) list j v none was (eq-eqb v.signal row.signal (sym e ∙ ap (λ (x : TracedSignal). x.signal) old ∙ same)))
        | Last there was ↦ here ∙ sym there
      ]
    ];
    all = λ c number other low there plain driven. elim (cases_eq c column) [
      | inl e ↦ record { place = length list; it = t; there = get_last list t; same = same ∙ ap (λ (r : TraceRow). r.signal) (sym (same_row c other e there)) }
      | inr apart ↦ (let w = to.all c number other (below_more c low apart) there plain driven in
          record { place = w.place; it = w.it; there = get_low list (t ∷ []) w.place (slice_get_within list w.place w.it w.there) ∙ w.there; same = w.same })
    ];
  }

pub all_signals : (flat : Flat) (count : ℕ) (list : List TracedSignal) → length flat.tables.traces ≤ count → AreSignalsTo flat count list → AreTracedSignals flat list
all_signals flat count list all to = record {
  are = to.are;
  once = to.once;
  all = λ column number row at plain driven. to.all column number row (let i = slice_get_within flat.tables.traces column row at in omega (arith, i, all)) at plain driven;
}

-- the columns of event signals
module _ (traces : List TraceRow) (values : List Raw) (column : ℕ) (row : TraceRow) (at : slice_get traces column ≡ Some row) (list : List EventColumn) (to : AreColumnsTo traces values column list) where
  row_same : (c : ℕ) (other : TraceRow) → c ≡ column → slice_get traces c ≡ Some other → other ≡ row
  row_same c other same there = some_same other row (sym there ∙ ap (slice_get traces) same ∙ at)

  pub no_column : row.event ≡ false → AreColumnsTo traces values (column + 1) list
  no_column plain = record {
    are = to.are;
    below = λ k e ke. (let b = to.below k e ke in omega (arith, b));
    once = to.once;
    all = λ c other low there event. elim (cases_eq c column) [
      | inl same ↦ absurd (true_false (sym event ∙ ap (λ (r : TraceRow). r.event) (row_same c other same there) ∙ plain))
      | inr apart ↦ to.all c other (omega (arith, low, apart)) there event
    ];
  }

  pub column_now : (e : EventColumn) → row.event ≡ true → e.column ≡ column → e.signal ≡ row.signal → e.shown ≡ slice_index_or values row.signal zero_sample → AreColumnsTo traces values (column + 1) (list ++ e ∷ [])
  column_now e event same signal shown = record {
    are = λ k f kf. elim (pushed list e k f kf) [
      | First low old ↦ to.are k f old
      | Last here was ↦ subst (IsEventColumn traces values) (sym was) (record {
        row = row;
        there = ap (slice_get traces) same ∙ at;
        event = event;
        signal_is = signal;
        shown_is = shown;
      })
    ];
    below = λ k f kf. elim (pushed list e k f kf) [
      | First low old ↦ (let b = to.below k f old in omega (arith, b))
      | Last here was ↦ (let c : f.column ≡ column = ap (λ (x : EventColumn). x.column) was ∙ same in omega (arith, c))
    ];
    once = λ i j f g fi gj is. elim (pushed list e i f fi) [
      | First low old ↦ elim (pushed list e j g gj) [
        | First less was ↦ to.once i j f g old was is
        | Last here was ↦ absurd (let b = to.below i f old in let c : f.column ≡ column = is ∙ ap (λ (x : EventColumn). x.column) was ∙ same in omega (arith, b, c))
      ]
      | Last here old ↦ elim (pushed list e j g gj) [
        | First less was ↦ absurd (let b = to.below j g was in let c : g.column ≡ column = sym is ∙ ap (λ (x : EventColumn). x.column) old ∙ same in omega (arith, b, c))
        | Last there was ↦ here ∙ sym there
      ]
    ];
    all = λ c other low there is. elim (cases_eq c column) [
      | inl e_is ↦ record { place = length list; it = e; there = get_last list e; same = same ∙ sym e_is }
      | inr apart ↦ (let w = to.all c other (omega (arith, low, apart)) there is in
          record { place = w.place; it = w.it; there = get_low list (e ∷ []) w.place (slice_get_within list w.place w.it w.there) ∙ w.there; same = w.same })
    ];
  }

pub all_columns : (traces : List TraceRow) (values : List Raw) (count : ℕ) (list : List EventColumn) → length traces ≤ count → AreColumnsTo traces values count list → AreEventColumns traces values list
all_columns traces values count list all to = record {
  are = to.are;
  once = to.once;
  all = λ column row at event. to.all column row (let i = slice_get_within traces column row at in omega (arith, i, all)) at event;
}

-- what is listed of a driver
pub listed_is : (flat : Flat) (t : TracedSignal) (signal number : ℕ) → HasTrace flat.tables.traces signal → driver_of_row (slice_get flat.tables.signals signal) ≡ Some number → (is : IsDriverOf flat.tables signal number)
    → t.port ≡ number → t.signal ≡ signal → t.«module» ≡ is.port.«module» → t.cluster ≡ slice_index (clusters_of flat.tables) is.port.«module» - 1 → IsListed flat t
listed_is flat t signal number trace driver is port_is signal_is module_is cluster_is = record {
  port = is.port;
  drives = record {
    traced = record {
      there = ap (slice_get flat.tables.ports) port_is ∙ is.there;
      inside = (let c = is.cluster in omega (arith, c, cluster_is));
      kind_is = is.kind_is;
      traced = any_here (is_trace_of is.port.signal) flat.tables.traces trace.column trace.row trace.there
          (ap (λ (e : Bool). not e && nat_eq trace.row.signal is.port.signal) trace.samples ∙ eq-eqb trace.row.signal is.port.signal (trace.same ∙ sym is.writes));
    };
    driver = ap (λ s. driver_of_row (slice_get flat.tables.signals s)) is.writes ∙ driver ∙ ap Some (sym port_is);
  };
  module_is = module_is;
  signal_is = signal_is ∙ sym is.writes;
}

-- a list of what items give
pub more_given : {A B : Type 0} (f : A → Option B) (xs : List A) (x : A) (ys : List B) (y : B) → ys ≡ filter_map f xs → f x ≡ Some y → ys ++ y ∷ [] ≡ filter_map f (xs ++ x ∷ [])
more_given f xs x ys y same gives = ap (λ l. l ++ y ∷ []) same ∙ sym (filter_map-append f xs (x ∷ []) ∙ ap (λ o. filter_map f xs ++ cons_option o []) gives)

-- a trace with a driver is one of samples
pub plain_driver : (flat : Flat) (row : TraceRow) (number : ℕ) → driver_of_trace flat.tables row ≡ Some number → (row.event ≡ false) × (driver_of_row (slice_get flat.tables.signals row.signal) ≡ Some number)
plain_driver flat row number driven = go row.event refl driven
  where
    go : (b : Bool) → row.event ≡ b → (if b then None else driver_of_row (slice_get flat.tables.signals row.signal)) ≡ Some number → (row.event ≡ false) × (driver_of_row (slice_get flat.tables.signals row.signal) ≡ Some number)
    go true is e = none_some number e
    go false is e = (is, e)

pub cluster_at : (tables : FlatTablesOf) (m : ℕ) (row : ActorRow) → slice_get tables.actors m ≡ Some row → row.cluster ≡ slice_index (clusters_of tables) m
cluster_at tables m row at = sym (get_or_from_slice_get (clusters_of tables) m row.cluster 0 (slice_get-map cluster_of tables.actors m ∙ ap (option_map cluster_of) at))
