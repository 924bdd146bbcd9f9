-- At the start each traced signal has its initial samples and its first period.
use Rattle.std.proofs.Common.{◌≡◌, ◌∙◌, ℕ, zero, suc, ◌+◌, ◌≤◌, Bool, true, false, ◌&&◌, nat_lt, if◌then◌else◌, Option, Some, None, option_map, List, [], ◌∷◌, ◌++◌, length, map, slice_get, slice_index, refl, ap, sym, subst, arith, ◌-◌, ◌*◌}
use Rattle.std.proofs.lemmas.Bool.{eq-eqb, le-ltb}
use Rattle.std.proofs.lemmas.Option.{get_or_from_slice_get, slice_get-map, slice_get_within}
use Rattle.std.specs.List.{cons_option, enumerate_from}
use Rattle.std.specs.Prelude.{filter_map}
use Rattle.tdf_trace.proofs.Api.{holds_fresh, stands_alike}
use Rattle.tdf_trace.specs.Calls.{Holds}
use Rattle.tdf_trace.specs.Tracked.{TrackingOf}
use Rattle.tdf_dynamic_first.specs.declared.first.First.{First}
use Rattle.tdf_events.specs.Side.{SideOf}
use Rattle.tdf_bind.specs.declared.model.Flat.{Flat}
use Rattle.tdf_streams.proofs.Api.{get_inside, none_some, some_same}
use Rattle.tdf_sim_history.specs.Cells.{column_spans, driver_of_row, event_column_cell}
use Rattle.tdf_sim_history.specs.Instant.{periods_of}
use Rattle.tdf_sim_history.specs.Start.{first_cluster, first_clusters, starting_value, text_column}
use Rattle.tdf_sim_history.specs.World.{ClusterAt, World}
use Rattle.tdf_sim_history.specs.History.{history}
use Rattle.tdf_bind_invariants.specs.Limits.{AreWithinLimits}
use Rattle.tdf_trace_rows.specs.Laws.{Agree}
use Rattle.tdf_trace_rows.specs.Noted.{cell_noted}
use Rattle.tdf_trace_rows.specs.Positions.{span_of}
use Rattle.tdf_sim_refinement.specs.At.{IsAt}
use Rattle.tdf_sim_traces.proofs.Listing.{IsFound, found, moved}
use Rattle.tdf_sim_traces.proofs.Spans.{one_chain, span_is, steps_of}
use Rattle.tdf_sim_traces.specs.Calls.{CanStart, StartsShowing, start_values}
use Rattle.tdf_sim_traces.specs.Events.{AreEventColumns, event_before, events_before, values_before}
use Rattle.tdf_sim_traces.specs.Periods.{ClockAt, begins, span_in}
use Rattle.tdf_sim_traces.specs.Shown.{IsShownOf}
use Rattle.tdf_sim_traces.specs.Signals.{DrivesTraced}
use Rattle.tdf_sim_traces.specs.Variables.{traced_signal, variable_for, trace_variable, variables_of}
use Rattle.tdf_sim_traces.specs.declared.shown.Shown.{Shown}
use Rattle.tdf_sim_traces.specs.declared.signals.TracedSignal.{TracedSignal}
use Rattle.tdf_sim_traces.specs.machine.Beginning.{AreNext, BegunWith, IsBeginning}
use Rattle.tdf_sim_traces.specs.machine.Giving.{GivenWith, IsGivingTo}
use Rattle.tdf_streams.specs.Cluster.{initial_samples, driver_samples}
use Rattle.tdf_streams.specs.Signals.{positions, step_in, time_of_periods, outputs_in, rate_in}
use Rattle.tdf_trace.specs.Stands.{TraceSeen, no_cells}
use Rattle.tdf_trace.specs.Writings.{AboutSeen, first_value}
use Rattle.tdf_trace.specs.declared.about.Variable.{Variable}
use Rattle.tdf_sim_refinement.proofs.Api.{starts_have_samples}
use Rattle.tdf_sim_refinement.specs.Samples.{AreSamplesOf}
use Rattle.tdf_lang_tree.specs.Pure.{PureTree}
use Rattle.tdf_bind_connections.specs.declared.drivers.SignalRow.{SignalRow}
use Rattle.tdf_bind_connections.specs.declared.modules.PortRow.{PortRow}
use Rattle.tdf_bind_connections.specs.declared.traces.TraceRow.{TraceRow}
use Rattle.tdf_sim_history.specs.Rules.{rules_of, start_world}
use Rattle.tdf_sim_history.specs.Columns.{ColumnStart, held_by, no_start, spans_to, stamp_at, start_of}
use Rattle.tdf_sim_history.specs.WorldLaws.{HoldsFirst}
use Rattle.tdf_sim_history.proofs.Api.{last_record}
use Rattle.tdf_trace.specs.Tracks.{IsChain}
use Rattle.tdf_sim_refinement.specs.Below.{ClusterOf}

-- a cluster at the start
first_from : (model : PureTree) (flat : Flat) (k : ℕ) (firsts : List First) (n : ℕ) (h : ClusterAt) → slice_get (map (λ (first : ℕ × First). first_cluster model flat (first.0 + 1) first.1 []) (enumerate_from k firsts)) n ≡ Some h
    → (first : First) × (h ≡ first_cluster model flat (k + n + 1) first [])
first_from model flat k [] n h at = none_some h at
first_from model flat k (x ∷ xs) zero h at = (x, sym (some_same _ h at) ∙ (let z : k + 1 ≡ k + 0 + 1 = omega arith in ap (λ m. first_cluster model flat m x []) z))
first_from model flat k (x ∷ xs) (suc n) h at = let r = first_from model flat (k + 1) xs n h at in (r.0, r.1 ∙ (let z : k + 1 + n + 1 ≡ k + suc n + 1 = omega arith in ap (λ m. first_cluster model flat m r.0 []) z))

pub first_at : (model : PureTree) (flat : Flat) (firsts : List First) (n : ℕ) (h : ClusterAt) → slice_get (first_clusters model flat firsts []) n ≡ Some h → (first : First) × (h ≡ first_cluster model flat (n + 1) first [])
first_at model flat firsts n h at = let r = first_from model flat 0 firsts n h at in (r.0, r.1 ∙ (let z : 0 + n + 1 ≡ n + 1 = omega arith in ap (λ m. first_cluster model flat m r.0 []) z))

-- where each item gives something, places stay
given_few : {A B : Type 0} (f : A → Option B) (xs : List A) → length (filter_map f xs) ≤ length xs
given_few f [] = omega arith
given_few f (x ∷ xs) = go (f x) (given_few f xs)
  where
    go : (o : Option _) → length (filter_map f xs) ≤ length xs → length (cons_option o (filter_map f xs)) ≤ suc (length xs)
    go None few = omega (arith, few)
    go (Some y) few = omega (arith, few)

pub given_at : {A B : Type 0} (f : A → Option B) (xs : List A) (i : ℕ) (x : A) → length (filter_map f xs) ≡ length xs → slice_get xs i ≡ Some x → (y : B) × (f x ≡ Some y) × (slice_get (filter_map f xs) i ≡ Some y)
given_at f [] i x long at = none_some x at
given_at {A} {B} f (z ∷ xs) i x long at = go (f z) refl long i at (given_few f xs) (λ j same there. given_at f xs j x same there)
  where
    go : (o : Option B) → f z ≡ o → length (cons_option o (filter_map f xs)) ≡ suc (length xs) → (i : ℕ) → slice_get (z ∷ xs) i ≡ Some x → length (filter_map f xs) ≤ length xs
        → ((j : ℕ) → length (filter_map f xs) ≡ length xs → slice_get xs j ≡ Some x → (y : B) × (f x ≡ Some y) × (slice_get (filter_map f xs) j ≡ Some y))
        → (y : B) × (f x ≡ Some y) × (slice_get (cons_option o (filter_map f xs)) i ≡ Some y)
    go None is same i there few rest = absurd (omega (arith, same, few))
    go (Some y) is same zero there few rest = (y, ap f (sym (some_same z x there)) ∙ is, refl)
    go (Some y) is same (suc j) there few rest = rest j (omega (arith, same)) there

module _ (model : PureTree) (flat : Flat) (firsts : List First) (turns : ℕ) (long : length (variables_of flat.tables) ≡ length flat.tables.traces) where
  abbrev start : World SideOf
  start = start_world model flat firsts [] turns

  pub values_start : values_before model flat start 0 ≡ start_values flat.tables
  unfolding history
  values_start = refl

  -- what the column of a trace begins with
  column_at : (column : ℕ) (row : TraceRow) → slice_get flat.tables.traces column ≡ Some row → start_of start.shown column ≡ text_column flat.tables row
  column_at column row at = get_or_from_slice_get (map (text_column flat.tables) flat.tables.traces) column (text_column flat.tables row) no_start
      (slice_get-map (text_column flat.tables) flat.tables.traces column ∙ ap (option_map (text_column flat.tables)) at)

  first_row : (column : ℕ) (row : TraceRow) → slice_get flat.tables.traces column ≡ Some row → first_value (variables_of flat.tables) column ≡ (start_of start.shown column).carry
  first_row column row at =
      let v = given_at (trace_variable flat.tables) flat.tables.traces column row long at in
      get_or_from_slice_get (map (λ (x : Variable). x.first) (variables_of flat.tables)) column v.0.first None (slice_get-map (λ (x : Variable). x.first) (variables_of flat.tables) column ∙ ap (option_map (λ (x : Variable). x.first)) v.2)
      ∙ by_signal (traced_signal flat.tables row) refl v.0 v.1 ∙ sym (ap (λ (c : ColumnStart). c.carry) (column_at column row at))
    where
      by_signal : (o : Option SignalRow) → traced_signal flat.tables row ≡ o → (x : Variable) → option_map (variable_for row) o ≡ Some x → x.first ≡ (if row.event then Some (starting_value (slice_get flat.tables.de_signals row.signal)) else None)
      by_signal None there x e = none_some x e
      by_signal (Some signal) there x e = ap (λ (y : Variable). y.first) (sym (some_same (variable_for row signal) x e)) ∙ by_kind row.event refl
        where
          by_kind : (c : Bool) → row.event ≡ c → (if row.event then Some signal.start else None) ≡ (if row.event then Some (starting_value (slice_get flat.tables.de_signals row.signal)) else None)
          by_kind true e = ap (λ o. if row.event then Some (starting_value o) else None) (sym (sym (ap (λ (k : Bool). if k then slice_get flat.tables.de_signals row.signal else slice_get flat.tables.signals row.signal) e) ∙ there))
          by_kind false e = rw e refl

  -- a new trace stands for no cells
  pub none_agree : (below : ℕ) → Agree (no_cells (variables_of flat.tables)) (events_before model flat start 0) below
  unfolding cell_noted
  none_agree below = record {
    columns = long;
    first = λ column inside. (let r = get_inside flat.tables.traces column (omega (arith, inside, long)) in first_row column r.0 r.1);
    cells = λ column time inside low. no_cell (start_of start.shown column) (slice_get flat.tables.traces column) time;
  }
    where
      and_false : (p q : Bool) → q ≡ false → (p && q) ≡ false
      and_false true q is = is
      and_false false q is = refl

      no_cell : (s : ColumnStart) (o : Option TraceRow) (time : ℕ) → None ≡ event_before model flat start 0 time s o
      no_cell s None time = refl
      no_cell s (Some row) time = sym (ap (λ (b : Bool). if b then event_column_cell model flat (rules_of model flat) start s row.signal time else None) (and_false row.event (nat_lt time 0) (le-ltb time 0 (omega arith))))

module _ (flat : Flat) (clock : ClockAt) (old : Shown) (t1 t2 : TrackingOf) (r1 r2 : TraceSeen) (zero_time : clock.time ≡ 0) (can : CanStart flat clock old)
    (began : IsBeginning flat.tables clock old.signals.items (length old.signals.items) old.tracking t1 old.trace r1) (gave : IsGivingTo flat.tables old.signals.items (length old.signals.items) t1 t2 r1 r2) where
  pub starts_showing : StartsShowing flat clock old (record old { tracking = t2; trace = r2 })
  unfolding spans_to held_by
  starts_showing model kind firsts turns un at = record {
    spans = b.now;
    samples = g.now;
    holds = g.holds;
    signals = un.signals;
    each = λ n number port drives. each n number port drives (found flat old.signals.items n number port un.signals drives);
    none = λ signal unlisted. b.have.other signal (λ a. unlisted a.place a.it a.there a.same);
    events = subst (λ vs. AreEventColumns flat.tables.traces vs old.events.items) (sym (values_start model flat firsts turns un.columns)) un.events;
    stamped = λ column row there event t low. ap (λ (c : ColumnStart). stamp_at c.stamps t) (column_at model flat firsts turns un.columns column row there);
    begun = λ n h there. (let f = first_at model flat firsts n h there in record {
      early = (let e : h.since ≡ 0 = ap (λ (x : ClusterAt). x.since) f.1 in omega (arith, e));
      after_old = (
          let e : h.since ≡ 0 = ap (λ (x : ClusterAt). x.since) f.1 in
          let o : h.origin ≡ 0 = ap (λ (x : ClusterAt). x.origin) f.1 in
          let t : time_of_periods h.old ≡ 0 = ap (λ (x : ClusterAt). time_of_periods x.old) f.1 in omega (arith, e, o, t));
    });
    width = gave.width ∙ began.width ∙ un.tracking.width;
    columns = ap (λ (a : AboutSeen). length a.variables) (gave.about ∙ began.about ∙ un.trace.about) ∙ un.columns;
  }
    where
      start : World SideOf
      start = start_world model flat firsts [] turns

      limits : AreWithinLimits flat
      limits = can.begin.limits

      fresh : Holds flat.tables.traces (events_before model flat start 0) (λ signal. []) (λ signal. []) old.tracking.list old.trace.rows
      fresh = holds_fresh flat.tables.traces (events_before model flat start 0) old.tracking.list old.trace.rows un.tracking.of un.tracking.tracked
          (λ column row there plain time. no_sample column row there plain time)
          (stands_alike (no_cells (variables_of flat.tables)) (events_before model flat start 0) old.trace.rows (none_agree model flat firsts turns un.columns) un.trace.stands)
        where
          no_sample : (column : ℕ) (row : TraceRow) → slice_get flat.tables.traces column ≡ Some row → row.event ≡ false → (time : ℕ) → (events_before model flat start 0).at column time ≡ None
          no_sample column row there plain time = ap (event_before model flat start 0 time (start_of start.shown column)) there ∙ ap (λ (p : Bool). if p && nat_lt time 0 then event_column_cell model flat (rules_of model flat) start (start_of start.shown column) row.signal time else None) plain

      -- the cluster of a listed signal
      cluster_of_signal : (k : ℕ) (t : TracedSignal) → slice_get old.signals.items k ≡ Some t → (h : ClusterAt) × (first : First) × (slice_get start.clusters t.cluster ≡ Some h) × (h ≡ first_cluster model flat (t.cluster + 1) first [])
      cluster_of_signal k t there =
          let h = get_inside start.clusters t.cluster (let c = can.begin.clusters k t there in let s = at.same in omega (arith, c, s)) in
          let f = first_at model flat firsts t.cluster h.0 h.1 in (h.0, f.0, h.1, f.1)

      begins_now : (k : ℕ) (t : TracedSignal) → slice_get old.signals.items k ≡ Some t → begins clock t ≡ true
      begins_now k t there =
          let c = cluster_of_signal k t there in
          let s = get_inside clock.since t.cluster (can.begin.since k t there) in
          let e : s.0 ≡ c.0.since = at.begun t.cluster s.0 c.0 c.2 s.1 in
          let i : slice_index clock.since t.cluster ≡ s.0 = get_or_from_slice_get clock.since t.cluster s.0 0 s.1 in
          let z : c.0.since ≡ 0 = ap (λ (x : ClusterAt). x.since) c.3 in
          eq-eqb (slice_index clock.since t.cluster) clock.time (omega (arith, i, e, z, zero_time))

      -- what a column of the signal of a port begins with
      begins_so : PortRow → ColumnStart
      begins_so port = record { carry = None; stamps = []; skipped = 0; ahead = driver_samples flat.tables (driver_of_row (slice_get flat.tables.signals port.signal)) }

      spans_of : (h : ClusterAt) (first : First) (m : ℕ) (port : PortRow) → h ≡ first_cluster model flat m first [] → column_spans port (begins_so port) h.origin (periods_of h) ≡ span_of 0 (step_in port h.now) (positions port h.now) ∷ []
      spans_of h first m port is =
          let z : 0 + 0 * step_in port h.now ≡ 0 = omega arith in
          let c : positions port h.now - 0 ≡ positions port h.now = omega arith in
          ap (λ l. column_spans port (begins_so port) h.origin (l ++ h.now ∷ [])) (ap (λ (x : ClusterAt). x.old) is)
          ∙ ap (λ o. column_spans port (begins_so port) o (h.now ∷ [])) (ap (λ (x : ClusterAt). x.origin) is)
          ∙ ap (λ t. span_of t (step_in port h.now) (positions port h.now - 0) ∷ []) z ∙ ap (λ n. span_of 0 (step_in port h.now) n ∷ []) c

      next : AreNext flat.tables clock old.signals.items (λ signal. [])
      next j t c there is here =
          let l = un.signals.are j t there in
          let k = cluster_of_signal j t there in
          let i : IsAt model flat (t.cluster + 1) k.0 c = at.each t.cluster k.0 c k.2 here in
          subst IsChain (ap (λ p. p ∷ []) (sym (span_is l.port model flat t.cluster t.port l.drives k.0 c t i refl l.module_is clock.time)))
          (one_chain l.port (span_of clock.time (step_in l.port k.0.now) (positions l.port k.0.now)) (steps_of l.port model flat t.cluster t.port l.drives limits k.0.now (last_record flat (t.cluster + 1) k.0.begun k.0.old k.0.now i.records)).0)

      b : BegunWith flat.tables clock old.signals.items (length old.signals.items) t1.list r1.rows flat.tables.traces (events_before model flat start 0) (λ signal. []) (λ signal. [])
      b = began.took flat.tables.traces (events_before model flat start 0) (λ signal. []) (λ signal. []) next fresh

      g : GivenWith flat.tables old.signals.items (length old.signals.items) t2.list r2.rows flat.tables.traces (events_before model flat start 0) b.now (λ signal. [])
      g = gave.took flat.tables.traces (events_before model flat start 0) b.now (λ signal. []) can.begin.once b.holds

      each : (n number : ℕ) (port : PortRow) → DrivesTraced flat n number port → IsFound old.signals.items n number port → IsShownOf model flat start.shown start.clusters n number port b.now g.now t2.list
      each n number port drives f =
          let k = cluster_of_signal f.place f.it f.there in
          let c = get_inside clock.clusters f.it.cluster (can.begin.clusters f.place f.it f.there) in
          let i : IsAt model flat (n + 1) k.0 c.0 = subst (λ m. IsAt model flat (m + 1) k.0 c.0) f.cluster (at.each f.it.cluster k.0 c.0 k.2 c.1) in
          let below = slice_get_within old.signals.items f.place f.it f.there in
          let first : k.0 ≡ first_cluster model flat (n + 1) k.1 [] = k.3 ∙ ap (λ m. first_cluster model flat (m + 1) k.1 []) f.cluster in
          let spans_now : b.now port.signal ≡ span_of 0 (step_in port k.0.now) (positions port k.0.now) ∷ [] = ap b.now (sym f.signal) ∙ b.have.begun f.place f.it c.0 below f.there (begins_now f.place f.it f.there) c.1
          ∙ ap (λ p. p ∷ []) (ap (λ m. span_in flat.tables m c.0 f.it) zero_time ∙ span_is port model flat n number drives k.0 c.0 f.it i f.port_is f.module_is 0) in
          record {
            cluster = k.0;
            there = ap (slice_get start.clusters) (sym f.cluster) ∙ k.2;
            start = begins_so port;
            starts = λ column row there plain same. column_at model flat firsts turns un.columns column row there
                ∙ ap (λ (e : Bool). record { carry = if e then Some (starting_value (slice_get flat.tables.de_signals row.signal)) else None; stamps = []; skipped = 0; ahead = driver_samples flat.tables (driver_of_row (slice_get flat.tables.signals row.signal)) }) plain
                ∙ ap (λ m. record { carry = None; stamps = []; skipped = 0; ahead = driver_samples flat.tables (driver_of_row (slice_get flat.tables.signals m)) }) same;
            first = starts_whole n number port k.0 k.1 c.0 first i;
            chain = subst IsChain (sym spans_now) (one_chain port (span_of 0 (step_in port k.0.now) (positions port k.0.now)) (steps_of port model flat n number drives limits k.0.now (last_record flat (n + 1) k.0.begun k.0.old k.0.now i.records)).0);
            spans_are = spans_now ∙ sym (spans_of k.0 k.1 (n + 1) port first);
            samples_are = subst (AreSamplesOf model flat (n + 1) number port (begins_so port) k.0) (sym (ap g.now (sym f.signal) ∙ g.have.given f.place f.it below f.there
                ∙ ap (initial_samples flat.tables) (ap (slice_get flat.tables.ports) f.port_is)
                ∙ sym (ap (driver_samples flat.tables) drives.driver)))
                (subst (λ h. AreSamplesOf model flat (n + 1) number port (begins_so port) h (held_by (begins_so port))) (sym first) (starts_have_samples model flat (n + 1) number port (begins_so port) k.1));
            since = λ place u there same. (
                let m = moved t1.list t2.list place u gave.labels gave.sinces there in
                let s : m.0.since ≡ clock.time = began.started.here place m.0 m.1 (record { place = f.place; it = f.it; below = below; there = f.there; begun = begins_now f.place f.it f.there; same = f.signal ∙ sym (m.2 ∙ same) }) in
                let z : k.0.since ≡ 0 = ap (λ (x : ClusterAt). x.since) first in
                let e = m.3 in omega (arith, s, z, e, zero_time));
            next = λ place u there same more. (let z : k.0.since ≡ 0 = ap (λ (x : ClusterAt). x.since) first in omega (arith, z));
          }
        where
          starts_whole : (n number : ℕ) (port : PortRow) (h : ClusterAt) (first : First) (c : ClusterOf) → h ≡ first_cluster model flat (n + 1) first [] → IsAt model flat (n + 1) h c → HoldsFirst (begins_so port) port (periods_of h)
          starts_whole n number port h first c is i =
              let old : h.old ≡ [] = ap (λ (x : ClusterAt). x.old) is in
              let counts : slice_index h.now.info.counts port.«module» ≡ slice_index h.now.counts port.«module» =
              ap (λ (x : ClusterAt). slice_index x.now.info.counts port.«module») is ∙ sym (ap (λ (x : ClusterAt). slice_index x.now.counts port.«module») is) in
              let e : positions port h.now ≡ outputs_in port h.now = ap (λ n. n * rate_in port h.now) counts in
              subst (λ l. HoldsFirst (begins_so port) port (l ++ h.now ∷ [])) (sym old) (omega arith, omega (arith, e))
