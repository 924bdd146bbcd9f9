-- The calls can be made.
use Rattle.std.proofs.Common.{◌≡◌, ◌∙◌, ℕ, ◌-◌, ◌<◌, ◌≤◌, Bool, true, false, nat_eq, if◌then◌else◌, Option, Some, None, option_map, List, [], ◌∷◌, length, map, slice_get, refl, ap, sym, subst, arith}
use Rattle.std.proofs.lemmas.List.{length-map}
use Rattle.std.proofs.lemmas.List.Elements.{All-head, All-map, All-nil, All-tail, All-weaker}
use Rattle.std.proofs.lemmas.Option.{get_or_from_slice_get, slice_get-map, slice_get_within}
use Rattle.std.specs.List.{range_with_len}
use Rattle.std.specs.Prelude.{All}
use Rattle.tdf_bind_tables.specs.FlatTables.{FlatTablesOf}
use Rattle.tdf_trace.proofs.Api.{left_is}
use Rattle.tdf_trace.specs.Calls.{HasNoneLeft}
use Rattle.tdf_events.specs.Runnable.{AreOfSignals, signal_formats}
use Rattle.tdf_expr.specs.Frames.{IsOfFormat}
use Rattle.tdf_fixed.specs.Cast.{fraction_of}
use Rattle.tdf_fixed.specs.declared.format.Format.{Format}
use Rattle.tdf_fixed.specs.declared.raw.Raw.{Raw}
use Rattle.tdf_bind.specs.Flat.{IsFlatOf}
use Rattle.tdf_bind.specs.declared.model.Flat.{Flat}
use Rattle.tdf_streams.proofs.Api.{get_inside}
use Rattle.tdf_bind_invariants.specs.Formats.{IsOwnPort, IsSoundModel, PortsHaveFormats}
use Rattle.tdf_sim_history.specs.Cells.{column_spans, samples_done}
use Rattle.tdf_sim_history.specs.Instant.{periods_of}
use Rattle.tdf_trace_rows.specs.Positions.{count_of_spans}
use Rattle.tdf_sim_traces.proofs.Spans.{can_begin, none_left}
use Rattle.tdf_sim_traces.proofs.Taking.{early, since_begins}
use Rattle.tdf_sim_traces.proofs.Telling.{few_traces, told}
use Rattle.tdf_sim_traces.specs.Advanced.{Began, Stayed}
use Rattle.tdf_sim_traces.specs.Events.{IsEventColumn}
use Rattle.tdf_sim_traces.specs.Laws.{AdvancedCanBeTaken, SoundCanBeShown, SoundCanStart}
use Rattle.tdf_sim_traces.specs.Periods.{begins}
use Rattle.tdf_sim_traces.specs.Shown.{IsShownOf}
use Rattle.tdf_sim_traces.specs.Signals.{IsListed}
use Rattle.tdf_sim_traces.specs.declared.signals.TracedSignal.{TracedSignal}
use Rattle.tdf_streams.specs.Cluster.{fraction_of_kind, fraction_of_row, given_at, initial_sample, initial_samples, zero_of_port}
use Rattle.tdf_lang_tree.specs.Pure.{PureTree}
use Rattle.tdf_lang_tree.specs.declared.blocks.PortKind.{PortKind}
use Rattle.tdf_lang_tree.specs.declared.blocks.PortKind.TheVariants.{In, Out, DeIn, DeOut}
use Rattle.tdf_bind_connections.specs.declared.drivers.SignalRow.{SignalRow}
use Rattle.tdf_bind_connections.specs.declared.modules.PortRow.{PortRow}
use Rattle.tdf_sim_history.specs.Rules.{start_world}

-- a format has few places
few_places : (f : Format) → fraction_of f ≤ 120
few_places f = let b : f.wl - f.iwl ≤ 63 = f.fraction_bits in omega (arith, b)

pub few_of : (f : Format) (v : Raw) → IsOfFormat f v → v.frac ≤ 120
few_of f v is = let b = few_places f in let e = is.frac in omega (arith, b, e)

-- values of their signals have few
pub few_values : (formats : List Format) (values : List Raw) → AreOfSignals formats values → All (λ (v : Raw). v.frac ≤ 120) values
few_values formats values are k d inside =
    let f = get_inside formats k (let l = are.long in omega (arith, inside, l)) in
    let v = get_inside values k inside in
    subst (λ (x : Raw). x.frac ≤ 120) (sym (get_or_from_slice_get values k v.0 d v.1)) (few_of f.0 v.0 (are.each k f.0 v.0 f.1 v.1))

-- and what signals start with
few_starts : (rows : List SignalRow) → All (λ (v : Raw). v.frac ≤ 120) (map (λ (r : SignalRow). r.start) rows) → All (λ (r : SignalRow). r.start.frac ≤ 120) rows
few_starts rows all k d inside =
    let r = get_inside rows k inside in
    let e = get_or_from_slice_get (map (λ (x : SignalRow). x.start) rows) k r.0.start r.0.start (slice_get-map (λ (x : SignalRow). x.start) rows k ∙ ap (option_map (λ (x : SignalRow). x.start)) r.1) in
    let l = length-map rows (λ (x : SignalRow). x.start) in
    subst (λ (x : SignalRow). x.start.frac ≤ 120) (sym (get_or_from_slice_get rows k r.0 d r.1)) (subst (λ (v : Raw). v.frac ≤ 120) e (all k r.0.start (omega (arith, inside, l))))

pub sound_can_be_shown : SoundCanBeShown
sound_can_be_shown model flat sound is limits runnable = record {
  told = told model flat is limits;
  few = few_traces model flat sound.types is;
  starts = few_starts flat.tables.de_signals (few_values (signal_formats flat) (map (λ (r : SignalRow). r.start) flat.tables.de_signals) runnable.starts);
}

-- initial samples have few places
few_row : (o : Option SignalRow) → fraction_of_row o ≤ 120
few_row None = omega arith
few_row (Some row) = few_places row.format

few_zero : (tables : FlatTablesOf) (port : PortRow) → (zero_of_port tables port).frac ≤ 120
few_zero tables port = go port.kind
  where
    go : (k : PortKind) → fraction_of_kind tables k port.signal ≤ 120
    go In = few_row (slice_get tables.signals port.signal)
    go Out = few_row (slice_get tables.signals port.signal)
    go DeIn = few_row (slice_get tables.de_signals port.signal)
    go DeOut = few_row (slice_get tables.de_signals port.signal)

few_given : (zero : Raw) (k : ℕ) (given : List (ℕ × Raw)) → zero.frac ≤ 120 → All (λ (g : ℕ × Raw). g.1.frac ≤ 120) given → (given_at zero k given).frac ≤ 120
few_given zero k [] few all = few
few_given zero k (g ∷ rest) few all = few_given (if nat_eq g.0 k then g.1 else zero) k rest (go (nat_eq g.0 k)) (All-tail (λ (x : ℕ × Raw). x.1.frac ≤ 120) g rest all)
  where
    go : (b : Bool) → (if b then g.1 else zero).frac ≤ 120
    go true = All-head (λ (x : ℕ × Raw). x.1.frac ≤ 120) g rest all
    go false = few

few_initials : PortsHaveFormats → (model : PureTree) (flat : Flat) → IsSoundModel model → IsFlatOf model flat → (o : Option PortRow) (number : ℕ) → slice_get flat.tables.ports number ≡ o → All (λ (v : Raw). v.frac ≤ 120) (initial_samples flat.tables o)
few_initials formats model flat sound is None number at = All-nil (λ (v : Raw). v.frac ≤ 120)
few_initials formats model flat sound is (Some port) number at =
    let own : IsOwnPort flat number port = formats model flat sound is number port at in
    let all : All (λ (g : ℕ × Raw). g.1.frac ≤ 120) port.initials = All-weaker (λ (g : ℕ × Raw). IsOfFormat own.span.format g.1) (λ (g : ℕ × Raw). g.1.frac ≤ 120) (λ g of. few_of own.span.format g.1 of) port.initials own.initials in
    All-map (λ (v : Raw). v.frac ≤ 120) (initial_sample flat.tables port) (range_with_len 0 port.delay) (λ k d inside. few_given (zero_of_port flat.tables port) _ port.initials (few_zero flat.tables port) all)

-- at the start
pub sound_can_start : PortsHaveFormats → SoundCanStart
unfolding count_of_spans
sound_can_start formats model flat kind firsts turns clock s sound is limits un at_zero at long there = record {
  begin = record {
    limits = limits;
    since = λ k t kt. (let c = inside k t kt in omega (arith, c, long));
    clusters = inside;
    can = λ k t c kt begun here. (let l = un.signals.are k t kt in
        let h = get_inside (start_world model flat firsts [] turns).clusters t.cluster (let i = inside k t kt in let e = at.same in omega (arith, i, e)) in
        can_begin l.port model flat t.cluster t.port l.drives h.0 c t (at.each t.cluster h.0 c h.1 here) refl l.module_is limits clock.time (omega (arith, at_zero)));
    none = λ k t kt begun place u there same. (let e = left_is [] [] u (un.tracking.tracked place u there) in omega (arith, e));
    once = un.signals.once;
  };
  width = (let w = un.tracking.width in let c = un.columns in let a = ap (λ x. length x.variables) un.trace.about in omega (arith, w, c, a));
  upto = un.trace.start;
  few = λ k t kt. few_initials formats model flat sound is (slice_get flat.tables.ports t.port) t.port refl;
}
  where
    inside : (k : ℕ) (t : TracedSignal) → slice_get s.signals.items k ≡ Some t → t.cluster < length clock.clusters
    inside k t kt = let l = un.signals.are k t kt in let c = l.drives.traced.inside in let m = there l.port.«module» in omega (arith, c, m)

-- at an instant
pub advanced_can_be_taken : AdvancedCanBeTaken
advanced_can_be_taken model flat start w v clock traced values s is limits shown adv steady at long soon upto since few of = record {
  begin = λ later. record {
    limits = limits;
    since = λ k t kt. (let c = inside k t kt in omega (arith, c, long));
    clusters = inside;
    can = λ k t c kt begun here. (let l = shown.signals.are k t kt in
        let g = get_inside v.clusters t.cluster (let i = inside k t kt in let e = at.same in omega (arith, i, e)) in
        can_begin l.port model flat t.cluster t.port l.drives g.0 c t (at.each t.cluster g.0 c g.1 here) refl l.module_is limits clock.time soon);
    none = λ k t kt begun. none later k t kt begun;
    once = shown.signals.once;
  };
  since = since;
  upto = upto;
  width = (let a = shown.width in let b = shown.columns in omega (arith, a, b));
  few = few;
  columns = λ k e ke. (let x : IsEventColumn flat.tables.traces _ e = shown.events.are k e ke in
      let i = slice_get_within flat.tables.traces e.column x.row x.there in let c = shown.columns in omega (arith, i, c));
  signals = λ k e ke. (let x : IsEventColumn flat.tables.traces _ e = shown.events.are k e ke in
      let t = (told model flat is limits).events e.column x.row x.there x.event in let l = of.long in
      let m = length-map flat.tables.de_signals (λ (row : SignalRow). row.format) in let q = x.signal_is in omega (arith, t, l, m, q));
  few_values = few_values (signal_formats flat) values of;
}
  where
    shown_at : (k : ℕ) (t : TracedSignal) → slice_get s.signals.items k ≡ Some t → (l : IsListed flat t) × IsShownOf model flat start.shown w.clusters t.cluster t.port l.port shown.spans shown.samples s.tracking.list
    shown_at k t kt = let l = shown.signals.are k t kt in (l, shown.each t.cluster t.port l.port l.drives)

    inside : (k : ℕ) (t : TracedSignal) → slice_get s.signals.items k ≡ Some t → t.cluster < length clock.clusters
    inside k t kt = let x = (shown_at k t kt).1 in let i = slice_get_within w.clusters t.cluster x.cluster x.there in let e = adv.same in let f = at.same in omega (arith, i, e, f)

    none : 0 < clock.time → (k : ℕ) (t : TracedSignal) → slice_get s.signals.items k ≡ Some t → begins clock t ≡ true → HasNoneLeft t.signal s.tracking.list
    none later k t kt begun place u there same =
        let x = shown_at k t kt in
        let g = get_inside v.clusters t.cluster (let i = inside k t kt in let e = at.same in omega (arith, i, e)) in
        let now : g.0.since ≡ clock.time = since_begins model flat clock start w v limits s shown traced adv at later (λ k t kt. (let c = inside k t kt in omega (arith, c, long))) inside k t g.0 kt g.1 begun in
        elim (adv.clusters t.cluster x.1.cluster g.0 x.1.there g.1) [
          | Stayed over origin since_is old new ↦ absurd (let e = early model flat clock start w v limits s shown traced adv at t.cluster x.1.cluster g.0 x.1.there since_is in omega (arith, e, now, later))
          | Began over origin since_is old ↦ (
              let l : u.stamps.left ≡ count_of_spans (shown.spans u.signal) - length (shown.samples u.signal) = left_is (shown.spans u.signal) (shown.samples u.signal) u (shown.holds.tracked place u there) in
              let e : u.signal ≡ x.0.port.signal = same ∙ x.0.signal_is in
              let p : count_of_spans (shown.spans u.signal) ≡ count_of_spans (column_spans x.0.port x.1.start x.1.cluster.origin (periods_of x.1.cluster)) = ap (λ k. count_of_spans (shown.spans k)) e ∙ ap count_of_spans x.1.spans_are in
              let m : length (shown.samples u.signal) ≡ samples_done x.1.start x.0.port x.1.cluster = ap (λ k. length (shown.samples k)) e ∙ x.1.samples_are.many in
              let q = none_left x.0.port model flat t.cluster t.port x.0.drives x.1.cluster x.1.start clock.time (steady.each t.cluster x.1.cluster x.1.there) x.1.first over in
              omega (arith, l, p, m, q))
        ]
