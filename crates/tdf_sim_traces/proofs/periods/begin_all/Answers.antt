use Rattle.std.proofs.Common.{rules, ◌≡◌, ◌<◌, ◌+◌, true, false, Some, length, slice_get, slice_index_or, sym, subst}
use Rattle.std.proofs.lemmas.Option.{slice_get-get_or}
use Rattle.tdf_sim_refinement.specs.Below.{ClusterOf}
use Rattle.tdf_sim_traces.proofs.Beginning.{begins_more, begins_passed}
use Rattle.tdf_sim_traces.proofs.periods.begin_all.Goals as goal
use Rattle.tdf_sim_traces.proofs.periods.begin_all.Goals.{then-clock-place+in_ok-begin_one, else-clock-place}
use Rattle.tdf_trace.specs.Tracked.{TrackingOf}
use Rattle.tdf_sim_traces.specs.Periods.{ClockAt, begins, clock_of}
use Rattle.tdf_sim_traces.specs.machine.Beginning.{IsBeginning}
use Rattle.tdf_trace.specs.Stands.{TraceSeen}
use Rattle.tdf_sim_traces.specs.declared.signals.TracedSignal.{TracedSignal}

pub begin_one-requires-clause-can : goal.begin_one-requires-clause-can
begin_one-requires-clause-can c =
    let less : c.loop-k.k < length c.args.signals.now = search rules in
    let t : TracedSignal = slice_index_or c.args.signals.now c.loop-k.k (record { cluster = 0; «module» = 0; port = 0; signal = 0 }) in
    let at : slice_get c.args.signals.now c.loop-k.k ≡ Some t = slice_get-get_or c.args.signals.now c.loop-k.k _ less in
    let begun : begins (clock_of c.args.clock.now) t ≡ true = search rules in
    let inside : t.cluster < length c.args.clock.now.clusters.now = c.requires.can.clusters c.loop-k.k t at in
    let cluster : ClusterOf = slice_index_or c.args.clock.now.clusters.now t.cluster c.index-clock-place.result in
    let here : slice_get c.args.clock.now.clusters.now t.cluster ≡ Some cluster = slice_get-get_or c.args.clock.now.clusters.now t.cluster c.index-clock-place.result inside in
    c.requires.can.can c.loop-k.k t cluster at begun here

pub begin_one-requires-clause-none : goal.begin_one-requires-clause-none
begin_one-requires-clause-none c =
    let less : c.loop-k.k < length c.args.signals.now = search rules in
    let t : TracedSignal = slice_index_or c.args.signals.now c.loop-k.k (record { cluster = 0; «module» = 0; port = 0; signal = 0 }) in
    let at : slice_get c.args.signals.now c.loop-k.k ≡ Some t = slice_get-get_or c.args.signals.now c.loop-k.k _ less in
    let begun : begins (clock_of c.args.clock.now) t ≡ true = search rules in
    c.loop-k.invariant.none c.loop-k.k t (search rules) at begun

pub loop-k-preserved : goal.loop-k-preserved
loop-k-preserved c =
    let less : c.loop-k.k < length c.args.signals.now = search rules in
    let t : TracedSignal = slice_index_or c.args.signals.now c.loop-k.k (record { cluster = 0; «module» = 0; port = 0; signal = 0 }) in
    let at : slice_get c.args.signals.now c.loop-k.k ≡ Some t = slice_get-get_or c.args.signals.now c.loop-k.k _ less in
    let inside : t.cluster < length c.args.clock.now.clusters.now = c.requires.can.clusters c.loop-k.k t at in
    let clock : ClockAt = (clock_of c.args.clock.now) in
    elim c.if-clock-place.branch [
      | then-clock-place+in_ok-begin_one w ↦ (
          let begun : begins (clock_of c.args.clock.now) t ≡ true = search rules in
          let cluster : ClusterOf = slice_index_or c.args.clock.now.clusters.now t.cluster w.index-clock-place.result in
          let here : slice_get c.args.clock.now.clusters.now t.cluster ≡ Some cluster = slice_get-get_or c.args.clock.now.clusters.now t.cluster w.index-clock-place.result inside in
          subst (λ (x : TrackingOf). IsBeginning c.args.flat.now.tables clock c.args.signals.now (c.loop-k.k + 1) c.args.tracking.now x c.args.trace.now c.if-clock-place.trace) (sym w.tracking-is)
          (subst (λ (y : TraceSeen). IsBeginning c.args.flat.now.tables clock c.args.signals.now (c.loop-k.k + 1) c.args.tracking.now w.begin_one.new.tracking c.args.trace.now y) (sym w.trace-is)
          (begins_more c.args.flat.now.tables clock c.args.signals.now c.loop-k.k t c.requires.can.once at cluster c.args.tracking.now c.loop-k.tracking w.begin_one.new.tracking c.args.trace.now c.loop-k.trace w.begin_one.new.trace begun here c.loop-k.invariant
          w.in_ok-begin_one.ensures.took w.begin_one.ensures.started w.begin_one.ensures.width w.begin_one.ensures.upto w.begin_one.ensures.stage w.begin_one.ensures.about)))
      | else-clock-place w ↦ (
          let begun : begins (clock_of c.args.clock.now) t ≡ false = search rules in
          subst (λ (x : TrackingOf). IsBeginning c.args.flat.now.tables clock c.args.signals.now (c.loop-k.k + 1) c.args.tracking.now x c.args.trace.now c.if-clock-place.trace) (sym w.tracking-is)
          (subst (λ (y : TraceSeen). IsBeginning c.args.flat.now.tables clock c.args.signals.now (c.loop-k.k + 1) c.args.tracking.now c.loop-k.tracking c.args.trace.now y) (sym w.trace-is)
          (begins_passed c.args.flat.now.tables clock c.args.signals.now c.loop-k.k t c.requires.can.once at c.args.tracking.now c.loop-k.tracking c.args.trace.now c.loop-k.trace begun c.loop-k.invariant)))
    ]
