use Rattle.std.proofs.Common.{◌≡◌, ◌∙◌, ◌-◌, [], ap, sym, subst}
use Rattle.tdf_events.specs.Kernel.{KernelOf, side_of}
use Rattle.tdf_events.specs.State.{IsKernelState, resumed_side}
use Rattle.tdf_saved.specs.State.{SnapshotOf}
use Rattle.tdf_saved.specs.declared.err.StateErr.TheVariants.{Bad}
use Rattle.tdf_sim_runs.proofs.Clock.{in_progress, since_long}
use Rattle.tdf_sim_runs.proofs.Reopening.{can_go_with, can_reopen, from_rows, have_values, moved, plans, reopens, states_fit, still_valid}
use Rattle.tdf_sim_runs.proofs.Refused.{same_error}
use Rattle.tdf_sim_runs.proofs.restoring.opened.Goals as goal
use Rattle.tdf_sim_runs.specs.machine.Standing.{clock_in}
use Rattle.tdf_sim_shown.specs.Below.{ClockAt, resumed_world, variables_of}
use Rattle.tdf_sim_runs.specs.Running.{CanGoOn, IsRunning, IsRunningAt}
use Rattle.tdf_sim_shown.specs.Resumed.{CanGoOnFrom, HaveEventValues, LeavesSince, ShowsResumed}
use Rattle.tdf_trace.specs.States.{AreColumnStates, AreStampedFrom}

pub shown_from_columns-requires-clause-can : goal.shown_from_columns-requires-clause-can
shown_from_columns-requires-clause-can c = subst (λ (s : SnapshotOf). CanGoOnFrom c.args.flat.now (clock_in s c.deref.result.now c.deref-2.result.now)) (sym c.snapshot.view_is)
    (can_go_with c.args.flat.now c.args.snapshot c.args.standing c.requires.can c.requires.times c.requires.members c.requires.stands c.law_restored.ensures.clusters c.law_restored.ensures.plans c.law_restored.ensures.theirs
    c.law_can.ensures.shown c.deref.result.now c.deref-2.result.now c.deref.ensures.value c.deref-2.ensures.value)

pub shown_from_columns-requires-clause-values : goal.shown_from_columns-requires-clause-values
shown_from_columns-requires-clause-values c =
    subst (HaveEventValues c.args.flat.now.tables.traces) (sym c.values.ensures) (have_values c.args.flat.now c.args.snapshot c.args.standing c.requires.can c.requires.times c.requires.members c.requires.stands c.law_restored.ensures.clusters c.law_restored.ensures.plans c.law_restored.ensures.theirs
    c.law_can.ensures.shown c.in-Ok.kernel c.in-Ok.ensures.kernel)

pub shown_from_columns-requires-clause-from : goal.shown_from_columns-requires-clause-from
shown_from_columns-requires-clause-from c = subst (λ (s : SnapshotOf). AreStampedFrom c.args.standing.rows s.columns) (sym c.snapshot.view_is)
    (from_rows c.args.flat.now c.args.snapshot c.args.standing c.requires.can c.requires.times c.requires.members c.requires.stands c.law_restored.ensures.clusters c.law_restored.ensures.plans c.law_restored.ensures.theirs
    c.law_can.ensures.shown)

pub returns-in-Err-clause-bad : goal.returns-in-Err-clause-bad
returns-in-Err-clause-bad c = λ bad model firsts m valid. c.in-Err.ensures.bad (same_error c.in-Err.error Bad bad)
    (subst (λ (s : SnapshotOf). IsKernelState c.args.flat.now s.time s.kernel) (sym c.snapshot.view_is) valid.kernel)

pub returns-in-Err-shown_from_columns-clause-bad : goal.returns-in-Err-shown_from_columns-clause-bad
returns-in-Err-shown_from_columns-clause-bad c = λ bad model firsts m valid.
    c.in-Err-shown_from_columns.ensures.bad (same_error c.in-Err-shown_from_columns.error Bad bad)
    (subst (λ (s : SnapshotOf). AreColumnStates (variables_of c.args.flat.now.tables) s.time s.columns) (sym c.snapshot.view_is) (states_fit c.args.flat.now c.args.snapshot c.args.standing c.requires.can c.requires.times c.requires.members c.requires.stands c.law_restored.ensures.clusters c.law_restored.ensures.plans c.law_restored.ensures.theirs
    c.law_can.ensures.shown model firsts valid))

pub from_parts-requires-clause-sound : goal.from_parts-requires-clause-sound
from_parts-requires-clause-sound c = record { model = c.requires.can.model; sound = c.requires.can.of.sound; is = c.requires.can.of.is }

pub from_parts-requires-clause-since : goal.from_parts-requires-clause-since
from_parts-requires-clause-since c = since_long c.args.flat.now c.args.snapshot c.args.standing.since.items c.args.standing.clusters.items c.requires.can.of.limits c.requires.times c.requires.members c.requires.stands.since c.requires.stands.clusters

pub from_parts-requires-clause-clusters : goal.from_parts-requires-clause-clusters
from_parts-requires-clause-clusters c = in_progress c.args.flat.now c.args.snapshot c.args.standing.since.items c.args.standing.clusters.items c.requires.can.of.limits c.requires.times c.requires.members c.requires.stands.since c.requires.stands.clusters

pub returns-clause-can : goal.returns-clause-can
returns-clause-can c =
    (let shown = c.in-Ok-shown_from_columns in
    let engine = c.in_ok-engine in
    let kernel = subst (λ (s : SnapshotOf). IsKernelState c.args.flat.now s.time s.kernel) c.snapshot.view_is c.in-Ok.ensures.state in
    let fit = subst (λ (s : SnapshotOf). AreColumnStates (variables_of c.args.flat.now.tables) s.time s.columns) c.snapshot.view_is shown.ensures.fit in
    let side : side_of engine.engine.kernel ≡ resumed_side c.args.flat.now c.args.snapshot.time c.args.snapshot.kernel =
    ap (λ (k : KernelOf). side_of k) engine.ensures.kernel ∙ subst (λ (s : SnapshotOf). side_of c.in-Ok.kernel ≡ resumed_side c.args.flat.now s.time s.kernel) c.snapshot.view_is c.in-Ok.ensures.side in
    let values = c.values.ensures ∙ sym (ap (λ (k : KernelOf). k.values) engine.ensures.kernel) in
    let shows = moved c.args.flat.now c.args.snapshot c.args.standing c.requires.can c.requires.times c.requires.members c.requires.stands c.law_restored.ensures.clusters c.law_restored.ensures.plans c.law_restored.ensures.theirs
    c.law_can.ensures.shown
    (λ (k : ClockAt). ShowsResumed c.args.flat.now k c.args.snapshot.columns c.values.result.now c.args.standing.rows shown.shown) c.deref.result.now c.deref-2.result.now c.deref.ensures.value c.deref-2.ensures.value
    (subst (λ (s : SnapshotOf). ShowsResumed c.args.flat.now (clock_in s c.deref.result.now c.deref-2.result.now) s.columns c.values.result.now c.args.standing.rows shown.shown) c.snapshot.view_is shown.ensures.shown) in
    let leaves = moved c.args.flat.now c.args.snapshot c.args.standing c.requires.can c.requires.times c.requires.members c.requires.stands c.law_restored.ensures.clusters c.law_restored.ensures.plans c.law_restored.ensures.theirs
    c.law_can.ensures.shown
    (λ (k : ClockAt). LeavesSince c.args.flat.now k c.args.snapshot.columns c.args.standing.rows shown.shown) c.deref.result.now c.deref-2.result.now c.deref.ensures.value c.deref-2.ensures.value
    (subst (λ (s : SnapshotOf). LeavesSince c.args.flat.now (clock_in s c.deref.result.now c.deref-2.result.now) s.columns c.args.standing.rows shown.shown) c.snapshot.view_is shown.ensures.since) in
    subst (λ (s : SnapshotOf). CanGoOn c.args.flat.now (record { engine = engine.engine; shown = shown.shown; from = s.time; left = s.budget - s.used; news = c.new.result })) (sym c.snapshot.view_is)
    (can_reopen c.args.flat.now c.args.snapshot c.args.standing c.requires.can c.requires.times c.requires.members c.requires.stands c.law_restored.ensures.clusters c.law_restored.ensures.plans c.law_restored.ensures.theirs
    c.law_can.ensures.shown c.law_resumed.ensures.due c.law_resumed.ensures.still c.law_resumed.ensures.start kernel fit
    engine.engine shown.shown engine.ensures.since engine.ensures.clusters side c.values.result.now values engine.ensures.engine.kernel.values shows
    (record { engine = engine.engine; shown = shown.shown; from = c.args.snapshot.time; left = c.args.snapshot.budget - c.args.snapshot.used; news = c.new.result }) c.new.ensures.items engine.ensures.engine engine.ensures.none
    shown.ensures.upto leaves))

pub returns-clause-runs : goal.returns-clause-runs
returns-clause-runs c = λ model firsts m are.
    (let shown = c.in-Ok-shown_from_columns in
    let engine = c.in_ok-engine in
    let kernel = subst (λ (s : SnapshotOf). IsKernelState c.args.flat.now s.time s.kernel) c.snapshot.view_is c.in-Ok.ensures.state in
    let fit = subst (λ (s : SnapshotOf). AreColumnStates (variables_of c.args.flat.now.tables) s.time s.columns) c.snapshot.view_is shown.ensures.fit in
    let side : side_of engine.engine.kernel ≡ resumed_side c.args.flat.now c.args.snapshot.time c.args.snapshot.kernel =
    ap (λ (k : KernelOf). side_of k) engine.ensures.kernel ∙ subst (λ (s : SnapshotOf). side_of c.in-Ok.kernel ≡ resumed_side c.args.flat.now s.time s.kernel) c.snapshot.view_is c.in-Ok.ensures.side in
    let values = c.values.ensures ∙ sym (ap (λ (k : KernelOf). k.values) engine.ensures.kernel) in
    let shows = moved c.args.flat.now c.args.snapshot c.args.standing c.requires.can c.requires.times c.requires.members c.requires.stands c.law_restored.ensures.clusters c.law_restored.ensures.plans c.law_restored.ensures.theirs
    c.law_can.ensures.shown
    (λ (k : ClockAt). ShowsResumed c.args.flat.now k c.args.snapshot.columns c.values.result.now c.args.standing.rows shown.shown) c.deref.result.now c.deref-2.result.now c.deref.ensures.value c.deref-2.ensures.value
    (subst (λ (s : SnapshotOf). ShowsResumed c.args.flat.now (clock_in s c.deref.result.now c.deref-2.result.now) s.columns c.values.result.now c.args.standing.rows shown.shown) c.snapshot.view_is shown.ensures.shown) in
    let runs = reopens c.args.flat.now c.args.snapshot c.args.standing c.requires.can c.requires.times c.requires.members c.requires.stands c.law_restored.ensures.clusters c.law_restored.ensures.plans c.law_restored.ensures.theirs
    c.law_can.ensures.shown c.law_resumed.ensures.due c.law_resumed.ensures.still c.law_resumed.ensures.start kernel fit
    engine.engine shown.shown engine.ensures.since engine.ensures.clusters side c.values.result.now values engine.ensures.engine.kernel.values shows model firsts m are in
    subst (λ (s : SnapshotOf). IsRunningAt model c.args.flat.now (resumed_world model c.args.flat.now firsts c.args.snapshot []) []
    (record { engine = engine.engine; shown = shown.shown; from = s.time; left = s.budget - s.used; news = c.new.result })) (sym c.snapshot.view_is)
    (subst (IsRunning model c.args.flat.now (resumed_world model c.args.flat.now firsts c.args.snapshot []) c.args.snapshot.time engine.engine (c.args.snapshot.budget - c.args.snapshot.used) shown.shown) (sym c.new.ensures.items) runs))

pub returns-clause-valid : goal.returns-clause-valid
returns-clause-valid c = λ model firsts m are ok.
    (let shown = c.in-Ok-shown_from_columns in
    let engine = c.in_ok-engine in
    let kernel = subst (λ (s : SnapshotOf). IsKernelState c.args.flat.now s.time s.kernel) c.snapshot.view_is c.in-Ok.ensures.state in
    let fit = subst (λ (s : SnapshotOf). AreColumnStates (variables_of c.args.flat.now.tables) s.time s.columns) c.snapshot.view_is shown.ensures.fit in
    still_valid c.args.flat.now c.args.snapshot c.args.standing c.requires.can c.requires.times c.requires.members c.requires.stands c.law_restored.ensures.clusters c.law_restored.ensures.plans c.law_restored.ensures.theirs
    c.law_can.ensures.shown model firsts m are kernel fit)

pub returns-clause-plans : goal.returns-clause-plans
returns-clause-plans c = λ ok.
    (let p = plans c.args.flat.now c.args.snapshot c.args.standing c.requires.can c.requires.times c.requires.members c.requires.stands c.law_restored.ensures.clusters c.law_restored.ensures.plans c.law_restored.ensures.theirs
    c.law_can.ensures.shown in
    (p.firsts, p.are))
