use Rattle.std.proofs.Common.{rules, ◌≡◌, ◌∙◌, [], List, ℕ, ap, length, map, sym, subst}
use Rattle.tdf_sim_instants.specs.Below.{ClusterOf}
use Rattle.tdf_saved.specs.State.{ClusterStateOf, SnapshotOf}
use Rattle.tdf_saved.specs.declared.err.StateErr.TheVariants.{Bad}
use Rattle.tdf_sim_runs.proofs.Judged.{are_states_at}
use Rattle.tdf_sim_runs.proofs.Refused.{same_error}
use Rattle.tdf_sim_runs.proofs.ReopenedTelling.{stand_by}
use Rattle.tdf_sim_runs.proofs.ready.stand.Goals as goal
use Rattle.tdf_sim_runs.specs.machine.Standing.{clock_in}
use Rattle.tdf_sim_shown.specs.Below.{AllGoOnFromStates, AreStatesAt, resumed_clusters}
use Rattle.tdf_sim_shown.specs.Columns.{AreGoodColumns, WhereTheyStand, rows_among}

pub restored_clusters-requires-clause-sound : goal.restored_clusters-requires-clause-sound
restored_clusters-requires-clause-sound c = record { model = c.requires.can.model; sound = c.requires.can.of.sound; is = c.requires.can.of.is }

pub restored_clusters-requires-clause-all : goal.restored_clusters-requires-clause-all
restored_clusters-requires-clause-all c =
    let states : c.deref.result.now ≡ c.args.snapshot.now.clusters = search rules in
    ap (λ (l : List ClusterStateOf). length l) states ∙ c.requires.members.clusters

pub rows_in-requires-clause-since : goal.rows_in-requires-clause-since
rows_in-requires-clause-since c =
    let states : c.deref-2.result.now ≡ c.args.snapshot.now.clusters = search rules in
    c.deref-3.ensures.value ∙ c.in_ok-since.ensures ∙ ap (λ (l : List ClusterStateOf). map (λ (s : ClusterStateOf). s.start) l) states

pub rows_in-requires-clause-clusters : goal.rows_in-requires-clause-clusters
rows_in-requires-clause-clusters c =
    let states : c.deref.result.now ≡ c.args.snapshot.now.clusters = search rules in
    subst (λ (l : List ClusterOf). AllGoOnFromStates c.args.flat.now c.args.snapshot.now.clusters c.args.snapshot.now.time l) (sym c.deref-4.ensures.value)
    (subst (λ (l : List ClusterStateOf). AllGoOnFromStates c.args.flat.now l c.args.snapshot.now.time c.in-Ok.clusters.items) states
    (subst (λ (s : SnapshotOf). AllGoOnFromStates c.args.flat.now c.deref.result.now s.time c.in-Ok.clusters.items) c.snapshot.view_is c.in-Ok.ensures.made))

pub returns-in-Err-clause-bad : goal.returns-in-Err-clause-bad
returns-in-Err-clause-bad c = λ bad model firsts m valid.
    (let states : c.deref.result.now ≡ c.args.snapshot.now.clusters = search rules in
    c.in-Err.ensures.bad (same_error c.in-Err.error Bad bad)
    (subst (λ (s : SnapshotOf). AreStatesAt c.args.flat.now c.deref.result.now s.time) (sym c.snapshot.view_is)
    (subst (λ (l : List ClusterStateOf). AreStatesAt c.args.flat.now l c.args.snapshot.now.time) (sym states) (are_states_at c.args.flat.now c.args.snapshot.now firsts valid.clusters))))

pub returns-in-Ok-rows_in-clause-stands : goal.returns-in-Ok-rows_in-clause-stands
returns-in-Ok-rows_in-clause-stands c =
    let s = c.args.snapshot.now in
    let states : c.deref.result.now ≡ c.args.snapshot.now.clusters = search rules in
    let states_too : c.deref-2.result.now ≡ c.args.snapshot.now.clusters = search rules in
    record {
      since = c.in_ok-since.ensures ∙ ap (λ (l : List ClusterStateOf). map (λ (x : ClusterStateOf). x.start) l) states_too;
      clusters = subst (λ (l : List ClusterStateOf). AllGoOnFromStates c.args.flat.now l c.args.snapshot.now.time c.in-Ok.clusters.items) states
          (subst (λ (y : SnapshotOf). AllGoOnFromStates c.args.flat.now c.deref.result.now y.time c.in-Ok.clusters.items) c.snapshot.view_is c.in-Ok.ensures.made);
      rows = subst (λ (l : List ClusterOf). WhereTheyStand c.args.flat.now (clock_in s c.in_ok-since.since.items l) (λ hs. c.in-Ok-rows_in.rows ≡ rows_among c.args.flat.now hs s.time)) c.deref-4.ensures.value
          (subst (λ (l : List ℕ). WhereTheyStand c.args.flat.now (clock_in s l c.deref-4.result.now) (λ hs. c.in-Ok-rows_in.rows ≡ rows_among c.args.flat.now hs s.time)) c.deref-3.ensures.value c.in-Ok-rows_in.ensures.rows);
      good = subst (λ (l : List ClusterOf). WhereTheyStand c.args.flat.now (clock_in s c.in_ok-since.since.items l) (λ hs. AreGoodColumns c.args.flat.now hs s)) c.deref-4.ensures.value
          (subst (λ (l : List ℕ). WhereTheyStand c.args.flat.now (clock_in s l c.deref-4.result.now) (λ hs. AreGoodColumns c.args.flat.now hs s)) c.deref-3.ensures.value (c.in-Ok-rows_in.ensures.good (search rules)));
    }

pub returns-in-Err-rows_in-clause-bad : goal.returns-in-Err-rows_in-clause-bad
returns-in-Err-rows_in-clause-bad c = λ bad model firsts m valid.
    (let s = c.args.snapshot.now in
    let states : c.deref.result.now ≡ c.args.snapshot.now.clusters = search rules in
    let states_too : c.deref-2.result.now ≡ c.args.snapshot.now.clusters = search rules in
    let since : c.deref-3.result.now ≡ map (λ (x : ClusterStateOf). x.start) c.args.snapshot.now.clusters =
    c.deref-3.ensures.value ∙ c.in_ok-since.ensures ∙ ap (λ (l : List ClusterStateOf). map (λ (x : ClusterStateOf). x.start) l) states_too in
    let go : AllGoOnFromStates c.args.flat.now c.args.snapshot.now.clusters c.args.snapshot.now.time c.deref-4.result.now =
    subst (λ (l : List ClusterOf). AllGoOnFromStates c.args.flat.now c.args.snapshot.now.clusters c.args.snapshot.now.time l) (sym c.deref-4.ensures.value)
    (subst (λ (l : List ClusterStateOf). AllGoOnFromStates c.args.flat.now l c.args.snapshot.now.time c.in-Ok.clusters.items) states
    (subst (λ (s : SnapshotOf). AllGoOnFromStates c.args.flat.now c.deref.result.now s.time c.in-Ok.clusters.items) c.snapshot.view_is c.in-Ok.ensures.made)) in
    c.in-Err-rows_in.ensures.bad (same_error c.in-Err-rows_in.error Bad bad) model (resumed_clusters model c.args.flat.now firsts s [])
    (stand_by c.args.flat.now s c.deref-3.result.now c.deref-4.result.now c.requires.can c.requires.times c.requires.members since go c.law_restored.ensures.clusters c.law_restored.ensures.theirs model firsts m valid.clusters)
    (record { each = valid.columns.each; alike = valid.alike }))
