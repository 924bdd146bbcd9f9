-- The snapshot of a run that waits is that of its history.
use Rattle.std.proofs.Common.{◌≡◌, ◌⊎◌, ◌∙◌, ◌+◌, ◌-◌, ◌<◌, ◌≤◌, ℕ, Bool, inl, inr, ap, sym, subst, arith}
use Rattle.std.proofs.lemmas.List.{length-map}
use Rattle.tdf_bind.specs.declared.model.Flat.{Flat}
use Rattle.tdf_events.specs.Kernel.{side_of}
use Rattle.tdf_events.specs.Side.{SideOf}
use Rattle.tdf_events.specs.State.{kernel_state_of}
use Rattle.tdf_sim_instants.specs.Below.{IsInPeriod, next_offset, offset_in}
use Rattle.tdf_saved.specs.State.{SnapshotOf}
use Rattle.tdf_sim_history.specs.Cells.{world_before, world_of}
use Rattle.tdf_sim_history.specs.History.{history}
use Rattle.tdf_sim_history.specs.Rules.{rules_of, world_engine}
use Rattle.tdf_sim_history.specs.Telling.{world_told}
use Rattle.tdf_sim_history.specs.World.{World}
use Rattle.tdf_sim_instants.specs.Engine.{HasDoneBefore}
use Rattle.tdf_sim_instants.specs.Times.{due_offset}
use Rattle.tdf_sim_runs.proofs.AtStop.{due_within}
use Rattle.tdf_sim_runs.specs.Saving.{IsSnapshotOf}
use Rattle.tdf_sim_shown.specs.Below.{AreSavedColumns, AreToldStates, AreUpTo, ClustersAreSaved, IsShown, IsSideBefore}
use Rattle.tdf_sim_runs.specs.Running.{CanGoOn}
use Rattle.tdf_sim_runs.specs.declared.running.Running.{Running}
use Rattle.tdf_sim_shown.specs.Saved.{GivesColumns}

module _ (saves : ClustersAreSaved) (flat : Flat) (r : Running) (can : CanGoOn flat r) (turns : ℕ) (vcd : Bool) (s : SnapshotOf) (vcd_is : s.vcd ≡ vcd) (time : s.time ≡ r.from) (used : s.used ≡ turns - r.left) (budget : s.budget ≡ turns)
    (clusters : AreToldStates r.engine.since.items r.engine.clusters.items s.clusters) (kernel : s.kernel ≡ kernel_state_of (side_of r.engine.kernel)) (columns : GivesColumns flat r.shown s.columns) where
  -- all that runs is up to the time
  up_to : AreUpTo r.from r.engine.since.items r.engine.clusters.items
  up_to n t c c_at t_at = record {
    inside = inside before.begun;
    done = before.done;
    next = λ x at. (
        let d : t + due_offset c (next_offset c) ≡ t + x.offset = ap (λ o. t + due_offset c (offset_in o)) at in
        subst (λ k. r.from ≤ k) d late);
  }
    where
      before : HasDoneBefore r.from t c
      before = can.ready.before n t c c_at t_at

      late : r.from ≤ t + due_offset c (next_offset c)
      late = can.ready.clusters n t c c_at t_at

      ends : r.from ≤ t + c.period
      ends = let w = due_within c (can.engine.clusters n c c_at).inside in omega (arith, late, w)

      inside : ((t ≡ 0) × (r.from ≡ 0)) ⊎ (t < r.from) → IsInPeriod t r.from c.period
      inside (inl begin) = inl begin
      inside (inr less) = inr (less, ends)

  side_before : IsSideBefore flat r.from (side_of r.engine.kernel)
  side_before =
      let k = can.engine.kernel in record {
        values = k.values;
        frames = length-map r.engine.kernel.frames _ ∙ k.frames;
        times = k.times;
        triggered = k.triggered;
        waiting = k.waiting;
        none = can.ready.side.none;
        idle = can.ready.side.idle;
      }

  pub is_snapshot_of : IsSnapshotOf flat r turns vcd s
  is_snapshot_of model start handed m run rows =
      let own = world_told run.going.ahead start in
      let w = run.going.world in
      let z : r.from ≡ r.from - 0 = omega arith in
      let on = ap (history (world_engine model flat) 0 own) z ∙ run.going.on.on in
      let now : w ≡ world_before model flat (rules_of model flat) own r.from = sym (ap world_of on) in
      record {
        reached = on;
        vcd_is = vcd_is;
        time_is = time;
        used_is = used ∙ ap (λ k. turns - k) (sym run.going.now.turns);
        budget_is = budget;
        clusters = saves model flat r.from w r.engine.since.items r.engine.clusters.items s.clusters m.limits run.going.now.at can.engine.since up_to clusters;
        side = record {
          is = kernel ∙ ap kernel_state_of run.going.now.side;
          before = subst (IsSideBefore flat r.from) run.going.now.side side_before;
        };
        columns = subst (λ (v : World SideOf). AreSavedColumns model flat own v r.from s.columns) (sym now)
            (columns model own r.from m.is m.limits (subst (λ (v : World SideOf). IsShown model flat own r.from v r.shown) now run.shown) rows);
      }
