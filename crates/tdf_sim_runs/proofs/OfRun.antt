-- The snapshot of a run that waits at its stop is that of the run, by what was asked for.
use Rattle.std.proofs.Common.{ℕ, List, [], Option, sym, subst}
use Rattle.tdf_bind.specs.declared.model.Flat.{Flat}
use Rattle.tdf_dynamic_first.specs.declared.first.First.{First}
use Rattle.tdf_lang_tree.specs.Pure.{PureTree}
use Rattle.tdf_saved.specs.State.{SnapshotOf}
use Rattle.tdf_sim_history.specs.Rules.{rules_of, start_world}
use Rattle.tdf_sim_history.specs.Texts.{notes_to}
use Rattle.tdf_sim_history.specs.World.{Change}
use Rattle.tdf_sim_instants.specs.InstantLaws.{IsModelOf}
use Rattle.tdf_sim_runs.specs.Parts.{PausesAt}
use Rattle.tdf_sim_runs.specs.Paused.{IsPausedAt, IsSnapshotOfRun}
use Rattle.tdf_sim_runs.specs.Saving.{is_vcd}
use Rattle.tdf_sim_runs.specs.declared.paused.Paused.{Paused}
use Rattle.tdf_trace_rows.specs.declared.kinds.TraceKind.{TraceKind}

module _ (kind : TraceKind) (model : PureTree) (flat : Flat) (firsts : List First) (ahead : List (List Change)) (stop turns : ℕ) (a b n o : Option (List ℕ)) (p : Paused) (at : PausesAt kind model flat firsts ahead stop turns a b n o p) where
  pub own_model : IsModelOf model flat → IsModelOf model p.flat
  own_model m = subst (IsModelOf model) (sym at.flat_is) m

  -- it waits in the history from its own first world
  pub own_start : IsPausedAt model (start_world model p.flat firsts [] p.turns) (notes_to model flat (rules_of model flat) (start_world model flat firsts ahead turns) stop) p
  own_start = subst (λ (f : Flat). IsPausedAt model (start_world model f firsts [] p.turns) (notes_to model flat (rules_of model flat) (start_world model flat firsts ahead turns) stop) p) (sym at.flat_is)
      (subst (λ t. IsPausedAt model (start_world model flat firsts [] t) (notes_to model flat (rules_of model flat) (start_world model flat firsts ahead turns) stop) p) (sym at.turns_is) at.at)

  pub snapshot_of_run : (s : SnapshotOf) → IsSnapshotOfRun model p.flat firsts p.run.from p.turns (is_vcd p.kind) s → IsSnapshotOfRun model flat firsts stop turns (is_vcd kind) s
  snapshot_of_run s is =
      subst (λ (f : Flat). IsSnapshotOfRun model f firsts stop turns (is_vcd kind) s) at.flat_is
      (subst (λ t. IsSnapshotOfRun model p.flat firsts stop t (is_vcd kind) s) at.turns_is
      (subst (λ t. IsSnapshotOfRun model p.flat firsts t p.turns (is_vcd kind) s) at.time_is
      (subst (λ (k : TraceKind). IsSnapshotOfRun model p.flat firsts p.run.from p.turns (is_vcd k) s) at.kind_is is)))
