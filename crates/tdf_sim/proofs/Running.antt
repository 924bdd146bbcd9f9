-- The model of an accepted tree can run.
use Rattle.tdf_bind_invariants.specs.Formats.{IsSoundModel}
use Rattle.tdf_bind_invariants.specs.Limits.{FlatIsWithinLimits}
use Rattle.tdf_sim_runs.specs.Runs.{CanRun}
use Rattle.tdf_sim_notes.proofs.Api.{firsts_printable}
use Rattle.tdf_events_invariants.specs.Runnable.{SoundIsRunnable}
use Rattle.tdf_sim.proofs.Closed.{closed_top}
use Rattle.tdf_sim.specs.Runs.{IsAcceptedTree}
use Rattle.tdf_sim.specs.declared.sim.Sim.{Sim}
use Rattle.tdf_lang_tree.specs.Pure.{PureTree}

pub sound_model : (tree : PureTree) (sim : Sim) → IsAcceptedTree tree sim → IsSoundModel tree
sound_model tree sim is = record {
  kept = is.kept;
  names = is.accepted.lines.names;
  types = is.accepted.lines.types;
  closed = closed_top tree is.formed;
}

-- the model of a tree can run, and so it is one of this tree
abbrev pub can_run : FlatIsWithinLimits → SoundIsRunnable → (tree : PureTree) (sim : Sim) → IsAcceptedTree tree sim → CanRun sim.flat sim.firsts.items
can_run within runnable tree sim is =
    let limits = within tree sim.flat is.kept is.accepted.lines.types is.accepted.is_flat in record {
      model = tree;
      of = record {
        sound = sound_model tree sim is;
        is = is.accepted.is_flat;
        checked = is.accepted.is_flat.bodies;
        limits = limits;
      };
      runnable = runnable tree sim.flat (sound_model tree sim is) is.formed.events is.accepted.is_flat;
      plans = record { all = is.accepted.plans.all; each = is.accepted.plans.each };
      printable = firsts_printable sim.flat sim.firsts.items limits.in_range is.accepted.plans.each;
    }
