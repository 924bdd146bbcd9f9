-- What a run writes, told for the answer of a run, and for two models of one tree.
use Rattle.std.proofs.Common.{◌≡◌, ◌∙◌, ◌+◌, ap, arith}
use Rattle.std.proofs.lemmas.Option.{slice_get_within}
use Rattle.tdf_sim_unique.specs.Laws.{AnswersWriteAlike, AreFirstPlans, RunsWriteTheSame, AreModelsAlike as SayTheSame}
use Rattle.tdf_base.specs.declared.resolution.Resolution.{Resolution}
use Rattle.tdf_bind_tables.specs.FlatTables.{FlatTablesOf}
use Rattle.tdf_dynamic_first.specs.Laws.{ClustersAreWhole, FlatIsPlannable}
use Rattle.tdf_bind.specs.declared.model.Flat.{Flat}
use Rattle.tdf_sim_history.specs.Texts.{run_trace}
use Rattle.tdf_bind_invariants.specs.Limits.{FlatIsWithinLimits}
use Rattle.tdf_sim_runs.specs.Runs.{model_about}
use Rattle.tdf_sim.proofs.Clusters.{has_cluster}
use Rattle.tdf_sim.proofs.Plannable.{can_be_planned}
use Rattle.tdf_sim.specs.Accepted.{IsAccepted}
use Rattle.tdf_sim.specs.Laws.{AnswersRunAlike, ModelsAreAlike, RunsAreAlike}
use Rattle.tdf_sim.specs.declared.sim.Sim.{Sim}
use Rattle.tdf_trace.specs.Writings.{AboutSeen, writing_of}
use Rattle.tdf_lang_tree.specs.Kept.{IsKept}
use Rattle.tdf_lang_tree.specs.Pure.{PureTree}
use Rattle.tdf_trace_rows.specs.declared.kinds.TraceKind.{TraceKind}
use Rattle.tdf_sim_history.specs.Rules.{rules_of, start_world}

pub same_about : (kind : TraceKind) (a b : Flat) → a.tables ≡ b.tables → a.resolution ≡ b.resolution → model_about kind a ≡ model_about kind b
same_about kind a b tables unit =
    ap (λ (t : FlatTablesOf). model_about kind (record a { tables = t })) tables
    ∙ ap (λ (u : Resolution). model_about kind (record b { resolution = u })) unit

module _ (models : ModelsAreAlike) where
  pub say_the_same : (tree : PureTree) (one other : Sim) → IsKept tree → IsAccepted tree one → IsAccepted tree other
      → SayTheSame tree one.flat other.flat one.firsts.items other.firsts.items
  say_the_same tree one other kept a b = let same = models tree one other kept a b in record {
    one = a.is_flat;
    other = b.is_flat;
    tables = same.tables;
    unit = same.unit;
    attrs = same.attrs;
    plans = same.plans;
  }

-- a run of either of two models of one tree writes the same
module _ (models : ModelsAreAlike) (writes : RunsWriteTheSame) where
  pub runs_alike : RunsAreAlike
  runs_alike tree one other kept a b ahead kind stop turns =
      let say = say_the_same models tree one other kept a b in
      let runs = writes tree one.flat other.flat one.firsts.items other.firsts.items say ahead (writing_of (model_about kind one.flat)) stop turns in record {
        alike = record {
          trace = runs.trace ∙ ap (λ (about : AboutSeen). run_trace (writing_of about) tree other.flat (rules_of tree other.flat) (start_world tree other.flat other.firsts.items ahead turns) stop)
              (same_about kind one.flat other.flat say.tables say.unit);
          notes = runs.notes;
          end = runs.end;
        };
        answers = runs.answers;
      }

module _ (whole : ClustersAreWhole) (plannable : FlatIsPlannable) where
  pub first_plans : (tree : PureTree) (sim : Sim) → IsKept tree → IsAccepted tree sim → AreFirstPlans sim.flat sim.firsts.items
  first_plans tree sim kept accepted = record {
    has = λ n first at. (
        let low = slice_get_within sim.firsts.items n first at in
        let all = accepted.plans.all in
        (has_cluster whole sim.flat (n + 1) (can_be_planned plannable tree sim.flat kept accepted.lines accepted.is_flat) (omega arith) (omega (arith, low, all))).has);
    each = accepted.plans.each;
  }

-- and so do two runs of one model that are told the answers of their boundaries
module _ (within : FlatIsWithinLimits) (whole : ClustersAreWhole) (plannable : FlatIsPlannable) (writes : AnswersWriteAlike) where
  pub answers_run_alike : AnswersRunAlike
  answers_run_alike tree sim kept accepted ahead others kind stop turns answers same =
      let runs = writes tree sim.flat sim.firsts.items kept accepted.is_flat (within tree sim.flat kept accepted.lines.types accepted.is_flat) (first_plans whole plannable tree sim kept accepted)
      ahead others (writing_of (model_about kind sim.flat)) stop turns answers same in record {
        trace = runs.trace;
        notes = runs.notes;
        end = runs.end;
      }
