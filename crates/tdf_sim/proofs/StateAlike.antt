-- Saving and going on do not depend on which model of a tree is used.
use Rattle.std.proofs.Common.{◌≡◌, ◌∙◌, ℕ, ◌-◌, List, ◌++◌, ap, arith}
use Rattle.tdf_bind_invariants.specs.Limits.{FlatIsWithinLimits}
use Rattle.tdf_dynamic_first.specs.Laws.{ClustersAreWhole, FlatIsPlannable}
use Rattle.tdf_dynamic_first.specs.declared.first.First.{First}
use Rattle.tdf_lang_tree.specs.Kept.{IsKept}
use Rattle.tdf_lang_tree.specs.Pure.{PureTree}
use Rattle.tdf_saved.specs.State.{SnapshotOf}
use Rattle.tdf_sim.proofs.Writing.{first_plans, same_about, say_the_same}
use Rattle.tdf_sim.specs.Accepted.{IsAccepted}
use Rattle.tdf_sim.specs.Laws.{ModelsAreAlike}
use Rattle.tdf_sim.specs.declared.sim.Sim.{Sim}
use Rattle.tdf_sim_history.specs.World.{Change}
use Rattle.tdf_sim_notes.specs.Ending.{HaveAnswers}
use Rattle.tdf_sim_runs.specs.Parts.{part_cells}
use Rattle.tdf_sim_runs.specs.Below.{rows_from_saved}
use Rattle.tdf_sim_runs.specs.Rest.{rest_trace}
use Rattle.tdf_sim_runs.specs.Runs.{model_about}
use Rattle.tdf_sim_unique.specs.PartLaws.{AreFlatsAlike, FlatsHaveMembers, FlatsHaveValid, PartsWriteOne, PartsWriteTheSame, RestsAreTold, RestsWriteOne, RestsWriteTheSame, end_told, rows_told}
use Rattle.tdf_sim.specs.StateLaws.{AnswersAreAlike, MembersAreAlike, PartsAreAlike, RestsAreAlike, SnapshotsAreOne, ValidIsAlike}
use Rattle.tdf_sim.specs.States.{saved_world}
use Rattle.tdf_trace.specs.Writings.{AboutSeen, head_of, rows_text, writing_of}

-- ---- up to a stop

module _ (within : FlatIsWithinLimits) (whole : ClustersAreWhole) (plannable : FlatIsPlannable) (models : ModelsAreAlike) (law : PartsWriteOne) where
  write_one : (tree : PureTree) (a b : Sim) → IsKept tree → IsAccepted tree a → IsAccepted tree b → (ahead told : List (List Change)) (stop turns : ℕ)
      → HaveAnswers tree a.flat a.firsts.items ahead stop turns → HaveAnswers tree b.flat b.firsts.items told stop turns
      → PartsWriteTheSame tree a.flat b.flat a.firsts.items b.firsts.items ahead told stop turns
  write_one tree a b kept one other ahead told stop turns x y = law tree a.flat b.flat a.firsts.items b.firsts.items ahead told stop turns kept
      (say_the_same models tree a b kept one other) (within tree b.flat kept other.lines.types other.is_flat) (first_plans whole plannable tree b kept other) x y

  pub parts_are_alike : PartsAreAlike
  parts_are_alike tree a b kept one other ahead told stop turns x y =
      let w = write_one tree a b kept one other ahead told stop turns x y in
      let say = say_the_same models tree a b kept one other in record {
        end = w.end;
        rows = w.rows;
        rows_too = w.rows_too;
        trace = λ kind rows low.
            ap (λ (t : List ℕ). head_of (model_about kind a.flat) ++ t) (w.text (writing_of (model_about kind a.flat)).line (rows - 0) (omega (arith, low)))
            ∙ ap (λ (about : AboutSeen). head_of about ++ rows_text about (part_cells tree b.flat b.firsts.items told stop turns) 0 rows)
            (same_about kind a.flat b.flat say.tables say.unit);
        notes = λ i. w.plans i ++ w.news i;
      }

  pub snapshots_are_one : SnapshotsAreOne
  snapshots_are_one tree a b kept one other stop turns vcd s t x y =
      (write_one tree a b kept one other x.ahead y.ahead stop turns x.answers y.answers).snapshot x.world y.world vcd s t x.is y.is

-- ---- from a snapshot on

module _ (models : ModelsAreAlike) where
  flats_alike : (tree : PureTree) (a b : Sim) → IsKept tree → IsAccepted tree a → IsAccepted tree b → AreFlatsAlike tree a.flat b.flat
  flats_alike tree a b kept one other = let same = models tree a b kept one other in record {
    one = one.is_flat;
    other = other.is_flat;
    tables = same.tables;
    unit = same.unit;
  }

  pub members_are_alike : FlatsHaveMembers → MembersAreAlike
  members_are_alike law tree a b kept one other = law tree a.flat b.flat (flats_alike tree a b kept one other)

  pub valid_is_alike : FlatsHaveValid → ValidIsAlike
  valid_is_alike law tree a b kept one other firsts s valid = law tree a.flat b.flat firsts s (flats_alike tree a b kept one other) valid

  pub answers_are_alike : RestsAreTold → AnswersAreAlike
  answers_are_alike law tree a b kept one other firsts s ahead stop told = record {
    answers = law tree a.flat b.flat firsts s ahead stop (flats_alike tree a b kept one other) told.answers;
    counts = told.counts;
  }

-- the same rows and the same tail
module _ (tree : PureTree) (a b : Sim) (firsts others : List First) (s : SnapshotOf) (ahead told : List (List Change)) (stop : ℕ)
    (w : RestsWriteTheSame tree a.flat b.flat firsts others s ahead told stop) where
  same_rest : (about other : AboutSeen) → about ≡ other → rest_trace tree a.flat about (saved_world tree a firsts s) ahead (rows_from_saved tree a.flat firsts s) stop
      ≡ rest_trace tree b.flat other (saved_world tree b others s) told (rows_from_saved tree b.flat others s) stop
  same_rest about other same =
      (λ i. w.rows (writing_of about).line (rows_from_saved tree a.flat firsts s) i ++ (writing_of about).tail (w.time i))
      ∙ (λ i. rows_told tree b.flat others s told stop (writing_of (same i)).line (w.from i) ++ (writing_of (same i)).tail (end_told tree b.flat others s told stop))

module _ (models : ModelsAreAlike) (within : FlatIsWithinLimits) (law : RestsWriteOne) where
  pub rests_are_alike : RestsAreAlike
  rests_are_alike tree a b kept one other firsts others s ahead told stop valid valid_too x y =
      let w = law tree a.flat b.flat firsts others s ahead told stop kept (flats_alike models tree a b kept one other)
      (within tree b.flat kept other.lines.types other.is_flat) valid valid_too x.answers y.answers in
      let say = models tree a b kept one other in record {
        end = w.end;
        trace = λ kind. same_rest tree a b firsts others s ahead told stop w (model_about kind a.flat) (model_about kind b.flat) (same_about kind a.flat b.flat say.tables say.unit);
        notes = w.news;
      }
