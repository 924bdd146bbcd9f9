-- What a run of a model writes does not depend on which flat model of it the run uses: where two
-- have equal tables, their compiled bodies need not be equal, but are those of one text. Nor does
-- it depend on which answers of its boundaries the run is told.
-- Source: own.
use Rattle.std.specs.Prelude.{◌≡◌, ◌+◌, ℕ, List, Some, Contains, map, slice_get}
use Rattle.tdf_dynamic_plans.specs.Attributes.{clusters_of}
use Rattle.tdf_dynamic_first.specs.First.{IsFirstPlan}
use Rattle.tdf_dynamic_first.specs.declared.first.First.{First}
use Rattle.tdf_bind.specs.Flat.{IsFlatOf}
use Rattle.tdf_bind.specs.declared.model.Flat.{Flat}
use Rattle.tdf_sim_history.specs.Texts.{run_trace}
use Rattle.tdf_sim_history.specs.World.{Change}
use Rattle.tdf_bind_invariants.specs.Limits.{AreWithinLimits}
use Rattle.tdf_dynamic_texts.specs.Plans.{rows_of_plan}
use Rattle.tdf_sim_notes.specs.Ending.{HaveAnswers, run_end, run_note}
use Rattle.tdf_trace_rows.specs.Rows.{Writing}
use Rattle.tdf_lang_tree.specs.Kept.{IsKept}
use Rattle.tdf_lang_tree.specs.Pure.{PureTree}
use Rattle.tdf_sim_history.specs.Rules.{rules_of, start_world}

-- two flat models of one model, each with the first plans of its clusters, which say the same
pub record AreModelsAlike (model : PureTree) (a b : Flat) (firsts others : List First)
    : Type 0 where
  pub one : IsFlatOf model a
  pub other : IsFlatOf model b
  pub tables : a.tables ≡ b.tables
  pub unit : a.resolution ≡ b.resolution
  pub attrs : map (λ f. f.attrs.rows) firsts ≡ map (λ f. f.attrs.rows) others
  pub plans : map (λ f. rows_of_plan f.plan) firsts ≡ map (λ f. rows_of_plan f.plan) others

-- a run by either writes the same trace, written in some way, and the same notes, and ends alike,
-- where both are told the same of their boundaries; the answers of one are answers of the other
pub record ModelsWriteTheSame (model : PureTree) (a b : Flat) (firsts others : List First)
    (ahead : List (List Change)) (writing : Writing) (stop turns : ℕ) : Type 0 where
  pub trace : run_trace writing model a (rules_of model a)
      (start_world model a firsts ahead turns) stop
      ≡ run_trace writing model b (rules_of model b) (start_world model b others ahead turns) stop
  pub notes : run_note model a firsts ahead stop turns ≡ run_note model b others ahead stop turns
  pub end : run_end model a firsts ahead stop turns ≡ run_end model b others ahead stop turns
  pub answers : HaveAnswers model a firsts ahead stop turns
      → HaveAnswers model b others ahead stop turns

abbrev pub RunsWriteTheSame : Type 0
RunsWriteTheSame = (model : PureTree) (a b : Flat) (firsts others : List First)
    → AreModelsAlike model a b firsts others
    → (ahead : List (List Change)) (writing : Writing) (stop turns : ℕ)
    → ModelsWriteTheSame model a b firsts others ahead writing stop turns

-- plans are the first ones of clusters that the model has, cluster by cluster from number 1 on
pub record AreFirstPlans (flat : Flat) (firsts : List First) : Type 0 where
  pub has : (n : ℕ) (first : First) → slice_get firsts n ≡ Some first
      → Contains (clusters_of flat.tables) (n + 1)
  pub each : (n : ℕ) (first : First) → slice_get firsts n ≡ Some first
      → IsFirstPlan flat (n + 1) first

-- two runs of a model from its first plans write the same and end alike, whatever they are told
pub record WriteAlike (model : PureTree) (flat : Flat) (firsts : List First)
    (ahead others : List (List Change)) (writing : Writing) (stop turns : ℕ) : Type 0 where
  pub trace : run_trace writing model flat (rules_of model flat)
      (start_world model flat firsts ahead turns) stop
      ≡ run_trace writing model flat (rules_of model flat)
      (start_world model flat firsts others turns) stop
  pub notes : run_note model flat firsts ahead stop turns
      ≡ run_note model flat firsts others stop turns
  pub end : run_end model flat firsts ahead stop turns ≡ run_end model flat firsts others stop turns

-- they do so where both are told the answers of their boundaries
abbrev pub AnswersWriteAlike : Type 0
AnswersWriteAlike = (model : PureTree) (flat : Flat) (firsts : List First)
    → IsKept model → IsFlatOf model flat → AreWithinLimits flat → AreFirstPlans flat firsts
    → (ahead others : List (List Change)) (writing : Writing) (stop turns : ℕ)
    → HaveAnswers model flat firsts ahead stop turns
    → HaveAnswers model flat firsts others stop turns
    → WriteAlike model flat firsts ahead others writing stop turns
