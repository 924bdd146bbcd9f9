-- Two runs that are told the answers of their boundaries write the same.
use Rattle.std.proofs.Common.{◌≡◌, ◌∙◌, ℕ, ◌+◌, ◌≤◌, List, [], ◌∷◌, map, refl, sym, ap, arith}
use Rattle.std.specs.List.{enumerate_from}
use Rattle.std.specs.Prelude.{slice_index_or}
use Rattle.tdf_sim_unique.specs.Laws.{AnswersWriteAlike, AreFirstPlans}
use Rattle.tdf_dynamic_first.specs.declared.first.First.{First}
use Rattle.tdf_events.specs.Side.{SideOf}
use Rattle.tdf_bind.specs.Flat.{IsFlatOf}
use Rattle.tdf_bind.specs.declared.model.Flat.{Flat}
use Rattle.tdf_sim_history.specs.Instant.{RunFault, engine}
use Rattle.tdf_sim_history.specs.Start.{first_cluster}
use Rattle.tdf_sim_history.specs.Telling.{state_as, untold, world_untold}
use Rattle.tdf_sim_history.specs.World.{Change, ClusterAt, World}
use Rattle.tdf_sim_history.specs.History.{On, Spent, HistoryState, Stopped, history}
use Rattle.tdf_bind_invariants.specs.Limits.{AreWithinLimits}
use Rattle.tdf_lang_tree.specs.Kept.{IsKept}
use Rattle.tdf_lang_tree.specs.Pure.{PureTree}
use Rattle.tdf_sim_history.specs.Rules.{rules_of, start_world}
use Rattle.tdf_sim_notes.specs.Ending.{HaveAnswers, end_of, run_end}
use Rattle.tdf_sim_history.proofs.Api.{answers_agree, first_attributes, notes_same, trace_same}
use Rattle.tdf_dynamic.specs.Laws.{BoundariesHaveOne}

-- how a history ended, whatever is told of the boundaries to come
pub ended_bare : (stop turns : ℕ) (x : HistoryState (World SideOf) RunFault) → end_of stop turns (state_as world_untold x) ≡ end_of stop turns x
ended_bare stop turns (On w) = refl
ended_bare stop turns (Stopped time fault w) = refl
ended_bare stop turns (Spent time w) = refl

module _ (model : PureTree) (flat : Flat) (ahead others : List (List Change)) where
  starts_from : (k : ℕ) (firsts : List First)
      → map untold (map (λ (first : ℕ × First). first_cluster model flat (first.0 + 1) first.1 (slice_index_or ahead first.0 [])) (enumerate_from k firsts))
      ≡ map untold (map (λ (first : ℕ × First). first_cluster model flat (first.0 + 1) first.1 (slice_index_or others first.0 [])) (enumerate_from k firsts))
  starts_from k [] = refl
  starts_from k (x ∷ firsts) = ap (λ (l : List ClusterAt). untold (first_cluster model flat (k + 1) x []) ∷ l) (starts_from (k + 1) firsts)

  -- runs start alike but for what is told
  pub starts_alike : (firsts : List First) (turns : ℕ) → world_untold (start_world model flat firsts ahead turns) ≡ world_untold (start_world model flat firsts others turns)
  starts_alike firsts turns = λ i. record (start_world model flat firsts [] turns) { clusters = starts_from 0 firsts i }

module _ (law : BoundariesHaveOne) (model : PureTree) (flat : Flat) (firsts : List First) (kept : IsKept model) (is : IsFlatOf model flat) (limits : AreWithinLimits flat)
    (plans : AreFirstPlans flat firsts) (ahead others : List (List Change)) (stop turns : ℕ) (answers : HaveAnswers model flat firsts ahead stop turns)
    (same : HaveAnswers model flat firsts others stop turns) where
  abbrev one : World SideOf
  one = start_world model flat firsts ahead turns

  abbrev other : World SideOf
  other = start_world model flat firsts others turns

  pub states_alike : (time : ℕ) → time ≤ stop
      → state_as world_untold (history (engine model flat (rules_of model flat)) 0 one time) ≡ state_as world_untold (history (engine model flat (rules_of model flat)) 0 other time)
  states_alike time low = answers_agree law model flat (rules_of model flat) one other stop time kept is.bodies limits
      (first_attributes model flat firsts ahead one.events turns limits (λ n first at. (plans.has n first at, plans.each n first at)))
      (starts_alike model flat ahead others firsts turns) answers.are same.are low

  pub ends_alike : run_end model flat firsts ahead stop turns ≡ run_end model flat firsts others stop turns
  ends_alike =
      let low : stop ≤ stop = omega arith in
      sym (ended_bare stop turns (history (engine model flat (rules_of model flat)) 0 one stop))
      ∙ ap (end_of stop turns) (states_alike stop low)
      ∙ ended_bare stop turns (history (engine model flat (rules_of model flat)) 0 other stop)

pub answers_write_alike : BoundariesHaveOne → AnswersWriteAlike
answers_write_alike law model flat firsts kept is limits plans ahead others writing stop turns answers same =
    let one : World SideOf = start_world model flat firsts ahead turns in
    let other : World SideOf = start_world model flat firsts others turns in
    let start = starts_alike model flat ahead others firsts turns in
    let alike = states_alike law model flat firsts kept is limits plans ahead others stop turns answers same in record {
      trace = trace_same model flat (rules_of model flat) one other stop start alike writing;
      notes = notes_same model flat (rules_of model flat) one other stop start alike;
      end = ends_alike law model flat firsts kept is limits plans ahead others stop turns answers same;
    }
