-- What holds of the definitions.
-- Source: own.
use Rattle.std.specs.Prelude.{◌≡◌, ℕ, List, map}
use Rattle.tdf_base.specs.declared.faults.Fault.{Fault}
use Rattle.tdf_sim_runs.specs.Runs.{trace_of}
use Rattle.tdf_lang_parser.specs.Refused.{SpellsText}
use Rattle.tdf_dynamic_first.specs.First.{IsPlannable}
use Rattle.tdf_dynamic_first.specs.declared.first.First.{First}
use Rattle.tdf_bind.specs.declared.model.Flat.{Flat}
use Rattle.tdf_sim_history.specs.World.{Change}
use Rattle.tdf_sim_notes.specs.Ending.{HaveAnswers, run_end, run_note}
use Rattle.tdf_sim.specs.Accepted.{ArePlans, IsAccepted, IsAcceptedText}
use Rattle.tdf_sim.specs.declared.sim.Sim.{Sim}
use Rattle.tdf_sim.specs.FirstFault.{HasFlat, IsEarlyFault, IsEarlyTextFault, IsFirstFault, IsPlansFault, IsTreeFault}
use Rattle.tdf_sim.specs.PlanText.{plan_rows}
use Rattle.tdf_lang_tree.specs.Kept.{IsKept}
use Rattle.tdf_lang_tree.specs.Pure.{PureTree}
use Rattle.tdf_trace_rows.specs.declared.kinds.TraceKind.{TraceKind}

-- a text has at most one first fault
abbrev pub FaultsAreOne : Type 0
FaultsAreOne = (text : List ℕ) (one other : Fault)
    → IsFirstFault text one → IsFirstFault text other → one ≡ other

-- a text with a fault is not accepted
abbrev pub FaultOrAccepted : Type 0
FaultOrAccepted = (text : List ℕ) (fault : Fault) (sim : Sim)
    → IsFirstFault text fault → IsAcceptedText text sim → ⊥

-- a tree that keeps what a spelled tree keeps has at most one early fault
abbrev pub EarlyFaultsAreOne : Type 0
EarlyFaultsAreOne = (tree : PureTree) (one other : Fault) → IsKept tree
    → IsEarlyFault tree one → IsEarlyFault tree other → one ≡ other

-- with one it has no flat model
abbrev pub EarlyFaultOrFlat : Type 0
EarlyFaultOrFlat = (tree : PureTree) (fault : Fault) → IsKept tree
    → IsEarlyFault tree fault → HasFlat tree → ⊥

-- the same of a text
abbrev pub EarlyTextFaultsAreOne : Type 0
EarlyTextFaultsAreOne = (text : List ℕ) (one other : Fault)
    → IsEarlyTextFault text one → IsEarlyTextFault text other → one ≡ other

abbrev pub EarlyTextFaultOrFlat : Type 0
EarlyTextFaultOrFlat = (text : List ℕ) (fault : Fault) (tree : PureTree)
    → IsEarlyTextFault text fault → SpellsText text tree → HasFlat tree → ⊥

-- such a tree has at most one first fault
abbrev pub FaultsOfTreesAreOne : Type 0
FaultsOfTreesAreOne = (tree : PureTree) (one other : Fault) → IsKept tree
    → IsTreeFault tree one → IsTreeFault tree other → one ≡ other

-- with a fault it is not accepted
abbrev pub TreeFaultOrAccepted : Type 0
TreeFaultOrAccepted = (tree : PureTree) (fault : Fault) (sim : Sim) → IsKept tree
    → IsTreeFault tree fault → IsAccepted tree sim → ⊥

-- of the faults of the clusters of a flat model at most one is the first
abbrev pub FaultsOfPlansAreOne : Type 0
FaultsOfPlansAreOne = (flat : Flat) (one other : Fault) → IsPlannable flat
    → IsPlansFault flat one → IsPlansFault flat other → one ≡ other

-- with such a fault not every cluster has a plan
abbrev pub PlansFaultOrPlans : Type 0
PlansFaultOrPlans = (flat : Flat) (fault : Fault) (firsts : List First) → IsPlannable flat
    → IsPlansFault flat fault → ArePlans flat firsts → ⊥

-- two models of one tree have the same tables, the same unit of time, and for each cluster the same
-- attributes and the same plan
pub record AreAlike (one other : Sim) : Type 0 where
  pub tables : one.flat.tables ≡ other.flat.tables
  pub unit : one.flat.resolution ≡ other.flat.resolution
  pub attrs : map (λ f. f.attrs.rows) one.firsts.items ≡ map (λ f. f.attrs.rows) other.firsts.items
  pub plans : map plan_rows one.firsts.items ≡ map plan_rows other.firsts.items

abbrev pub ModelsAreAlike : Type 0
ModelsAreAlike = (tree : PureTree) (one other : Sim) → IsKept tree
    → IsAccepted tree one → IsAccepted tree other → AreAlike one other

-- two runs write the same trace and the same notes, and end alike: each of a model, and with what
-- is told of its boundaries
pub record RunAlike (tree : PureTree) (one other : Sim) (ahead others : List (List Change))
    (kind : TraceKind) (stop turns : ℕ) : Type 0 where
  pub trace : trace_of kind tree one.flat one.firsts.items ahead stop turns
      ≡ trace_of kind tree other.flat other.firsts.items others stop turns
  pub notes : run_note tree one.flat one.firsts.items ahead stop turns
      ≡ run_note tree other.flat other.firsts.items others stop turns
  pub end : run_end tree one.flat one.firsts.items ahead stop turns
      ≡ run_end tree other.flat other.firsts.items others stop turns

-- runs of two models do so that are told the same, and answers of the one are answers of the other
pub record RunTheSame (tree : PureTree) (one other : Sim) (ahead : List (List Change))
    (kind : TraceKind) (stop turns : ℕ) : Type 0 where
  pub alike : RunAlike tree one other ahead ahead kind stop turns
  pub answers : HaveAnswers tree one.flat one.firsts.items ahead stop turns
      → HaveAnswers tree other.flat other.firsts.items ahead stop turns

-- two models of one tree do so, whatever is asked of the run
abbrev pub RunsAreAlike : Type 0
RunsAreAlike = (tree : PureTree) (one other : Sim) → IsKept tree
    → IsAccepted tree one → IsAccepted tree other → (ahead : List (List Change))
    → (kind : TraceKind) (stop turns : ℕ) → RunTheSame tree one other ahead kind stop turns

-- and two runs of a model do so that are told the answers of their boundaries
abbrev pub AnswersRunAlike : Type 0
AnswersRunAlike = (tree : PureTree) (sim : Sim) → IsKept tree → IsAccepted tree sim
    → (ahead others : List (List Change)) (kind : TraceKind) (stop turns : ℕ)
    → HaveAnswers tree sim.flat sim.firsts.items ahead stop turns
    → HaveAnswers tree sim.flat sim.firsts.items others stop turns
    → RunAlike tree sim sim ahead others kind stop turns
