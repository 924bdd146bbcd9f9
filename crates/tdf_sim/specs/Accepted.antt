-- Models that are accepted.
-- Source: own.
use Rattle.std.specs.Prelude.{◌≡◌, ◌+◌, ℕ, List, length, Some, slice_get}
use Rattle.tdf_lang_parser.specs.Refused.{SpellsText}
use Rattle.tdf_dynamic_first.specs.First.{IsFirstPlan}
use Rattle.tdf_dynamic_first.specs.declared.first.First.{First}
use Rattle.tdf_bind.specs.Flat.{IsFlatOf}
use Rattle.tdf_bind.specs.declared.model.Flat.{Flat}
use Rattle.tdf_sim.specs.FirstFault.{cluster_count, HasSoundLines, IsEarlyFault, IsPlansFault, IsTreeFault, IsFirstFault}
use Rattle.tdf_sim.specs.declared.sim.Sim.{Sim}
use Rattle.tdf_sim.specs.declared.err.SimErr.{SimErr}
use Rattle.tdf_sim.specs.declared.err.SimErr.TheVariants.{Refused, Memory}
use Rattle.tdf_lang_tree.specs.Pure.{PureTree}

-- the plans of all clusters in order
pub record ArePlans (flat : Flat) (firsts : List First) : Type 0 where
  pub all : length firsts ≡ cluster_count flat.tables
  pub each : (k : ℕ) (first : First) → slice_get firsts k ≡ Some first
      → IsFirstPlan flat (k + 1) first

-- a tree without a fault, and its model
pub record IsAccepted (tree : PureTree) (sim : Sim) : Type 0 where
  pub lines : HasSoundLines tree
  pub is_flat : IsFlatOf tree sim.flat
  pub plans : ArePlans sim.flat sim.firsts.items

-- a text without a fault, and its model
pub record IsAcceptedText (text : List ℕ) (sim : Sim) : Type 0 where
  pub tree : PureTree
  pub spelled : SpellsText text tree
  pub accepted : IsAccepted tree sim

-- a refusal is the first fault; want of memory is free
abbrev pub IsTreeRefusal : PureTree → SimErr → Type 0
IsTreeRefusal tree (Refused fault) = IsTreeFault tree fault
IsTreeRefusal tree Memory = Unit {0}

abbrev pub IsEarlyRefusal : PureTree → SimErr → Type 0
IsEarlyRefusal tree (Refused fault) = IsEarlyFault tree fault
IsEarlyRefusal tree Memory = Unit {0}

abbrev pub IsPlansRefusal : Flat → SimErr → Type 0
IsPlansRefusal flat (Refused fault) = IsPlansFault flat fault
IsPlansRefusal flat Memory = Unit {0}

abbrev pub IsTextRefusal : List ℕ → SimErr → Type 0
IsTextRefusal text (Refused fault) = IsFirstFault text fault
IsTextRefusal text Memory = Unit {0}
