-- A cluster at the start of its first period.
-- Source: IEEE 1666.1-2016, delays of TDF ports and the callback initialize.
use Rattle.std.specs.Prelude.{◌≡◌, ℕ, false, List, [], Some, slice_get, slice_index}
use Rattle.tdf_dynamic_first.specs.declared.first.First.{First}
use Rattle.tdf_exec.specs.Cluster.{ClusterOf}
use Rattle.tdf_exec.specs.Played.{play_of}
use Rattle.tdf_expr.specs.Blocks.{PureBlock, blocks_of, body_of}
use Rattle.tdf_expr.specs.Checked.{IsCheckedOf}
use Rattle.tdf_expr.specs.Runs.{scope_in}
use Rattle.tdf_expr.specs.declared.bodies.Body.TheVariants.{Initialize}
use Rattle.tdf_expr.specs.declared.checked.Checked.{Checked}
use Rattle.tdf_fixed.specs.declared.raw.Raw.{Raw}
use Rattle.tdf_bind.specs.Flat.{IsFlatOf}
use Rattle.tdf_bind.specs.declared.model.Flat.{Flat}
use Rattle.tdf_streams.specs.Stands.{Stands}
use Rattle.tdf_bind_invariants.specs.Formats.{IsSoundModel}
use Rattle.tdf_expr_semantics.specs.Bodies.{after_body}
use Rattle.tdf_expr_state.specs.State.{State}
use Rattle.tdf_streams.specs.Cluster.{cluster_net, text_start}
use Rattle.tdf_streams.specs.Periods.{PeriodRecord}
use Rattle.tdf_lang_tree.specs.Pure.{PureTree}

-- no initialize body of the model sets a rate variable
pub record BeginWithRates (checked : Checked) : Type 0 where
  pub model : PureTree
  pub are : IsCheckedOf model checked
  pub begin : (number : ℕ) (block : PureBlock) (s : State)
      → slice_get (blocks_of model.globals) number ≡ Some block
      → (after_body (scope_in model block) (body_of block Initialize) s).frame.rates
      ≡ s.frame.rates

-- a flat model of a sound model
pub record IsSoundFlat (flat : Flat) : Type 0 where
  pub model : PureTree
  pub sound : IsSoundModel model
  pub is : IsFlatOf model flat

-- under the first attributes and plan of a cluster nothing is done yet
pub record IsAtStart (cluster : ℕ) (first : First) (c : ClusterOf) : Type 0 where
  pub number_is : c.number ≡ cluster
  pub table_is : c.table ≡ first.attrs.rows
  pub known_is : c.known ≡ first.attrs.known
  pub entries_are : c.entries ≡ first.plan.entries.items
  pub bounds_are : c.bounds ≡ first.plan.bounds.items
  pub period_is : c.period ≡ first.plan.period
  pub place_is : c.place ≡ 0
  pub not_crossed : c.crossed ≡ false
  pub none_done : (m : ℕ) → slice_index c.positions m ≡ 0

-- the cluster stands for the streams from the start that the text says, at the head of the first
-- period, for each model that the bodies are of
abbrev pub StandsAtStart : Flat → ClusterOf → Type 0
StandsAtStart flat c = (model : PureTree) (p : PeriodRecord) (reads : ℕ → List Raw)
    → IsCheckedOf model flat.checked
    → Stands (cluster_net model flat c.number (text_start model flat c.number c.table)) [] p reads
    0 (play_of 0 c)
