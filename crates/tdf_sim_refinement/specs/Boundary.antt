-- A boundary, as a cluster in progress does it and as the history has it; and the record of a new
-- period.
-- Source: own.
use Rattle.std.specs.Prelude.{◌≡◌, ℕ, List, None, true, length, slice_index}
use Rattle.tdf_bind_tables.specs.FlatTables.{FlatTablesOf}
use Rattle.tdf_exec.specs.Below.{Asks, table_after}
use Rattle.tdf_exec.specs.Next.{IsNext, Next}
use Rattle.tdf_exec.specs.Next as next
use Rattle.tdf_dynamic_plans.specs.Attributes.{AttrsOf}
use Rattle.tdf_exec.specs.Cluster.{ClusterOf, next_offset}
use Rattle.tdf_exec.specs.Crossing.{CanInstall, CrossesFrom, HasBegunPeriod, HasCrossed, StandsAfter, WhenItAsks}
use Rattle.tdf_exec.specs.Made.{IsClusterOf}
use Rattle.tdf_expr.specs.Checked.{IsCheckedOf}
use Rattle.tdf_bind.specs.declared.model.Flat.{Flat}
use Rattle.tdf_sim_history.specs.Answers.{IsNewPeriod, Leads}
use Rattle.tdf_sim_history.specs.Instant.{with_new, with_same}
use Rattle.tdf_sim_history.specs.Start.{counts_in}
use Rattle.tdf_sim_history.specs.World.{Change, ClusterAt, New, Refused, Same}
use Rattle.tdf_sim_refinement.specs.At.{IsAt}
use Rattle.tdf_schedule.specs.Plan.{done}
use Rattle.tdf_schedule.specs.declared.entry.Entry.{Entry}
use Rattle.tdf_streams.specs.Periods.{AreAttributes, IsWholeRecord, period_record}
use Rattle.tdf_lang_tree.specs.Pure.{PureTree}

-- what an answer of a boundary tells the history, where the cluster has this table after it
abbrev pub change_of : FlatTablesOf → (table : List AttrsOf) → Next → Change
change_of tables table next.Same = Same table
change_of tables table (next.Changed attrs plan) =
    New attrs.rows (counts_in tables plan.entries.items) plan.period plan.entries.items
    plan.bounds.items

-- the period of a cluster is done, and what its modules ask for leads to this; the table that they
-- ask for is one of the cluster
pub record HasAnswered (flat : Flat) (c : ClusterOf) (change : Change) : Type 0 where
  pub done : next_offset c ≡ None
  pub leads : WhenItAsks flat c (λ asks. Leads flat.tables c.number asks c.table change)
  pub after : WhenItAsks flat c (λ asks.
      AreAttributes flat c.number (table_after asks c.table))

-- a cluster comes to its boundary, crosses from its period with an answer, and begins the next
pub record HasPassedBoundary (flat : Flat) (next : Next) (c crossed d : ClusterOf) : Type 0 where
  pub crossed_is : HasCrossed c crossed
  pub crosses : CrossesFrom flat c crossed
  pub can : CanInstall flat crossed next
  pub begun : HasBegunPeriod crossed next d
  pub of : IsClusterOf flat d
  pub stands : StandsAfter flat next crossed d
  pub answered : HasAnswered flat c (change_of flat.tables crossed.table next)

-- the cluster that the history has after its boundary
abbrev pub after_change : FlatTablesOf → (time : ℕ) → Change → ClusterAt → ClusterAt
after_change tables time (Same table) h = with_same time table h
after_change tables time (New table counts period entries bounds) h =
    with_new tables time table counts period entries bounds h
after_change tables time (Refused fault) h = h

-- what the modules ask for leads to what the answer tells
abbrev pub AnswersLead : Type 0
AnswersLead = (tables : FlatTablesOf) (number : ℕ) (asks : Asks) (old new : List AttrsOf)
    (next : Next)
    → IsNext tables number asks old new next
    → Leads tables number asks old (change_of tables new next)

-- a cluster in progress comes to what the history says of it after its boundary
abbrev pub BoundariesKeepAt : Type 0
BoundariesKeepAt = (model : PureTree) (flat : Flat) (number time : ℕ) (h : ClusterAt) (next : Next)
    → (c crossed d : ClusterOf) → IsCheckedOf model flat.checked → IsAt model flat number h c
    → HasPassedBoundary flat next c crossed d
    → IsAt model flat number
    (after_change flat.tables time (change_of flat.tables crossed.table next) h) d

-- the record of a new period is that of a whole one, and its counts are those of its plan
pub record IsNewRecord (flat : Flat) (number : ℕ) (table : List AttrsOf) (counts : List ℕ)
    (period : ℕ) (entries : List Entry) : Type 0 where
  pub whole : IsWholeRecord flat number
      (period_record flat.tables table counts period true)
  pub counts_are : (m : ℕ) → slice_index counts m ≡ done entries (length entries) m

-- so it is where the answer of a boundary is a new plan, and its attributes are of the cluster
abbrev pub NewPeriodsAreWhole : Type 0
NewPeriodsAreWhole = (flat : Flat) (number : ℕ) (asks : Asks) (table new : List AttrsOf)
    → (counts : List ℕ) (period : ℕ) (entries : List Entry) (bounds : List ℕ)
    → AreAttributes flat number new
    → IsNewPeriod flat.tables number asks table new counts period entries bounds
    → IsNewRecord flat number new counts period entries
