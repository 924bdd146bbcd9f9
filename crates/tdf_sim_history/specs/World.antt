-- What there is at a time of a run: for each cluster its attributes, its plan, how far it is, what
-- its periods were, and what its boundaries to come lead to; the event side; and the turns left.
-- Source: own; clusters in a discrete-event run after IEEE 1666.1-2016.
use Rattle.std.specs.Prelude.{ℕ, Bool, List, Option, slice_index_or}
use Rattle.tdf_base.specs.declared.faults.Fault.{Fault}
use Rattle.tdf_dynamic_plans.specs.Attributes.{AttrsOf}
use Rattle.tdf_fixed.specs.declared.raw.Raw.{Raw}
use Rattle.tdf_schedule.specs.declared.entry.Entry.{Entry}
use Rattle.tdf_sim_history.specs.Columns.{ColumnStart}
use Rattle.tdf_dynamic.specs.Below.{PeriodRecord, Start}

-- what the change bodies of a cluster lead to at a boundary: the same plan with these attributes, a
-- new one, or the fault that ends the run
pub data Change : Type 0 where
  Same : (table : List AttrsOf) → Change
  New : (table : List AttrsOf) → (counts : List ℕ) → (period : ℕ) → (entries : List Entry)
      → (bounds : List ℕ) → Change
  Refused : (fault : Fault) → Change

pub record ClusterAt : Type 0 where
  -- the start of its streams: what its edges and its variables held
  pub begun : Start
  -- the plan in force; its attributes are those of the period
  pub entries : List Entry
  pub bounds : List ℕ
  -- when its first period began, also where the start lies inside that
  pub origin : ℕ
  -- when its period began, from which place of the plan on it is done since the start, and how many
  -- entries are done in it
  pub since : ℕ
  pub from : ℕ
  pub place : ℕ
  -- the periods before, and this one; and the values that samplers read, by actor
  pub old : List PeriodRecord
  pub now : PeriodRecord
  pub reads : List (List Raw)
  -- what is told of its boundaries to come: what they lead to, in their order
  pub ahead : List Change

-- what its next boundary leads to; where nothing is told of it, no attribute changes
abbrev pub next_change : ClusterAt → Change
next_change c = slice_index_or c.ahead 0 (Same c.now.info.table)

-- a value that a sink wrote, for the event signal of this number
pub record SinkWrite : Type 0 where
  pub signal : ℕ
  pub value : Raw

-- K is what the event side keeps
pub record World (K : Type 0) : Type 0 where
  pub clusters : List ClusterAt
  pub events : K
  pub left : ℕ
  -- of the instant that is going on: what sinks wrote, and which clusters got a new plan
  pub written : List SinkWrite
  pub planned : List ℕ
  -- what the column of each trace shows from the start on
  pub shown : List ColumnStart

-- the event side: the settled values of its signals, whether something is pending at a time, and
-- what its part of an instant does with what sinks wrote, within so many turns; none where these
-- are too few, else what it keeps then and the turns that are left
pub record Settled (K : Type 0) : Type 0 where
  pub events : K
  pub left : ℕ

pub record EventSide (K : Type 0) : Type 0 where
  pub values : K → List Raw
  pub is_due : K → (time : ℕ) → Bool
  pub settle : (time : ℕ) → List SinkWrite → (left : ℕ) → K → Option (Settled K)

-- how a model runs: its event side
pub record Rules (K : Type 0) : Type 0 where
  pub event_side : EventSide K
