-- What a run holds at a time. Each number of a sample or a cell is a whole number of the least
-- steps of its format.
-- Source: own.
use Rattle.std.specs.Prelude.{ℕ, ℤ, Bool, List, Option}
use Rattle.tdf_saved.specs.declared.state.Pending.{Pending}
use Rattle.tdf_saved.specs.declared.state.Stamp.{Stamp}

-- a module: whether it accepts changes; the rates of its ports; its timestep and then one for each
-- port, 0 where none is assigned; its cells; each in order of declaration
pub record ModuleStateOf : Type 0 where
  pub accept : Bool
  pub rates : List ℕ
  pub steps : List ℕ
  pub cells : List ℤ

-- a cluster: when its period began, its modules, and the samples of each of its edges
pub record ClusterStateOf : Type 0 where
  pub start : ℕ
  pub modules : List ModuleStateOf
  pub edges : List (List ℤ)

-- the events: the value of each event signal, the cells of each instance of a block of processes,
-- and the notifications that are still to come
pub record KernelStateOf : Type 0 where
  pub values : List ℤ
  pub blocks : List (List ℤ)
  pub pending : List Pending

-- a column of the trace: what it shows before all else, numbers at their times, and those whose
-- times aren't known yet
pub record ColumnStateOf : Type 0 where
  pub carry : Option ℤ
  pub samples : List Stamp
  pub later : List ℤ

-- a run at a time: the kind of its trace, the turns that were used and the most there may be
pub record SnapshotOf : Type 0 where
  pub vcd : Bool
  pub time : ℕ
  pub used : ℕ
  pub budget : ℕ
  pub clusters : List ClusterStateOf
  pub kernel : KernelStateOf
  pub columns : List ColumnStateOf
