-- What the text of a snapshot needs of a model, and which snapshots belong to it.
-- Source: own.
use Rattle.std.specs.Prelude.{◌≡◌, ℕ, ◌<◌, ◌^◌, ℤ, pos, negsuc, List, [], ◌∷◌, ◌++◌, length}
use Rattle.std.specs.Prelude.{IfSome, slice_index_or}
use Rattle.std.specs.List.{AllByRecursion, AllZip}
use Rattle.tdf_saved.specs.State.{ModuleStateOf, ClusterStateOf, KernelStateOf, ColumnStateOf}
use Rattle.tdf_saved.specs.State.{SnapshotOf}
use Rattle.tdf_saved.specs.declared.state.Pending.{Pending}
use Rattle.tdf_saved.specs.declared.state.Stamp.{Stamp}

-- a module: its path, and how many rates, timesteps and cells it has
pub record ModuleMembersOf : Type 0 where
  pub path : List ℕ
  pub rates : ℕ
  pub steps : ℕ
  pub cells : ℕ

-- a cluster: its number, its modules, and the paths of its edges
pub record ClusterMembersOf : Type 0 where
  pub number : ℕ
  pub modules : List ModuleMembersOf
  pub edges : List (List ℕ)

-- an instance of a block of processes
pub record BlockMembersOf : Type 0 where
  pub path : List ℕ
  pub cells : ℕ

-- the clusters, the paths of event signals, the instances of blocks, the names of events, and the
-- labels of the columns of the trace
pub record MembersOf : Type 0 where
  pub clusters : List ClusterMembersOf
  pub values : List (List ℕ)
  pub blocks : List BlockMembersOf
  pub events : List (List ℕ)
  pub columns : List (List ℕ)

-- ---- numbers in range

abbrev pub IsCount32 : ℕ → Type 0
IsCount32 n = n < 2 ^ 32

abbrev pub IsCount64 : ℕ → Type 0
IsCount64 n = n < 2 ^ 64

-- what some format holds: at least -2^63, and below 2^64
abbrev pub IsNum : ℤ → Type 0
IsNum (pos n) = n < 2 ^ 64
IsNum (negsuc n) = n < 2 ^ 63

-- ---- one state for each member

-- so many numbers, each in range
pub record AreNums (count : ℕ) (nums : List ℤ) : Type 0 where
  pub many : length nums ≡ count
  pub each : AllByRecursion IsNum nums

pub record IsModuleFor (m : ModuleMembersOf) (s : ModuleStateOf) : Type 0 where
  pub rates : length s.rates ≡ m.rates
  pub rates_fit : AllByRecursion IsCount32 s.rates
  pub steps : length s.steps ≡ m.steps
  pub steps_fit : AllByRecursion IsCount64 s.steps
  pub cells : AreNums m.cells s.cells

-- the samples of an edge may be any number
pub record IsClusterFor (m : ClusterMembersOf) (s : ClusterStateOf) : Type 0 where
  pub start : IsCount64 s.start
  pub modules : AllZip IsModuleFor m.modules s.modules
  pub edges : AllZip (λ path nums. AllByRecursion IsNum nums) m.edges s.edges

pub record IsPendingFor (m : MembersOf) (p : Pending) : Type 0 where
  pub event : p.event < length m.events
  pub small : IsCount32 p.event
  pub time : IsCount64 p.time

pub record IsKernelFor (m : MembersOf) (s : KernelStateOf) : Type 0 where
  pub values : AllZip (λ path num. IsNum num) m.values s.values
  pub blocks : AllZip (λ b nums. AreNums b.cells nums) m.blocks s.blocks
  pub pending : AllByRecursion (IsPendingFor m) s.pending

pub record IsStampInRange (s : Stamp) : Type 0 where
  pub time : IsCount64 s.time
  pub num : IsNum s.num

pub record IsColumnInRange (s : ColumnStateOf) : Type 0 where
  pub carry : IfSome s.carry IsNum
  pub samples : AllByRecursion IsStampInRange s.samples
  pub later : AllByRecursion IsNum s.later

-- a snapshot that has the members of the model, with numbers in range
pub record IsSnapshotFor (m : MembersOf) (s : SnapshotOf) : Type 0 where
  pub time : IsCount64 s.time
  pub used : IsCount64 s.used
  pub budget : IsCount64 s.budget
  pub clusters : AllZip IsClusterFor m.clusters s.clusters
  pub kernel : IsKernelFor m s.kernel
  pub columns : AllZip (λ label column. IsColumnInRange column) m.columns s.columns

-- ---- names of events

-- no event's name and a space begin with another's
abbrev pub AreNamesApart : List (List ℕ) → Type 0
AreNamesApart names = (i j : ℕ) (r s : List ℕ) → i < length names → j < length names
    → slice_index_or names i [] ++ (32 ∷ r) ≡ slice_index_or names j [] ++ (32 ∷ s) → i ≡ j
