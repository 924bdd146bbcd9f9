-- What holds of the streams of a cluster.
-- Source: own.
use Rattle.std.specs.Prelude.{ℕ, Bool, ◌+◌, ◌*◌, ◌<◌, ◌≤◌, ◌≡◌, ◌⊎◌, true, Some, List, [], ◌∷◌, ◌++◌, All, length, slice_get, slice_index, slice_index_or, sum_by, ℤ}
use Rattle.tdf_dynamic_plans.specs.Attributes.{AttrsOf, clusters_of}
use Rattle.tdf_dynamic_plans.specs.Faults.{HasStepsOf, IsTablePlan, pace_in}
use Rattle.tdf_dynamic_first.specs.First.{IsFirstPlan}
use Rattle.tdf_dynamic_plans.specs.Rates.{net_of}
use Rattle.tdf_dynamic_first.specs.declared.first.First.{First}
use Rattle.tdf_fixed.specs.declared.raw.Raw.{Raw}
use Rattle.tdf_bind_invariants.specs.Below.{Flat, IsFlatOf}
use Rattle.tdf_streams.specs.Fed.{IsFed}
use Rattle.tdf_streams.specs.Firing.{Flows, IsNextTurn, IsPresent}
use Rattle.tdf_streams.specs.Grounds.{AreGiven, firings}
use Rattle.tdf_streams.specs.Net.{Net, Run, Turn, count}
use Rattle.tdf_streams.specs.Playing.{HasStates, IsPlayed, IsSame, StopsShort, turns_in}
use Rattle.tdf_streams.specs.Stands.{Less, Longer, Play, Stands, run_of}
use Rattle.tdf_streams.specs.Streams.{Spot, find, known}
use Rattle.tdf_bind_invariants.specs.Limits.{AreWithinLimits}
use Rattle.tdf_schedule.specs.Plan.{HasPlan}
use Rattle.tdf_schedule.specs.declared.entry.Plan.{Plan}
use Rattle.tdf_streams.specs.Cluster.{Start, cluster_net, text_start}
use Rattle.tdf_streams.specs.Periods.{AreAttributes, AreGrounded, IsTimedRecord, IsWholeRecord, PeriodInfo, PeriodRecord, period_record}
use Rattle.tdf_streams.specs.Signals.{position_time, positions, step_in, time_at_spot, time_of_periods}
use Rattle.tdf_streams.specs.Starts.{ArePast, AreRecords, HasLists, held_at_head}
use Rattle.tdf_timestep.specs.declared.assign.Steps.{Steps}
use Rattle.tdf_lang_tree.specs.Pure.{PureTree}
use Rattle.tdf_bind_connections.specs.declared.modules.PortRow.{PortRow}

-- the net of a cluster, one of its runs, and a cluster in progress, at their types
abbrev pub ClusterNet : Type 0
ClusterNet = Net (List ℤ) Raw PeriodInfo

abbrev pub ClusterRun : Type 0
ClusterRun = Run Raw PeriodInfo

abbrev pub ClusterPlay : Type 0
ClusterPlay = Play (List ℤ) Raw

abbrev pub run_from : PeriodRecord → List PeriodRecord → (ℕ → List Raw) → ClusterRun
run_from first later reads = record { periods = first ∷ later; reads = reads }

-- activation n of actor m has a value, found in as many steps as the periods have firings
abbrev pub HasValue : ClusterNet → ClusterRun → (m n : ℕ) → Type 0
HasValue net run m n =
    (t : Turn (List ℤ) Raw) × (known net run (firings run.periods) m n ≡ Some t)

-- from a start on each activation of the periods has a value where the samplers that it follows
-- were given theirs
abbrev pub FedAreKnown : Type 0
FedAreKnown = (model : PureTree) (flat : Flat) (cluster : ℕ) (start : Start)
    → (first : PeriodRecord) (later : List PeriodRecord) (reads : ℕ → List Raw)
    → AreWithinLimits flat → AreRecords flat cluster start first later
    → (m n : ℕ) → n < sum_by (count m) (first ∷ later)
    → IsFed (cluster_net model flat cluster start) (run_from first later reads)
    (firings (first ∷ later)) m n
    → HasValue (cluster_net model flat cluster start) (run_from first later reads) m n

-- so each has one where all samplers of the cluster were given theirs
abbrev pub AllAreKnown : Type 0
AllAreKnown = (model : PureTree) (flat : Flat) (cluster : ℕ) (start : Start)
    → (first : PeriodRecord) (later : List PeriodRecord) (reads : ℕ → List Raw)
    → AreWithinLimits flat → AreRecords flat cluster start first later
    → AreGiven (cluster_net model flat cluster start) reads (first ∷ later)
    → (m n : ℕ) → n < sum_by (count m) (first ∷ later)
    → HasValue (cluster_net model flat cluster start) (run_from first later reads) m n

-- further periods, further values of samplers and further steps change nothing that is known
abbrev pub MoreKeeps : Type 0
MoreKeeps = (model : PureTree) (flat : Flat) (cluster : ℕ) (start : Start)
    → (short long : ClusterRun) → Longer short long → (f d : ℕ)
    → Less (known (cluster_net model flat cluster start) short f)
    (known (cluster_net model flat cluster start) long (d + f))

-- each actor is in it as often as it is activated in the period
abbrev pub IsComplete : List ℕ → PeriodRecord → Type 0
IsComplete order p = (m : ℕ) → turns_in order m ≡ count m p

-- a cluster that stands at the head of a period, or at the start that lies inside it
pub record StandsAtHead (net : ClusterNet) (old : List PeriodRecord) (p : PeriodRecord)
    (reads : ℕ → List Raw) (f : ℕ) (y : ClusterPlay) : Type 0 where
  pub stands : Stands net old p reads f y
  pub turns : (m : ℕ) → slice_index y.turns m ≡ 0

-- an order in which no step lacks a sample leads from what stands to what stands
abbrev pub OrderStands : Type 0
OrderStands = (model : PureTree) (flat : Flat) (cluster : ℕ) (start : Start)
    → (old : List PeriodRecord) (p : PeriodRecord) (reads : ℕ → List Raw) (order : List ℕ)
    → (f : ℕ) (y z : ClusterPlay) → Stands (cluster_net model flat cluster start) old p reads f y
    → IsPlayed (cluster_net model flat cluster start) old p reads order y z
    → Stands (cluster_net model flat cluster start) old p reads (length order + f) z

-- and each firing of it has, with all its outputs, the value of the activation that it is
abbrev pub FiringIsKnown : Type 0
FiringIsKnown = (model : PureTree) (flat : Flat) (cluster : ℕ) (start : Start)
    → (old : List PeriodRecord) (p : PeriodRecord) (reads : ℕ → List Raw) (f m : ℕ)
    → (t : Turn (List ℤ) Raw) (y z : ClusterPlay)
    → Stands (cluster_net model flat cluster start) old p reads f y
    → slice_index y.turns m < slice_index p.counts m
    → IsPresent (cluster_net model flat cluster start) p m y
    → IsNextTurn (cluster_net model flat cluster start) old p reads m y t
    → Flows (cluster_net model flat cluster start) p m t y z
    → known (cluster_net model flat cluster start) (run_of old p reads) (1 + f) m
    (sum_by (count m) old + slice_index y.turns m) ≡ Some t

-- two orders that have each actor as often lead to the same states and samples
abbrev pub AnyOrder : Type 0
AnyOrder = (model : PureTree) (flat : Flat) (cluster : ℕ) (start : Start)
    → (old : List PeriodRecord) (p : PeriodRecord) (reads : ℕ → List Raw) (f : ℕ)
    → (y z v : ClusterPlay) (one other : List ℕ)
    → Stands (cluster_net model flat cluster start) old p reads f y
    → IsPlayed (cluster_net model flat cluster start) old p reads one y z
    → IsPlayed (cluster_net model flat cluster start) old p reads other y v
    → ((m : ℕ) → turns_in one m ≡ turns_in other m)
    → IsSame (cluster_net model flat cluster start) z v

-- after a complete order each edge of the cluster holds what it holds at the head of each period
abbrev pub EndsWhole : Type 0
EndsWhole = (model : PureTree) (flat : Flat) (cluster : ℕ) (start : Start)
    → (old : List PeriodRecord) (p : PeriodRecord) (reads : ℕ → List Raw) (order : List ℕ)
    → (f : ℕ) (y z : ClusterPlay) → AreWithinLimits flat → ArePast flat cluster start old p
    → IsTimedRecord flat cluster p
    → StandsAtHead (cluster_net model flat cluster start) old p reads f y
    → IsPlayed (cluster_net model flat cluster start) old p reads order y z → IsComplete order p
    → (e : ℕ) → e < length flat.tables.edges
    → length (slice_index_or z.lists e []) ≡ held_at_head flat.tables cluster e

-- where a complete order of a whole period can be played, all firings are grounded: so where some
-- firing is not, in each complete order a step lacks a sample
abbrev pub PlayedAreGrounded : Type 0
PlayedAreGrounded = (model : PureTree) (flat : Flat) (cluster : ℕ) (start : Start)
    → (old : List PeriodRecord) (p : PeriodRecord) (reads : ℕ → List Raw) (order : List ℕ)
    → (f : ℕ) (y z : ClusterPlay) → AreWithinLimits flat → ArePast flat cluster start old p
    → IsTimedRecord flat cluster p → p.counts ≡ p.info.counts
    → StandsAtHead (cluster_net model flat cluster start) old p reads f y
    → IsPlayed (cluster_net model flat cluster start) old p reads order y z → IsComplete order p
    → AreGrounded flat p

-- where each actor has its state and each sampler its values, a complete order can be played from
-- the head of a period, or it is played up to a step that lacks a sample
abbrev pub OrderPlays : Type 0
OrderPlays = (model : PureTree) (flat : Flat) (cluster : ℕ) (start : Start)
    → (old : List PeriodRecord) (p : PeriodRecord) (reads : ℕ → List Raw) (order : List ℕ)
    → (f : ℕ) (y : ClusterPlay)
    → StandsAtHead (cluster_net model flat cluster start) old p reads f y
    → HasStates (cluster_net model flat cluster start) p y
    → AreGiven (cluster_net model flat cluster start) reads (old ++ p ∷ []) → IsComplete order p
    → ((z : ClusterPlay) × IsPlayed (cluster_net model flat cluster start) old p reads order y z)
    ⊎ StopsShort (cluster_net model flat cluster start) old p reads order y

-- where some firing of a whole period isn't grounded, each complete order comes to such a step
abbrev pub UngroundedStops : Type 0
UngroundedStops = (model : PureTree) (flat : Flat) (cluster : ℕ) (start : Start)
    → (old : List PeriodRecord) (p : PeriodRecord) (reads : ℕ → List Raw) (order : List ℕ)
    → (f : ℕ) (y : ClusterPlay) → AreWithinLimits flat → ArePast flat cluster start old p
    → IsTimedRecord flat cluster p → p.counts ≡ p.info.counts
    → StandsAtHead (cluster_net model flat cluster start) old p reads f y
    → HasStates (cluster_net model flat cluster start) p y
    → AreGiven (cluster_net model flat cluster start) reads (old ++ p ∷ []) → IsComplete order p
    → (AreGrounded flat p → ⊥)
    → StopsShort (cluster_net model flat cluster start) old p reads order y

-- at the start as the text says it each edge of the cluster holds as many samples as the delays of
-- its ports say, and edges of other clusters hold none
abbrev pub TextHoldsDelays : Type 0
TextHoldsDelays = (model : PureTree) (flat : Flat) (cluster : ℕ) (table : List AttrsOf)
    → IsFlatOf model flat → (e : ℕ) → e < length flat.tables.edges
    → length (slice_index_or (text_start model flat cluster table).lists e [])
    ≡ held_at_head flat.tables cluster e

-- so it has the lists for a whole period
abbrev pub TextHasLists : Type 0
TextHasLists = (model : PureTree) (flat : Flat) (cluster : ℕ) (table : List AttrsOf)
    → (p : PeriodRecord) → IsFlatOf model flat → p.counts ≡ p.info.counts
    → HasLists flat cluster (text_start model flat cluster table) p

-- a port of a module of a cluster
pub record IsClusterPort (flat : Flat) (cluster number : ℕ) (port : PortRow) : Type 0 where
  pub there : slice_get flat.tables.ports number ≡ Some port
  pub inside : slice_index (clusters_of flat.tables) port.«module» ≡ cluster

-- the steps of a signal cut a period in equal parts
abbrev pub StepsAreWhole : Type 0
StepsAreWhole = (flat : Flat) (cluster number : ℕ) (port : PortRow) (p : PeriodRecord)
    → AreWithinLimits flat → IsClusterPort flat cluster number port → IsTimedRecord flat cluster p
    → (0 < step_in port p) × (positions port p * step_in port p ≡ p.info.period)

-- position j lies inside a period, with all of its step
pub record PositionLiesInside (periods : List PeriodRecord) (port : PortRow) (j : ℕ) : Type 0 where
  pub spot : Spot PeriodInfo
  pub found : find (positions port) [] periods j ≡ Some spot
  pub not_before : time_of_periods spot.before ≤ time_at_spot port spot
  pub not_after : time_at_spot port spot + step_in port spot.period
      ≤ time_of_periods spot.before + spot.period.info.period

-- so each position of periods does
abbrev pub TimesLieInside : Type 0
TimesLieInside = (flat : Flat) (cluster number : ℕ) (port : PortRow) (periods : List PeriodRecord)
    → (j : ℕ) → AreWithinLimits flat → IsClusterPort flat cluster number port
    → All (IsTimedRecord flat cluster) periods → j < sum_by (positions port) periods
    → PositionLiesInside periods port j

-- and the times of its positions rise
abbrev pub TimesRise : Type 0
TimesRise = (flat : Flat) (cluster number : ℕ) (port : PortRow) (periods : List PeriodRecord)
    → (i j s t : ℕ) → AreWithinLimits flat → IsClusterPort flat cluster number port
    → All (IsTimedRecord flat cluster) periods → i < j
    → position_time periods port i ≡ Some s → position_time periods port j ≡ Some t → s < t

-- a plan under a table of attributes is that of a whole record
pub record HasRecord (flat : Flat) (cluster : ℕ) (table : List AttrsOf) (plan : Plan)
    (is_new : Bool) : Type 0 where
  pub counts : List ℕ
  pub steps : Steps
  pub record_is : IsWholeRecord flat cluster
      (period_record flat.tables table counts plan.period is_new)
  pub steps_are : HasStepsOf (net_of flat.tables table) table counts steps
  pub same_period : steps.period ≡ plan.period
  pub plan_is : HasPlan (net_of flat.tables table).edges
      (pace_in (net_of flat.tables table) steps) counts plan.period plan

abbrev pub TablePlanIsRecord : Type 0
TablePlanIsRecord = (flat : Flat) (cluster : ℕ) (table : List AttrsOf) (plan : Plan)
    → (is_new : Bool) → AreAttributes flat cluster table
    → IsTablePlan flat.tables cluster table plan → HasRecord flat cluster table plan is_new

-- so is that of the text
abbrev pub FirstPlanIsRecord : Type 0
FirstPlanIsRecord = (flat : Flat) (cluster : ℕ) (first : First) → AreWithinLimits flat
    → IsFirstPlan flat cluster first → HasRecord flat cluster first.attrs.rows first.plan true
