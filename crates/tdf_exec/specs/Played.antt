-- What firings do to a cluster in progress, as steps of its streams.
-- Source: own.
use Rattle.std.specs.List.{count_by, range_with_len, sum_by}
use Rattle.std.specs.Prelude.{◌≡◌, ℕ, ◌+◌, ◌-◌, ◌^◌, ◌<◌, ◌≤◌, false, List, [], length, map, min, Some, drop, take, slice_get, slice_index, ℤ}
use Rattle.tdf_exec.specs.Cluster.{ClusterOf, is_next_due}
use Rattle.tdf_exec.specs.Made.{is_sampler_runner}
use Rattle.tdf_exec_layout.specs.Samples.{edge_format}
use Rattle.tdf_exec.specs.Runners.{ModuleOf, SamplerOf}
use Rattle.tdf_exec.specs.declared.runners.Runner.{Runner}
use Rattle.tdf_exec.specs.declared.runners.Runner.TheVariants as runner
use Rattle.tdf_expr.specs.Checked.{IsCheckedOf}
use Rattle.tdf_expr.specs.Frames.{IsOfFormat}
use Rattle.tdf_fixed.specs.declared.format.Format.{Format}
use Rattle.tdf_fixed.specs.declared.raw.Raw.{Raw}
use Rattle.tdf_bind.specs.declared.model.Flat.{Flat}
use Rattle.tdf_streams.specs.Net.{count}
use Rattle.tdf_streams.specs.Playing.{IsPlayed}
use Rattle.tdf_streams.specs.Stands.{Play, Stands}
use Rattle.tdf_exec_layout.specs.Wiring.{Writes}
use Rattle.tdf_rings.specs.Rings.{RingOf}
use Rattle.tdf_schedule.specs.Plan.{done}
use Rattle.tdf_schedule.specs.declared.entry.Entry.{Entry}
use Rattle.tdf_streams.specs.Cluster.{Start, cluster_net}
use Rattle.tdf_streams.specs.Periods.{PeriodRecord}
use Rattle.tdf_lang_tree.specs.Pure.{PureTree}

-- what an actor keeps: the values of the variables of a module
abbrev pub runner_cells : Runner → List ℤ
runner_cells (runner.Module x) = x.frame.state.cells
runner_cells _ = []

-- the activations of an actor between two places of a plan
abbrev pub turns_from : List Entry → (from place : ℕ) → ℕ → ℕ
turns_from entries from place m = done entries place m - done entries from m

-- a cluster in progress, as the streams see it; the start, or the period, lies at the place `from`
abbrev pub play_of : (from : ℕ) → ClusterOf → Play (List ℤ) Raw
play_of from c = record {
  turns = map (turns_from c.entries from c.place) (range_with_len 0 (length c.runners));
  states = map runner_cells c.runners;
  lists = map (λ (r : RingOf). r.samples) c.rings;
}

-- a period of the streams is the one that the cluster is in: it has the rates and attributes of the
-- cluster, and does what comes in the plan from that place on
pub record IsPeriodOf (c : ClusterOf) (from : ℕ) (p : PeriodRecord) : Type 0 where
  pub started : from ≤ c.place
  pub counts : (m : ℕ) → slice_index p.counts m
      ≡ turns_from c.entries from (length c.entries) m
  pub reads : p.reads ≡ c.reads
  pub writes : p.writes ≡ c.writes
  pub table : p.info.table ≡ c.table

-- the inputs have a value for each sampler of the cluster, and those that are due are of the format
-- of their edges
pub record AreInputsFor (flat : Flat) (offset : ℕ) (c : ClusterOf) (inputs : List Raw)
    : Type 0 where
  pub many : length inputs ≡ count_by is_sampler_runner c.runners
  pub formats : (i e : ℕ) (x : Entry) (s : SamplerOf) (v : Raw) (f : Format) → c.place ≤ i
      → slice_get c.entries i ≡ Some x → x.offset ≡ offset
      → slice_get c.runners x.actor ≡ Some (runner.Sampler s)
      → slice_get inputs s.place ≡ Some v
      → Writes flat.tables x.actor e → edge_format flat.tables e ≡ Some f → IsOfFormat f v

-- a sampler that fires by entry i is given its input as the next of its values
pub record AreInputsGiven (c : ClusterOf) (inputs : List Raw) (reads : ℕ → List Raw)
    (old : List PeriodRecord) (from i : ℕ) (x : Entry) : Type 0 where
  pub is : (s : SamplerOf) (v : Raw) → slice_get c.runners x.actor ≡ Some (runner.Sampler s)
      → slice_get inputs s.place ≡ Some v
      → slice_get (reads x.actor)
      (sum_by (count x.actor) old + turns_from c.entries from i x.actor) ≡ Some v

-- each that is due
abbrev pub AreAllGiven : (offset : ℕ) → ClusterOf → (inputs : List Raw) → (ℕ → List Raw)
    → List PeriodRecord → (from : ℕ) → Type 0
AreAllGiven offset c inputs reads old from = (i : ℕ) (x : Entry) → c.place ≤ i
    → slice_get c.entries i ≡ Some x → x.offset ≡ offset
    → AreInputsGiven c inputs reads old from i x

-- the actors that fire from one place of the plan to another
abbrev pub actors_between : List Entry → (from to : ℕ) → List ℕ
actors_between entries from to =
    map (λ (x : Entry). x.actor) (take (to - from) (drop from entries))

-- the firings are steps of the streams of the cluster, in the order of the plan: for each model
-- that the bodies are of, and for each start, earlier periods and values of samplers
abbrev pub HasPlayed : Flat → (offset : ℕ) → (inputs : List Raw) → (old new : ClusterOf) → Type 0
HasPlayed flat offset inputs c d = (model : PureTree) (start : Start) (old : List PeriodRecord)
    → (p : PeriodRecord) (reads : ℕ → List Raw) (from : ℕ)
    → IsCheckedOf model flat.checked → IsPeriodOf c from p
    → AreAllGiven offset c inputs reads old from
    → IsPlayed (cluster_net model flat c.number start) old p reads
    (actors_between c.entries c.place d.place) (play_of from c) (play_of from d)

-- so where the cluster stands for the streams before, it does after
abbrev pub KeepsStanding : Flat → (offset : ℕ) → (inputs : List Raw) → (old new : ClusterOf)
    → Type 0
KeepsStanding flat offset inputs c d = (model : PureTree) (start : Start) (old : List PeriodRecord)
    → (p : PeriodRecord) (reads : ℕ → List Raw) (from f : ℕ)
    → IsCheckedOf model flat.checked → IsPeriodOf c from p
    → AreAllGiven offset c inputs reads old from
    → Stands (cluster_net model flat c.number start) old p reads f (play_of from c)
    → Stands (cluster_net model flat c.number start) old p reads (d.place - c.place + f)
    (play_of from d)

-- the wires of a module and all that isn't a module are as they were
abbrev pub IsLike : Runner → Runner → Type 0
IsLike (runner.Module x) r = (y : ModuleOf) × (r ≡ runner.Module y) × (y.block ≡ x.block)
    × (y.wires ≡ x.wires) × (y.traced ≡ x.traced)
IsLike other r = r ≡ other

-- a number of activations, or the greatest that there is
abbrev pub counted : ℕ → ℕ
counted n = min n (2 ^ 64 - 1)

-- the entries from one place to another are done: nothing but the place, the rings, the values and
-- the counts of activations has changed
pub record IsMoved (c d : ClusterOf) : Type 0 where
  pub rest : d ≡ record c {
    place = d.place;
    rings = d.rings;
    runners = d.runners;
    positions = d.positions;
  }
  pub up : c.place ≤ d.place
  pub within : d.place ≤ length c.entries
  pub same : length d.runners ≡ length c.runners
  pub runners : (m : ℕ) (r : Runner) → slice_get c.runners m ≡ Some r
      → (s : Runner) × (slice_get d.runners m ≡ Some s) × IsLike r s
  pub positions : (m : ℕ) → m < length c.positions → slice_index d.positions m
      ≡ counted (slice_index c.positions m + turns_from c.entries c.place d.place m)

-- all entries of an offset are done, and no other
pub record AreDone (offset : ℕ) (c d : ClusterOf) : Type 0 where
  pub moved : IsMoved c d
  pub each : (i : ℕ) (x : Entry) → c.place ≤ i → i < d.place → slice_get c.entries i ≡ Some x
      → x.offset ≡ offset
  pub all : is_next_due d offset ≡ false
