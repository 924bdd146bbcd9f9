-- What firings give: the samples of sinks, and those of traced signals.
-- Source: own.
use Rattle.std.specs.List.{flat_map, sum_by}
use Rattle.std.specs.Prelude.{◌≡◌, ℕ, ◌+◌, ◌≤◌, if◌then◌else◌, nat_eq, List, [], ◌∷◌, ◌++◌, All, length, map, drop, Option, Some, slice_get, ℤ}
use Rattle.tdf_bind_tables.specs.FlatTables.{FlatTablesOf}
use Rattle.tdf_convert.specs.Outputs.{OutputsOf}
use Rattle.tdf_convert.specs.declared.outputs.Sent.{Sent}
use Rattle.tdf_convert.specs.declared.outputs.Traced.{Traced}
use Rattle.tdf_dynamic_plans.specs.Attributes.{AttrsOf}
use Rattle.tdf_exec.specs.Cluster.{ClusterOf}
use Rattle.tdf_exec.specs.Played.{AreAllGiven, IsPeriodOf, actors_between, play_of}
use Rattle.tdf_exec.specs.Traced.{traced_count, turn_samples}
use Rattle.tdf_exec_layout.specs.Samples.{edge_format}
use Rattle.tdf_exec_layout.specs.Traced.{traced_ports}
use Rattle.tdf_exec_layout.specs.Wiring.{Reads}
use Rattle.tdf_exec.specs.declared.runners.Runner.{Runner}
use Rattle.tdf_exec.specs.declared.runners.Runner.TheVariants as runner
use Rattle.tdf_expr.specs.Checked.{IsCheckedOf}
use Rattle.tdf_expr.specs.Frames.{IsOfFormat}
use Rattle.tdf_fixed.specs.declared.format.Format.{Format}
use Rattle.tdf_fixed.specs.declared.raw.Raw.{Raw}
use Rattle.tdf_bind.specs.declared.model.Flat.{Flat}
use Rattle.tdf_streams.specs.Firing.{fronts}
use Rattle.tdf_streams.specs.Net.{Net, Turn}
use Rattle.tdf_streams.specs.Playing.{IsStep}
use Rattle.tdf_streams.specs.Stands.{Play}
use Rattle.tdf_graph.specs.declared.actors.Actor.{Actor}
use Rattle.tdf_graph.specs.declared.actors.Actor.TheVariants as actor
use Rattle.tdf_schedule.specs.declared.entry.Entry.{Entry}
use Rattle.tdf_streams.specs.Cluster.{Start, cluster_net}
use Rattle.tdf_streams.specs.Periods.{PeriodInfo, PeriodRecord}
use Rattle.tdf_streams.specs.Places.{actor_kind}
use Rattle.tdf_lang_tree.specs.Pure.{PureTree}

abbrev pub sent_sample : (m : ℕ) → Raw → Sent
sent_sample m value = record { actor = m; value = value }

-- a sink sends what it reads from its list, another actor nothing
abbrev pub sent_by : Option Actor → ℕ → List (List Raw) → List Sent
sent_by (Some actor.Sink) m read = map (sent_sample m) (flat_map (λ (xs : List Raw). xs) read)
sent_by _ m read = []

-- the samples of traced signals that a module writes in an activation, port after port
abbrev pub traced_by : FlatTablesOf → Option Actor → ℕ → List AttrsOf → Turn (List ℤ) Raw
    → List Traced
traced_by tables (Some actor.Module) m table turn =
    flat_map (turn_samples tables table turn) (traced_ports tables m)
traced_by tables _ m table turn = []

-- a step of the streams, with what it gives
pub record Gives (flat : Flat) (net : Net (List ℤ) Raw PeriodInfo) (old : List PeriodRecord)
    (p : PeriodRecord) (reads : ℕ → List Raw) (m : ℕ) (y z : Play (List ℤ) Raw)
    (sent : List Sent) (traced : List Traced) : Type 0 where
  pub step : IsStep net old p reads m y z
  pub sent_is : sent ≡ sent_by (actor_kind flat.tables m) m (fronts net p m y.lists 0 net.edges)
  pub traced_is : traced
      ≡ traced_by flat.tables (actor_kind flat.tables m) m p.info.table step.turn

-- the steps of an order, one after the other, with what they give
unfoldable pub GiveAll : Flat → Net (List ℤ) Raw PeriodInfo → List PeriodRecord → PeriodRecord
    → (reads : ℕ → List Raw) → List ℕ → (y z : Play (List ℤ) Raw) → List Sent → List Traced → Type 0
GiveAll flat net old p reads [] y z sent traced = (z ≡ y) × (sent ≡ []) × (traced ≡ [])
GiveAll flat net old p reads (m ∷ ms) y z sent traced =
    (mid : Play (List ℤ) Raw) × (s : List Sent) × (t : List Traced) × (rest : List Sent)
    × (more : List Traced) × Gives flat net old p reads m y mid s t
    × GiveAll flat net old p reads ms mid z rest more × (sent ≡ s ++ rest) × (traced ≡ t ++ more)

abbrev pub with_gains : OutputsOf → List Sent → List Traced → OutputsOf
with_gains outputs sent traced = record outputs {
  sent = outputs.sent ++ sent;
  traced = outputs.traced ++ traced;
}

-- how many samples a firing gives
abbrev pub sent_size : Option Runner → ℕ
sent_size (Some (runner.Sink k)) = 1
sent_size _ = 0

abbrev pub traced_size : Option Runner → ℕ
traced_size (Some (runner.Module x)) = traced_count x.traced
traced_size _ = 0

-- how many the entries of an offset give that come from a place on
abbrev pub size_if : (size : Option Runner → ℕ) → List Runner → (offset : ℕ) → Entry → ℕ
size_if size runners offset x =
    if nat_eq x.offset offset then size (slice_get runners x.actor) else 0

unfoldable pub size_due : (size : Option Runner → ℕ) → List Runner → (offset : ℕ) → List Entry → ℕ
size_due size runners offset entries = sum_by (size_if size runners offset) entries

-- a sample that a sink sent: it is of the format of the edge that the sink reads
pub record IsSentOf (tables : FlatTablesOf) (s : Sent) : Type 0 where
  pub sink : actor_kind tables s.actor ≡ Some actor.Sink
  pub fits : (e : ℕ) (f : Format) → Reads tables s.actor e → edge_format tables e ≡ Some f
      → IsOfFormat f s.value

-- a sample of a traced signal has no more places after the point than a format can have
abbrev pub SampleHasFewPlaces : Traced → Type 0
SampleHasFewPlaces t = t.value.frac ≤ 63

-- the outputs gained exactly what the steps of the streams give, in the order of the plan
pub record HasGained (flat : Flat) (offset : ℕ) (inputs : List Raw) (c d : ClusterOf)
    (before after : OutputsOf) : Type 0 where
  pub sent : List Sent
  pub traced : List Traced
  pub are : after ≡ with_gains before sent traced
  pub sinks : All (IsSentOf flat.tables) sent
  pub places : All SampleHasFewPlaces traced
  pub given : (model : PureTree) (start : Start) (old : List PeriodRecord) (p : PeriodRecord)
      → (reads : ℕ → List Raw) (from : ℕ) → IsCheckedOf model flat.checked → IsPeriodOf c from p
      → AreAllGiven offset c inputs reads old from
      → GiveAll flat (cluster_net model flat c.number start) old p reads
      (actors_between c.entries c.place d.place) (play_of from c) (play_of from d) sent traced
  -- as many as the entries of the offset give that were to come before and are not any more
  pub sent_many : length sent + size_due sent_size d.runners offset (drop d.place d.entries)
      ≡ size_due sent_size c.runners offset (drop c.place c.entries)
  pub traced_many : length traced
      + size_due traced_size d.runners offset (drop d.place d.entries)
      ≡ size_due traced_size c.runners offset (drop c.place c.entries)

-- the lists have room for what the entries of an offset give that are still to come
pub record HaveRoom (offset : ℕ) (c : ClusterOf) (outputs : OutputsOf) : Type 0 where
  pub sent : length outputs.sent + size_due sent_size c.runners offset (drop c.place c.entries)
      ≤ outputs.sent_room
  pub traced : length outputs.traced
      + size_due traced_size c.runners offset (drop c.place c.entries) ≤ outputs.traced_room
