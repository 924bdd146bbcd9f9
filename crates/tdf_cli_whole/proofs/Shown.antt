-- The columns of a valid snapshot have times and numbers in the ranges that its text has.
use Rattle.std.proofs.Common.{◌≡◌, ◌∙◌, ℕ, zero, suc, ◌+◌, ◌-◌, ◌*◌, ◌^◌, ◌<◌, ◌≤◌, min, not, nat_lt, Bool, true, false, if◌then◌else◌, cond, List, [], ◌∷◌, Option, Some, None, option_map, map, slice_get, slice_index, inl, inr, refl, ap, sym, subst, arith}
use Rattle.std.proofs.Math.Nat.{mul-le-mul_right}
use Rattle.std.proofs.lemmas.Bool.{cases_lt, le-ltb, lt-ltb}
use Rattle.std.proofs.lemmas.List.Elements.{All-weaker, recursion_from_All}
use Rattle.std.specs.List.{AllByRecursion, filter, range_with_len}
use Rattle.std.specs.Option.{option_and_then}
use Rattle.tdf_base.specs.Limits.{time_end}
use Rattle.tdf_bind.specs.declared.model.Flat.{Flat}
use Rattle.tdf_bind_connections.specs.declared.modules.PortRow.{PortRow}
use Rattle.tdf_bind_connections.specs.declared.traces.TraceRow.{TraceRow}
use Rattle.tdf_bind_invariants.specs.Limits.{AreWithinLimits}
use Rattle.tdf_bind_tables.specs.FlatTables.{FlatTablesOf}
use Rattle.tdf_cli_whole.proofs.Clusters.{begun_by}
use Rattle.tdf_cli_whole.proofs.Numbers.{all_of_signal, carried_in, of_signal}
use Rattle.tdf_cli_whole.proofs.Zips.{all_both}
use Rattle.tdf_dynamic_first.specs.declared.first.First.{First}
use Rattle.tdf_dynamic_plans.specs.Attributes.{clusters_of}
use Rattle.tdf_exec_parts.specs.States.{IsStateUnder}
use Rattle.tdf_lang_tree.specs.Pure.{PureTree}
use Rattle.tdf_save.specs.Members.{IsColumnInRange, IsStampInRange}
use Rattle.tdf_saved.specs.State.{ColumnStateOf, SnapshotOf}
use Rattle.tdf_saved.specs.declared.state.Stamp.{Stamp as SavedStamp}
use Rattle.tdf_sim_history.proofs.Api.{port_cluster}
use Rattle.tdf_sim_history.specs.Cells.{driver_of_row}
use Rattle.tdf_sim_history.specs.World.{ClusterAt}
use Rattle.tdf_sim_resumed.proofs.Api.{ResumedAt, resumed_at, whole_is}
use Rattle.tdf_sim_resumed.specs.Resuming.{resumed_clusters}
use Rattle.tdf_sim_resumed.specs.Starting.{Tracked, cluster_of_port, known_count, position_count, positions_before, row_of_trace, time_of_position, tracked_of, tracked_port, tracked_signal}
use Rattle.tdf_sim_resumed.specs.Valid.{HasNumbersFor, IsNumberFor, IsValid, IsValidColumn, IsValidSamples, IsValidTracked}
use Rattle.tdf_streams.proofs.Api.{none_some, some_same, steps_whole}
use Rattle.tdf_streams.specs.Laws.{IsClusterPort}
use Rattle.tdf_streams.specs.Signals.{positions, step_in}

-- ---- the signal of a trace that a port drives

pub record IsDrivenBy (tables : FlatTablesOf) (clusters : List ClusterAt) (x : Tracked) : Type 0 where
  pub number : ℕ
  pub port_is : slice_get tables.ports number ≡ Some x.port
  pub there : slice_get clusters (slice_index (clusters_of tables) x.port.«module» - 1) ≡ Some x.cluster

module _ (tables : FlatTablesOf) (clusters : List ClusterAt) where
  by_cluster : (x : Tracked) (number : ℕ) (port : PortRow) → slice_get tables.ports number ≡ Some port
      → (o : Option ClusterAt) → cluster_of_port tables clusters port ≡ o → option_map (λ (c : ClusterAt). record { port = port; cluster = c }) o ≡ Some x → IsDrivenBy tables clusters x
  by_cluster x number port port_is None there is = none_some x is
  by_cluster x number port port_is (Some c) there is =
      let y : Tracked = record { port = port; cluster = c } in
      subst (IsDrivenBy tables clusters) (some_same y x is) (record { number = number; port_is = port_is; there = there })

  by_port : (x : Tracked) (number : ℕ) (o : Option PortRow) → slice_get tables.ports number ≡ o → option_and_then (tracked_port tables clusters) o ≡ Some x → IsDrivenBy tables clusters x
  by_port x number None port_is is = none_some x is
  by_port x number (Some port) port_is is = by_cluster x number port port_is (cluster_of_port tables clusters port) refl is

  by_driver : (x : Tracked) (o : Option ℕ) → option_and_then (tracked_port tables clusters) (option_and_then (slice_get tables.ports) o) ≡ Some x → IsDrivenBy tables clusters x
  by_driver x None is = none_some x is
  by_driver x (Some number) is = by_port x number (slice_get tables.ports number) refl is

  pub driven_by : (row : TraceRow) (x : Tracked) → row.event ≡ false → tracked_of tables clusters row ≡ Some x → IsDrivenBy tables clusters x
  driven_by row x plain is = by_driver x (driver_of_row (slice_get tables.signals row.signal))
      (sym (ap (λ (b : Bool). if b then None else tracked_signal tables clusters row.signal) plain) ∙ is)

-- ---- times of samples

-- the positions of a port are inside a period that begins at a time of a run and is no longer
pub record IsShortIn (port : PortRow) (c : ClusterAt) : Type 0 where
  pub since : c.since < time_end
  pub period : c.now.info.period < time_end
  pub cut : positions port c.now * step_in port c.now ≡ c.now.info.period

-- samples before a time, and samples from it on
all_late : (since end : ℕ) (xs : List SavedStamp) → since ≤ end
    → AllByRecursion (λ time. time < end) (map (λ (x : SavedStamp). x.time) (filter (λ (x : SavedStamp). not (nat_lt x.time since)) xs)) → AllByRecursion (λ (x : SavedStamp). x.time < end) xs
all_late since end [] low all = tt
all_late since end (x ∷ xs) low all = elim (cases_lt x.time since) [
  | inl less ↦ (
    omega (arith, less, low),
    all_late since end xs low
        (subst (λ b. AllByRecursion (λ time. time < end) (map (λ (y : SavedStamp). y.time) (cond (not b) (x ∷ rest) rest))) (lt-ltb x.time since less) all),
  )
  | inr past ↦ (
      let here = subst (λ b. AllByRecursion (λ time. time < end) (map (λ (y : SavedStamp). y.time) (cond (not b) (x ∷ rest) rest))) (le-ltb x.time since past) all in
      (here.0, all_late since end xs low here.1))
]
  where
    rest : List SavedStamp
    rest = filter (λ (y : SavedStamp). not (nat_lt y.time since)) xs

all_made : (f : ℕ → ℕ) (end a n : ℕ) → ((i : ℕ) → a ≤ i → i < a + n → f i < end) → AllByRecursion (λ time. time < end) (map f (range_with_len a n))
all_made f end a zero each = tt
all_made f end a (suc n) each = (each a (omega arith) (omega arith), all_made f end (a + 1) n (λ i low high. each i (omega (arith, low)) (omega (arith, high))))

samples_early : (rows : ℕ) (x : Tracked) (s : ColumnStateOf) → IsShortIn x.port x.cluster → IsValidSamples rows x s → AllByRecursion (λ (y : SavedStamp). y.time < 2 * 10 ^ 18) s.samples
samples_early rows x s short valid =
    all_late x.cluster.since (2 * 10 ^ 18) s.samples (let l = short.since in omega (arith, l))
    (subst (AllByRecursion (λ time. time < 2 * 10 ^ 18)) (sym valid.known)
    (all_made (time_of_position x) (2 * 10 ^ 18) (positions_before rows x) (min (known_count x) (position_count x) - positions_before rows x) (λ i low high. inside i (omega (arith, low, high)))))
  where
    inside : (i : ℕ) → i < position_count x → time_of_position x i < 2 * 10 ^ 18
    inside i below =
        let m : i * step_in x.port x.cluster.now ≤ position_count x * step_in x.port x.cluster.now = mul-le-mul_right (step_in x.port x.cluster.now) (omega (arith, below)) in
        let a = short.since in let b = short.period in let c = short.cut in omega (arith, m, a, b, c)

-- ---- one column

module _ (model : PureTree) (flat : Flat) (firsts : List First) (s : SnapshotOf) (limits : AreWithinLimits flat) (valid : IsValid model flat firsts s) where
  abbrev others : List ClusterAt
  others = resumed_clusters model flat firsts s []

  short_in : (x : Tracked) → IsDrivenBy flat.tables others x → IsShortIn x.port x.cluster
  short_in x driven = subst (IsShortIn x.port) (sym r.is) (record {
    since = (let b = begun_by r.state.start s.time r.first.plan.period state.inside in let t = valid.times.time in omega (arith, b, t));
    period = (whole_is flat (k + 1) s.time r.first r.state state).is.timed.period_is.short;
    cut = (steps_whole flat (k + 1) driven.number x.port _ limits of (whole_is flat (k + 1) s.time r.first r.state state).is.timed).1;
  })
    where
      k : ℕ
      k = slice_index (clusters_of flat.tables) x.port.«module» - 1

      r : ResumedAt model flat firsts s [] k x.cluster
      r = resumed_at model flat firsts s [] k x.cluster driven.there

      state : IsStateUnder flat (k + 1) r.state s.time r.first.attrs.rows r.first.plan
      state = valid.clusters.each k r.first r.state r.first_at r.state_at

      of : IsClusterPort flat (k + 1) driven.number x.port
      of = record {
        there = driven.port_is;
        inside = (let p = port_cluster flat driven.number x.port limits driven.port_is in let e : slice_index (clusters_of flat.tables) x.port.«module» ≡ slice_index (clusters_of flat.tables) x.port.«module» - 1 + 1 = omega (arith, p) in e);
      }

  times_of_samples : (rows : ℕ) (row : TraceRow) (column : ColumnStateOf) → row.event ≡ false → (o : Option Tracked) → tracked_of flat.tables others row ≡ o → IsValidTracked rows o column
      → AllByRecursion (λ (y : SavedStamp). y.time < 2 * 10 ^ 18) column.samples
  times_of_samples rows row column plain None is nothing = subst (AllByRecursion (λ (y : SavedStamp). y.time < 2 * 10 ^ 18)) (sym nothing.samples) tt
  times_of_samples rows row column plain (Some x) is samples = samples_early rows x column (short_in x (driven_by flat.tables others row x plain is)) samples

  times_early : (rows : ℕ) (row : TraceRow) (column : ColumnStateOf) → IsValidColumn flat rows s row (tracked_of flat.tables others row) column
      → (b : Bool) → row.event ≡ b → AllByRecursion (λ (y : SavedStamp). y.time < 2 * 10 ^ 18) column.samples
  times_early rows row column is true event = recursion_from_All (λ (y : SavedStamp). y.time < 2 * 10 ^ 18) column.samples
      (All-weaker (λ (y : SavedStamp). y.time < s.time) (λ (y : SavedStamp). y.time < 2 * 10 ^ 18) (λ y low. (let t = valid.times.time in omega (arith, low, t))) column.samples (is.0 event).before)
  times_early rows row column is false plain = times_of_samples rows row column plain (tracked_of flat.tables others row) refl (is.1 plain)

  pub column_fits : (rows : ℕ) (row : TraceRow) (column : ColumnStateOf) → HasNumbersFor flat.tables row column → IsValidColumn flat rows s row (tracked_of flat.tables others row) column → IsColumnInRange column
  column_fits rows row column numbers is = record {
    carry = carried_in (row_of_trace flat.tables row) column.carry numbers.carry;
    samples = all_both (λ (y : SavedStamp). y.time < 2 * 10 ^ 18) (λ (y : SavedStamp). IsNumberFor (row_of_trace flat.tables row) y.num) IsStampInRange
        (λ y low in_format. record { time = omega (arith, low); num = of_signal (row_of_trace flat.tables row) y.num in_format })
        column.samples (times_early rows row column is row.event refl)
        (recursion_from_All (λ (y : SavedStamp). IsNumberFor (row_of_trace flat.tables row) y.num) column.samples numbers.samples);
    later = all_of_signal (row_of_trace flat.tables row) column.later numbers.later;
  }
