-- What holds of the samples that a column begins with and of those that a module writes at its port holds of each sample of the column.
use Rattle.std.proofs.Common.{◌≡◌, ◌∙◌, ℕ, ℤ, zero, suc, ◌+◌, ◌*◌, ◌-◌, ◌/◌, ◌%◌, ◌<◌, Bool, true, false, ◌||◌, not, if◌then◌else◌, nat_eq, nat_lt, Option, Some, None, option_map, List, [], length, slice_get, slice_index, refl, ap, subst, arith}
use Rattle.std.proofs.lemmas.Bool.{eq-eqb}
use Rattle.std.proofs.lemmas.Nat.{mod_below}
use Rattle.std.specs.List.{sum_by}
use Rattle.std.specs.Option.{option_and_then}
use Rattle.tdf_bind.specs.declared.model.Flat.{Flat}
use Rattle.tdf_bind_connections.specs.declared.modules.PortRow.{PortRow}
use Rattle.tdf_dynamic_plans.specs.Attributes.{clusters_of}
use Rattle.tdf_fixed.specs.declared.raw.Raw.{Raw}
use Rattle.tdf_graph.specs.declared.actors.Actor.TheVariants as actor
use Rattle.tdf_lang_tree.specs.Pure.{PureTree}
use Rattle.tdf_sim_history.specs.Cells.{sample_at, sample_of, samples_done}
use Rattle.tdf_sim_history.specs.Columns.{ColumnStart, held_by}
use Rattle.tdf_sim_history.specs.Instant.{periods_of, run_in}
use Rattle.tdf_sim_history.specs.World.{ClusterAt}
use Rattle.tdf_sim_split.proofs.Fits.{Every, find_every, find_less}
use Rattle.tdf_streams.proofs.Api.{none_some, some_same}
use Rattle.tdf_streams.specs.Bodies.{module_acted}
use Rattle.tdf_streams.specs.Cluster.{Start, cluster_net, is_sampler_kind}
use Rattle.tdf_streams.specs.Grounds.{firings}
use Rattle.tdf_streams.specs.Laws.{ClusterNet, ClusterRun}
use Rattle.tdf_streams.specs.Net.{Past, Turn, count}
use Rattle.tdf_streams.specs.Periods.{PeriodInfo, PeriodRecord}
use Rattle.tdf_streams.specs.Places.{actor_kind}
use Rattle.tdf_streams.specs.Signals.{output_at_spot, outputs_in, port_output, rate_in}
use Rattle.tdf_streams.specs.Streams.{Spot, find, inputs, known, sampled, state_before, turn, turn_at}

-- ---- what stands behind a `Some`

pub map_some : {A B : Type 0} (f : A → B) (o : Option A) (y : B) → option_map f o ≡ Some y → (x : A) × (o ≡ Some x) × (f x ≡ y)
map_some f None y at = none_some y at
map_some f (Some x) y at = (x, refl, some_same (f x) y at)

then_some : {A B : Type 0} (f : A → Option B) (o : Option A) (y : B) → option_and_then f o ≡ Some y → (x : A) × (o ≡ Some x) × (f x ≡ Some y)
then_some f None y at = none_some y at
then_some f (Some x) y at = (x, refl, at)

-- a rate that something lies below is some
some_rate : (times rate x : ℕ) → x < times * rate → 0 < rate
some_rate times zero x low = absurd (let z : times * 0 ≡ 0 = omega arith in omega (arith, low, z))
some_rate times (suc rate) x low = omega arith

module _ (model : PureTree) (flat : Flat) (number : ℕ) (port : PortRow) (module_is : actor_kind flat.tables port.«module» ≡ Some actor.Module) (P : Raw → Type 0) (Good : PeriodRecord → Type 0)
    (writes : (p q : PeriodRecord) (cells : List ℤ) (given : List (List Raw)) (k : ℕ) → Good p → Good q → k < rate_in port q
    → P ((module_acted model flat port.«module» (actor_kind flat.tables port.«module») p.info cells given).outputs number k)) where
  abbrev cluster : ℕ
  cluster = slice_index (clusters_of flat.tables) port.«module»

  module _ (begun : Start) (run : ClusterRun) (good : Every Good run.periods) where
    abbrev net : ClusterNet
    net = cluster_net model flat cluster begun

    no_sampler : net.is_sampler port.«module» ≡ false
    no_sampler = ap (λ k. is_sampler_kind k || not (nat_eq cluster cluster)) module_is ∙ ap not (eq-eqb cluster cluster refl)

    at_spot : (past : Past (List ℤ) Raw) (n : ℕ) (s : Spot PeriodInfo) (t : Turn (List ℤ) Raw) (q : PeriodRecord) (k : ℕ) → Good s.period → Good q → k < rate_in port q → turn_at net run past port.«module» n s ≡ Some t → P (t.outputs number k)
    unfolding turn_at
    at_spot past n s t q k own other low at = go (net.is_sampler port.«module») no_sampler at
      where
        go : (b : Bool) → b ≡ false → (if b then option_map (sampled net port.«module») (slice_get (run.reads port.«module») n)
            else option_and_then (λ (x : List ℤ). option_map (net.process port.«module» s.period x) (inputs net run.periods past port.«module» s 0 net.edges)) (state_before net past port.«module» s n)) ≡ Some t → P (t.outputs number k)
        go true e h = absurd cc
        go false e h =
            let x = then_some _ (state_before net past port.«module» s n) t h in
            let given = map_some (net.process port.«module» s.period x.0) (inputs net run.periods past port.«module» s 0 net.edges) t x.2 in
            subst (λ (u : Turn (List ℤ) Raw). P (u.outputs number k)) given.2 (writes s.period q x.0 given.0 k own other low)

    turn_has : (f n : ℕ) (t : Turn (List ℤ) Raw) (q : PeriodRecord) (k : ℕ) → Good q → k < rate_in port q → known net run f port.«module» n ≡ Some t → P (t.outputs number k)
    unfolding known turn
    turn_has zero n t q k other low at = none_some t at
    turn_has (suc f) n t q k other low at =
        let s = then_some (turn_at net run (known net run f) port.«module» n) (find (count port.«module») [] run.periods n) t at in
        at_spot (known net run f) n s.0 t q k (find_every Good (count port.«module») [] run.periods n s.0 tt good s.1).1 other low s.2

    output_has : (f j : ℕ) (v : Raw) → port_output run.periods port number (known net run f) j ≡ Some v → P v
    unfolding port_output
    output_has f j v at =
        let s = then_some (output_at_spot port number (known net run f)) (find (outputs_in port) [] run.periods j) v at in
        let t = map_some (λ (u : Turn (List ℤ) Raw). u.outputs number (s.0.rest % rate_in port s.0.period))
        (known net run f port.«module» (sum_by (λ (p : PeriodRecord). slice_index p.counts port.«module») s.0.before + s.0.rest / rate_in port s.0.period)) v s.2 in
        let some = some_rate (slice_index s.0.period.counts port.«module») (rate_in port s.0.period) s.0.rest (find_less (outputs_in port) [] run.periods j s.0 s.1) in
        subst P t.2 (turn_has f _ t.0 s.0.period (s.0.rest % rate_in port s.0.period) (find_every Good (outputs_in port) [] run.periods j s.0 tt good s.1).1 (mod_below s.0.rest (rate_in port s.0.period) some) t.1)

  -- a sample of a column
  pub sample_has : (start : ColumnStart) (c : ClusterAt) → Every Good (periods_of c) → ((j : ℕ) (v : Raw) → slice_get (held_by start) j ≡ Some v → P v)
      → (j : ℕ) (v : Raw) → sample_at model flat (slice_index (clusters_of flat.tables) port.«module») c start port number j ≡ Some v → P v
  sample_has start c good held j v at = go (nat_lt j (samples_done start port c)) at
    where
      past : Past (List ℤ) Raw
      past = known (cluster_net model flat (slice_index (clusters_of flat.tables) port.«module») c.begun) (run_in c) (firings (periods_of c))

      by_held : (b : Bool) → (if b then slice_get (held_by start) j else port_output (periods_of c) port number past (j - length (held_by start))) ≡ Some v → P v
      by_held true h = held j v h
      by_held false h = output_has c.begun (run_in c) good (firings (periods_of c)) (j - length (held_by start)) v h

      go : (b : Bool) → (if b then sample_of start (periods_of c) port number past j else None) ≡ Some v → P v
      go true h = by_held (nat_lt j (length (held_by start))) h
      go false h = none_some v h
