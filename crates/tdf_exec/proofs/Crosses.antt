-- A cluster at another place of its plan, and at the end of a period.
use Rattle.std.proofs.Common.{◌≡◌, ◌∙◌, ℕ, ◌+◌, ◌*◌, ◌<◌, ◌≤◌, Bool, true, false, if◌then◌else◌, nat_eq, List, [], ◌∷◌, ◌++◌, None, ℤ, length, refl, sym, ap, inl, inr, ◌⊎◌, arith}
use Rattle.std.proofs.lemmas.Bool.{cases_lt, eqb-true, ne_eqb}
use Rattle.std.proofs.lemmas.List.{get_or_past, length-map}
use Rattle.std.proofs.lemmas.List.FromFn.{length-map-range_with_len}
use Rattle.std.proofs.lemmas.Option.{get_or_from_slice_get, slice_get_past}
use Rattle.std.specs.List.{range_with_len}
use Rattle.std.specs.Prelude.{slice_get, slice_index}
use Rattle.tdf_dynamic_plans.specs.Attributes.{AttrsOf, clusters_of}
use Rattle.tdf_exec.proofs.Kept.{false_true, neither, not_not, zero_in}
use Rattle.tdf_exec.proofs.Planned.{no_times, none_before}
use Rattle.tdf_exec.specs.Cluster.{ClusterOf, next_offset, offset_in}
use Rattle.tdf_exec.specs.Crossing.{CrossesFrom, HasNoChanges, StandsAtNext, at_place}
use Rattle.tdf_exec.specs.Made.{AreHeld, IsClusterWith, IsRunnerWith}
use Rattle.tdf_exec.specs.Played.{IsPeriodOf, runner_cells, play_of, turns_from}
use Rattle.tdf_exec.specs.declared.runners.Runner.{Runner}
use Rattle.tdf_exec.specs.declared.runners.Runner.TheVariants as runner
use Rattle.tdf_bind.specs.declared.model.Flat.{Flat}
use Rattle.tdf_streams.proofs.Api.{change_crosses, install_stands, get_inside, get_made_at, none_some, are_active, record_present, table_record, whole_sound}
use Rattle.tdf_schedule.specs.Plan.{done}
use Rattle.tdf_schedule.specs.declared.entry.Entry.{Entry}
use Rattle.tdf_streams.specs.Bodies.{changed, done_by, nothing_read, module_rates}
use Rattle.tdf_streams.specs.Cluster.{cluster_net, is_outside_cluster, is_sampler_kind}
use Rattle.tdf_streams.specs.Periods.{PeriodRecord, period_record}
use Rattle.tdf_streams.specs.Places.{actor_kind, changes_row, has_changes, reader_at, writer_at}
use Rattle.tdf_expr.specs.declared.bodies.Body.TheVariants as body
use Rattle.tdf_dynamic_plans.specs.Faults.{pace_in}
use Rattle.tdf_dynamic_plans.specs.Rates.{net_of}
use Rattle.tdf_exec.specs.Starts.{IsSoundFlat}
use Rattle.tdf_bind_invariants.specs.Limits.{AreWithinLimits}
use Rattle.tdf_rings.specs.Carried.{ring_at}
use Rattle.tdf_schedule.specs.Laws.{PlansArePresent}
use Rattle.tdf_streams.specs.Laws.{HasRecord}
use Rattle.tdf_streams.specs.Starts.{held_at_head}
use Rattle.tdf_lang_tree.specs.Pure.{PureTree}

-- what is kept for an actor doesn't ask where the cluster is in its period
kept_at : (flat : Flat) (held : List AttrsOf) (c : ClusterOf) (place : ℕ) (crossed : Bool) (m : ℕ) (r : Runner) → IsRunnerWith flat held c m r → IsRunnerWith flat held (at_place c place crossed) m r
kept_at flat held c place crossed m (runner.Module x) is = record {
  actor_is = is.actor_is;
  block_is = is.block_is;
  made = is.made;
  rates = is.rates;
  wires_are = is.wires_are;
  wired = is.wired;
  read_rate = is.read_rate;
  write_rate = is.write_rate;
  read_format = is.read_format;
  write_format = is.write_format;
  zeros = is.zeros;
  traced = is.traced;
  traced_rate = is.traced_rate;
}
kept_at flat held c place crossed m (runner.Sampler s) is = record {
  actor_is = is.actor_is;
  edges_are = is.edges_are;
  place_is = is.place_is;
  rate = is.rate;
  none = is.none;
}
kept_at flat held c place crossed m (runner.Sink k) is = record {
  actor_is = is.actor_is;
  edge_is = is.edge_is;
  rate = is.rate;
  none = is.none;
}
kept_at flat held c place crossed m runner.Outside is = is

pub of_at : (flat : Flat) (held : List AttrsOf) (c : ClusterOf) (place : ℕ) (crossed : Bool) → IsClusterWith flat held c → place ≤ length c.entries
    → (crossed ≡ true → offset_in (slice_get c.entries place) ≡ None) → AreHeld flat.tables (at_place c place crossed) → IsClusterWith flat held (at_place c place crossed)
of_at flat held c place crossed of within over samples = record {
  attributes = of.attributes;
  rows = record { each = of.rows.each; once = of.rows.once };
  planned = record {
    plan = of.planned.plan;
    plan_is = of.planned.plan_is;
    entries_are = of.planned.entries_are;
    bounds_are = of.planned.bounds_are;
    period_is = of.planned.period_is;
  };
  reads_are = of.reads_are;
  writes_are = of.writes_are;
  safe = record { inside = of.safe.inside; own = of.safe.own; present = of.safe.present; bounded = of.safe.bounded };
  within = within;
  over = over;
  held = samples;
  actors = of.actors;
  positions = of.positions;
  counted = of.counted;
  runners = λ m r at. kept_at flat held c place crossed m r (of.runners m r at);
  keep = of.keep;
  known = of.known;
}

pub of_crossed : (flat : Flat) (held : List AttrsOf) (c : ClusterOf) (crossed : Bool) → IsClusterWith flat held c → next_offset c ≡ None → IsClusterWith flat held (at_place c c.place crossed)
of_crossed flat held c crossed of end = of_at flat held c c.place crossed of of.within (λ is. end) (record { same = of.held.same; held = of.held.held; room = of.held.room; formats = of.held.formats })

-- no change body runs
unchanged : (model : PureTree) (flat : Flat) (m : ℕ) (periods : List PeriodRecord) (cells : List ℤ) → has_changes flat.tables.modules m ≡ false → changed model flat m periods cells ≡ cells
unchanged model flat m [] cells still = refl
unchanged model flat m (p ∷ []) cells still =
    ap (λ b. if b then (done_by model flat m body.Change cells (module_rates p.info m) nothing_read).frame.cells else cells) still
unchanged model flat m (p ∷ (q ∷ ps)) cells still = unchanged model flat m (q ∷ ps) cells still

module _ (flat : Flat) (held : List AttrsOf) (c : ClusterOf) (of : IsClusterWith flat held c) (end : next_offset c ≡ None) where
  pub at_end : c.place ≡ length c.entries
  at_end = go (cases_lt c.place (length c.entries))
    where
      go : (c.place < length c.entries) ⊎ (length c.entries ≤ c.place) → c.place ≡ length c.entries
      go (inl below) = let x = get_inside c.entries c.place below in none_some x.0.offset (sym end ∙ ap offset_in x.1)
      go (inr past) = let w = of.within in omega (arith, past, w)

  -- what is no actor is never done
  none_beyond : (m : ℕ) → length flat.tables.actors ≤ m → done c.entries (length c.entries) m ≡ 0
  unfolding done
  none_beyond m past = none_before (λ (x : Entry). nat_eq x.actor m) c.entries (length c.entries)
      (λ j x at. ne_eqb x.actor m (λ e. absurd (let i = of.safe.inside j x at in omega (arith, i, e, past))))

  module _ (from : ℕ) (p : PeriodRecord) (period : IsPeriodOf c from p) where
    pub turns_are : (m : ℕ) → slice_index (play_of from c).turns m ≡ slice_index p.counts m
    turns_are m = go (cases_lt m (length c.runners)) ∙ sym (period.counts m)
      where
        go : (m < length c.runners) ⊎ (length c.runners ≤ m) → slice_index (play_of from c).turns m ≡ turns_from c.entries from (length c.entries) m
        go (inl below) = get_or_from_slice_get (play_of from c).turns m (turns_from c.entries from c.place (0 + m)) 0
            (get_made_at (turns_from c.entries from c.place) 0 (length c.runners) m below)
            ∙ (let z : 0 + m ≡ m = omega arith in ap (turns_from c.entries from c.place) z) ∙ ap (λ k. turns_from c.entries from k m) at_end
        go (inr past) = get_or_past (play_of from c).turns m 0 (let l = length-map-range_with_len (turns_from c.entries from c.place) 0 (length c.runners) in omega (arith, l, past))
            ∙ (let z = none_beyond m (let a = of.actors in omega (arith, a, past)) in omega (arith, z))

  pub crosses : HasNoChanges flat.tables c.number → CrossesFrom flat c (at_place c c.place true)
  crosses still model start old p reads from f checked period stands =
      change_crosses (cluster_net model flat c.number start) old p reads f (play_of from c) (play_of from (at_place c c.place true)) (turns_are from p period) stands (record {
        turns = refl;
        lists = refl;
        states = λ m x at inside. (x, at, sym (unchanged model flat m (old ++ p ∷ []) x (none_here m inside)));
      })
    where
      none_here : (m : ℕ) → is_outside_cluster flat.tables c.number m ≡ false → has_changes flat.tables.modules m ≡ false
      none_here m inside = go (cases_lt m (length flat.tables.modules))
        where
          go : (m < length flat.tables.modules) ⊎ (length flat.tables.modules ≤ m) → has_changes flat.tables.modules m ≡ false
          go (inl below) = still m below (eqb-true (slice_index (clusters_of flat.tables) m) c.number (not_not _ (neither (is_sampler_kind (actor_kind flat.tables m)) _ inside).1))
          go (inr past) = ap changes_row (slice_get_past flat.tables.modules m past)

-- at the end of a period each edge holds what it held at its head
module _ (flat : Flat) (held : List AttrsOf) (c : ClusterOf) (of : IsClusterWith flat held c) (end : next_offset c ≡ None) (sound : IsSoundFlat flat) (limits : AreWithinLimits flat) (law : PlansArePresent) where
  record_of : HasRecord flat c.number c.table of.planned.plan false
  record_of = table_record flat c.number c.table of.planned.plan false of.attributes of.planned.plan_is

  abbrev period : PeriodRecord
  period = period_record flat.tables c.table record_of.counts of.planned.plan.period false

  done_all : (m : ℕ) → done c.entries (length c.entries) m ≡ slice_index record_of.counts m
  done_all m = ap (λ es. done es (length es) m) (sym of.planned.entries_are)
      ∙ (record_present flat c.number limits period record_of.record_is.is.timed law (pace_in (net_of flat.tables c.table) record_of.steps) of.planned.plan.entries.items record_of.plan_is.planned).all_done m

  count_at : (m : ℕ) → done c.entries c.place m ≡ 0 + slice_index record_of.counts m
  count_at m = ap (λ k. done c.entries k m) (at_end flat held c of end) ∙ done_all m ∙ (let z : slice_index record_of.counts m ≡ 0 + slice_index record_of.counts m = omega arith in z)

  balanced : (e : ℕ) → e < length flat.tables.edges
      → done c.entries c.place (writer_at flat.tables.edges e) * slice_index c.writes e ≡ done c.entries c.place (reader_at flat.tables.edges e) * slice_index c.reads e
  balanced e within =
      ap (λ n. n * slice_index c.writes e) (count_at (writer_at flat.tables.edges e))
      ∙ ap (λ (l : List ℕ). (0 + slice_index record_of.counts (writer_at flat.tables.edges e)) * slice_index l e) of.writes_are
      ∙ (whole_sound sound.model flat c.number (record { lists = []; cells = [] }) limits period record_of.record_is).balanced e within
      ∙ sym (ap (λ n. n * slice_index c.reads e) (count_at (reader_at flat.tables.edges e))
      ∙ ap (λ (l : List ℕ). (0 + slice_index record_of.counts (reader_at flat.tables.edges e)) * slice_index l e) of.reads_are)

  nothing : (m : ℕ) → done c.entries 0 m ≡ 0
  unfolding done
  nothing m = refl

  -- each edge holds what it held at the head of the period
  pub head_held : (e : ℕ) → e < length flat.tables.edges → length (ring_at c.rings e).samples ≡ held_at_head flat.tables c.number e
  head_held e within = let h = of.held.held e within in let b = balanced e within in omega (arith, h, b)

  pub of_next : IsClusterWith flat held (at_place c 0 false)
  of_next = of_at flat held c 0 false of (omega arith) false_true (record {
    same = of.held.same;
    held = λ e within.
        let h = head_held e within in
        let w = no_times (done c.entries 0 (writer_at flat.tables.edges e)) (slice_index c.writes e) (nothing (writer_at flat.tables.edges e)) in
        let r = no_times (done c.entries 0 (reader_at flat.tables.edges e)) (slice_index c.reads e) (nothing (reader_at flat.tables.edges e)) in
        omega (arith, h, w, r);
    room = of.held.room;
    formats = of.held.formats;
  })

pub stands_next : (flat : Flat) (held : List AttrsOf) (c : ClusterOf) → IsClusterWith flat held c → StandsAtNext flat c (at_place c 0 false)
stands_next flat held c of model start old p next reads from f past timed still crosses =
    install_stands (cluster_net model flat c.number start) old p next reads f (play_of from c) (play_of 0 (at_place c 0 false))
    (are_active model flat c.number start old p (play_of from c) past timed (let l = length-map c.runners runner_cells in let a = of.actors in omega (arith, l, a))) crosses (record {
      turns = λ m. zero_in (turns_from c.entries 0 0) (range_with_len 0 (length c.runners)) m (λ j. omega arith);
      lists = refl;
      states = λ m x at inside. (x, at, sym (ap (λ b. if b then (done_by model flat m body.Reinitialize x (module_rates next.info m) nothing_read).frame.cells else x) still));
    })
