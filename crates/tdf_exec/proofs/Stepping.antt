-- A firing is a step of the streams of the cluster.
use Rattle.std.proofs.Common.{◌≡◌, ◌∙◌, ℕ, zero, suc, ◌+◌, ◌-◌, ◌<◌, ◌≤◌, ◌||◌, not, Bool, true, false, List, [], ◌∷◌, ◌++◌, Some, if◌then◌else◌, nat_eq, length, length-set, drop, take, map, refl, sym, ap, subst, arith}
use Rattle.std.proofs.lemmas.Bool.{eq-eqb, eqb-true}
use Rattle.std.proofs.lemmas.Option.{slice_get-map, slice_get_within}
use Rattle.std.specs.List.{range_with_len, sum_by}
use Rattle.std.specs.Prelude.{ℤ, option_map, slice_get, slice_index, slice_index_or, slice_set}
use Rattle.tdf_dynamic_plans.specs.Attributes.{clusters_of}
use Rattle.tdf_exec.proofs.Acting.{fronts_at, fronts_long, turn_is, turn_of}
use Rattle.tdf_exec.proofs.Counting.{done_other, done_own, present_now}
use Rattle.tdf_exec.proofs.Keeping.{get_set, get_set_other, sampler_value}
use Rattle.tdf_exec.proofs.Moved.{given_by, given_none, given_one, module_moves, sampler_moves, sink_moves}
use Rattle.tdf_exec.proofs.Runs.{count_mono}
use Rattle.tdf_exec.specs.Cluster.{ClusterOf}
use Rattle.tdf_exec.specs.machine.Fired.{HasRunModule, HasSampled}
use Rattle.tdf_exec.specs.Made.{IsActorOf, IsClusterOf, IsModuleOf, IsSamplerOf, IsSinkOf}
use Rattle.tdf_exec.specs.Played.{AreInputsGiven, IsPeriodOf, runner_cells, play_of, turns_from}
use Rattle.tdf_exec.specs.Runners.{ModuleOf, SamplerOf}
use Rattle.tdf_exec.specs.declared.runners.Runner.{Runner}
use Rattle.tdf_exec.specs.declared.runners.Runner.TheVariants as runner
use Rattle.tdf_exec.specs.declared.runners.SinkRunner.{SinkRunner}
use Rattle.tdf_exec.specs.machine.Steps.{AreInputsNext, AreMovedBy, kept, with_parts}
use Rattle.tdf_expr.specs.Checked.{IsCheckedOf}
use Rattle.tdf_exec_firing.specs.Actors.{HasTaken}
use Rattle.tdf_fixed.specs.declared.raw.Raw.{Raw}
use Rattle.tdf_bind.specs.declared.model.Flat.{Flat}
use Rattle.tdf_streams.specs.Firing.{Flows, fronts, given, processed}
use Rattle.tdf_streams.specs.Net.{Net, Turn, count}
use Rattle.tdf_streams.specs.Playing.{IsStep}
use Rattle.tdf_streams.specs.Streams.{sampled}
use Rattle.tdf_graph.specs.declared.actors.Actor.{Actor}
use Rattle.tdf_graph.specs.declared.actors.Actor.TheVariants as actor
use Rattle.tdf_rings.specs.Carried.{ring_at}
use Rattle.tdf_rings.specs.Rings.{RingOf, ring_of}
use Rattle.tdf_schedule.specs.Plan.{done}
use Rattle.tdf_schedule.specs.declared.entry.Entry.{Entry}
use Rattle.tdf_streams.specs.Bodies.{module_acted, no_output}
use Rattle.tdf_streams.specs.Cluster.{Start, cluster_net, is_outside_cluster, is_sampler_kind}
use Rattle.tdf_streams.specs.Periods.{PeriodInfo, PeriodRecord}
use Rattle.tdf_streams.specs.Places.{reader_at, source_at, writer_at}
use Rattle.tdf_lang_tree.specs.Pure.{PureTree}

range_same : (f g : ℕ → ℕ) (a n k d : ℕ) → f (a + k) ≡ g (a + k) → slice_index_or (map f (range_with_len a n)) k d ≡ slice_index_or (map g (range_with_len a n)) k d
range_same f g a zero k d same = refl
range_same f g a (suc n) zero d same = let z : a + 0 ≡ a = omega arith in subst (λ j. f j ≡ g j) z same
range_same f g a (suc n) (suc k) d same = let z : a + suc k ≡ a + 1 + k = omega arith in range_same f g (a + 1) n k d (subst (λ j. f j ≡ g j) z same)

range_at : (f : ℕ → ℕ) (a n k : ℕ) → k < n → slice_index (map f (range_with_len a n)) k ≡ f (a + k)
range_at f a zero k below = absurd (omega (arith, below))
range_at f a (suc n) zero below = let z : a ≡ a + 0 = omega arith in ap f z
range_at f a (suc n) (suc k) below = let z : a + 1 + k ≡ a + suc k = omega arith in range_at f (a + 1) n k (omega (arith, below)) ∙ ap f z

at_map_same : {A B : Type 0} (f : A → B) (xs : List A) (i : ℕ) (d : A) → slice_index_or (map f xs) i (f d) ≡ f (slice_index_or xs i d)
at_map_same f [] i d = refl
at_map_same f (x ∷ xs) zero d = refl
at_map_same f (x ∷ xs) (suc i) d = at_map_same f xs i d

pub done_mono : (entries : List Entry) (i j m : ℕ) → i ≤ j → done entries i m ≤ done entries j m
unfolding done
done_mono entries i j m le = count_mono (λ (x : Entry). nat_eq x.actor m) entries i j le

pub turns_at : (from : ℕ) (c : ClusterOf) (m : ℕ) → m < length c.runners → slice_index (play_of from c).turns m ≡ turns_from c.entries from c.place m
turns_at from c m below = range_at (turns_from c.entries from c.place) 0 (length c.runners) m below ∙ ap (turns_from c.entries from c.place) (omega arith)

list_at : (from : ℕ) (c : ClusterOf) (e : ℕ) → slice_index_or (play_of from c).lists e [] ≡ (ring_at c.rings e).samples
list_at from c e = at_map_same (λ (r : RingOf). r.samples) c.rings e (ring_of [] 0)

abbrev samples_in : RingOf → List Raw
samples_in r = r.samples

module _ (flat : Flat) (c : ClusterOf) (inputs : List Raw) (x : Entry) (of : IsClusterOf flat c) (ins : AreInputsNext flat c inputs) (at : slice_get c.entries c.place ≡ Some x)
    (new : List RingOf) (model : PureTree) (start : Start) (old : List PeriodRecord) (p : PeriodRecord) (reads : ℕ → List Raw) (from : ℕ)
    (checked : IsCheckedOf model flat.checked) (period : IsPeriodOf c from p) where
  abbrev net : Net (List ℤ) Raw PeriodInfo
  net = cluster_net model flat c.number start

  inside : x.actor < length c.runners
  inside = subst (λ n. x.actor < n) (sym of.actors) (of.safe.inside c.place x at)

  begun : done c.entries from x.actor ≤ done c.entries c.place x.actor
  begun = done_mono c.entries from c.place x.actor period.started

  left : slice_index (play_of from c).turns x.actor < slice_index p.counts x.actor
  left =
      let t = turns_at from c x.actor inside in
      let q = period.counts x.actor in
      let o = done_own c.entries c.place x at x.actor refl in
      let b = begun in
      let w : c.place + 1 ≤ length c.entries = omega (arith, slice_get_within c.entries c.place x at) in
      let e = done_mono c.entries (c.place + 1) (length c.entries) x.actor w in
      omega (arith, t, q, o, b, e)

  present : (e : ℕ) → e < length flat.tables.edges → reader_at flat.tables.edges e ≡ x.actor → slice_index p.reads e ≤ length (slice_index_or (play_of from c).lists e [])
  present e below reads_it =
      let h = present_now flat.tables c of.safe x at of.held e below reads_it in
      let l : length (slice_index_or (play_of from c).lists e []) ≡ length (ring_at c.rings e).samples = ap length (list_at from c e) in
      let r : slice_index p.reads e ≡ slice_index c.reads e = ap (λ (q : List ℕ). slice_index q e) period.reads in
      omega (arith, h, l, r)

  pub front_at : (e : ℕ) → e < length flat.tables.edges → reader_at flat.tables.edges e ≡ x.actor
      → slice_index_or (fronts net p x.actor (play_of from c).lists 0 (length flat.tables.edges)) e [] ≡ take (slice_index c.reads e) (ring_at c.rings e).samples
  front_at e below reads_it =
      fronts_at net p x.actor (play_of from c).lists 0 e (length flat.tables.edges) below
      ∙ ap (λ q. if nat_eq (reader_at flat.tables.edges q) x.actor then take (slice_index p.reads q) (slice_index_or (play_of from c).lists q []) else []) zero_e
      ∙ ap (λ (b : Bool). if b then take (slice_index p.reads e) (slice_index_or (play_of from c).lists e []) else []) (eq-eqb _ _ reads_it)
      ∙ ap (λ l. take (slice_index p.reads e) l) (list_at from c e)
      ∙ ap (λ (q : List ℕ). take (slice_index q e) (ring_at c.rings e).samples) period.reads
    where
      zero_e : 0 + e ≡ e
      zero_e = omega arith

  module _ (before after : Runner) (there : slice_get c.runners x.actor ≡ Some before) (position : ℕ) where
    abbrev later : ClusterOf
    later = with_parts c (c.place + 1) new (slice_set c.runners x.actor after) (slice_set c.positions x.actor position)

    turns_long : length later.runners ≡ length c.runners
    turns_long = length-set c.runners x.actor after

    flows : (t : Turn (List ℤ) Raw) (put : ℕ → List Raw) → AreMovedBy flat.tables c x.actor put new
        → ((e : ℕ) → e < length flat.tables.edges → writer_at flat.tables.edges e ≡ x.actor → put e ≡ map (t.outputs (source_at flat.tables.edges e)) (range_with_len 0 (slice_index c.writes e)))
        → (is_outside_cluster flat.tables c.number x.actor ≡ false → runner_cells after ≡ t.state)
        → Flows net p x.actor t (play_of from c) (play_of from later)
    flows t put are same state = record {
      turn =
          let a = turns_at from c x.actor inside in
          let b = turns_at from later x.actor (subst (λ n. x.actor < n) (sym turns_long) inside) in
          let o = done_own c.entries c.place x at x.actor refl in
          let q = begun in
          omega (arith, a, b, o, q);
      other_turns = λ k apart.
          ap (λ n. slice_index (map (turns_from c.entries from (c.place + 1)) (range_with_len 0 n)) k) turns_long
          ∙ range_same (turns_from c.entries from (c.place + 1)) (turns_from c.entries from c.place) 0 (length c.runners) k 0
          (ap (λ n. n - done c.entries from (0 + k)) (done_other c.entries c.place x at (0 + k) (λ e. apart (sym (e ∙ omega arith)))));
      state = λ inner.
          slice_get-map runner_cells later.runners x.actor
          ∙ ap (option_map runner_cells) (get_set c.runners x.actor after inside)
          ∙ ap (λ s. Some s) (state inner);
      other_states = λ k apart.
          slice_get-map runner_cells later.runners k
          ∙ ap (option_map runner_cells) (get_set_other c.runners x.actor k after apart)
          ∙ sym (slice_get-map runner_cells c.runners k);
      lists = λ e below.
          list_at from later e
          ∙ ap samples_in (are.moved e below)
          ∙ ap (λ l. l ++ (if nat_eq (writer_at flat.tables.edges e) x.actor then put e else [])) (front e)
          ∙ ap (λ l. (if nat_eq (reader_at flat.tables.edges e) x.actor then drop (slice_index p.reads e) (slice_index_or (play_of from c).lists e [])
          else slice_index_or (play_of from c).lists e []) ++ l) (back e below (nat_eq (writer_at flat.tables.edges e) x.actor) refl);
    }
      where
        front : (e : ℕ) → kept flat.tables c.reads x.actor e (ring_at c.rings e).samples
            ≡ (if nat_eq (reader_at flat.tables.edges e) x.actor then drop (slice_index p.reads e) (slice_index_or (play_of from c).lists e []) else slice_index_or (play_of from c).lists e [])
        front e =
            ap (λ l. if nat_eq (reader_at flat.tables.edges e) x.actor then drop (slice_index c.reads e) l else l) (sym (list_at from c e))
            ∙ ap (λ (q : List ℕ). if nat_eq (reader_at flat.tables.edges e) x.actor then drop (slice_index q e) (slice_index_or (play_of from c).lists e [])
            else slice_index_or (play_of from c).lists e []) (sym period.reads)

        back : (e : ℕ) → e < length flat.tables.edges → (b : Bool) → nat_eq (writer_at flat.tables.edges e) x.actor ≡ b
            → (if b then put e else []) ≡ (if b then map (t.outputs (source_at flat.tables.edges e)) (range_with_len 0 (slice_index p.writes e)) else [])
        back e below true writes =
            same e below (eqb-true _ _ writes)
            ∙ ap (λ (q : List ℕ). map (t.outputs (source_at flat.tables.edges e)) (range_with_len 0 (slice_index q e))) (sym period.writes)
        back e below false writes = refl

  inner : (kind : Actor) → is_sampler_kind (Some kind) ≡ false → IsActorOf flat.tables c.number x.actor kind → is_outside_cluster flat.tables c.number x.actor ≡ false
  inner kind plain is =
      ap (λ k. is_sampler_kind k || not (nat_eq (slice_index (clusters_of flat.tables) x.actor) c.number)) is.kind_is
      ∙ ap (λ b. b || not (nat_eq (slice_index (clusters_of flat.tables) x.actor) c.number)) plain
      ∙ ap (λ b. not b) (eq-eqb _ _ is.inside)

  state_at : (r : Runner) → slice_get c.runners x.actor ≡ Some r → slice_get (play_of from c).states x.actor ≡ Some (runner_cells r)
  state_at r there = slice_get-map runner_cells c.runners x.actor ∙ ap (option_map runner_cells) there

  pub module_step : (y : ModuleOf) (after : Runner) (there : slice_get c.runners x.actor ≡ Some (runner.Module y)) (position : ℕ)
      → (ran : HasRunModule flat.checked c.reads c.writes c.rings new y after)
      → IsStep net old p reads x.actor (play_of from c) (play_of from (later (runner.Module y) after there position))
  module_step y after there position ran = record {
    turn = turn_of flat ran.next;
    left = left;
    present = present;
    next = processed y.frame.state.cells (inner actor.Module refl is.actor_is) (state_at (runner.Module y) there)
        (sym (turn_is flat c x.actor y ran.next is new ran.fired model checked p.info period.table
        (fronts net p x.actor (play_of from c).lists 0 (length flat.tables.edges)) (fronts_long net p x.actor (play_of from c).lists 0 (length flat.tables.edges)) front_at));
    flows = flows (runner.Module y) after there position (turn_of flat ran.next) (given_by flat.tables c.writes ran.next.ports)
        (module_moves flat c x.actor y ran.next is new ran.fired of.held.same) (λ e below writes. refl) (λ inner. ap runner_cells ran.after_is);
  }
    where
      is : IsModuleOf flat c x.actor y
      is = of.runners x.actor (runner.Module y) there

  pub module_turn : (y : ModuleOf) (after : Runner) (there : slice_get c.runners x.actor ≡ Some (runner.Module y)) (position : ℕ)
      → (ran : HasRunModule flat.checked c.reads c.writes c.rings new y after) → turn_of flat ran.next ≡ (module_step y after there position ran).turn
  unfolding module_step
  module_turn y after there position ran = refl

  pub sampler_step : (s : SamplerOf) (after : Runner) (there : slice_get c.runners x.actor ≡ Some (runner.Sampler s)) (position : ℕ)
      → HasSampled inputs c.rings new s after → AreInputsGiven c inputs reads old from c.place x
      → IsStep net old p reads x.actor (play_of from c) (play_of from (later (runner.Sampler s) after there position))
  sampler_step s after there position ran told = record {
    turn = sampled net x.actor v;
    left = left;
    present = present;
    next = given v outer
        (ap (λ n. slice_get (reads x.actor) (sum_by (count x.actor) old + n)) (turns_at from c x.actor inside) ∙ told.is s v there v_is) refl;
    flows = flows (runner.Sampler s) after there position (sampled net x.actor v) (given_one v)
        (sampler_moves flat c x.actor s v new is (ran.put v v_is) of.held.same (λ e f writes form. ins.formats e x s v f at there v_is writes form))
        (λ e below writes. ap (λ n. map (λ (k : ℕ). v) (range_with_len 0 n)) (sym (is.rate e (record { inside = below; writer = writes }))))
        (λ inner. absurd (differ (sym outer ∙ inner)));
  }
    where
      is : IsSamplerOf flat c x.actor s
      is = of.runners x.actor (runner.Sampler s) there

      v : Raw
      v = (sampler_value flat c inputs x of ins at new s there).0

      v_is : slice_get inputs s.place ≡ Some v
      v_is = (sampler_value flat c inputs x of ins at new s there).1

      outer : is_outside_cluster flat.tables c.number x.actor ≡ true
      outer = ap (λ k. is_sampler_kind k || not (nat_eq (slice_index (clusters_of flat.tables) x.actor) c.number)) is.actor_is.kind_is

      differ : true ≡ false → ⊥
      differ e = absurd cc

  pub sink_step : (after : Runner) (k : SinkRunner) (there : slice_get c.runners x.actor ≡ Some (runner.Sink k)) (position : ℕ)
      → after ≡ runner.Sink k → HasTaken k.edge c.rings new
      → IsStep net old p reads x.actor (play_of from c) (play_of from (later (runner.Sink k) after there position))
  sink_step after k there position same took = record {
    turn = no_output [];
    left = left;
    present = present;
    next = processed [] (inner actor.Sink refl is.actor_is) (state_at (runner.Sink k) there)
        (sym (ap (λ o. module_acted model flat x.actor o p.info [] (fronts net p x.actor (play_of from c).lists 0 (length flat.tables.edges))) is.actor_is.kind_is));
    flows = flows (runner.Sink k) after there position (no_output []) given_none (sink_moves flat c x.actor k.edge new is took of.held.same)
        (λ e below writes. absurd (is.none e (record { inside = below; writer = writes }))) (λ inner. ap runner_cells same);
  }
    where
      is : IsSinkOf flat c x.actor k.edge
      is = of.runners x.actor (runner.Sink k) there
