-- What a firing gives is what the step of the streams gives.
use Rattle.std.proofs.Common.{◌≡◌, ◌∙◌, ◌≢◌, ℕ, zero, suc, ◌+◌, ◌<◌, ◌≤◌, Bool, List, [], ◌∷◌, ◌++◌, Some, if◌then◌else◌, nat_eq, length, map, take, refl, sym, ap, subst, inl, inr, arith, append-nil}
use Rattle.std.proofs.lemmas.Bool.{cases_lt, ne_eqb}
use Rattle.std.proofs.lemmas.List.{get_or_past}
use Rattle.std.proofs.lemmas.List.Elements.{All-cons, All-nil}
use Rattle.std.proofs.lemmas.List.Folds.{flat_map-map}
use Rattle.std.specs.List.{All, flat_map}
use Rattle.std.specs.Prelude.{slice_get, slice_index, slice_index_or, slice_set}
use Rattle.tdf_convert.specs.Outputs.{OutputsOf}
use Rattle.tdf_convert.specs.declared.outputs.Sent.{Sent}
use Rattle.tdf_convert.specs.declared.outputs.Traced.{Traced}
use Rattle.tdf_exec.proofs.Acting.{fronts_at, fronts_long, turn_of}
use Rattle.tdf_exec.proofs.Gains.{gains_none, ports_few, traced_long}
use Rattle.tdf_exec.proofs.Moved.{some_inj}
use Rattle.tdf_exec.proofs.Rows.{all_at}
use Rattle.tdf_exec.proofs.Stepping.{front_at, module_step, module_turn, sampler_step, sink_step}
use Rattle.tdf_exec.specs.Cluster.{ClusterOf}
use Rattle.tdf_exec.specs.machine.Fired.{HasGiven, HasRun, HasRunModule, HasSampled, HasSent}
use Rattle.tdf_exec.specs.Gained.{SampleHasFewPlaces, IsSentOf, sent_by, sent_sample, sent_size, traced_by, traced_size, with_gains}
use Rattle.tdf_exec.specs.Made.{IsClusterOf, IsModuleOf, IsSamplerOf, IsSinkOf}
use Rattle.tdf_exec.specs.Played.{IsPeriodOf, play_of}
use Rattle.tdf_exec.specs.Runners.{ModuleOf, SamplerOf}
use Rattle.tdf_exec.specs.Traced.{traced_port_samples, traced_count, traced_port, turn_samples}
use Rattle.tdf_exec_layout.specs.Samples.{edge_format}
use Rattle.tdf_exec_layout.specs.Traced.{traced_ports}
use Rattle.tdf_exec.specs.declared.runners.Runner.{Runner}
use Rattle.tdf_exec.specs.declared.runners.Runner.TheVariants as runner
use Rattle.tdf_exec.specs.declared.runners.SinkRunner.{SinkRunner}
use Rattle.tdf_exec.specs.machine.Steps.{AreInputsNext, IsAnyStep, with_parts}
use Rattle.tdf_expr.specs.Checked.{IsCheckedOf}
use Rattle.tdf_expr.specs.Frames.{IsOfFormat}
use Rattle.tdf_exec_firing.specs.Actors.{HasTaken}
use Rattle.tdf_fixed.specs.declared.raw.Raw.{Raw}
use Rattle.tdf_bind.specs.declared.model.Flat.{Flat}
use Rattle.tdf_streams.specs.Firing.{fronts}
use Rattle.tdf_rings.specs.Carried.{ring_at}
use Rattle.tdf_rings.specs.Rings.{RingOf}
use Rattle.tdf_schedule.specs.declared.entry.Entry.{Entry}
use Rattle.tdf_streams.specs.Cluster.{Start, cluster_net}
use Rattle.tdf_streams.specs.Periods.{PeriodRecord}
use Rattle.tdf_streams.specs.Places.{actor_kind, reader_at}
use Rattle.tdf_lang_tree.specs.Pure.{PureTree}

-- lists of which one at most holds something
flat_none : (ls : List (List Raw)) → ((d : ℕ) → slice_index_or ls d [] ≡ []) → flat_map (λ (l : List Raw). l) ls ≡ []
flat_none [] none = refl
flat_none (l ∷ ls) none = ap (λ h. h ++ flat_map (λ (l : List Raw). l) ls) (none 0) ∙ flat_none ls (λ d. none (suc d))

flat_one : (ls : List (List Raw)) (e : ℕ) (xs : List Raw) → e < length ls → slice_index_or ls e [] ≡ xs → ((d : ℕ) → d ≢ e → slice_index_or ls d [] ≡ [])
    → flat_map (λ (l : List Raw). l) ls ≡ xs
flat_one [] e xs below is others = absurd (omega (arith, below))
flat_one (l ∷ ls) zero xs below is others =
    ap (λ t. l ++ t) (flat_none ls (λ d. others (suc d) (λ q. absurd (omega (arith, q))))) ∙ append-nil l ∙ is
flat_one (l ∷ ls) (suc e) xs below is others =
    ap (λ h. h ++ flat_map (λ (l : List Raw). l) ls) (others 0 (λ q. absurd (omega (arith, q))))
    ∙ flat_one ls e xs (omega (arith, below)) is (λ d apart. others (suc d) (λ q. apart (omega (arith, q))))

take_first : (xs : List Raw) (v : Raw) → slice_get xs 0 ≡ Some v → take 1 xs ≡ v ∷ []
take_first [] v at = absurd cc
take_first (x ∷ xs) v at = ap (λ y. y ∷ []) (some_inj x v at)

-- a step with what it gives, whatever the streams are
pub record StepGains (flat : Flat) (inputs : List Raw) (c d : ClusterOf) (x : Entry) (before after : OutputsOf) : Type 0 where
  pub sent : List Sent
  pub traced : List Traced
  pub gains : after ≡ with_gains before sent traced
  pub sinks : All (IsSentOf flat.tables) sent
  pub places : All SampleHasFewPlaces traced
  pub few_sent : length sent ≡ sent_size (slice_get c.runners x.actor)
  pub few_traced : length traced ≡ traced_size (slice_get c.runners x.actor)
  pub step : IsAnyStep flat inputs c d x sent traced

module _ (flat : Flat) (c : ClusterOf) (inputs : List Raw) (x : Entry) (of : IsClusterOf flat c) (ins : AreInputsNext flat c inputs) (at : slice_get c.entries c.place ≡ Some x)
    (new : List RingOf) (position : ℕ) (outs outs2 : OutputsOf) where
  abbrev later : Runner → ClusterOf
  later after = with_parts c (c.place + 1) new (slice_set c.runners x.actor after) (slice_set c.positions x.actor position)

  module_gains : (y : ModuleOf) (after : Runner) → slice_get c.runners x.actor ≡ Some (runner.Module y) → HasRunModule flat.checked c.reads c.writes c.rings new y after
      → HasGiven x.actor c.rings after outs outs2 → StepGains flat inputs c (later after) x outs outs2
  module_gains y after there ran given = record {
    sent = [];
    traced = flat_map (traced_port_samples ran.next.ports) ran.next.traced;
    gains = subst (λ r. HasGiven x.actor c.rings r outs outs2) ran.after_is given;
    sinks = All-nil (IsSentOf flat.tables);
    places = ports_few ran.next.ports ran.next.traced;
    few_sent = sym (ap sent_size there);
    few_traced = traced_long ran.next.ports ran.next.traced ∙ ap traced_count ran.fired.traced ∙ sym (ap traced_size there);
    step = λ model start old p reads from checked period told. record {
      step = module_step flat c inputs x of ins at new model start old p reads from checked period y after there position ran;
      sent_is = sym (ap (λ k. sent_by k x.actor (fronts (cluster_net model flat c.number start) p x.actor (play_of from c).lists 0 (length flat.tables.edges))) is.actor_is.kind_is);
      traced_is =
          ap (flat_map (traced_port_samples ran.next.ports)) (ran.fired.traced ∙ is.traced)
          ∙ flat_map-map (traced_port_samples ran.next.ports) (traced_port flat.tables c.table) (traced_ports flat.tables x.actor)
          ∙ ap (λ t. flat_map (turn_samples flat.tables t (turn_of flat ran.next)) (traced_ports flat.tables x.actor)) (sym period.table)
          ∙ sym (ap (λ k. traced_by flat.tables k x.actor p.info.table (turn_of flat ran.next)) is.actor_is.kind_is)
          ∙ ap (traced_by flat.tables (actor_kind flat.tables x.actor) x.actor p.info.table)
          (module_turn flat c inputs x of ins at new model start old p reads from checked period y after there position ran);
    };
  }
    where
      is : IsModuleOf flat c x.actor y
      is = of.runners x.actor (runner.Module y) there

  sampler_gains : (s : SamplerOf) (after : Runner) → slice_get c.runners x.actor ≡ Some (runner.Sampler s) → HasSampled inputs c.rings new s after
      → HasGiven x.actor c.rings after outs outs2 → StepGains flat inputs c (later after) x outs outs2
  sampler_gains s after there ran given = record {
    sent = [];
    traced = [];
    gains = subst (λ r. HasGiven x.actor c.rings r outs outs2) ran.after_is given ∙ gains_none outs;
    sinks = All-nil (IsSentOf flat.tables);
    places = All-nil SampleHasFewPlaces;
    few_sent = sym (ap sent_size there);
    few_traced = sym (ap traced_size there);
    step = λ model start old p reads from checked period told.
        let step = sampler_step flat c inputs x of ins at new model start old p reads from checked period s after there position ran told in
        record {
          step = step;
          sent_is = sym (ap (λ k. sent_by k x.actor (fronts (cluster_net model flat c.number start) p x.actor (play_of from c).lists 0 (length flat.tables.edges))) is.actor_is.kind_is);
          traced_is = sym (ap (λ k. traced_by flat.tables k x.actor p.info.table step.turn) is.actor_is.kind_is);
        };
  }
    where
      is : IsSamplerOf flat c x.actor s
      is = of.runners x.actor (runner.Sampler s) there

  sink_gains : (k : SinkRunner) (after : Runner) → slice_get c.runners x.actor ≡ Some (runner.Sink k) → after ≡ runner.Sink k → HasTaken k.edge c.rings new
      → HasGiven x.actor c.rings after outs outs2 → StepGains flat inputs c (later after) x outs outs2
  sink_gains k after there same took given = record {
    sent = sent_sample x.actor out.value ∷ [];
    traced = [];
    gains = out.given;
    sinks = All-cons (IsSentOf flat.tables) (sent_sample x.actor out.value) [] is_sent (All-nil (IsSentOf flat.tables));
    places = All-nil SampleHasFewPlaces;
    few_sent = sym (ap sent_size there);
    few_traced = sym (ap traced_size there);
    step = λ model start old p reads from checked period told.
        let step = sink_step flat c inputs x of ins at new model start old p reads from checked period after k there position same took in
        record {
          step = step;
          sent_is =
              ap (map (sent_sample x.actor)) (sym (read_one model start old p reads from checked period))
              ∙ sym (ap (λ o. sent_by o x.actor (fronts (cluster_net model flat c.number start) p x.actor (play_of from c).lists 0 (length flat.tables.edges))) is.actor_is.kind_is);
          traced_is = sym (ap (λ o. traced_by flat.tables o x.actor p.info.table step.turn) is.actor_is.kind_is);
        };
  }
    where
      is : IsSinkOf flat c x.actor k.edge
      is = of.runners x.actor (runner.Sink k) there

      out : HasSent x.actor k.edge c.rings outs outs2
      out = subst (λ r. HasGiven x.actor c.rings r outs outs2) same given

      is_sent : IsSentOf flat.tables (sent_sample x.actor out.value)
      is_sent = record {
        sink = is.actor_is.kind_is;
        fits = λ e f reads format. all_at (IsOfFormat f) (ring_at c.rings k.edge).samples 0 out.value
            (of.held.formats k.edge f is.edge_is.is.inside (ap (edge_format flat.tables) (sym (is.edge_is.only e reads)) ∙ format)) out.value_is;
      }

      read_one : (model : PureTree) (start : Start) (old : List PeriodRecord) (p : PeriodRecord) (reads : ℕ → List Raw) (from : ℕ) → IsCheckedOf model flat.checked → IsPeriodOf c from p
          → flat_map (λ (xs : List Raw). xs) (fronts (cluster_net model flat c.number start) p x.actor (play_of from c).lists 0 (length flat.tables.edges)) ≡ out.value ∷ []
      read_one model start old p reads from checked period =
          flat_one all k.edge (out.value ∷ []) (subst (λ n. k.edge < n) (sym long) is.edge_is.is.inside) here others
        where
          all : List (List Raw)
          all = fronts (cluster_net model flat c.number start) p x.actor (play_of from c).lists 0 (length flat.tables.edges)

          long : length all ≡ length flat.tables.edges
          long = fronts_long (cluster_net model flat c.number start) p x.actor (play_of from c).lists 0 (length flat.tables.edges)

          here : slice_index_or all k.edge [] ≡ out.value ∷ []
          here =
              front_at flat c inputs x of ins at new model start old p reads from checked period k.edge is.edge_is.is.inside is.edge_is.is.reader
              ∙ ap (λ n. take n (ring_at c.rings k.edge).samples) is.rate
              ∙ take_first (ring_at c.rings k.edge).samples out.value out.value_is

          others : (d : ℕ) → d ≢ k.edge → slice_index_or all d [] ≡ []
          others d apart = elim (cases_lt d (length flat.tables.edges)) [
            | inl below ↦ fronts_at (cluster_net model flat c.number start) p x.actor (play_of from c).lists 0 d (length flat.tables.edges) below ∙ away below
            | inr past ↦ get_or_past all d [] (subst (λ n. n ≤ d) (sym long) past)
          ]
            where
              away : d < length flat.tables.edges
                  → (if nat_eq (reader_at flat.tables.edges (0 + d)) x.actor then take (slice_index p.reads (0 + d)) (slice_index_or (play_of from c).lists (0 + d) []) else []) ≡ []
              away below =
                  let z : d ≡ 0 + d = omega arith in
                  ap (λ (b : Bool). if b then take (slice_index p.reads (0 + d)) (slice_index_or (play_of from c).lists (0 + d) []) else [])
                  (ne_eqb _ x.actor (λ reads_it. apart (is.edge_is.only d (record { inside = below; reader = ap (reader_at flat.tables.edges) z ∙ reads_it }))))

  pub step_gains : (before after : Runner) → slice_get c.runners x.actor ≡ Some before → HasRun flat.checked inputs c.reads c.writes c.rings new before after
      → HasGiven x.actor c.rings after outs outs2 → StepGains flat inputs c (later after) x outs outs2
  step_gains (runner.Module y) after there ran given = module_gains y after there ran given
  step_gains (runner.Sampler s) after there ran given = sampler_gains s after there ran given
  step_gains (runner.Sink k) after there ran given = sink_gains k after there ran.0 ran.1 given
  step_gains runner.Outside after there ran given = absurd (of.runners x.actor runner.Outside there (of.safe.own c.place x at))
