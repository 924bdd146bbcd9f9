-- A cluster at the head of a period with a new plan.
use Rattle.std.proofs.Common.{◌≡◌, ◌∙◌, ℕ, suc, ◌<◌, Bool, true, if◌then◌else◌, List, [], ◌∷◌, Option, Some, None, option_map, ℤ, length, map, refl, sym, ap, subst, arith}
use Rattle.std.proofs.lemmas.List.{length-map}
use Rattle.std.proofs.lemmas.Option.{slice_get-map, slice_get_within}
use Rattle.std.proofs.lemmas.Simd.{map-map}
use Rattle.std.specs.List.{range_with_len}
use Rattle.std.specs.Prelude.{All, slice_get, slice_index}
use Rattle.tdf_dynamic_plans.specs.Attributes.{AttrsOf, attrs_at, clusters_of, rates_in}
use Rattle.tdf_dynamic_plans.specs.Known.{AttrsTable}
use Rattle.tdf_dynamic_plans.specs.Rates.{net_of, net_ports, rated_edge}
use Rattle.tdf_exec.proofs.Acting.{block_there}
use Rattle.tdf_exec.proofs.Crosses.{head_held}
use Rattle.tdf_exec_parts.proofs.Api.{reads_at, writes_at}
use Rattle.tdf_exec.proofs.Empty.{done_bare}
use Rattle.tdf_exec.proofs.Ends.{sampler_writes, sink_reads}
use Rattle.tdf_exec.proofs.Formed.{in_fits, out_fits, ports_fit, traced_fits, traced_numbered}
use Rattle.tdf_exec.proofs.Kept.{count_alike, false_true, zero_in}
use Rattle.tdf_exec.proofs.Moved.{some_inj}
use Rattle.tdf_exec.proofs.Planned.{no_times}
use Rattle.tdf_exec.proofs.Safe.{heads_hold, plans_safe}
use Rattle.tdf_exec.specs.Cluster.{ClusterOf, next_offset}
use Rattle.tdf_exec.specs.Crossing.{HasNewPlan, HoldHeads, IsKin, IsReadyFor, StandsAtNew, with_new_plan}
use Rattle.tdf_exec.specs.Made.{AreHeld, IsClusterOf, IsInSpans, IsModuleOf, IsModuleWith, IsClusterPlanned, IsRunnerOf, IsRunnerWith, IsClusterSafe, IsSamplerOf, IsSinkOf, is_sampler_runner, sampler_runners_before}
use Rattle.tdf_exec.specs.Played.{runner_cells, play_of, turns_from}
use Rattle.tdf_exec.specs.Runners.{ModuleOf, SamplerOf}
use Rattle.tdf_exec.specs.Starts.{IsSoundFlat}
use Rattle.tdf_exec.specs.Traced.{traced_port}
use Rattle.tdf_exec.specs.declared.runners.Runner.{Runner}
use Rattle.tdf_exec.specs.declared.runners.Runner.TheVariants as runner
use Rattle.tdf_exec.specs.machine.Laid.{IsLaid}
use Rattle.tdf_exec.specs.machine.Restarting.{CanRestart, HasReplaced, HasRestarted, IsRestarted}
use Rattle.tdf_exec.specs.machine.Tracing.{rated, with_rates}
use Rattle.tdf_expr.specs.Blocks.{PureBlock, blocks_of}
use Rattle.tdf_expr.specs.Checked.{IsCheckedOf}
use Rattle.tdf_expr.specs.Frames.{IsOfFormat}
use Rattle.tdf_expr.specs.Made.{AreMadeFor, event_count, port_spans_of}
use Rattle.tdf_expr.specs.declared.bodies.Body.TheVariants as body
use Rattle.tdf_expr.specs.declared.spans.PortSpan.{PortSpan}
use Rattle.tdf_exec_firing.specs.Activation.{ports_before}
use Rattle.tdf_exec_firing.specs.Wires.{AreWired}
use Rattle.tdf_bind.specs.declared.model.Flat.{Flat}
use Rattle.tdf_streams.proofs.Api.{get_inside, install_stands, none_some, some_same, are_active, table_record}
use Rattle.tdf_graph.specs.declared.actors.Actor.TheVariants as actor
use Rattle.tdf_graph.specs.declared.actors.Edge.{Edge}
use Rattle.tdf_exec_layout.specs.Traced.{traced_ports}
use Rattle.tdf_exec_layout.specs.Wiring.{AreWiresOf}
use Rattle.tdf_rings.specs.Carried.{FitIn, ring_at}
use Rattle.tdf_rings.specs.Rings.{RingOf, ring_of}
use Rattle.tdf_schedule.specs.Laws.{PlansArePresent}
use Rattle.tdf_schedule.specs.Plan.{done}
use Rattle.tdf_schedule.specs.declared.entry.Plan.{Plan}
use Rattle.tdf_expr_state.specs.State.{State, state_of}
use Rattle.tdf_streams.specs.Bodies.{after_part, done_by, nothing_read, module_rates, reinitialized}
use Rattle.tdf_streams.specs.Cluster.{cluster_net}
use Rattle.tdf_streams.specs.Laws.{HasRecord}
use Rattle.tdf_streams.specs.Periods.{PeriodInfo, read_rates, write_rates}
use Rattle.tdf_streams.specs.Places.{actor_kind, block_at, reader_at, reader_of_row, writer_at, writer_of_row}
use Rattle.tdf_streams.specs.Starts.{held_at_head}
use Rattle.tdf_lang_tree.specs.Pure.{PureTree}

-- rings with the same samples
same_lists : (xs ys : List RingOf) → length xs ≡ length ys → ((e : ℕ) → e < length ys → (ring_at xs e).samples ≡ (ring_at ys e).samples)
    → map (λ (r : RingOf). r.samples) xs ≡ map (λ (r : RingOf). r.samples) ys
same_lists [] [] long same = refl
same_lists [] (y ∷ ys) long same = absurd (omega (arith, long))
same_lists (x ∷ xs) [] long same = absurd (omega (arith, long))
same_lists (x ∷ xs) (y ∷ ys) long same =
    let rest : map (λ (r : RingOf). r.samples) xs ≡ map (λ (r : RingOf). r.samples) ys = same_lists xs ys (omega (arith, long)) (λ e below. same (suc e) (omega (arith, below))) in
    let head : x.samples ≡ y.samples = same 0 (omega arith) in
    ap (λ l. l ∷ map (λ (r : RingOf). r.samples) xs) head ∙ ap (λ l. y.samples ∷ l) rest

restarted_alike : (flat : Flat) (table : List AttrsOf) (r s : Runner) → IsRestarted flat table r s → is_sampler_runner s ≡ is_sampler_runner r
restarted_alike flat table (runner.Module x) s is = ap is_sampler_runner is.1
restarted_alike flat table (runner.Sampler k) s is = ap is_sampler_runner is
restarted_alike flat table (runner.Sink k) s is = ap is_sampler_runner is
restarted_alike flat table runner.Outside s is = ap is_sampler_runner is

-- what is kept for an actor can begin again
can_again : (flat : Flat) (attrs : List AttrsOf) (c : ClusterOf) (m : ℕ) (r : Runner) → IsRunnerWith flat attrs c m r → CanRestart flat r
can_again flat attrs c m (runner.Module x) is = (is.made, traced_numbered flat m (traced_port flat.tables c.table) (λ n. refl) x.traced is.traced)
can_again flat attrs c m (runner.Sampler s) is = tt
can_again flat attrs c m (runner.Sink k) is = tt
can_again flat attrs c m runner.Outside is = tt

module _ (flat : Flat) (c : ClusterOf) (attrs : AttrsTable) (plan : Plan) (ready : IsReadyFor flat c attrs plan) where
  pub can_restart : (m : ℕ) (r : Runner) → slice_get c.runners m ≡ Some r → CanRestart flat r
  can_restart m r at = can_again flat attrs.rows c m r (ready.of.runners m r at)

  module _ (laid : IsLaid flat) (law : PlansArePresent) (sound : IsSoundFlat flat) (end : next_offset c ≡ None) where
    abbrev pub next_of : List RingOf → List Runner → ClusterOf
    next_of rings runners = with_new_plan c attrs plan (read_rates (net_of flat.tables attrs.rows)) (write_rates (net_of flat.tables attrs.rows)) rings runners

    planned : (rings : List RingOf) (runners : List Runner) → IsClusterPlanned flat.tables (next_of rings runners)
    planned rings runners = record { plan = plan; plan_is = ready.plan_is; entries_are = refl; bounds_are = refl; period_is = refl }

    safe : (rings : List RingOf) (runners : List Runner) → IsClusterSafe flat.tables (next_of rings runners)
    safe rings runners = plans_safe law flat (next_of rings runners) laid.limits ready.attributes (planned rings runners) refl refl

    held : (e : ℕ) → e < length flat.tables.edges → length (ring_at c.rings e).samples ≡ held_at_head flat.tables c.number e
    held e within = head_held flat attrs.rows c ready.of end sound laid.limits law e within

    pub has : HasRecord flat c.number attrs.rows plan true
    has = table_record flat c.number attrs.rows plan true ready.attributes ready.plan_is

    bounds_long : length plan.bounds.items ≡ length flat.tables.edges
    unfolding net_of
    bounds_long = has.plan_is.long ∙ length-map flat.tables.edges (rated_edge flat.tables.ports (net_ports flat.tables attrs.rows))

    none_done : (m : ℕ) → done plan.entries.items 0 m ≡ 0
    unfolding done
    none_done m = refl

    -- what each edge holds fits its new bound
    pub fit_in : FitIn plan.bounds.items c.rings
    fit_in = record {
      same = bounds_long ∙ sym ready.of.held.same;
      fits = λ e below.
          let within : e < length flat.tables.edges = subst (λ n. e < n) ready.of.held.same below in
          let h = held e within in
          let b = (safe c.rings c.runners).bounded 0 e (omega arith) within in
          let w = no_times (done plan.entries.items 0 (writer_at flat.tables.edges e)) (slice_index (write_rates (net_of flat.tables attrs.rows)) e) (none_done (writer_at flat.tables.edges e)) in
          let r = no_times (done plan.entries.items 0 (reader_at flat.tables.edges e)) (slice_index (read_rates (net_of flat.tables attrs.rows)) e) (none_done (reader_at flat.tables.edges e)) in
          omega (arith, h, b, w, r);
    }

    module _ (d : ClusterOf) (re : HasReplaced flat c attrs plan d) where
      d_is : d ≡ next_of d.rings d.runners
      d_is = re.d_is
          ∙ ap (λ l. with_new_plan c attrs plan l d.writes d.rings d.runners) re.reads_are
          ∙ ap (λ l. with_new_plan c attrs plan (read_rates (net_of flat.tables attrs.rows)) l d.rings d.runners) re.writes_are

      ring_is : (e : ℕ) → e < length flat.tables.edges → ring_at d.rings e ≡ ring_of (ring_at c.rings e).samples (slice_index plan.bounds.items e)
      ring_is e within = re.carried.moved e (subst (λ n. e < n) (sym ready.of.held.same) within)

      long : length d.runners ≡ length flat.tables.actors
      long = re.restarted.same ∙ ready.of.actors

      -- what is kept for an actor, and from what it came
      pub record CameFrom (m : ℕ) (s : Runner) : Type 0 where
        pub r : Runner
        pub r_at : slice_get c.runners m ≡ Some r
        pub again : IsRestarted flat attrs.rows r s

      came : (m : ℕ) (s : Runner) → slice_get d.runners m ≡ Some s → CameFrom m s
      came m s at =
          let i = slice_get_within d.runners m s at in let a = re.restarted.same in
          let r = get_inside c.runners m (omega (arith, i, a)) in
          record { r = r.0; r_at = r.1; again = re.restarted.done m r.0 s r.1 at }

      alike : (m : ℕ) (x y : Runner) → slice_get d.runners m ≡ Some x → slice_get c.runners m ≡ Some y → is_sampler_runner x ≡ is_sampler_runner y
      alike m x y xat yat =
          let h : CameFrom m x = came m x xat in
          restarted_alike flat attrs.rows h.r x h.again ∙ ap is_sampler_runner (some_inj h.r y (sym h.r_at ∙ yat))

      before : (m : ℕ) → sampler_runners_before c.runners m ≡ sampler_runners_before d.runners m
      before m = sym (count_alike d.runners c.runners m re.restarted.same alike)

      -- a module that has begun again is one of the cluster
      module _ (m : ℕ) (x y : ModuleOf) (is : IsModuleWith flat attrs.rows c m x) (again : HasRestarted flat.checked (with_rates flat.tables attrs.rows x) y) where
        own : slice_index (clusters_of flat.tables) m ≡ c.number
        own = is.actor_is.inside

        kind : actor_kind flat.tables m ≡ Some actor.Module
        kind = is.actor_is.kind_is

        spans_are : y.ports.spans ≡ port_spans_of flat.checked (block_at flat.tables.modules m)
        spans_are = again.made.ports_are ∙ ap (port_spans_of flat.checked) is.block_is

        same_spans : y.ports.spans ≡ x.ports.spans
        same_spans = again.made.ports_are ∙ sym is.made.ports_are

        span_at : (n : ℕ) (p : PortSpan) → slice_get y.ports.spans n ≡ Some p → slice_get (port_spans_of flat.checked (block_at flat.tables.modules m)) n ≡ Some p
        span_at n p at = ap (λ l. slice_get l n) (sym spans_are) ∙ at

        wires_are : AreWiresOf flat.tables m y.wires
        wires_are = subst (AreWiresOf flat.tables m) (sym again.wires) is.wires_are

        block : (p : PureBlock) × (slice_get (blocks_of ready.of.keep.model.globals) x.block ≡ Some p)
        block = block_there _ (blocks_of ready.of.keep.model.globals) flat.checked.blocks.items x.block ready.of.keep.are is.made.block

        kept_rates : y.frame.state.rates ≡ x.frame.state.rates
        kept_rates =
            ap (λ (s : State). s.frame.rates) (again.ran.after ready.of.keep.model block.0 ready.of.keep.are block.1)
            ∙ ready.of.keep.again x.block block.0 (state_of x.frame.state (ports_before x.ports.spans (length x.ports.state.notified) nothing_read)) block.1

        traced_now : y.traced ≡ map (traced_port flat.tables attrs.rows) (traced_ports flat.tables m)
        traced_now = again.traced ∙ ap (map (rated flat.tables attrs.rows)) is.traced
            ∙ map-map (rated flat.tables attrs.rows) (traced_port flat.tables c.table) (traced_ports flat.tables m)

        next_module : IsModuleOf flat (next_of d.rings d.runners) m y
        next_module =
            let fits = ports_fit flat c.number laid attrs.rows ready.attributes ready.rows in
            record {
              actor_is = record { kind_is = kind; inside = own };
              block_is = again.block ∙ is.block_is;
              made = subst (λ b. AreMadeFor flat.checked b y.frame y.ports) (sym again.block) again.made;
              rates = kept_rates ∙ is.rates;
              wires_are = wires_are;
              wired = subst (λ w. AreWired w y.ports.spans (length flat.tables.edges)) (sym again.wires)
                  (subst (λ s. AreWired x.wires s (length flat.tables.edges)) (sym same_spans) is.wired);
              read_rate = λ j w p at there. (in_fits flat c.number attrs.rows laid fits m kind own y.wires wires_are j w p at (span_at w.port p there)).small;
              write_rate = λ j w p at there. (out_fits flat c.number attrs.rows laid fits m kind own y.wires wires_are j w p at (span_at w.port p there)).small;
              read_format = λ j w p at there. (in_fits flat c.number attrs.rows laid fits m kind own y.wires wires_are j w p at (span_at w.port p there)).format;
              write_format = λ j w p at there. (out_fits flat c.number attrs.rows laid fits m kind own y.wires wires_are j w p at (span_at w.port p there)).format;
              zeros = again.zeros y.wires (read_rates (net_of flat.tables attrs.rows));
              traced = traced_now;
              traced_rate = λ j t at. subst (λ s. IsInSpans s t) (sym spans_are) (traced_fits flat c.number attrs.rows laid fits m kind own y.wires wires_are y.traced traced_now j t at);
            }

        -- its reinitialize body has run, with the rates of the table
        abbrev begun_state : (cells : List ℤ) → (rates : List ℕ) → (spans : List PortSpan) → (events : ℕ) → State
        begun_state cells rates spans events = state_of (record { cells = cells; rates = rates }) (ports_before spans events nothing_read)

        state_is : state_of x.frame.state (ports_before x.ports.spans (length x.ports.state.notified) nothing_read)
            ≡ begun_state x.frame.state.cells (rates_in (attrs_at attrs.rows m)) (port_spans_of flat.checked (block_at flat.tables.modules m)) (event_count flat.checked (block_at flat.tables.modules m))
        state_is =
            ap (λ l. begun_state x.frame.state.cells l x.ports.spans (length x.ports.state.notified)) is.rates
            ∙ ap (λ l. begun_state x.frame.state.cells (rates_in (attrs_at attrs.rows m)) l (length x.ports.state.notified)) (is.made.ports_are ∙ ap (port_spans_of flat.checked) is.block_is)
            ∙ ap (begun_state x.frame.state.cells (rates_in (attrs_at attrs.rows m)) (port_spans_of flat.checked (block_at flat.tables.modules m))) (is.made.events ∙ ap (event_count flat.checked) is.block_is)

        done_cells : (model : PureTree) → IsCheckedOf model flat.checked
            → y.frame.state.cells ≡ (done_by model flat m body.Reinitialize x.frame.state.cells (rates_in (attrs_at attrs.rows m)) nothing_read).frame.cells
        unfolding done_by
        done_cells model checked =
            ap (λ (s : State). s.frame.cells) (again.ran.after model there.0 checked there.1)
            ∙ ap (λ s. (after_part model (Some there.0) body.Reinitialize s).frame.cells) state_is
            ∙ ap (λ o. (after_part model o body.Reinitialize (begun_state x.frame.state.cells (rates_in (attrs_at attrs.rows m)) (port_spans_of flat.checked (block_at flat.tables.modules m))
            (event_count flat.checked (block_at flat.tables.modules m)))).frame.cells) (sym there.1 ∙ ap (slice_get (blocks_of model.globals)) is.block_is)
          where
            there : (p : PureBlock) × (slice_get (blocks_of model.globals) x.block ≡ Some p)
            there = block_there _ (blocks_of model.globals) flat.checked.blocks.items x.block checked is.made.block

      next_sampler : (m : ℕ) (s : SamplerOf) → IsSamplerOf flat c m s → IsSamplerOf flat (next_of d.rings d.runners) m s
      next_sampler m s is = record {
        actor_is = record { kind_is = is.actor_is.kind_is; inside = is.actor_is.inside };
        edges_are = is.edges_are;
        place_is = is.place_is ∙ before m;
        rate = λ e writes. (let row = get_inside flat.tables.edges e writes.inside in
            writes_at flat.tables attrs.rows e row.0 row.1 ∙ sampler_writes flat laid attrs.rows row.0 (laid.rows e row.0 row.1)
            (ap (actor_kind flat.tables) (sym (ap writer_of_row row.1) ∙ writes.writer) ∙ is.actor_is.kind_is));
        none = is.none;
      }

      next_sink : (m edge : ℕ) → IsSinkOf flat c m edge → IsSinkOf flat (next_of d.rings d.runners) m edge
      next_sink m edge is = record {
        actor_is = record { kind_is = is.actor_is.kind_is; inside = is.actor_is.inside };
        edge_is = is.edge_is;
        rate = (let row = get_inside flat.tables.edges edge is.edge_is.is.inside in
            reads_at flat.tables attrs.rows edge row.0 row.1 ∙ sink_reads flat laid attrs.rows row.0 (laid.rows edge row.0 row.1)
            (ap (actor_kind flat.tables) (sym (ap reader_of_row row.1) ∙ is.edge_is.is.reader) ∙ is.actor_is.kind_is));
        none = is.none;
      }

      next_runner : (m : ℕ) (r s : Runner) → IsRunnerWith flat attrs.rows c m r → IsRestarted flat attrs.rows r s → IsRunnerOf flat (next_of d.rings d.runners) m s
      next_runner m (runner.Module x) s is again = subst (IsRunnerOf flat (next_of d.rings d.runners) m) (sym again.1) (next_module m x again.0 is again.2)
      next_runner m (runner.Sampler k) s is again = subst (IsRunnerOf flat (next_of d.rings d.runners) m) (sym again) (next_sampler m k is)
      next_runner m (runner.Sink k) s is again = subst (IsRunnerOf flat (next_of d.rings d.runners) m) (sym again) (next_sink m k.edge is)
      next_runner m runner.Outside s is again = subst (IsRunnerOf flat (next_of d.rings d.runners) m) (sym again) is

      kin : (m : ℕ) (r s : Runner) → IsRunnerWith flat attrs.rows c m r → IsRestarted flat attrs.rows r s → IsKin r s
      kin m (runner.Module x) s is again = (again.0, again.1, again.2.block, again.2.wires)
      kin m (runner.Sampler k) s is again = again
      kin m (runner.Sink k) s is again = again
      kin m runner.Outside s is again = again

      as_many : length d.runners ≡ length c.runners
      as_many = re.restarted.same

      pub new_plan : HasNewPlan c attrs plan d
      new_plan = record {
        rest = re.d_is;
        same = re.carried.same;
        lists = λ e below. ring_is e (subst (λ n. e < n) ready.of.held.same below);
        as_many = as_many;
        runners = λ m r at. (
            let s = get_inside d.runners m (let w = slice_get_within c.runners m r at in let l = as_many in omega (arith, w, l)) in
            let h : CameFrom m s.0 = came m s.0 s.1 in
            (s.0, s.1, subst (λ (q : Runner). IsKin q s.0) (some_inj h.r r (sym h.r_at ∙ at)) (kin m h.r s.0 (ready.of.runners m h.r h.r_at) h.again)));
      }

      pub new_heads : HoldHeads flat.tables d
      new_heads = subst (HoldHeads flat.tables) (sym d_is) (λ e within. ap (λ (r : RingOf). length r.samples) (ring_is e within) ∙ held e within)

      next_held : AreHeld flat.tables (next_of d.rings d.runners)
      next_held = record {
        same = re.carried.same ∙ ready.of.held.same;
        held = λ e within. heads_hold flat (next_of d.rings d.runners) e refl (ap (λ (r : RingOf). length r.samples) (ring_is e within) ∙ held e within);
        room = λ e within. ap (λ (r : RingOf). r.capacity) (ring_is e within);
        formats = λ e f within format. subst (λ (r : RingOf). All (IsOfFormat f) r.samples) (sym (ring_is e within)) (ready.of.held.formats e f within format);
      }

      next_cluster : IsClusterOf flat (next_of d.rings d.runners)
      next_cluster = record {
        attributes = ready.attributes;
        rows = ready.rows;
        planned = planned d.rings d.runners;
        reads_are = refl;
        writes_are = refl;
        safe = safe d.rings d.runners;
        within = omega arith;
        over = λ crossed. false_true crossed;
        held = next_held;
        actors = long;
        positions = ready.of.positions;
        counted = ready.of.counted;
        runners = λ m s at. (let h : CameFrom m s = came m s at in next_runner m h.r s (ready.of.runners m h.r h.r_at) h.again);
        keep = ready.of.keep;
        known = ready.known;
      }

      pub new_cluster : IsClusterOf flat d
      new_cluster = subst (IsClusterOf flat) (sym d_is) next_cluster

      -- the values of an actor after its reinitialize body
      next_cells : (model : PureTree) → IsCheckedOf model flat.checked → (m : ℕ) (r s : Runner) → IsRunnerWith flat attrs.rows c m r → IsRestarted flat attrs.rows r s
          → runner_cells s ≡ (done_by model flat m body.Reinitialize (runner_cells r) (rates_in (attrs_at attrs.rows m)) nothing_read).frame.cells
      next_cells model checked m (runner.Module x) s is again = ap runner_cells again.1 ∙ done_cells m x again.0 is again.2 model checked
      next_cells model checked m (runner.Sampler k) s is again = ap runner_cells again ∙ sym (done_bare model flat m body.Reinitialize (rates_in (attrs_at attrs.rows m)) nothing_read)
      next_cells model checked m (runner.Sink k) s is again = ap runner_cells again ∙ sym (done_bare model flat m body.Reinitialize (rates_in (attrs_at attrs.rows m)) nothing_read)
      next_cells model checked m runner.Outside s is again = ap runner_cells again ∙ sym (done_bare model flat m body.Reinitialize (rates_in (attrs_at attrs.rows m)) nothing_read)

      abbrev Reinitialized : PureTree → PeriodInfo → ℕ → List ℤ → Type 0
      Reinitialized model info m x = (b : List ℤ) × (slice_get (map runner_cells c.runners) m ≡ Some b) × (x ≡ reinitialized model flat m info b)

      state_at : (model : PureTree) → IsCheckedOf model flat.checked → (info : PeriodInfo) → info.is_new ≡ true → info.table ≡ attrs.rows → (m : ℕ) (x : List ℤ)
          → slice_get (map runner_cells d.runners) m ≡ Some x → Reinitialized model info m x
      state_at model checked info fresh table m x at = go (slice_get d.runners m) refl (sym (slice_get-map runner_cells d.runners m) ∙ at)
        where
          go : (o : Option Runner) → slice_get d.runners m ≡ o → option_map runner_cells o ≡ Some x → Reinitialized model info m x
          go None there given = none_some x given
          go (Some s) there given =
              let h : CameFrom m s = came m s there in (
                runner_cells h.r,
                slice_get-map runner_cells c.runners m ∙ ap (option_map runner_cells) h.r_at,
                sym (some_same (runner_cells s) x given) ∙ next_cells model checked m h.r s (ready.of.runners m h.r h.r_at) h.again
                    ∙ ap (λ (t : List AttrsOf). (done_by model flat m body.Reinitialize (runner_cells h.r) (rates_in (attrs_at t m)) nothing_read).frame.cells) (sym table)
                    ∙ sym (ap (λ (b : Bool). if b then (done_by model flat m body.Reinitialize (runner_cells h.r) (module_rates info m) nothing_read).frame.cells else runner_cells h.r) fresh),
              )

      stands_next_of : StandsAtNew flat attrs.rows c (next_of d.rings d.runners)
      stands_next_of model start old p next reads from f checked past timed fresh table crosses =
          install_stands (cluster_net model flat c.number start) old p next reads f (play_of from c) (play_of 0 (next_of d.rings d.runners))
          (are_active model flat c.number start old p (play_of from c) past timed (let l = length-map c.runners runner_cells in let a = ready.of.actors in omega (arith, l, a))) crosses (record {
            turns = λ m. zero_in (turns_from plan.entries.items 0 0) (range_with_len 0 (length d.runners)) m (λ j. omega arith);
            lists = same_lists d.rings c.rings re.carried.same (λ e below. ap (λ (r : RingOf). r.samples) (ring_is e (subst (λ n. e < n) ready.of.held.same below)));
            states = λ m x at inside. state_at model checked next.info fresh table m x at;
          })

      pub stands_new : StandsAtNew flat attrs.rows c d
      stands_new = subst (StandsAtNew flat attrs.rows c) (sym d_is) stands_next_of
