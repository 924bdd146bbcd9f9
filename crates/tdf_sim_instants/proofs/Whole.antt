-- An instant of all that runs is that of the history.
use Rattle.std.proofs.Common.{◌≡◌, ◌∙◌, ℕ, ◌+◌, ◌-◌, ◌≤◌, List, [], ◌++◌, Option, Some, None, option_map, length, map, slice_get, refl, sym, ap, subst, arith}
use Rattle.std.proofs.lemmas.Option.{slice_get_within}
use Rattle.tdf_convert.specs.Emitted.{write_of_sent as write_to}
use Rattle.tdf_base.specs.declared.faults.Fault.{Fault}
use Rattle.tdf_convert.specs.Outputs.{OutputsOf}
use Rattle.tdf_convert.specs.Sampled.{PlansGoByOffset}
use Rattle.tdf_sim_instants.proofs.Boundaries.{crossing_ends_spent, crossing_ends_stopped, crossing_goes_along, have_plans, told_of_all}
use Rattle.tdf_sim_instants.proofs.ToldAt.{told_long}
use Rattle.tdf_sim_instants.proofs.Crossed.{Crosses, all_crosses, crossed_long}
use Rattle.tdf_sim_instants.proofs.Parts.{events_end, events_go, pass_sends, sorted_of}
use Rattle.tdf_sim_instants.proofs.Plans.{spent_plans}
use Rattle.tdf_sim_instants.proofs.Samples.{samples_here}
use Rattle.tdf_sim_instants.specs.Crossing.{CrossingOf, HaveCrossed, crossing_of}
use Rattle.tdf_sim_instants.specs.CrossingLaws.{AreToldAt, CrossesAlong, HasPlansOf, IsCrossing, rows_in, world_crossed}
use Rattle.tdf_sim_instants.specs.Engine.{HasBeenSpent, HasBeenStopped, HasHadInstant, IsEngineOf, IsReadyAt}
use Rattle.tdf_sim_instants.specs.InstantLaws.{HasPlansIn, InstantEnds, InstantEndsSpent, InstantEndsStopped, InstantGoes, InstantGoesAlong, IsModelOf, IsNow}
use Rattle.tdf_sim_instants.specs.Sampling.{HaveSampled, sampling_at}
use Rattle.tdf_sim_instants.specs.Settling.{event_turn}
use Rattle.tdf_sim_instants.specs.declared.engine.Engine.{Engine}
use Rattle.tdf_events.specs.Kernel.{side_of}
use Rattle.tdf_events.specs.Side.{SideOf}
use Rattle.tdf_sim_refinement.specs.Below.{ClusterOf}
use Rattle.tdf_fixed.specs.declared.raw.Raw.{Raw}
use Rattle.tdf_bind.specs.declared.model.Flat.{Flat}
use Rattle.tdf_streams.proofs.Api.{get_inside}
use Rattle.tdf_sim_history.specs.Instant.{RunFault, all_firings, at_begin, boundary, events_of, instant}
use Rattle.tdf_sim_history.specs.Telling.{world_told}
use Rattle.tdf_sim_history.specs.World.{Change, ClusterAt, Rules, World}
use Rattle.tdf_sim_history.specs.History.{Step, Fault as Faulted, Past, and_then, turns_to}
use Rattle.tdf_sim_refinement.proofs.Api.{emitted_to, pass_is_spent, passes_along}
use Rattle.tdf_sim_refinement.specs.At.{AreSettled, IsAt}
use Rattle.tdf_sim_refinement.specs.Firings.{settled_values, write_of}
use Rattle.tdf_sim_refinement.specs.Pass.{AreReady, HasPassedAll, PassAt, PassesAlong, RunOf, AreAt, pass_at, pass_run, world_with}
use Rattle.tdf_lang_tree.specs.Pure.{PureTree}
use Rattle.tdf_sim_history.specs.Rules.{rules_of, signal_write}

module _ (by : PlansGoByOffset) (model : PureTree) (flat : Flat) (time : ℕ) (w : World SideOf) (e : Engine) (left : ℕ) (m : IsModelOf model flat) (of : IsEngineOf flat e) (ready_at : IsReadyAt time e) (now : IsNow model flat w e left) where
  abbrev rules : Rules SideOf
  rules = rules_of model flat

  abbrev x : CrossingOf
  x = crossing_of e.clusters.items e.since.items left []

  abbrev crosses : ℕ → World SideOf → Step (World SideOf) RunFault
  crosses = boundary flat.tables time

  abbrev fires : ℕ → World SideOf → Step (World SideOf) RunFault
  fires = all_firings model flat rules time

  abbrev then_fires : Step (World SideOf) RunFault → Step (World SideOf) RunFault
  then_fires s = and_then (and_then s (λ v. turns_to fires (length w.clusters) v)) (events_of rules time)

  abbrev then_settles : Step (World SideOf) RunFault → Step (World SideOf) RunFault
  then_settles s = and_then s (events_of rules time)

  crossing_now : IsCrossing model flat w x
  crossing_now = record { checked = m.checked; limits = m.limits; at = now.at; left = now.turns; none = refl }

  -- as many clusters are there where more is told
  instant_is : (told : List (List Change)) → instant model flat rules time (world_told told w) ≡ then_fires (turns_to crosses (length w.clusters) (at_begin (world_told told w)))
  instant_is told = ap (λ k. and_then (and_then (turns_to crosses k (at_begin (world_told told w))) (λ v. turns_to fires k v)) (events_of rules time)) (told_long told w)

  module _ (mid : CrossingOf) (crossed : HaveCrossed flat time (length e.clusters.items) x mid) where
    crossing : CrossesAlong model flat time (length w.clusters) w mid
    crossing = crossing_goes_along model flat time w x mid crossing_now crossed

    abbrev v : World SideOf
    v = world_crossed w crossing.clusters mid.left mid.planned

    long : length mid.clusters ≡ length w.clusters
    long = (crossed_long ⊥ flat time x (length e.clusters.items) mid crossed).0 ∙ sym now.at.same

    told_all : (n : ℕ) → AreToldAt model flat time n w crossing.told
    told_all n = told_of_all model flat time w x m.checked m.limits now.at now.turns refl rules mid crossing n

    here : (n : ℕ) (c : ClusterOf) → slice_get mid.clusters n ≡ Some c → (h : ClusterAt) × (slice_get crossing.clusters n ≡ Some h) × IsAt model flat (n + 1) h c
    here n c c_at =
        let i = slice_get_within mid.clusters n c c_at in
        let s = crossing.at.same in
        let h = get_inside crossing.clusters n (omega (arith, i, s)) in
        (h.0, h.1, crossing.at.each n h.0 c h.1 c_at)

    begun_is : (n s t : ℕ) (c d : ClusterOf) → slice_get e.since.items n ≡ Some s → Crosses ⊥ flat time c d s t → t ≤ time
    begun_is n s t c d s_at (Crosses.Stays going d_is t_is) = let b = ready_at.begun n s s_at in omega (arith, b, t_is)
    begun_is n s t c d s_at (Crosses.Begins head much d_of t_is) = omega (arith, t_is)

    begun : (n t : ℕ) → slice_get mid.since n ≡ Some t → t ≤ time
    begun n t t_at =
        let i = slice_get_within mid.since n t t_at in
        let l = crossed_long ⊥ flat time x (length e.clusters.items) mid crossed in
        let l0 = l.0 in let l1 = l.1 in
        let s = of.since in
        let c = get_inside mid.clusters n (omega (arith, i, l0, l1, s)) in
        let a = all_crosses ⊥ flat time x (length e.clusters.items) mid crossed n (λ none. absurd none) t c.0 c.1 t_at (omega (arith, i, l1, s)) in
        begun_is n a.1 t a.0 c.0 a.3 a.4

    module _ (inputs : List (List Raw)) (sampled : HaveSampled (sampling_at time mid.since mid.clusters e.links.items e.kernel.values) (length mid.clusters) e.inputs.items inputs) (outputs : OutputsOf) where
      abbrev pass : PassAt
      pass = pass_at time mid.since inputs

      ready : AreReady flat.tables pass (settled_values rules v) mid.clusters
      ready = record {
        sorted = λ n c c_at. sorted_of by flat c (here n c c_at).2.of;
        begun = begun;
        settled = λ n s c i c_at s_at i_at due.
            subst (λ (values : List Raw). AreSettled flat.tables values (time - s) c i) (ap (λ (side : SideOf). side.values) now.side)
            (samples_here model flat m.sound m.is e of time mid.since mid.clusters inputs (crossed_long ⊥ flat time x (length e.clusters.items) mid crossed).0 sampled n s c i c_at s_at i_at
            (here n c c_at).2.of (here n c c_at).2.number_is due).0;
      }

      abbrev run : RunOf
      run = pass_run mid.clusters outputs mid.left

      after_crossing : instant model flat rules time (world_told crossing.told w) ≡ then_settles (turns_to fires (length w.clusters) v)
      after_crossing = instant_is crossing.told ∙ ap then_fires crossing.goes

      module _ (y : RunOf) (all : HasPassedAll flat pass run y) where
        passing : PassesAlong model flat rules pass (length w.clusters) v y all.sent
        passing = subst (λ n. PassesAlong model flat rules pass n v y all.sent) long
            (passes_along model flat rules pass v run m.checked m.is m.limits crossing.at refl ready (length mid.clusters) y all.sent all.passed)

        abbrev u : World SideOf
        u = world_with flat.tables v passing.clusters y.left all.sent

        after_firing : instant model flat rules time (world_told crossing.told w) ≡ events_of rules time u
        after_firing = after_crossing ∙ ap then_settles passing.goes

        sends : outputs.sent ≡ [] → y.outputs.sent ≡ all.sent
        sends none = (pass_sends flat pass run (length mid.clusters) y all.sent all.passed).0 ∙ ap (λ l. l ++ all.sent) none

        writes : outputs.sent ≡ [] → map (write_to e.sinks.list.items) y.outputs.sent ≡ map signal_write (map (write_of flat.tables) all.sent)
        writes none = ap (map (write_to e.sinks.list.items)) (sends none)
            ∙ (emitted_to model flat e.sinks.list.items all.sent m.sound m.is of.sinks (pass_sends flat pass run (length mid.clusters) y all.sent all.passed).1).0

        event : outputs.sent ≡ [] → (o : Option (SideOf × ℕ)) → event_turn model flat time (map (write_to e.sinks.list.items) y.outputs.sent) (side_of e.kernel) y.left ≡ o
            → event_turn model flat time (map signal_write u.written) u.events u.left ≡ o
        event none o is = sym (ap (λ l. event_turn model flat time l (side_of e.kernel) y.left) (writes none) ∙ ap (λ s. event_turn model flat time (map signal_write u.written) s y.left) now.side) ∙ is

  goes : (f : Engine) (rest : ℕ) (had : HasHadInstant flat time e f left rest) → InstantGoes model flat time w e f left rest had
  goes f rest had =
      let y = had.run in
      let fired = had.fired in
      let p = passing had.crossed had.boundaries f.inputs.items fired.sampled fired.outputs y fired.firings in
      let along = crossing had.crossed had.boundaries in
      let u = world_with flat.tables (world_crossed w along.clusters had.crossed.left had.crossed.planned) p.clusters y.left fired.firings.sent in
      record {
        crossing = along;
        are_told = told_all had.crossed had.boundaries;
        ready = ready had.crossed had.boundaries f.inputs.items fired.sampled fired.outputs;
        passing = p;
        world = record u { events = side_of f.kernel; left = rest };
        same = refl;
        now = record {
          at = subst (λ since. AreAt model flat since p.clusters f.clusters.items) (sym had.since) (subst (AreAt model flat had.crossed.since p.clusters) (sym had.clusters) p.at);
          side = refl;
          turns = refl;
        };
        planned = sym had.planned;
        goes = after_firing had.crossed had.boundaries f.inputs.items fired.sampled fired.outputs y fired.firings
            ∙ events_go model flat time u (side_of f.kernel, rest)
            (event had.crossed had.boundaries f.inputs.items fired.sampled fired.outputs y fired.firings fired.none_sent (Some (side_of f.kernel, rest)) (had.events model m.checked));
      }

  -- the plans of an instant that ends the run
  plans_in : (f : Engine) (v : World SideOf) (y : CrossingOf) → HasPlansOf v y → f.clusters.items ≡ y.clusters → f.planned.items ≡ y.planned → HasPlansIn v f
  plans_in f v y has clusters planned = record {
    plans = λ n. has.plans n ∙ ap (λ l. option_map rows_in (slice_get l n)) (sym clusters);
    planned = has.planned ∙ sym planned;
  }

  spent : (f : Engine) → HasBeenSpent flat time e f left → InstantEnds model flat time w f (λ v. Past v)
  spent f (HasBeenSpent.InBoundaries mid none clusters planned) =
      let s = crossing_ends_spent model flat time w x mid crossing_now none in
      record {
        told = s.told;
        are_told = s.are_told;
        last = s.last;
        has = plans_in f s.last mid s.has clusters planned;
        goes = instant_is s.told ∙ ap then_fires s.goes;
      }
  spent f (HasBeenSpent.InFirings mid inputs y crossed fired clusters planned) =
      let along = crossing mid crossed in
      let begin = world_crossed w along.clusters mid.left mid.planned in
      let p = pass_is_spent model flat rules (pass_at time mid.since inputs) begin (pass_run mid.clusters fired.outputs mid.left) m.checked m.is m.limits
      along.at refl (ready mid crossed inputs fired.sampled fired.outputs) fired.firings.number y fired.firings.to in
      record {
        told = along.told;
        are_told = told_all mid crossed;
        last = _;
        has = record {
          plans = λ n. (spent_plans model flat rules (pass_at time mid.since inputs) fired.firings.number (length begin.clusters) begin (pass_run mid.clusters fired.outputs mid.left) y fired.firings.to p n
              ∙ ap (λ l. option_map rows_in (slice_get l n)) (sym clusters));
          planned = sym planned;
        };
        goes = after_crossing mid crossed inputs fired.sampled fired.outputs
            ∙ ap (λ n. then_settles (turns_to fires n begin)) (sym (long mid crossed) ∙ sym along.at.same) ∙ ap then_settles p.ends;
      }
  spent f (HasBeenSpent.InEvents mid inputs y crossed fired none clusters planned) =
      let along = crossing mid crossed in
      let p = passing mid crossed inputs fired.sampled fired.outputs y fired.firings in
      let u = world_with flat.tables (world_crossed w along.clusters mid.left mid.planned) p.clusters y.left fired.firings.sent in
      record {
        told = along.told;
        are_told = told_all mid crossed;
        last = u;
        has = record {
          plans = λ n. (have_plans model flat mid.since p.clusters y.clusters p.at n ∙ ap (λ l. option_map rows_in (slice_get l n)) (sym clusters));
          planned = sym planned;
        };
        goes = after_firing mid crossed inputs fired.sampled fired.outputs y fired.firings
            ∙ events_end model flat time u
            (event mid crossed inputs fired.sampled fired.outputs y fired.firings fired.none_sent None (none model m.checked));
      }

  stops : (f : Engine) (number : ℕ) (fault : Fault) → HasBeenStopped flat time number fault e f left → InstantEnds model flat time w f (λ v. Faulted (record { cluster = number; fault = fault }) v)
  stops f number fault ended =
      let s = crossing_ends_stopped model flat time number fault w x ended.crossed crossing_now ended.stopped in
      record {
        told = s.told;
        are_told = s.are_told;
        last = s.last;
        has = plans_in f s.last ended.crossed s.has ended.clusters ended.planned;
        goes = instant_is s.told ∙ ap then_fires s.goes;
      }

pub instant_goes : PlansGoByOffset → InstantGoesAlong
instant_goes by model flat time w e f left rest m of ready now had = goes by model flat time w e left m of ready now f rest had

pub instant_ends : PlansGoByOffset → InstantEndsSpent
instant_ends by model flat time w e f left m of ready now spent_in = spent by model flat time w e left m of ready now f spent_in

pub instant_stops : PlansGoByOffset → InstantEndsStopped
instant_stops by model flat time number fault w e f left m of ready now stopped = stops by model flat time w e left m of ready now f number fault stopped
