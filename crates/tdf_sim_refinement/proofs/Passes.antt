-- What all clusters trace in a pass, turn after turn.
use Rattle.std.proofs.Common.{◌≡◌, ◌≢◌, ◌⊎◌, ◌∙◌, ℕ, zero, suc, ◌+◌, ◌-◌, ◌<◌, ◌≤◌, true, List, [], ◌∷◌, ◌++◌, Some, length, length-set, set, slice_get, refl, sym, ap, subst, inl, inr, arith, add-one, append-nil}
use Rattle.std.proofs.lemmas.Bool.{cases_eq}
use Rattle.std.proofs.lemmas.List.{append_assoc}
use Rattle.std.proofs.lemmas.Option.{get_or_from_slice_get, slice_get_within}
use Rattle.tdf_convert.specs.Outputs.{OutputsOf}
use Rattle.tdf_convert.specs.declared.outputs.Sent.{Sent}
use Rattle.tdf_exec.specs.Cluster.{due_count, is_next_due, next_offset}
use Rattle.tdf_expr.specs.Checked.{IsCheckedOf}
use Rattle.tdf_fixed.specs.declared.raw.Raw.{Raw}
use Rattle.tdf_bind.specs.Flat.{IsFlatOf}
use Rattle.tdf_bind.specs.declared.model.Flat.{Flat}
use Rattle.tdf_streams.proofs.Api.{get_inside, some_same}
use Rattle.tdf_bind_invariants.specs.Formats.{IsSoundModel}
use Rattle.tdf_graph.specs.declared.actors.Actor.TheVariants as actor
use Rattle.tdf_sim_history.specs.Instant.{RunFault, all_firings}
use Rattle.tdf_sim_history.specs.Texts.{left_by}
use Rattle.tdf_sim_history.specs.Columns.{ColumnStart}
use Rattle.tdf_sim_history.specs.World.{ClusterAt, Rules, World}
use Rattle.tdf_sim_history.proofs.Api.{turns_more, turns_none}
use Rattle.tdf_sim_history.specs.History.{Going, Step, turns_to}
use Rattle.tdf_exec.proofs.Api.{module_kind}
use Rattle.tdf_exec.specs.Below.{SignalsHaveOnePort}
use Rattle.tdf_bind_invariants.specs.Limits.{AreWithinLimits}
use Rattle.tdf_sim_refinement.proofs.Along.{due_here}
use Rattle.tdf_sim_refinement.proofs.Passing.{due_offset, later, none_due, passes_along}
use Rattle.tdf_sim_refinement.proofs.Firings.{due_fire, none_fire}
use Rattle.tdf_sim_refinement.specs.At.{AreSettled, IsAt}
use Rattle.tdf_sim_refinement.specs.Firings.{after_firings, settled_values, world_after}
use Rattle.tdf_sim_refinement.specs.Pass.{AreAt, AreReady, HasDoneTurn, HasIdled, PassHasTurn, HavePassed, IsTurnOf, PassAt, PassesAlong, RunOf, TurnAt, world_with}
use Rattle.tdf_streams.specs.Places.{actor_kind}
use Rattle.tdf_sim_refinement.proofs.Picked.{samples_append, samples_none}
use Rattle.tdf_sim_refinement.proofs.Turned.{fired_other, fired_own}
use Rattle.tdf_sim_refinement.specs.SampleLaws.{PassesTrace}
use Rattle.tdf_sim_refinement.specs.Samples.{AreSamplesOf, HaveTraced, IsTracedPort, signal_samples}
use Rattle.tdf_lang_tree.specs.Pure.{PureTree}
use Rattle.tdf_bind_connections.specs.declared.modules.PortRow.{PortRow}

-- what is set is there, and nothing else changes
set_there : {A : Type 0} (xs : List A) (i : ℕ) (x y : A) → i < length xs → slice_get (set xs i x) i ≡ Some y → x ≡ y
set_there [] i x y inside at = absurd (omega (arith, inside))
set_there (z ∷ zs) zero x y inside at = some_same x y at
set_there (z ∷ zs) (suc i) x y inside at = set_there zs i x y (omega (arith, inside)) at

set_other : {A : Type 0} (xs : List A) (i j : ℕ) (x : A) → j ≢ i → slice_get (set xs i x) j ≡ slice_get xs j
set_other [] i j x apart = refl
set_other (y ∷ ys) zero zero x apart = absurd (apart refl)
set_other (y ∷ ys) zero (suc j) x apart = refl
set_other (y ∷ ys) (suc i) zero x apart = refl
set_other (y ∷ ys) (suc i) (suc j) x apart = set_other ys i j x (λ e. apart (ap suc e))

module _ (model : PureTree) (flat : Flat) where
  -- nothing is traced
  none_traced : (hs gs : List ClusterAt) (x y : RunOf) → gs ≡ hs → y.outputs.traced ≡ x.outputs.traced → HaveTraced model flat hs gs x y
  none_traced hs gs x y same none = record {
    new = [];
    gained = none ∙ sym (append-nil x.outputs.traced);
    samples = λ n number port s h g had h_at g_at traced has.
        subst (AreSamplesOf model flat (n + 1) number port s g) (sym (append-nil had) ∙ ap (λ l. had ++ l) (sym (samples_none port.signal)))
        (subst (λ c. AreSamplesOf model flat (n + 1) number port s c had) (some_same h g (sym h_at ∙ ap (λ l. slice_get l n) (sym same) ∙ g_at)) has);
  }

  -- one after the other
  then_traced : (hs ms gs : List ClusterAt) (x mid y : RunOf) → length gs ≡ length ms → HaveTraced model flat hs ms x mid → HaveTraced model flat ms gs mid y → HaveTraced model flat hs gs x y
  then_traced hs ms gs x mid y long first second = record {
    new = first.new ++ second.new;
    gained = second.gained ∙ ap (λ l. l ++ second.new) first.gained ∙ append_assoc x.outputs.traced first.new second.new;
    samples = λ n number port s h g had h_at g_at traced has. (
        let i = slice_get_within gs n g g_at in
        let m = get_inside ms n (omega (arith, i, long)) in
        subst (AreSamplesOf model flat (n + 1) number port s g)
        (append_assoc had (signal_samples port.signal first.new) (signal_samples port.signal second.new) ∙ ap (λ l. had ++ l) (sym (samples_append port.signal first.new second.new)))
        (second.samples n number port s m.0 g (had ++ signal_samples port.signal first.new) m.1 g_at traced (first.samples n number port s h m.0 had h_at m.1 traced has)));
  }

module _ {K : Type 0} (model : PureTree) (flat : Flat) (rules : Rules K) (pass : PassAt) (w : World K) (x : RunOf) (one_port : SignalsHaveOnePort) (sound : IsSoundModel model) (checked : IsCheckedOf model flat.checked)
    (is_flat : IsFlatOf model flat) (limits : AreWithinLimits flat)
    (start : AreAt model flat pass.since w.clusters x.clusters) (left : w.left ≡ x.left) (ready : AreReady flat.tables pass (settled_values rules w) x.clusters) where
  abbrev each : ℕ → World K → Step (World K) RunFault
  each = all_firings model flat rules pass.time

  -- a port is one of a module
  owner_kind : (number : ℕ) (port : PortRow) → slice_get flat.tables.ports number ≡ Some port → actor_kind flat.tables port.«module» ≡ Some actor.Module
  owner_kind number port at =
      let own = limits.in_range.port_modules number port (slice_get_within flat.tables.ports number port at) in
      let low : port.«module» < length flat.tables.modules = subst (λ (p : PortRow). p.«module» < length flat.tables.modules) (get_or_from_slice_get flat.tables.ports number port port at) own in
      module_kind (length flat.tables.modules) flat.tables limits.actors port.«module» low

  clusters_in : Step (World K) RunFault → List ClusterAt
  clusters_in s = (left_by s).clusters

  -- cluster n has a turn
  module _ (n : ℕ) (mid y : RunOf) (s sent : List Sent) (p : PassesAlong model flat rules pass n w mid s) (q : PassesAlong model flat rules pass (suc n) w y sent) (turn : TurnAt) (is : IsTurnOf pass n mid y turn)
      (untouched : slice_get mid.clusters n ≡ slice_get x.clusters n) where
    abbrev v : World K
    v = world_with flat.tables w p.clusters mid.left s

    there : (h : ClusterAt) × (slice_get p.clusters n ≡ Some h)
    there = let l = p.at.same in let i = slice_get_within mid.clusters n turn.before is.before in get_inside p.clusters n (omega (arith, l, i))

    abbrev h : ClusterAt
    h = there.0

    at : IsAt model flat (n + 1) h turn.before
    at = p.at.each n h turn.before there.1 is.before

    same_since : turn.since ≡ h.since
    same_since = p.at.begun n turn.since h there.1 is.since

    begun : h.since ≤ pass.time
    begun = let b = ready.begun n turn.since is.since in let e = same_since in omega (arith, b, e)

    -- the clusters after it are those of the world that it leads to
    goes_to : (u : World K) → all_firings model flat rules pass.time n v ≡ Going u → q.clusters ≡ u.clusters
    unfolding clusters_in
    goes_to u goes = ap clusters_in (sym q.goes ∙ ap (λ i. turns_to each i w) (sym (add-one n)) ∙ turns_more each n w v (Going u) p.goes goes)

    idle : (t : List Sent) → HasIdled pass.time turn mid y t → HaveTraced model flat p.clusters q.clusters mid y
    idle t idled = none_traced model flat p.clusters q.clusters mid y
        (goes_to v (none_fire model flat rules pass.time n h v there.1
        (none_due model flat (n + 1) pass.time h turn.before at begun (ap (λ k. is_next_due turn.before (pass.time - k)) (sym same_since) ∙ idled.none))))
        (ap (λ (o : OutputsOf). o.traced) idled.outputs)

    -- the turn, by the start that the history says
    abbrev turn_at : (k : ℕ) → TurnAt
    turn_at k = record turn { since = k }

    sorted_is : slice_get x.clusters n ≡ Some turn.before
    sorted_is = sym untouched ∙ is.before

    module _ (t : List Sent) (due : is_next_due turn.before (pass.time - turn.since) ≡ true) (did : HasDoneTurn flat pass.time (turn_at h.since) mid y t) where
      abbrev k : ℕ
      k = due_count turn.before (pass.time - h.since)

      abbrev after : ClusterAt
      after = after_firings flat.tables (settled_values rules w) h k

      next : next_offset turn.before ≡ Some (pass.time - h.since)
      next = due_offset (next_offset turn.before) (pass.time - h.since) did.due

      settled : AreSettled flat.tables (settled_values rules w) (pass.time - h.since) turn.before turn.inputs
      settled = subst (λ i. AreSettled flat.tables (settled_values rules w) (pass.time - i) turn.before turn.inputs) same_since (ready.settled n turn.since turn.before turn.inputs sorted_is is.since is.inputs due)

      clusters_are : q.clusters ≡ set p.clusters n after
      clusters_are = goes_to (world_after model flat rules n h v k)
          (due_fire model flat rules pass.time n h v there.1 k (due_here model flat (n + 1) pass.time h turn.before at (ready.sorted n turn.before sorted_is) begun next) did.fired.enough)

      own_has : (number : ℕ) (port : PortRow) (cs : ColumnStart) (had : List Raw) → IsTracedPort flat (n + 1) number port → AreSamplesOf model flat (n + 1) number port cs h had
          → AreSamplesOf model flat (n + 1) number port cs after (had ++ signal_samples port.signal did.fired.gained.traced)
      own_has number port cs had traced has =
          fired_own model flat one_port sound is_flat (n + 1) pass.time (settled_values rules w) h turn.before turn.after turn.inputs mid.outputs y.outputs mid.left y.left checked at (ready.sorted n turn.before sorted_is)
          begun next settled did.fired number port cs traced (owner_kind number port traced.there) had has

      other_none : (m number : ℕ) (port : PortRow) → m ≢ n → IsTracedPort flat (m + 1) number port → signal_samples port.signal did.fired.gained.traced ≡ []
      other_none m number port apart traced =
          fired_other model flat one_port sound is_flat (n + 1) pass.time (settled_values rules w) h turn.before turn.after turn.inputs mid.outputs y.outputs mid.left y.left checked at (ready.sorted n turn.before sorted_is)
          begun next settled did.fired (m + 1) number port traced (λ e. apart (let z : m ≡ n = omega (arith, e) in z))

      has_next : (m number : ℕ) (port : PortRow) (cs : ColumnStart) (b g : ClusterAt) (had : List Raw) → (m ≡ n) ⊎ (m ≢ n) → slice_get p.clusters m ≡ Some b → slice_get q.clusters m ≡ Some g → IsTracedPort flat (m + 1) number port
          → AreSamplesOf model flat (m + 1) number port cs b had → AreSamplesOf model flat (m + 1) number port cs g (had ++ signal_samples port.signal did.fired.gained.traced)
      has_next m number port cs b g had (inl same) b_at g_at traced has =
          let one : b ≡ h = some_same b h (sym b_at ∙ ap (slice_get p.clusters) same ∙ there.1) in
          let i = slice_get_within p.clusters n h there.1 in
          let two : after ≡ g = set_there p.clusters n after g i (ap (slice_get (set p.clusters n after)) (sym same) ∙ ap (λ l. slice_get l m) (sym clusters_are) ∙ g_at) in
          subst (λ j. AreSamplesOf model flat (j + 1) number port cs g (had ++ signal_samples port.signal did.fired.gained.traced)) (sym same)
          (subst (λ c. AreSamplesOf model flat (n + 1) number port cs c (had ++ signal_samples port.signal did.fired.gained.traced)) two
          (own_has number port cs had (subst (λ j. IsTracedPort flat (j + 1) number port) same traced)
          (subst (λ c. AreSamplesOf model flat (n + 1) number port cs c had) one (subst (λ j. AreSamplesOf model flat (j + 1) number port cs b had) same has))))
      has_next m number port cs b g had (inr apart) b_at g_at traced has =
          let one : b ≡ g = some_same b g (sym b_at ∙ sym (set_other p.clusters n m after apart) ∙ ap (λ l. slice_get l m) (sym clusters_are) ∙ g_at) in
          subst (AreSamplesOf model flat (m + 1) number port cs g) (sym (append-nil had) ∙ ap (λ l. had ++ l) (sym (other_none m number port apart traced)))
          (subst (λ c. AreSamplesOf model flat (m + 1) number port cs c had) one has)

      does : HaveTraced model flat p.clusters q.clusters mid y
      does = record {
        new = did.fired.gained.traced;
        gained = ap (λ (o : OutputsOf). o.traced) did.fired.gained.are;
        samples = λ m number port cs b g had. has_next m number port cs b g had (cases_eq m n);
      }

    done_turn : (t : List Sent) → HasDoneTurn flat pass.time turn mid y t → HaveTraced model flat p.clusters q.clusters mid y
    done_turn t did = does t did.due (subst (λ k. HasDoneTurn flat pass.time (turn_at k) mid y t) same_since did)

  turn_traces : (n : ℕ) (mid y : RunOf) (s t sent : List Sent) (p : PassesAlong model flat rules pass n w mid s) (q : PassesAlong model flat rules pass (suc n) w y sent) → PassHasTurn flat pass n mid y t
      → slice_get mid.clusters n ≡ slice_get x.clusters n → HaveTraced model flat p.clusters q.clusters mid y
  turn_traces n mid y s t sent p q (PassHasTurn.Idle turn is idled) untouched = idle n mid y s sent p q turn is untouched t idled
  turn_traces n mid y s t sent p q (PassHasTurn.Done turn is did) untouched = done_turn n mid y s sent p q turn is untouched t did

  -- a turn changes no number of clusters
  turn_long : (n : ℕ) (mid y : RunOf) (t : List Sent) → PassHasTurn flat pass n mid y t → length y.clusters ≡ length mid.clusters
  turn_long n mid y t (PassHasTurn.Idle turn is idled) = ap length is.after ∙ length-set mid.clusters n turn.after
  turn_long n mid y t (PassHasTurn.Done turn is did) = ap length is.after ∙ length-set mid.clusters n turn.after

  pub passes_trace : (n : ℕ) (y : RunOf) (sent : List Sent) → HavePassed flat pass n x y sent → (q : PassesAlong model flat rules pass n w y sent) → HaveTraced model flat w.clusters q.clusters x y
  unfolding HavePassed clusters_in
  passes_trace zero y sent passed q =
      none_traced model flat w.clusters q.clusters x y (ap clusters_in (sym q.goes ∙ turns_none each w)) (ap (λ (z : RunOf). z.outputs.traced) passed.0)
  passes_trace (suc n) y sent passed q =
      let p = passes_along model flat rules pass w x checked is_flat limits start left ready n passed.0 passed.1 passed.3 in
      let first = passes_trace n passed.0 passed.1 passed.3 p in
      let second = turn_traces n passed.0 y passed.1 passed.2 sent p q passed.4 (later flat pass x n passed.0 passed.1 passed.3 n (omega arith)) in
      let a = p.at.same in let b = q.at.same in let c = turn_long n passed.0 y passed.2 passed.4 in
      then_traced model flat w.clusters p.clusters q.clusters x passed.0 y (omega (arith, a, b, c)) first second

pub pass_traces : SignalsHaveOnePort → PassesTrace
pass_traces one_port model flat rules pass n w x y sent sound checked is limits start left ready passed along =
    passes_trace model flat rules pass w x one_port sound checked is limits start left ready n y sent passed along
