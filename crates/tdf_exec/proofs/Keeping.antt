-- After a firing the cluster is still one of its flat model.
use Rattle.std.proofs.Common.{◌≡◌, ◌∙◌, ◌≢◌, ℕ, zero, suc, ◌+◌, ◌-◌, ◌^◌, ◌<◌, ◌≤◌, Bool, List, [], ◌∷◌, Some, length, length-set, take, refl, sym, ap, subst, inl, inr, ◌⊎◌, arith}
use Rattle.std.proofs.lemmas.Bool.{cases_eq}
use Rattle.std.proofs.lemmas.List.{get_or-set_same, get_or-set_other}
use Rattle.std.proofs.lemmas.List.Sums.{sum_by-cons}
use Rattle.std.proofs.lemmas.Option.{slice_get_within}
use Rattle.std.specs.List.{count_by}
use Rattle.std.specs.Prelude.{cond, slice_get, slice_index, slice_set}
use Rattle.tdf_exec.proofs.Acting.{block_there}
use Rattle.tdf_exec.proofs.Counting.{held_after}
use Rattle.tdf_exec.proofs.Moved.{given_by, given_none, given_one, module_moves, sampler_moves, sink_moves, some_at, some_inj}
use Rattle.tdf_exec.proofs.Runs.{can_run}
use Rattle.tdf_exec.specs.Cluster.{ClusterOf, offset_in}
use Rattle.tdf_exec.specs.machine.Fired.{CanSample, HasFired, HasRun}
use Rattle.tdf_exec.specs.Made.{IsClusterOf, IsInSpans, IsModuleOf, IsRunnerOf, KeepRates, is_sampler_runner}
use Rattle.tdf_exec.specs.Played.{IsLike}
use Rattle.tdf_exec.specs.Runners.{ModuleOf, SamplerOf}
use Rattle.tdf_exec.specs.declared.runners.Runner.{Runner}
use Rattle.tdf_exec.specs.declared.runners.Runner.TheVariants as runner
use Rattle.tdf_exec.specs.machine.Steps.{AreInputsNext, AreMovedBy, with_parts}
use Rattle.tdf_expr.specs.Blocks.{blocks_of}
use Rattle.tdf_expr.specs.Made.{AreMadeFor, event_count}
use Rattle.tdf_expr.specs.declared.spans.PortSpan.{PortSpan}
use Rattle.tdf_exec_firing.specs.Activation.{ports_before}
use Rattle.tdf_exec_firing.specs.Firing.{AreZerosBehind, samples_read}
use Rattle.tdf_exec_firing.specs.Wires.{AreWired, WiresOf}
use Rattle.tdf_exec_firing.specs.declared.wires.InWire.{InWire}
use Rattle.tdf_exec_firing.specs.declared.wires.OutWire.{OutWire}
use Rattle.tdf_fixed.specs.declared.raw.Raw.{Raw}
use Rattle.tdf_bind.specs.declared.model.Flat.{Flat}
use Rattle.tdf_streams.proofs.Api.{none_some}
use Rattle.tdf_exec_layout.specs.Wiring.{AreWiresOf}
use Rattle.tdf_rings.specs.Rings.{RingOf}
use Rattle.tdf_schedule.specs.declared.entry.Entry.{Entry}
use Rattle.tdf_expr_state.specs.State.{State, state_of}

-- the processing body sets no rate variable
rates_kept : (flat : Flat) (c : ClusterOf) (m : ℕ) (x y : ModuleOf) (new : List RingOf) → IsModuleOf flat c m x → HasFired flat.checked c.reads c.writes c.rings new x y
    → KeepRates flat.checked → y.frame.state.rates ≡ x.frame.state.rates
rates_kept flat c m x y new is fired keep =
    let block = block_there _ (blocks_of keep.model.globals) flat.checked.blocks.items x.block keep.are is.made.block in
    ap (λ (s : State). s.frame.rates) (fired.acted.after keep.model block.0 keep.are block.1)
    ∙ keep.keeps x.block block.0 (state_of x.frame.state (ports_before x.ports.spans (event_count flat.checked x.block) (samples_read x.wires c.reads c.rings))) block.1

module_after : (flat : Flat) (c : ClusterOf) (m : ℕ) (x y : ModuleOf) (new : List RingOf) (place : ℕ) (rings : List RingOf) (runners : List Runner) (positions : List ℕ)
    → IsModuleOf flat c m x → HasFired flat.checked c.reads c.writes c.rings new x y → KeepRates flat.checked → IsModuleOf flat (with_parts c place rings runners positions) m y
module_after flat c m x y new place rings runners positions is fired keep = record {
  actor_is = is.actor_is;
  block_is = fired.block ∙ is.block_is;
  made = subst (λ b. AreMadeFor flat.checked b y.frame y.ports) (sym fired.block) fired.made;
  rates = rates_kept flat c m x y new is fired keep ∙ is.rates;
  wires_are = subst (λ w. AreWiresOf flat.tables m w) (sym fired.wires) is.wires_are;
  wired = subst (λ w. AreWired w y.ports.spans (length flat.tables.edges)) (sym fired.wires)
      (subst (λ s. AreWired x.wires s (length flat.tables.edges)) (sym spans_are) is.wired);
  read_rate = λ j w p at there. is.read_rate j w p (ins_at j w at) (span_at w.port p there);
  write_rate = λ j w p at there. is.write_rate j w p (outs_at j w at) (span_at w.port p there);
  read_format = λ j w p at there. is.read_format j w p (ins_at j w at) (span_at w.port p there);
  write_format = λ j w p at there. is.write_format j w p (outs_at j w at) (span_at w.port p there);
  zeros = subst (λ w. AreZerosBehind w c.reads y.ports) (sym fired.wires) fired.zeros;
  traced = fired.traced ∙ is.traced;
  traced_rate = λ j t at. subst (λ s. IsInSpans s t) (sym spans_are) (is.traced_rate j t (ap (λ l. slice_get l j) (sym fired.traced) ∙ at));
}
  where
    spans_are : y.ports.spans ≡ x.ports.spans
    spans_are = fired.made.ports_are ∙ sym is.made.ports_are

    span_at : (n : ℕ) (p : PortSpan) → slice_get y.ports.spans n ≡ Some p → slice_get x.ports.spans n ≡ Some p
    span_at n p at = ap (λ l. slice_get l n) (sym spans_are) ∙ at

    ins_at : (j : ℕ) (w : InWire) → slice_get y.wires.ins j ≡ Some w → slice_get x.wires.ins j ≡ Some w
    ins_at j w at = ap (λ (l : WiresOf). slice_get l.ins j) (sym fired.wires) ∙ at

    outs_at : (j : ℕ) (w : OutWire) → slice_get y.wires.outs j ≡ Some w → slice_get x.wires.outs j ≡ Some w
    outs_at j w at = ap (λ (l : WiresOf). slice_get l.outs j) (sym fired.wires) ∙ at

-- as many pass where one is replaced by another that passes alike
pub count_set : {A : Type 0} (p : A → Bool) (xs : List A) (m i : ℕ) (x y : A) → slice_get xs i ≡ Some x → p y ≡ p x
    → count_by p (take m (slice_set xs i y)) ≡ count_by p (take m xs)
count_set p [] m i x y at alike = absurd cc
count_set p (a ∷ xs) zero i x y at alike = none (slice_set (a ∷ xs) i y)
  where
    none : (l : List _) → count_by p (take 0 l) ≡ count_by p (take 0 (a ∷ xs))
    none l = refl
count_set p (a ∷ xs) (suc m) zero x y at alike =
    let s = sum_by-cons (λ z. cond {A = ℕ} (p z) 1 0) y (take m xs) in
    let t = sum_by-cons (λ z. cond {A = ℕ} (p z) 1 0) a (take m xs) in
    let u : cond {A = ℕ} (p y) 1 0 ≡ cond {A = ℕ} (p a) 1 0 = ap (λ (o : Bool). cond {A = ℕ} o 1 0) (alike ∙ sym (one at)) in
    omega (arith, s, t, u)
  where
    one : Some a ≡ Some x → p a ≡ p x
    one e = cc
count_set p (a ∷ xs) (suc m) (suc i) x y at alike =
    let rest = count_set p xs m i x y at alike in
    let s = sum_by-cons (λ z. cond {A = ℕ} (p z) 1 0) a (take m (slice_set xs i y)) in
    let t = sum_by-cons (λ z. cond {A = ℕ} (p z) 1 0) a (take m xs) in
    omega (arith, rest, s, t)

pub get_set : {A : Type 0} (xs : List A) (i : ℕ) (x : A) → i < length xs → slice_get (slice_set xs i x) i ≡ Some x
get_set [] i x below = absurd (omega (arith, below))
get_set (y ∷ xs) zero x below = refl
get_set (y ∷ xs) (suc i) x below = get_set xs i x (omega (arith, below))

pub get_set_other : {A : Type 0} (xs : List A) (i k : ℕ) (x : A) → k ≢ i → slice_get (slice_set xs i x) k ≡ slice_get xs k
get_set_other [] i k x apart = refl
get_set_other (y ∷ xs) zero zero x apart = absurd (apart refl)
get_set_other (y ∷ xs) zero (suc k) x apart = refl
get_set_other (y ∷ xs) (suc i) zero x apart = refl
get_set_other (y ∷ xs) (suc i) (suc k) x apart = get_set_other xs i k x (λ e. apart (ap suc e))

pub like_sampler : (r s : Runner) → IsLike r s → is_sampler_runner s ≡ is_sampler_runner r
like_sampler (runner.Module x) s like = ap is_sampler_runner like.1
like_sampler (runner.Sampler x) s like = ap is_sampler_runner like
like_sampler (runner.Sink x) s like = ap is_sampler_runner like
like_sampler runner.Outside s like = ap is_sampler_runner like

-- how samples move in a firing, whatever fires
pub record Moves (flat : Flat) (c : ClusterOf) (m : ℕ) (new : List RingOf) : Type 0 where
  pub given : ℕ → List Raw
  pub are : AreMovedBy flat.tables c m given new

-- the next entry fires
module _ (flat : Flat) (c : ClusterOf) (inputs : List Raw) (x : Entry) (of : IsClusterOf flat c) (ins : AreInputsNext flat c inputs) (at : slice_get c.entries c.place ≡ Some x)
    (new : List RingOf) where
  pub sampler_value : (s : SamplerOf) → slice_get c.runners x.actor ≡ Some (runner.Sampler s) → (v : Raw) × (slice_get inputs s.place ≡ Some v)
  sampler_value s there =
      let can : CanSample inputs c.rings s = can_run flat c inputs x of at (runner.Sampler s) there ins.many in
      some_at inputs s.place can.given

  pub moves : (before after : Runner) → slice_get c.runners x.actor ≡ Some before → HasRun flat.checked inputs c.reads c.writes c.rings new before after → Moves flat c x.actor new
  moves (runner.Module y) after there ran = record {
    given = given_by flat.tables c.writes ran.next.ports;
    are = module_moves flat c x.actor y ran.next (of.runners x.actor (runner.Module y) there) new ran.fired of.held.same;
  }
  moves (runner.Sampler s) after there ran =
      let v = sampler_value s there in
      record {
        given = given_one v.0;
        are = sampler_moves flat c x.actor s v.0 new (of.runners x.actor (runner.Sampler s) there) (ran.put v.0 v.1) of.held.same
            (λ e f writes form. ins.formats e x s v.0 f at there v.1 writes form);
      }
  moves (runner.Sink k) after there ran = record {
    given = given_none;
    are = sink_moves flat c x.actor k.edge new (of.runners x.actor (runner.Sink k) there) ran.1 of.held.same;
  }
  moves runner.Outside after there ran = absurd (of.runners x.actor runner.Outside there (of.safe.own c.place x at))

  pub alike : (before after : Runner) → HasRun flat.checked inputs c.reads c.writes c.rings new before after → IsLike before after
  alike (runner.Module y) after ran = (ran.next, ran.after_is, ran.fired.block, ran.fired.wires, ran.fired.traced)
  alike (runner.Sampler s) after ran = ran.after_is
  alike (runner.Sink k) after ran = ran.0
  alike runner.Outside after ran = ran.0

  module _ (before after : Runner) (there : slice_get c.runners x.actor ≡ Some before) (ran : HasRun flat.checked inputs c.reads c.writes c.rings new before after)
      (position : ℕ) where
    abbrev pub next : ClusterOf
    next = with_parts c (c.place + 1) new (slice_set c.runners x.actor after) (slice_set c.positions x.actor position)

    -- what is kept for an actor is still its own
    still : (m : ℕ) (r : Runner) → IsRunnerOf flat c m r → IsRunnerOf flat next m r
    still m (runner.Module y) is = record {
      actor_is = is.actor_is;
      block_is = is.block_is;
      made = is.made;
      rates = is.rates;
      wires_are = is.wires_are;
      wired = is.wired;
      read_rate = is.read_rate;
      write_rate = is.write_rate;
      read_format = is.read_format;
      write_format = is.write_format;
      zeros = is.zeros;
      traced = is.traced;
      traced_rate = is.traced_rate;
    }
    still m (runner.Sampler s) is = record {
      actor_is = is.actor_is;
      edges_are = is.edges_are;
      place_is = is.place_is ∙ sym (count_set is_sampler_runner c.runners m x.actor before after there (like_sampler before after (alike before after ran)));
      rate = is.rate;
      none = is.none;
    }
    still m (runner.Sink k) is = record {
      actor_is = is.actor_is;
      edge_is = is.edge_is;
      rate = is.rate;
      none = is.none;
    }
    still m runner.Outside is = is

    now : (b a : Runner) → slice_get c.runners x.actor ≡ Some b → HasRun flat.checked inputs c.reads c.writes c.rings new b a → IsRunnerOf flat next x.actor a
    now (runner.Module y) a here run =
        subst (IsRunnerOf flat next x.actor) (sym run.after_is)
        (module_after flat c x.actor y run.next new next.place next.rings next.runners next.positions (of.runners x.actor (runner.Module y) here) run.fired of.keep)
    now (runner.Sampler s) a here run =
        subst (IsRunnerOf flat next x.actor) (sym run.after_is) (still x.actor (runner.Sampler s) (of.runners x.actor (runner.Sampler s) here))
    now (runner.Sink k) a here run =
        subst (IsRunnerOf flat next x.actor) (sym run.0) (still x.actor (runner.Sink k) (of.runners x.actor (runner.Sink k) here))
    now runner.Outside a here run =
        subst (IsRunnerOf flat next x.actor) (sym run.0) (still x.actor runner.Outside (of.runners x.actor runner.Outside here))

    each : (m : ℕ) (r : Runner) → slice_get next.runners m ≡ Some r → (m ≡ x.actor) ⊎ (m ≢ x.actor) → IsRunnerOf flat next m r
    each m r here (inl same) =
        let inside : x.actor < length c.runners = slice_get_within c.runners x.actor before there in
        let one : after ≡ r = some_inj after r (sym (get_set c.runners x.actor after inside) ∙ ap (slice_get next.runners) (sym same) ∙ here) in
        subst (λ k. IsRunnerOf flat next k r) (sym same) (subst (IsRunnerOf flat next x.actor) one (now before after there ran))
    each m r here (inr apart) = still m r (of.runners m r (sym (get_set_other c.runners x.actor m after apart) ∙ here))

    small_at : position ≤ 2 ^ 64 - 1 → (m : ℕ) → (m ≡ x.actor) ⊎ (m ≢ x.actor) → slice_index (slice_set c.positions x.actor position) m ≤ 2 ^ 64 - 1
    small_at small m (inl same) =
        let inside : x.actor < length c.positions = subst (λ n. x.actor < n) (sym of.positions) (of.safe.inside c.place x at) in
        let e : slice_index (slice_set c.positions x.actor position) m ≡ position = ap (slice_index (slice_set c.positions x.actor position)) same ∙ get_or-set_same c.positions x.actor position 0 inside in
        omega (arith, e, small)
    small_at small m (inr apart) =
        let e : slice_index (slice_set c.positions x.actor position) m ≡ slice_index c.positions m = get_or-set_other c.positions x.actor m position 0 apart in
        let s = of.counted m in
        omega (arith, e, s)

    pub of_next : position ≤ 2 ^ 64 - 1 → IsClusterOf flat next
    of_next small = record {
      attributes = of.attributes;
      rows = of.rows;
      planned = record {
        plan = of.planned.plan;
        plan_is = of.planned.plan_is;
        entries_are = of.planned.entries_are;
        bounds_are = of.planned.bounds_are;
        period_is = of.planned.period_is;
      };
      reads_are = of.reads_are;
      writes_are = of.writes_are;
      safe = record {
        inside = of.safe.inside;
        own = of.safe.own;
        present = of.safe.present;
        bounded = of.safe.bounded;
      };
      within = omega (arith, slice_get_within c.entries c.place x at);
      over = λ crossed. none_some x.offset (sym (of.over crossed) ∙ ap offset_in at);
      held =
          let moved = moves before after there ran in
          held_after flat.tables c x moved.given new next.runners next.positions of.safe at of.held moved.are;
      actors = length-set c.runners x.actor after ∙ of.actors;
      positions = length-set c.positions x.actor position ∙ of.positions;
      counted = λ m. small_at small m (cases_eq m x.actor);
      runners = λ m r here. each m r here (cases_eq m x.actor);
      keep = of.keep;
      known = of.known;
    }
