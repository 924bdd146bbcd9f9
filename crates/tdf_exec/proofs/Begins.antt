-- What the actors of a cluster keep at its start.
use Rattle.std.proofs.Common.{◌≡◌, ◌∙◌, ℕ, ◌+◌, ◌-◌, ◌<◌, ◌≤◌, Bool, true, false, if◌then◌else◌, List, [], ◌∷◌, ◌++◌, Some, None, pos, length, length-append, take, refl, sym, ap, subst, inl, inr, ◌⊎◌, arith}
use Rattle.std.proofs.Math.Seq.{take-append_seam, take-nil}
use Rattle.std.proofs.lemmas.Bool.{cases_lt}
use Rattle.std.proofs.lemmas.List.{length-replicate, replicate-append-replicate, take-append-le}
use Rattle.std.proofs.lemmas.List.Sums.{sum_by-append}
use Rattle.std.proofs.lemmas.Option.{slice_get_within}
use Rattle.std.specs.List.{count_by}
use Rattle.std.specs.Prelude.{cond, replicate, slice_get, slice_index_or}
use Rattle.tdf_exec.proofs.Acting.{block_there}
use Rattle.tdf_exec.proofs.Moved.{some_inj}
use Rattle.tdf_exec.proofs.Nexts.{get_read}
use Rattle.tdf_exec.proofs.Rows.{all_at}
use Rattle.tdf_exec.specs.Made.{is_sampler_runner, sampler_runners_before}
use Rattle.tdf_exec.specs.declared.runners.Runner.{Runner}
use Rattle.tdf_exec.specs.declared.runners.TracedPort.{TracedPort}
use Rattle.tdf_exec.specs.machine.Starting.{AreFirstRunners, CanBegin, HoldsText, IsBegun, IsFirstRunner}
use Rattle.tdf_expr.specs.Blocks.{PureBlock, blocks_of}
use Rattle.tdf_expr.specs.Checked.{IsCheckedOf}
use Rattle.tdf_expr.specs.Frames.{ArePortsFit, FrameSeen, KeepsRead, PortsSeen, sample_formats}
use Rattle.tdf_expr.specs.Made.{AreMadeFor, block_count, cell_formats, event_count, port_spans_of, rate_spans_of, start_cells, start_rates}
use Rattle.tdf_expr.specs.Plans.{shape_written}
use Rattle.tdf_expr.specs.Runs.{Ran}
use Rattle.tdf_expr.specs.declared.bodies.Body.TheVariants.{Initialize}
use Rattle.tdf_expr.specs.declared.spans.PortSpan.{PortSpan}
use Rattle.tdf_exec_firing.specs.Activation.{port_samples, ports_before, samples_from}
use Rattle.tdf_exec_firing.specs.Firing.{BeginReady}
use Rattle.tdf_exec_firing.specs.Wires.{WiresOf}
use Rattle.tdf_bind.specs.declared.model.Flat.{Flat}
use Rattle.tdf_streams.proofs.Api.{get_high, get_low}
use Rattle.tdf_exec_layout.specs.declared.wiring.ActorWires.{ActorWires}
use Rattle.tdf_expr_state.specs.State.{FrameState, State, state_of}
use Rattle.tdf_streams.specs.Bodies.{after_part, done_by, initialized, nothing_read}
use Rattle.tdf_streams.specs.Places.{block_of_row}
use Rattle.tdf_lang_tree.specs.Pure.{PureTree}
use Rattle.tdf_bind_connections.specs.declared.modules.ModuleRow.{ModuleRow}

-- ports that read nothing hold zeros
nothing_there : (k : ℕ) (spans : List PortSpan) → samples_from nothing_read k spans ≡ replicate (length (sample_formats spans)) (pos 0)
unfolding samples_from
nothing_there k [] = refl
nothing_there k (p ∷ ps) =
    let none : port_samples p [] ≡ replicate p.count (pos 0) = ap (λ l. l ++ replicate (p.count - 0) (pos 0)) (take-nil p.count) ∙ (let z : p.count - 0 ≡ p.count = omega arith in ap (λ n. replicate n (pos 0)) z) in
    ap (λ l. l ++ samples_from nothing_read (k + 1) ps) none
    ∙ ap (λ l. replicate p.count (pos 0) ++ l) (nothing_there (k + 1) ps)
    ∙ replicate-append-replicate p.count (length (sample_formats ps)) (pos 0)
    ∙ ap (λ n. replicate n (pos 0)) (sym (length-append (replicate p.count (shape_written p.format)) (sample_formats ps) ∙ ap (λ n. n + length (sample_formats ps)) (length-replicate p.count (shape_written p.format))))

-- ports as they are made
pub record AreNew (spans : List PortSpan) (events : ℕ) (ports : PortsSeen) : Type 0 where
  pub spans_are : ports.spans ≡ spans
  pub fit : ArePortsFit ports
  pub count : ℕ
  pub samples : ports.state.samples ≡ replicate count (pos 0)
  pub assigned : ports.state.assigned ≡ replicate (length ports.spans) false
  pub notified : ports.state.notified ≡ replicate events None
  pub steps : ports.state.steps ≡ replicate (length ports.spans + 1) None
  pub accepts : ports.state.accepts ≡ None
  pub out_of_range : ports.state.out_of_range ≡ false

new_state : (spans : List PortSpan) (events : ℕ) (ports : PortsSeen) → AreNew spans events ports → ports.state ≡ ports_before spans events nothing_read
new_state spans events ports new =
    ap (λ l. record ports.state { samples = l }) samples
    ∙ ap (λ l. record ports.state { samples = samples_from nothing_read 0 spans; assigned = l }) (new.assigned ∙ ap (λ (l : List PortSpan). replicate (length l) false) new.spans_are)
    ∙ ap (λ l. record ports.state { samples = samples_from nothing_read 0 spans; assigned = replicate (length spans) false; notified = l }) new.notified
    ∙ ap (λ l. record ports.state { samples = samples_from nothing_read 0 spans; assigned = replicate (length spans) false; notified = replicate events None; steps = l }) steps
    ∙ ap (λ l. record ports.state { samples = samples_from nothing_read 0 spans; assigned = replicate (length spans) false; notified = replicate events None; steps = replicate (1 + length spans) None; accepts = l }) new.accepts
    ∙ ap (λ l. record (ports_before spans events nothing_read) { out_of_range = l }) new.out_of_range
  where
    long : new.count ≡ length (sample_formats spans)
    long = sym (ap length new.samples ∙ length-replicate new.count (pos 0)) ∙ new.fit.samples.long ∙ ap (λ l. length (sample_formats l)) new.spans_are

    samples : ports.state.samples ≡ samples_from nothing_read 0 spans
    samples = new.samples ∙ ap (λ n. replicate n (pos 0)) long ∙ sym (nothing_there 0 spans)

    one : length ports.spans + 1 ≡ 1 + length spans
    one = ap (λ (l : List PortSpan). length l + 1) new.spans_are ∙ omega arith

    steps : ports.state.steps ≡ replicate (1 + length spans) None
    steps = new.steps ∙ ap (λ n. replicate n None) one

module _ (flat : Flat) (m : ℕ) (row : ModuleRow) (at : slice_get flat.tables.modules m ≡ Some row) (can : CanBegin flat) (wires : WiresOf)
    (before after : FrameSeen) (ports next : PortsSeen) (cells : before.state.cells ≡ start_cells flat.checked row.block) (rates : before.state.rates ≡ start_rates flat.checked row.block)
    (new : AreNew (port_spans_of flat.checked row.block) (event_count flat.checked row.block) ports)
    (ran : Ran flat.checked row.block Initialize (state_of before.state ports.state) (state_of after.state next.state))
    (made : AreMadeFor flat.checked row.block after next) where
  first_state : State
  first_state = state_of (record { cells = start_cells flat.checked row.block; rates = start_rates flat.checked row.block })
      (ports_before (port_spans_of flat.checked row.block) (event_count flat.checked row.block) nothing_read)

  state_is : state_of before.state ports.state ≡ first_state
  unfolding first_state
  state_is = ap (λ l. state_of (record before.state { cells = l }) ports.state) cells
      ∙ ap (λ l. state_of (record { cells = start_cells flat.checked row.block; rates = l }) ports.state) rates
      ∙ ap (λ s. state_of (record { cells = start_cells flat.checked row.block; rates = start_rates flat.checked row.block }) s)
      (new_state (port_spans_of flat.checked row.block) (event_count flat.checked row.block) ports new)

  cells_after : (model : PureTree) → IsCheckedOf model flat.checked → after.state.cells ≡ initialized model flat m (start_rates flat.checked row.block)
  unfolding first_state done_by
  cells_after model checked =
      ap (λ (s : State). s.frame.cells) (ran.after model block.0 checked block.1)
      ∙ ap (λ s. (after_part model (Some block.0) Initialize s).frame.cells) state_is
      ∙ ap (λ o. (after_part model o Initialize first_state).frame.cells) (sym block.1)
      ∙ ap (λ n. (after_part model (slice_get (blocks_of model.globals) n) Initialize
      (state_of (record { cells = start_cells flat.checked n; rates = start_rates flat.checked row.block })
      (ports_before (port_spans_of flat.checked n) (event_count flat.checked n) nothing_read))).frame.cells) (sym (ap block_of_row at))
    where
      block : (p : PureBlock) × (slice_get (blocks_of model.globals) row.block ≡ Some p)
      block = block_there _ (blocks_of model.globals) flat.checked.blocks.items row.block checked made.block

  rates_after : after.state.rates ≡ start_rates flat.checked row.block
  rates_after =
      let block = block_there _ (blocks_of can.begin.model.globals) flat.checked.blocks.items row.block can.begin.are made.block in
      ap (λ (s : State). s.frame.rates) (ran.after can.begin.model block.0 can.begin.are block.1)
      ∙ can.begin.begin row.block block.0 (state_of before.state ports.state) block.1 ∙ rates

  pub is_begun : (begins : Bool) → BeginReady → KeepsRead ports next → (traced : List TracedPort)
      → IsBegun flat (HoldsText flat begins) m wires (record { block = row.block; frame = after; ports = next; wires = wires; traced = traced })
  is_begun begins begin kept traced = record {
    block_is = sym (ap block_of_row at);
    made = made;
    wires_are = refl;
    zeros = λ reads. record {
      zero = λ n k p there unwritten past below.
          let here : slice_get ports.spans n ≡ Some p = ap (λ (l : List PortSpan). slice_get l n) (new.spans_are ∙ sym made.ports_are) ∙ there in
          kept.same n k p here unwritten below ∙ (begin wires reads ports new.count new.samples).zero n k p here unwritten past below;
    };
    held = record {
      rates = rates_after ∙ ap (start_rates flat.checked) (sym (ap block_of_row at));
      cells = λ runs model checked. cells_after model checked ∙ ap (λ b. initialized model flat m (start_rates flat.checked b)) (sym (ap block_of_row at));
    };
  }

-- the same, where the model is seen another way
pub begun_from : (begins : Bool) (f flat : Flat) (same : f ≡ flat) (m : ℕ) (row : ModuleRow) → m < length flat.tables.modules → row ≡ slice_index_or f.tables.modules m row → CanBegin flat → (wires : WiresOf)
    → (before after : FrameSeen) (ports next : PortsSeen) → before.state.cells ≡ start_cells f.checked row.block → before.state.rates ≡ start_rates f.checked row.block
    → AreNew (port_spans_of f.checked row.block) (event_count f.checked row.block) ports → Ran f.checked row.block Initialize (state_of before.state ports.state) (state_of after.state next.state)
    → AreMadeFor f.checked row.block after next → BeginReady → KeepsRead ports next → (traced : List TracedPort)
    → IsBegun flat (HoldsText flat begins) m wires (record { block = row.block; frame = after; ports = next; wires = wires; traced = traced })
begun_from begins f flat same m row below read can wires before after ports next cells rates new ran made begin kept traced =
    subst (λ (x : Flat). IsBegun x (HoldsText x begins) m wires (record { block = row.block; frame = after; ports = next; wires = wires; traced = traced })) same
    (is_begun f m row (get_read f.tables.modules m row (subst (λ (x : Flat). m < length x.tables.modules) (sym same) below) read) (subst CanBegin (sym same) can) wires
    before after ports next cells rates new ran made begins begin kept traced)

-- a module as it is made, whose body hasn't run
module _ (flat : Flat) (m : ℕ) (row : ModuleRow) (at : slice_get flat.tables.modules m ≡ Some row) (can : CanBegin flat) (wires : WiresOf)
    (frame : FrameSeen) (ports : PortsSeen) (formats : frame.formats ≡ cell_formats flat.checked row.block) (spans : frame.rates ≡ rate_spans_of flat.checked row.block)
    (rates : frame.state.rates ≡ start_rates flat.checked row.block) (new : AreNew (port_spans_of flat.checked row.block) (event_count flat.checked row.block) ports) where
  pub is_made : (begins : Bool) → begins ≡ false → BeginReady → (traced : List TracedPort)
      → IsBegun flat (HoldsText flat begins) m wires (record { block = row.block; frame = frame; ports = ports; wires = wires; traced = traced })
  is_made begins off begin traced = record {
    block_is = sym (ap block_of_row at);
    made = record {
      made = can.checked;
      block = all_at (λ (x : ModuleRow). x.block < block_count flat.checked) flat.tables.modules m row can.blocks at;
      formats = formats;
      rates = spans;
      ports_are = new.spans_are;
      events = ap length new.notified ∙ length-replicate (event_count flat.checked row.block) None;
    };
    wires_are = refl;
    zeros = λ reads. begin wires reads ports new.count new.samples;
    held = record {
      rates = rates ∙ ap (start_rates flat.checked) (sym (ap block_of_row at));
      cells = λ on. absurd (subst (λ b. elim b as (λ _. Type 0) [ true ↦ ⊥ | false ↦ Unit {0} ]) (sym off ∙ on) tt);
    };
  }

pub made_from : (begins : Bool) → begins ≡ false → (f flat : Flat) (same : f ≡ flat) (m : ℕ) (row : ModuleRow) → m < length flat.tables.modules → row ≡ slice_index_or f.tables.modules m row → CanBegin flat → (wires : WiresOf)
    → (frame : FrameSeen) (ports : PortsSeen) → frame.formats ≡ cell_formats f.checked row.block → frame.rates ≡ rate_spans_of f.checked row.block → frame.state.rates ≡ start_rates f.checked row.block
    → AreNew (port_spans_of f.checked row.block) (event_count f.checked row.block) ports → BeginReady → (traced : List TracedPort)
    → IsBegun flat (HoldsText flat begins) m wires (record { block = row.block; frame = frame; ports = ports; wires = wires; traced = traced })
made_from begins off f flat same m row below read can wires frame ports formats spans rates new begin traced =
    subst (λ (x : Flat). IsBegun x (HoldsText x begins) m wires (record { block = row.block; frame = frame; ports = ports; wires = wires; traced = traced })) same
    (is_made f m row (get_read f.tables.modules m row (subst (λ (x : Flat). m < length x.tables.modules) (sym same) below) read) (subst CanBegin (sym same) can) wires
    frame ports formats spans rates new begins off begin traced)

-- one runner more
module _ (flat : Flat) (Holds : ℕ → FrameState → Type 0) (n : ℕ) (told : List ActorWires) (samplers next : ℕ) (runners : List Runner) (w : ActorWires) (r : Runner)
    (are : AreFirstRunners flat Holds n told samplers runners) (there : slice_get told n ≡ Some w) (is : IsFirstRunner flat Holds n samplers w r)
    (more : next ≡ samplers + (if is_sampler_runner r then 1 else 0)) where
  whole : sampler_runners_before (runners ++ r ∷ []) n ≡ samplers
  whole = ap (λ k. count_by is_sampler_runner (take k (runners ++ r ∷ []))) (sym are.long) ∙ ap (count_by is_sampler_runner) (take-append_seam runners (r ∷ [])) ∙ sym are.counted

  early : (m : ℕ) → m < n → sampler_runners_before (runners ++ r ∷ []) m ≡ sampler_runners_before runners m
  early m low = ap (count_by is_sampler_runner) (take-append-le m runners (r ∷ []) (let l = are.long in omega (arith, l, low)))

  here : (m : ℕ) (x : ActorWires) (s : Runner) → slice_get told m ≡ Some x → slice_get (runners ++ r ∷ []) m ≡ Some s → (m < n) ⊎ (n ≤ m)
      → IsFirstRunner flat Holds m (sampler_runners_before (runners ++ r ∷ []) m) x s
  here m x s xat sat (inl low) =
      let l = are.long in
      subst (λ k. IsFirstRunner flat Holds m k x s) (sym (early m low)) (are.each m x s xat (sym (get_low runners (r ∷ []) m (omega (arith, l, low))) ∙ sat))
  here m x s xat sat (inr high) =
      let l = are.long in let a = length-append runners (r ∷ []) in let b = slice_get_within (runners ++ r ∷ []) m s sat in
      let same : n ≡ m = omega (arith, l, a, b, high) in
      let index : m - length runners ≡ 0 = omega (arith, l, same) in
      let one : r ≡ s = some_inj r s (ap (slice_get (r ∷ [])) (sym index) ∙ sym (get_high runners (r ∷ []) m (omega (arith, l, high))) ∙ sat) in
      let wire : w ≡ x = some_inj w x (sym there ∙ ap (slice_get told) same ∙ xat) in
      subst (λ k. IsFirstRunner flat Holds k (sampler_runners_before (runners ++ r ∷ []) k) x s) same
      (subst (λ k. IsFirstRunner flat Holds n k x s) (sym whole) (subst (λ y. IsFirstRunner flat Holds n samplers y s) wire (subst (λ q. IsFirstRunner flat Holds n samplers w q) one is)))

  counted_next : next ≡ count_by is_sampler_runner (runners ++ r ∷ [])
  counted_next = more ∙ (let s = sum_by-append (λ (x : Runner). cond {A = ℕ} (is_sampler_runner x) 1 0) runners (r ∷ []) in let c = are.counted in let o = last (is_sampler_runner r) in omega (arith, s, c, o))
    where
      last : (b : Bool) → cond {A = ℕ} b 1 0 + 0 ≡ (if b then 1 else 0)
      last true = refl
      last false = refl

  pub runners_next : AreFirstRunners flat Holds (n + 1) told next (runners ++ r ∷ [])
  runners_next = record {
    long = length-append runners (r ∷ []) ∙ ap (λ k. k + 1) are.long;
    counted = counted_next;
    each = λ m x s xat sat. here m x s xat sat (cases_lt m n);
  }
