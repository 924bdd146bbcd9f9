-- What a module asks for.
use Rattle.std.proofs.Common.{◌≡◌, ◌∙◌, ℕ, zero, suc, ◌+◌, ◌<◌, ◌≤◌, ◌^◌, Bool, true, false, if◌then◌else◌, List, [], ◌∷◌, Option, Some, None, length, map, refl, sym, ap, subst, arith}
use Rattle.std.proofs.lemmas.List.{length-map, length-replicate}
use Rattle.std.specs.Prelude.{replicate, slice_get}
use Rattle.tdf_base.specs.Limits.{deepest_nesting}
use Rattle.tdf_dynamic.proofs.Begins.{begun_zeros, run_zeros}
use Rattle.tdf_dynamic.proofs.Keeping.{AreShort, Stays, stmts_stay}
use Rattle.tdf_dynamic.proofs.Rows.{not_both}
use Rattle.tdf_dynamic.proofs.Steps.{steps_none}
use Rattle.tdf_dynamic.proofs.Staying.{change_kept, limits_at, limits_same, none_short}
use Rattle.tdf_dynamic.specs.Asked.{IsQuiet, asked, asked_in, nothing_asked, port_count}
use Rattle.tdf_dynamic.specs.Given.{IsFrameOf, IsOfText}
use Rattle.tdf_dynamic.specs.declared.frames.ModuleFrame.{ModuleFrame}
use Rattle.tdf_dynamic.specs.Ports.{AreBegun}
use Rattle.tdf_dynamic.specs.machine.Asking.{CanTell, HasAsked}
use Rattle.tdf_dynamic_plans.specs.Attributes.{AttrsOf}
use Rattle.tdf_expr.specs.Blocks.{PureBlock, blocks_of, body_of, scope_of}
use Rattle.tdf_expr.specs.Checked.{IsCheckedOf}
use Rattle.tdf_expr.specs.Compiled.{AreBlocksOf, IsBlockOf}
use Rattle.tdf_expr.specs.Frames.{ArePortsFit, FrameSeen, KeepsRead, PortsSeen, limits_of_rate}
use Rattle.tdf_expr.specs.Made.{AreMadeFor, event_count, port_spans_of, rate_spans_of, block_rates, spans_in}
use Rattle.tdf_expr.specs.Runs.{Ran, scope_in}
use Rattle.tdf_expr.specs.declared.blocks.Block.{Block}
use Rattle.tdf_expr.specs.declared.bodies.Body.TheVariants as body
use Rattle.tdf_expr.specs.declared.checked.Checked.{Checked}
use Rattle.tdf_expr.specs.declared.spans.PortSpan.{PortSpan}
use Rattle.tdf_exec_firing.specs.Activation.{ports_before}
use Rattle.tdf_bind.specs.declared.model.Flat.{Flat}
use Rattle.tdf_streams.proofs.Api.{get_inside}
use Rattle.tdf_streams.specs.Below.{limits_in}
use Rattle.tdf_expr_semantics.specs.Bodies.{after_body}
use Rattle.tdf_expr_semantics.specs.Fits.{RatesFit}
use Rattle.tdf_expr_semantics.specs.Places.{RateLimits, rate_limits}
use Rattle.tdf_expr_symbols.specs.Names.{Names, globals_of}
use Rattle.tdf_expr_state.specs.State.{State, state_of}
use Rattle.tdf_streams.specs.Bodies.{after_part, done_by, nothing_read}
use Rattle.tdf_streams.specs.Periods.{HasAllowedRates}
use Rattle.tdf_streams.specs.Places.{block_at, block_of_row, changes_row, has_changes}
use Rattle.tdf_lang_tree.specs.Pure.{PureTree}
use Rattle.tdf_bind_connections.specs.declared.modules.ModuleRow.{ModuleRow}

-- a block has few ports
spans_few : (checked : Checked) (number : ℕ) → length (port_spans_of checked number) ≤ 2 ^ 31
spans_few checked number = go (slice_get checked.blocks.items number)
  where
    go : (o : Option Block) → length (spans_in o) ≤ 2 ^ 31
    go None = omega arith
    go (Some b) = b.ports.few

pub frame_few : (checked : Checked) (number : ℕ) (spans : List PortSpan) → spans ≡ port_spans_of checked number → length spans ≤ 2 ^ 31
frame_few checked number spans is = subst (λ (l : List PortSpan). length l ≤ 2 ^ 31) (sym is) (spans_few checked number)

-- a block that was checked
record Compiled (globals : Names) (ps : List PureBlock) (bs : List Block) (n : ℕ) : Type 0 where
  block : PureBlock
  code : Block
  block_at : slice_get ps n ≡ Some block
  code_at : slice_get bs n ≡ Some code
  is : IsBlockOf (scope_of globals block) block code

compiled : (globals : Names) (ps : List PureBlock) (bs : List Block) (n : ℕ) → AreBlocksOf globals ps bs → n < length bs → Compiled globals ps bs n
compiled globals [] [] n are below = absurd (omega (arith, below))
compiled globals [] (b ∷ bs) n are below = absurd are
compiled globals (p ∷ ps) [] n are below = absurd are
compiled globals (p ∷ ps) (b ∷ bs) zero are below = record { block = p; code = b; block_at = refl; code_at = refl; is = are.0 }
compiled globals (p ∷ ps) (b ∷ bs) (suc n) are below =
    let rest = compiled globals ps bs n are.1 (omega (arith, below)) in
    record { block = rest.block; code = rest.code; block_at = rest.block_at; code_at = rest.code_at; is = rest.is }

module _ (flat : Flat) (attrs : AttrsOf) (text : IsOfText flat) (inside : attrs.number < length flat.tables.modules) (allowed : HasAllowedRates flat attrs) (old : ModuleFrame)
    (frame : IsFrameOf flat attrs old) (begun : AreBegun old.ports old.ports) where
  abbrev number : ℕ
  number = block_at flat.tables.modules attrs.number

  state_before : State
  state_before = state_of (record { cells = old.frame.state.cells; rates = attrs.rates }) (ports_before (port_spans_of flat.checked number) (event_count flat.checked number) nothing_read)

  before_is : state_of old.frame.state old.ports.state ≡ state_before
  unfolding state_before
  before_is =
      ap (λ r. state_of (record old.frame.state { rates = r }) old.ports.state) frame.rates
      ∙ ap (λ s. state_of (record { cells = old.frame.state.cells; rates = attrs.rates }) s) begun.state
      ∙ ap (λ (l : List PortSpan). state_of (record { cells = old.frame.state.cells; rates = attrs.rates }) (ports_before l (length old.ports.state.notified) nothing_read)) frame.made.ports_are
      ∙ ap (λ n. state_of (record { cells = old.frame.state.cells; rates = attrs.rates }) (ports_before (port_spans_of flat.checked number) n nothing_read)) frame.made.events

  steps_before : old.ports.state.steps ≡ replicate (1 + length (port_spans_of flat.checked number)) None
  unfolding state_before
  steps_before = ap (λ (s : State). s.ports.steps) before_is

  limits_are : limits_in flat.checked (slice_get flat.tables.modules attrs.number) ≡ map limits_of_rate (rate_spans_of flat.checked number)
  limits_are = let row = get_inside flat.tables.modules attrs.number inside in limits_at flat.checked (slice_get flat.tables.modules attrs.number) row.0 row.1

  -- a module that has no changes
  pub nothing : has_changes flat.tables.modules attrs.number ≡ false → HasAsked flat attrs old.frame.state.cells old
  unfolding asked state_before
  nothing none = record {
    tells = record {
      is_module = inside;
      before = allowed;
      made = frame.made;
      few = frame_few flat.checked number old.ports.spans frame.made.ports_are;
      long = ap length steps_before ∙ length-replicate (1 + length (port_spans_of flat.checked number)) None ∙ ap (λ (l : List PortSpan). 1 + length l) (sym frame.made.ports_are);
      allowed = subst (λ r. RatesFit (limits_in flat.checked (slice_get flat.tables.modules attrs.number)) r) (sym frame.rates) allowed;
      quiet = λ same. subst (IsQuiet attrs) (sym (ap asked_in before_is))
          (record { same = record { rates = refl; steps = steps_none attrs.steps (1 + length (port_spans_of flat.checked number)) }; unmarked = refl });
    };
    short = subst AreShort (sym steps_before) (none_short (1 + length (port_spans_of flat.checked number)));
    asked_is = λ model checked.
        ap asked_in before_is
        ∙ sym (ap (λ (b : Bool). if b then asked_in (done_by model flat attrs.number body.Change old.frame.state.cells attrs.rates nothing_read)
        else nothing_asked (port_count flat attrs.number) attrs old.frame.state.cells) none);
    zeros = begun_zeros old.ports old.ports begun;
  }

  -- a module whose change body has run
  module _ (new : ModuleFrame) (made : AreMadeFor flat.checked number new.frame new.ports)
      (ran : Ran flat.checked number body.Change (state_of old.frame.state old.ports.state) (state_of new.frame.state new.ports.state)) (fit : ArePortsFit new.ports)
      (kept : KeepsRead old.ports new.ports) where
    at_model : (model : PureTree) → IsCheckedOf model flat.checked → Compiled (globals_of model.globals) (blocks_of model.globals) flat.checked.blocks.items number
    at_model model checked = compiled (globals_of model.globals) (blocks_of model.globals) flat.checked.blocks.items number checked made.block

    done_is : (model : PureTree) (checked : IsCheckedOf model flat.checked) → state_of new.frame.state new.ports.state
        ≡ after_body (scope_in model (at_model model checked).block) (body_of (at_model model checked).block body.Change) state_before
    done_is model checked =
        let b = at_model model checked in
        ran.after model b.block checked b.block_at ∙ ap (after_body (scope_in model b.block) (body_of b.block body.Change)) before_is

    kept_limits : limits_in flat.checked (slice_get flat.tables.modules attrs.number) ≡ rate_limits (scope_in text.model (at_model text.model text.checked).block).own
    kept_limits =
        let b = at_model text.model text.checked in
        limits_are ∙ ap (map limits_of_rate) (ap block_rates b.code_at ∙ b.is.rates) ∙ sym (limits_same (scope_in text.model b.block).own.things)

    stays : Stays (scope_in text.model (at_model text.model text.checked).block).own (state_of new.frame.state new.ports.state)
    unfolding state_before
    stays =
        let b = at_model text.model text.checked in
        let scope = scope_in text.model b.block in
        subst (Stays scope.own) (sym (done_is text.model text.checked))
        (stmts_stay scope deepest_nesting [] [] (body_of b.block body.Change) state_before (change_kept text.model.globals number b.block text.kept.globals b.block_at)
        (record {
          rates = subst (λ (l : List RateLimits). RatesFit l attrs.rates) kept_limits allowed;
          short = none_short (1 + length (port_spans_of flat.checked number));
        }))

    pub has_run : has_changes flat.tables.modules attrs.number ≡ true → HasAsked flat attrs old.frame.state.cells new
    unfolding asked state_before done_by
    has_run has = record {
      tells = record {
        is_module = inside;
        before = allowed;
        made = made;
        few = frame_few flat.checked number new.ports.spans made.ports_are;
        long = fit.steps;
        allowed = subst (λ (l : List RateLimits). RatesFit l new.frame.state.rates) (sym kept_limits) stays.rates;
        quiet = λ none. absurd (not_both (has_changes flat.tables.modules attrs.number) none has);
      };
      short = stays.short;
      asked_is = λ model checked.
          let b = at_model model checked in
          ap asked_in (done_is model checked ∙ ap (λ o. after_part model o body.Change state_before) (sym b.block_at))
          ∙ sym (ap (λ (c : Bool). if c then asked_in (done_by model flat attrs.number body.Change old.frame.state.cells attrs.rates nothing_read)
          else nothing_asked (port_count flat attrs.number) attrs old.frame.state.cells) has);
      zeros = run_zeros old.ports old.ports new.ports begun (made.ports_are ∙ sym frame.made.ports_are) kept;
    }

-- a module has as many rates as its block has rate variables
module _ (flat : Flat) (attrs : AttrsOf) (f : ModuleFrame) (tells : CanTell flat attrs f) where
  limits_long : length (limits_in flat.checked (slice_get flat.tables.modules attrs.number)) ≡ length (rate_spans_of flat.checked (block_at flat.tables.modules attrs.number))
  limits_long =
      let row = get_inside flat.tables.modules attrs.number tells.is_module in
      ap length (limits_at flat.checked (slice_get flat.tables.modules attrs.number) row.0 row.1)
      ∙ length-map (rate_spans_of flat.checked (block_at flat.tables.modules attrs.number)) limits_of_rate

  pub before_long : length attrs.rates ≡ length (rate_spans_of flat.checked (block_at flat.tables.modules attrs.number))
  before_long = tells.before.long ∙ limits_long

  pub after_long : length f.frame.state.rates ≡ length (rate_spans_of flat.checked (block_at flat.tables.modules attrs.number))
  after_long = tells.allowed.long ∙ limits_long

  pub spans_long : length f.frame.rates ≡ length (rate_spans_of flat.checked (block_at flat.tables.modules attrs.number))
  spans_long = ap length tells.made.rates

-- the same, where the model is seen another way
module _ (f flat : Flat) (same : f ≡ flat) (attrs : AttrsOf) (row : ModuleRow) (at : slice_get flat.tables.modules attrs.number ≡ Some row) where
  pub made_at : (frame : FrameSeen) (ports : PortsSeen) → AreMadeFor flat.checked (block_at flat.tables.modules attrs.number) frame ports → AreMadeFor f.checked row.block frame ports
  made_at frame ports made =
      subst (λ (x : Flat). AreMadeFor x.checked row.block frame ports) (sym same) (subst (λ n. AreMadeFor flat.checked n frame ports) (ap block_of_row at) made)

  pub nothing_at : (text : IsOfText flat) (inside : attrs.number < length flat.tables.modules) (allowed : HasAllowedRates flat attrs) (old : ModuleFrame)
      (frame : IsFrameOf flat attrs old) (begun : AreBegun old.ports old.ports) → row.changes ≡ false → HasAsked flat attrs old.frame.state.cells old
  nothing_at text inside allowed old frame begun none = nothing flat attrs text inside allowed old frame begun (ap changes_row at ∙ none)

  pub run_at : (text : IsOfText flat) (inside : attrs.number < length flat.tables.modules) (allowed : HasAllowedRates flat attrs) (old new : ModuleFrame)
      (frame : IsFrameOf flat attrs old) (begun : AreBegun old.ports old.ports) → row.changes ≡ true → AreMadeFor f.checked row.block new.frame new.ports
      → Ran f.checked row.block body.Change (state_of old.frame.state old.ports.state) (state_of new.frame.state new.ports.state) → ArePortsFit new.ports
      → KeepsRead old.ports new.ports → HasAsked flat attrs old.frame.state.cells new
  run_at text inside allowed old new frame begun has made ran fit kept =
      has_run flat attrs text inside allowed old frame begun new
      (subst (λ n. AreMadeFor flat.checked n new.frame new.ports) (sym (ap block_of_row at)) (subst (λ (x : Flat). AreMadeFor x.checked row.block new.frame new.ports) same made))
      (subst (λ n. Ran flat.checked n body.Change (state_of old.frame.state old.ports.state) (state_of new.frame.state new.ports.state)) (sym (ap block_of_row at))
      (subst (λ (x : Flat). Ran x.checked row.block body.Change (state_of old.frame.state old.ports.state) (state_of new.frame.state new.ports.state)) same ran))
      fit kept (ap changes_row at ∙ has)
