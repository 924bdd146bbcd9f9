-- A body that runs.
use Rattle.std.proofs.Common.{◌≡◌, ◌∙◌, ◌≢◌, ℕ, zero, suc, ◌+◌, length, map, replicate, ◌≤◌, ◌^◌, ℤ, pos, Bool, false, arith, List, [], ◌∷◌, Option, Some, None, refl, sym, ap, subst}
use Rattle.std.specs.Prelude.{slice_get}
use Rattle.tdf_expr.specs.Blocks.{PureBlock, blocks_of, scope_of, body_of}
use Rattle.tdf_expr.specs.Compiled.{IsBlockOf, AreBlocksOf, IsActOf, act_of}
use Rattle.tdf_expr.specs.Checked.{IsChecked}
use Rattle.tdf_expr.specs.Frames.{FrameSeen, PortsSeen, IsFrameFit, ArePortsFit, KeepsRead, limits_of_rate, sample_formats}
use Rattle.tdf_expr.specs.Made.{AreMadeFor, formats_in, block_rates, spans_in, events_in}
use Rattle.tdf_expr.specs.Plans.{shape_written, place_of_span, port_places, cell_starts}
use Rattle.tdf_expr.specs.Runs.{Ran, scope_in}
use Rattle.std.proofs.lemmas.List.{length-replicate}
use Rattle.tdf_expr.proofs.Fitting.{limits_same, cells_start, rates_start, rates_in_order, numbers_fit, zeros_fit}
use Rattle.tdf_expr.proofs.Framed.{spans_row, spans_shapes, spans_count}
use Rattle.tdf_expr.proofs.Unwritten.{stmts_left, ports_left}
use Rattle.tdf_expr.specs.machine.Inputs.{KeepsInputs}
use Rattle.tdf_expr_semantics.proofs.Api.{keeps}
use Rattle.tdf_expr_semantics.specs.Places.{cell_shapes, rate_limits}
use Rattle.tdf_expr.specs.declared.bodies.Body.{Body}
use Rattle.tdf_expr.specs.declared.blocks.Block.{Block}
use Rattle.tdf_expr.specs.declared.checked.Checked.{Checked}
use Rattle.tdf_expr.specs.declared.spans.RateSpan.{RateSpan}
use Rattle.tdf_fixed.specs.declared.format.Format.{Format}
use Rattle.tdf_lang_tree.specs.declared.shapes.Shape.{Shape}
use Rattle.tdf_expr.specs.machine.Parts.{IsSafePart, part_done}
use Rattle.tdf_expr_machine.specs.declared.acts.Act.{Act}
use Rattle.tdf_expr_semantics.specs.Bodies.{after_body}
use Rattle.tdf_expr_semantics.specs.Fits.{StateFits, LoopsFit, NumbersFit, RatesFit}
use Rattle.tdf_expr_symbols.specs.Names.{Names, globals_of}
use Rattle.tdf_expr_symbols.specs.Scope.{Scope}
use Rattle.tdf_expr_state.specs.State.{State, state_of}
use Rattle.tdf_lang_tree.specs.Pure.{PureStmts, PureTree}

pub block_found : (globals : Names) (ps : List PureBlock) (bs : List Block) (n : ℕ) (p : PureBlock) (b : Block) → AreBlocksOf globals ps bs
    → slice_get ps n ≡ Some p → slice_get bs n ≡ Some b → IsBlockOf (scope_of globals p) p b
block_found globals [] [] n p b are at held = absurd cc
block_found globals [] (c ∷ bs) n p b are at held = absurd are
block_found globals (q ∷ ps) [] n p b are at held = absurd are
block_found globals (q ∷ ps) (c ∷ bs) zero p b are at held =
    subst (λ (x : PureBlock). IsBlockOf (scope_of globals x) x b) (ap pure at) (subst (IsBlockOf (scope_of globals q) q) (ap made held) are.0)
  where
    pure : Option PureBlock → PureBlock
    pure None = q
    pure (Some x) = x

    made : Option Block → Block
    made None = c
    made (Some x) = x
block_found globals (q ∷ ps) (c ∷ bs) (suc n) p b are at held = block_found globals ps bs n p b are.1 at held

pub block_there : (globals : Names) (ps : List PureBlock) (bs : List Block) (n : ℕ) (p : PureBlock) → AreBlocksOf globals ps bs
    → slice_get ps n ≡ Some p → slice_get bs n ≢ None
block_there globals [] [] n p are at = absurd cc
block_there globals [] (c ∷ bs) n p are at = absurd are
block_there globals (q ∷ ps) [] n p are at = absurd are
block_there globals (q ∷ ps) (c ∷ bs) zero p are at = λ e. absurd cc
block_there globals (q ∷ ps) (c ∷ bs) (suc n) p are at = block_there globals ps bs n p are.1 at

no_loops : (own : Names) → LoopsFit own [] []
no_loops own = record { long = refl; each = λ d l e. absurd cc }

pub part_safe : (scope : Scope) (ss : PureStmts) (o : Option Act) (s : State) → IsActOf scope ss o → StateFits scope.own s → IsSafePart o s
part_safe scope ss None s is fits = tt
part_safe scope ss (Some act) s is fits = (is.at [] s fits (no_loops scope.own)).safe

pub part_same : (scope : Scope) (ss : PureStmts) (o : Option Act) (s : State) → IsActOf scope ss o → StateFits scope.own s → part_done o s ≡ after_body scope ss s
part_same scope ss None s is fits = ap (λ (x : PureStmts). after_body scope x s) (sym is)
part_same scope ss (Some act) s is fits = (is.at [] s fits (no_loops scope.own)).same

-- the block that is held, and the one that it was made from
pub record IsFrom (globals : Names) (ps : List PureBlock) (n : ℕ) (b : Block) : Type 0 where
  pub block : PureBlock
  pub at : slice_get ps n ≡ Some block
  pub is : IsBlockOf (scope_of globals block) block b

pub block_from : (globals : Names) (ps : List PureBlock) (bs : List Block) (n : ℕ) (b : Block) → AreBlocksOf globals ps bs
    → slice_get bs n ≡ Some b → IsFrom globals ps n b
block_from globals [] [] n b are held = absurd cc
block_from globals [] (c ∷ bs) n b are held = absurd are
block_from globals (q ∷ ps) [] n b are held = absurd are
block_from globals (q ∷ ps) (c ∷ bs) zero b are held = record { block = q; at = refl; is = subst (IsBlockOf (scope_of globals q) q) (ap made held) are.0 }
  where
    made : Option Block → Block
    made None = c
    made (Some x) = x
block_from globals (q ∷ ps) (c ∷ bs) (suc n) b are held =
    let rest = block_from globals ps bs n b are.1 held in record { block = rest.block; at = rest.at; is = rest.is }

-- the state of an instance fits its block, and one that fits is that of an instance
module _ (scope : Scope) (p : PureBlock) (b : Block) (is : IsBlockOf scope p b) (f : FrameSeen) (q : PortsSeen)
    (formats : f.formats ≡ b.cells.formats.items) (rates : f.rates ≡ b.rates.items) (spans : q.spans ≡ b.ports.spans.items)
    (events : length q.state.notified ≡ b.events) where
  cells_are : cell_shapes scope.own ≡ map shape_written f.formats
  cells_are = sym (ap (map shape_written) formats ∙ is.shapes)

  limits_are : rate_limits scope.own ≡ map limits_of_rate f.rates
  limits_are = limits_same scope.own.things ∙ ap (map limits_of_rate) (sym (rates ∙ is.rates))

  places_are : map place_of_span q.spans ≡ port_places scope.own
  places_are = ap (map place_of_span) spans ∙ is.spans

  pub instance_fits : IsFrameFit f → ArePortsFit q → StateFits scope.own (state_of f.state q.state)
  instance_fits frame ports = record {
    frame = record {
      cells = subst (λ l. NumbersFit l f.state.cells) (sym cells_are) frame.cells;
      rates = subst (λ l. RatesFit l f.state.rates) (sym limits_are) frame.rates;
    };
    ports = record {
      samples = subst (λ l. NumbersFit l q.state.samples) (spans_shapes scope.own q.spans places_are) ports.samples;
      assigned = ports.assigned ∙ spans_count scope.own q.spans places_are;
      notified = events ∙ is.events;
      steps = ports.steps ∙ ap (λ k. 1 + k) (spans_count scope.own q.spans places_are);
    };
  }

  pub fits_frame : (s : State) → IsFrameFit f → StateFits scope.own s → IsFrameFit (record f { state = s.frame })
  fits_frame s frame fits = record {
    few = frame.few;
    cells = subst (λ l. NumbersFit l s.frame.cells) cells_are fits.frame.cells;
    rates = subst (λ l. RatesFit l s.frame.rates) limits_are fits.frame.rates;
  }

  pub fits_ports : (s : State) → ArePortsFit q → StateFits scope.own s → ArePortsFit (record q { state = s.ports })
  fits_ports s ports fits = record {
    placed = ports.placed;
    samples = subst (λ l. NumbersFit l s.ports.samples) (sym (spans_shapes scope.own q.spans places_are)) fits.ports.samples;
    assigned = fits.ports.assigned ∙ sym (spans_count scope.own q.spans places_are);
    steps = fits.ports.steps ∙ ap (λ k. 1 + k) (sym (spans_count scope.own q.spans places_are));
  }

module _ (checked : Checked) (n : ℕ) (b : Block) (f : FrameSeen) (q : PortsSeen) (made : AreMadeFor checked n f q)
    (held : slice_get checked.blocks.items n ≡ Some b) (frame : IsFrameFit f) (ports : ArePortsFit q) where
  abbrev model : PureTree
  model = made.made.model

  found : IsFrom (globals_of model.globals) (blocks_of model.globals) n b
  found = block_from (globals_of model.globals) (blocks_of model.globals) checked.blocks.items n b made.made.are held

  abbrev pub state : State
  state = state_of f.state q.state

  formats : f.formats ≡ b.cells.formats.items
  formats = made.formats ∙ ap formats_in held

  rates : f.rates ≡ b.rates.items
  rates = made.rates ∙ ap block_rates held

  spans : q.spans ≡ b.ports.spans.items
  spans = made.ports_are ∙ ap spans_in held

  events : length q.state.notified ≡ b.events
  events = made.events ∙ ap events_in held

  fits : StateFits (scope_in model found.block).own state
  fits = instance_fits (scope_in model found.block) found.block b found.is f q formats rates spans events frame ports

  pub made_safe : (part : Body) → IsSafePart (act_of b.acts part) state
  made_safe part = part_safe (scope_in model found.block) (body_of found.block part) (act_of b.acts part) state (found.is.bodies part) fits

  kept : (part : Body) → StateFits (scope_in model found.block).own (part_done (act_of b.acts part) state)
  kept part =
      let scope = scope_in model found.block in
      let none = found.is.faultless part in
      subst (StateFits scope.own) (sym (part_same scope (body_of found.block part) (act_of b.acts part) state (found.is.bodies part) fits))
      (keeps scope [] none.body (body_of found.block part) [] state found.is.sound none.none fits (no_loops scope.own))

  pub made_frame : (part : Body) → IsFrameFit (record f { state = (part_done (act_of b.acts part) state).frame })
  made_frame part = fits_frame (scope_in model found.block) found.block b found.is f q formats rates spans events (part_done (act_of b.acts part) state) frame (kept part)

  pub made_ports : (part : Body) → ArePortsFit (record q { state = (part_done (act_of b.acts part) state).ports })
  made_ports part = fits_ports (scope_in model found.block) found.block b found.is f q formats rates spans events (part_done (act_of b.acts part) state) ports (kept part)

  pub made_ran : (part : Body) → Ran checked n part state (part_done (act_of b.acts part) state)
  made_ran part = record {
    after = λ other block are at.
        let is = block_found (globals_of other.globals) (blocks_of other.globals) checked.blocks.items n block b are at held in
        part_same (scope_in other block) (body_of block part) (act_of b.acts part) state (is.bodies part)
        (instance_fits (scope_in other block) block b is f q formats rates spans events frame ports);
  }

  pub made_left : (part : Body) → KeepsRead q (record q { state = (part_done (act_of b.acts part) state).ports })
  made_left part =
      let scope = scope_in model found.block in
      let none = found.is.faultless part in
      let same = part_same scope (body_of found.block part) (act_of b.acts part) state (found.is.bodies part) fits in
      let places : map place_of_span q.spans ≡ port_places scope.own = ap (map place_of_span) spans ∙ found.is.spans in
      ports_left scope.own state (part_done (act_of b.acts part) state) q.spans places
      (subst (λ (x : State). KeepsInputs scope.own state x) (sym same)
      (stmts_left scope [] none.body (body_of found.block part) [] state found.is.sound none.none fits (no_loops scope.own)))

  pub made_still : (part : Body) → AreMadeFor checked n (record f { state = (part_done (act_of b.acts part) state).frame })
      (record q { state = (part_done (act_of b.acts part) state).ports })
  made_still part = record {
    made = made.made;
    block = made.block;
    formats = made.formats;
    rates = made.rates;
    ports_are = made.ports_are;
    events = (kept part).ports.notified ∙ sym found.is.events ∙ sym (ap events_in held);
  }

-- the values that an instance starts with
pub block_starts : (checked : Checked) (n : ℕ) (b : Block) → IsChecked checked → slice_get checked.blocks.items n ≡ Some b → (f : FrameSeen)
    → f.formats ≡ b.cells.formats.items → f.rates ≡ b.rates.items → f.state.cells ≡ b.cells.starts.items → f.state.rates ≡ map (λ r. r.start) b.rates.items
    → IsFrameFit f
block_starts checked n b made held f formats rates cells starts =
    let names = globals_of made.model.globals in
    let from = block_from names (blocks_of made.model.globals) checked.blocks.items n b made.are held in
    let scope = scope_of names from.block in
    record {
      few = subst (λ (l : List Format). length l ≤ 2 ^ 31) (sym formats) b.cells.few;
      cells = subst (λ l. NumbersFit (map shape_written f.formats) l) (sym (cells ∙ from.is.starts))
          (subst (λ l. NumbersFit l (cell_starts scope.own)) (sym (ap (map shape_written) formats ∙ from.is.shapes)) (cells_start scope from.is.sound));
      rates = subst (λ l. RatesFit (map limits_of_rate f.rates) l) (sym (starts ∙ ap (map (λ r. r.start)) (sym rates)))
          (rates_start f.rates (λ k r e. rates_in_order scope.own scope.own.things from.is.sound.own k r (ap (λ (l : List RateSpan). slice_get l k) (sym (rates ∙ from.is.rates)) ∙ e)));
    }

pub block_ports : (checked : Checked) (n : ℕ) (b : Block) → IsChecked checked → slice_get checked.blocks.items n ≡ Some b → (q : PortsSeen)
    → q.spans ≡ b.ports.spans.items → q.state.samples ≡ replicate b.ports.samples (pos 0) → q.state.assigned ≡ replicate (length q.spans) false
    → q.state.steps ≡ replicate (length q.spans + 1) None → ArePortsFit q
block_ports checked n b made held q spans samples assigned steps =
    let names = globals_of made.model.globals in
    let from = block_from names (blocks_of made.model.globals) checked.blocks.items n b made.are held in
    let scope = scope_of names from.block in
    let places : map place_of_span q.spans ≡ port_places scope.own = ap (map place_of_span) spans ∙ from.is.spans in
    let count : b.ports.samples ≡ length (sample_formats q.spans) = from.is.samples ∙ ap (λ (l : List (Option Shape)). length l) (sym (spans_shapes scope.own q.spans places)) in
    record {
      placed = spans_row scope.own q.spans places;
      samples = subst (λ l. NumbersFit (sample_formats q.spans) l) (sym (samples ∙ ap (λ k. replicate k (pos 0)) count))
          (numbers_fit (sample_formats q.spans) (replicate (length (sample_formats q.spans)) (pos 0)) (zeros_fit (sample_formats q.spans)));
      assigned = ap (λ (l : List Bool). length l) assigned ∙ length-replicate (length q.spans) false;
      steps = ap (λ (l : List (Option ℕ)). length l) steps ∙ length-replicate (length q.spans + 1) None ∙ omega arith;
    }
