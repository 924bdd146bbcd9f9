-- What the modules ask for leads to attributes of their cluster, whatever their variables hold.
use Rattle.std.proofs.Common.{◌≡◌, ◌∙◌, ℕ, zero, suc, ◌+◌, ◌<◌, Bool, true, false, if◌then◌else◌, List, [], ◌∷◌, Option, Some, None, length, map, refl, sym, ap, subst, ℤ}
use Rattle.std.proofs.lemmas.List.Elements.{All-map}
use Rattle.std.proofs.lemmas.Option.{same_Some}
use Rattle.std.specs.List.{flat_map}
use Rattle.std.specs.Prelude.{replicate, slice_get, slice_index_or}
use Rattle.tdf_base.specs.Limits.{deepest_nesting}
use Rattle.tdf_dynamic.proofs.Boundary.{of_cluster}
use Rattle.tdf_dynamic.proofs.Keeping.{AreShort, stmts_stay}
use Rattle.tdf_dynamic.specs.Asked.{AskedOf, asked, asked_in, attrs_after, nothing_asked, port_count}
use Rattle.tdf_dynamic.specs.Laws.{AttributesStay}
use Rattle.tdf_dynamic_plans.specs.Attributes.{AttrsOf, IsOfCluster}
use Rattle.tdf_expr.specs.Blocks.{PureBlock, blocks_of, body_of, scope_of}
use Rattle.tdf_expr.specs.Checked.{IsCheckedOf}
use Rattle.tdf_expr.specs.Compiled.{AreBlocksOf, IsBlockOf}
use Rattle.tdf_expr.specs.Frames.{limits_of_rate}
use Rattle.tdf_expr.specs.Made.{event_count, port_spans_of, rate_spans_of, block_rates}
use Rattle.tdf_expr.specs.Plans.{rate_span}
use Rattle.tdf_expr.specs.Runs.{scope_in}
use Rattle.tdf_expr.specs.declared.blocks.Block.{Block}
use Rattle.tdf_expr.specs.declared.bodies.Body.TheVariants as body
use Rattle.tdf_expr.specs.declared.checked.Checked.{Checked}
use Rattle.tdf_exec_firing.specs.Activation.{ports_before}
use Rattle.tdf_bind.specs.declared.model.Flat.{Flat}
use Rattle.tdf_streams.proofs.Api.{get_inside}
use Rattle.tdf_streams.specs.Below.{limits_in}
use Rattle.tdf_expr_semantics.specs.Bodies.{after_body}
use Rattle.tdf_expr_semantics.specs.Fits.{RatesFit}
use Rattle.tdf_expr_semantics.specs.Places.{RateLimits, limits_of, rate_limits}
use Rattle.tdf_expr_symbols.specs.Names.{Names, Thing, RateVar, globals_of}
use Rattle.tdf_expr_state.specs.State.{State, state_of}
use Rattle.tdf_streams.specs.Bodies.{after_part, done_by, nothing_read}
use Rattle.tdf_streams.specs.Periods.{HasAllowedRates}
use Rattle.tdf_streams.specs.Places.{block_at, block_of_row, has_changes}
use Rattle.tdf_lang_tree.specs.Kept.{Each, IsKept, KeepsGlobal, KeepsStmts}
use Rattle.tdf_lang_tree.specs.Pure.{GDe, GNet, GShape, GTdf, PureGlobal, PureTree}
use Rattle.tdf_bind_connections.specs.declared.modules.ModuleRow.{ModuleRow}

-- what a module may ask for: rates within their limits, and timesteps that are short
pub record CanAsk (flat : Flat) (attrs : AttrsOf) (q : AskedOf) : Type 0 where
  pub rates : HasAllowedRates flat (record attrs { rates = q.rates })
  pub short : AreShort q.steps

-- a block of a number, and its code
coded : (globals : Names) (ps : List PureBlock) (bs : List Block) (n : ℕ) (p : PureBlock) → AreBlocksOf globals ps bs → slice_get ps n ≡ Some p
    → (b : Block) × (slice_get bs n ≡ Some b) × IsBlockOf (scope_of globals p) p b
coded globals [] bs n p are at = absurd cc
coded globals (q ∷ ps) [] n p are at = absurd are
coded globals (q ∷ ps) (b ∷ bs) zero p are at = (b, refl, subst (λ x. IsBlockOf (scope_of globals x) x b) (same_Some q p at) are.0)
coded globals (q ∷ ps) (b ∷ bs) (suc n) p are at = coded globals ps bs n p are.1 at

-- the statements of a change body are kept
pub change_kept : (list : List PureGlobal) (n : ℕ) (p : PureBlock) → Each KeepsGlobal list → slice_get (blocks_of list) n ≡ Some p → KeepsStmts deepest_nesting (body_of p body.Change)
change_kept [] n p kept at = absurd cc
change_kept (GShape t ∷ list) n p kept at = change_kept list n p kept.1 at
change_kept (GTdf block ∷ list) zero p kept at = subst (λ (o : Option PureBlock). statements o) at kept.0.change
  where
    statements : Option PureBlock → Type 0
    statements None = Unit {0}
    statements (Some b) = KeepsStmts deepest_nesting (body_of b body.Change)
change_kept (GTdf block ∷ list) (suc n) p kept at = change_kept list n p kept.1 at
change_kept (GDe block ∷ list) zero p kept at = subst (λ (o : Option PureBlock). statements o) at tt
  where
    statements : Option PureBlock → Type 0
    statements None = Unit {0}
    statements (Some b) = KeepsStmts deepest_nesting (body_of b body.Change)
change_kept (GDe block ∷ list) (suc n) p kept at = change_kept list n p kept.1 at
change_kept (GNet block ∷ list) n p kept at = change_kept list n p kept.1 at

pub limits_same : (things : List Thing) → flat_map limits_of things ≡ map limits_of_rate (flat_map rate_span things)
limits_same [] = refl
limits_same (RateVar least greatest start ∷ things) = ap (λ l. record { least = least; greatest = greatest } ∷ l) (limits_same things)
limits_same (_ ∷ things) = limits_same things

pub limits_at : (checked : Checked) (o : Option ModuleRow) (row : ModuleRow) → o ≡ Some row → limits_in checked o ≡ map limits_of_rate (rate_spans_of checked (block_of_row o))
limits_at checked None row is = absurd cc
limits_at checked (Some other) row is = refl

pub none_short : (n : ℕ) → AreShort (replicate n None)
none_short zero j step at = absurd cc
none_short (suc n) zero step at = absurd cc
none_short (suc n) (suc j) step at = none_short n j step at

module _ (model : PureTree) (flat : Flat) (kept : IsKept model) (checked : IsCheckedOf model flat.checked) where
  module _ (attrs : AttrsOf) (inside : attrs.number < length flat.tables.modules) (allowed : HasAllowedRates flat attrs) (cells : List ℤ) where
    abbrev number : ℕ
    number = block_at flat.tables.modules attrs.number

    before : State
    before = state_of (record { cells = cells; rates = attrs.rates }) (ports_before (port_spans_of flat.checked number) (event_count flat.checked number) nothing_read)

    limits_are : (p : PureBlock) → slice_get (blocks_of model.globals) number ≡ Some p → limits_in flat.checked (slice_get flat.tables.modules attrs.number) ≡ rate_limits (scope_in model p).own
    limits_are p at =
        let row = get_inside flat.tables.modules attrs.number inside in
        let b = coded (globals_of model.globals) (blocks_of model.globals) flat.checked.blocks.items number p checked at in
        limits_at flat.checked (slice_get flat.tables.modules attrs.number) row.0 row.1
        ∙ ap (map limits_of_rate) (ap block_rates b.1 ∙ b.2.rates) ∙ sym (limits_same (scope_in model p).own.things)

    -- what the change body of a block asks for
    change_can : (o : Option PureBlock) → slice_get (blocks_of model.globals) number ≡ o → CanAsk flat attrs (asked_in (after_part model o body.Change before))
    unfolding before
    change_can None at = record { rates = allowed; short = none_short (1 + length (port_spans_of flat.checked number)) }
    change_can (Some p) at =
        let scope = scope_in model p in
        let stays = stmts_stay scope deepest_nesting [] [] (body_of p body.Change) before (change_kept model.globals number p kept.globals at) (record {
          rates = subst (λ (l : List RateLimits). RatesFit l attrs.rates) (limits_are p at) allowed;
          short = none_short (1 + length (port_spans_of flat.checked number));
        }) in
        record {
          rates = subst (λ (l : List RateLimits). RatesFit l (after_body scope (body_of p body.Change) before).frame.rates) (sym (limits_are p at)) stays.rates;
          short = stays.short;
        }

    pub asked_can : CanAsk flat attrs (asked model flat attrs cells)
    unfolding asked done_by before
    asked_can = go (has_changes flat.tables.modules attrs.number)
      where
        go : (b : Bool) → CanAsk flat attrs (if b then asked_in (done_by model flat attrs.number body.Change cells attrs.rates nothing_read)
            else nothing_asked (port_count flat attrs.number) attrs cells)
        go true = change_can (slice_get (blocks_of model.globals) number) refl
        go false = record { rates = allowed; short = none_short (1 + port_count flat attrs.number) }

  module _ (cells : ℕ → List ℤ) where
    abbrev after : AttrsOf → AttrsOf
    after attrs = attrs_after attrs (asked model flat attrs (cells attrs.number))

    attributes_after : (cluster : ℕ) (attrs : AttrsOf) → IsOfCluster flat.tables cluster attrs → HasAllowedRates flat attrs → IsOfCluster flat.tables cluster (after attrs) × HasAllowedRates flat (after attrs)
    attributes_after cluster attrs of allowed =
        let can = asked_can attrs of.is_module allowed (cells attrs.number) in
        (of_cluster flat.tables cluster attrs (asked model flat attrs (cells attrs.number)) of can.short, can.rates)

pub attributes_stay : AttributesStay
attributes_stay model flat cluster table cells kept checked of = record {
  own = All-map (IsOfCluster flat.tables cluster) (after model flat kept checked cells) table (λ j d below. (both j d below).0);
  allowed = All-map (HasAllowedRates flat) (after model flat kept checked cells) table (λ j d below. (both j d below).1);
}
  where
    both : (j : ℕ) (d : AttrsOf) → j < length table → IsOfCluster flat.tables cluster (after model flat kept checked cells (slice_index_or table j d)) × HasAllowedRates flat (after model flat kept checked cells (slice_index_or table j d))
    both j d below = attributes_after model flat kept checked cells cluster (slice_index_or table j d) (of.own j d below) (of.allowed j d below)
