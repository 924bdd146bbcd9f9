-- The values that rate variables start with lie within their limits.
use Rattle.std.proofs.Common.{ℕ, zero, suc, List, [], ◌∷◌, map, sym, subst}
use Rattle.std.specs.Prelude.{slice_get}
use Rattle.tdf_expr.specs.Blocks.{PureBlock, blocks_of, scope_of}
use Rattle.tdf_expr.specs.Compiled.{AreBlocksOf, IsBlockOf}
use Rattle.tdf_expr.specs.Frames.{limits_of_rate}
use Rattle.tdf_expr.specs.Made.{block_rates}
use Rattle.tdf_expr.specs.Plans.{rate_spans}
use Rattle.tdf_expr.specs.declared.blocks.Block.{Block}
use Rattle.tdf_expr.specs.declared.spans.RateSpan.{RateSpan}
use Rattle.tdf_expr.proofs.Api.{rates_in_order, rates_start}
use Rattle.tdf_bind_invariants.specs.Limits.{StartsAreAllowed}
use Rattle.tdf_expr_semantics.specs.Fits.{RatesFit}
use Rattle.tdf_expr_symbols.specs.Names.{Names, globals_of}

-- the first values of some rate variables are within their limits
IsAllowed : List RateSpan → Type 0
IsAllowed spans = RatesFit (map limits_of_rate spans) (map (λ (r : RateSpan). r.start) spans)

none_allowed : IsAllowed []
unfolding IsAllowed
none_allowed = rates_start [] (λ n r at. absurd cc)

block_allowed : (globals : Names) (p : PureBlock) (b : Block) → IsBlockOf (scope_of globals p) p b → IsAllowed b.rates.items
unfolding IsAllowed
block_allowed globals p b is = subst (λ (l : List RateSpan). RatesFit (map limits_of_rate l) (map (λ (r : RateSpan). r.start) l)) (sym is.rates)
    (rates_start (rate_spans (scope_of globals p).own) (rates_in_order (scope_of globals p).own (scope_of globals p).own.things is.sound.own))

all_allowed : (globals : Names) (ps : List PureBlock) (bs : List Block) → AreBlocksOf globals ps bs → (n : ℕ) → IsAllowed (block_rates (slice_get bs n))
all_allowed globals [] [] are n = none_allowed
all_allowed globals [] (b ∷ bs) are n = absurd are
all_allowed globals (p ∷ ps) [] are n = absurd are
all_allowed globals (p ∷ ps) (b ∷ bs) are zero = block_allowed globals p b are.0
all_allowed globals (p ∷ ps) (b ∷ bs) are (suc n) = all_allowed globals ps bs are.1 n

pub starts_are_allowed : StartsAreAllowed
unfolding IsAllowed
starts_are_allowed checked is number = all_allowed (globals_of is.model.globals) (blocks_of is.model.globals) checked.blocks.items is.are number
