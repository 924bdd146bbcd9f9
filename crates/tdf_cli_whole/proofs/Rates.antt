-- The rates of modules are small.
use Rattle.std.proofs.Common.{◌≡◌, ℕ, zero, suc, ◌≤◌, List, [], ◌∷◌, Option, Some, None, option_map, length, map, slice_get, slice_index, refl, sym, ◌∙◌, subst, arith}
use Rattle.std.proofs.lemmas.Option.{slice_get-map}
use Rattle.std.specs.List.{AllByRecursion, flat_map}
use Rattle.tdf_base.specs.Limits.{greatest_rate}
use Rattle.tdf_bind_connections.specs.declared.modules.ModuleRow.{ModuleRow}
use Rattle.tdf_bind_invariants.specs.Limits.{limits_in}
use Rattle.tdf_expr.specs.Blocks.{PureBlock, blocks_of, scope_of}
use Rattle.tdf_expr.specs.Checked.{IsChecked}
use Rattle.tdf_expr.specs.Compiled.{AreBlocksOf, IsBlockOf}
use Rattle.tdf_expr.specs.Frames.{limits_of_rate}
use Rattle.tdf_expr.specs.Made.{block_rates, rate_spans_of}
use Rattle.tdf_expr.specs.Plans.{rate_span}
use Rattle.tdf_expr.specs.declared.blocks.Block.{Block}
use Rattle.tdf_expr.specs.declared.checked.Checked.{Checked}
use Rattle.tdf_expr.specs.declared.spans.RateSpan.{RateSpan}
use Rattle.tdf_expr_semantics.specs.Fits.{RatesFit}
use Rattle.tdf_expr_semantics.specs.Places.{RateLimits}
use Rattle.tdf_expr_symbols.specs.Names.{Names, RateVar, Thing, globals_of}
use Rattle.tdf_expr_symbols.specs.Sound.{IsThingSound}
use Rattle.tdf_save.specs.Members.{IsCount32}
use Rattle.tdf_streams.proofs.Api.{none_some, some_same}

-- ---- rate variables of checked blocks

-- none may be greater than the greatest rate
AreFew : List RateSpan → Type 0
AreFew spans = (n : ℕ) (r : RateSpan) → slice_get spans n ≡ Some r → r.greatest ≤ greatest_rate

things_few : (own : Names) (things : List Thing) → ((n : ℕ) (t : Thing) → slice_get things n ≡ Some t → IsThingSound own t) → AreFew (flat_map rate_span things)
unfolding AreFew
things_few own [] sound n r at = none_some r at
things_few own (RateVar least greatest start ∷ things) sound zero r at =
    subst (λ (x : RateSpan). x.greatest ≤ greatest_rate) (some_same (record { least = least; greatest = greatest; start = start }) r at) (sound 0 (RateVar least greatest start) refl).3
things_few own (RateVar least greatest start ∷ things) sound (suc n) r at = things_few own things (λ k t e. sound (suc k) t e) n r at
things_few own (_ ∷ things) sound n r at = things_few own things (λ k t e. sound (suc k) t e) n r at

block_few : (globals : Names) (p : PureBlock) (b : Block) → IsBlockOf (scope_of globals p) p b → AreFew b.rates.items
unfolding AreFew
block_few globals p b is = subst AreFew (sym is.rates) (things_few (scope_of globals p).own (scope_of globals p).own.things is.sound.own)

blocks_few : (globals : Names) (ps : List PureBlock) (bs : List Block) → AreBlocksOf globals ps bs → (n : ℕ) → AreFew (block_rates (slice_get bs n))
unfolding AreFew
blocks_few globals [] [] are n = λ k r at. none_some r at
blocks_few globals [] (b ∷ bs) are n = absurd are
blocks_few globals (p ∷ ps) [] are n = absurd are
blocks_few globals (p ∷ ps) (b ∷ bs) are zero = block_few globals p b are.0
blocks_few globals (p ∷ ps) (b ∷ bs) are (suc n) = blocks_few globals ps bs are.1 n

spans_few : (checked : Checked) → IsChecked checked → (number : ℕ) → AreFew (rate_spans_of checked number)
spans_few checked is number = blocks_few (globals_of is.model.globals) (blocks_of is.model.globals) checked.blocks.items is.are number

-- ---- limits

AreLow : List RateLimits → Type 0
AreLow limits = (n : ℕ) (l : RateLimits) → slice_get limits n ≡ Some l → l.greatest ≤ greatest_rate

limits_low : (spans : List RateSpan) → AreFew spans → AreLow (map limits_of_rate spans)
unfolding AreFew AreLow
limits_low spans few n l at = go (slice_get spans n) refl (sym (slice_get-map limits_of_rate spans n) ∙ at)
  where
    go : (o : Option RateSpan) → slice_get spans n ≡ o → option_map limits_of_rate o ≡ Some l → l.greatest ≤ greatest_rate
    go None there is = none_some l is
    go (Some r) there is = subst (λ (x : RateLimits). x.greatest ≤ greatest_rate) (some_same (limits_of_rate r) l is) (few n r there)

module_low : (checked : Checked) → IsChecked checked → (o : Option ModuleRow) → AreLow (limits_in checked o)
unfolding AreLow
module_low checked is None n l at = none_some l at
module_low checked is (Some row) n l at = limits_low (rate_spans_of checked row.block) (spans_few checked is row.block) n l at

-- ---- rates within them

all_small : (limits : List RateLimits) (rates : List ℕ) → length rates ≡ length limits
    → ((j : ℕ) (l : RateLimits) → slice_get limits j ≡ Some l → (l.least ≤ slice_index rates j) × (slice_index rates j ≤ l.greatest)) → AreLow limits → AllByRecursion IsCount32 rates
unfolding AreLow
all_small limits [] long each low = tt
all_small [] (x ∷ xs) long each low = absurd (omega (arith, long))
all_small (l ∷ ls) (x ∷ xs) long each low = (
  let a = (each 0 l refl).1 in let b = low 0 l refl in omega (arith, a, b),
  all_small ls xs (omega (arith, long)) (λ j k at. each (suc j) k at) (λ j k at. low (suc j) k at),
)

pub rates_small : (checked : Checked) → IsChecked checked → (o : Option ModuleRow) (rates : List ℕ) → RatesFit (limits_in checked o) rates → AllByRecursion IsCount32 rates
rates_small checked is o rates fit = all_small (limits_in checked o) rates fit.long fit.each (module_low checked is o)
