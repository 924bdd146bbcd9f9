-- The rate variables of the blocks of a model are those of the model, whoever compiled it.
use Rattle.std.proofs.Common.{◌≡◌, ℕ, zero, suc, List, [], ◌∷◌, map, ap, refl, sym, ◌∙◌}
use Rattle.std.specs.Prelude.{slice_get}
use Rattle.tdf_expr.specs.Blocks.{PureBlock, blocks_of}
use Rattle.tdf_expr.specs.Compiled.{AreBlocksOf}
use Rattle.tdf_expr.specs.Made.{block_rates}
use Rattle.tdf_expr.specs.declared.blocks.Block.{Block}
use Rattle.tdf_expr.specs.declared.spans.RateSpan.{RateSpan}
use Rattle.tdf_bind_invariants.specs.Limits.{SpansAreOne, StartsAreOne}
use Rattle.tdf_expr_symbols.specs.Names.{Names, globals_of}

spans_one : (globals : Names) (ps : List PureBlock) (bs cs : List Block) → AreBlocksOf globals ps bs → AreBlocksOf globals ps cs
    → (n : ℕ) → block_rates (slice_get bs n) ≡ block_rates (slice_get cs n)
spans_one globals [] [] [] one other n = refl
spans_one globals [] [] (c ∷ cs) one other n = absurd other
spans_one globals [] (b ∷ bs) cs one other n = absurd one
spans_one globals (p ∷ ps) [] cs one other n = absurd one
spans_one globals (p ∷ ps) (b ∷ bs) [] one other n = absurd other
spans_one globals (p ∷ ps) (b ∷ bs) (c ∷ cs) one other zero = one.0.rates ∙ sym other.0.rates
spans_one globals (p ∷ ps) (b ∷ bs) (c ∷ cs) one other (suc n) = spans_one globals ps bs cs one.1 other.1 n

pub spans_are_one : SpansAreOne
spans_are_one model one other checked same number =
    spans_one (globals_of model.globals) (blocks_of model.globals) one.blocks.items other.blocks.items checked same number

pub starts_are_one : StartsAreOne
starts_are_one model one other checked same number =
    ap (map (λ (r : RateSpan). r.start)) (spans_are_one model one other checked same number)
