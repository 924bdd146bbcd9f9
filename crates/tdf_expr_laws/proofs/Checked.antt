-- What is read off the checked bodies is what the tree says.
use Rattle.std.proofs.Common.{◌≡◌, ℕ, zero, suc, List, [], ◌∷◌, Option, Some, None, length, map, refl, sym, ap, subst}
use Rattle.std.specs.Prelude.{slice_get}
use Rattle.tdf_expr.specs.Blocks.{PureBlock, blocks_of, scope_of}
use Rattle.tdf_expr.specs.Compiled.{AreBlocksOf, IsBlockOf}
use Rattle.tdf_expr.specs.Made.{events_in, formats_in, block_rates, block_samples, spans_in, starts_in}
use Rattle.tdf_expr.specs.Plans.{cell_starts, place_of_span, port_places, rate_spans, shape_written}
use Rattle.tdf_expr.specs.declared.blocks.Block.{Block}
use Rattle.tdf_expr_laws.specs.Checked.{CheckedIsOfTree}
use Rattle.tdf_expr_semantics.specs.Places.{cell_shapes, events_of, sample_shapes, total}
use Rattle.tdf_expr_symbols.specs.Names.{Names, globals_of}

some_is : (x y : PureBlock) → Some x ≡ Some y → x ≡ y
some_is x y e = ap held e
  where
    held : Option PureBlock → PureBlock
    held None = x
    held (Some z) = z

-- what is read of the block at a place
pub record IsRead (own : Names) (o : Option Block) : Type 0 where
  pub formats : map shape_written (formats_in o) ≡ cell_shapes own
  pub starts : starts_in o ≡ cell_starts own
  pub rates : block_rates o ≡ rate_spans own
  pub ports : map place_of_span (spans_in o) ≡ port_places own
  pub samples : block_samples o ≡ length (sample_shapes own)
  pub events : events_in o ≡ total events_of own.things

module _ (globals : Names) where
  same_count : (ps : List PureBlock) (bs : List Block) → AreBlocksOf globals ps bs → length bs ≡ length ps
  same_count [] [] are = refl
  same_count (p ∷ ps) (b ∷ bs) are = ap suc (same_count ps bs are.1)
  same_count [] (b ∷ bs) are = absurd are
  same_count (p ∷ ps) [] are = absurd are

  reads : (ps : List PureBlock) (bs : List Block) → AreBlocksOf globals ps bs → (n : ℕ) (p : PureBlock) → slice_get ps n ≡ Some p
      → IsRead (scope_of globals p).own (slice_get bs n)
  reads [] bs are n p at = absurd cc
  reads (q ∷ ps) [] are n p at = absurd are
  reads (q ∷ ps) (b ∷ bs) are zero p at = subst (λ (x : PureBlock). IsRead (scope_of globals x).own (Some b)) (some_is q p at) (record {
    formats = are.0.shapes;
    starts = are.0.starts;
    rates = are.0.rates;
    ports = are.0.spans;
    samples = are.0.samples;
    events = are.0.events;
  })
  reads (q ∷ ps) (b ∷ bs) are (suc n) p at = reads ps bs are.1 n p at

pub checked_is_of_tree : CheckedIsOfTree
checked_is_of_tree model checked is = record {
  count = same_count (globals_of model.globals) (blocks_of model.globals) checked.blocks.items is;
  each = λ number block at.
      let r = reads (globals_of model.globals) (blocks_of model.globals) checked.blocks.items is number block at in
      record { formats = r.formats; starts = r.starts; rates = r.rates; ports = r.ports; samples = r.samples; events = r.events };
}
