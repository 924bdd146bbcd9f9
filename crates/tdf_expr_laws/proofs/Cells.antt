-- Bodies leave values of the formats of their variables, whatever their ports hold.
use Rattle.std.proofs.Common.{◌≡◌, ◌∙◌, ℕ, zero, suc, ◌+◌, ◌-◌, List, [], ◌∷◌, Some, None, map, slice_get, refl, sym, ap, subst}
use Rattle.tdf_expr.proofs.Api.{cells_start}
use Rattle.tdf_expr.specs.Blocks.{PureBlock, blocks_of, body_of, scope_of}
use Rattle.tdf_expr.specs.Compiled.{AreBlocksOf}
use Rattle.tdf_expr.specs.Made.{formats_in, starts_in}
use Rattle.tdf_expr.specs.Plans.{shape_written}
use Rattle.tdf_expr.specs.declared.blocks.Block.{Block}
use Rattle.tdf_expr_laws.proofs.Kept.{ElementsKeep, body_keeps, kept_at}
use Rattle.tdf_expr_laws.specs.Cells.{BodiesKeepCells, StartsFit}
use Rattle.tdf_expr_semantics.proofs.Api.{numbers_set, placed}
use Rattle.tdf_expr_semantics.specs.Bodies.{after_body}
use Rattle.tdf_expr_semantics.specs.Fits.{NumbersFit}
use Rattle.tdf_expr_semantics.specs.Places.{cell_shapes, cells_of, first_cell}
use Rattle.tdf_expr_semantics.specs.Value.{cast_number}
use Rattle.tdf_expr_symbols.specs.Names.{Array, Names, Port, Var, globals_of, shape_of}
use Rattle.tdf_fixed.proofs.Api.{in_range}

-- ---- what bodies keep

-- a value of a variable or of an element is cast to its format
element_fits : (own : Names) → ElementsKeep own (λ cells samples. NumbersFit (cell_shapes own) cells)
element_fits own s n k (Var None a) v fits is legal below = absurd legal.0
element_fits own s n k (Var (Some shape) a) v fits is legal below =
    numbers_set (cell_shapes own) s.frame.cells (first_cell own n + k) (cast_number shape v) shape fits (placed cells_of shape_of own.things n k (Var (Some shape) a) is below)
    (in_range shape.over shape.signed shape.wl _ legal.0.some_bits)
element_fits own s n k (Array None size a) v fits is legal below = absurd legal.0
element_fits own s n k (Array (Some shape) size a) v fits is legal below =
    numbers_set (cell_shapes own) s.frame.cells (first_cell own n + k) (cast_number shape v) shape fits (placed cells_of shape_of own.things n k (Array (Some shape) size a) is below)
    (in_range shape.over shape.signed shape.wl _ legal.0.some_bits)
element_fits own s n k (Port word None rate delay) v fits is legal below = fits
element_fits own s n k (Port word (Some shape) rate delay) v fits is legal below = fits
element_fits own s n k _ v fits is legal below = fits

pub bodies_keep_cells : BodiesKeepCells
bodies_keep_cells model checked number p part s is at most fits =
    let k = kept_at (globals_of model.globals) (blocks_of model.globals) checked.blocks.items number p is at in
    let own = (scope_of (globals_of model.globals) p).own in
    let shapes : map shape_written (formats_in (slice_get checked.blocks.items number)) ≡ cell_shapes own = ap (λ o. map shape_written (formats_in o)) k.at ∙ k.is.shapes in
    let done = body_keeps (globals_of model.globals) p (slice_get checked.blocks.items number) k (λ cells samples. NumbersFit (cell_shapes own) cells) (element_fits own) part s most
    (subst (λ l. NumbersFit l s.frame.cells) shapes fits) in
    subst (λ l. NumbersFit l (after_body (scope_of (globals_of model.globals) p) (body_of p part) s).frame.cells) (sym shapes) done

-- ---- the values that variables start with

block_starts : (globals : Names) (ps : List PureBlock) (bs : List Block) (n : ℕ) → AreBlocksOf globals ps bs → NumbersFit (map shape_written (formats_in (slice_get bs n))) (starts_in (slice_get bs n))
block_starts globals ps [] n are = record { long = refl; each = λ j s at. absurd cc }
block_starts globals [] (b ∷ bs) n are = absurd are
block_starts globals (p ∷ ps) (b ∷ bs) zero are =
    subst (λ l. NumbersFit l b.cells.starts.items) (sym are.0.shapes)
    (subst (NumbersFit (cell_shapes (scope_of globals p).own)) (sym are.0.starts) (cells_start (scope_of globals p) are.0.sound))
block_starts globals (p ∷ ps) (b ∷ bs) (suc n) are = block_starts globals ps bs n are.1

pub starts_fit : StartsFit
starts_fit model checked number is = block_starts (globals_of model.globals) (blocks_of model.globals) checked.blocks.items number is
