-- A block, compiled (own): what its values look like, and for each of its bodies code that is safe
-- and does what the language says.
use Rattle.std.specs.Prelude.{◌≡◌, ℕ, List, [], ◌∷◌, length, map, Option, Some, None, slice_get}
use Rattle.tdf_expr_compiler.specs.Promises.{PerformsAll, AreFaultless}
use Rattle.tdf_expr.specs.Blocks.{PureBlock, scope_of, body_of}
use Rattle.tdf_expr.specs.Plans.{shape_written, cell_starts, rate_spans, place_of_span, port_places}
use Rattle.tdf_expr.specs.declared.bodies.Body.{Body}
use Rattle.tdf_expr.specs.declared.bodies.Body.TheVariants as body
use Rattle.tdf_expr.specs.declared.blocks.Acts.{Acts}
use Rattle.tdf_expr.specs.declared.blocks.Acts.TheVariants as acts
use Rattle.tdf_expr.specs.declared.blocks.Block.{Block}
use Rattle.tdf_expr_machine.specs.declared.acts.Act.{Act}
use Rattle.tdf_expr_semantics.specs.Places.{cell_shapes, sample_shapes, events_of, total}
use Rattle.tdf_expr_symbols.specs.Names.{Names}
use Rattle.tdf_expr_symbols.specs.Scope.{Scope}
use Rattle.tdf_expr_symbols.specs.Sound.{IsSound}
use Rattle.tdf_lang_tree.specs.Pure.{PureStmts, Done, PureProcess}

-- the code of a body; none where the block has no such body
abbrev pub act_of : Acts → Body → Option Act
act_of (acts.Module a b c d) body.Initialize = Some a
act_of (acts.Module a b c d) body.Processing = Some b
act_of (acts.Module a b c d) body.Change = Some c
act_of (acts.Module a b c d) body.Reinitialize = Some d
act_of (acts.Module a b c d) (body.Process n) = None
act_of (acts.Processes list) (body.Process n) = slice_get list.items n
act_of (acts.Processes list) _ = None

abbrev pub IsActOf : Scope → PureStmts → Option Act → Type 0
IsActOf scope ss None = ss ≡ Done
IsActOf scope ss (Some act) = PerformsAll scope [] ss act

-- one act for each process
pub record AreProcesses (scope : Scope) (processes : List PureProcess) (list : List Act)
    : Type 0 where
  pub long : length list ≡ length processes
  pub each : (n : ℕ) (p : PureProcess) (a : Act) → slice_get processes n ≡ Some p
      → slice_get list n ≡ Some a → PerformsAll scope [] p.body.list a

pub record IsBlockOf (scope : Scope) (block : PureBlock) (b : Block) : Type 0 where
  pub sound : IsSound scope
  pub shapes : map shape_written b.cells.formats.items ≡ cell_shapes scope.own
  pub starts : b.cells.starts.items ≡ cell_starts scope.own
  pub rates : b.rates.items ≡ rate_spans scope.own
  pub spans : map place_of_span b.ports.spans.items ≡ port_places scope.own
  pub samples : b.ports.samples ≡ length (sample_shapes scope.own)
  pub events : b.events ≡ total events_of scope.own.things
  pub faultless : (part : Body) → AreFaultless scope (body_of block part)
  pub bodies : (part : Body) → IsActOf scope (body_of block part) (act_of b.acts part)

abbrev pub AreBlocksOf : Names → List PureBlock → List Block → Type 0
AreBlocksOf globals [] [] = Unit {0}
AreBlocksOf globals (p ∷ ps) (b ∷ bs) =
    IsBlockOf (scope_of globals p) p b × AreBlocksOf globals ps bs
AreBlocksOf globals _ _ = ⊥
