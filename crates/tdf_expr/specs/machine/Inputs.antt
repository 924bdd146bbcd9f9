-- What statements leave as it was (own): the samples of the ports that bodies read.
use Rattle.std.specs.Prelude.{◌≡◌, ℕ, ◌+◌, ◌<◌, false, List, [], Option, Some, slice_get}
use Rattle.tdf_expr.specs.Frames.{is_written}
use Rattle.tdf_expr_semantics.specs.Bodies.{after_all}
use Rattle.tdf_expr_semantics.specs.Fits.{StateFits, LoopsFit}
use Rattle.tdf_expr_semantics.specs.Places.{first_sample}
use Rattle.tdf_expr_symbols.specs.Faults.{stmts_faults}
use Rattle.tdf_expr_symbols.specs.Names.{Names, Port}
use Rattle.tdf_expr_symbols.specs.Scope.{Scope, OpenLoop, greatest_of}
use Rattle.tdf_expr_symbols.specs.Sound.{IsSound}
use Rattle.tdf_expr_symbols.specs.declared.kinds.Part.{Part}
use Rattle.tdf_expr_state.specs.State.{State, cell_at}
use Rattle.tdf_lang_tree.specs.Pure.{PureStmts}
use Rattle.tdf_lang_tree.specs.declared.blocks.PortKind.{PortKind}
use Rattle.tdf_lang_tree.specs.declared.shapes.Shape.{Shape}
use Rattle.tdf_lang_tree.specs.declared.stmt.Limit.{Limit}

-- sample k of the n-th name, a port that bodies read, is the same in both states
pub record KeepsInputs (own : Names) (old new : State) : Type 0 where
  pub same : (n k : ℕ) (word : PortKind) (shape : Option Shape) (rate : Limit) (delay : ℕ)
      → slice_get own.things n ≡ Some (Port word shape rate delay) → is_written word ≡ false
      → k < greatest_of own rate
      → cell_at new.ports.samples (first_sample own n + k)
      ≡ cell_at old.ports.samples (first_sample own n + k)

-- statements without a fault write no sample of an `in` or `de_in` port
abbrev pub NeverWritesInputs : Type 0
NeverWritesInputs = (scope : Scope) (loops : List OpenLoop) (body : Part) (ss : PureStmts)
    (turns : List ℕ) (s : State) → IsSound scope → stmts_faults scope body loops ss ≡ []
    → StateFits scope.own s → LoopsFit scope.own loops turns
    → KeepsInputs scope.own s (after_all scope loops turns ss s)
