-- An index without a fault lies below the size in force: in the state of a body, where each rate
-- variable has its value, and not only below the greatest size that a declaration allows.
-- Source: own.
use Rattle.std.specs.Prelude.{◌≡◌, ◌<◌, ℕ, List, [], Some, slice_get, slice_index, pos}
use Rattle.tdf_expr_semantics.specs.Bodies.{limit_value}
use Rattle.tdf_expr_semantics.specs.Fits.{LoopsFit, StateFits}
use Rattle.tdf_expr_semantics.specs.Value.{index_value}
use Rattle.tdf_expr_state.specs.State.{State}
use Rattle.tdf_expr_symbols.specs.Index.{index_faults, size_of}
use Rattle.tdf_expr_symbols.specs.Names.{Names, Thing}
use Rattle.tdf_expr_symbols.specs.Scope.{OpenLoop, Scope}
use Rattle.tdf_expr_symbols.specs.Sound.{IsSound}
use Rattle.tdf_lang_tree.specs.declared.expr.Index.{Index}
use Rattle.tdf_lang_tree.specs.declared.stmt.Limit.{Limit}

-- each loop variable that is open is below the limit of its loop in this state
pub record LoopsRun (own : Names) (s : State) (loops : List OpenLoop) (turns : List ℕ)
    : Type 0 where
  pub fit : LoopsFit own loops turns
  pub below : (d : ℕ) (l : OpenLoop) → slice_get loops d ≡ Some l
      → slice_index turns d < limit_value own s l.end

-- an index is a whole number below the size in force
pub record IsIndexInForce (own : Names) (s : State) (loops : List OpenLoop) (turns : List ℕ)
    (i : Index) (size : Limit) : Type 0 where
  pub place : ℕ
  pub is : index_value loops turns i ≡ pos place
  pub below : place < limit_value own s size

abbrev pub LiesBelowRate : Type 0
LiesBelowRate = (scope : Scope) (loops : List OpenLoop) (line : ℕ) (t : Thing) (size : Limit)
    (i : Index) (turns : List ℕ) (s : State) → IsSound scope → size_of (Some t) ≡ Some size
    → index_faults scope loops line (Some t) i ≡ [] → StateFits scope.own s
    → LoopsRun scope.own s loops turns → IsIndexInForce scope.own s loops turns i size
