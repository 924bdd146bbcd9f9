-- What compiled statements promise (own): in each state that fits their block, with the loop
-- variables within their loops, they are safe and leave the state that the language says.
use Rattle.std.specs.Prelude.{◌≡◌, ℕ, List, []}
use Rattle.tdf_expr_machine.specs.Acts.{acted, IsSafeAct}
use Rattle.tdf_expr_machine.specs.declared.acts.Act.{Act}
use Rattle.tdf_expr_semantics.specs.Bodies.{after, after_all}
use Rattle.tdf_expr_semantics.specs.Fits.{StateFits, LoopsFit}
use Rattle.tdf_expr_symbols.specs.Faults.{stmts_faults}
use Rattle.tdf_expr_symbols.specs.Scope.{Scope, OpenLoop}
use Rattle.tdf_expr_symbols.specs.declared.kinds.Part.{Part}
use Rattle.tdf_expr_state.specs.State.{State}
use Rattle.tdf_lang_tree.specs.Pure.{PureStmt, PureStmts}

-- in this state the code is safe, and leaves the state `done`
pub record Performed (act : Act) (turns : List ℕ) (s done : State) : Type 0 where
  pub safe : IsSafeAct act turns s
  pub same : acted act turns s ≡ done

pub record Performs (scope : Scope) (loops : List OpenLoop) (stmt : PureStmt) (act : Act)
    : Type 0 where
  pub at : (turns : List ℕ) (s : State) → StateFits scope.own s → LoopsFit scope.own loops turns
      → Performed act turns s (after scope loops turns stmt s)

pub record PerformsAll (scope : Scope) (loops : List OpenLoop) (ss : PureStmts) (act : Act)
    : Type 0 where
  pub at : (turns : List ℕ) (s : State) → StateFits scope.own s → LoopsFit scope.own loops turns
      → Performed act turns s (after_all scope loops turns ss s)

-- statements of some body that have no fault there
pub record AreFaultless (scope : Scope) (ss : PureStmts) : Type 0 where
  pub body : Part
  pub none : stmts_faults scope body [] ss ≡ []
