-- Statements do the same whatever the numbers of their lines.
use Rattle.std.proofs.Common.{◌≡◌, ◌∙◌, ℕ, zero, suc, ◌+◌, ◌-◌, Bool, true, false, if◌then◌else◌, List, [], ◌∷◌, ◌++◌, length, refl, ap}
use Rattle.tdf_expr_semantics.specs.Bodies.{after, after_all, limit_value, repeated}
use Rattle.tdf_expr_semantics.specs.Value.{holds, value}
use Rattle.tdf_expr_state.specs.State.{State}
use Rattle.tdf_expr_symbols.specs.Faults.{opened}
use Rattle.tdf_expr_symbols.specs.Scope.{OpenLoop, Scope}
use Rattle.tdf_lang_printer.specs.Canon.{stmt_lines, stmts_lines}
use Rattle.tdf_lang_tree.specs.Pure.{PureStmt, SAssign, SIf, SFor, SNotify, SSetRate, SSetStep, SAccept, SReject, PureStmts, Done, More}
use Rattle.tdf_stim_body.specs.Laws.{LinesChangeNothing}
use Rattle.tdf_stim_lines.specs.Numbered.{stmt_at, stmts_at}

-- turns that do the same
repeated_same : (one other : ℕ → State → State) → ((i : ℕ) (s : State) → one i s ≡ other i s) → (from count : ℕ) (s : State) → repeated one from count s ≡ repeated other from count s
repeated_same one other same from zero s = refl
repeated_same one other same from (suc count) s = same (from + count) (repeated one from count s) ∙ ap (other (from + count)) (repeated_same one other same from count s)

choose_same : (b : Bool) (x y u v : State) → x ≡ u → y ≡ v → (if b then x else y) ≡ (if b then u else v)
choose_same true x y u v first second = first
choose_same false x y u v first second = second

mutual
  stmt_same : (scope : Scope) (loops : List OpenLoop) (turns : List ℕ) (at : ℕ) (x : PureStmt) (s : State) → after scope loops turns (stmt_at at x) s ≡ after scope loops turns x s
  stmt_same scope loops turns at (SAssign line name index e) s = refl
  stmt_same scope loops turns at (SIf line test a b) s = choose_same (holds (value scope loops turns s test)) _ _ _ _
      (stmts_same scope loops turns (at + 1) a s) (stmts_same scope loops turns (at + 1 + length (stmts_lines a) + 1) b s)
  stmt_same scope loops turns at (SFor line name from end body) s = repeated_same
      (λ i rest. after_all scope (loops ++ opened name from end ∷ []) (turns ++ i ∷ []) (stmts_at (at + 1) body) rest)
      (λ i rest. after_all scope (loops ++ opened name from end ∷ []) (turns ++ i ∷ []) body rest)
      (λ i rest. stmts_same scope (loops ++ opened name from end ∷ []) (turns ++ i ∷ []) (at + 1) body rest) from (limit_value scope.own s end - from) s
  stmt_same scope loops turns at (SNotify line event time) s = refl
  stmt_same scope loops turns at (SSetRate line name e) s = refl
  stmt_same scope loops turns at (SSetStep line port step) s = refl
  stmt_same scope loops turns at (SAccept line) s = refl
  stmt_same scope loops turns at (SReject line) s = refl

  stmts_same : (scope : Scope) (loops : List OpenLoop) (turns : List ℕ) (at : ℕ) (xs : PureStmts) (s : State) → after_all scope loops turns (stmts_at at xs) s ≡ after_all scope loops turns xs s
  stmts_same scope loops turns at Done s = refl
  stmts_same scope loops turns at (More x xs) s =
      stmts_same scope loops turns (at + length (stmt_lines x)) xs (after scope loops turns (stmt_at at x) s)
      ∙ ap (after_all scope loops turns xs) (stmt_same scope loops turns at x s)

pub lines_change_nothing : LinesChangeNothing
lines_change_nothing = stmts_same
