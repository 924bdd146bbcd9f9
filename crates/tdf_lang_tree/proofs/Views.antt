-- What statements and lists of them stand for, an equation a form: `pure_stmt` is a fold and doesn't unfold.
use Rattle.std.proofs.Common.{◌≡◌, ◌∙◌, ℕ, List, [], ◌∷◌, ◌++◌, Option, Vec, refl, sym, ap}
use Rattle.std.specs.Prelude.{map}
use Rattle.std.specs.declared.alloc.Global.{Global}
use Rattle.tdf_lang_tree.specs.Pure.{PureStmt, SAssign, SIf, SFor, SNotify, SSetRate, SSetStep, SAccept, SReject}
use Rattle.tdf_lang_tree.specs.Views.{pure_expr, pure_stmt, pure_stmts, stmt_step}
use Rattle.tdf_lang_tree.specs.declared.expr.Expr.{Expr}
use Rattle.tdf_lang_tree.specs.declared.expr.Index.{Index}
use Rattle.tdf_lang_tree.specs.declared.stmt.Limit.{Limit}
use Rattle.tdf_lang_tree.specs.declared.stmt.Stmt.{Stmt}
use Rattle.tdf_lang_tree.specs.declared.stmt.Stmt.TheFolds.{fold-roll-Stmt}
use Rattle.tdf_lang_tree.specs.declared.stmt.Stmt.TheOpen.{Assign, If, For, Notify, SetRate, SetStep, Accept, Reject}
use Rattle.tdf_lang_tree.specs.declared.stmt.Stmt.TheViews as view
use Rattle.tdf_lang_tree.specs.declared.stmt.Stmt.TheViews.{rolls-If, rolls-For, rolls-Assign, rolls-Notify, rolls-SetRate, rolls-SetStep, rolls-Accept, rolls-Reject}
use Rattle.tdf_lang_tree.specs.declared.stmt.Stmt.TheVariants as variant

pub pure_if : (line : ℕ) (test : Expr) (first second : Vec Stmt Global)
    → pure_stmt (view.If line test first second) ≡ SIf line (pure_expr test) (pure_stmts first.items) (pure_stmts second.items)
unfolding pure_stmt
pure_if line test first second = ap pure_stmt (sym (rolls-If line test first second)) ∙ fold-roll-Stmt PureStmt stmt_step (If line test first second)

pub pure_for : (line : ℕ) (name : List ℕ) (from : ℕ) (limit : Limit) (body : Vec Stmt Global)
    → pure_stmt (view.For line name from limit body) ≡ SFor line name from limit (pure_stmts body.items)
unfolding pure_stmt
pure_for line name from limit body = ap pure_stmt (sym (rolls-For line name from limit body)) ∙ fold-roll-Stmt PureStmt stmt_step (For line name from limit body)

pub pure_assign : (line : ℕ) (name : List ℕ) (index : Option Index) (value : Expr) → pure_stmt (variant.Assign line name index value) ≡ SAssign line name index (pure_expr value)
unfolding pure_stmt
pure_assign line name index value = ap pure_stmt (sym (rolls-Assign line name index value)) ∙ fold-roll-Stmt PureStmt stmt_step (Assign line name index value)

pub pure_notify : (line : ℕ) (event : List ℕ) (after : ℕ) → pure_stmt (variant.Notify line event after) ≡ SNotify line event after
unfolding pure_stmt
pure_notify line event after = ap pure_stmt (sym (rolls-Notify line event after)) ∙ fold-roll-Stmt PureStmt stmt_step (Notify line event after)

pub pure_set_rate : (line : ℕ) (name : List ℕ) (value : Expr) → pure_stmt (variant.SetRate line name value) ≡ SSetRate line name (pure_expr value)
unfolding pure_stmt
pure_set_rate line name value = ap pure_stmt (sym (rolls-SetRate line name value)) ∙ fold-roll-Stmt PureStmt stmt_step (SetRate line name value)

pub pure_set_step : (line : ℕ) (port : Option (List ℕ)) (step : ℕ) → pure_stmt (variant.SetStep line port step) ≡ SSetStep line port step
unfolding pure_stmt
pure_set_step line port step = ap pure_stmt (sym (rolls-SetStep line port step)) ∙ fold-roll-Stmt PureStmt stmt_step (SetStep line port step)

pub pure_accept : (line : ℕ) → pure_stmt (variant.Accept line) ≡ SAccept line
unfolding pure_stmt
pure_accept line = ap pure_stmt (sym (rolls-Accept line)) ∙ fold-roll-Stmt PureStmt stmt_step (Accept line)

pub pure_reject : (line : ℕ) → pure_stmt (variant.Reject line) ≡ SReject line
unfolding pure_stmt
pure_reject line = ap pure_stmt (sym (rolls-Reject line)) ∙ fold-roll-Stmt PureStmt stmt_step (Reject line)

pub pure_stmts_push : (list : List Stmt) (s : Stmt) → map pure_stmt (list ++ s ∷ []) ≡ map pure_stmt list ++ pure_stmt s ∷ []
pure_stmts_push [] s = refl
pure_stmts_push (x ∷ list) s = ap (λ rest. pure_stmt x ∷ rest) (pure_stmts_push list s)

pub ruleset pure_views = (pure_if, pure_for, pure_assign, pure_notify, pure_set_rate, pure_set_step, pure_accept, pure_reject, pure_stmts_push)
