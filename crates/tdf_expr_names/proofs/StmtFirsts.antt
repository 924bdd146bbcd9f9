-- The first fault of statements, an equation a form.
use Rattle.std.proofs.Common.{◌≡◌, ◌++◌, ◌∙◌, ℕ, ◌+◌, ◌<◌, ◌≤◌, List, Option, Vec, length, drop, ap}
use Rattle.std.proofs.Math.ListN.{get_or}
use Rattle.std.proofs.lemmas.List.{drop_more, drop_all}
use Rattle.std.specs.declared.alloc.Global.{Global}
use Rattle.tdf_base.proofs.Api.{least_none, least_append, least_if}
use Rattle.tdf_base.specs.First.{least_with}
use Rattle.tdf_base.specs.declared.first.LineFault.{LineFault}
use Rattle.tdf_expr_names.specs.Names.{Name, with_declared, uses, uses_maybe, item_faults, limit_name_faults, expr_name_faults, declares, stmt_faults, stmts_faults}
use Rattle.tdf_lang_tree.proofs.Api.{pure_if, pure_for, pure_assign, pure_notify, pure_set_rate, pure_set_step, pure_accept, pure_reject}
use Rattle.tdf_lang_tree.specs.Views.{pure_expr, pure_stmt, pure_stmts}
use Rattle.tdf_lang_tree.specs.declared.expr.Expr.{Expr}
use Rattle.tdf_lang_tree.specs.declared.expr.Index.{Index}
use Rattle.tdf_lang_tree.specs.declared.stmt.Limit.{Limit}
use Rattle.tdf_lang_tree.specs.declared.stmt.Stmt.{Stmt}
use Rattle.tdf_lang_tree.specs.declared.stmt.Stmt.TheVariants as variant
use Rattle.tdf_lang_tree.specs.declared.stmt.Stmt.TheViews as view

abbrev First : Type 0
First = Option LineFault

pub assign_first : (globals locals : List Name) (line : ℕ) (name : Name) (index : Option Index) (value : Expr) (first : First)
    → least_with first (stmt_faults globals locals (pure_stmt (variant.Assign line name index value)))
    ≡ least_with first (uses locals line name ++ (item_faults locals line index ++ expr_name_faults globals locals line (pure_expr value)))
assign_first globals locals line name index value first = ap (λ s. least_with first (stmt_faults globals locals s)) (pure_assign line name index value)

pub if_first : (globals locals : List Name) (line : ℕ) (test : Expr) (a b : Vec Stmt Global) (first : First)
    → least_with first (stmt_faults globals locals (pure_stmt (view.If line test a b)))
    ≡ least_with (least_with (least_with first (expr_name_faults globals locals line (pure_expr test))) (stmts_faults globals locals (pure_stmts a.items))) (stmts_faults globals locals (pure_stmts b.items))
if_first globals locals line test a b first = ap (λ s. least_with first (stmt_faults globals locals s)) (pure_if line test a b)
    ∙ least_append first _ _ ∙ least_append (least_with first (expr_name_faults globals locals line (pure_expr test))) _ _

pub for_first : (globals locals : List Name) (line : ℕ) (name : Name) (from : ℕ) (limit : Limit) (body : Vec Stmt Global) (first : First)
    → least_with first (stmt_faults globals locals (pure_stmt (view.For line name from limit body)))
    ≡ least_with first (limit_name_faults locals line limit ++ (declares locals line name ++ stmts_faults globals (with_declared locals name) (pure_stmts body.items)))
for_first globals locals line name from limit body first = ap (λ s. least_with first (stmt_faults globals locals s)) (pure_for line name from limit body)

pub notify_first : (globals locals : List Name) (line : ℕ) (event : Name) (after : ℕ) (first : First)
    → least_with first (stmt_faults globals locals (pure_stmt (variant.Notify line event after))) ≡ least_with first (uses locals line event)
notify_first globals locals line event after first = ap (λ s. least_with first (stmt_faults globals locals s)) (pure_notify line event after)

pub set_rate_first : (globals locals : List Name) (line : ℕ) (name : Name) (value : Expr) (first : First)
    → least_with first (stmt_faults globals locals (pure_stmt (variant.SetRate line name value))) ≡ least_with (least_with first (uses locals line name)) (expr_name_faults globals locals line (pure_expr value))
set_rate_first globals locals line name value first = ap (λ s. least_with first (stmt_faults globals locals s)) (pure_set_rate line name value) ∙ least_append first _ _

pub set_step_first : (globals locals : List Name) (line : ℕ) (port : Option Name) (step : ℕ) (first : First)
    → least_with first (stmt_faults globals locals (pure_stmt (variant.SetStep line port step))) ≡ least_with first (uses_maybe locals line port)
set_step_first globals locals line port step first = ap (λ s. least_with first (stmt_faults globals locals s)) (pure_set_step line port step)

pub accept_first : (globals locals : List Name) (line : ℕ) (first : First)
    → least_with first (stmt_faults globals locals (pure_stmt (variant.Accept line))) ≡ first
accept_first globals locals line first = ap (λ s. least_with first (stmt_faults globals locals s)) (pure_accept line) ∙ least_none first

pub reject_first : (globals locals : List Name) (line : ℕ) (first : First)
    → least_with first (stmt_faults globals locals (pure_stmt (variant.Reject line))) ≡ first
reject_first globals locals line first = ap (λ s. least_with first (stmt_faults globals locals s)) (pure_reject line) ∙ least_none first

pub stmts_more : (globals locals : List Name) (list : List Stmt) (i : ℕ) (d : Stmt) (first : First) → i < length list
    → least_with first (stmts_faults globals locals (pure_stmts (drop i list)))
    ≡ least_with (least_with first (stmt_faults globals locals (pure_stmt (get_or list i d)))) (stmts_faults globals locals (pure_stmts (drop (i + 1) list)))
stmts_more globals locals list i d first within = ap (λ (l : List Stmt). least_with first (stmts_faults globals locals (pure_stmts l))) (drop_more list i d within) ∙ least_append first _ _

pub stmts_all : (globals locals : List Name) (list : List Stmt) (i : ℕ) (first : First) → length list ≤ i
    → least_with first (stmts_faults globals locals (pure_stmts (drop i list))) ≡ first
stmts_all globals locals list i first past = ap (λ (l : List Stmt). least_with first (stmts_faults globals locals (pure_stmts l))) (drop_all i list past) ∙ least_none first

pub ruleset stmt_laws = (assign_first, if_first, for_first, notify_first, set_rate_first, set_step_first, accept_first, reject_first, stmts_more, stmts_all)

pub ruleset for_laws = (least_none, least_append, least_if)
