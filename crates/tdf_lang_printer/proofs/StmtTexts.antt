-- The text of each form of statement, and of a list of them.
use Rattle.std.proofs.Common.{◌≡◌, ◌≢◌, ℕ, ◌+◌, ◌<◌, List, [], ◌∷◌, ◌++◌, Option, Vec, length, get_or, take, refl, sym, ap, ◌∙◌, append_assoc, add-one, arith}
use Rattle.std.proofs.Math.Seq.{take-suc}
use Rattle.std.proofs.lemmas.List.{append-nil}
use Rattle.std.specs.declared.alloc.Global.{Global}
use Rattle.tdf_base.specs.declared.resolution.Resolution.{Resolution}
use Rattle.tdf_lang_tree.specs.Forms.{Form, FStep, FAccept, FReject, FEnd, FNotify, FAssign, FIf, FElse, FFor, FSetRate}
use Rattle.tdf_lang_tree.proofs.Api.{pure_if, pure_for, pure_assign, pure_notify, pure_set_rate, pure_set_step, pure_accept, pure_reject}
use Rattle.tdf_lang_tree.specs.Pure.{PureStmt}
use Rattle.tdf_lang_tree.specs.Views.{pure_expr, pure_stmt, pure_stmts}
use Rattle.tdf_lang_tree.specs.declared.expr.Expr.{Expr}
use Rattle.tdf_lang_tree.specs.declared.expr.Index.{Index}
use Rattle.tdf_lang_tree.specs.declared.stmt.Limit.{Limit}
use Rattle.tdf_lang_tree.specs.declared.stmt.Stmt.{Stmt}
use Rattle.tdf_lang_tree.specs.declared.stmt.Stmt.TheVariants as variant
use Rattle.tdf_lang_tree.specs.declared.stmt.Stmt.TheViews as view
use Rattle.tdf_lang_printer.specs.Canon.{stmt_lines, stmts_lines, else_lines}
use Rattle.tdf_lang_printer.specs.Lines.{full_line, lines_text}
use Rattle.tdf_lang_printer.specs.machine.Texts.{stmt_text, stmts_text, else_text}

pub lines_append : (unit : Resolution) (a b : List Form) → lines_text unit (a ++ b) ≡ lines_text unit a ++ lines_text unit b
lines_append unit [] b = refl
lines_append unit (f ∷ a) b =
    ap (λ t. full_line unit f ++ t) (lines_append unit a b) ∙ sym (append_assoc (full_line unit f) (lines_text unit a) (lines_text unit b))

text_of : Resolution → PureStmt → List ℕ
text_of unit s = lines_text unit (stmt_lines s)

pub text_assign : (unit : Resolution) (line : ℕ) (name : List ℕ) (index : Option Index) (value : Expr)
    → stmt_text unit (variant.Assign line name index value) ≡ full_line unit (FAssign name index (pure_expr value))
unfolding stmt_text text_of
text_assign unit line name index value = ap (text_of unit) (pure_assign line name index value) ∙ append-nil (full_line unit (FAssign name index (pure_expr value)))

pub text_notify : (unit : Resolution) (line : ℕ) (event : List ℕ) (after : ℕ) → stmt_text unit (variant.Notify line event after) ≡ full_line unit (FNotify event after)
unfolding stmt_text text_of
text_notify unit line event after = ap (text_of unit) (pure_notify line event after) ∙ append-nil (full_line unit (FNotify event after))

pub text_set_rate : (unit : Resolution) (line : ℕ) (name : List ℕ) (value : Expr) → stmt_text unit (variant.SetRate line name value) ≡ full_line unit (FSetRate name (pure_expr value))
unfolding stmt_text text_of
text_set_rate unit line name value = ap (text_of unit) (pure_set_rate line name value) ∙ append-nil (full_line unit (FSetRate name (pure_expr value)))

pub text_set_step : (unit : Resolution) (line : ℕ) (port : Option (List ℕ)) (step : ℕ) → stmt_text unit (variant.SetStep line port step) ≡ full_line unit (FStep port step)
unfolding stmt_text text_of
text_set_step unit line port step = ap (text_of unit) (pure_set_step line port step) ∙ append-nil (full_line unit (FStep port step))

pub text_accept : (unit : Resolution) (line : ℕ) → stmt_text unit (variant.Accept line) ≡ full_line unit FAccept
unfolding stmt_text text_of
text_accept unit line = ap (text_of unit) (pure_accept line) ∙ append-nil (full_line unit FAccept)

pub text_reject : (unit : Resolution) (line : ℕ) → stmt_text unit (variant.Reject line) ≡ full_line unit FReject
unfolding stmt_text text_of
text_reject unit line = ap (text_of unit) (pure_reject line) ∙ append-nil (full_line unit FReject)

pub end_text : (unit : Resolution) (a : List Form) → lines_text unit (a ++ FEnd ∷ []) ≡ lines_text unit a ++ full_line unit FEnd
end_text unit a = lines_append unit a (FEnd ∷ []) ∙ ap (λ t. lines_text unit a ++ t) (append-nil (full_line unit FEnd))

pub text_if : (unit : Resolution) (line : ℕ) (test : Expr) (first second : Vec Stmt Global)
    → stmt_text unit (view.If line test first second)
    ≡ full_line unit (FIf (pure_expr test)) ++ (stmts_text unit first.items ++ (else_text unit second.items ++ full_line unit FEnd))
unfolding stmt_text stmts_text else_text text_of
text_if unit line test first second =
    ap (text_of unit) (pure_if line test first second)
    ∙ ap (λ t. full_line unit (FIf (pure_expr test)) ++ t)
    (lines_append unit (stmts_lines (pure_stmts first.items)) (else_lines (pure_stmts second.items) ++ FEnd ∷ [])
    ∙ ap (λ t. lines_text unit (stmts_lines (pure_stmts first.items)) ++ t) (end_text unit (else_lines (pure_stmts second.items))))

pub text_for : (unit : Resolution) (line : ℕ) (name : List ℕ) (from : ℕ) (limit : Limit) (body : Vec Stmt Global)
    → stmt_text unit (view.For line name from limit body) ≡ full_line unit (FFor name from limit) ++ (stmts_text unit body.items ++ full_line unit FEnd)
unfolding stmt_text stmts_text text_of
text_for unit line name from limit body =
    ap (text_of unit) (pure_for line name from limit body)
    ∙ ap (λ t. full_line unit (FFor name from limit) ++ t) (end_text unit (stmts_lines (pure_stmts body.items)))

pub stmts_none : (unit : Resolution) → stmts_text unit [] ≡ []
unfolding stmts_text
stmts_none unit = refl

stmts_push : (unit : Resolution) (list : List Stmt) (s : Stmt) → stmts_text unit (list ++ s ∷ []) ≡ stmts_text unit list ++ stmt_text unit s
unfolding stmts_text stmt_text
stmts_push unit [] s = ap (lines_text unit) (append-nil (stmt_lines (pure_stmt s)))
stmts_push unit (x ∷ list) s =
    lines_append unit (stmt_lines (pure_stmt x)) (stmts_lines (pure_stmts (list ++ s ∷ [])))
    ∙ ap (λ t. stmt_text unit x ++ t) (stmts_push unit list s)
    ∙ sym (append_assoc (stmt_text unit x) (stmts_text unit list) (stmt_text unit s))
    ∙ ap (λ t. t ++ stmt_text unit s) (sym (lines_append unit (stmt_lines (pure_stmt x)) (stmts_lines (pure_stmts list))))

pub stmts_take : (unit : Resolution) (list : List Stmt) (i : ℕ) (d : Stmt) → i < length list → stmts_text unit (take (i + 1) list) ≡ stmts_text unit (take i list) ++ stmt_text unit (get_or list i d)
stmts_take unit list i d within = ap (stmts_text unit) (rw (add-one, take-suc list i d) refl) ∙ stmts_push unit (take i list) (get_or list i d)

pub else_none : (unit : Resolution) (list : List Stmt) → length list ≡ 0 → else_text unit list ≡ []
unfolding else_text
else_none unit [] h = refl
else_none unit (x ∷ list) h = absurd (omega arith)

pub else_some : (unit : Resolution) (list : List Stmt) → length list ≢ 0 → else_text unit list ≡ full_line unit FElse ++ stmts_text unit list
unfolding else_text stmts_text
else_some unit [] h = absurd (h refl)
else_some unit (x ∷ list) h = refl

pub ruleset stmt_laws = (text_assign, text_notify, text_set_rate, text_set_step, text_accept, text_reject, text_if, text_for, stmts_none, stmts_take, else_none, else_some)
