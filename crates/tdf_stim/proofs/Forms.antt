-- The statements that the code makes.
use Rattle.std.proofs.Common.{◌≡◌, ◌∙◌, ℕ, List, [], ◌∷◌, None, Vec, codes, map, drop, length, ap}
use Rattle.std.specs.List.{range_with_len}
use Rattle.std.specs.declared.alloc.Global.{Global}
use Rattle.tdf_lang_tree.proofs.Api.{pure_assign, pure_for, pure_if, pure_notify}
use Rattle.tdf_lang_tree.specs.Pure.{EAt, EBinary, EName, ENumber, PureExpr, PureStmt, SAssign, SFor, SIf, SNotify, More, Done}
use Rattle.tdf_lang_tree.specs.Views.{pure_expr, pure_stmt, pure_stmts, sts}
use Rattle.tdf_lang_tree.specs.declared.expr.Expr.{Expr}
use Rattle.tdf_lang_tree.specs.declared.expr.Expr.TheVariants.{At}
use Rattle.tdf_lang_tree.specs.declared.expr.Index.TheVariants.{Var}
use Rattle.tdf_lang_tree.specs.declared.expr.Op.TheVariants.{Add}
use Rattle.tdf_lang_tree.specs.declared.stmt.Limit.TheVariants.{Int}
use Rattle.tdf_lang_tree.specs.declared.stmt.Stmt.{Stmt}
use Rattle.tdf_lang_tree.specs.declared.stmt.Stmt.TheVariants as variant
use Rattle.tdf_lang_tree.specs.declared.stmt.Stmt.TheViews as view
use Rattle.tdf_stim.specs.Driver.{array_name, assign, count_up, driver_body, each_run, event_name, first_run, is_count, notify_lines, notify, one_run, port_name}

pub assign_is : (j : ℕ) (name array i : List ℕ) → name ≡ port_name j → array ≡ array_name j → i ≡ codes "i" → pure_stmt (variant.Assign 0 name None (At array (Var i))) ≡ assign j
assign_is j name array i name_is array_is i_is =
    pure_assign 0 name None (At array (Var i)) ∙ ap (λ n. SAssign 0 n None (EAt array (Var i))) name_is
    ∙ ap (λ n. SAssign 0 (port_name j) None (EAt n (Var i))) array_is ∙ ap (λ n. SAssign 0 (port_name j) None (EAt (array_name j) (Var n))) i_is

pub notify_is : (i time : ℕ) (event : List ℕ) → event ≡ event_name i → pure_stmt (variant.Notify 0 event time) ≡ notify i time
notify_is i time event is = pure_notify 0 event time ∙ ap (λ n. SNotify 0 n time) is

-- an `if` without an `else`
if_is : (test : Expr) (e : PureExpr) (list : List PureStmt) (front back : Vec Stmt Global) → pure_expr test ≡ e → map pure_stmt front.items ≡ list → back.items ≡ []
    → pure_stmt (view.If 0 test front back) ≡ SIf 0 e (sts list) Done
if_is test e list front back test_is front_is back_is =
    pure_if 0 test front back ∙ ap (λ x. SIf 0 x (pure_stmts front.items) (pure_stmts back.items)) test_is
    ∙ ap (λ l. SIf 0 e (sts l) (pure_stmts back.items)) front_is ∙ ap (λ (l : List Stmt). SIf 0 e (sts list) (pure_stmts l)) back_is

pub first_is : (times : List ℕ) (test : Expr) (front back : Vec Stmt Global) → pure_expr test ≡ is_count (ENumber (codes "0")) → map pure_stmt front.items ≡ notify_lines 1 (drop 1 times) → back.items ≡ []
    → pure_stmt (view.If 0 test front back) ≡ first_run times
first_is times test front back test_is front_is back_is = if_is test _ (notify_lines 1 (drop 1 times)) front back test_is front_is back_is

pub one_is : (columns : ℕ) (test : Expr) (front back : Vec Stmt Global) → pure_expr test ≡ is_count (EName (codes "i")) → map pure_stmt front.items ≡ map assign (range_with_len 0 columns) → back.items ≡ []
    → pure_stmt (view.If 0 test front back) ≡ one_run columns
one_is columns test front back test_is front_is back_is = if_is test _ (map assign (range_with_len 0 columns)) front back test_is front_is back_is

pub each_is : (rows columns : ℕ) (var : List ℕ) (s : Stmt) (body : Vec Stmt Global) → var ≡ codes "i" → pure_stmt s ≡ one_run columns → body.items ≡ s ∷ []
    → pure_stmt (view.For 0 var 0 (Int rows) body) ≡ each_run rows columns
each_is rows columns var s body var_is s_is body_is =
    pure_for 0 var 0 (Int rows) body ∙ ap (λ n. SFor 0 n 0 (Int rows) (pure_stmts body.items)) var_is
    ∙ ap (λ (l : List Stmt). SFor 0 (codes "i") 0 (Int rows) (pure_stmts l)) body_is ∙ ap (λ x. SFor 0 (codes "i") 0 (Int rows) (More x Done)) s_is

pub on_is : (name : List ℕ) (value : Expr) → name ≡ codes "k" → pure_expr value ≡ (EBinary Add (EName (codes "k")) (ENumber (codes "1"))) → pure_stmt (variant.Assign 0 name None value) ≡ count_up
on_is name value name_is value_is =
    pure_assign 0 name None value ∙ ap (λ n. SAssign 0 n None (pure_expr value)) name_is ∙ ap (λ e. SAssign 0 (codes "k") None e) value_is

pub body_is : (columns : ℕ) (times : List ℕ) (a b c : Stmt) (items : List Stmt) → pure_stmt a ≡ first_run times → pure_stmt b ≡ each_run (length times) columns → pure_stmt c ≡ count_up
    → items ≡ a ∷ (b ∷ (c ∷ [])) → pure_stmts items ≡ driver_body columns times
body_is columns times a b c items a_is b_is c_is is =
    ap pure_stmts is ∙ ap (λ x. More x (More (pure_stmt b) (More (pure_stmt c) Done))) a_is
    ∙ ap (λ x. More (first_run times) (More x (More (pure_stmt c) Done))) b_is ∙ ap (λ x. More (first_run times) (More (each_run (length times) columns) (More x Done))) c_is

pub ruleset form_laws = (assign_is, notify_is, first_is, one_is, each_is, on_is, body_is)
