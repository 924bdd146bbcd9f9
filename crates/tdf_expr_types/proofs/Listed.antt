-- Statements one after another.
use Rattle.std.proofs.Common.{◌≡◌, ◌∙◌, ℕ, ◌+◌, ◌<◌, ◌≤◌, List, Option, length, drop, ap}
use Rattle.std.proofs.Math.ListN.{get_or}
use Rattle.std.proofs.lemmas.List.{drop_more, drop_all}
use Rattle.tdf_base.proofs.Api.{least_none, least_append, least_if}
use Rattle.tdf_base.specs.First.{least_with}
use Rattle.tdf_base.specs.declared.first.LineFault.{LineFault}
use Rattle.tdf_expr_symbols.proofs.Api.{map_push}
use Rattle.tdf_expr_symbols.specs.Faults.{stmt_faults, stmts_faults}
use Rattle.tdf_expr_symbols.specs.Names.{Names}
use Rattle.tdf_expr_symbols.specs.Scope.{OpenLoop, Scope}
use Rattle.tdf_expr_symbols.specs.Weight.{weight, weights}
use Rattle.tdf_expr_symbols.specs.declared.kinds.Part.{Part}
use Rattle.tdf_lang_tree.proofs.Api.{pure_if, pure_for, pure_assign, pure_notify, pure_set_rate, pure_set_step, pure_accept, pure_reject}
use Rattle.tdf_lang_tree.specs.Views.{pure_stmt, pure_stmts}
use Rattle.tdf_lang_tree.specs.declared.stmt.Stmt.{Stmt}
use Rattle.tdf_expr_types.proofs.Counts.{capped_0, capped_1, capped_end, capped_next, capped_twice}

pub faults_next : (scope : Scope) (body : Part) (loops : List OpenLoop) (list : List Stmt) (i : ℕ) (d : Stmt) (first : Option LineFault) → i < length list
    → least_with first (stmts_faults scope body loops (pure_stmts (drop i list)))
    ≡ least_with (least_with first (stmt_faults scope body loops (pure_stmt (get_or list i d)))) (stmts_faults scope body loops (pure_stmts (drop (i + 1) list)))
faults_next scope body loops list i d first within =
    ap (λ (l : List Stmt). least_with first (stmts_faults scope body loops (pure_stmts l))) (drop_more list i d within) ∙ least_append first _ _

pub faults_done : (scope : Scope) (body : Part) (loops : List OpenLoop) (list : List Stmt) (i : ℕ) (first : Option LineFault) → length list ≤ i
    → least_with first (stmts_faults scope body loops (pure_stmts (drop i list))) ≡ first
faults_done scope body loops list i first past =
    ap (λ (l : List Stmt). least_with first (stmts_faults scope body loops (pure_stmts l))) (drop_all i list past) ∙ least_none first

pub weights_next : (own : Names) (list : List Stmt) (i : ℕ) (d : Stmt) → i < length list
    → weights own (pure_stmts (drop i list)) ≡ weight own (pure_stmt (get_or list i d)) + weights own (pure_stmts (drop (i + 1) list))
weights_next own list i d within = ap (λ (l : List Stmt). weights own (pure_stmts l)) (drop_more list i d within)

pub weights_done : (own : Names) (list : List Stmt) (i : ℕ) → length list ≤ i → weights own (pure_stmts (drop i list)) ≡ 0
weights_done own list i past = ap (λ (l : List Stmt). weights own (pure_stmts l)) (drop_all i list past)

pub ruleset stmt_laws = (
  least_append,
  least_if,
  least_none,
  capped_1,
  map_push,
  pure_if,
  pure_for,
  pure_assign,
  pure_notify,
  pure_set_rate,
  pure_set_step,
  pure_accept,
  pure_reject,
)

pub ruleset list_laws = (faults_next, faults_done, weights_next, weights_done, capped_next, capped_0, capped_twice, capped_end)
