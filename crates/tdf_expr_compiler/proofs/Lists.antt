-- The code of lists of statements.
use Rattle.std.proofs.Common.{◌≡◌, ◌∙◌, ℕ, ◌+◌, ◌<◌, ◌≤◌, List, [], ◌∷◌, ◌++◌, length, take, refl, sym, ap, subst, arith, add-one}
use Rattle.std.proofs.Math.ListN.{get_or}
use Rattle.std.proofs.Math.Seq.{take-suc}
use Rattle.std.proofs.lemmas.List.{map-append, take_all}
use Rattle.std.specs.Prelude.{map}
use Rattle.tdf_base.specs.Limits.{deepest_nesting}
use Rattle.tdf_expr_compiler.specs.Promises.{AreFaultless, PerformsAll}
use Rattle.tdf_expr_compiler.specs.machine.Acting.{Acts, ActsAll, AreActs, AreFine, IsFine, joined}
use Rattle.tdf_base.proofs.Api.{none_first, none_second}
use Rattle.tdf_expr_machine.proofs.Api.{acted_append}
use Rattle.tdf_expr_machine.specs.Acts.{acted, IsSafeAct}
use Rattle.tdf_expr_machine.specs.Sequences.{acted_all, AreSafeAll, IsSequence}
use Rattle.tdf_expr_machine.specs.declared.acts.Act.{Act}
use Rattle.tdf_expr_semantics.proofs.Api.{keeps}
use Rattle.tdf_expr_semantics.specs.Bodies.{after, after_all}
use Rattle.tdf_expr_symbols.specs.Faults.{stmt_faults, stmts_faults}
use Rattle.tdf_expr_symbols.specs.Scope.{Scope, OpenLoop}
use Rattle.tdf_expr_symbols.specs.Sound.{IsSound}
use Rattle.tdf_expr_symbols.specs.declared.kinds.Part.{Part}
use Rattle.tdf_expr_state.specs.State.{State}
use Rattle.tdf_expr_symbols.proofs.Api.{map_push}
use Rattle.tdf_lang_tree.proofs.Api.{pure_if, pure_for, pure_assign, pure_notify, pure_set_rate, pure_set_step, pure_accept, pure_reject}
use Rattle.tdf_lang_tree.specs.Kept.{KeepsStmt, KeepsStmts}
use Rattle.tdf_lang_tree.specs.Pure.{PureStmt, PureStmts, Done, More}
use Rattle.tdf_lang_tree.specs.Views.{pure_stmt, pure_stmts, sts}
use Rattle.tdf_lang_tree.specs.declared.stmt.Stmt.{Stmt}

-- one statement more, at the end
module _ (scope : Scope) (loops : List OpenLoop) where
  joined_first : (body : Part) (ss : PureStmts) (s : PureStmt) → stmts_faults scope body loops (joined ss (More s Done)) ≡ [] → stmts_faults scope body loops ss ≡ []
  joined_first body Done s none = refl
  joined_first body (More x ss) s none =
      let first = none_first (stmt_faults scope body loops x) _ none in
      let rest = joined_first body ss s (none_second (stmt_faults scope body loops x) _ none) in
      rw (first, rest) refl

  joined_last : (body : Part) (ss : PureStmts) (s : PureStmt) → stmts_faults scope body loops (joined ss (More s Done)) ≡ [] → stmt_faults scope body loops s ≡ []
  joined_last body Done s none = none_first (stmt_faults scope body loops s) _ none
  joined_last body (More x ss) s none = joined_last body ss s (none_second (stmt_faults scope body loops x) _ none)

  after_joined : (turns : List ℕ) (ss : PureStmts) (x : PureStmt) (s : State) → after_all scope loops turns (joined ss (More x Done)) s ≡ after scope loops turns x (after_all scope loops turns ss s)
  after_joined turns Done x s = refl
  after_joined turns (More y ss) x s = after_joined turns ss x (after scope loops turns y s)

keeps_first : (d : ℕ) (ss : PureStmts) (s : PureStmt) → KeepsStmts d (joined ss (More s Done)) → KeepsStmts d ss
keeps_first d Done s all = tt
keeps_first d (More x ss) s all = (all.0, keeps_first d ss s all.1)

keeps_last : (d : ℕ) (ss : PureStmts) (s : PureStmt) → KeepsStmts d (joined ss (More s Done)) → KeepsStmt d s
keeps_last d Done s all = all.0
keeps_last d (More x ss) s all = keeps_last d ss s all.1

safe_append : (acts : List Act) (act : Act) (turns : List ℕ) (s : State) → AreSafeAll acts turns s → IsSafeAct act turns (acted_all acts turns s) → AreSafeAll (acts ++ act ∷ []) turns s
safe_append [] act turns s all one = (one, tt)
safe_append (x ∷ acts) act turns s all one = (all.0, safe_append acts act turns (acted x turns s) all.1 one)

pub acts_none : (scope : Scope) (loops : List OpenLoop) → AreActs scope loops Done []
acts_none scope loops = record { at = λ fine turns s fits running. (tt, refl) }

pub acts_more : (scope : Scope) (loops : List OpenLoop) (ss : PureStmts) (x : PureStmt) (acts : List Act) (act : Act) → AreActs scope loops ss acts → Acts scope loops x act
    → AreActs scope loops (joined ss (More x Done)) (acts ++ act ∷ [])
acts_more scope loops ss x acts act all one = record {
  at = λ fine turns s fits running.
      let none = joined_first scope loops fine.body ss x fine.none in
      let before : AreFine scope loops ss = record { body = fine.body; none = none; depth = fine.depth; nested = keeps_first fine.depth ss x fine.nested; room = fine.room; sound = fine.sound } in
      let last : IsFine scope loops x = record { body = fine.body; none = joined_last scope loops fine.body ss x fine.none; depth = fine.depth; nested = keeps_last fine.depth ss x fine.nested; room = fine.room; sound = fine.sound } in
      let first = all.at before turns s fits running in
      let then_fits = keeps scope loops fine.body ss turns s fine.sound none fits running in
      let done = (one.performs last).at turns (after_all scope loops turns ss s) then_fits running in (
        safe_append acts act turns s first.0 (subst (λ t. IsSafeAct act turns t) (sym first.1) done.safe),
        acted_append acts (act ∷ []) turns s ∙ ap (λ t. acted act turns t) first.1 ∙ done.same ∙ sym (after_joined scope loops turns ss x s),
      );
}

pub acts_all : (scope : Scope) (loops : List OpenLoop) (ss : PureStmts) (acts : List Act) (act : Act) → AreActs scope loops ss acts → IsSequence acts act → ActsAll scope loops ss act
acts_all scope loops ss acts act all whole = record {
  performs = λ fine. record {
    at = λ turns s fits running.
        let done = all.at fine turns s fits running in
        record { safe = whole.safe turns s done.0; same = whole.same turns s ∙ done.1 };
  };
}

stmts_more : (list : List PureStmt) (s : PureStmt) → sts (list ++ s ∷ []) ≡ joined (sts list) (More s Done)
stmts_more [] s = refl
stmts_more (x ∷ list) s = ap (λ rest. More x rest) (stmts_more list s)

pub stmts_step : (list : List Stmt) (i : ℕ) (d : Stmt) → i < length list → pure_stmts (take (i + 1) list) ≡ joined (pure_stmts (take i list)) (More (pure_stmt (get_or list i d)) Done)
stmts_step list i d within = ap pure_stmts (rw add-one (take-suc list i d within)) ∙ ap sts (map-append pure_stmt (take i list) (get_or list i d ∷ [])) ∙ stmts_more (map pure_stmt (take i list)) (pure_stmt (get_or list i d))

pub stmts_none : (list : List Stmt) → pure_stmts (take 0 list) ≡ Done
stmts_none list = refl

pub stmts_all : (list : List Stmt) (i : ℕ) → length list ≤ i → pure_stmts (take i list) ≡ pure_stmts list
stmts_all list i past = ap pure_stmts (take_all i list past)

pub acts_next : (scope : Scope) (loops : List OpenLoop) (list : List Stmt) (i : ℕ) (d : Stmt) (acts : List Act) (act : Act) → i < length list
    → AreActs scope loops (pure_stmts (take i list)) acts → Acts scope loops (pure_stmt (get_or list i d)) act → AreActs scope loops (pure_stmts (take (i + 1) list)) (acts ++ act ∷ [])
acts_next scope loops list i d acts act within all one =
    subst (λ ss. AreActs scope loops ss (acts ++ act ∷ [])) (sym (stmts_step list i d within)) (acts_more scope loops (pure_stmts (take i list)) (pure_stmt (get_or list i d)) acts act all one)

pub ruleset stmt_laws = (pure_if, pure_for, pure_assign, pure_notify, pure_set_rate, pure_set_step, pure_accept, pure_reject, map_push)

pub ruleset list_laws = (acts_none, acts_next, acts_all, stmts_none, stmts_all)

pub fine_body : (scope : Scope) (ss : PureStmts) (act : Act) → IsSound scope → AreFaultless scope ss → KeepsStmts deepest_nesting ss → ActsAll scope [] ss act → PerformsAll scope [] ss act
fine_body scope ss act sound none nested all = all.performs (record { body = none.body; none = none.none; depth = deepest_nesting; nested = nested; room = omega arith; sound = sound })

-- statements without a fault in one body are statements without a fault
pub faultless : (scope : Scope) (body : Part) (ss : PureStmts) → stmts_faults scope body [] ss ≡ [] → AreFaultless scope ss
faultless scope body ss none = record { body = body; none = none }
