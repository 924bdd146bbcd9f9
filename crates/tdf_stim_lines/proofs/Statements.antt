-- Statements, one after the other, and what each form of them leaves.
use Rattle.std.proofs.Common.{◌≡◌, ◌≢◌, ◌∙◌, ℕ, ◌+◌, ◌<◌, ◌≤◌, List, [], ◌∷◌, ◌++◌, Option, Vec, length, min, refl, sym, ap, arith}
use Rattle.std.proofs.lemmas.List.{length-append, map-append}
use Rattle.std.specs.Prelude.{map}
use Rattle.std.specs.declared.alloc.Global.{Global}
use Rattle.tdf_lang_printer.specs.Canon.{stmt_lines, stmts_lines, else_lines}
use Rattle.tdf_lang_tree.proofs.Api.{pure_if, pure_for, pure_assign, pure_notify, pure_set_rate, pure_set_step, pure_accept, pure_reject}
use Rattle.tdf_lang_tree.specs.Forms.{FEnd}
use Rattle.tdf_lang_tree.specs.Pure.{PureStmt, SAssign, SIf, SFor, SNotify, SSetRate, SSetStep, SAccept, SReject, Done, More}
use Rattle.tdf_lang_tree.specs.Views.{pure_expr, pure_stmt, pure_stmts, sts}
use Rattle.tdf_lang_tree.specs.declared.expr.Expr.{Expr}
use Rattle.tdf_lang_tree.specs.declared.expr.Index.{Index}
use Rattle.tdf_lang_tree.specs.declared.stmt.Limit.{Limit}
use Rattle.tdf_lang_tree.specs.declared.stmt.Stmt.{Stmt}
use Rattle.tdf_lang_tree.specs.declared.stmt.Stmt.TheVariants as variant
use Rattle.tdf_lang_tree.specs.declared.stmt.Stmt.TheViews as view
use Rattle.tdf_stim_lines.proofs.Walking.{IsStepwise}
use Rattle.tdf_stim_lines.specs.Numbered.{body_at, end_at, stmt_at, stmts_at}
use Rattle.tdf_stim_lines.specs.machine.Walk.{Walks, body_size, else_at, else_size, last_number, stmt_size, stmts_size}

-- ---- lists

size_push : (ps : List PureStmt) (p : PureStmt) → stmts_size (sts (ps ++ p ∷ [])) ≡ stmts_size (sts ps) + stmt_size p
size_push [] p = omega (arith, length-append (stmt_lines p) [])
size_push (q ∷ ps) p =
    omega (arith, length-append (stmt_lines q) (stmts_lines (sts (ps ++ p ∷ []))), length-append (stmt_lines q) (stmts_lines (sts ps)), size_push ps p)

put_push : (at : ℕ) (ps qs : List PureStmt) (p q : PureStmt) → sts qs ≡ stmts_at at (sts ps) → q ≡ stmt_at (at + stmts_size (sts ps)) p
    → sts (qs ++ q ∷ []) ≡ stmts_at at (sts (ps ++ p ∷ []))
put_push at [] [] p q done more = let e : at + 0 ≡ at = omega arith in ap (λ s. More s Done) (more ∙ ap (λ k. stmt_at k p) e)
put_push at [] (r ∷ qs) p q done more = absurd (cc)
put_push at (s ∷ ps) [] p q done more = absurd (cc)
put_push at (s ∷ ps) (r ∷ qs) p q done more =
    let head : r ≡ stmt_at at s = cc in
    let tail : sts qs ≡ stmts_at (at + stmt_size s) (sts ps) = cc in
    let e : at + stmts_size (sts (s ∷ ps)) ≡ at + stmt_size s + stmts_size (sts ps) = omega (arith, length-append (stmt_lines s) (stmts_lines (sts ps))) in
    ap (λ x. More x (sts (qs ++ q ∷ []))) head
    ∙ ap (More (stmt_at at s)) (put_push (at + stmt_size s) ps qs p q tail (more ∙ ap (λ k. stmt_at k p) e))

pub stmts_stepwise : IsStepwise pure_stmt pure_stmts stmts_size stmts_at stmt_size stmt_at
stmts_stepwise = record {
  size_none = refl;
  put_none = λ at. refl;
  size_push = λ xs x. ap (λ ps. stmts_size (sts ps)) (map-append pure_stmt xs (x ∷ [])) ∙ size_push (map pure_stmt xs) (pure_stmt x);
  put_push = λ at xs ys x y done more.
      ap sts (map-append pure_stmt ys (y ∷ [])) ∙ put_push at (map pure_stmt xs) (map pure_stmt ys) (pure_stmt x) (pure_stmt y) done more
      ∙ ap (λ ps. stmts_at at (sts ps)) (sym (map-append pure_stmt xs (x ∷ [])));
}

-- ---- forms

-- a statement of one line
one_line : (at after : ℕ) (s t u : PureStmt) → at ≤ last_number → after ≡ min (at + 1) last_number → s ≡ u → stmt_size u ≡ 1 → t ≡ stmt_at at u → Walks stmt_size stmt_at at after s t
one_line at after s t u small is same size put = record {
  later = omega (arith, is);
  next_is = λ few. omega (arith, is, size, ap stmt_size same);
  new_is = λ few. put ∙ ap (stmt_at at) (sym same);
}

pub assign_walks : (line at after : ℕ) (name : List ℕ) (index : Option Index) (value : Expr) (s t : Stmt) → s ≡ variant.Assign line name index value → t ≡ variant.Assign at name index value → at ≤ last_number → after ≡ min (at + 1) last_number
    → Walks stmt_size stmt_at at after (pure_stmt s) (pure_stmt t)
assign_walks line at after name index value s t same put small is =
    one_line at after _ _ (SAssign line name index (pure_expr value)) small is (ap pure_stmt same ∙ pure_assign line name index value) refl (ap pure_stmt put ∙ pure_assign at name index value)

pub notify_walks : (line at after : ℕ) (event : List ℕ) (time : ℕ) (s t : Stmt) → s ≡ variant.Notify line event time → t ≡ variant.Notify at event time → at ≤ last_number → after ≡ min (at + 1) last_number
    → Walks stmt_size stmt_at at after (pure_stmt s) (pure_stmt t)
notify_walks line at after event time s t same put small is = one_line at after _ _ (SNotify line event time) small is (ap pure_stmt same ∙ pure_notify line event time) refl (ap pure_stmt put ∙ pure_notify at event time)

pub set_rate_walks : (line at after : ℕ) (name : List ℕ) (value : Expr) (s t : Stmt) → s ≡ variant.SetRate line name value → t ≡ variant.SetRate at name value → at ≤ last_number → after ≡ min (at + 1) last_number
    → Walks stmt_size stmt_at at after (pure_stmt s) (pure_stmt t)
set_rate_walks line at after name value s t same put small is =
    one_line at after _ _ (SSetRate line name (pure_expr value)) small is (ap pure_stmt same ∙ pure_set_rate line name value) refl (ap pure_stmt put ∙ pure_set_rate at name value)

pub set_step_walks : (line at after : ℕ) (port : Option (List ℕ)) (step : ℕ) (s t : Stmt) → s ≡ variant.SetStep line port step → t ≡ variant.SetStep at port step → at ≤ last_number → after ≡ min (at + 1) last_number
    → Walks stmt_size stmt_at at after (pure_stmt s) (pure_stmt t)
set_step_walks line at after port step s t same put small is =
    one_line at after _ _ (SSetStep line port step) small is (ap pure_stmt same ∙ pure_set_step line port step) refl (ap pure_stmt put ∙ pure_set_step at port step)

pub accept_walks : (line at after : ℕ) (s t : Stmt) → s ≡ variant.Accept line → t ≡ variant.Accept at → at ≤ last_number → after ≡ min (at + 1) last_number
    → Walks stmt_size stmt_at at after (pure_stmt s) (pure_stmt t)
accept_walks line at after s t same put small is = one_line at after _ _ (SAccept line) small is (ap pure_stmt same ∙ pure_accept line) refl (ap pure_stmt put ∙ pure_accept at)

pub reject_walks : (line at after : ℕ) (s t : Stmt) → s ≡ variant.Reject line → t ≡ variant.Reject at → at ≤ last_number → after ≡ min (at + 1) last_number
    → Walks stmt_size stmt_at at after (pure_stmt s) (pure_stmt t)
reject_walks line at after s t same put small is = one_line at after _ _ (SReject line) small is (ap pure_stmt same ∙ pure_reject line) refl (ap pure_stmt put ∙ pure_reject at)

pub if_walks : (line at first middle end after : ℕ) (test : Expr) (front back new_front new_back : Vec Stmt Global) (s t : Stmt) → s ≡ view.If line test front back → t ≡ view.If at test new_front new_back
    → at ≤ last_number → first ≡ min (at + 1) last_number
    → Walks stmts_size stmts_at first middle (pure_stmts front.items) (pure_stmts new_front.items)
    → Walks else_size else_at middle end (pure_stmts back.items) (pure_stmts new_back.items) → end ≤ last_number → after ≡ min (end + 1) last_number
    → Walks stmt_size stmt_at at after (pure_stmt s) (pure_stmt t)
if_walks line at first middle end after test front back new_front new_back s t same put small first_is one two last is =
    let old_is : pure_stmt s ≡ SIf line (pure_expr test) (pure_stmts front.items) (pure_stmts back.items) = ap pure_stmt same ∙ pure_if line test front back in
    let new_is = ap pure_stmt put ∙ pure_if at test new_front new_back in
    let size = length-append (stmts_lines (pure_stmts front.items)) (else_lines (pure_stmts back.items) ++ FEnd ∷ []) in
    let rest = length-append (else_lines (pure_stmts back.items)) (FEnd ∷ []) in
    record {
      later = omega (arith, first_is, one.later, two.later, is);
      next_is = λ few.
          let before : middle < last_number = omega (arith, few, two.later, is) in
          let until : end < last_number = omega (arith, few, is) in
          omega (arith, first_is, is, one.next_is before, two.next_is until, size, rest, ap stmt_size old_is);
      new_is = λ few.
          let before : middle < last_number = omega (arith, few, two.later, is) in
          let until : end < last_number = omega (arith, few, is) in
          let here : first ≡ at + 1 = omega (arith, first_is, few, one.later, two.later, is) in
          let there : middle + 1 ≡ at + 1 + length (stmts_lines (pure_stmts front.items)) + 1 = omega (arith, here, one.next_is before) in
          new_is ∙ ap (λ ss. SIf at (pure_expr test) ss (pure_stmts new_back.items)) (one.new_is before ∙ ap (λ k. stmts_at k (pure_stmts front.items)) here)
          ∙ ap (λ ss. SIf at (pure_expr test) (stmts_at (at + 1) (pure_stmts front.items)) ss) (two.new_is until ∙ ap (λ k. stmts_at k (pure_stmts back.items)) there)
          ∙ ap (stmt_at at) (sym old_is);
    }

pub for_walks : (line at first end after : ℕ) (name : List ℕ) (from : ℕ) (limit : Limit) (body new_body : Vec Stmt Global) (s t : Stmt) → s ≡ view.For line name from limit body → t ≡ view.For at name from limit new_body
    → at ≤ last_number → first ≡ min (at + 1) last_number
    → Walks stmts_size stmts_at first end (pure_stmts body.items) (pure_stmts new_body.items) → end ≤ last_number → after ≡ min (end + 1) last_number
    → Walks stmt_size stmt_at at after (pure_stmt s) (pure_stmt t)
for_walks line at first end after name from limit body new_body s t same put small first_is one last is =
    let old_is : pure_stmt s ≡ SFor line name from limit (pure_stmts body.items) = ap pure_stmt same ∙ pure_for line name from limit body in
    let size = length-append (stmts_lines (pure_stmts body.items)) (FEnd ∷ []) in
    record {
      later = omega (arith, first_is, one.later, is);
      next_is = λ few.
          let until : end < last_number = omega (arith, few, is) in
          omega (arith, first_is, is, one.next_is until, size, ap stmt_size old_is);
      new_is = λ few.
          let until : end < last_number = omega (arith, few, is) in
          let here : first ≡ at + 1 = omega (arith, first_is, few, one.later, is) in
          ap pure_stmt put ∙ pure_for at name from limit new_body
          ∙ ap (λ ss. SFor at name from limit ss) (one.new_is until ∙ ap (λ k. stmts_at k (pure_stmts body.items)) here)
          ∙ ap (stmt_at at) (sym old_is);
    }

-- ---- `else`

pub else_none : (at : ℕ) (list : List Stmt) → length list ≡ 0 → Walks else_size else_at at at (pure_stmts list) (pure_stmts list)
else_none at [] none = record { later = omega arith; next_is = λ few. omega arith; new_is = λ few. refl }
else_none at (s ∷ list) none = absurd (omega arith)

else_line : (list : List Stmt) → length list ≢ 0 → else_size (pure_stmts list) ≡ stmts_size (pure_stmts list) + 1
else_line [] some = absurd (some refl)
else_line (s ∷ list) some = omega arith

pub else_some : (at first next : ℕ) (old new : List Stmt) → length old ≢ 0 → at ≤ last_number → first ≡ min (at + 1) last_number
    → Walks stmts_size stmts_at first next (pure_stmts old) (pure_stmts new) → Walks else_size else_at at next (pure_stmts old) (pure_stmts new)
else_some at first next old new some small is one = record {
  later = omega (arith, is, one.later);
  next_is = λ few. omega (arith, is, one.later, one.next_is few, else_line old some);
  new_is = λ few.
      let here : first ≡ at + 1 = omega (arith, is, few, one.later) in
      one.new_is few ∙ ap (λ k. stmts_at k (pure_stmts old)) here;
}

-- ---- bodies

pub none_done : (list : List Stmt) → length list ≡ 0 → pure_stmts list ≡ Done
none_done [] none = refl
none_done (s ∷ list) none = absurd (omega arith)

pub done_none : (list : List Stmt) → pure_stmts list ≡ Done → length list ≡ 0
done_none [] same = refl
done_none (s ∷ list) same = absurd (cc)

pub some_done : (list : List Stmt) → length list ≢ 0 → pure_stmts list ≡ Done → ⊥
some_done [] some same = some refl
some_done (s ∷ list) some same = cc

pub body_none : (at end : ℕ) (list : Vec Stmt Global) → length list.items ≡ 0
    → Walks body_size body_at at at (record { list = pure_stmts list.items; end = end }) (record { list = pure_stmts list.items; end = 0 })
body_none at end list none = by list.items none
  where
    by : (items : List Stmt) → length items ≡ 0 → Walks body_size body_at at at (record { list = pure_stmts items; end = end }) (record { list = pure_stmts items; end = 0 })
    by [] none = record { later = omega arith; next_is = λ few. omega arith; new_is = λ few. refl }
    by (s ∷ items) none = absurd (omega arith)

end_is : (at : ℕ) (list : List Stmt) → length list ≢ 0 → end_at at (pure_stmts list) ≡ at + stmts_size (pure_stmts list)
end_is at [] some = absurd (some refl)
end_is at (s ∷ list) some = refl

pub body_some : (at end last : ℕ) (old new : List Stmt) → length old ≢ 0 → Walks stmts_size stmts_at at end (pure_stmts old) (pure_stmts new)
    → Walks body_size body_at at end (record { list = pure_stmts old; end = last }) (record { list = pure_stmts new; end = end })
body_some at end last old new some one = record {
  later = one.later;
  next_is = one.next_is;
  new_is = λ few. ap (λ ss. record { list = ss; end = end }) (one.new_is few)
      ∙ ap (λ n. record { list = stmts_at at (pure_stmts old); end = n }) (one.next_is few ∙ sym (end_is at old some));
}
