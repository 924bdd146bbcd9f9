use Rattle.std.proofs.Common.{◌≡◌, Ok, Err, IfOk, IfErr, OnOk, OnErr, Result, refl, subst, sym}
use Rattle.tdf_sim_refinement.proofs.Api.{answers_lead}
use Rattle.tdf_base.specs.declared.faults.Fault.{Fault}
use Rattle.tdf_dynamic.specs.Change.{IsChangeFault, asks_of}
use Rattle.tdf_dynamic.specs.Next.{IsNext}
use Rattle.tdf_dynamic_plans.specs.Faults.{IsRefusal}
use Rattle.tdf_dynamic_plans.specs.declared.err.ChangeErr.{ChangeErr}
use Rattle.tdf_dynamic_plans.specs.declared.err.ChangeErr.TheVariants as err
use Rattle.tdf_sim_refinement.specs.Below.{CanInstall, HasCrossed as HasLeft}
use Rattle.tdf_sim_instants.proofs.crossing.begin_next.Goals as goal

-- a fact of the answer that there is, from four others
if_ok : {T E : Type 0} {P U : T → Type 0} {Q R S : Type 0} (r : Result T E) → IfOk r P → OnOk r Q → OnOk r R → OnOk r S → ((x : T) → P x → Q → R → S → U x) → IfOk r U
if_ok (Ok x) p q r s then = then x p q r s
if_ok (Err e) p q r s then = tt

-- an answer that there is, of which a fact holds
ok_is : {T E : Type 0} (r : Result T E) (x : T) (P : T → Type 0) → r ≡ Ok x → IfOk r P → P x
ok_is r x P is holds = subst (λ z. IfOk z P) is holds

err_is : {T E : Type 0} (r : Result T E) (x : E) (P : E → Type 0) → r ≡ Err x → IfErr r P → P x
err_is r x P is holds = subst (λ z. IfErr z P) is holds

on_err : {T E : Type 0} {P Q : Type 0} (r : Result T E) → OnErr r P → (P → Q) → OnErr r Q
on_err (Ok x) p then = tt
on_err (Err e) p then = then p

no_fault : (P : Fault → Type 0) (e : ChangeErr) → IsRefusal (λ fault. ⊥) e → IsRefusal P e
no_fault P (err.Refused fault) none = absurd none
no_fault P err.Memory none = tt

if_err : {T : Type 0} {P Q : ChangeErr → Type 0} (r : Result T ChangeErr) → IfErr r P → ((e : ChangeErr) → P e → Q e) → IfErr r Q
if_err (Ok x) p then = tt
if_err (Err e) p then = then e p

refusal : (P : Fault → Type 0) (e : ChangeErr) → ((fault : Fault) → e ≡ err.Refused fault → P fault) → IsRefusal P e
refusal P (err.Refused fault) then = then fault refl
refusal P err.Memory then = tt

pub install-requires-clause-can : goal.install-requires-clause-can
install-requires-clause-can c = ok_is c.boundary.result c.in-Ok.next (CanInstall c.args.flat.now c.boundary.new.self) c.in-Ok.is c.boundary.ensures.of

pub returns-in-Ok-clause-passed : goal.returns-in-Ok-clause-passed
returns-in-Ok-clause-passed c =
    let flat = c.args.flat.now in
    let old = c.args.cluster.now in
    let crossed = c.boundary.new.self in
    let next = c.in-Ok.next in
    if_ok c.install.result c.install.ensures.new c.install.ensures.begun c.install.ensures.of c.install.ensures.stands (λ new new_is begun of stands. (
      next,
      new_is,
      crossed,
      record {
        crossed_is = c.boundary.ensures.crossed;
        crosses = c.boundary.ensures.crosses;
        can = ok_is c.boundary.result next (CanInstall flat crossed) c.in-Ok.is c.boundary.ensures.of;
        begun = begun;
        of = of;
        stands = stands;
        answered = record {
          done = c.requires.over;
          leads = λ model cells checked own. answers_lead flat.tables old.number (asks_of model flat cells) old.table crossed.table next
              (ok_is c.boundary.result next (IsNext flat.tables old.number (asks_of model flat cells) old.table crossed.table) c.in-Ok.is (c.boundary.ensures.answer model cells checked own).next);
          after = λ model cells checked own. (c.boundary.ensures.answer model cells checked own).after;
        };
      },
    ))

pub returns-in-Ok-clause-refused : goal.returns-in-Ok-clause-refused
returns-in-Ok-clause-refused c = if_err c.install.result c.install.ensures.memory (λ e none. no_fault _ e none)

pub returns-in-Ok-clause-left : goal.returns-in-Ok-clause-left
returns-in-Ok-clause-left c = on_err c.install.result c.install.ensures.err (λ same. subst (HasLeft c.args.cluster.now) (sym same) c.boundary.ensures.crossed)

pub returns-in-Err-clause-refused : goal.returns-in-Err-clause-refused
returns-in-Err-clause-refused c =
    let flat = c.args.flat.now in
    let old = c.args.cluster.now in
    refusal _ c.in-Err.refused (λ fault is. record {
      done = c.requires.over;
      leads = λ model cells checked own.
          (let P = IsChangeFault flat.tables old.number (asks_of model flat cells) old.table in
          subst (IsRefusal P) is (err_is c.boundary.result c.in-Err.refused (IsRefusal P) c.in-Err.is (c.boundary.ensures.answer model cells checked own).refused));
      after = λ model cells checked own. (c.boundary.ensures.answer model cells checked own).after;
    })

pub returns-in-Err-clause-left : goal.returns-in-Err-clause-left
returns-in-Err-clause-left c = c.boundary.ensures.crossed
