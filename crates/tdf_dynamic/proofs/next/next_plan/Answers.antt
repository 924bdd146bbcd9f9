use Rattle.std.proofs.Common.{◌∙◌, List, inl, refl, length, subst, sym}
use Rattle.std.specs.Prelude.{IfErr, IfOk, IsOk}
use Rattle.tdf_dynamic.proofs.Answering.{after_attributes, all_found, all_refused, all_tell, along, have_changed, have_table, is_after, new_is, refused_is, tell}
use Rattle.tdf_dynamic.proofs.Boundary.{Tell, flags_are, same_from, same_is}
use Rattle.tdf_dynamic.proofs.Rows.{not_both}
use Rattle.tdf_dynamic.specs.Asked.{IsQuiet}
use Rattle.tdf_dynamic.specs.Change.{IsSame, asks_of, table_after}
use Rattle.tdf_dynamic.specs.Next.{IsNext}
use Rattle.tdf_dynamic.specs.declared.frames.ModuleFrame.{ModuleFrame}
use Rattle.tdf_dynamic.specs.machine.Asking.{AllTell, told}
use Rattle.tdf_dynamic.specs.machine.Boundary.{IsFound, IsRefusedAt, NoneMarks}
use Rattle.tdf_dynamic.specs.machine.Rows.{AreAfter, AreFlagged, HoldsBelow}
use Rattle.tdf_dynamic_plans.specs.Attributes.{AttrsOf}
use Rattle.tdf_dynamic_plans.specs.Faults.{IsRefusal}
use Rattle.tdf_dynamic_plans.proofs.Api.{known_same, rows_same}
use Rattle.tdf_dynamic_plans.specs.Known.{AreTrueFor, PlansOf}
use Rattle.tdf_streams.specs.Periods.{AreAttributes}
use Rattle.tdf_dynamic.proofs.next.next_plan.Goals as goal

pub is_same-requires : goal.is_same-requires
is_same-requires c = record {
  tells = along (AllTell c.args.flat.now) c.args.attrs.now.rows c.deref-2.result.now c.run_changes.new.frames.items c.deref-3.result.now (sym (c.deref-2.ensures.value ∙ rows_same c.attrs.view_is)) (sym c.deref-3.ensures.value)
      (all_tell c.args.flat.now c.args.attrs.now.rows c.args.frames.now.modules.items c.run_changes.new.frames.items c.requires.frames (have_table c.args.flat.now c.deref.result.now c.args.attrs.now.rows c.args.frames.now.modules.items c.run_changes.new.frames.items (c.deref.ensures.value ∙ rows_same c.attrs.view_is) c.run_changes.ensures.asked));
}

pub returns-then-is_same-clause-frames : goal.returns-then-is_same-clause-frames
returns-then-is_same-clause-frames c = λ model cells checked have.
    have_changed c.args.flat.now c.args.attrs.now.rows c.args.frames.now.modules.items c.run_changes.new.frames.items c.requires.frames (have_table c.args.flat.now c.deref.result.now c.args.attrs.now.rows c.args.frames.now.modules.items c.run_changes.new.frames.items (c.deref.ensures.value ∙ rows_same c.attrs.view_is) c.run_changes.ensures.asked) model cells checked have

pub changed-requires-clause-tells : goal.changed-requires-clause-tells
changed-requires-clause-tells c = along (AllTell c.args.flat.now) c.args.attrs.now.rows c.deref-4.result.now c.run_changes.new.frames.items c.deref-5.result.now (sym (c.deref-4.ensures.value ∙ rows_same c.attrs.view_is)) (sym c.deref-5.ensures.value)
    (all_tell c.args.flat.now c.args.attrs.now.rows c.args.frames.now.modules.items c.run_changes.new.frames.items c.requires.frames (have_table c.args.flat.now c.deref.result.now c.args.attrs.now.rows c.args.frames.now.modules.items c.run_changes.new.frames.items (c.deref.ensures.value ∙ rows_same c.attrs.view_is) c.run_changes.ensures.asked))

pub changed-requires-clause-known : goal.changed-requires-clause-known
changed-requires-clause-known c = subst (λ (s : PlansOf). AreTrueFor c.args.flat.now.tables c.args.cluster s.plans) (sym (known_same c.attrs.view_is)) c.requires.known

pub changed-requires-clause-after : goal.changed-requires-clause-after
changed-requires-clause-after c = λ after is. after_attributes c.args.flat.now c.args.attrs.now.rows c.args.frames.now.modules.items c.run_changes.new.frames.items c.requires.frames (have_table c.args.flat.now c.deref.result.now c.args.attrs.now.rows c.args.frames.now.modules.items c.run_changes.new.frames.items (c.deref.ensures.value ∙ rows_same c.attrs.view_is) c.run_changes.ensures.asked) c.args.cluster c.requires.attributes after
    (along (λ (t : List AttrsOf) (k : List ModuleFrame). AreAfter t k (length t) after) c.deref-4.result.now c.args.attrs.now.rows c.deref-5.result.now c.run_changes.new.frames.items (c.deref-4.ensures.value ∙ rows_same c.attrs.view_is) c.deref-5.ensures.value is)

pub returns-clause-frames : goal.returns-clause-frames
returns-clause-frames c = λ model cells checked have.
    have_changed c.args.flat.now c.args.attrs.now.rows c.args.frames.now.modules.items c.run_changes.new.frames.items c.requires.frames (have_table c.args.flat.now c.deref.result.now c.args.attrs.now.rows c.args.frames.now.modules.items c.run_changes.new.frames.items (c.deref.ensures.value ∙ rows_same c.attrs.view_is) c.run_changes.ensures.asked) model cells checked have

pub returns-then-is_same-clause-answer : goal.returns-then-is_same-clause-answer
returns-then-is_same-clause-answer c = λ model cells checked have. record {
  next =
      let tell : Tell (asks_of model c.args.flat.now cells) c.args.attrs.now.rows c.run_changes.new.frames.items = tell c.args.flat.now c.args.attrs.now.rows c.args.frames.now.modules.items c.run_changes.new.frames.items c.requires.frames (have_table c.args.flat.now c.deref.result.now c.args.attrs.now.rows c.args.frames.now.modules.items c.run_changes.new.frames.items (c.deref.ensures.value ∙ rows_same c.attrs.view_is) c.run_changes.ensures.asked) model cells checked have in
      let quiet : HoldsBelow (λ attrs f. IsQuiet attrs (told f)) c.args.attrs.now.rows c.run_changes.new.frames.items (length c.args.attrs.now.rows) =
      along (λ (t : List AttrsOf) (k : List ModuleFrame). HoldsBelow (λ attrs f. IsQuiet attrs (told f)) t k (length t)) c.deref-2.result.now c.args.attrs.now.rows c.deref-3.result.now c.run_changes.new.frames.items (c.deref-2.ensures.value ∙ rows_same c.attrs.view_is) c.deref-3.ensures.value (c.is_same.ensures.0 c.if-is_same.true) in (
        same_is (asks_of model c.args.flat.now cells) c.args.attrs.now.rows c.run_changes.new.frames.items tell quiet,
        flags_are (asks_of model c.args.flat.now cells) c.args.attrs.now.rows c.run_changes.new.frames.items tell c.set_flags.new.table.items
            (along (λ (t : List AttrsOf) (k : List ModuleFrame). AreFlagged t k (length t) c.set_flags.new.table.items) c.attrs.inside.rows.items c.args.attrs.now.rows c.deref-then-is_same.result.now c.run_changes.new.frames.items (rows_same c.attrs.view_is) c.deref-then-is_same.ensures.value
            c.set_flags.ensures) quiet,
      );
  refused = tt;
  after =
      let tell : Tell (asks_of model c.args.flat.now cells) c.args.attrs.now.rows c.run_changes.new.frames.items = tell c.args.flat.now c.args.attrs.now.rows c.args.frames.now.modules.items c.run_changes.new.frames.items c.requires.frames (have_table c.args.flat.now c.deref.result.now c.args.attrs.now.rows c.args.frames.now.modules.items c.run_changes.new.frames.items (c.deref.ensures.value ∙ rows_same c.attrs.view_is) c.run_changes.ensures.asked) model cells checked have in
      after_attributes c.args.flat.now c.args.attrs.now.rows c.args.frames.now.modules.items c.run_changes.new.frames.items c.requires.frames (have_table c.args.flat.now c.deref.result.now c.args.attrs.now.rows c.args.frames.now.modules.items c.run_changes.new.frames.items (c.deref.ensures.value ∙ rows_same c.attrs.view_is) c.run_changes.ensures.asked) c.args.cluster c.requires.attributes (table_after (asks_of model c.args.flat.now cells) c.args.attrs.now.rows)
      (is_after (asks_of model c.args.flat.now cells) c.args.attrs.now.rows c.run_changes.new.frames.items tell);
  same_always = λ same. refl;
  refused_always = λ fault is.
      let tell : Tell (asks_of model c.args.flat.now cells) c.args.attrs.now.rows c.run_changes.new.frames.items = tell c.args.flat.now c.args.attrs.now.rows c.args.frames.now.modules.items c.run_changes.new.frames.items c.requires.frames (have_table c.args.flat.now c.deref.result.now c.args.attrs.now.rows c.args.frames.now.modules.items c.run_changes.new.frames.items (c.deref.ensures.value ∙ rows_same c.attrs.view_is) c.run_changes.ensures.asked) model cells checked have in
      let quiet : HoldsBelow (λ attrs f. IsQuiet attrs (told f)) c.args.attrs.now.rows c.run_changes.new.frames.items (length c.args.attrs.now.rows) =
      along (λ (t : List AttrsOf) (k : List ModuleFrame). HoldsBelow (λ attrs f. IsQuiet attrs (told f)) t k (length t)) c.deref-2.result.now c.args.attrs.now.rows c.deref-3.result.now c.run_changes.new.frames.items (c.deref-2.ensures.value ∙ rows_same c.attrs.view_is) c.deref-3.ensures.value (c.is_same.ensures.0 c.if-is_same.true) in
      absurd (is.differs (same_is (asks_of model c.args.flat.now cells) c.args.attrs.now.rows c.run_changes.new.frames.items tell quiet));
  new_always = λ plan is. inl refl;
}

pub returns-clause-answer : goal.returns-clause-answer
returns-clause-answer c = λ model cells checked have.
    let tell : Tell (asks_of model c.args.flat.now cells) c.args.attrs.now.rows c.run_changes.new.frames.items = tell c.args.flat.now c.args.attrs.now.rows c.args.frames.now.modules.items c.run_changes.new.frames.items c.requires.frames (have_table c.args.flat.now c.deref.result.now c.args.attrs.now.rows c.args.frames.now.modules.items c.run_changes.new.frames.items (c.deref.ensures.value ∙ rows_same c.attrs.view_is) c.run_changes.ensures.asked) model cells checked have in
    let differs : IsSame (asks_of model c.args.flat.now cells) c.args.attrs.now.rows → ⊥ = (λ same. not_both c.is_same.result c.if-is_same.false (c.is_same.ensures.1
    (along (λ (t : List AttrsOf) (k : List ModuleFrame). HoldsBelow (λ attrs f. IsQuiet attrs (told f)) t k (length t)) c.args.attrs.now.rows c.deref-2.result.now c.run_changes.new.frames.items c.deref-3.result.now (sym (c.deref-2.ensures.value ∙ rows_same c.attrs.view_is)) (sym c.deref-3.ensures.value) (same_from (asks_of model c.args.flat.now cells) c.args.attrs.now.rows c.run_changes.new.frames.items tell same)))) in
    let found = all_found c.law_one_answer.ensures c.args.flat.now c.args.cluster c.requires.limits c.requires.has (asks_of model c.args.flat.now cells) c.args.attrs.now.rows c.run_changes.new.frames.items tell c.requires.attributes differs c.changed.result
    (along (λ (t : List AttrsOf) (k : List ModuleFrame). IsOk c.changed.result → NoneMarks t k) c.deref-4.result.now c.args.attrs.now.rows c.deref-5.result.now c.run_changes.new.frames.items (c.deref-4.ensures.value ∙ rows_same c.attrs.view_is) c.deref-5.ensures.value c.changed.ensures.unmarked)
    (along (λ (t : List AttrsOf) (k : List ModuleFrame). IfOk c.changed.result (IsFound c.args.flat.now.tables c.args.cluster t k)) c.deref-4.result.now c.args.attrs.now.rows c.deref-5.result.now c.run_changes.new.frames.items (c.deref-4.ensures.value ∙ rows_same c.attrs.view_is) c.deref-5.ensures.value c.changed.ensures.found) in
    let bad = all_refused c.law_one_answer.ensures c.args.flat.now c.args.cluster c.requires.limits c.requires.has (asks_of model c.args.flat.now cells) c.args.attrs.now.rows c.run_changes.new.frames.items tell c.requires.attributes differs c.changed.result
    (along (λ (t : List AttrsOf) (k : List ModuleFrame). IfErr c.changed.result (IsRefusal (IsRefusedAt c.args.flat.now.tables c.args.cluster t k))) c.deref-4.result.now c.args.attrs.now.rows c.deref-5.result.now c.run_changes.new.frames.items (c.deref-4.ensures.value ∙ rows_same c.attrs.view_is) c.deref-5.ensures.value c.changed.ensures.refused) in
    let after : AreAttributes c.args.flat.now c.args.cluster (table_after (asks_of model c.args.flat.now cells) c.args.attrs.now.rows) =
    after_attributes c.args.flat.now c.args.attrs.now.rows c.args.frames.now.modules.items c.run_changes.new.frames.items c.requires.frames (have_table c.args.flat.now c.deref.result.now c.args.attrs.now.rows c.args.frames.now.modules.items c.run_changes.new.frames.items (c.deref.ensures.value ∙ rows_same c.attrs.view_is) c.run_changes.ensures.asked) c.args.cluster c.requires.attributes (table_after (asks_of model c.args.flat.now cells) c.args.attrs.now.rows) (is_after (asks_of model c.args.flat.now cells) c.args.attrs.now.rows c.run_changes.new.frames.items tell) in
    record {
      next = subst (λ (t : List AttrsOf). IfOk c.changed.result (IsNext c.args.flat.now.tables c.args.cluster (asks_of model c.args.flat.now cells) c.args.attrs.now.rows t)) (sym (rows_same c.attrs.view_is)) found;
      refused = bad;
      after = after;
      same_always = λ same. absurd (differs same);
      refused_always = refused_is c.law_one_answer.ensures c.args.flat.now c.args.cluster c.requires.limits c.requires.has (asks_of model c.args.flat.now cells) c.args.attrs.now.rows c.run_changes.new.frames.items tell c.requires.attributes differs after c.changed.result found bad;
      new_always = new_is c.law_one_answer.ensures c.args.flat.now c.args.cluster c.requires.limits c.requires.has (asks_of model c.args.flat.now cells) c.args.attrs.now.rows c.run_changes.new.frames.items tell c.requires.attributes differs after c.changed.result bad;
    }
