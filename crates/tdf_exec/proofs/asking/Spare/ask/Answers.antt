use Rattle.std.proofs.Common.{◌≡◌, ◌∙◌, List, Some, ap, arith, refl, subst, sym}
use Rattle.std.specs.Prelude.{slice_get}
use Rattle.tdf_cluster_net.specs.Numbers.{IsAmong}
use Rattle.tdf_dynamic.specs.Change.{asks_of}
use Rattle.tdf_dynamic_plans.proofs.Api.{rows_same}
use Rattle.tdf_exec.proofs.Moves.{all_inside, all_once, at_first, frames_of, have_cells, have_instances, later_long, out_is}
use Rattle.tdf_dynamic_plans.specs.Attributes.{AttrsOf}
use Rattle.tdf_exec.proofs.Owned.{kept_stands, module_isn't}
use Rattle.tdf_exec.specs.Crossing.{values_at}
use Rattle.tdf_exec.specs.declared.runners.Runner.TheVariants.{Module}
use Rattle.tdf_exec.specs.machine.Moving.{numbers_of}
use Rattle.tdf_exec.specs.views.Actors.{ActorsOf}
use Rattle.tdf_places.specs.Places.{PlacesOf}
use Rattle.tdf_exec.proofs.asking.Spare.ask.Goals as goal

pub next_plan-next-requires-clause-frames : goal.next_plan-next-requires-clause-frames
next_plan-next-requires-clause-frames c =
    frames_of c.args.flat.now c.args.attrs.now.rows c.args.actors.now.runners c.take_out.new.actors.runners c.take_out.new.frames.items c.take_out.new.rests.items c.requires.modules
    (out_is c.args.flat.now c.args.cluster c.args.attrs.now.rows c.deref.result.now c.args.attrs.now.rows c.args.attrs.now.rows (c.deref.ensures.value ∙ rows_same c.attrs.view_is) refl c.args.actors.now.runners c.take_out.new.actors.runners c.take_out.new.frames.items c.take_out.new.rests.items c.requires.modules c.take_out.ensures.out) c.requires.instances

pub put_back-requires-clause-inside : goal.put_back-requires-clause-inside
put_back-requires-clause-inside c = all_inside c.args.flat.now c.args.cluster c.args.attrs.now.rows c.deref.result.now c.deref-2.result.now c.next_plan-next.new.attrs.rows (c.deref.ensures.value ∙ rows_same c.attrs.view_is) (c.deref-2.ensures.value ∙ rows_same c.attrs-2.view_is)
    c.args.actors.now.runners c.take_out.new.actors.runners c.take_out.new.frames.items c.take_out.new.rests.items c.requires.modules c.take_out.ensures.out
    (asks_of c.requires.text.model c.args.flat.now (values_at c.args.actors.now.runners)) c.next_plan-next.result
    (c.next_plan-next.ensures.answer c.requires.text.model (values_at c.args.actors.now.runners) c.requires.text.checked
    (have_cells c.args.flat.now c.args.attrs.now.rows c.args.actors.now.runners c.take_out.new.actors.runners c.take_out.new.frames.items c.take_out.new.rests.items c.requires.modules
    (out_is c.args.flat.now c.args.cluster c.args.attrs.now.rows c.deref.result.now c.args.attrs.now.rows c.args.attrs.now.rows (c.deref.ensures.value ∙ rows_same c.attrs.view_is) refl c.args.actors.now.runners c.take_out.new.actors.runners c.take_out.new.frames.items c.take_out.new.rests.items c.requires.modules c.take_out.ensures.out) (values_at c.args.actors.now.runners) (λ i a at. refl))).next
    c.next_plan-next.ensures.kept

pub take_out-requires-clause-own : goal.take_out-requires-clause-own
take_out-requires-clause-own c i m at =
    let x = c.requires.modules.each i m (ap (λ (t : List AttrsOf). slice_get (numbers_of t) i) (sym (c.deref.ensures.value ∙ rows_same c.attrs.view_is)) ∙ at) in
    subst (λ (a : ActorsOf). IsAmong a.places.numbers m) c.actors.view_is
    (kept_stands c.actors.inside.places c.actors.inside.runners.items m (Module x.0) (ap (λ (a : ActorsOf). slice_get a.runners m) c.actors.view_is ∙ x.1) (module_isn't x.0))

pub put_back-requires-clause-own : goal.put_back-requires-clause-own
put_back-requires-clause-own c i m at =
    let x = c.requires.modules.each i m (at_first c.args.flat.now c.args.cluster c.args.attrs.now.rows c.deref.result.now c.deref-2.result.now c.next_plan-next.new.attrs.rows (c.deref.ensures.value ∙ rows_same c.attrs.view_is) (c.deref-2.ensures.value ∙ rows_same c.attrs-2.view_is)
    c.args.actors.now.runners c.take_out.new.actors.runners c.take_out.new.frames.items c.take_out.new.rests.items c.requires.modules c.take_out.ensures.out
    (asks_of c.requires.text.model c.args.flat.now (values_at c.args.actors.now.runners)) c.next_plan-next.result
    (c.next_plan-next.ensures.answer c.requires.text.model (values_at c.args.actors.now.runners) c.requires.text.checked
    (have_cells c.args.flat.now c.args.attrs.now.rows c.args.actors.now.runners c.take_out.new.actors.runners c.take_out.new.frames.items c.take_out.new.rests.items c.requires.modules
    (out_is c.args.flat.now c.args.cluster c.args.attrs.now.rows c.deref.result.now c.args.attrs.now.rows c.args.attrs.now.rows (c.deref.ensures.value ∙ rows_same c.attrs.view_is) refl c.args.actors.now.runners c.take_out.new.actors.runners c.take_out.new.frames.items c.take_out.new.rests.items c.requires.modules c.take_out.ensures.out) (values_at c.args.actors.now.runners) (λ i a at. refl))).next
    c.next_plan-next.ensures.kept i m at) in
    subst (λ (p : PlacesOf). IsAmong p.numbers m) (ap (λ (a : ActorsOf). a.places) c.actors.view_is ∙ sym (ap (λ (a : ActorsOf). a.places) c.take_out.ensures.rest))
    (kept_stands c.actors.inside.places c.actors.inside.runners.items m (Module x.0) (ap (λ (a : ActorsOf). slice_get a.runners m) c.actors.view_is ∙ x.1) (module_isn't x.0))

pub put_back-requires-clause-once : goal.put_back-requires-clause-once
put_back-requires-clause-once c = all_once c.args.flat.now c.args.cluster c.args.attrs.now.rows c.deref.result.now c.deref-2.result.now c.next_plan-next.new.attrs.rows (c.deref.ensures.value ∙ rows_same c.attrs.view_is) (c.deref-2.ensures.value ∙ rows_same c.attrs-2.view_is)
    c.args.actors.now.runners c.take_out.new.actors.runners c.take_out.new.frames.items c.take_out.new.rests.items c.requires.modules c.take_out.ensures.out
    (asks_of c.requires.text.model c.args.flat.now (values_at c.args.actors.now.runners)) c.next_plan-next.result
    (c.next_plan-next.ensures.answer c.requires.text.model (values_at c.args.actors.now.runners) c.requires.text.checked
    (have_cells c.args.flat.now c.args.attrs.now.rows c.args.actors.now.runners c.take_out.new.actors.runners c.take_out.new.frames.items c.take_out.new.rests.items c.requires.modules
    (out_is c.args.flat.now c.args.cluster c.args.attrs.now.rows c.deref.result.now c.args.attrs.now.rows c.args.attrs.now.rows (c.deref.ensures.value ∙ rows_same c.attrs.view_is) refl c.args.actors.now.runners c.take_out.new.actors.runners c.take_out.new.frames.items c.take_out.new.rests.items c.requires.modules c.take_out.ensures.out) (values_at c.args.actors.now.runners) (λ i a at. refl))).next
    c.next_plan-next.ensures.kept

pub put_back-requires-clause-frames_long : goal.put_back-requires-clause-frames_long
put_back-requires-clause-frames_long c =
    let long = later_long c.args.flat.now c.args.cluster c.args.attrs.now.rows c.deref.result.now c.deref-2.result.now c.next_plan-next.new.attrs.rows (c.deref.ensures.value ∙ rows_same c.attrs.view_is) (c.deref-2.ensures.value ∙ rows_same c.attrs-2.view_is)
    c.args.actors.now.runners c.take_out.new.actors.runners c.take_out.new.frames.items c.take_out.new.rests.items c.requires.modules c.take_out.ensures.out
    (asks_of c.requires.text.model c.args.flat.now (values_at c.args.actors.now.runners)) c.next_plan-next.result
    (c.next_plan-next.ensures.answer c.requires.text.model (values_at c.args.actors.now.runners) c.requires.text.checked
    (have_cells c.args.flat.now c.args.attrs.now.rows c.args.actors.now.runners c.take_out.new.actors.runners c.take_out.new.frames.items c.take_out.new.rests.items c.requires.modules
    (out_is c.args.flat.now c.args.cluster c.args.attrs.now.rows c.deref.result.now c.args.attrs.now.rows c.args.attrs.now.rows (c.deref.ensures.value ∙ rows_same c.attrs.view_is) refl c.args.actors.now.runners c.take_out.new.actors.runners c.take_out.new.frames.items c.take_out.new.rests.items c.requires.modules c.take_out.ensures.out) (values_at c.args.actors.now.runners) (λ i a at. refl))).next
    c.next_plan-next.ensures.kept in
    let out = (out_is c.args.flat.now c.args.cluster c.args.attrs.now.rows c.deref.result.now c.args.attrs.now.rows c.args.attrs.now.rows (c.deref.ensures.value ∙ rows_same c.attrs.view_is) refl c.args.actors.now.runners c.take_out.new.actors.runners c.take_out.new.frames.items c.take_out.new.rests.items c.requires.modules c.take_out.ensures.out) in
    let n = c.next_plan-next.ensures.long in let f = out.frames_long in
    omega (arith, long, n, f)

pub put_back-requires-clause-rests_long : goal.put_back-requires-clause-rests_long
put_back-requires-clause-rests_long c =
    let long = later_long c.args.flat.now c.args.cluster c.args.attrs.now.rows c.deref.result.now c.deref-2.result.now c.next_plan-next.new.attrs.rows (c.deref.ensures.value ∙ rows_same c.attrs.view_is) (c.deref-2.ensures.value ∙ rows_same c.attrs-2.view_is)
    c.args.actors.now.runners c.take_out.new.actors.runners c.take_out.new.frames.items c.take_out.new.rests.items c.requires.modules c.take_out.ensures.out
    (asks_of c.requires.text.model c.args.flat.now (values_at c.args.actors.now.runners)) c.next_plan-next.result
    (c.next_plan-next.ensures.answer c.requires.text.model (values_at c.args.actors.now.runners) c.requires.text.checked
    (have_cells c.args.flat.now c.args.attrs.now.rows c.args.actors.now.runners c.take_out.new.actors.runners c.take_out.new.frames.items c.take_out.new.rests.items c.requires.modules
    (out_is c.args.flat.now c.args.cluster c.args.attrs.now.rows c.deref.result.now c.args.attrs.now.rows c.args.attrs.now.rows (c.deref.ensures.value ∙ rows_same c.attrs.view_is) refl c.args.actors.now.runners c.take_out.new.actors.runners c.take_out.new.frames.items c.take_out.new.rests.items c.requires.modules c.take_out.ensures.out) (values_at c.args.actors.now.runners) (λ i a at. refl))).next
    c.next_plan-next.ensures.kept in
    let out = (out_is c.args.flat.now c.args.cluster c.args.attrs.now.rows c.deref.result.now c.args.attrs.now.rows c.args.attrs.now.rows (c.deref.ensures.value ∙ rows_same c.attrs.view_is) refl c.args.actors.now.runners c.take_out.new.actors.runners c.take_out.new.frames.items c.take_out.new.rests.items c.requires.modules c.take_out.ensures.out) in
    let f = out.rests_long in
    omega (arith, long, f)

pub returns-clause-answer : goal.returns-clause-answer
returns-clause-answer c = λ model cells checked are. c.next_plan-next.ensures.answer model cells checked
    (have_cells c.args.flat.now c.args.attrs.now.rows c.args.actors.now.runners c.take_out.new.actors.runners c.take_out.new.frames.items c.take_out.new.rests.items c.requires.modules
    (out_is c.args.flat.now c.args.cluster c.args.attrs.now.rows c.deref.result.now c.args.attrs.now.rows c.args.attrs.now.rows (c.deref.ensures.value ∙ rows_same c.attrs.view_is) refl c.args.actors.now.runners c.take_out.new.actors.runners c.take_out.new.frames.items c.take_out.new.rests.items c.requires.modules c.take_out.ensures.out) cells are)

pub returns-clause-moved : goal.returns-clause-moved
returns-clause-moved c = λ model cells checked are. record {
  frames = c.next_plan-next.new.frames.modules.items;
  are = have_instances c.args.flat.now c.args.cluster c.args.attrs.now.rows c.deref.result.now c.deref-2.result.now c.next_plan-next.new.attrs.rows (c.deref.ensures.value ∙ rows_same c.attrs.view_is) (c.deref-2.ensures.value ∙ rows_same c.attrs-2.view_is)
      c.args.actors.now.runners c.take_out.new.actors.runners c.take_out.new.frames.items c.take_out.new.rests.items c.requires.modules c.take_out.ensures.out
      (asks_of c.requires.text.model c.args.flat.now (values_at c.args.actors.now.runners)) c.next_plan-next.result
      (c.next_plan-next.ensures.answer c.requires.text.model (values_at c.args.actors.now.runners) c.requires.text.checked
      (have_cells c.args.flat.now c.args.attrs.now.rows c.args.actors.now.runners c.take_out.new.actors.runners c.take_out.new.frames.items c.take_out.new.rests.items c.requires.modules
      (out_is c.args.flat.now c.args.cluster c.args.attrs.now.rows c.deref.result.now c.args.attrs.now.rows c.args.attrs.now.rows (c.deref.ensures.value ∙ rows_same c.attrs.view_is) refl c.args.actors.now.runners c.take_out.new.actors.runners c.take_out.new.frames.items c.take_out.new.rests.items c.requires.modules c.take_out.ensures.out) (values_at c.args.actors.now.runners) (λ i a at. refl))).next
      c.next_plan-next.ensures.kept
      c.next_plan-next.new.frames.modules.items c.put_back.new.actors.runners c.next_plan-next.ensures.long c.put_back.ensures.back;
  changed = c.next_plan-next.ensures.frames model cells checked
      (have_cells c.args.flat.now c.args.attrs.now.rows c.args.actors.now.runners c.take_out.new.actors.runners c.take_out.new.frames.items c.take_out.new.rests.items c.requires.modules
      (out_is c.args.flat.now c.args.cluster c.args.attrs.now.rows c.deref.result.now c.args.attrs.now.rows c.args.attrs.now.rows (c.deref.ensures.value ∙ rows_same c.attrs.view_is) refl c.args.actors.now.runners c.take_out.new.actors.runners c.take_out.new.frames.items c.take_out.new.rests.items c.requires.modules c.take_out.ensures.out) cells are);
}
