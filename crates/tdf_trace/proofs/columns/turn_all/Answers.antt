use Rattle.std.proofs.Common.{rules, ◌≡◌, ◌<◌, ◌+◌, ◌-◌, ◌^◌, min, length, slice_get, slice_set, Some, refl, ap, sym, ◌∙◌, subst}
use Rattle.std.proofs.lemmas.Option.{slice_get_read}
use Rattle.tdf_trace.proofs.Kept.{next_step, turned_step}
use Rattle.tdf_trace.proofs.Puts.{set_here, set_other}
use Rattle.tdf_trace.proofs.columns.turn_all.Goals as goal
use Rattle.tdf_trace.specs.machine.Turning.{IsNext}

pub loop-i-preserved : goal.loop-i-preserved
loop-i-preserved c =
    let less : c.loop-i.i < length c.loop-i.columns.items = search rules in
    let here : slice_get c.loop-i.columns.items c.loop-i.i ≡ Some c.index_mut.result.now = slice_get_read c.loop-i.columns.items (length c.loop-i.columns.items) c.loop-i.i c.index_mut.result.now refl less c.index_mut.ensures.value in
    record {
      turned = turned_step c.args.time c.loop-i.i c.args.columns.now.items c.loop-i.columns.items c.index_mut.result.now c.turn-front.new.self c.loop-i.invariant.turned here c.turn-front.ensures.turned;
      next = subst (λ k. IsNext (slice_set c.loop-i.columns.items c.loop-i.i c.turn-front.new.self) (c.loop-i.i + 1) (2 ^ 64 - 1) k) (sym (c.min-least.ensures ∙ ap (λ k. min c.loop-i.least k) c.turn-front.ensures.next))
          (next_step c.loop-i.columns.items (slice_set c.loop-i.columns.items c.loop-i.i c.turn-front.new.self) c.loop-i.i (2 ^ 64 - 1) c.loop-i.least c.turn-front.new.self
          (λ place apart. set_other c.loop-i.columns.items c.loop-i.i place c.turn-front.new.self apart) (set_here c.loop-i.columns.items c.loop-i.i c.turn-front.new.self less) c.loop-i.invariant.next);
    }
