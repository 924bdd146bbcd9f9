use Rattle.std.proofs.Common.{rules, ◌≡◌, ◌<◌, ◌+◌, Some, length, refl, sym, subst, slice_get, slice_set}
use Rattle.std.proofs.lemmas.Option.{slice_get_read}
use Rattle.tdf_sim_traces.proofs.Noting.{more_shown, none_shown}
use Rattle.tdf_sim_traces.proofs.events.show_all.Goals as goal
use Rattle.tdf_sim_traces.specs.declared.events.EventColumn.{EventColumn}
use Rattle.tdf_sim_traces.specs.machine.Noting.{IsShowing}

pub loop-k-init : goal.loop-k-init
loop-k-init c = none_shown c.args.values.now c.args.time c.args.events.now.items c.args.trace.now

pub loop-k-preserved : goal.loop-k-preserved
loop-k-preserved c =
    let less : c.loop-k.k < length c.loop-k.events.items = search rules in
    let at : slice_get c.loop-k.events.items c.loop-k.k ≡ Some c.index_mut.result.now = slice_get_read c.loop-k.events.items (length c.loop-k.events.items) c.loop-k.k c.index_mut.result.now refl less (search rules) in
    subst (λ (e : EventColumn). IsShowing c.args.values.now c.args.time (c.loop-k.k + 1) c.args.events.now.items (slice_set c.loop-k.events.items c.loop-k.k e) c.args.trace.now c.show.new.trace) (sym c.show.ensures.shown)
    (more_shown c.args.values.now c.args.time c.loop-k.k c.args.events.now.items c.loop-k.events.items c.index_mut.result.now c.args.trace.now c.loop-k.trace c.show.new.trace at less c.loop-k.invariant
    c.in_ok-show.ensures.took c.show.ensures.upto c.show.ensures.stage c.show.ensures.about)
