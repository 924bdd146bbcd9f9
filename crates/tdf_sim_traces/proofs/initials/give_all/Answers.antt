use Rattle.std.proofs.Common.{rules, ◌≡◌, ◌<◌, Some, length, slice_get, slice_index_or, sym, subst, refl}
use Rattle.std.proofs.lemmas.Option.{slice_get-get_or}
use Rattle.tdf_trace.specs.Tracked.{AreSince}
use Rattle.tdf_sim_traces.proofs.Giving.{gives_more, none_given}
use Rattle.tdf_sim_traces.proofs.initials.give_all.Goals as goal
use Rattle.tdf_sim_traces.specs.declared.signals.TracedSignal.{TracedSignal}

pub loop-k-init : goal.loop-k-init
loop-k-init c = record {
  took = none_given c.args.tables.now c.args.signals.now c.args.tracking.now.list c.args.trace.now.rows;
  labels = refl;
  sinces = refl;
  since = c.requires.since;
  width = refl;
  upto = refl;
  stage = refl;
  about = refl;
}

pub give_one-requires-clause-since : goal.give_one-requires-clause-since
give_one-requires-clause-since c = subst (λ n. AreSince n c.loop-k.tracking.list) (sym c.loop-k.invariant.upto) c.loop-k.invariant.since

pub loop-k-preserved : goal.loop-k-preserved
loop-k-preserved c =
    let less : c.loop-k.k < length c.args.signals.now = search rules in
    let t : TracedSignal = slice_index_or c.args.signals.now c.loop-k.k (record { cluster = 0; «module» = 0; port = 0; signal = 0 }) in
    let at : slice_get c.args.signals.now c.loop-k.k ≡ Some t = slice_get-get_or c.args.signals.now c.loop-k.k _ less in
    gives_more c.args.tables.now c.args.signals.now c.loop-k.k t c.args.tracking.now c.loop-k.tracking c.give_one.new.tracking c.args.trace.now c.loop-k.trace c.give_one.new.trace at c.loop-k.invariant
    c.in_ok-give_one.ensures.took c.give_one.ensures.width c.give_one.ensures.labels c.give_one.ensures.sinces c.give_one.ensures.since c.give_one.ensures.upto c.give_one.ensures.stage c.give_one.ensures.about
