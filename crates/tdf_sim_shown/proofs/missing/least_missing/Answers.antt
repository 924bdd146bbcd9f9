use Rattle.std.proofs.Common.{◌∙◌, ◌<◌, None, ap, arith, length, min, slice_index_or}
use Rattle.std.proofs.lemmas.Option.{slice_get-get_or}
use Rattle.tdf_sim_shown.proofs.Telling.{least_all, least_next, least_none}
use Rattle.tdf_sim_shown.proofs.missing.least_missing.Goals as goal

pub loop-k-init : goal.loop-k-init
loop-k-init c = least_none c.args.time

pub first_missing-requires : goal.first_missing-requires
first_missing-requires c =
    let less : c.loop-k.k < length c.args.windows.now = c.loop-k-test.true in
    record { room = c.requires.room c.loop-k.k (slice_index_or c.args.windows.now c.loop-k.k None) (slice_get-get_or c.args.windows.now c.loop-k.k None less) }

pub loop-k-preserved : goal.loop-k-preserved
loop-k-preserved c =
    let less : c.loop-k.k < length c.args.windows.now = c.loop-k-test.true in
    c.min-least.ensures ∙ ap (min c.loop-k.least) c.first_missing.ensures
    ∙ least_next c.args.time c.args.windows.now c.loop-k.k c.loop-k.least (slice_index_or c.args.windows.now c.loop-k.k None) (slice_get-get_or c.args.windows.now c.loop-k.k None less) c.loop-k.invariant

pub returns : goal.returns
returns c =
    let past = c.loop-k-test.false in let end = c.loop-k.auto.k-end in
    least_all c.args.time c.args.windows.now c.loop-k.k c.loop-k.least (omega (arith, past, end)) c.loop-k.invariant
