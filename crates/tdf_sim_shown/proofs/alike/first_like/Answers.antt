use Rattle.std.proofs.Common.{◌<◌, arith, length, refl}
use Rattle.std.proofs.lemmas.Option.{slice_get_read}
use Rattle.tdf_sim_shown.proofs.Same.{like_here, more_unlike, on_off, same_here}
use Rattle.tdf_sim_shown.proofs.alike.first_like.Goals as goal
use Rattle.tdf_streams.proofs.Api.{get_inside}

pub returns-then-is_like : goal.returns-then-is_like
returns-then-is_like c =
    let traces = c.args.traces.now in
    let less : c.loop-k.k < c.args.column = c.loop-k-test.true in
    let inside : c.args.column < length traces = c.requires in
    let one = slice_get_read traces (length traces) c.loop-k.k c.index-traces-k.result refl (omega (arith, less, inside)) c.index-traces-k.is in
    let other = slice_get_read traces (length traces) c.args.column c.index-traces-column.result refl inside c.index-traces-column.is in
    record {
      within = omega (arith, less);
      is = like_here traces c.loop-k.k c.args.column c.index-traces-k.result c.index-traces-column.result one other (c.is_like.ensures.0 c.if-is_like.true);
      none = c.loop-k.invariant;
    }

pub loop-k-preserved : goal.loop-k-preserved
loop-k-preserved c =
    let traces = c.args.traces.now in
    let less : c.loop-k.k < c.args.column = c.loop-k-test.true in
    let inside : c.args.column < length traces = c.requires in
    let one = slice_get_read traces (length traces) c.loop-k.k c.index-traces-k.result refl (omega (arith, less, inside)) c.index-traces-k.is in
    let other = slice_get_read traces (length traces) c.args.column c.index-traces-column.result refl inside c.index-traces-column.is in
    more_unlike traces c.loop-k.k c.args.column c.loop-k.invariant
    (λ is. on_off c.is_like.result (c.is_like.ensures.1 (same_here traces c.loop-k.k c.args.column c.index-traces-k.result c.index-traces-column.result one other is)) c.if-is_like.false)

pub returns : goal.returns
returns c =
    let traces = c.args.traces.now in
    let past = c.loop-k-test.false in
    let here = get_inside traces c.args.column c.requires in
    record {
      within = omega arith;
      is = like_here traces c.args.column c.args.column here.0 here.0 here.1 here.1 (refl, refl);
      none = λ j less is. c.loop-k.invariant j (omega (arith, less, past)) is;
    }
