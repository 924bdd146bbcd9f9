use Rattle.std.proofs.Common.{◌≡◌, ◌<◌, ℕ, List, Ok, Err, length, subst, arith}
use Rattle.tdf_io.proofs.Api.{pieces_more, pieces_none, writes_none, writes_piece, writes_then}
use Rattle.tdf_io.specs.Bytes.{WritesText, pieces_text}
use Rattle.tdf_sim_notes.proofs.Listed.{first_is, piece_at, plans_are_pieces}
use Rattle.tdf_sim_notes.proofs.plans.write_each.Goals as goal

pub loop-place-init : goal.loop-place-init
loop-place-init g c = rw pieces_none (writes_none g.N.Sink.taken g.N.Sink.faults c.args.notes.now tt)

pub returns-in-Err : goal.returns-in-Err
returns-in-Err g c =
    let less : c.loop-place.place < length c.args.firsts.now = omega arith in
    let wrote = subst (λ (text : List ℕ). WritesText {T = Unit {0}} g.N.Sink.taken g.N.Sink.faults c.loop-place.notes c.write_plan.new.notes text (Err c.in-Err.error))
    (first_is c.args.flat.now c.args.firsts.now c.loop-place.place c.index-firsts-place.result less) c.in-Err.ensures in
    rw (plans_are_pieces c.args.flat.now c.args.firsts.now) (writes_piece g.N.Sink.taken g.N.Sink.faults _ _ _ (piece_at c.args.flat.now c.args.firsts.now) c.loop-place.place (length c.args.firsts.now) tt c.in-Err.error
    less c.loop-place.invariant wrote)

pub loop-place-preserved : goal.loop-place-preserved
loop-place-preserved g c =
    let less : c.loop-place.place < length c.args.firsts.now = omega arith in
    let wrote = subst (λ (text : List ℕ). WritesText g.N.Sink.taken g.N.Sink.faults c.loop-place.notes c.write_plan.new.notes text (Ok tt))
    (first_is c.args.flat.now c.args.firsts.now c.loop-place.place c.index-firsts-place.result less) c.in-Ok.ensures in
    rw pieces_more (writes_then g.N.Sink.taken g.N.Sink.faults _ _ _ (pieces_text (piece_at c.args.flat.now c.args.firsts.now) c.loop-place.place)
    (piece_at c.args.flat.now c.args.firsts.now c.loop-place.place) tt (Ok tt) c.loop-place.invariant wrote)

pub returns : goal.returns
returns g c =
    let all : c.loop-place.place ≡ length c.args.firsts.now = omega arith in
    rw (plans_are_pieces c.args.flat.now c.args.firsts.now) (subst (λ (n : ℕ). WritesText g.N.Sink.taken g.N.Sink.faults c.args.notes.now c.loop-place.notes (pieces_text (piece_at c.args.flat.now c.args.firsts.now) n) (Ok tt)) all c.loop-place.invariant)
