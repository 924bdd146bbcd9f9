use Rattle.std.proofs.Common.{◌≡◌, ◌<◌, ℕ, Ok, length, subst, arith}
use Rattle.tdf_io.proofs.Api.{pieces_more, pieces_none, writes_none, writes_piece, writes_then}
use Rattle.tdf_io.specs.Bytes.{WritesText, pieces_text}
use Rattle.tdf_trace.proofs.Declaring.{declarations_are}
use Rattle.tdf_trace.proofs.heads.write_declarations.Goals as goal
use Rattle.tdf_trace.specs.Vcd.{declaration_piece}
use Rattle.tdf_trace.specs.Writings.{labels_of, sizes_of}

pub loop-i-init : goal.loop-i-init
loop-i-init g c = rw pieces_none (writes_none g.K.Sink.taken g.K.Sink.faults c.args.sink.now tt)

pub returns-in-Err : goal.returns-in-Err
returns-in-Err g c =
    let less : c.loop-i.i < length c.args.variables.now.items = omega arith in
    rw (declarations_are c.args.variables.now.items) (writes_piece g.K.Sink.taken g.K.Sink.faults _ _ _ (declaration_piece (sizes_of c.args.variables.now.items) (labels_of c.args.variables.now.items)) c.loop-i.i (length c.args.variables.now.items) tt c.in-Err.error
    less c.loop-i.invariant c.in-Err.ensures)

pub loop-i-preserved : goal.loop-i-preserved
loop-i-preserved g c =
    rw pieces_more (writes_then g.K.Sink.taken g.K.Sink.faults _ _ _ (pieces_text (declaration_piece (sizes_of c.args.variables.now.items) (labels_of c.args.variables.now.items)) c.loop-i.i)
    (declaration_piece (sizes_of c.args.variables.now.items) (labels_of c.args.variables.now.items) c.loop-i.i) tt (Ok tt) c.loop-i.invariant c.in-Ok.ensures)

pub returns : goal.returns
returns g c =
    let all : c.loop-i.i ≡ length c.args.variables.now.items = omega arith in
    rw (declarations_are c.args.variables.now.items) (subst (λ (n : ℕ). WritesText g.K.Sink.taken g.K.Sink.faults c.args.sink.now c.loop-i.sink (pieces_text (declaration_piece (sizes_of c.args.variables.now.items) (labels_of c.args.variables.now.items)) n) (Ok tt)) all c.loop-i.invariant)
