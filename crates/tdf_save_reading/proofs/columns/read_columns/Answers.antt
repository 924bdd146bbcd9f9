use Rattle.std.proofs.Common.{ℕ, Vec, Global, map, length, ◌<◌, ◌≤◌}
use Rattle.std.proofs.lemmas.List.{length-map}
use Rattle.tdf_save.proofs.Api.{at_map}
use Rattle.tdf_save.specs.Text.{saved_column}
use Rattle.tdf_save.specs.machine.Pieces.{IsNext}
use Rattle.tdf_save_reading.proofs.ColumnSteps.{ColumnFits, columns_each}
use Rattle.tdf_save_reading.proofs.ModuleReads.{why_weaker}
use Rattle.tdf_save_reading.proofs.ReadSteps.{each_none_read, each_piece, each_read, each_stuck}
use Rattle.tdf_save_reading.proofs.ValueSteps.{no_piece_at, piece_at}
use Rattle.tdf_save_reading.proofs.columns.read_columns.Goals as goal

pub loop-k-init : goal.loop-k-init
loop-k-init c = rw c.new-list.ensures.items (each_none_read saved_column ColumnFits IsNext (map (λ (z : Vec ℕ Global). z.items) c.args.labels.now) c.args.text.now, c.requires.next)

pub loop-k-preserved : goal.loop-k-preserved
loop-k-preserved c =
    let less : c.loop-k.k < length (map (λ (z : Vec ℕ Global). z.items) c.args.labels.now) = rw (length-map c.args.labels.now (λ (z : Vec ℕ Global). z.items)) c.loop-k-test.true in
    rw c.in_ok-put-in-Ok.ensures.put (
      each_read saved_column ColumnFits IsNext columns_each (map (λ (z : Vec ℕ Global). z.items) c.args.labels.now) c.args.text.now c.loop-k.k c.index-labels-k.result.items c.loop-k.list.items c.in-Ok.state c.loop-k.rest.now c.in-Ok.left.now
          less (at_map (λ (z : Vec ℕ Global). z.items) c.args.labels.now c.loop-k.k c.index-labels-k.result c.index-labels-k.is) c.loop-k.invariant.0
          (piece_at saved_column ColumnFits IsNext c.deref.result.now c.index-labels-k.result.items c.loop-k.rest.now c.in-Ok.state c.in-Ok.left.now c.deref.ensures.value c.in-Ok.ensures.is),
      c.in-Ok.ensures.is.end,
    )

pub returns-in-Err-clause-refused : goal.returns-in-Err-clause-refused
returns-in-Err-clause-refused c =
    let less : c.loop-k.k < length (map (λ (z : Vec ℕ Global). z.items) c.args.labels.now) = rw (length-map c.args.labels.now (λ (z : Vec ℕ Global). z.items)) c.loop-k-test.true in
    why_weaker c.in-Err.why
    (λ none. each_stuck saved_column ColumnFits IsNext columns_each (map (λ (z : Vec ℕ Global). z.items) c.args.labels.now) c.args.text.now c.loop-k.k c.index-labels-k.result.items c.loop-k.list.items c.loop-k.rest.now
    less (at_map (λ (z : Vec ℕ Global). z.items) c.args.labels.now c.loop-k.k c.index-labels-k.result c.index-labels-k.is) c.loop-k.invariant.0
    (no_piece_at saved_column ColumnFits IsNext c.deref.result.now c.index-labels-k.result.items c.loop-k.rest.now c.deref.ensures.value none)) c.in-Err.ensures.refused

pub returns-clause-is : goal.returns-clause-is
returns-clause-is c =
    let all : length (map (λ (z : Vec ℕ Global). z.items) c.args.labels.now) ≤ c.loop-k.k = rw (length-map c.args.labels.now (λ (z : Vec ℕ Global). z.items)) c.loop-k-test.false in
    each_piece saved_column ColumnFits IsNext (map (λ (z : Vec ℕ Global). z.items) c.args.labels.now) c.args.text.now c.loop-k.k c.loop-k.list.items c.loop-k.rest.now all c.loop-k.invariant.1 c.loop-k.invariant.0
