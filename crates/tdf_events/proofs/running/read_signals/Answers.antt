use Rattle.std.proofs.Common.{rules, ◌≡◌, ◌<◌, Some, length, slice_get, slice_index}
use Rattle.std.proofs.lemmas.Option.{slice_get-get_or}
use Rattle.tdf_events.proofs.Reading.{read_more}
use Rattle.tdf_events.proofs.running.read_signals.Goals as goal

pub loop-i-preserved : goal.loop-i-preserved
loop-i-preserved c =
    let reads = c.args.reads.now in
    let i = c.loop-i.i in
    let less : i < length reads = search rules in
    let at : slice_get reads i ≡ Some (slice_index reads i) = slice_get-get_or reads i 0 less in
    read_more c.args.values.now c.args.signals.now reads i (slice_index reads i) c.args.ports.now c.loop-i.ports c.read_one.new.ports c.requires.can c.requires.long c.loop-i.invariant at (c.requires.inside i (slice_index reads i) at)
    c.read_one.ensures
