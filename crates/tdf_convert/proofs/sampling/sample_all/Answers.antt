use Rattle.std.proofs.Common.{rules, ◌≡◌, ◌<◌, Some, arith, length}
use Rattle.std.proofs.lemmas.Option.{slice_get-get_or}
use Rattle.std.specs.Prelude.{slice_get, slice_index_or}
use Rattle.tdf_convert.proofs.Samples.{sample_more}
use Rattle.tdf_schedule.specs.declared.entry.Entry.{Entry}
use Rattle.tdf_convert.proofs.sampling.sample_all.Goals as goal

pub loop-i-preserved : goal.loop-i-preserved
loop-i-preserved c =
    let zero : Entry = record { offset = 0; level = 0; actor = 0; index = 0 } in
    let x : Entry = slice_index_or c.args.entries.now c.loop-i.i zero in
    let inside : c.loop-i.i < length c.args.entries.now = omega arith in
    let at : slice_get c.args.entries.now c.loop-i.i ≡ Some x = slice_get-get_or c.args.entries.now c.loop-i.i zero inside in
    sample_more c.args.entries.now c.args.low c.loop-i.i c.args.links.now c.args.values.now c.args.inputs.now c.loop-i.inputs c.sample_one.new.inputs x
    c.requires.links c.requires.signals c.loop-i.invariant (search rules) at c.sample_one.ensures
