use Rattle.std.proofs.Common.{◌≤◌, arith}
use Rattle.std.proofs.lemmas.Bool.Decides.{nat_tests}
use Rattle.std.specs.Prelude.{slice_index_or}
use Rattle.tdf_convert.proofs.Halves.{all_from}
use Rattle.tdf_schedule.specs.declared.entry.Entry.{Entry}
use Rattle.tdf_convert.proofs.near.are_from.Goals as goal

pub returns : goal.returns
returns c told j x past at =
    let none : Entry = record { offset = 0; level = 0; actor = 0; index = 0 } in
    let first : c.args.offset ≤ (slice_index_or c.args.entries.now c.args.place none).offset = grind (arith, nat_tests, told) in
    all_from c.args.entries.now c.args.place c.args.offset none c.requires.sorted first j x past at
