use Rattle.std.proofs.Common.{◌<◌, ◌-◌, arith}
use Rattle.std.proofs.lemmas.Bool.Decides.{nat_tests}
use Rattle.std.specs.Prelude.{slice_index_or}
use Rattle.tdf_convert.proofs.Halves.{all_below}
use Rattle.tdf_schedule.specs.declared.entry.Entry.{Entry}
use Rattle.tdf_convert.proofs.near.are_below.Goals as goal

pub returns : goal.returns
returns c told j x small at =
    let none : Entry = record { offset = 0; level = 0; actor = 0; index = 0 } in
    let last : (slice_index_or c.args.entries.now (c.args.place - 1) none).offset < c.args.offset = grind (arith, nat_tests, told) in
    all_below c.args.entries.now c.args.place c.args.offset none c.requires.sorted (omega (arith, small)) c.requires.within last j x small at
