use Rattle.std.proofs.Common.{◌+◌, ◌<◌, ◌≤◌, length, subst, sym, rules}
use Rattle.std.proofs.lemmas.Option.{slice_get-get_or}
use Rattle.std.specs.Prelude.{Err, Ok, OnErr, Result, slice_index_or}
use Rattle.tdf_exec.proofs.Greatest.{all_most, rooms_next, rooms_none, too_many}
use Rattle.tdf_exec.specs.Gained.{sent_size, traced_size}
use Rattle.tdf_exec.specs.machine.Telling.{AreRooms}
use Rattle.tdf_schedule.specs.declared.entry.Entry.{Entry}
use Rattle.tdf_exec.proofs.telling.most_of.Goals as goal

on_any : {T E Q : Type 0} (r : Result T E) → Q → OnErr r Q
on_any (Ok x) q = tt
on_any (Err e) q = q

abbrev none : Entry
none = record { offset = 0; level = 0; actor = 0; index = 0 }

pub loop-i-init : goal.loop-i-init
loop-i-init c = rooms_none c.args.actors.now.runners c.args.entries.now

pub loop-i-preserved : goal.loop-i-preserved
loop-i-preserved c =
    let below : c.loop-i.i < length c.args.entries.now = search rules in
    subst (AreRooms c.args.actors.now.runners c.args.entries.now (c.loop-i.i + 1)) (sym c.in_ok-rooms.ensures.next)
    (rooms_next c.args.actors.now.runners c.args.entries.now c.requires.sorted c.loop-i.i (slice_index_or c.args.entries.now c.loop-i.i none)
    (slice_get-get_or c.args.entries.now c.loop-i.i none below) c.loop-i.rooms c.loop-i.invariant)

pub returns-clause-sent : goal.returns-clause-sent
returns-clause-sent c =
    let all : length c.args.entries.now ≤ c.loop-i.i = search rules in
    all_most sent_size c.args.actors.now.runners c.args.entries.now c.loop-i.i c.loop-i.rooms.most.sent all c.loop-i.invariant.sent.most_is

pub returns-clause-traced : goal.returns-clause-traced
returns-clause-traced c =
    let all : length c.args.entries.now ≤ c.loop-i.i = search rules in
    all_most traced_size c.args.actors.now.runners c.args.entries.now c.loop-i.i c.loop-i.rooms.most.traced all c.loop-i.invariant.traced.most_is

pub returns-in_err-rooms-clause-large : goal.returns-in_err-rooms-clause-large
returns-in_err-rooms-clause-large c =
    let below : c.loop-i.i < length c.args.entries.now = search rules in
    on_any c.from_residual.result
    (too_many c.args.actors.now.runners c.args.entries.now c.requires.sorted c.loop-i.i (slice_index_or c.args.entries.now c.loop-i.i none) (slice_get-get_or c.args.entries.now c.loop-i.i none below)
    c.loop-i.rooms c.loop-i.invariant c.in_err-rooms.ensures.large)
