use Rattle.std.proofs.Common.{rules, arith, ◌≡◌, ◌<◌, ◌≤◌, ◌+◌, subst}
use Rattle.tdf_trace.proofs.Kept.{given_turned}
use Rattle.tdf_trace.proofs.Moving.{breaks_row, done_waiting, moves_none, moves_quiet, moves_row}
use Rattle.tdf_trace.proofs.Turns.{Next, next, sound_on, sound_shown}
use Rattle.tdf_trace.proofs.rows.write_next.Goals as goal
use Rattle.tdf_trace.specs.machine.Turning.{AreSound}
use Rattle.tdf_trace.specs.views.Seen.{rows_seen}

pub returns-then-time-limit-clause-sound : goal.returns-then-time-limit-clause-sound
returns-then-time-limit-clause-sound g c =
    let n = next (rows_seen c.args.rows.now) c.args.limit c.next_row-time.result c.requires.sound c.next_row-time.ensures c.requires.below in
    let w : c.next_row-time.result ≤ c.args.limit = n.within in
    let e : c.next_row-time.result ≡ c.args.limit = omega (arith, w) in
    subst (λ k. AreSound k c.args.rows.now.columns.items) e n.sound

pub returns-then-time-limit-clause-wrote : goal.returns-then-time-limit-clause-wrote
returns-then-time-limit-clause-wrote g c =
    let n = next (rows_seen c.args.rows.now) c.args.limit c.next_row-time.result c.requires.sound c.next_row-time.ensures c.requires.below in
    let w : c.next_row-time.result ≤ c.args.limit = n.within in
    let e : c.next_row-time.result ≡ c.args.limit = omega (arith, w) in
    let m : Next (rows_seen c.args.rows.now) c.args.limit c.args.limit = subst (λ k. Next (rows_seen c.args.rows.now) c.args.limit k) e n in
    moves_quiet c.args.about.now c.args.waits (rows_seen c.args.rows.now) c.args.limit _ m.sound m.low m.start

pub returns-then-is_held_back-clause-wrote : goal.returns-then-is_held_back-clause-wrote
returns-then-is_held_back-clause-wrote g c = moves_none c.args.about.now c.args.waits (rows_seen c.args.rows.now) _

pub returns-then-is_held_back-clause-done : goal.returns-then-is_held_back-clause-done
returns-then-is_held_back-clause-done g c _ =
    let n = next (rows_seen c.args.rows.now) c.args.limit c.next_row-time.result c.requires.sound c.next_row-time.ensures c.requires.below in
    let l : c.next_row-time.result < c.args.limit = omega arith in
    done_waiting c.args.waits (rows_seen c.args.rows.now) c.args.limit c.next_row-time.result n l (search rules) (search rules)

pub write_row-requires-clause-shown : goal.write_row-requires-clause-shown
write_row-requires-clause-shown g c =
    let n = next (rows_seen c.args.rows.now) c.args.limit c.next_row-time.result c.requires.sound c.next_row-time.ensures c.requires.below in
    sound_shown (c.next_row-time.result + 1) c.turn_all-rows.new.columns.items (sound_on c.args.rows.now.columns.items c.turn_all-rows.new.columns.items c.next_row-time.result n.sound c.turn_all-rows.ensures.turned)

pub returns-in-Ok-clause-sound : goal.returns-in-Ok-clause-sound
returns-in-Ok-clause-sound g c =
    let n = next (rows_seen c.args.rows.now) c.args.limit c.next_row-time.result c.requires.sound c.next_row-time.ensures c.requires.below in
    sound_on c.args.rows.now.columns.items c.turn_all-rows.new.columns.items c.next_row-time.result n.sound c.turn_all-rows.ensures.turned

pub returns-in-Ok-clause-wrote : goal.returns-in-Ok-clause-wrote
returns-in-Ok-clause-wrote g c =
    let n = next (rows_seen c.args.rows.now) c.args.limit c.next_row-time.result c.requires.sound c.next_row-time.ensures c.requires.below in
    let l : c.next_row-time.result < c.args.limit = omega arith in
    moves_row c.args.about.now c.args.waits (rows_seen c.args.rows.now) c.turn_all-rows.new.columns.items c.args.limit c.next_row-time.result _ _ n l c.turn_all-rows.ensures.turned
    (λ must. c.is_held_back.ensures.none (search rules) must) c.in-Ok.ensures.all

pub returns-in-Ok-clause-on : goal.returns-in-Ok-clause-on
returns-in-Ok-clause-on g c _ =
    let n = next (rows_seen c.args.rows.now) c.args.limit c.next_row-time.result c.requires.sound c.next_row-time.ensures c.requires.below in
    let low : c.args.rows.now.upto ≤ c.next_row-time.result = n.low in omega (arith, low)

pub returns-in-Err-clause-sound : goal.returns-in-Err-clause-sound
returns-in-Err-clause-sound g c =
    let n = next (rows_seen c.args.rows.now) c.args.limit c.next_row-time.result c.requires.sound c.next_row-time.ensures c.requires.below in
    sound_on c.args.rows.now.columns.items c.turn_all-rows.new.columns.items c.next_row-time.result n.sound c.turn_all-rows.ensures.turned

pub returns-in-Err-clause-part : goal.returns-in-Err-clause-part
returns-in-Err-clause-part g c =
    let n = next (rows_seen c.args.rows.now) c.args.limit c.next_row-time.result c.requires.sound c.next_row-time.ensures c.requires.below in
    let l : c.next_row-time.result < c.args.limit = omega arith in
    breaks_row c.args.about.now (rows_seen c.args.rows.now) c.turn_all-rows.new.columns.items c.args.limit c.next_row-time.result _ _ n l c.turn_all-rows.ensures.turned c.in-Err.ensures.part

pub returns-in-Ok-clause-kept : goal.returns-in-Ok-clause-kept
returns-in-Ok-clause-kept g c = record {
  next = c.turn_all-rows.ensures.next;
  given = λ none. given_turned c.next_row-time.result c.args.rows.now.columns.items c.turn_all-rows.new.columns.items c.turn_all-rows.ensures.turned (c.requires.kept.given none);
}

pub returns-in-Err-clause-kept : goal.returns-in-Err-clause-kept
returns-in-Err-clause-kept g c = record {
  next = c.turn_all-rows.ensures.next;
  given = λ none. given_turned c.next_row-time.result c.args.rows.now.columns.items c.turn_all-rows.new.columns.items c.turn_all-rows.ensures.turned (c.requires.kept.given none);
}
