use Rattle.std.proofs.Common.{rules, ◌≡◌, ◌+◌, false, Some, length, slice_get, nat_eq, refl, subst}
use Rattle.std.proofs.lemmas.Option.{slice_get_read}
use Rattle.std.specs.List.{list_any}
use Rattle.tdf_sim_traces.proofs.Pushing.{listed_before, listed_now, never_driven, plain_driver}
use Rattle.tdf_sim_traces.proofs.signals.push_signal.Goals as goal
use Rattle.tdf_sim_traces.specs.declared.signals.TracedSignal.{TracedSignal}
use Rattle.tdf_sim_traces.specs.machine.Pushing.{AreSignalsTo, driver_of_trace}

pub returns-then-has_signal : goal.returns-then-has_signal
returns-then-has_signal c =
    let at : slice_get c.args.flat.now.tables.traces c.args.column ≡ Some c.index-row.result.now = slice_get_read c.args.flat.now.tables.traces (length c.args.flat.now.tables.traces) c.args.column c.index-row.result.now refl c.requires.column (search rules) in
    listed_before c.args.flat.now c.args.column c.index-row.result.now at c.args.list.now.items c.requires.so_far (search rules)

pub driver_of-requires : goal.driver_of-requires
driver_of-requires c =
    let at : slice_get c.args.flat.now.tables.traces c.args.column ≡ Some c.index-row.result.now = slice_get_read c.args.flat.now.tables.traces (length c.args.flat.now.tables.traces) c.args.column c.index-row.result.now refl c.requires.column (search rules) in
    c.requires.told.samples c.args.column c.index-row.result.now at

pub listed-requires-clause-traced : goal.listed-requires-clause-traced
listed-requires-clause-traced c =
    let at : slice_get c.args.flat.now.tables.traces c.args.column ≡ Some c.index-row.result.now = slice_get_read c.args.flat.now.tables.traces (length c.args.flat.now.tables.traces) c.args.column c.index-row.result.now refl c.requires.column (search rules) in
    let driven : driver_of_trace c.args.flat.now.tables c.index-row.result.now ≡ Some c.in-Some.port = search rules in
    record { column = c.args.column; row = c.index-row.result.now; there = at; samples = (plain_driver c.args.flat.now c.index-row.result.now c.in-Some.port driven).0; same = refl }

pub returns-in-None : goal.returns-in-None
returns-in-None c =
    let at : slice_get c.args.flat.now.tables.traces c.args.column ≡ Some c.index-row.result.now = slice_get_read c.args.flat.now.tables.traces (length c.args.flat.now.tables.traces) c.args.column c.index-row.result.now refl c.requires.column (search rules) in
    never_driven c.args.flat.now c.args.column c.index-row.result.now at c.args.list.now.items c.requires.so_far (search rules)

pub returns-in_ok-push-in-Some : goal.returns-in_ok-push-in-Some
returns-in_ok-push-in-Some c =
    let at : slice_get c.args.flat.now.tables.traces c.args.column ≡ Some c.index-row.result.now = slice_get_read c.args.flat.now.tables.traces (length c.args.flat.now.tables.traces) c.args.column c.index-row.result.now refl c.requires.column (search rules) in
    let none : list_any (λ (t : TracedSignal). nat_eq t.signal c.index-row.result.now.signal) c.args.list.now.items ≡ false = search rules in
    subst (AreSignalsTo c.args.flat.now (c.args.column + 1)) (search rules)
    (listed_now c.args.flat.now c.args.column c.index-row.result.now at c.args.list.now.items c.requires.so_far c.listed.result c.listed.ensures.listed c.listed.ensures.signal none)
