use Rattle.std.proofs.Common.{rules, ◌≡◌}
use Rattle.tdf_sim_traces.specs.Periods.{clock_of}
use Rattle.tdf_sim_shown.proofs.Columned.{are_both, are_good, rows_by}
use Rattle.tdf_sim_shown.proofs.Same.{on_off}
use Rattle.tdf_sim_shown.proofs.judging.valid_rows.Goals as goal

pub returns-then-are_good-clause-rows : goal.returns-then-are_good-clause-rows
returns-then-are_good-clause-rows c = λ model clusters at.
    rows_by model c.args.flat.now (clock_of c.args.clock.now) c.in_ok-windows.windows.items clusters c.in_ok-windows.ensures.are at c.deref.result.now c.least_missing-rows.result c.args.clock.now.time c.args.snapshot.now.time
    c.deref.ensures.value c.least_missing-rows.ensures c.requires.time

pub returns-then-are_good-clause-good : goal.returns-then-are_good-clause-good
returns-then-are_good-clause-good c = λ ok model clusters at.
    (let values : c.deref-3.result.now ≡ c.args.snapshot.now.kernel.values = search rules in
    let columns : c.deref-columns.result.now ≡ c.args.snapshot.now.columns = search rules in
    let rows = rows_by model c.args.flat.now (clock_of c.args.clock.now) c.in_ok-windows.windows.items clusters c.in_ok-windows.ensures.are at c.deref.result.now c.least_missing-rows.result c.args.clock.now.time c.args.snapshot.now.time
    c.deref.ensures.value c.least_missing-rows.ensures c.requires.time in
    are_good model c.args.flat.now (clock_of c.args.clock.now) c.in_ok-windows.windows.items clusters c.in_ok-windows.ensures.are at c.args.snapshot.now c.least_missing-rows.result rows c.args.clock.now.time c.deref-3.result.now
    c.deref-2.result.now c.deref-columns.result.now c.requires.time values c.deref-2.ensures.value columns (c.are_good.ensures.0 c.if-are_good.true))

pub returns-clause-bad : goal.returns-clause-bad
returns-clause-bad c = λ bad model clusters at good.
    (let values : c.deref-3.result.now ≡ c.args.snapshot.now.kernel.values = search rules in
    let columns : c.deref-columns.result.now ≡ c.args.snapshot.now.columns = search rules in
    let rows = rows_by model c.args.flat.now (clock_of c.args.clock.now) c.in_ok-windows.windows.items clusters c.in_ok-windows.ensures.are at c.deref.result.now c.least_missing-rows.result c.args.clock.now.time c.args.snapshot.now.time
    c.deref.ensures.value c.least_missing-rows.ensures c.requires.time in
    on_off c.are_good.result
    (c.are_good.ensures.1 (are_both model c.args.flat.now (clock_of c.args.clock.now) c.in_ok-windows.windows.items clusters c.in_ok-windows.ensures.are at c.args.snapshot.now c.least_missing-rows.result rows c.args.clock.now.time
    c.deref-3.result.now c.deref-2.result.now c.deref-columns.result.now c.requires.time values c.deref-2.ensures.value columns good))
    c.if-are_good.false)
