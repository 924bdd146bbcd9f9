use Rattle.std.proofs.Common.{◌≡◌, ◌+◌, ap, arith, false, length, slice_index_or, subst, sym, ℕ}
use Rattle.std.proofs.lemmas.List.{drop_more}
use Rattle.tdf_dynamic_plans.specs.Attributes.{AttrsOf}
use Rattle.tdf_dynamic_values.proofs.Rows.{drop_read, rates_there, rows_end, rows_next, steps_there}
use Rattle.tdf_dynamic_values.specs.machine.Rows.{AreRowsSoFar}
use Rattle.tdf_dynamic_values.proofs.values.rows_by.Goals as goal

pub row_by-requires-clause-rates : goal.row_by-requires-clause-rates
row_by-requires-clause-rates c = rates_there c.args.rows.now c.args.accepts.now c.args.rates.now c.args.steps.now c.loop-i.i c.loop-i.new.items c.loop-i.rate c.loop-i.step c.loop-i.invariant
    c.index-rows-i.result (drop_read c.args.rows.now c.loop-i.i c.index-rows-i.result c.loop-i-test.true c.index-rows-i.is)

pub row_by-requires-clause-steps : goal.row_by-requires-clause-steps
row_by-requires-clause-steps c = steps_there c.args.rows.now c.args.accepts.now c.args.rates.now c.args.steps.now c.loop-i.i c.loop-i.new.items c.loop-i.rate c.loop-i.step c.loop-i.invariant
    c.index-rows-i.result (drop_read c.args.rows.now c.loop-i.i c.index-rows-i.result c.loop-i-test.true c.index-rows-i.is)

pub loop-i-preserved : goal.loop-i-preserved
loop-i-preserved c =
    let rates : c.len.result ≡ length c.index-rows-i.result.rates = (let e = c.len.ensures in let o = c.row.inside.rates.ok in let v = ap (λ (a : AttrsOf). length a.rates) c.row.view_is in omega (arith, e, o, v)) in
    let steps : c.len-in-loop-i.result ≡ length c.index-rows-i.result.steps = (let e = c.len-in-loop-i.ensures in let o = c.row.inside.steps.ok in let v = ap (λ (a : AttrsOf). length a.steps) c.row.view_is in omega (arith, e, o, v)) in
    subst (λ (n : ℕ). AreRowsSoFar c.args.rows.now c.args.accepts.now c.args.rates.now c.args.steps.now (c.loop-i.i + 1) c.push.new.self.items n (c.loop-i.step + c.len-in-loop-i.result)) (ap (λ n. c.loop-i.rate + n) (sym rates))
    (subst (λ (n : ℕ). AreRowsSoFar c.args.rows.now c.args.accepts.now c.args.rates.now c.args.steps.now (c.loop-i.i + 1) c.push.new.self.items (c.loop-i.rate + length c.index-rows-i.result.rates) n) (ap (λ n. c.loop-i.step + n) (sym steps))
    (rows_next c.args.rows.now c.args.accepts.now c.args.rates.now c.args.steps.now c.loop-i.i c.loop-i.new.items c.loop-i.rate c.loop-i.step c.loop-i.invariant
    c.index-rows-i.result (drop_read c.args.rows.now c.loop-i.i c.index-rows-i.result c.loop-i-test.true c.index-rows-i.is)
    (slice_index_or c.args.accepts.now c.loop-i.i false) (drop_more c.args.accepts.now c.loop-i.i false (let t = c.loop-i-test.true in let l = c.requires.accepts in omega (arith, t, l)))
    c.in_ok-row_by.field-0 c.push.new.self.items c.in_ok-row_by.ensures c.in_ok-push.ensures.items))

pub returns : goal.returns
returns c = rows_end c.args.rows.now c.args.accepts.now c.args.rates.now c.args.steps.now c.loop-i.i c.loop-i.new.items c.loop-i.rate c.loop-i.step c.loop-i.invariant (let t = c.loop-i-test.false in omega (arith, t))
