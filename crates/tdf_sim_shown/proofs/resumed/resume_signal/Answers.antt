use Rattle.std.proofs.Common.{rules, ◌≡◌, ◌∙◌, ◌*◌, ◌/◌, ◌≤◌, Some, ℕ, ap, arith, length, refl, slice_get}
use Rattle.std.proofs.Math.Nat.{div-mul-le_self, mul_comm}
use Rattle.std.proofs.lemmas.Option.{slice_get_read}
use Rattle.tdf_sim_shown.proofs.Going.{state_taken}
use Rattle.tdf_sim_shown.proofs.resumed.resume_signal.Goals as goal
use Rattle.tdf_sim_shown.specs.machine.Resuming.{given_from, later_in, rest_in}
use Rattle.tdf_sim_traces.specs.Periods.{positions_in}

pub resume-requires-clause-small : goal.resume-requires-clause-small
resume-requires-clause-small c =
    let e = c.rest_of-stamps.ensures.end in
    let p : c.period.result ≡ c.args.cluster.now.period = c.period.ensures in
    let d : c.period.result / c.positions-count.result * c.positions-count.result ≤ c.period.result = div-mul-le_self c.period.result c.positions-count.result in
    let m : c.period.result / c.positions-count.result * c.positions-count.result ≡ c.positions-count.result * (c.period.result / c.positions-count.result) = mul_comm (c.period.result / c.positions-count.result) c.positions-count.result in
    let s = c.requires.can.short in omega (arith, e, p, d, m, s)

pub returns-clause-took : goal.returns-clause-took
returns-clause-took c =
    let given : c.count_from-given.result ≡ given_from c.args.since c.args.state.now.samples = search rules in
    let there : slice_get c.args.flat.now.tables.signals c.args.traced.signal ≡ Some c.index.result.now =
    slice_get_read c.args.flat.now.tables.signals (length c.args.flat.now.tables.signals) c.args.traced.signal c.index.result.now refl c.requires.signal (search rules) in
    let waits : c.in_ok-later.later.items ≡ later_in c.index.result.now.format c.args.state.now.later c.rest_of-stamps.result.left = search rules in
    state_taken c.args.flat.now c.args.since c.args.cluster.now c.args.traced c.args.state.now c.args.rows c.args.tracking.now.list c.resume.new.self.list c.index.result.now c.rest_of-stamps.result c.in_ok-later.later.items there
    (c.rest_of-stamps.ensures.is
    ∙ ap (λ (k : ℕ). rest_in c.args.since (k / c.positions-count.result) c.positions-count.result c.args.rows c.count_from-given.result) c.period.ensures
    ∙ ap (λ (k : ℕ). rest_in c.args.since (c.args.cluster.now.period / k) k c.args.rows c.count_from-given.result) c.positions-count.ensures
    ∙ ap (rest_in c.args.since (c.args.cluster.now.period / positions_in c.args.flat.now.tables c.args.cluster.now c.args.traced) (positions_in c.args.flat.now.tables c.args.cluster.now c.args.traced) c.args.rows) given)
    waits c.resume.ensures.took c.resume.ensures.resumed
