use Rattle.std.proofs.Common.{rules, ◌≡◌, ◌∙◌, ◌+◌, ◌<◌, Some, arith, refl, length, slice_get, slice_index_or}
use Rattle.std.proofs.lemmas.Option.{slice_get-get_or}
use Rattle.tdf_exec_layout.proofs.Counts.{count_within, places_next}
use Rattle.tdf_bind_connections.proofs.Api.{any_default}
use Rattle.tdf_bind_connections.specs.declared.modules.PortRow.{PortRow}
use Rattle.tdf_exec_layout.proofs.places.port_places.Goals as goal

pub overflow_add-next : goal.overflow_add-next
overflow_add-next c =
    let port : PortRow = slice_index_or c.args.ports.now c.loop-number.number c.index-ports-number.result in
    let own : port.«module» < c.args.modules = c.requires c.loop-number.number c.index-ports-number.result (search rules) in
    let many = c.loop-number.invariant.many in
    let inside : port.«module» < length c.loop-number.counts.items = omega (arith, own, many) in
    let count_is = c.index-count.ensures ∙ any_default c.loop-number.counts.items port.«module» c.index-count.result.now 0 inside ∙ c.loop-number.invariant.counted port.«module» own in
    let t = c.loop-number-test.true in
    let few = count_within c.args.ports.now c.loop-number.number port.«module» (omega (arith, t)) in
    let most = c.if-ports-gt4294967295.false in
    omega (arith, count_is, few, t, most)

pub loop-number-preserved : goal.loop-number-preserved
loop-number-preserved c =
    let port : PortRow = slice_index_or c.args.ports.now c.loop-number.number c.index-ports-number.result in
    let at : slice_get c.args.ports.now c.loop-number.number ≡ Some port = slice_get-get_or c.args.ports.now c.loop-number.number c.index-ports-number.result (search rules) in
    let own : port.«module» < c.args.modules = c.requires c.loop-number.number c.index-ports-number.result (search rules) in
    let many = c.loop-number.invariant.many in
    let inside : port.«module» < length c.loop-number.counts.items = omega (arith, own, many) in
    let count_is = c.index-count.ensures ∙ any_default c.loop-number.counts.items port.«module» c.index-count.result.now 0 inside in
    places_next c.args.modules c.args.ports.now c.loop-number.number port c.loop-number.counts.items c.loop-number.places.items c.index-count.result.now (c.index-count.result.now + 1)
    c.loop-number.invariant at own count_is refl
