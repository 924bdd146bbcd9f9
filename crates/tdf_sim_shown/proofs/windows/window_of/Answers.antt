use Rattle.std.proofs.Common.{rules, ◌≡◌, ◌∙◌, ◌&&◌, ◌-◌, List, Some, ap, arith, length, nat_eq, nat_lt, refl, slice_get}
use Rattle.std.proofs.lemmas.Option.{slice_get_read}
use Rattle.std.specs.List.{count_by}
use Rattle.tdf_schedule.specs.declared.entry.Entry.{Entry}
use Rattle.tdf_sim_shown.proofs.Known.{few_known, room_is, window_is}
use Rattle.tdf_sim_shown.proofs.windows.window_of.Goals as goal

pub known_of-requires : goal.known_of-requires
known_of-requires c =
    let ports = c.args.flat.now.tables.ports in
    let there : slice_get c.args.flat.now.tables.ports c.args.traced.port ≡ Some c.index.result.now = slice_get_read ports (length ports) c.args.traced.port c.index.result.now refl c.requires.can.port (search rules) in
    let counted : c.firings_before-fired.result ≡ count_by (λ (x : Entry). nat_eq x.actor c.args.traced.«module» && nat_lt x.offset (c.args.time - c.args.since)) c.args.cluster.now.entries =
    c.firings_before-fired.ensures.is
    ∙ ap (λ (es : List Entry). count_by (λ (x : Entry). nat_eq x.actor c.args.traced.«module» && nat_lt x.offset c.saturating_sub-end.result) es) (c.deref.ensures.value ∙ c.plan.ensures.entries)
    ∙ ap (λ end. count_by (λ (x : Entry). nat_eq x.actor c.args.traced.«module» && nat_lt x.offset end) c.args.cluster.now.entries) c.saturating_sub-end.ensures in
    let k = few_known c.args.flat.now c.args.cluster.now c.args.traced c.args.since c.args.time c.firings_before-fired.result c.rate-rate.result c.index.result.now c.requires.can.of c.requires.place there counted
    (c.rate-rate.ensures c.index.result.now there) in
    let f = c.requires.few in omega (arith, k, f)

pub returns-clause-is : goal.returns-clause-is
returns-clause-is c =
    let ports = c.args.flat.now.tables.ports in
    let there : slice_get c.args.flat.now.tables.ports c.args.traced.port ≡ Some c.index.result.now = slice_get_read ports (length ports) c.args.traced.port c.index.result.now refl c.requires.can.port (search rules) in
    let counted : c.firings_before-fired.result ≡ count_by (λ (x : Entry). nat_eq x.actor c.args.traced.«module» && nat_lt x.offset (c.args.time - c.args.since)) c.args.cluster.now.entries =
    c.firings_before-fired.ensures.is
    ∙ ap (λ (es : List Entry). count_by (λ (x : Entry). nat_eq x.actor c.args.traced.«module» && nat_lt x.offset c.saturating_sub-end.result) es) (c.deref.ensures.value ∙ c.plan.ensures.entries)
    ∙ ap (λ end. count_by (λ (x : Entry). nat_eq x.actor c.args.traced.«module» && nat_lt x.offset end) c.args.cluster.now.entries) c.saturating_sub-end.ensures in
    window_is c.args.flat.now c.args.cluster.now c.args.traced c.args.since c.args.time c.firings_before-fired.result c.rate-rate.result c.index.result.now c.requires.can.of c.requires.place there counted
    (c.rate-rate.ensures c.index.result.now there) c.period.result c.positions-count.result c.known_of.result c.period.ensures c.positions-count.ensures c.known_of.ensures

pub returns-clause-room : goal.returns-clause-room
returns-clause-room c = let p = c.period.ensures in let s = c.requires.can.short in room_is c.args.since c.period.result c.positions-count.result (omega (arith, p, s))
