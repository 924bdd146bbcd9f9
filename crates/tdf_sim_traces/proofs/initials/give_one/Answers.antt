use Rattle.std.proofs.Common.{rules, ◌≡◌, ◌≤◌, OnOk, subst}
use Rattle.std.proofs.lemmas.List.Elements.{All-map, All-same}
use Rattle.tdf_trace.specs.Calls.{TakesSamples}
use Rattle.tdf_convert.specs.declared.outputs.Traced.{Traced}
use Rattle.tdf_fixed.specs.declared.raw.Raw.{Raw}
use Rattle.tdf_sim_traces.proofs.initials.give_one.Goals as goal
use Rattle.tdf_sim_traces.specs.machine.Giving.{initials_of, traced_with}

pub give-requires-clause-few : goal.give-requires-clause-few
give-requires-clause-few c =
    let list_is : c.deref-2.result.now ≡ traced_with c.args.traced.signal (initials_of c.args.tables.now c.args.traced) = search rules in
    All-same (λ (t : Traced). t.value.frac ≤ 120) c.deref-2.result.now (traced_with c.args.traced.signal (initials_of c.args.tables.now c.args.traced)) list_is
    (All-map (λ (t : Traced). t.value.frac ≤ 120) (λ (value : Raw). record { signal = c.args.traced.signal; value = value }) (initials_of c.args.tables.now c.args.traced) c.requires.few)

pub returns-clause-took : goal.returns-clause-took
returns-clause-took c =
    let list_is : c.deref-2.result.now ≡ traced_with c.args.traced.signal (initials_of c.args.tables.now c.args.traced) = search rules in
    subst (λ l. OnOk c.give.result (TakesSamples l c.args.tracking.now.list c.give.new.self.list c.args.trace.now.rows c.give.new.trace.rows)) list_is c.give.ensures.took
