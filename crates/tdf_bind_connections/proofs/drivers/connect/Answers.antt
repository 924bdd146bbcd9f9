use Rattle.std.proofs.Common.{◌∙◌, sym, ap, subst, List}
use Rattle.std.specs.Prelude.{slice_get}
use Rattle.tdf_bind_connections.proofs.Connected.{faults_same, signals_same, none_first}
use Rattle.tdf_bind_connections.specs.Drivers.{writers_in, misdriven, AreSignals}
use Rattle.tdf_bind_connections.specs.declared.drivers.DriverFault.{DriverFault}
use Rattle.tdf_bind_connections.proofs.drivers.connect.Goals as goal

pub returns-in-Some-clause-refused : goal.returns-in-Some-clause-refused
returns-in-Some-clause-refused c =
    let same = faults_same (writers_in c.args.roles.now c.args.tables.now c.args.ports.now) c.args.tables.now c.in_ok-all.all.signals.items c.in_ok-all.all.events.items c.in_ok-all.ensures c.args.tables.now.order c.requires.in_range in
    ap (λ (l : List DriverFault). slice_get l 0) (sym same) ∙ sym c.fault_in.ensures ∙ c.in-Some.is

pub returns-clause-signals : goal.returns-clause-signals
returns-clause-signals c = subst (AreSignals (writers_in c.args.roles.now c.args.tables.now c.args.ports.now) c.args.tables.now.signals c.args.tables.now.event_signals) (sym c.in_ok-signals_in.ensures)
    (signals_same (writers_in c.args.roles.now c.args.tables.now c.args.ports.now) c.args.tables.now c.in_ok-all.all.signals.items c.in_ok-all.all.events.items c.in_ok-all.ensures)

pub returns-clause-fine : goal.returns-clause-fine
returns-clause-fine c =
    let same = faults_same (writers_in c.args.roles.now c.args.tables.now c.args.ports.now) c.args.tables.now c.in_ok-all.all.signals.items c.in_ok-all.all.events.items c.in_ok-all.ensures c.args.tables.now.order c.requires.in_range in
    none_first (misdriven c.args.roles.now c.args.tables.now c.args.ports.now) (ap (λ (l : List DriverFault). slice_get l 0) (sym same) ∙ sym c.fault_in.ensures ∙ c.in_default.is)
