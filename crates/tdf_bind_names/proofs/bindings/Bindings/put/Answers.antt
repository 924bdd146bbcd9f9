use Rattle.std.proofs.Common.{◌∙◌, sym, ap}
use Rattle.std.proofs.lemmas.Result.{on_ok_weaker}
use Rattle.tdf_bind_names.proofs.LinesBound.{put_some, put_none, put_port, put_signal, put_de_signal, put_instance}
use Rattle.tdf_bind_names.proofs.bindings.Bindings.put.Goals as goal
use Rattle.tdf_bind_names.specs.Targets.{target_named}
use Rattle.tdf_bind_names.specs.machine.Bindings.{target_at}

pub returns-in-Some : goal.returns-in-Some
returns-in-Some c = on_ok_weaker c.bind.result (put_some c.args.inside.now c.args.member.now c.in-Bind.line c.in-Bind.instance c.in-Bind.port c.in-Bind.target
    c.as_bytes-instance.result.now c.as_bytes-port.result.now c.in-Some.found (target_at c.args.self.now) (target_at c.bind.new.self)
    c.in-Bind.is c.as_bytes-instance.ensures c.as_bytes-port.ensures (ap (target_named c.args.inside.now) (sym c.as_bytes.ensures) ∙ sym c.target.ensures ∙ c.in-Some.is)) c.bind.ensures

pub returns-in-None : goal.returns-in-None
returns-in-None c = put_none c.args.inside.now c.args.member.now c.in-Bind.line c.in-Bind.instance c.in-Bind.port c.in-Bind.target (target_at c.args.self.now)
    c.in-Bind.is (ap (target_named c.args.inside.now) (sym c.as_bytes.ensures) ∙ sym c.target.ensures ∙ c.in-None.is)

pub returns-in-Port : goal.returns-in-Port
returns-in-Port c = put_port c.args.inside.now c.args.member.now _ (target_at c.args.self.now) c.in-Port.is

pub returns-in-Signal : goal.returns-in-Signal
returns-in-Signal c = put_signal c.args.inside.now c.args.member.now _ _ _ (target_at c.args.self.now) c.in-Signal.is

pub returns-in-DeSignal : goal.returns-in-DeSignal
returns-in-DeSignal c = put_de_signal c.args.inside.now c.args.member.now _ _ _ _ (target_at c.args.self.now) c.in-DeSignal.is

pub returns-in-Instance : goal.returns-in-Instance
returns-in-Instance c = put_instance c.args.inside.now c.args.member.now _ _ _ (target_at c.args.self.now) c.in-Instance.is
