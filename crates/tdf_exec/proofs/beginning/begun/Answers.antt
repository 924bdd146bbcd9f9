use Rattle.std.proofs.Common.{rules, ◌∙◌, ap, length, subst, sym}
use Rattle.std.proofs.lemmas.List.{length-replicate}
use Rattle.std.proofs.lemmas.Result.{IfOk-weaker}
use Rattle.tdf_exec.proofs.Begins.{begun_from, made_from}
use Rattle.tdf_exec.specs.machine.Starting.{HoldsText, IsBegun}
use Rattle.tdf_exec.proofs.beginning.begun.Goals as goal

pub returns : goal.returns
returns c = IfOk-weaker c.module_of-2.result _ (IsBegun c.args.flat.now (HoldsText c.args.flat.now c.args.begins) c.args.number c.args.wires) (λ x same. subst (IsBegun c.args.flat.now (HoldsText c.args.flat.now c.args.begins) c.args.number c.args.wires) (sym same) (begun_from c.args.begins _ c.args.flat.now c.flat.view_is c.args.number c.index.result.now c.requires.module c.index.ensures c.requires.can c.args.wires
    c.in_ok-frame.frame c.run_body.new.frame c.in_ok-ports.ports c.run_body.new.ports c.in_ok-frame.ensures.start_cells c.in_ok-frame.ensures.start_rates
    (record {
      spans_are = c.in_ok-ports.ensures.spans;
      fit = c.law_fit.ensures;
      count = _;
      samples = c.in_ok-ports.ensures.samples;
      assigned = c.in_ok-ports.ensures.assigned;
      notified = c.in_ok-ports.ensures.notified;
      steps = c.in_ok-ports.ensures.steps;
      accepts = c.in_ok-ports.ensures.accepts;
      out_of_range = c.in_ok-ports.ensures.out_of_range;
    }) c.run_body.ensures.after c.run_body.ensures.frame c.law_begin.ensures c.run_body.ensures.inputs c.new-traced.result.items)) c.module_of-2.ensures

pub returns-then-not-begins : goal.returns-then-not-begins
returns-then-not-begins c = IfOk-weaker c.module_of.result _ (IsBegun c.args.flat.now (HoldsText c.args.flat.now c.args.begins) c.args.number c.args.wires) (λ x same. subst (IsBegun c.args.flat.now (HoldsText c.args.flat.now c.args.begins) c.args.number c.args.wires) (sym same) (made_from c.args.begins c.if-not-begins.true _ c.args.flat.now c.flat.view_is c.args.number c.index.result.now c.requires.module c.index.ensures c.requires.can
    c.args.wires c.in_ok-frame.frame c.in_ok-ports.ports c.in_ok-frame.ensures.formats c.in_ok-frame.ensures.rates c.in_ok-frame.ensures.start_rates
    (record {
      spans_are = c.in_ok-ports.ensures.spans;
      fit = c.law_fit.ensures;
      count = _;
      samples = c.in_ok-ports.ensures.samples;
      assigned = c.in_ok-ports.ensures.assigned;
      notified = c.in_ok-ports.ensures.notified;
      steps = c.in_ok-ports.ensures.steps;
      accepts = c.in_ok-ports.ensures.accepts;
      out_of_range = c.in_ok-ports.ensures.out_of_range;
    }) c.law_begin.ensures c.new-traced.result.items)) c.module_of.ensures

pub run_body-requires : goal.run_body-requires
run_body-requires c = record {
  made = record {
    made = search rules;
    block = search rules;
    formats = c.in_ok-frame.ensures.formats;
    rates = c.in_ok-frame.ensures.rates;
    ports_are = c.in_ok-ports.ensures.spans;
    events = ap length c.in_ok-ports.ensures.notified ∙ length-replicate _ _;
  };
}
