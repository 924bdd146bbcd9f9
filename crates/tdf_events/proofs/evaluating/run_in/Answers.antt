use Rattle.std.proofs.Common.{rules, ◌≡◌, ℕ, List, length, refl, ap, ◌∙◌}
use Rattle.tdf_events_queue.specs.Lists.{list_at}
use Rattle.tdf_events.proofs.Evaluated.{index_set}
use Rattle.tdf_events.specs.Kernel.{KernelOf}
use Rattle.tdf_events.specs.Notices.{noticed_first}
use Rattle.tdf_events.specs.Processes.{written_first}
use Rattle.tdf_events.specs.views.Parts.{kernel_of}
use Rattle.tdf_expr.specs.Frames.{PortsSeen}
use Rattle.tdf_bind_connections.specs.ProcessBlocks.{BlockRowOf}
use Rattle.tdf_events.proofs.evaluating.run_in.Goals as goal

pub returns : goal.returns
returns c =
    let signals : c.deref.result.now ≡ c.args.block.now.signals = c.deref.ensures.value ∙ ap (λ (r : BlockRowOf). r.signals) c.block.view_is in
    let left : c.ports-ports.result.now ≡ c.act_in.ensures.left = c.ports-ports.ensures ∙ index_set c.args.parts.now.ports.items c.act_in.new.parts.ports.items c.args.owner c.act_in.ensures.left c.index.result.now c.act_in.ensures.ports c.requires.ports (search rules) in
    let waits : c.act_in.new.parts.waiting ≡ c.args.parts.now.waiting = ap (λ (k : KernelOf). k.waiting) c.act_in.ensures.rest in
    let pends : c.act_in.new.parts.notices ≡ c.args.parts.now.notices = ap (λ (k : KernelOf). k.notices) c.act_in.ensures.rest in
    let own : c.at.result.now ≡ list_at c.args.parts.now.own_events c.args.owner = c.at.ensures ∙ ap (λ (k : KernelOf). list_at k.own_events c.args.owner) c.act_in.ensures.rest in
    record {
      middle = kernel_of c.act_in.new.parts;
      acted = c.act_in.ensures;
      rest = refl;
      waiting = c.write_all.ensures ∙ ap (λ (s : List ℕ). written_first s c.ports-ports.result.now.spans c.ports-ports.result.now.state (length s) c.act_in.new.parts.waiting) signals
          ∙ ap (λ (p : PortsSeen). written_first c.args.block.now.signals p.spans p.state (length c.args.block.now.signals) c.act_in.new.parts.waiting) left
          ∙ ap (written_first c.args.block.now.signals c.act_in.ensures.left.spans c.act_in.ensures.left.state (length c.args.block.now.signals)) waits;
      notices = c.notify_all.ensures ∙ ap (λ (es : List ℕ). noticed_first c.args.time es c.ports-ports.result.now.state.notified (length es) c.act_in.new.parts.notices) own
          ∙ ap (λ (p : PortsSeen). noticed_first c.args.time (list_at c.args.parts.now.own_events c.args.owner) p.state.notified (length (list_at c.args.parts.now.own_events c.args.owner)) c.act_in.new.parts.notices) left
          ∙ ap (noticed_first c.args.time (list_at c.args.parts.now.own_events c.args.owner) c.act_in.ensures.left.state.notified (length (list_at c.args.parts.now.own_events c.args.owner))) pends;
    }
