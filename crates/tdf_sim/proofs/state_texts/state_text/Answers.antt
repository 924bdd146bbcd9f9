use Rattle.std.proofs.Common.{◌∙◌, List, ℕ, ◌++◌, ap}
use Rattle.tdf_save.specs.Members.{MembersOf}
use Rattle.tdf_save.specs.Text.{saved_text}
use Rattle.tdf_sim.proofs.state_texts.state_text.Goals as goal

pub returns : goal.returns
returns c = λ model firsts handed of at. record {
  snapshot = c.in_ok-snapshot.snapshot;
  of = c.in_ok-snapshot.ensures.of_run model firsts handed of at;
  is = c.in_ok-push_snapshot.ensures.whole
      ∙ ap (λ (t : List ℕ). t ++ saved_text c.in_ok-members.members c.args.text.now c.in_ok-snapshot.snapshot) c.new-bytes.ensures.items
      ∙ ap (λ (m : MembersOf). saved_text m c.args.text.now c.in_ok-snapshot.snapshot) c.in_ok-members.ensures.members;
}
