use Rattle.std.proofs.Common.{◌≡◌, ◌+◌, ◌<◌, ◌≤◌, [], ◌∷◌, ◌++◌, take, length, ap, sym, ◌∙◌, subst, rules}
use Rattle.std.proofs.lemmas.List.{take_all, take_more}
use Rattle.tdf_trace.proofs.Showings.{more_taken}
use Rattle.tdf_trace.proofs.notes.note_all.Goals as goal
use Rattle.tdf_trace.specs.machine.Showing.{TakesCells}

pub loop-i-preserved : goal.loop-i-preserved
loop-i-preserved c =
    let less : c.loop-i.i < length c.args.columns.now.items = search rules in
    let e : take (c.loop-i.i + 1) c.args.columns.now.items ≡ take c.loop-i.i c.args.columns.now.items ++ c.index.result.now ∷ [] =
    take_more c.args.columns.now.items c.loop-i.i c.index.result.now less ∙ ap (λ z. take c.loop-i.i c.args.columns.now.items ++ z ∷ []) (sym c.index.ensures) in
    record {
      took = subst (λ l. TakesCells l c.args.time c.args.value c.args.trace.now.rows c.note.new.self.rows) (sym e)
          (more_taken (take c.loop-i.i c.args.columns.now.items) c.index.result.now c.args.time c.args.value c.args.trace.now.rows c.loop-i.trace.rows c.note.new.self.rows c.loop-i.invariant.took c.in_ok-note.ensures.took);
      upto = c.note.ensures.upto ∙ c.loop-i.invariant.upto;
      stage = c.note.ensures.stage ∙ c.loop-i.invariant.stage;
      about = c.note.ensures.about ∙ c.loop-i.invariant.about;
    }

pub returns-clause-took : goal.returns-clause-took
returns-clause-took c =
    let past : length c.args.columns.now.items ≤ c.loop-i.i = search rules in
    subst (λ l. TakesCells l c.args.time c.args.value c.args.trace.now.rows c.loop-i.trace.rows) (take_all c.loop-i.i c.args.columns.now.items past) c.loop-i.invariant.took
