use Rattle.std.proofs.Common.{arith, ◌≡◌, ◌<◌, ◌≤◌, not, List, length, ap, sym, subst, ◌∙◌}
use Rattle.tdf_base.specs.Limits.{most_traces}
use Rattle.std.proofs.lemmas.Bool.{true≢false}
use Rattle.tdf_trace.proofs.Kept.{kept_put}
use Rattle.tdf_trace.proofs.Puts.{held_of, put_all_sound, put_stands}
use Rattle.tdf_trace.proofs.trace.Trace.note.Goals as goal
use Rattle.tdf_trace.proofs.trace.Trace.note.Goals.{else-self, then-self}
use Rattle.tdf_trace.specs.Columns.{ColumnSeen}
use Rattle.tdf_trace.specs.Stands.{Stands, TraceSeen}
use Rattle.tdf_trace.specs.machine.Turning.{AreKept, AreSound}

pub invariant_of-self : goal.invariant_of-self
invariant_of-self c =
    let e : c.put_cell.new.columns.items ≡ c.self.inside.rows.columns.items = c.in_err-put_cell.ensures.err in
    let n : length c.put_cell.new.columns.items ≡ length c.self.inside.rows.columns.items = ap length e in
    record {
      fits = record { same = c.self.invariant.fits.same ∙ sym n; few = subst (λ k. k ≤ most_traces) (sym n) c.self.invariant.fits.few };
      sound = subst (λ (l : List ColumnSeen). AreSound c.self.inside.rows.upto l) (sym e) c.self.invariant.sound;
      kept = subst (λ (l : List ColumnSeen). AreKept l c.self.inside.rows.least c.self.inside.rows.announces) (sym e) c.self.invariant.kept;
    }

pub invariant_of-self-2 : goal.invariant_of-self-2
invariant_of-self-2 c =
    let n : length c.put_cell.new.columns.items ≡ length c.self.inside.rows.columns.items = c.in_ok-put_cell.ensures.ok.same in
    let inside : c.args.cell.column < length c.self.inside.about.variables = subst (λ (v : TraceSeen). c.args.cell.column < length v.about.variables) (sym c.self.view_is) c.requires.column in
    record {
      fits = record { same = c.self.invariant.fits.same ∙ sym n; few = subst (λ k. k ≤ most_traces) (sym n) c.self.invariant.fits.few };
      sound = put_all_sound c.self.inside.rows.upto c.args.cell.column (held_of c.args.cell) c.self.inside.rows.columns.items c.put_cell.new.columns.items c.self.invariant.sound
          (subst (λ (v : TraceSeen). v.rows.upto ≤ c.args.cell.time) (sym c.self.view_is) c.requires.time) c.requires.value c.in_ok-put_cell.ensures.ok;
      kept = kept_put c.args.cell.column c.self.inside.rows.least c.min-self-inside.result c.self.inside.rows.announces c.if-self.self (held_of c.args.cell) c.self.inside.rows.columns.items c.put_cell.new.columns.items
          (omega arith) (omega (arith, inside, c.self.invariant.fits.same)) c.in_ok-put_cell.ensures.ok c.min-self-inside.ensures
          (λ none. elim c.if-self.branch [
            | then-self w ↦ absurd (true≢false (sym w.if-self.true ∙ sym w.self-is ∙ none))
            | else-self w ↦ (w.if-self.false, w.is_none-self-inside.ensures ∙ ap (λ b. not b) (sym w.self-is ∙ none))
          ]) c.self.invariant.kept;
    }

pub returns-clause-took : goal.returns-clause-took
returns-clause-took c cells h = put_stands cells c.self.inside.rows.upto c.args.cell c.self.inside.rows.columns.items c.put_cell.new.columns.items c.in_ok-put_cell.ensures.ok
    (subst (λ (v : TraceSeen). v.rows.upto ≤ c.args.cell.time) (sym c.self.view_is) c.requires.time) (subst (λ (v : TraceSeen). Stands cells v.rows) (sym c.self.view_is) h)
