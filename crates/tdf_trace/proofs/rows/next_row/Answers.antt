use Rattle.std.proofs.Common.{arith, ◌-◌, ◌^◌, length, subst, sym}
use Rattle.tdf_trace.proofs.Kept.{next_below}
use Rattle.tdf_trace.proofs.rows.next_row.Goals as goal
use Rattle.tdf_trace.specs.machine.Turning.{IsNext}

pub returns : goal.returns
returns c = record {
  first = λ none. absurd (omega (arith, none));
  later = λ _. subst (λ k. IsNext c.args.rows.now.columns.items (length c.args.rows.now.columns.items) c.args.limit k) (sym c.min-time.ensures)
      (next_below c.args.rows.now.columns.items (length c.args.rows.now.columns.items) (2 ^ 64 - 1) c.args.limit c.args.rows.now.least (omega arith) c.requires.kept.next);
}
