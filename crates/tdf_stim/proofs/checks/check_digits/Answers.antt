use Rattle.std.proofs.Common.{◌∙◌, arith, sym, subst, map}
use Rattle.tdf_stim.proofs.CheckedRows.{line_end, line_found, line_passed}
use Rattle.tdf_stim.specs.Drivable.{has_long}
use Rattle.tdf_stim.specs.machine.Maps.{seen}
use Rattle.tdf_stim.specs.machine.Refused.{IsDigits}
use Rattle.tdf_tables.specs.Tables.{TableRow}
use Rattle.tdf_stim.proofs.checks.check_digits.Goals as goal

pub loop-i-preserved : goal.loop-i-preserved
loop-i-preserved c = line_passed (λ (row : TableRow). has_long (map seen c.args.sources.now) row.cells) c.loop-i.i c.args.rows.now _ _ c.loop-i-test.true
    (sym c.has_long.ensures ∙ c.if-has_long.false) c.loop-i.invariant

pub returns-then-has_long-clause-refused : goal.returns-then-has_long-clause-refused
returns-then-has_long-clause-refused c = subst (λ o. IsDigits o c.digits_at.result)
    (sym (line_found (λ (row : TableRow). has_long (map seen c.args.sources.now) row.cells) c.loop-i.i c.args.rows.now _ _ c.loop-i-test.true
    (sym c.has_long.ensures ∙ c.if-has_long.true) c.loop-i.invariant)) c.digits_at.ensures.digits

pub returns-clause-short : goal.returns-clause-short
returns-clause-short c = line_end (λ (row : TableRow). has_long (map seen c.args.sources.now) row.cells) c.loop-i.i c.args.rows.now _ (omega arith) c.loop-i.invariant
