use Rattle.std.proofs.Common.{◌∙◌, ◌++◌, ◌∷◌, [], ap, arith, sym, subst, map, take}
use Rattle.tdf_stim.proofs.CheckedRows.{line_end, line_found, line_passed, times_push}
use Rattle.tdf_stim.specs.Drivable.{is_off}
use Rattle.tdf_stim.specs.Driver.{counts}
use Rattle.tdf_stim.specs.machine.Refused.{IsTime}
use Rattle.tdf_tables.specs.Rows.{row_of}
use Rattle.tdf_tables.specs.Tables.{TableRow}
use Rattle.tdf_stim.proofs.checks.times.Goals as goal

pub loop-i-preserved : goal.loop-i-preserved
loop-i-preserved c =
    let rows = c.args.rows.now in
    record {
      times = c.in_ok-put-in-Some.ensures.put ∙ ap (λ l. l ++ c.in-Some.time ∷ []) c.loop-i.invariant.times
          ∙ ap (λ n. map (λ (row : TableRow). counts c.args.unit row.time) (map row_of (take c.loop-i.i rows)) ++ n ∷ []) c.in-Some.ensures.some.0
          ∙ sym (times_push c.args.unit rows c.loop-i.i _ c.loop-i-test.true);
      rest = line_passed (λ (row : TableRow). is_off c.args.unit row.time) c.loop-i.i rows _ _ c.loop-i-test.true c.in-Some.ensures.some.1 c.loop-i.invariant.rest;
    }

pub returns-in-None-clause-refused : goal.returns-in-None-clause-refused
returns-in-None-clause-refused c = subst (λ o. IsTime o c.time_at.result)
    (sym (line_found (λ (row : TableRow). is_off c.args.unit row.time) c.loop-i.i c.args.rows.now _ _ c.loop-i-test.true
    (c.count.ensures.none c.in-None.is) c.loop-i.invariant.rest)) c.time_at.ensures.time

pub returns-clause-on : goal.returns-clause-on
returns-clause-on c = line_end (λ (row : TableRow). is_off c.args.unit row.time) c.loop-i.i c.args.rows.now _ (omega arith) c.loop-i.invariant.rest
