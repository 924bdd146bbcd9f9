use Rattle.std.proofs.Common.{◌≡◌, ◌++◌, ◌∷◌, [], ◌∙◌, ap, refl}
use Rattle.std.proofs.lemmas.List.{map-append}
use Rattle.tdf_tables.specs.Rows.{row_of}
use Rattle.tdf_tables.specs.machine.Body.{seen}
use Rattle.tdf_tables.proofs.ReadLaws.{read_none, read_more, fault_is, all_read}
use Rattle.tdf_tables.proofs.rows.read_rows.Goals as goal

pub loop-rest-init : goal.loop-rest-init
loop-rest-init c = rw c.new-rows.ensures.items (read_none c.args.columns c.args.text.now)

pub loop-rest-preserved : goal.loop-rest-preserved
loop-rest-preserved c =
    let h = c.loop-rest.invariant in
    let more = read_more c.args.columns c.args.text.now c.loop-rest.rest.now c.in-Some.after.now (seen c.loop-rest.rows.items)
    (row_of c.in-Some.row) c.loop-rest.before c.loop-rest.line h c.in-Some.ensures.row c.in-Some.ensures.next c.in-Some.ensures.cut in
    let is : seen c.put.new.rows.items ≡ seen c.loop-rest.rows.items ++ (row_of c.in-Some.row ∷ []) =
    ap (seen) c.in_ok-put-in-Some.ensures.put ∙ map-append (row_of) c.loop-rest.rows.items (c.in-Some.row ∷ []) in
    rw is more

pub returns-in-None-clause-refused : goal.returns-in-None-clause-refused
returns-in-None-clause-refused c =
    fault_is c.args.columns c.args.text.now c.loop-rest.rest.now (seen c.loop-rest.rows.items) c.loop-rest.before c.loop-rest.line
    c.loop-rest.invariant (c.goes_on.ensures.more c.loop-rest-test.true) (c.in-None.ensures.none refl)

pub returns-clause-rows : goal.returns-clause-rows
returns-clause-rows c =
    let end = c.goes_on.ensures.end c.loop-rest-test.false in
    all_read c.args.columns c.args.text.now c.loop-rest.rest.now (seen c.loop-rest.rows.items) c.loop-rest.before c.loop-rest.line c.loop-rest.invariant end.0 end.1
