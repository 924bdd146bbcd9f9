use Rattle.std.proofs.Common.{◌≡◌, ◌++◌, subst, sym}
use Rattle.std.specs.Prelude.{IfSome}
use Rattle.tdf_tables.proofs.Wholes.{table_at, table_by, table_read, why_read}
use Rattle.tdf_tables.specs.Faults.{of_head}
use Rattle.tdf_tables.specs.Tables.{AreColumnLabels, SpellsTable, table_head_text}
use Rattle.tdf_tables.specs.Words.{words_of}
use Rattle.tdf_tables.specs.machine.Body.{IsRowsText, IsWhy, seen}
use Rattle.tdf_tables.proofs.reading.read.Goals as goal

pub returns-in-Ok-None-clause-refused : goal.returns-in-Ok-None-clause-refused
returns-in-Ok-None-clause-refused c = of_head (c.in-Ok-None.ensures.none c.in-Ok-None.field-0-is)

pub returns-in-Ok-clause-table : goal.returns-in-Ok-clause-table
returns-in-Ok-clause-table c =
    let labels = words_of c.in-Ok-Some.head.0.now in
    let rows = seen c.in-Ok.rows.items in
    let named = subst (λ o. IfSome o (λ p. AreColumnLabels (words_of p.0.now))) c.in-Ok-Some.field-0-is c.in-Ok-Some.ensures.labels in
    let is = subst (λ o. IfSome o (λ p. c.args.bytes.now ≡ table_head_text (words_of p.0.now) ++ p.1.now)) c.in-Ok-Some.field-0-is c.in-Ok-Some.ensures.is in
    let body = subst (λ n. IsRowsText n c.in-Ok-Some.head.1.now rows) c.count_words.ensures c.in-Ok.ensures.rows in
    subst (SpellsTable c.args.bytes.now) (table_by (table_at labels rows) c.new.result (sym c.new.ensures.labels) (sym c.new.ensures.rows))
    (table_read c.args.bytes.now c.in-Ok-Some.head.1.now labels rows named is body)

pub returns-in-Err-read_rows-clause-refused : goal.returns-in-Err-read_rows-clause-refused
returns-in-Err-read_rows-clause-refused c =
    let labels = words_of c.in-Ok-Some.head.0.now in
    let named = subst (λ o. IfSome o (λ p. AreColumnLabels (words_of p.0.now))) c.in-Ok-Some.field-0-is c.in-Ok-Some.ensures.labels in
    let is = subst (λ o. IfSome o (λ p. c.args.bytes.now ≡ table_head_text (words_of p.0.now) ++ p.1.now)) c.in-Ok-Some.field-0-is c.in-Ok-Some.ensures.is in
    let why = subst (λ n. IsWhy n c.in-Ok-Some.head.1.now c.in-Err-read_rows.why) c.count_words.ensures c.in-Err-read_rows.ensures.refused in
    why_read c.args.bytes.now c.in-Ok-Some.head.1.now labels c.in-Err-read_rows.why named is why
