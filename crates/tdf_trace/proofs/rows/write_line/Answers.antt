use Rattle.std.proofs.Common.{[], ℕ, List, take, drop, Ok, refl, subst, take-append-drop}
use Rattle.std.specs.Bool.{⊤}
use Rattle.std.proofs.KnownBytes.{Appends-kept, Appends-nil}
use Rattle.std.proofs.lemmas.List.{take_rest}
use Rattle.tdf_io.proofs.Api.{writes_then}
use Rattle.tdf_io.specs.Bytes.{WritesText}
use Rattle.tdf_trace.proofs.rows.write_line.Goals as goal

pub returns-else-count-line : goal.returns-else-count-line
returns-else-count-line g c =
    let front = take c.in-Ok.count c.args.line.now in
    let rest = drop c.in-Ok.count c.args.line.now in
    let wrote = c.in-Ok.ensures.counted in
    let first : WritesText {T = ⊤} g.K.Sink.taken g.K.Sink.faults c.args.sink.now c.write.new.self front (Ok tt) = record {
      all = c.in-Ok.ensures.bytes;
      part = tt;
      counted = record { later = wrote.later; kept = wrote.kept; rose = tt };
    } in
    subst (λ (text : List ℕ). WritesText g.K.Sink.taken g.K.Sink.faults c.args.sink.now c.put_all.new.sink text c.put_all.result) (take-append-drop c.in-Ok.count c.args.line.now)
    (writes_then g.K.Sink.taken g.K.Sink.faults _ _ _ front rest tt _ first (simp take_rest at c.put_all.ensures))

pub returns-in-Err : goal.returns-in-Err
returns-in-Err g c =
    let counted = c.in-Err.ensures.counted in record {
      all = tt;
      part = record {
        front = [];
        rest = c.args.line.now;
        whole = refl;
        gained = Appends-kept _ _ _ _ (Appends-nil _) c.in-Err.ensures.bytes;
      };
      counted = record { later = counted.later; kept = λ other. counted.kept other; rose = λ failed. counted.rose failed };
    }
