use Rattle.std.proofs.Common.{◌≡◌, List, ℕ, [], replicate}
use Rattle.tdf_schedule.proofs.lists.no_rows.Given as goal

abbrev none : List ℕ
none = []

abbrev pub invariant-loop : goal.invariant-loop
invariant-loop l = l.rows.items ≡ replicate l.counter none
