use Rattle.std.proofs.Common.{ltb, rules}
use Rattle.std.proofs.lemmas.List.Sorted.{IsPartitionPoint-from_clause, IsPartitionedBy-ltb}
use Rattle.tdf_convert.proofs.Halves.{below, reached}
use Rattle.tdf_schedule.specs.declared.entry.Entry.{Entry}
use Rattle.tdf_convert.proofs.near.first_from.Goals as goal

pub returns-clause-before : goal.returns-clause-before
returns-clause-before c =
    let point = IsPartitionPoint-from_clause (λ (x : Entry). ltb x.offset c.args.offset) _ _ c.partition_point.ensures.partitioned
    (IsPartitionedBy-ltb (λ (x : Entry). x.offset) _ c.args.offset c.requires.sorted) (λ a r q k. search rules) in
    below (λ (x : Entry). x.offset) c.args.offset c.args.entries.now c.partition_point.result point

pub returns-clause-from : goal.returns-clause-from
returns-clause-from c =
    let point = IsPartitionPoint-from_clause (λ (x : Entry). ltb x.offset c.args.offset) _ _ c.partition_point.ensures.partitioned
    (IsPartitionedBy-ltb (λ (x : Entry). x.offset) _ c.args.offset c.requires.sorted) (λ a r q k. search rules) in
    reached (λ (x : Entry). x.offset) c.args.offset c.args.entries.now c.partition_point.result point
