use Rattle.std.proofs.Common.{leb, rules}
use Rattle.std.proofs.lemmas.List.Sorted.{IsPartitionPoint-from_clause, IsPartitionedBy-leb}
use Rattle.tdf_convert.proofs.Halves.{beyond, upto}
use Rattle.tdf_schedule.specs.declared.entry.Entry.{Entry}
use Rattle.tdf_convert.proofs.near.first_after.Goals as goal

pub returns-clause-upto : goal.returns-clause-upto
returns-clause-upto c =
    let point = IsPartitionPoint-from_clause (λ (x : Entry). leb x.offset c.args.offset) _ _ c.partition_point.ensures.partitioned
    (IsPartitionedBy-leb (λ (x : Entry). x.offset) _ c.args.offset c.requires.sorted) (λ a r q k. search rules) in
    upto (λ (x : Entry). x.offset) c.args.offset c.args.entries.now c.partition_point.result point

pub returns-clause-after : goal.returns-clause-after
returns-clause-after c =
    let point = IsPartitionPoint-from_clause (λ (x : Entry). leb x.offset c.args.offset) _ _ c.partition_point.ensures.partitioned
    (IsPartitionedBy-leb (λ (x : Entry). x.offset) _ c.args.offset c.requires.sorted) (λ a r q k. search rules) in
    beyond (λ (x : Entry). x.offset) c.args.offset c.args.entries.now c.partition_point.result point
