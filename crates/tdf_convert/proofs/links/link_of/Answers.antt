use Rattle.std.proofs.Common.{◌≡◌, ◌≢◌, ◌<◌, ◌≤◌, ◌∙◌, ltb, arith, rules, Some, length, inl, inr}
use Rattle.std.proofs.lemmas.List.Sorted.{IsPartitionPoint-from_clause, IsPartitionedBy-ltb}
use Rattle.std.proofs.lemmas.Option.{slice_get-get_or}
use Rattle.std.specs.Prelude.{slice_get, slice_index_or}
use Rattle.tdf_convert.proofs.Halves.{below, reached}
use Rattle.tdf_convert.proofs.Linked.{link_found, none_there, none_past, rising_by}
use Rattle.tdf_convert.specs.declared.links.Link.{Link}
use Rattle.tdf_convert.proofs.links.link_of.Goals as goal
use Rattle.tdf_convert.proofs.links.link_of.Goals.{else-at-links-via-then-at-links+else-links-at, else-at-links-via-else-at-links}

pub returns-then-links-at : goal.returns-then-links-at
returns-then-links-at c =
    let zero : Link = record { actor = 0; signal = 0; sampler = Rattle.std.proofs.Common.false; place = 0 } in
    let l : Link = slice_index_or c.args.links.now c.partition_point-at.result zero in
    let at : slice_get c.args.links.now c.partition_point-at.result ≡ Some l = slice_get-get_or c.args.links.now c.partition_point-at.result zero c.if-at-links.true in
    link_found c.args.links.now c.requires.rising c.partition_point-at.result l c.args.actor at c.if-links-at.true

pub returns : goal.returns
returns c =
    let point = IsPartitionPoint-from_clause (λ (x : Link). ltb x.actor c.args.actor) _ _ c.partition_point-at.ensures.partitioned
    (IsPartitionedBy-ltb (λ (x : Link). x.actor) _ c.args.actor (rising_by c.args.links.now c.requires.rising)) (λ a r q k. search rules) in
    let less = below (λ (x : Link). x.actor) c.args.actor c.args.links.now c.partition_point-at.result point in
    let more = reached (λ (x : Link). x.actor) c.args.actor c.args.links.now c.partition_point-at.result point in
    elim c.else-at-links.branch [
      | else-at-links-via-then-at-links+else-links-at w ↦ (
          let zero : Link = record { actor = 0; signal = 0; sampler = Rattle.std.proofs.Common.false; place = 0 } in
          let at = slice_get-get_or c.args.links.now c.partition_point-at.result zero w.if-at-links.true in
          none_there c.args.links.now c.args.actor c.partition_point-at.result (slice_index_or c.args.links.now c.partition_point-at.result zero) c.requires.rising less more at w.if-links-at.false)
      | else-at-links-via-else-at-links w ↦ none_past c.args.links.now c.args.actor c.partition_point-at.result less w.if-at-links.false
    ]
