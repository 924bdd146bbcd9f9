use Rattle.std.proofs.Common.{◌+◌, ◌∙◌, ◌∷◌, ◌++◌, [], ap, arith, map, sym}
use Rattle.std.specs.List.{range_with_len}
use Rattle.std.proofs.lemmas.List.FromFn.{map-range_with_len_more}
use Rattle.std.specs.Prelude.{List}
use Rattle.tdf_save.specs.Members.{ClusterMembersOf}
use Rattle.tdf_save_members.specs.OfFlat.{cluster_members}
use Rattle.tdf_streams.proofs.Api.{is_wired}
use Rattle.tdf_save_members.proofs.modules.cluster_list.Goals as goal

pub of-requires-clause-wired : goal.of-requires-clause-wired
of-requires-clause-wired c = is_wired c.args.flat.now c.requires.limits

pub of-requires-clause-count : goal.of-requires-clause-count
of-requires-clause-count c = let count = c.cluster_count.ensures in omega (arith, count)

pub loop-made-preserved : goal.loop-made-preserved
loop-made-preserved c =
    c.in_ok-push.ensures.items ∙ ap (λ (l : List ClusterMembersOf). l ++ c.in_ok-cluster_members.field-0 ∷ []) c.loop-made.invariant
    ∙ ap (λ (m : ClusterMembersOf). map (cluster_members c.args.flat.now) (range_with_len 1 c.loop-made.made) ++ m ∷ []) c.in_ok-cluster_members.ensures
    ∙ sym (map-range_with_len_more (cluster_members c.args.flat.now) 1 c.loop-made.made (c.loop-made.made + 1) (omega arith))
