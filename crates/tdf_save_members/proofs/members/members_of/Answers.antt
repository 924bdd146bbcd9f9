use Rattle.std.proofs.Common.{◌<◌, subst, sym}
use Rattle.std.proofs.lemmas.Option.{get_or_from_slice_get}
use Rattle.tdf_bind_connections.specs.ProcessBlocks.{BlockRowOf}
use Rattle.tdf_expr.specs.Made.{block_count}
use Rattle.tdf_save_members.proofs.members.members_of.Goals as goal
use Rattle.tdf_streams.proofs.Api.{get_inside}

pub block_list-requires-clause-blocks : goal.block_list-requires-clause-blocks
block_list-requires-clause-blocks c = λ k d less.
    let at = get_inside c.args.flat.now.tables.blocks k less in
    subst (λ (row : BlockRowOf). row.block < block_count c.args.flat.now.checked) (sym (get_or_from_slice_get c.args.flat.now.tables.blocks k at.0 d at.1))
    (c.requires.runnable.instances k at.0 at.1).block
