use Rattle.std.proofs.Common.{◌≡◌, ◌*◌, ◌+◌, drop}
use Rattle.tdf_bind_hierarchy.specs.machine.Walk.{walked, walked_all}
use Rattle.tdf_bind_hierarchy.proofs.walk.+blocks.Given as goal

abbrev pub invariant-walk_all-loop-instance : goal.invariant-walk_all-loop-instance
invariant-walk_all-loop-instance l = walked_all (walked l.walk.model.now l.walk.depth) (drop l.instance-index l.instance-items) l.around.path.now l.around.own.now l.around.outer.now l.tables ≡ walked_all (walked l.walk.model.now l.walk.depth) l.instance-items l.around.path.now l.around.own.now l.around.outer.now l.initial.tables

abbrev pub decreases-walk_block : goal.decreases-walk_block
decreases-walk_block l = 3 * l.walk.now.depth

abbrev pub decreases-walk_all : goal.decreases-walk_all
decreases-walk_all l = 3 * l.walk.now.depth + 2

abbrev pub decreases-walk_row : goal.decreases-walk_row
decreases-walk_row l = 3 * l.walk.now.depth + 1
