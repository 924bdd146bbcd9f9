-- The blocks of a model and their bodies (own): `tdf` and `de` blocks, numbered from 0 in the order
-- of the text.
use Rattle.std.specs.List.{flat_map}
use Rattle.std.specs.Prelude.{List, [], ◌∷◌, Option, Some, None, slice_get}
use Rattle.tdf_expr.specs.declared.bodies.Body.{Body}
use Rattle.tdf_expr.specs.declared.bodies.Body.TheVariants as body
use Rattle.tdf_expr_symbols.specs.Names.{Names}
use Rattle.tdf_expr_symbols.specs.Scope.{Scope, tdf_scope, de_scope}
use Rattle.tdf_lang_tree.specs.Pure.{PureStmts, Done, PureTdf, PureDe, PureProcess, PureGlobal, GShape, GTdf, GDe, GNet}

pub data PureBlock : Type 0 where
  Module : PureTdf → PureBlock
  Events : PureDe → PureBlock

abbrev pub block_of : PureGlobal → List PureBlock
block_of (GShape t) = []
block_of (GTdf block) = Module block ∷ []
block_of (GDe block) = Events block ∷ []
block_of (GNet block) = []

abbrev pub blocks_of : List PureGlobal → List PureBlock
blocks_of list = flat_map block_of list

-- the names that are in force in a block's bodies
abbrev pub scope_of : Names → PureBlock → Scope
scope_of globals (Module block) = tdf_scope globals block
scope_of globals (Events block) = de_scope globals block

abbrev pub process_body : Option PureProcess → PureStmts
process_body None = Done
process_body (Some p) = p.body.list

-- the statements of a body; one that a block doesn't have has none
abbrev pub body_of : PureBlock → Body → PureStmts
body_of (Module block) body.Initialize = block.initialize.list
body_of (Module block) body.Processing = block.processing.list
body_of (Module block) body.Change = block.change.list
body_of (Module block) body.Reinitialize = block.reinitialize.list
body_of (Module block) (body.Process n) = Done
body_of (Events block) (body.Process n) = process_body (slice_get block.processes n)
body_of (Events block) _ = Done
