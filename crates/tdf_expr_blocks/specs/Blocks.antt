-- The faults of blocks (own).
use Rattle.std.specs.Prelude.{List, [], ◌++◌}
use Rattle.std.specs.List.{flat_map}
use Rattle.tdf_expr_blocks.specs.Lines.{tdf_line_faults, attr_faults, initial_faults, de_line_faults, sense_faults, member_faults}
use Rattle.tdf_expr_blocks.specs.Writers.{writer_faults}
use Rattle.tdf_base.specs.declared.first.LineFault.{LineFault}
use Rattle.tdf_expr_symbols.specs.Names.{Names}
use Rattle.tdf_expr_symbols.specs.Scope.{Scope, tdf_scope, de_scope, composite_scope}
use Rattle.tdf_expr_symbols.specs.declared.kinds.Part.TheVariants as part
use Rattle.tdf_lang_tree.specs.Pure.{PureTdf, PureDe, PureProcess, PureComposite}
use Rattle.tdf_expr_types.specs.Bodies.{body_faults}

abbrev pub bodies_faults : Scope → PureTdf → List LineFault
bodies_faults scope block =
    body_faults scope part.Initialize block.initialize
    ++ (body_faults scope part.Processing block.processing
    ++ (body_faults scope part.Change block.change
    ++ body_faults scope part.Reinitialize block.reinitialize))

-- a `tdf` block, with the names that are in force in it
abbrev pub faults_in_tdf : Scope → PureTdf → List LineFault
faults_in_tdf scope block =
    flat_map (tdf_line_faults scope.globals) block.decls
    ++ (flat_map (attr_faults scope) block.attrs
    ++ (flat_map (initial_faults scope) block.initials
    ++ bodies_faults scope block))

unfoldable pub tdf_faults : Names → PureTdf → List LineFault
tdf_faults globals block = faults_in_tdf (tdf_scope globals block) block

unfoldable pub process_faults : Scope → PureProcess → List LineFault
process_faults scope p =
    flat_map (sense_faults scope) p.sensitive ++ body_faults scope part.Process p.body

-- a `de` block
abbrev pub faults_in_de : Scope → PureDe → List LineFault
faults_in_de scope block =
    flat_map (de_line_faults scope.globals) block.decls
    ++ (flat_map (process_faults scope) block.processes
    ++ writer_faults scope.own [] block.processes)

unfoldable pub de_faults : Names → PureDe → List LineFault
de_faults globals block = faults_in_de (de_scope globals block) block

-- a `composite` block, or `top`
unfoldable pub composite_faults : Names → PureComposite → List LineFault
composite_faults globals block =
    flat_map (member_faults (composite_scope globals block)) block.members
