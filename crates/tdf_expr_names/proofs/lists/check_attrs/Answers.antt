use Rattle.std.proofs.Common.{◌∙◌, List, ap, sym}
use Rattle.std.specs.List.{flat_map}
use Rattle.tdf_base.specs.First.{least_with}
use Rattle.tdf_expr_names.specs.Names.{attr_name_faults}
use Rattle.tdf_expr_names.specs.machine.Scope.{locals}
use Rattle.tdf_expr_names.proofs.ListFirsts.{attrs_all}
use Rattle.tdf_expr_names.proofs.lists.check_attrs.Goals as goal
use Rattle.tdf_lang_tree.specs.declared.blocks.Attr.{Attr}

pub returns : goal.returns
returns c = sym (attrs_all (locals c.args.scope.now) c.deref-attr-items.result.now c.loop-attr.attr-index c.loop-attr.first c.loop-attr-test.false)
    ∙ c.loop-attr.invariant
    ∙ ap (λ (list : List Attr). least_with c.args.first (flat_map (attr_name_faults (locals c.args.scope.now)) list)) c.deref-attr-items.ensures.value
