use Rattle.std.proofs.Common.{◌∙◌, ◌||◌, ap, map, sym}
use Rattle.std.specs.List.{flat_map}
use Rattle.tdf_lang_tree.specs.Views.{pure_global}
use Rattle.tdf_stim.proofs.Maps.{in_both}
use Rattle.tdf_stim.specs.Driven.{is_listed, name_of_global, member_names}
use Rattle.tdf_stim.proofs.names.Names.of.Goals as goal

pub returns : goal.returns
returns c = λ other.
    let globals = map name_of_global (map pure_global c.args.tree.now.globals.items) in
    let members = flat_map member_names c.args.tree.now.top.members.items in
    (rw c.deref-2.ensures.value at c.in_ok-add_members.ensures other) ∙ ap (λ b. b || is_listed members other) ((rw c.deref.ensures.value at c.in_ok-add_globals.ensures other) ∙ ap (λ b. b || is_listed globals other) (c.new-names.ensures other))
    ∙ sym (in_both globals members other)
