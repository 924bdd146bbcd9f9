use Rattle.std.proofs.Common.{◌∙◌, ◌+◌, ◌<◌, ◌≤◌, ◌++◌, List, length, map, drop, sym, ap, append-nil, rules}
use Rattle.std.proofs.lemmas.List.{drop_all}
use Rattle.tdf_bind_attributes.proofs.Rolled.{global_at, rest_is}
use Rattle.tdf_bind_attributes.proofs.roles.roles_in.Goals as goal
use Rattle.tdf_bind_attributes.specs.Roles.{roles_from}
use Rattle.tdf_lang_tree.specs.Pure.{PureGlobal}
use Rattle.tdf_lang_tree.specs.Views.{pure_global}
use Rattle.tdf_lang_tree.specs.declared.tree.Global1.{Global1}

pub push_role-requires : goal.push_role-requires
push_role-requires c =
    let within : c.loop-place.place < length c.args.list.now.items = search rules in
    c.requires c.loop-place.place (pure_global c.index.result.now) (global_at c.args.list.now.items c.loop-place.place c.index.result.now within c.index.ensures)

pub loop-place-preserved : goal.loop-place-preserved
loop-place-preserved c =
    let within : c.loop-place.place < length c.args.list.now.items = search rules in
    let items = c.args.list.now.items in
    c.in_ok-number.ensures (map pure_global (drop (c.loop-place.place + 1) items))
    ∙ ap (λ (l : List PureGlobal). c.loop-place.roles.items ++ roles_from c.args.globals.now c.loop-place.number l)
    (sym (rest_is items c.loop-place.place c.index.result.now within c.index.ensures))
    ∙ c.loop-place.invariant

pub returns : goal.returns
unfolding roles_from
returns c =
    let past : length c.args.list.now.items ≤ c.loop-place.place = search rules in
    let none = ap (λ (l : List Global1). c.loop-place.roles.items ++ roles_from c.args.globals.now c.loop-place.number (map pure_global l))
    (drop_all c.loop-place.place c.args.list.now.items past) ∙ append-nil c.loop-place.roles.items in
    sym none ∙ c.loop-place.invariant
