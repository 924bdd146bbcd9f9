use Rattle.std.proofs.Common.{◌≡◌, ◌+◌, ◌^◌, ◌<◌, ◌∙◌, ap, arith, length}
use Rattle.std.proofs.lemmas.List.{length-map}
use Rattle.std.proofs.lemmas.Result.{IfOk-weaker}
use Rattle.tdf_lang_tree.specs.Views.{pure_global, pure_tree}
use Rattle.tdf_stim.proofs.FreeNames.{driver_named, free_same}
use Rattle.tdf_stim.specs.Driven.{free_from, is_listed, names_in_use, stim_name, tries}
use Rattle.tdf_stim.specs.machine.Maps.{holds}
use Rattle.tdf_stim.proofs.names.driver_name.Goals as goal

pub returns-clause-name : goal.returns-clause-name
returns-clause-name c =
    let tree = c.args.tree.now in
    let used = is_listed (names_in_use (pure_tree tree)) in
    let room = c.len.result + c.len-2.result + 1 in
    let same : room ≡ tries (pure_tree tree) = omega (arith, length-map tree.globals.items pure_global) in
    IfOk-weaker c.free.result _ _ (λ name h. h ∙ ap stim_name (free_same (holds c.in_ok-names.names) used c.in_ok-names.ensures room 0 ∙ ap (λ n. free_from used n 0) same)) c.free.ensures

pub returns-clause-named : goal.returns-clause-named
returns-clause-named c =
    let tree = c.args.tree.now in
    let small : tries (pure_tree tree) < 2 ^ 66 = omega (arith, length-map tree.globals.items pure_global) in
    IfOk-weaker c.free.result _ _ (λ name h. driver_named (pure_tree tree) small) c.free.ensures
