use Rattle.std.proofs.Common.{◌≡◌, ◌∙◌, ℕ, List, ap, map}
use Rattle.std.proofs.lemmas.Result.{IfOk-weaker}
use Rattle.tdf_lang_tree.specs.Views.{pure_global, pure_tree}
use Rattle.tdf_stim.proofs.Maps.{source_same}
use Rattle.tdf_stim.specs.Signals.{source_named, type_named}
use Rattle.tdf_stim.specs.declared.signals.Signals.{Signals}
use Rattle.tdf_stim.specs.machine.Maps.{found_source, found_type, source_by}
use Rattle.tdf_stim.proofs.signals.Signals.of_tree.Goals as goal

pub returns : goal.returns
returns c =
    let tree = c.args.tree.now in
    let members = c.deref-2.result.now in
    let type = found_type c.in_ok-types.types in
    let types = type_named (map pure_global tree.globals.items) in
    let finds : (signals : Signals) → ((label : List ℕ) → found_source signals label ≡ source_by type members label) → (label : List ℕ) → found_source signals label ≡ source_named (pure_tree tree) label =
    λ signals h label. h label ∙ source_same type types (λ name. rw c.deref.ensures.value at (c.in_ok-types.ensures name)) members label ∙ ap (λ ms. source_by types ms label) c.deref-2.ensures.value in
    IfOk-weaker c.of-2.result _ _ finds c.of-2.ensures
