use Rattle.std.proofs.Common.{◌∙◌, ◌++◌, ◌∷◌, [], List, ℕ, ap, sym}
use Rattle.std.specs.List.{flat_map}
use Rattle.std.specs.Prelude.{map}
use Rattle.tdf_bind_names.proofs.Sums.{whole_weights}
use Rattle.tdf_bind_names.proofs.measures.weights_of.Goals as goal
use Rattle.tdf_bind_names.specs.Counts.{weight_of}
use Rattle.tdf_bind_names.specs.machine.Counts.{capped}
use Rattle.tdf_lang_tree.specs.Views.{pure_global}

pub returns : goal.returns
returns c =
    let m = c.args.measure in
    let before = map capped (flat_map (weight_of m) (map pure_global c.args.tree.now.globals.items)) in
    c.in_ok-push.ensures.items
    ∙ ap (λ (l : List ℕ). l ++ c.instance_weight.result ∷ []) (c.in_ok-push_weights.ensures ∙ ap (λ (l : List ℕ). l ++ before) c.new-out.ensures.items)
    ∙ ap (λ (w : ℕ). before ++ w ∷ []) c.instance_weight.ensures
    ∙ sym (whole_weights m c.args.tree.now)
