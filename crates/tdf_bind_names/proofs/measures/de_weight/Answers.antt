use Rattle.std.proofs.Common.{rules, ◌≡◌, ◌∙◌, ◌+◌, length, ap, sym}
use Rattle.std.proofs.lemmas.List.{length-map}
use Rattle.std.specs.List.{sum_by}
use Rattle.std.specs.Prelude.{map}
use Rattle.tdf_bind_names.proofs.Sums.{cap_left, cap_right}
use Rattle.tdf_bind_names.proofs.measures.de_weight.Goals as goal
use Rattle.tdf_bind_names.specs.Counts.{de_line_weight, instance_weight, processes_weight}
use Rattle.tdf_bind_names.specs.machine.Counts.{capped}
use Rattle.tdf_lang_tree.specs.Views.{pure_de_line, pure_process}

pub returns : goal.returns
returns c =
    let m = c.args.measure in
    let lines = sum_by (de_line_weight m) (map pure_de_line c.args.block.now.decls.items) in
    let count : c.len.result ≡ length c.args.block.now.processes.items = search rules in
    c.add-2.ensures
    ∙ ap (λ n. capped (n + c.add.result)) c.instance_weight.ensures
    ∙ ap (λ n. capped (instance_weight m + n)) (c.add.ensures ∙ ap (λ n. capped (n + c.processes_weight-processes.result)) c.de_lines_weight-lines.ensures ∙ cap_left lines c.processes_weight-processes.result)
    ∙ cap_right (instance_weight m) (lines + c.processes_weight-processes.result)
    ∙ ap (λ n. capped (instance_weight m + (lines + n))) (c.processes_weight-processes.ensures ∙ ap (processes_weight m) (count ∙ sym (length-map c.args.block.now.processes.items pure_process)))
