use Rattle.std.proofs.Common.{◌∙◌, List, ℕ, map, ap}
use Rattle.tdf_bind_attributes.proofs.Rolled.{kinds_are, same_role}
use Rattle.tdf_bind_attributes.proofs.processes.processes_role.Goals as goal
use Rattle.tdf_bind_attributes.specs.Roles.{names_of_events, process_role}
use Rattle.tdf_bind_attributes.specs.machine.Processes.{process_with}
use Rattle.tdf_bind_ports.specs.Ports.{ports_of_de}
use Rattle.tdf_lang_tree.specs.Views.{pure_de, pure_process}
use Rattle.tdf_lang_tree.specs.declared.blocks.PortLine.{PortLine}

pub returns : goal.returns
returns c =
    let block = pure_de c.args.block.now in
    let lines = map pure_process c.args.block.now.processes.items in
    same_role c.args.number c.in_ok-kinds.kinds.items (map (λ p. p.kind) (ports_of_de block)) c.in_ok-processes.processes.items (map (process_role block) lines)
    c.in_ok-names.names.items (names_of_events block)
    (c.in_ok-kinds.ensures ∙ kinds_are c.lines.result.now ∙ ap (λ (l : List PortLine). map (λ p. p.kind) l) (c.lines.ensures ∙ c.in_ok-ports.ensures))
    (c.in_ok-processes.ensures
    ∙ ap (λ (l : List PortLine). map (process_with (map (λ p. p.name) l) c.in_ok-events.events) lines) c.in_ok-ports.ensures
    ∙ ap (λ (l : List (List ℕ)). map (process_with (map (λ p. p.name) (ports_of_de block)) l) lines) c.in_ok-events.ensures)
    c.in_ok-names.ensures
