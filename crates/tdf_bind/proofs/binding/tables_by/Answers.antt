use Rattle.std.proofs.Common.{◌≡◌, ◌∙◌, ◌-◌, ℕ, List, length, sym, subst, rules}
use Rattle.std.specs.Prelude.{IfErr}
use Rattle.tdf_bind_tables.specs.FlatTables.{AreShort, IsFlatRefusal}
use Rattle.tdf_bind.proofs.Linked.{refused_by}
use Rattle.tdf_bind.proofs.binding.tables_by.Goals as goal
use Rattle.tdf_bind.specs.Flat.{trace_lines}
use Rattle.tdf_bind_attributes.specs.Roles.{roles_of}
use Rattle.tdf_lang_tree.specs.Views.{pure_tree}
use Rattle.tdf_bind_hierarchy.specs.Blocks.{BlockOf}
use Rattle.tdf_bind_hierarchy.specs.Bound.{AreBound}
use Rattle.tdf_bind_connections.specs.declared.roles.Role.{Role}
use Rattle.tdf_bind_connections.specs.declared.traces.TraceLine.{TraceLine}

pub flat_of-requires-clause-bound : goal.flat_of-requires-clause-bound
flat_of-requires-clause-bound c =
    let model = pure_tree c.args.tree.now in
    let blocks = c.args.blocks.now.items in
    let count : c.saturating_sub.result ≡ length blocks - 1 = search rules in
    subst (λ (n : ℕ). AreBound c.deref.result.now n) (sym count)
    (subst (λ (l : List BlockOf). AreBound l (length blocks - 1)) (sym c.deref.ensures.value)
    (c.law_bound.ensures model blocks c.requires.linked.resolved c.requires.linked.links c.requires.closed))

pub returns-clause-refused : goal.returns-clause-refused
returns-clause-refused c =
    let model = pure_tree c.args.tree.now in
    let blocks = c.args.blocks.now.items in
    let count : c.saturating_sub.result ≡ length blocks - 1 = search rules in
    let roles : c.deref-2.result.now ≡ roles_of model = c.deref-2.ensures.value ∙ c.in_ok-roles.ensures in
    let lines : c.deref-3.result.now ≡ trace_lines model = c.deref-3.ensures.value ∙ c.in_ok-lines.ensures in
    refused_by model blocks c.requires.linked c.flat_of.result
    (subst (λ (l : List TraceLine). IfErr c.flat_of.result (IsFlatRefusal blocks (length blocks - 1) (roles_of model) l)) lines
    (subst (λ (l : List Role). IfErr c.flat_of.result (IsFlatRefusal blocks (length blocks - 1) l c.deref-3.result.now)) roles
    (subst (λ (n : ℕ). IfErr c.flat_of.result (IsFlatRefusal blocks n c.deref-2.result.now c.deref-3.result.now)) count
    (subst (λ (l : List BlockOf). IfErr c.flat_of.result (IsFlatRefusal l c.saturating_sub.result c.deref-2.result.now c.deref-3.result.now)) c.deref.ensures.value
    c.flat_of.ensures.refused))))

pub flat_of-requires-clause-short : goal.flat_of-requires-clause-short
flat_of-requires-clause-short c =
    subst AreShort (sym (c.deref-2.ensures.value ∙ c.in_ok-roles.ensures)) (c.law_delays.ensures (pure_tree c.args.tree.now) c.requires.types)
