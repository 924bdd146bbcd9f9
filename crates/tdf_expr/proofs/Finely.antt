-- In a model without a fault every block can be compiled.
use Rattle.std.proofs.Common.{◌≡◌, ℕ, zero, suc, List, [], ◌∷◌, ◌++◌, Option, Some, None, refl, ap, subst}
use Rattle.std.specs.List.{flat_map}
use Rattle.std.specs.Prelude.{slice_get}
use Rattle.tdf_base.specs.Limits.{deepest_nesting}
use Rattle.tdf_expr_compiler.proofs.Api.{faultless}
use Rattle.tdf_expr_compiler.specs.Promises.{AreFaultless}
use Rattle.tdf_expr_blocks.specs.Blocks.{bodies_faults, process_faults, tdf_faults, de_faults, composite_faults}
use Rattle.tdf_expr_blocks.specs.Lines.{tdf_line_faults, attr_faults, initial_faults, de_line_faults, sense_faults}
use Rattle.tdf_expr_blocks.specs.Types.{global_faults, traces_faults, type_faults}
use Rattle.tdf_expr_blocks.specs.Writers.{writer_faults}
use Rattle.tdf_expr.proofs.Declared.{IsGlobal, globals_all, tdf_sound, de_sound}
use Rattle.tdf_expr.proofs.Things.{AllThings}
use Rattle.tdf_expr.specs.Blocks.{Module, Events, body_of, process_body}
use Rattle.tdf_expr.specs.declared.bodies.Body.{Body}
use Rattle.tdf_expr.specs.declared.bodies.Body.TheVariants as body
use Rattle.tdf_expr.specs.machine.Fine.{IsFine, IsBlockFine}
use Rattle.tdf_base.proofs.Api.{none_first, none_second}
use Rattle.tdf_expr_symbols.specs.Faults.{stmts_faults}
use Rattle.tdf_expr_symbols.specs.Names.{Names, globals_of}
use Rattle.tdf_expr_symbols.specs.Scope.{Scope, tdf_scope, de_scope}
use Rattle.tdf_expr_symbols.specs.declared.kinds.Part.{Part}
use Rattle.tdf_expr_symbols.specs.declared.kinds.Part.TheVariants as part
use Rattle.tdf_lang_tree.specs.Kept.{Each, KeepsStmts, KeepsTdf, KeepsDe, KeepsProcess, KeepsGlobal, IsKept}
use Rattle.tdf_lang_tree.specs.Pure.{Done, PureBody, PureGlobal, GShape, GTdf, GDe, GNet, PureTdf, PureDe, PureProcess, PureTree}
use Rattle.tdf_expr_blocks.specs.Below.{body_faults}

-- no statement at all
done_faultless : (scope : Scope) → AreFaultless scope Done
done_faultless scope = record { body = part.Initialize; none = refl }

-- a body
body_faultless : (scope : Scope) (p : Part) (b : PureBody) → body_faults scope p b ≡ [] → AreFaultless scope b.list
unfolding body_faults
body_faultless scope p b none = faultless scope p b.list (none_first (stmts_faults scope p [] b.list) _ none)

-- a `tdf` block
module_bodies : (scope : Scope) (block : PureTdf) → bodies_faults scope block ≡ [] → (part : Body) → AreFaultless scope (body_of (Module block) part)
module_bodies scope block none body.Initialize =
    body_faultless scope part.Initialize block.initialize (none_first (body_faults scope part.Initialize block.initialize) _ none)
module_bodies scope block none body.Processing =
    body_faultless scope part.Processing block.processing
    (none_first (body_faults scope part.Processing block.processing) _ (none_second (body_faults scope part.Initialize block.initialize) _ none))
module_bodies scope block none body.Change =
    body_faultless scope part.Change block.change
    (none_first (body_faults scope part.Change block.change) _ (none_second (body_faults scope part.Processing block.processing) _ (none_second (body_faults scope part.Initialize block.initialize) _ none)))
module_bodies scope block none body.Reinitialize =
    body_faultless scope part.Reinitialize block.reinitialize
    (none_second (body_faults scope part.Change block.change) _ (none_second (body_faults scope part.Processing block.processing) _ (none_second (body_faults scope part.Initialize block.initialize) _ none)))
module_bodies scope block none (body.Process n) = done_faultless scope

module_nested : (block : PureTdf) → KeepsTdf block → (part : Body) → KeepsStmts deepest_nesting (body_of (Module block) part)
module_nested block kept body.Initialize = kept.initialize
module_nested block kept body.Processing = kept.processing
module_nested block kept body.Change = kept.change
module_nested block kept body.Reinitialize = kept.reinitialize
module_nested block kept (body.Process n) = tt

module_fine : (globals : Names) (block : PureTdf) → AllThings IsGlobal globals → tdf_faults globals block ≡ [] → KeepsTdf block → IsFine globals (Module block)
unfolding tdf_faults
module_fine globals block all none kept =
    let scope = tdf_scope globals block in
    let lines = flat_map (tdf_line_faults scope.globals) block.decls in
    let attrs = flat_map (attr_faults scope) block.attrs in
    let initials = flat_map (initial_faults scope) block.initials in
    let after = none_second lines (attrs ++ (initials ++ bodies_faults scope block)) none in
    record {
      sound = tdf_sound globals block all (none_first lines (attrs ++ (initials ++ bodies_faults scope block)) none) (none_first attrs (initials ++ bodies_faults scope block) after) kept.decls;
      faultless = module_bodies scope block (none_second initials (bodies_faults scope block) (none_second attrs (initials ++ bodies_faults scope block) after));
      nested = module_nested block kept;
    }

-- a `de` block
process_faultless : (scope : Scope) (list : List PureProcess) (n : ℕ) → flat_map (process_faults scope) list ≡ [] → AreFaultless scope (process_body (slice_get list n))
unfolding process_faults
process_faultless scope [] n none = done_faultless scope
process_faultless scope (p ∷ ps) zero none =
    body_faultless scope part.Process p.body
    (none_second (flat_map (sense_faults scope) p.sensitive) (body_faults scope part.Process p.body) (none_first (process_faults scope p) (flat_map (process_faults scope) ps) none))
process_faultless scope (p ∷ ps) (suc n) none = process_faultless scope ps n (none_second (process_faults scope p) (flat_map (process_faults scope) ps) none)

process_nested : (list : List PureProcess) (n : ℕ) → Each KeepsProcess list → KeepsStmts deepest_nesting (process_body (slice_get list n))
process_nested [] n kept = tt
process_nested (p ∷ ps) zero kept = kept.0.1
process_nested (p ∷ ps) (suc n) kept = process_nested ps n kept.1

event_bodies : (scope : Scope) (block : PureDe) → flat_map (process_faults scope) block.processes ≡ [] → (part : Body) → AreFaultless scope (body_of (Events block) part)
event_bodies scope block none body.Initialize = done_faultless scope
event_bodies scope block none body.Processing = done_faultless scope
event_bodies scope block none body.Change = done_faultless scope
event_bodies scope block none body.Reinitialize = done_faultless scope
event_bodies scope block none (body.Process n) = process_faultless scope block.processes n none

event_nested : (block : PureDe) → KeepsDe block → (part : Body) → KeepsStmts deepest_nesting (body_of (Events block) part)
event_nested block kept body.Initialize = tt
event_nested block kept body.Processing = tt
event_nested block kept body.Change = tt
event_nested block kept body.Reinitialize = tt
event_nested block kept (body.Process n) = process_nested block.processes n kept.processes

event_fine : (globals : Names) (block : PureDe) → AllThings IsGlobal globals → de_faults globals block ≡ [] → KeepsDe block → IsFine globals (Events block)
unfolding de_faults
event_fine globals block all none kept =
    let scope = de_scope globals block in
    let lines = flat_map (de_line_faults scope.globals) block.decls in
    let processes = flat_map (process_faults scope) block.processes in
    let writers = writer_faults scope.own [] block.processes in
    record {
      sound = de_sound globals block all (none_first lines (processes ++ writers) none) kept.decls;
      faultless = event_bodies scope block (none_first processes writers (none_second lines (processes ++ writers) none));
      nested = event_nested block kept;
    }

-- every global name
global_fine : (globals : Names) (g : PureGlobal) → AllThings IsGlobal globals → global_faults globals g ≡ [] → KeepsGlobal g → IsBlockFine globals g
unfolding global_faults
global_fine globals (GShape t) all none kept = tt
global_fine globals (GTdf block) all none kept = module_fine globals block all none kept
global_fine globals (GDe block) all none kept = event_fine globals block all none kept
global_fine globals (GNet block) all none kept = tt

list_fine : (globals : Names) (list : List PureGlobal) → AllThings IsGlobal globals → flat_map (global_faults globals) list ≡ [] → Each KeepsGlobal list
    → (n : ℕ) (g : PureGlobal) → slice_get list n ≡ Some g → IsBlockFine globals g
list_fine globals [] all none kept n g at = absurd cc
list_fine globals (x ∷ list) all none kept zero g at =
    subst (IsBlockFine globals) (ap held at) (global_fine globals x all (none_first (global_faults globals x) (flat_map (global_faults globals) list) none) kept.0)
  where
    held : Option PureGlobal → PureGlobal
    held None = x
    held (Some y) = y
list_fine globals (x ∷ list) all none kept (suc n) g at =
    list_fine globals list all (none_second (global_faults globals x) (flat_map (global_faults globals) list) none) kept.1 n g at

pub all_fine : (model : PureTree) → IsKept model → type_faults model ≡ [] → (n : ℕ) (g : PureGlobal) → slice_get model.globals n ≡ Some g
    → IsBlockFine (globals_of model.globals) g
unfolding type_faults
all_fine model kept none =
    let globals = globals_of model.globals in
    let listed = none_first (flat_map (global_faults globals) model.globals) (composite_faults globals model.top ++ traces_faults model.traces) none in
    list_fine globals model.globals (globals_all globals model.globals listed) listed kept.globals
