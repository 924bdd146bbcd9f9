use Rattle.std.proofs.Common.{◌∙◌, ap, sym}
use Rattle.std.specs.Prelude.{slice_get}
use Rattle.tdf_exec.specs.Runners.{ModuleOf}
use Rattle.tdf_exec.specs.declared.runners.Rest.{Rest}
use Rattle.tdf_exec.proofs.restarting.rate_module.Goals as goal

pub rate_ports-requires-clause-numbers : goal.rate_ports-requires-clause-numbers
rate_ports-requires-clause-numbers c j t at =
    c.requires.numbers j t (ap (λ (x : ModuleOf). slice_get x.traced j) (sym c.runner.view_is) ∙ ap (λ (r : Rest). slice_get r.traced.items j) (sym c.deref_mut-rest.ensures.value) ∙ at)
