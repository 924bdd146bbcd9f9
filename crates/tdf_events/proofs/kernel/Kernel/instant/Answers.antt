use Rattle.std.proofs.Common.{◌≡◌, ◌∙◌, false, Bool, ap, subst, sym}
use Rattle.tdf_events.specs.Kernel.{IsKernelOf, KernelOf}
use Rattle.tdf_events.specs.views.Parts.{kernel_of}
use Rattle.tdf_events.proofs.kernel.Kernel.instant.Goals as goal

pub run_instant-requires-clause-kernel : goal.run_instant-requires-clause-kernel
run_instant-requires-clause-kernel c =
    let going : c.self.inside.spent ≡ false = ap (λ (k : KernelOf). k.spent) c.self.view_is ∙ c.requires.kernel.going in
    subst (λ (s : Bool). IsKernelOf c.args.flat.now (record (kernel_of c.self.inside.parts) { spent = s })) going (subst (IsKernelOf c.args.flat.now) (sym c.self.view_is) c.requires.kernel)
