use Rattle.std.proofs.Common.{◌≡◌, ◌∙◌, ap, sym}
use Rattle.std.proofs.lemmas.Option.{slice_get-map}
use Rattle.std.specs.Option.{option_map}
use Rattle.std.specs.Prelude.{List, slice_get}
use Rattle.tdf_expr.specs.Frames.{FrameSeen, limits_of_rate}
use Rattle.tdf_expr.specs.declared.spans.RateSpan.{RateSpan}
use Rattle.tdf_exec_parts.proofs.restoring.set_rates.Goals as goal

pub set_rate-requires-clause-limits : goal.set_rate-requires-clause-limits
set_rate-requires-clause-limits c = λ r at.
    let same : c.loop-i.frame.rates ≡ c.args.frame.now.rates = ap (λ (f : FrameSeen). f.rates) c.loop-i.invariant.rest in
    let both = c.requires.fit.each c.loop-i.i (limits_of_rate r)
    (slice_get-map limits_of_rate c.args.frame.now.rates c.loop-i.i ∙ ap (option_map limits_of_rate) (ap (λ (l : List RateSpan). slice_get l c.loop-i.i) (sym same) ∙ at)) in
    record { least = both.0; greatest = both.1 }
