use Rattle.std.proofs.Common.{◌+◌, ◌*◌, ◌/◌, ap, refl, sym, ◌∙◌}
use Rattle.tdf_sampling.proofs.Stepping.{every_is}
use Rattle.tdf_sampling.proofs.choosing.every.Goals as goal
use Rattle.tdf_sampling.specs.Choice.{end_time}
use Rattle.tdf_sampling.specs.machine.Choosing.{every_upto}
use Rattle.tdf_sampling.specs.machine.Windows.{rows_of}

pub returns-in-Ok-clause-rows : goal.returns-in-Ok-clause-rows
returns-in-Ok-clause-rows c =
    c.in-Ok.ensures ∙ ap (λ n. every_upto (n * 1000) (rows_of c.args.rows.now) (c.end_time.result / (c.from.result * 1000) + 1)) c.from-2.ensures
    ∙ ap (λ n. every_upto (c.args.step * 1000) (rows_of c.args.rows.now) (c.end_time.result / (n * 1000) + 1)) c.from.ensures
    ∙ ap (λ n. every_upto (c.args.step * 1000) (rows_of c.args.rows.now) (n / (c.args.step * 1000) + 1)) c.end_time.ensures
    ∙ sym (every_is (c.args.step * 1000) (rows_of c.args.rows.now) (end_time (rows_of c.args.rows.now) / (c.args.step * 1000) + 1) refl)
