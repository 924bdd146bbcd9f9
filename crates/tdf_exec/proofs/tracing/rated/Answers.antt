use Rattle.std.proofs.Common.{◌∙◌, ap, sym}
use Rattle.tdf_exec.specs.Traced.{rate_of_row}
use Rattle.tdf_streams.proofs.Api.{get_inside}
use Rattle.tdf_exec.proofs.tracing.rated.Goals as goal

pub returns : goal.returns
returns c =
    let row = get_inside c.args.tables.now.ports c.args.port.number c.requires.number in
    ap (λ r. record c.args.port { rate = r }) (c.rate_of_port.ensures row.0 row.1 ∙ sym (ap (rate_of_row c.args.attrs.now.rows) row.1))
