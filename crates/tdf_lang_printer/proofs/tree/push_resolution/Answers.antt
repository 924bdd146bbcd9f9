use Rattle.std.proofs.Common.{rules, ◌≡◌, true}
use Rattle.tdf_base.specs.Version.{has_resolution}
use Rattle.tdf_lang_printer.specs.Canon.{resolution_text}
use Rattle.tdf_lang_printer.proofs.tree.push_resolution.Goals as goal

pub returns : goal.returns
unfolding resolution_text
returns c =
    let same : has_resolution c.args.version ≡ true = search rules in
    rw same (c.push_unit.ensures)
