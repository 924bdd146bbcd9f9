use Rattle.tdf_stim_lines.proofs.Kept.{numbered_formed, numbered_kept}
use Rattle.tdf_stim_lines.proofs.Likeness.{numbered_alike}
use Rattle.tdf_stim_lines.proofs.laws.law_numbered.Goals as goal

pub returns : goal.returns
returns c = record { alike = numbered_alike; kept = numbered_kept; formed = numbered_formed }
