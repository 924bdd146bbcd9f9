use Rattle.tdf_stim_laws.proofs.Accepted.{drives_accepted}
use Rattle.tdf_stim_laws.proofs.Settling.{drives_signals}
use Rattle.tdf_stim_laws.proofs.laws.law_driven.Goals as goal

pub returns : goal.returns
returns c = record {
  signals = drives_signals c.law_checked.ensures;
  accepted = drives_accepted (drives_signals c.law_checked.ensures);
}
