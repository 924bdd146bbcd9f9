use Rattle.tdf_stim_lines.proofs.AllForms.{all_numbers}
use Rattle.tdf_stim_lines.proofs.Standing.{numbered_stands}
use Rattle.tdf_stim_lines.proofs.laws.law_places.Goals as goal

pub returns : goal.returns
returns c = record { all = all_numbers; in_place = numbered_stands }
