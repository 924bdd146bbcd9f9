use Rattle.tdf_save_members.proofs.EventNames.{members_apart}
use Rattle.tdf_save_members.proofs.Lines.{members_in_lines}
use Rattle.tdf_save_members.proofs.laws.law_members.Goals as goal

pub returns-clause-apart : goal.returns-clause-apart
returns-clause-apart c = members_apart

pub returns-clause-lines : goal.returns-clause-lines
returns-clause-lines c = members_in_lines
