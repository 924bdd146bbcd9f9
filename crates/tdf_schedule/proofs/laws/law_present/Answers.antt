use Rattle.tdf_schedule.proofs.Presents.{is_present, is_narrow}
use Rattle.tdf_schedule.proofs.laws.law_present.Goals as goal

pub returns-clause-present : goal.returns-clause-present
returns-clause-present c edges pace counts entries fit balanced planned = is_present edges pace counts entries fit balanced planned

pub returns-clause-narrow : goal.returns-clause-narrow
returns-clause-narrow c edges pace counts entries e bound fit balanced planned there some is = is_narrow edges pace counts entries fit balanced planned e bound there some is
