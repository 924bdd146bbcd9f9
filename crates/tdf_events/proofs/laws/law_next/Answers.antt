use Rattle.tdf_events.proofs.Afterwards.{next_is_later, none_at_start, none_before_next, none_pending_before, none_without_next}
use Rattle.tdf_events.proofs.laws.law_next.Goals as goal

pub returns-clause-next : goal.returns-clause-next
returns-clause-next c = none_before_next

pub returns-clause-without : goal.returns-clause-without
returns-clause-without c = none_without_next

pub returns-clause-start : goal.returns-clause-start
returns-clause-start c = none_at_start

pub returns-clause-pending : goal.returns-clause-pending
returns-clause-pending c = none_pending_before

pub returns-clause-later : goal.returns-clause-later
returns-clause-later c = next_is_later
