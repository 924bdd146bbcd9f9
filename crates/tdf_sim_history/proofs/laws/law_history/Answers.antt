use Rattle.tdf_sim_history.proofs.Instants.{end_lies, fault_ends, happens, reached, spent_ends}
use Rattle.tdf_sim_history.proofs.laws.law_history.Goals as goal

pub returns-clause-happens : goal.returns-clause-happens
returns-clause-happens c = λ engine from start now w stop time on next less. happens engine from start now w on stop time next less

pub returns-clause-reached : goal.returns-clause-reached
returns-clause-reached c = λ engine from start now w stop on next. reached engine from start now w on stop next

pub returns-clause-fault : goal.returns-clause-fault
returns-clause-fault c = λ engine from start now w stop time fault u on next less is. fault_ends engine from start now w on stop time fault u next less is

pub returns-clause-spent : goal.returns-clause-spent
returns-clause-spent c = λ engine from start now w stop time u on next less is. spent_ends engine from start now w on stop time u next less is

pub returns-clause-end : goal.returns-clause-end
returns-clause-end c = λ engine from start now w stop on low. end_lies engine from start now w on stop low
