use Rattle.tdf_sim_history.proofs.Known.{is_there}
use Rattle.tdf_sim_history.proofs.laws.law_samples_there.Goals as goal

pub returns : goal.returns
returns c = λ model flat number d s port out time j has holds low at. is_there model flat number d has port out s holds time j low at
