use Rattle.tdf_streams.proofs.Api.{steps_whole, times_inside, times_rise}
use Rattle.tdf_streams.proofs.laws.law_time.Goals as goal

pub returns : goal.returns
returns c = record { steps = steps_whole; inside = times_inside; rise = times_rise }
