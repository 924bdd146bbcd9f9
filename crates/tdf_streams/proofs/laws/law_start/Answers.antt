use Rattle.tdf_streams.proofs.Api.{text_has_lists, text_holds_delays}
use Rattle.tdf_streams.proofs.laws.law_start.Goals as goal

pub returns : goal.returns
returns c = record { delays = text_holds_delays; lists = text_has_lists }
