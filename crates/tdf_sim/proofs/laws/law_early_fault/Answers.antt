use Rattle.tdf_sim.proofs.FirstFaults.{early_or_flat, early_text_or_flat, one_early, one_early_text}
use Rattle.tdf_sim.proofs.laws.law_early_fault.Goals as goal

pub returns : goal.returns
returns c = record { one = one_early; apart = early_or_flat; one_of_text = one_early_text; text_apart = early_text_or_flat }
