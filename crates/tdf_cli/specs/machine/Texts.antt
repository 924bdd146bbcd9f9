-- What the texts of a job are.
use Rattle.std.specs.Prelude.{◌≡◌, ℕ, List, string_bytes}
use Rattle.tdf_cli.specs.Outcome.{accepted_text, load_end, loaded}
use Rattle.tdf_cli.specs.declared.jobs.Texts.{Texts}
use Rattle.tdf_cli.specs.declared.measure.Measurement.{Measurement}
use Rattle.tdf_lang_printer.specs.Canon.{canon}
use Rattle.tdf_sim.specs.Ends.{Change, HaveAnswers}
use Rattle.tdf_sim.specs.declared.sim.Sim.{Sim}
use Rattle.tdf_sim.specs.PlanText.{plans_text}
use Rattle.tdf_lang_tree.specs.Pure.{PureTree}
use Rattle.tdf_cli_words.specs.Jobs.{usual_turns}

pub record IsCheckText (tree : PureTree) (sim : Sim) (texts : Texts) : Type 0 where
  pub output : texts.output.items ≡ canon tree
  pub note : texts.note.items ≡ accepted_text sim

pub record IsPlanText (sim : Sim) (texts : Texts) : Type 0 where
  pub output : texts.output.items ≡ plans_text sim
  pub note : texts.note.items ≡ accepted_text sim

-- how a run of a made model ended, and the line on it
pub record IsMeasured (tree : PureTree) (sim : Sim) (size : ℕ) (measured : Measurement)
    : Type 0 where
  pub ahead : List (List Change)
  pub answers : HaveAnswers tree sim.flat sim.firsts.items ahead (load_end sim.flat.resolution)
      usual_turns
  pub status : (loaded size tree sim ahead).status ≡ measured.status
  pub line : string_bytes measured.line ≡ (loaded size tree sim ahead).out
