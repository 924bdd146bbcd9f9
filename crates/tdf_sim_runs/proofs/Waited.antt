-- A run that was brought to a stop, as its history has it.
use Rattle.std.proofs.Common.{◌≡◌, ◌∙◌, ◌++◌, ◌≤◌, ℕ, List, Option, append-nil, sym, ap, subst, arith}
use Rattle.std.proofs.KnownBytes.{Appends-trans}
use Rattle.std.specs.Io.KnownBytes.{Appends}
use Rattle.tdf_bind.specs.declared.model.Flat.{Flat}
use Rattle.tdf_sim_instants.specs.Below.{BoundariesHaveOne}
use Rattle.tdf_events.specs.Side.{SideOf}
use Rattle.tdf_io.proofs.Api.{front_more}
use Rattle.tdf_io.specs.Bytes.{AppendsFront}
use Rattle.tdf_lang_tree.specs.Pure.{PureTree}
use Rattle.tdf_sim_history.specs.Cells.{run_cells}
use Rattle.tdf_sim_history.specs.History.{On}
use Rattle.tdf_sim_history.specs.Rules.{rules_of}
use Rattle.tdf_sim_history.specs.Telling.{world_told}
use Rattle.tdf_sim_history.specs.Texts.{notes_to}
use Rattle.tdf_sim_history.specs.World.{Change, World}
use Rattle.tdf_sim_instants.specs.InstantLaws.{IsModelOf}
use Rattle.tdf_sim_notes.specs.Ending.{end_text}
use Rattle.tdf_sim_shown.specs.Below.{IsRowsFrom}
use Rattle.tdf_sim_runs.proofs.Handed.{hands_part}
use Rattle.tdf_sim_runs.proofs.Onward.{goes_then}
use Rattle.tdf_sim_runs.proofs.AtStop.{rows_agree}
use Rattle.tdf_sim_runs.proofs.Reaching.{part_then, part_to}
use Rattle.tdf_sim_runs.proofs.Resting.{rows_of_rest, rows_of_wait}
use Rattle.tdf_sim_runs.proofs.Told.{cells_told, news_told, on_other}
use Rattle.tdf_sim_runs.specs.Ending.{HandsPart, WritesPart, state_from}
use Rattle.tdf_sim_runs.specs.Handing.{ComesHanding}
use Rattle.tdf_sim_runs.specs.Ongoing.{AreToldTo}
use Rattle.tdf_sim_runs.specs.Pausing.{HasWaited, PausesInPart, WaitsAs}
use Rattle.tdf_sim_runs.specs.Rest.{AreNewsAfter, rest_end}
use Rattle.tdf_sim_runs.specs.Running.{IsRunningAt, RunGoesOn, WritesFrontTo}
use Rattle.tdf_sim_runs.specs.declared.running.Running.{Running}
use Rattle.tdf_trace.specs.Writings.{rows_text}

module _ (law : BoundariesHaveOne) (flat : Flat) (stop : ℕ) (r mid : Running) (a b d e : Option (List ℕ)) (come : ComesHanding flat stop r mid a b d e) where
  -- so it was told what the boundaries up to the stop led to
  pub told_at_stop : (last : Running) (c f : Option (List ℕ)) → HasWaited flat mid last b c e f → (model : PureTree) (start : World SideOf) (handed : List ℕ) → IsModelOf model flat → IsRunningAt model flat start handed r
      → (ahead : List (List Change)) × AreToldTo model flat start stop ahead
  told_at_stop last c f waited model start handed m run =
      let on = (goes_then law flat r mid last come.goes.news mid.news.items a b c come.can come.goes.goes waited.goes).runs model start handed m run in
      (on.going.ahead, subst (λ n. AreToldTo model flat start n on.going.ahead) (waited.at ∙ come.at) on.going.told)

  -- it came to the stop, and then it waited
  module _ (last : Running) (c f : Option (List ℕ)) (waited : HasWaited flat mid last b c e f) (model : PureTree) (start : World SideOf) (handed : List ℕ) (ahead : List (List Change)) (m : IsModelOf model flat)
      (run : IsRunningAt model flat start handed r) (to : AreToldTo model flat start stop ahead) where
    abbrev given : List ℕ
    given = come.goes.news

    all : RunGoesOn flat r last (given ++ mid.news.items) a c
    all = goes_then law flat r mid last given mid.news.items a b c come.can come.goes.goes waited.goes

    last_at : last.from ≡ stop
    last_at = waited.at ∙ come.at

    last_run : IsRunningAt model flat start (handed ++ (given ++ mid.news.items)) last
    last_run = all.runs model start handed m run

    mid_run : IsRunningAt model flat start (handed ++ given) mid
    mid_run = come.goes.goes.runs model start handed m run

    to_last : AreToldTo model flat start last.from ahead
    to_last = subst (λ n. AreToldTo model flat start n ahead) (sym last_at) to

    to_mid : AreToldTo model flat start mid.from ahead
    to_mid = subst (λ n. AreToldTo model flat start n ahead) (sym come.at) to

    news_are : AreNewsAfter model flat start ahead stop handed (given ++ mid.news.items)
    news_are = sym (append-nil (handed ++ (given ++ mid.news.items))) ∙ ap (λ l. (handed ++ (given ++ mid.news.items)) ++ l) (sym waited.none)
        ∙ last_run.news_are ∙ news_told law model flat start last.from last.left last.engine m last_run.going ahead to_last
        ∙ ap (λ n. notes_to model flat (rules_of model flat) (world_told ahead start) n) last_at

    pub waits_as : WaitsAs model flat r.shown.trace.about start handed ahead r.shown.trace.rows.upto stop a c d f last
    waits_as =
        let on = on_other law model flat start last.from last.left last.engine m last_run.going ahead to_last in
        record {
          world = on.0;
          on = subst (λ n. state_from model flat start ahead n ≡ On on.0) last_at on.1;
          rows = subst (λ n. IsRowsFrom (run_cells model flat (rules_of model flat) (world_told ahead start) n) n last.shown.trace.rows.upto) come.at
              (rows_agree (run_cells model flat (rules_of model flat) (world_told mid_run.going.ahead start) mid.from) (run_cells model flat (rules_of model flat) (world_told ahead start) mid.from) mid.from last.shown.trace.rows.upto
              (cells_told law model flat start mid.from mid.left mid.engine m mid_run.going ahead to_mid) (waited.rows model start (handed ++ given) m mid_run));
          trace = subst (λ n. Appends a c (rows_text r.shown.trace.about (run_cells model flat (rules_of model flat) (world_told ahead start) n) r.shown.trace.rows.upto last.shown.trace.rows.upto)) last_at (all.rows model start handed ahead m run to_last);
          about_is = all.about;
          news = given ++ mid.news.items;
          news_are = news_are;
          notes = Appends-trans d e f given mid.news.items come.goes.took waited.took;
          none_held = waited.none;
          goes_on = last_run;
        }

  -- it came to the stop, and a sink refused: it wrote front parts of what is known then, and of the plans that came
  within : mid.from ≤ stop
  within = let s = come.at in omega (arith, s)

  pub front_rows : (c : Option (List ℕ)) → WritesFrontTo flat mid b c → WritesPart flat stop r a c
  front_rows c part = part_then law flat r mid stop come.goes.news a b c come.can within come.goes.goes (part_to law flat mid stop b c come.can within part)

  pub front_news : (f : Option (List ℕ)) → AppendsFront e f mid.news.items → HandsPart flat stop r d f
  front_news f part = hands_part law flat r mid stop come.goes.news a b d e f within come.goes.goes come.goes.took part

-- so a pause wrote that was refused
pub pauses_in_part : BoundariesHaveOne → (flat : Flat) (stop turns : ℕ) (r : Running) (a b d e : Option (List ℕ)) → WritesPart flat stop r a b → HandsPart flat stop r d e
    → (model : PureTree) (start : World SideOf) (handed : List ℕ) (ahead : List (List Change)) → IsModelOf model flat → IsRunningAt model flat start handed r → AreToldTo model flat start stop ahead
    → PausesInPart model flat r.shown.trace.about start handed ahead r.shown.trace.rows.upto stop turns a b d e
pauses_in_part law flat stop turns r a b d e part hands model start handed ahead m run to = record {
  waits = λ w on. record {
    trace = λ rows is. rows_of_wait law model flat start handed ahead stop m to r run a b part w on rows is;
    notes = λ news are. hands model start handed ahead news m run to are;
  };
  ends = λ none. record {
    trace = rows_of_rest law model flat start handed ahead stop m to r run a b part;
    notes = λ news are. front_more d e news (end_text flat.resolution turns (rest_end model flat start ahead stop turns)) (hands model start handed ahead news m run to are);
  };
}
