-- How a run of a model comes to its stop, and what it writes up to there.
use Rattle.std.proofs.Common.{◌≡◌, ◌∙◌, ◌<◌, ℕ, List, [], Option, Ok, Err, refl, sym, ap, subst}
use Rattle.std.proofs.KnownBytes.{Appends-trans}
use Rattle.std.specs.Io.KnownBytes.{Appends}
use Rattle.std.specs.Prelude.{◌≢◌}
use Rattle.tdf_base.specs.Limits.{time_end}
use Rattle.tdf_bind.specs.declared.model.Flat.{Flat}
use Rattle.tdf_dynamic_first.specs.declared.first.First.{First}
use Rattle.tdf_events.specs.Runnable.{IsRunnable}
use Rattle.tdf_events.specs.Side.{SideOf}
use Rattle.tdf_io.proofs.Api.{front_more, front_then}
use Rattle.tdf_io.specs.Bytes.{AppendsFront}
use Rattle.tdf_io.specs.declared.writing.SinkErr.{SinkErr}
use Rattle.tdf_lang_tree.specs.Pure.{PureTree}
use Rattle.tdf_sim_history.specs.Cells.{run_cells}
use Rattle.tdf_sim_history.specs.History.{On}
use Rattle.tdf_sim_history.specs.Rules.{rules_of, start_world}
use Rattle.tdf_sim_history.specs.Telling.{world_told}
use Rattle.tdf_sim_history.specs.Texts.{notes_to, state_at}
use Rattle.tdf_sim_history.specs.World.{Change, World}
use Rattle.tdf_sim_notes.specs.Ending.{run_state}
use Rattle.tdf_sim_notes.specs.Laws.{NotesAreWritten}
use Rattle.tdf_sim_notes.specs.Plans.{plans_of}
use Rattle.tdf_sim_runs.specs.Parts.{HasEndedBefore, IfPaused, IsFrontOfPart, IsFrontOfRun, IsRefusedPart, PartsAs, PausesAt, part_cells, part_trace}
use Rattle.tdf_sim_runs.specs.Paused.{IsPaused, IsPausedAt}
use Rattle.tdf_sim_runs.specs.declared.paused.Paused.{Paused}
use Rattle.tdf_sim_runs.specs.machine.Parting.{part_of}
use Rattle.tdf_sim_shown.specs.Below.{IsRowsFrom}
use Rattle.tdf_sim_runs.proofs.Noting.{plans_part}
use Rattle.tdf_sim_runs.proofs.WholeRun.{head_part, runs_whole, told_is}
use Rattle.tdf_sim_runs.specs.Ending.{state_from}
use Rattle.tdf_sim_runs.specs.Ongoing.{AreToldTo}
use Rattle.tdf_sim_runs.specs.Pausing.{EndsBefore, IfWaiting, PausesAs, PausesInPart, WaitsAs}
use Rattle.tdf_sim_runs.specs.Rest.{GoesOnAs}
use Rattle.tdf_sim_runs.specs.Running.{CanGoOn, told_rows}
use Rattle.tdf_sim_runs.specs.Runs.{model_about}
use Rattle.tdf_sim_runs.specs.declared.pausing.Arrival.{Arrival}
use Rattle.tdf_sim_runs.specs.declared.pausing.Arrival.TheVariants as arrival
use Rattle.tdf_sim_runs.specs.declared.run.Ran.{Ran}
use Rattle.tdf_sim_runs.specs.declared.running.Running.{Running}
use Rattle.tdf_trace.specs.Writings.{AboutSeen, head_of, rows_text}
use Rattle.tdf_trace.specs.declared.stage.Stage.TheVariants.{Open}
use Rattle.tdf_trace_rows.specs.Rows.{Cells}
use Rattle.tdf_trace_rows.specs.declared.kinds.TraceKind.{TraceKind}

module _ (kind : TraceKind) (model : PureTree) (flat : Flat) (firsts : List First) (ahead : List (List Change)) (stop turns : ℕ) where
  abbrev start : World SideOf
  start = start_world model flat firsts [] turns

  abbrev told : World SideOf
  told = start_world model flat firsts ahead turns

  abbrev about : AboutSeen
  about = model_about kind flat

  abbrev start_told : world_told ahead start ≡ told
  start_told = told_is kind model flat firsts ahead stop turns

  abbrev came : List ℕ
  came = notes_to model flat (rules_of model flat) told stop

  -- its history, its cells and its plans are those from a start that is told the same
  state_is : state_from model flat start ahead stop ≡ run_state model flat firsts ahead stop turns
  state_is = ap (λ (w : World SideOf). state_at model flat (rules_of model flat) w stop) start_told

  cells_are : run_cells model flat (rules_of model flat) (world_told ahead start) stop ≡ part_cells model flat firsts ahead stop turns
  cells_are = ap (λ (w : World SideOf). run_cells model flat (rules_of model flat) w stop) start_told

  came_is : notes_to model flat (rules_of model flat) (world_told ahead start) stop ≡ came
  came_is = ap (λ (w : World SideOf). notes_to model flat (rules_of model flat) w stop) start_told

  not_on : ((w : World SideOf) → state_from model flat start ahead stop ≢ On w) → (w : World SideOf) → run_state model flat firsts ahead stop turns ≢ On w
  not_on none w is = none w (state_is ∙ is)

  -- where it was refused before its first instant
  module _ (a b n o : Option (List ℕ)) (notes : NotesAreWritten) (head : AppendsFront a b (head_of about)) (plans : AppendsFront n o (plans_of flat firsts)) where
    pub refused_early : IsRefusedPart kind model flat firsts ahead stop turns a b n o
    refused_early = record {
      waits = λ w on. record {
        trace = λ rows is. front_more a b (head_of about) (rows_text about (part_cells model flat firsts ahead stop turns) 0 rows) head;
        notes = front_more n o (plans_of flat firsts) came plans;
      };
      ends = λ none. record {
        trace = head_part kind model flat firsts ahead stop turns a b head;
        notes = plans_part notes model flat firsts ahead stop turns n o plans;
      };
    }

  -- where its head and its first plans were written before
  module _ (of : AboutSeen) (upto : ℕ) (of_is : of ≡ about) (upto_is : upto ≡ 0) (a b c n o p : Option (List ℕ)) (head : Appends a b (head_of about)) (plans : Appends n o (plans_of flat firsts)) where
    rows_are : (rows : ℕ) → told_rows model flat start ahead of stop upto rows ≡ rows_text about (part_cells model flat firsts ahead stop turns) 0 rows
    rows_are rows = ap (λ (x : AboutSeen). told_rows model flat start ahead x stop upto rows) of_is ∙ ap (λ u. told_rows model flat start ahead about stop u rows) upto_is
        ∙ ap (λ (g : Cells). rows_text about g 0 rows) cells_are

    trace_then : (rows : ℕ) → Appends b c (told_rows model flat start ahead of stop upto rows) → Appends a c (part_trace kind model flat firsts ahead stop turns rows)
    trace_then rows took = Appends-trans a b c (head_of about) (rows_text about (part_cells model flat firsts ahead stop turns) 0 rows) head (subst (λ (t : List ℕ). Appends b c t) (rows_are rows) took)

    -- it waits there
    abbrev pub waiting : Running → Paused
    waiting r = record { flat = flat; run = r; kind = kind; turns = turns }

    module _ (r : Running) (waits : WaitsAs model flat of start [] ahead upto stop b c o p r) (at : r.from ≡ stop)
        (others : (more : List (List Change)) → AreToldTo model flat start stop more → IsRowsFrom (run_cells model flat (rules_of model flat) (world_told more start) stop) stop r.shown.trace.rows.upto) where
      news_is : waits.news ≡ came
      news_is = waits.news_are ∙ came_is

      rows_now : IsRowsFrom (run_cells model flat (rules_of model flat) (world_told waits.goes_on.going.ahead start) r.from) r.from r.shown.trace.rows.upto
      rows_now = subst (λ t. IsRowsFrom (run_cells model flat (rules_of model flat) (world_told waits.goes_on.going.ahead start) t) t r.shown.trace.rows.upto) (sym at)
          (others waits.goes_on.going.ahead (subst (λ t. AreToldTo model flat start t waits.goes_on.going.ahead) at waits.goes_on.going.told))

      paused_at : IsPausedAt model start came (waiting r)
      paused_at = subst (λ (l : List ℕ). IsPausedAt model start l (waiting r)) news_is (record { goes_on = waits.goes_on; none_held = waits.none_held; rows = rows_now })

      pub pauses_at : PausesAt kind model flat firsts ahead stop turns a c n p (waiting r)
      pauses_at = record {
        flat_is = refl;
        kind_is = refl;
        turns_is = refl;
        time_is = at;
        world = waits.world;
        on = sym state_is ∙ waits.on;
        rows = subst (λ (g : Cells). IsRowsFrom g stop r.shown.trace.rows.upto) cells_are waits.rows;
        trace = trace_then r.shown.trace.rows.upto waits.trace;
        notes = Appends-trans n o p (plans_of flat firsts) came plans (subst (λ (t : List ℕ). Appends o p t) news_is waits.notes);
        at = paused_at;
      }

    module _ (notes : NotesAreWritten) where
      -- it ended before
      pub ended_before : (ran : Ran) → EndsBefore model flat of start [] ahead upto stop turns b c o p ran → HasEndedBefore kind model flat firsts ahead stop turns a c n p ran
      ended_before ran ends = record {
        none_on = not_on ends.none_on;
        runs = runs_whole kind model flat firsts ahead stop turns notes upto of a b c n o p (Ok ran) upto_is of_is head plans ends.goes;
      }

      -- it was refused
      module _ (error : SinkErr) (part : PausesInPart model flat of start [] ahead upto stop turns b c o p) where
        front_of_part : (w : World SideOf) → run_state model flat firsts ahead stop turns ≡ On w → IsFrontOfPart kind model flat firsts ahead stop turns a c n p
        front_of_part w on =
            let waits = part.waits w (state_is ∙ on) in
            record {
              trace = λ rows is. front_then a b c (head_of about) (rows_text about (part_cells model flat firsts ahead stop turns) 0 rows) head
                  (subst (λ (t : List ℕ). AppendsFront b c t) (rows_are rows) (waits.trace rows (subst (λ (g : Cells). IsRowsFrom g stop rows) (sym cells_are) is)));
              notes = front_then n o p (plans_of flat firsts) came plans (waits.notes came (sym came_is));
            }

        front_of_run : ((w : World SideOf) → run_state model flat firsts ahead stop turns ≢ On w) → IsFrontOfRun kind model flat firsts ahead stop turns a c n p
        front_of_run none =
            let ends = part.ends (λ w is. none w (sym state_is ∙ is)) in
            let goes : GoesOnAs {E = SinkErr} model flat of start [] ahead upto stop turns b c o p (Err error)
            = record { end = tt; trace = tt; notes = λ news are. tt; trace_part = ends.trace; notes_part = ends.notes; left = tt } in
            let runs = runs_whole kind model flat firsts ahead stop turns notes upto of a b c n o p (Err error) upto_is of_is head plans goes in
            record { trace = runs.trace_part; notes = runs.notes_part }

        pub refused_late : IsRefusedPart kind model flat firsts ahead stop turns a c n p
        refused_late = record { waits = front_of_part; ends = front_of_run }

      -- what came of it
      pub parts_as : (x : Arrival) → ((more : List (List Change)) → AreToldTo model flat start stop more → PausesAs model flat of start [] more upto stop turns b c o p (Ok x)) → AreToldTo model flat start stop ahead
          → IfWaiting x (λ r. r.from ≡ stop) → PartsAs {E = SinkErr} kind model flat firsts ahead stop turns a c n p (Ok (part_of flat kind turns x))
      parts_as (arrival.Waiting r) pauses to at = record {
        paused = pauses_at r (pauses ahead to).waits at (λ more told. (pauses more told).waits.rows);
        ended = tt;
        refused = tt;
      }
      parts_as (arrival.Ended ran) pauses to at = record { paused = tt; ended = ended_before ran (pauses ahead to).ended; refused = tt }

    -- it can go on where it waits
    pub is_paused : IsRunnable flat → stop < time_end → (x : Arrival) → IfWaiting x (CanGoOn flat) → IfWaiting x (λ r. r.from ≡ stop) → IfWaiting x (λ r. r.shown.trace.stage ≡ Open)
        → PausesAs model flat of start [] ahead upto stop turns b c o p (Ok x) → IfPaused (part_of flat kind turns x) IsPaused
    is_paused runnable early (arrival.Waiting r) can at stage pauses = record {
      runnable = runnable;
      can = can;
      stage = stage;
      about = pauses.waits.about_is ∙ of_is;
      early = subst (λ t. t < time_end) (sym at) early;
    }
    is_paused runnable early (arrival.Ended ran) can at stage pauses = tt
