-- A whole run is one that goes on from its start.
use Rattle.std.proofs.Common.{◌≡◌, ◌∙◌, ℕ, List, [], ◌++◌, Option, Result, sym, ap, subst, arith}
use Rattle.std.proofs.KnownBytes.{Appends-trans}
use Rattle.std.specs.Io.KnownBytes.{Appends}
use Rattle.tdf_bind.specs.declared.model.Flat.{Flat}
use Rattle.tdf_dynamic_first.specs.declared.first.First.{First}
use Rattle.tdf_events.specs.Side.{SideOf, start_side}
use Rattle.tdf_io.proofs.Api.{front_then}
use Rattle.tdf_io.specs.Bytes.{AppendsFront}
use Rattle.tdf_io.specs.declared.writing.SinkErr.{SinkErr}
use Rattle.tdf_lang_tree.specs.Pure.{PureTree}
use Rattle.tdf_sim_history.proofs.Api.{starts_told}
use Rattle.tdf_sim_history.specs.Answers.{AreAnswers}
use Rattle.tdf_sim_history.specs.Cells.{run_cells}
use Rattle.tdf_sim_history.specs.Rules.{rules_of, start_world}
use Rattle.tdf_sim_history.specs.Telling.{world_told}
use Rattle.tdf_sim_history.specs.Texts.{end_of as end_before, notes_to, state_at}
use Rattle.tdf_sim_history.specs.World.{Change, World}
use Rattle.tdf_sim_notes.specs.Ending.{HaveAnswers, end_of, end_text, run_end}
use Rattle.tdf_sim_notes.specs.Laws.{NotesAreWritten}
use Rattle.tdf_sim_notes.specs.Plans.{plans_of}
use Rattle.tdf_sim_runs.proofs.Answering.{if_ok, on_err, then_ok}
use Rattle.tdf_sim_runs.proofs.Noting.{after_plans, notes_whole, plans_alone}
use Rattle.tdf_sim_runs.specs.Ongoing.{AreToldTo}
use Rattle.tdf_sim_runs.specs.Rest.{AreNewsAfter, GoesOnAs, IsLeftFrom, rest_end, rest_notes, rest_trace}
use Rattle.tdf_sim_runs.specs.Runs.{IsLeft, RunsAs, model_about, trace_of}
use Rattle.tdf_sim_runs.specs.declared.run.Ran.{Ran}
use Rattle.tdf_trace.proofs.Api.{head_front, makes_whole, written_none}
use Rattle.tdf_trace.specs.Writings.{AboutSeen, head_of, rest_text}
use Rattle.tdf_trace_rows.specs.Rows.{Cells}
use Rattle.tdf_trace_rows.specs.declared.kinds.TraceKind.{TraceKind}

module _ (kind : TraceKind) (model : PureTree) (flat : Flat) (firsts : List First) (ahead : List (List Change)) (stop turns : ℕ) where
  abbrev start : World SideOf
  start = start_world model flat firsts [] turns

  abbrev told : World SideOf
  told = start_world model flat firsts ahead turns

  -- a start of which this is told
  pub told_is : world_told ahead start ≡ told
  told_is = starts_told model flat [] ahead firsts (start_side flat) turns

  pub told_to : HaveAnswers model flat firsts ahead stop turns → AreToldTo model flat start stop ahead
  told_to have = record {
    answers = subst (λ (w : World SideOf). AreAnswers model flat (rules_of model flat) w stop) (sym told_is) have.are;
    counts = have.counts;
  }

  pub have_to : AreToldTo model flat start stop ahead → HaveAnswers model flat firsts ahead stop turns
  have_to to = record {
    are = subst (λ (w : World SideOf). AreAnswers model flat (rules_of model flat) w stop) told_is to.answers;
    counts = to.counts;
  }

  abbrev about : AboutSeen
  about = model_about kind flat

  abbrev own_end : ℕ
  own_end = end_before model flat (rules_of model flat) told stop

  abbrev own_cells : Cells
  own_cells = run_cells model flat (rules_of model flat) told own_end

  -- its trace is the head, and what a run writes that goes on from the start
  rest_is : rest_trace model flat about start ahead 0 stop ≡ rest_text about own_cells 0 own_end
  rest_is = ap (λ (w : World SideOf). rest_text about (run_cells model flat (rules_of model flat) w (end_before model flat (rules_of model flat) w stop)) 0 (end_before model flat (rules_of model flat) w stop)) told_is

  pub trace_is : head_of about ++ rest_trace model flat about start ahead 0 stop ≡ trace_of kind model flat firsts ahead stop turns
  trace_is = ap (λ t. head_of about ++ t) rest_is
      ∙ ap (λ t. t ++ rest_text about own_cells 0 own_end) (sym (written_none about own_cells))
      ∙ makes_whole about own_cells 0 own_end (λ t low high. absurd (omega (arith, high)))

  -- a front part of the head is one of the trace
  pub head_part : (a b : Option (List ℕ)) → AppendsFront a b (head_of about) → AppendsFront a b (trace_of kind model flat firsts ahead stop turns)
  head_part a b part = head_front about own_cells own_end a b part

  end_is : rest_end model flat start ahead stop turns ≡ run_end model flat firsts ahead stop turns
  end_is = ap (λ (w : World SideOf). end_of stop turns (state_at model flat (rules_of model flat) w stop)) told_is

  abbrev news : List ℕ
  news = notes_to model flat (rules_of model flat) told stop

  news_are : AreNewsAfter model flat start ahead stop [] news
  news_are = ap (λ (w : World SideOf). notes_to model flat (rules_of model flat) w stop) (sym told_is)

  left_is : (ran : Ran) → IsLeftFrom model flat start ahead stop ran → IsLeft model flat firsts ahead stop turns ran
  left_is ran is = record {
    world = is.world;
    on = ap (λ (w : World SideOf). state_at model flat (rules_of model flat) w stop) (sym told_is) ∙ is.on;
    since = is.since;
    clusters = is.clusters;
    kernel = is.kernel;
    going = is.going;
  }

  notes_are : (notes : NotesAreWritten) → rest_notes model flat start ahead stop turns news ≡ after_plans notes model flat firsts ahead stop turns
  notes_are notes = ap (λ e. news ++ end_text flat.resolution turns e) end_is

  -- so it runs, where its head and its first plans were written before
  pub runs_whole : (notes : NotesAreWritten) (upto : ℕ) (of : AboutSeen) (a b c n o p : Option (List ℕ)) (result : Result Ran SinkErr) → upto ≡ 0 → of ≡ about
      → Appends a b (head_of about) → Appends n o (plans_of flat firsts)
      → GoesOnAs model flat of start [] ahead upto stop turns b c o p result
      → RunsAs kind model flat firsts ahead stop turns a c n p result
  runs_whole notes upto of a b c n o p result upto_is of_is head plans goes = record {
    end = if_ok result goes.end (λ ran is. is ∙ end_is);
    trace = then_ok result goes.trace (λ t. subst (λ (x : List ℕ). Appends a c x) trace_is (Appends-trans a b c (head_of about) (rest_trace model flat about start ahead 0 stop) head
        (subst (λ (x : List ℕ). Appends b c x) text_is t)));
    notes = then_ok result (goes.notes news news_are) (λ t. notes_whole notes model flat firsts ahead stop turns n o plans p (subst (λ (x : List ℕ). Appends o p x) (notes_are notes) t));
    trace_part = on_err result goes.trace_part (λ t. subst (λ (x : List ℕ). AppendsFront a c x) trace_is (front_then a b c (head_of about) (rest_trace model flat about start ahead 0 stop) head
        (subst (λ (x : List ℕ). AppendsFront b c x) text_is t)));
    notes_part = on_err result (goes.notes_part news news_are) (λ t. plans_alone notes model flat firsts ahead stop turns n o plans p (subst (λ (x : List ℕ). AppendsFront o p x) (notes_are notes) t));
    left = if_ok result goes.left (λ ran is time taken at. left_is ran (is time taken at));
  }
    where
      text_is : rest_trace model flat of start ahead upto stop ≡ rest_trace model flat about start ahead 0 stop
      text_is = ap (λ (o : AboutSeen). rest_trace model flat o start ahead upto stop) of_is ∙ ap (λ u. rest_trace model flat about start ahead u stop) upto_is
