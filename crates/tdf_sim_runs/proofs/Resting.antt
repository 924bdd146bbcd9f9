-- What a run that goes on from a start writes, and what it leaves.
use Rattle.std.proofs.Common.{◌≡◌, ◌∙◌, ℕ, suc, ◌-◌, ◌≤◌, List, [], ◌∷◌, ◌++◌, Option, Result, IfOk, OnErr, OnOk, Some, map, slice_get, append_assoc, refl, sym, ap, subst, arith}
use Rattle.std.proofs.KnownBytes.{Appends-trans}
use Rattle.std.proofs.lemmas.Option.{slice_get_within}
use Rattle.std.specs.Io.KnownBytes.{Appends}
use Rattle.tdf_base.specs.declared.faults.Fault.{Fault}
use Rattle.tdf_bind.specs.declared.model.Flat.{Flat}
use Rattle.tdf_events.specs.Kernel.{IsKernelOf, KernelOf, side_of}
use Rattle.tdf_events.specs.Side.{SideOf}
use Rattle.tdf_io.proofs.Api.{front_more, front_then}
use Rattle.tdf_io.specs.Bytes.{AppendsFront}
use Rattle.tdf_io.specs.declared.writing.SinkErr.{SinkErr}
use Rattle.tdf_lang_tree.specs.Pure.{PureTree}
use Rattle.tdf_sim_history.proofs.Api.{answers_agree, attributes_alike, to_same, untold_told}
use Rattle.tdf_sim_history.specs.Cells.{run_cells}
use Rattle.tdf_sim_history.specs.History.{end_time, history, On, Spent, HistoryState, Stopped}
use Rattle.tdf_sim_history.specs.Instant.{RunFault}
use Rattle.tdf_sim_history.specs.Rules.{rules_of, world_engine}
use Rattle.tdf_sim_history.specs.Telling.{untold, world_told, state_as, world_untold}
use Rattle.tdf_sim_history.specs.Texts.{notes_to}
use Rattle.tdf_sim_history.specs.World.{Change, ClusterAt, World}
use Rattle.tdf_sim_instants.specs.InstantLaws.{IsModelOf}
use Rattle.tdf_sim_notes.specs.Ending.{end_of, end_text}
use Rattle.tdf_sim_notes.specs.declared.ending.End.TheVariants as ending
use Rattle.tdf_sim_instants.specs.Below.{AreAt, BoundariesHaveOne}
use Rattle.tdf_sim_shown.specs.Below.{IsRowsFrom}
use Rattle.tdf_sim_runs.proofs.Answering.{if_three, on_err, then_ok}
use Rattle.tdf_sim_runs.proofs.Ended.{end_lies_in}
use Rattle.tdf_sim_runs.proofs.Finishing.{rows_same}
use Rattle.tdf_sim_runs.proofs.Handed.{same_rest}
use Rattle.tdf_sim_runs.proofs.Known.{known_rows, mark_before}
use Rattle.tdf_sim_runs.proofs.Told.{ends_alike, ends_cells, on_untold}
use Rattle.tdf_sim_runs.proofs.Written.{rows_split}
use Rattle.tdf_sim_runs.specs.Ending.{EndsAs, EndsBy, GoesToEnd, WritesKnown, WritesPart, end_by, end_from, state_from}
use Rattle.tdf_sim_runs.specs.Ongoing.{AreToldTo}
use Rattle.tdf_sim_runs.specs.Rest.{AreNewsAfter, GoesOnAs, IsLeftFrom, rest_end, rest_notes, rest_trace}
use Rattle.tdf_sim_runs.specs.Running.{IsRunningAt}
use Rattle.tdf_sim_runs.specs.declared.going.Ended.{Ended}
use Rattle.tdf_sim_runs.specs.declared.going.Ended.TheVariants as ended
use Rattle.tdf_sim_runs.specs.declared.run.Ran.{Ran}
use Rattle.tdf_sim_runs.specs.declared.running.Running.{Running}
use Rattle.tdf_sim_runs.specs.machine.Closing.{EndsTrace, closing_notes}
use Rattle.tdf_streams.proofs.Api.{get_inside}
use Rattle.tdf_trace.specs.Writings.{AboutSeen, rest_text, rows_text, writing_of}
use Rattle.tdf_trace_rows.specs.Rows.{Cells}

spent_reached : (from time taken : ℕ) → ending.Spent from ≡ ending.Reached time taken → ⊥
spent_reached from time taken same = absurd cc

stopped_reached : (from cluster time taken : ℕ) (fault : Fault) → ending.Stopped from cluster fault ≡ ending.Reached time taken → ⊥
stopped_reached from cluster time taken fault same = absurd cc

-- the rows that it writes, and the tail
module _ (law : BoundariesHaveOne) (model : PureTree) (flat : Flat) (start : World SideOf) (handed : List ℕ) (ahead : List (List Change)) (stop : ℕ) (m : IsModelOf model flat) (to : AreToldTo model flat start stop ahead)
    (r : Running) (run : IsRunningAt model flat start handed r) where
  abbrev end : ℕ
  end = end_from model flat start ahead stop

  abbrev cells_at : ℕ → Cells
  cells_at time = run_cells model flat (rules_of model flat) (world_told ahead start) time

  abbrev about : AboutSeen
  about = r.shown.trace.about

  abbrev upto : ℕ
  upto = r.shown.trace.rows.upto

  abbrev whole_rest : List ℕ
  whole_rest = rest_trace model flat about start ahead upto stop

  -- a front part of the rows is one of it
  pub rows_of_rest : (b c : Option (List ℕ)) → WritesPart flat stop r b c → AppendsFront b c whole_rest
  rows_of_rest b c part =
      let p = part model start handed ahead m run to in
      front_more b c (rows_text about (cells_at end) upto end) ((writing_of about).tail end) (known_rows about (cells_at end) upto end end b c p p.within)

  -- and of those before the time from which on rows are still to be written, where the history comes to the stop
  pub rows_of_wait : (b c : Option (List ℕ)) → WritesPart flat stop r b c → (w : World SideOf) → state_from model flat start ahead stop ≡ On w → (rows : ℕ) → IsRowsFrom (cells_at stop) stop rows
      → AppendsFront b c (rows_text about (cells_at stop) upto rows)
  rows_of_wait b c part w on rows is =
      let same : end ≡ stop = ap (λ (x : HistoryState (World SideOf) RunFault). end_time x stop) on in
      let p : WritesKnown about (cells_at stop) upto stop b c = subst (λ n. WritesKnown about (cells_at n) upto n b c) same (part model start handed ahead m run to) in
      known_rows about (cells_at stop) upto stop rows b c p (mark_before (cells_at stop) p.mark stop rows p.within p.known is)

  module _ (last : Running) (how : Ended) (news : List ℕ) (b c : Option (List ℕ)) (goes : GoesToEnd flat stop r last news b c how) where
    abbrev ending_is : EndsAs model flat start (handed ++ news) stop last how
    ending_is = goes.ends model start handed m run

    end_is : end ≡ last.from
    end_is = sym (ends_alike law model flat start ending_is.ahead ahead stop m ending_is.can ending_is.told to) ∙ ending_is.time

    abbrev mid : ℕ
    mid = last.shown.trace.rows.upto

    -- the rest, by the answers that the run was told, and by these
    abbrev own_cells : Cells
    own_cells = run_cells model flat (rules_of model flat) (world_told ending_is.ahead start) last.from

    abbrev rest : List ℕ
    rest = rest_text last.shown.trace.about own_cells mid last.from

    last_within : last.from ≤ stop
    last_within = subst (λ n. n ≤ stop) ending_is.time (end_lies_in (world_engine model flat) (world_told ending_is.ahead start) stop)

    rest_is : rest ≡ rest_text about (cells_at last.from) mid last.from
    rest_is = ap (λ (o : AboutSeen). rest_text o own_cells mid last.from) goes.about
        ∙ ap (λ t. t ++ (writing_of about).tail last.from) (rows_same about own_cells (cells_at last.from) mid last.from
        (ends_cells law model flat start ending_is.ahead ahead stop last.from m ending_is.can ending_is.told to last_within))

    text_is : rows_text about (cells_at last.from) upto mid ++ rest ≡ whole_rest
    text_is = ap (λ t. rows_text about (cells_at last.from) upto mid ++ t) rest_is
        ∙ sym (append_assoc (rows_text about (cells_at last.from) upto mid) (rows_text about (cells_at last.from) mid last.from) ((writing_of about).tail last.from))
        ∙ ap (λ t. t ++ (writing_of about).tail last.from) (sym (rows_split about (cells_at last.from) upto mid last.from goes.wrote goes.early))
        ∙ ap (λ t. rest_text about (cells_at t) upto t) (sym end_is)

    abbrev written : Appends b c (rows_text about (cells_at last.from) upto mid)
    written = goes.rows model start handed ahead m run to

    pub whole_text : (d : Option (List ℕ)) → Appends c d rest → Appends b d whole_rest
    whole_text d wrote = subst (λ (t : List ℕ). Appends b d t) text_is (Appends-trans b c d (rows_text about (cells_at last.from) upto mid) rest written wrote)

    pub whole_part : (d : Option (List ℕ)) → AppendsFront c d rest → AppendsFront b d whole_rest
    whole_part d part = subst (λ (t : List ℕ). AppendsFront b d t) text_is (front_then b c d (rows_text about (cells_at last.from) upto mid) rest written part)

-- the news after those that were handed on are one list
one_news : (model : PureTree) (flat : Flat) (start : World SideOf) (ahead : List (List Change)) (stop : ℕ) (handed one other : List ℕ) → AreNewsAfter model flat start ahead stop handed one → AreNewsAfter model flat start ahead stop handed other → one ≡ other
one_news model flat start ahead stop handed one other is also = same_rest handed one other (is ∙ sym also)

-- how it ended, and what it leaves
module _ (model : PureTree) (flat : Flat) (start : World SideOf) (handed given : List ℕ) (stop turns : ℕ) (last : Running) (how : Ended) (is_end : EndsAs model flat start (handed ++ given) stop last how) where
  ends_by : (h : Ended) → EndsBy model flat start is_end.ahead stop last h → end_by last stop turns h ≡ rest_end model flat start is_end.ahead stop turns
  ends_by ended.Reached by = ap (λ k. ending.Reached stop (turns - k)) (sym by.2.turns) ∙ sym (ap (end_of stop turns) by.1)
  ends_by ended.Spent by = sym (ap (end_of stop turns) by.1)
  ends_by (ended.Stopped cluster fault) by = sym (ap (end_of stop turns) by.1)

  bare_same : (cs : List ClusterAt) → ((n : ℕ) (c : ClusterAt) → slice_get cs n ≡ Some c → c.ahead ≡ []) → map untold cs ≡ cs
  bare_same [] none = refl
  bare_same (c ∷ cs) none = λ i. record c { ahead = sym (none 0 c refl) i } ∷ bare_same cs (λ n d at. none (suc n) d at) i

  left_by : (h : Ended) → EndsBy model flat start is_end.ahead stop last h → (ran : Ran) → ran.end ≡ end_by last stop turns h → ran.clusters ≡ last.engine.clusters → ran.kernel ≡ last.engine.kernel
      → (time taken : ℕ) → ran.end ≡ ending.Reached time taken → IsLeftFrom model flat start is_end.ahead stop ran
  left_by ended.Reached by ran end clusters kernel time taken is = record {
    world = by.0;
    on = by.1;
    since = last.engine.since.items;
    clusters = subst (λ hs. AreAt model flat last.engine.since.items hs ran.clusters.items) (sym (bare_same by.0.clusters (λ n c at. (
        let i = slice_get_within by.0.clusters n c at in
        let s = by.2.at.same in
        let d = get_inside last.engine.clusters.items n (omega (arith, i, s)) in
        (by.2.at.each n c d.0 at d.1).none_ahead))))
        (subst (λ cs. AreAt model flat last.engine.since.items by.0.clusters cs) (sym (ap (λ v. v.items) clusters)) by.2.at);
    kernel = ap (λ (k : KernelOf). side_of k) kernel ∙ by.2.side;
    going = subst (λ (k : KernelOf). IsKernelOf flat k) (sym kernel) by.3;
  }
  left_by ended.Spent by ran end clusters kernel time taken is = absurd (spent_reached last.from time taken (sym end ∙ is))
  left_by (ended.Stopped cluster fault) by ran end clusters kernel time taken is = absurd (stopped_reached last.from cluster time taken fault (sym end ∙ is))

  -- what ends as a history does that is told answers ends as each that is told some
  module _ (law : BoundariesHaveOne) (m : IsModelOf model flat) (others : List (List Change)) (have : AreToldTo model flat start stop others) where
    abbrev one : World SideOf
    one = world_told is_end.ahead start

    abbrev other : World SideOf
    other = world_told others start

    same_start : world_untold one ≡ world_untold other
    same_start = untold_told is_end.ahead start ∙ sym (untold_told others start)

    alike : (time : ℕ) → time ≤ stop → state_as world_untold (history (world_engine model flat) 0 one time) ≡ state_as world_untold (history (world_engine model flat) 0 other time)
    alike time low = answers_agree law model flat (rules_of model flat) one other stop time m.sound.kept m.checked m.limits
        (attributes_alike flat start one (sym (untold_told is_end.ahead start)) is_end.can.attributes) same_start is_end.told.answers have.answers low

    bare_end : (s : HistoryState (World SideOf) RunFault) → end_of stop turns (state_as world_untold s) ≡ end_of stop turns s
    bare_end (On w) = refl
    bare_end (Stopped time fault w) = refl
    bare_end (Spent time w) = refl

    end_same : rest_end model flat start is_end.ahead stop turns ≡ rest_end model flat start others stop turns
    end_same = sym (bare_end (history (world_engine model flat) 0 one stop)) ∙ ap (end_of stop turns) (alike stop (omega arith)) ∙ bare_end (history (world_engine model flat) 0 other stop)

    news_same : notes_to model flat (rules_of model flat) one stop ≡ notes_to model flat (rules_of model flat) other stop
    news_same = to_same model flat (rules_of model flat) one other stop same_start alike stop (omega arith)

    left_same : (ran : Ran) → IsLeftFrom model flat start is_end.ahead stop ran → IsLeftFrom model flat start others stop ran
    left_same ran is =
        let x = on_untold is.world (history (world_engine model flat) 0 other stop) (ap (state_as world_untold) (sym is.on) ∙ alike stop (omega arith)) in
        record {
          world = x.0;
          on = x.1;
          since = is.since;
          clusters = subst (λ hs. AreAt model flat is.since hs ran.clusters.items) (sym (ap (λ (w : World SideOf). w.clusters) x.2)) is.clusters;
          kernel = is.kernel ∙ sym (ap (λ (w : World SideOf). w.events) x.2);
          going = is.going;
        }

    -- the news that it has, after those that were handed on before
    pub news_after : AreNewsAfter model flat start others stop handed (given ++ last.news.items)
    news_after = sym (append_assoc handed given last.news.items) ∙ is_end.news ∙ news_same

    -- how it ends
    pub rest_ends : end_by last stop turns how ≡ rest_end model flat start others stop turns
    rest_ends = ends_by how is_end.by ∙ end_same

    -- it does not come to its stop, where it ended in another way
    pub not_on : (h : Ended) → EndsBy model flat start is_end.ahead stop last h → (h ≡ ended.Reached → ⊥) → (w : World SideOf) → state_from model flat start others stop ≡ On w → ⊥
    not_on ended.Reached by apart w is = apart refl
    not_on ended.Spent by apart w is = absurd (let same = ap (state_as world_untold) (sym by.1) ∙ alike stop (omega arith) ∙ ap (state_as world_untold) is in cc)
    not_on (ended.Stopped cluster fault) by apart w is = absurd (let same = ap (state_as world_untold) (sym by.1) ∙ alike stop (omega arith) ∙ ap (state_as world_untold) is in cc)

    -- and what it leaves
    pub rest_left : (ran : Ran) → ran.end ≡ end_by last stop turns how → ran.clusters ≡ last.engine.clusters → ran.kernel ≡ last.engine.kernel
        → (time taken : ℕ) → ran.end ≡ ending.Reached time taken → IsLeftFrom model flat start others stop ran
    rest_left ran end clusters kernel time taken is = left_same ran (left_by how is_end.by ran end clusters kernel time taken is)

    -- its notes: the news that were handed on, those that it holds, and the closing line
    module _ (news : List ℕ) (are : AreNewsAfter model flat start others stop handed news) (before mid after : Option (List ℕ)) (took : Appends before mid given) where
      all_news : given ++ last.news.items ≡ news
      all_news = one_news model flat start others stop handed (given ++ last.news.items) news news_after are

      all_notes : given ++ closing_notes flat.resolution stop turns last how ≡ rest_notes model flat start others stop turns news
      all_notes = sym (append_assoc given last.news.items (end_text flat.resolution turns (end_by last stop turns how))) ∙ (λ i. all_news i ++ end_text flat.resolution turns (rest_ends i))

      pub whole_notes : Appends mid after (closing_notes flat.resolution stop turns last how) → Appends before after (rest_notes model flat start others stop turns news)
      whole_notes rest = subst (λ (t : List ℕ). Appends before after t) all_notes (Appends-trans before mid after given (closing_notes flat.resolution stop turns last how) took rest)

      pub part_notes : AppendsFront mid after (closing_notes flat.resolution stop turns last how) → AppendsFront before after (rest_notes model flat start others stop turns news)
      part_notes rest = subst (λ (t : List ℕ). AppendsFront before after t) all_notes (front_then before mid after given (closing_notes flat.resolution stop turns last how) took rest)

-- a run that went to its end and was closed goes on as the history does
module _ (law : BoundariesHaveOne) (model : PureTree) (flat : Flat) (start : World SideOf) (handed : List ℕ) (ahead : List (List Change)) (stop turns : ℕ) (m : IsModelOf model flat) (to : AreToldTo model flat start stop ahead)
    (r : Running) (run : IsRunningAt model flat start handed r) (last : Running) (how : Ended) (given : List ℕ) (a b c d e f : Option (List ℕ)) (goes : GoesToEnd flat stop r last given a b how) (took : Appends d e given) (result : Result Ran SinkErr) where
  abbrev at_end : EndsAs model flat start (handed ++ given) stop last how
  at_end = goes.ends model start handed m run

  pub goes_on_as : EndsTrace last.shown last.from (λ rest. OnOk result (Appends b c rest)) → EndsTrace last.shown last.from (λ rest. OnErr result (AppendsFront b c rest))
      → OnOk result (Appends e f (closing_notes flat.resolution stop turns last how)) → OnErr result (AppendsFront e f (closing_notes flat.resolution stop turns last how))
      → IfOk result (λ ran. ran.end ≡ end_by last stop turns how) → IfOk result (λ ran. ran.clusters ≡ last.engine.clusters) → IfOk result (λ ran. ran.kernel ≡ last.engine.kernel)
      → GoesOnAs model flat r.shown.trace.about start handed ahead r.shown.trace.rows.upto stop turns a c d f result
  goes_on_as trace trace_part notes notes_part end clusters kernel =
      let told = world_told at_end.ahead start in
      record {
        end = if_three result end clusters kernel (λ ran ended clusters kernel. ended ∙ rest_ends model flat start handed given stop turns last how at_end law m ahead to);
        trace = then_ok result (trace model flat told m.is m.limits at_end.shown) (λ rest. whole_text law model flat start handed ahead stop m to r run last how given a b goes c rest);
        notes = λ news are. then_ok result notes (λ rest. whole_notes model flat start handed given stop turns last how at_end law m ahead to news are d e f took rest);
        trace_part = on_err result (trace_part model flat told m.is m.limits at_end.shown) (λ rest. whole_part law model flat start handed ahead stop m to r run last how given a b goes c rest);
        notes_part = λ news are. on_err result notes_part (λ rest. part_notes model flat start handed given stop turns last how at_end law m ahead to news are d e f took rest);
        left = if_three result end clusters kernel (λ ran ended clusters kernel. rest_left model flat start handed given stop turns last how at_end law m ahead to ran ended clusters kernel);
      }
