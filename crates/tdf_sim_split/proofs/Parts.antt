-- A run is what it was when it waited, and then the run that goes on from its snapshot.
use Rattle.std.proofs.Common.{◌≡◌, ◌∙◌, ◌≤◌, ◌+◌, ◌-◌, ℕ, zero, suc, Bool, true, false, if◌then◌else◌, List, [], ◌∷◌, ◌++◌, append_assoc, map, Some, slice_get, refl, ap, sym, subst, arith}
use Rattle.std.specs.List.{enumerate_from, zip}
use Rattle.std.specs.Prelude.{All, slice_index_or}
use Rattle.tdf_bind.specs.Flat.{IsFlatOf}
use Rattle.tdf_bind.specs.declared.model.Flat.{Flat}
use Rattle.tdf_bind_connections.specs.declared.traces.TraceRow.{TraceRow}
use Rattle.tdf_bind_invariants.specs.Formats.{IsSoundModel, PortsHaveFormats}
use Rattle.tdf_bind_invariants.specs.Limits.{AreWithinLimits}
use Rattle.tdf_dynamic.specs.Laws.{BoundariesHaveOne}
use Rattle.tdf_dynamic_first.specs.First.{IsFirstPlan}
use Rattle.tdf_dynamic_first.specs.declared.first.First.{First}
use Rattle.tdf_events.specs.Side.{SideOf}
use Rattle.tdf_exec_layout.specs.Edges.{SinksAreRead}
use Rattle.tdf_expr.specs.Checked.{IsCheckedOf}
use Rattle.tdf_fixed.specs.declared.raw.Raw.{Raw}
use Rattle.tdf_lang_tree.specs.Kept.{IsKept}
use Rattle.tdf_lang_tree.specs.Pure.{PureTree}
use Rattle.tdf_saved.specs.State.{ClusterStateOf, ColumnStateOf, SnapshotOf}
use Rattle.tdf_sim_history.proofs.Api.{answers_agree, cells_same, end_lies, end_same, go_on, last_record, starts, to_same, untold_told}
use Rattle.tdf_sim_history.specs.Answers.{AreAnswers}
use Rattle.tdf_sim_history.specs.Cells.{run_cells, value_before, world_of}
use Rattle.tdf_sim_history.specs.Continuing.{AllGoOn, HasToldCounts}
use Rattle.tdf_sim_history.specs.History.{Engine, Fault, Going, HistoryState, On, Past, Spent, Step, Stopped, after, end_time, history, state_of}
use Rattle.tdf_sim_history.specs.Instant.{RunFault}
use Rattle.tdf_sim_history.specs.Rules.{rules_of, start_world, world_engine}
use Rattle.tdf_sim_history.specs.TableLaws.{HaveAttributes}
use Rattle.tdf_sim_history.specs.Telling.{state_as, untold, world_told, world_untold}
use Rattle.tdf_sim_history.specs.Texts.{end_of, notes_to, run_trace, state_at}
use Rattle.tdf_sim_history.specs.World.{Change, ClusterAt, World}
use Rattle.tdf_sim_history.specs.WorldLaws.{SamplesAreThere}
use Rattle.tdf_sim_refinement.proofs.Api.{cluster_there}
use Rattle.tdf_sim_resumed.proofs.Api.{rows_same, still}
use Rattle.tdf_sim_resumed.specs.Formats.{AreInFormatsTo}
use Rattle.tdf_sim_resumed.specs.Resuming.{resumed_cluster}
use Rattle.tdf_sim_resumed.specs.Snapshot.{IsRowsFrom, IsSavedColumn, IsSnapshot}
use Rattle.tdf_sim_resumed.specs.Starting.{resumed_world, rows_from_saved}
use Rattle.tdf_sim_resumed.specs.Valid.{IsValid}
use Rattle.tdf_sim_split.proofs.Fractions.{samples_fit}
use Rattle.tdf_sim_split.proofs.History.{on_other}
use Rattle.tdf_sim_split.proofs.Meeting.{cells_agree, is_rest}
use Rattle.tdf_sim_split.proofs.RowsSplit.{AreRestOf, rows_split}
use Rattle.tdf_sim_split.proofs.Split.{history_goes_on, sound_at}
use Rattle.tdf_sim_split.proofs.Starts.{texts_begin_sound}
use Rattle.tdf_sim_split.proofs.Timely.{texts_begin_timely, timely_at}
use Rattle.tdf_sim_split.proofs.Values.{events_fit}
use Rattle.tdf_sim_split.specs.Alike.{BothOn, BothSpent, BothStopped, StatesAlike}
use Rattle.tdf_sim_split.specs.Laws.{AreSound, GoesAlike, GoesOnFrom, HaveCome}
use Rattle.tdf_sim_split.specs.Parts.{RunSplits, RunsSplit, StandsAlike}
use Rattle.tdf_streams.specs.Cluster.{zero_sample}
use Rattle.tdf_streams.specs.Periods.{IsPeriodRecord}
use Rattle.tdf_streams_onward.specs.Laws.{BodiesGoByTable, FiringsAreEnough, StreamsGoOn}
use Rattle.tdf_trace_rows.proofs.Api.{text_same}
use Rattle.tdf_trace_rows.specs.Laws.{Agree}
use Rattle.tdf_trace_rows.specs.Rows.{Cells, Writing, text_from}

-- ---- the end of a history

module _ {W F : Type 0} (engine : Engine W F) (start : W) where
  -- up to its end it goes on, and that lies up to the stop
  pub record IsEnd (stop : ℕ) (state : HistoryState W F) : Type 0 where
    pub world : W
    pub on : history engine 0 start (end_time state stop) ≡ On world
    pub within : end_time state stop ≤ stop

  end_more : (stop : ℕ) (state : HistoryState W F) → history engine 0 start stop ≡ state → IsEnd stop state → (next : HistoryState W F) → history engine 0 start (suc stop) ≡ next → after engine (0 + stop) state ≡ next → IsEnd (suc stop) next
  end_more stop (Stopped time fault w) is end next at same = subst (IsEnd (suc stop)) same (record { world = end.world; on = end.on; within = (let l = end.within in omega (arith, l)) })
  end_more stop (Spent time w) is end next at same = subst (IsEnd (suc stop)) same (record { world = end.world; on = end.on; within = (let l = end.within in omega (arith, l)) })
  end_more stop (On w) is end next at same = go (engine.is_due w (0 + stop)) same
    where
      by_step : (x : Step W F) → state_of (0 + stop) x ≡ next → IsEnd (suc stop) next
      by_step (Going v) to = subst (IsEnd (suc stop)) to (record { world = v; on = at ∙ sym to; within = omega arith })
      by_step (Fault fault v) to = subst (IsEnd (suc stop)) to (record { world = w; on = (let z : 0 + stop ≡ stop = omega arith in ap (history engine 0 start) z ∙ is); within = omega arith })
      by_step (Past v) to = subst (IsEnd (suc stop)) to (record { world = w; on = (let z : 0 + stop ≡ stop = omega arith in ap (history engine 0 start) z ∙ is); within = omega arith })

      go : (b : Bool) → (if b then state_of (0 + stop) (engine.instant (0 + stop) w) else On w) ≡ next → IsEnd (suc stop) next
      go true to = by_step (engine.instant (0 + stop) w) to
      go false to = subst (IsEnd (suc stop)) to (record { world = w; on = at ∙ sym to; within = omega arith })

  pub is_end : (stop : ℕ) → IsEnd stop (history engine 0 start stop)
  unfolding history
  is_end zero = record { world = start; on = refl; within = omega arith }
  is_end (suc stop) = end_more stop (history engine 0 start stop) refl (is_end stop) (after engine (0 + stop) (history engine 0 start stop)) refl refl

module _ (formats : PortsHaveFormats) (one_answer : BoundariesHaveOne) (by_table : BodiesGoByTable) (goes_on : StreamsGoOn) (enough : FiringsAreEnough) (read : SinksAreRead) (there : SamplesAreThere)
    (writing : Writing) (model : PureTree) (flat : Flat) (firsts later : List First) (ahead more : List (List Change)) (w : World SideOf) (s : SnapshotOf) (from stop turns : ℕ) (vcd : Bool)
    (model_sound : IsSoundModel model) (is_flat : IsFlatOf model flat) (checked : IsCheckedOf model flat.checked) (limits : AreWithinLimits flat)
    (plans : (n : ℕ) (first : First) → slice_get firsts n ≡ Some first → IsFirstPlan flat (n + 1) first) (told : All (All HasToldCounts) ahead)
    (answers : AreAnswers model flat (rules_of model flat) (start_world model flat firsts ahead turns) stop) (early : from ≤ stop)
    (snapshot : IsSnapshot model flat (start_world model flat firsts ahead turns) w from turns vcd s) (valid : IsValid model flat later s)
    (goes : GoesOnFrom model flat from w (resumed_world model flat later s more)) (fits : AreInFormatsTo model flat (start_world model flat firsts ahead turns) from)
    (rows_are : IsRowsFrom (run_cells model flat (rules_of model flat) (start_world model flat firsts ahead turns) from) from (rows_from_saved model flat later s)) where
  abbrev one : World SideOf
  one = start_world model flat firsts ahead turns

  kept : IsKept model
  kept = model_sound.kept

  abbrev two : World SideOf
  two = resumed_world model flat later s more

  abbrev rows : ℕ
  rows = rows_from_saved model flat later s

  abbrev first : ℕ → HistoryState (World SideOf) RunFault
  first time = state_at model flat (rules_of model flat) one time

  abbrev second : ℕ → HistoryState (World SideOf) RunFault
  second time = state_at model flat (rules_of model flat) two time

  sound : AreSound flat one
  sound = texts_begin_sound model flat firsts ahead turns is_flat limits plans told

  less_answers : (time : ℕ) → time ≤ stop → AreAnswers model flat (rules_of model flat) one time
  less_answers time low t n v below = answers t n v (omega (arith, below, low))

  -- at each time from there on both go alike
  alike : (time : ℕ) → from ≤ time → time ≤ stop → GoesAlike model flat one two w from time
  alike time late low = history_goes_on by_table goes_on enough read model flat one two w from time kept is_flat checked limits sound (less_answers time low) late snapshot.reached goes

  end_is : IsEnd (world_engine model flat) one stop (first stop)
  end_is = is_end (world_engine model flat) one stop

  abbrev end : ℕ
  end = end_of model flat (rules_of model flat) one stop

  from_end : from ≤ end
  from_end =
      let z : from ≡ from - 0 = omega arith in
      let y : stop - 0 ≡ stop = omega arith in
      subst (λ n. from ≤ end_time (history (world_engine model flat) 0 one n) stop) y
      (end_lies (world_engine model flat) 0 one from w (record { reached = omega arith; on = sym (ap (history (world_engine model flat) 0 one) z) ∙ snapshot.reached }) stop early)

  -- they end at the same time
  ends_same : end_of model flat (rules_of model flat) two stop ≡ end
  ends_same = go (first stop) (second stop) (alike stop early (omega arith)).states
    where
      go : (x y : HistoryState (World SideOf) RunFault) → StatesAlike (HaveCome w two) x y → end_time y stop ≡ end_time x stop
      go x y (BothOn a b r) = refl
      go x y (BothStopped time fault a b r) = refl
      go x y (BothSpent time a b r) = refl

  -- the values of event signals are the same
  values : (signal t : ℕ) → from ≤ t → t ≤ end → value_before model flat (rules_of model flat) two signal t ≡ value_before model flat (rules_of model flat) one signal t
  values signal t late low = go (first t) (second t) (alike t late (let l = end_is.within in omega (arith, low, l))).states
    where
      value_in : World SideOf → Raw
      value_in v = slice_index_or ((rules_of model flat).event_side.values v.events) signal zero_sample

      go : (x y : HistoryState (World SideOf) RunFault) → StatesAlike (HaveCome w two) x y → value_in (world_of y) ≡ value_in (world_of x)
      go x y (BothOn a b r) = ap (λ (k : SideOf). slice_index_or ((rules_of model flat).event_side.values k) signal zero_sample) r.events
      go x y (BothStopped time fault a b r) = ap (λ (k : SideOf). slice_index_or ((rules_of model flat).event_side.values k) signal zero_sample) r.events
      go x y (BothSpent time a b r) = ap (λ (k : SideOf). slice_index_or ((rules_of model flat).event_side.values k) signal zero_sample) r.events

  rests : (t : ℕ) → t ≤ from → second t ≡ On two
  rests t low = still model flat later s more t valid (let e = snapshot.time_is in omega (arith, e, low))

  resting : (signal t : ℕ) → t ≤ from → value_before model flat (rules_of model flat) two signal t ≡ value_before model flat (rules_of model flat) two signal from
  resting signal t low = ap (λ (x : HistoryState (World SideOf) RunFault). slice_index_or ((rules_of model flat).event_side.values (world_of x).events) signal zero_sample) (rests t low ∙ sym (rests from (omega arith)))

  -- what both come to at the end
  pub record BothEnd (a : World SideOf) : Type 0 where
    pub other : World SideOf
    pub on : second end ≡ On other
    pub come : HaveCome w two a other

  both_end : (a : World SideOf) → first end ≡ On a → BothEnd a
  both_end a at = go (first end) (second end) at refl (alike end from_end end_is.within).states
    where
      go : (x y : HistoryState (World SideOf) RunFault) → x ≡ On a → second end ≡ y → StatesAlike (HaveCome w two) x y → BothEnd a
      go x y is to (BothOn c b r) = record { other = b; on = to; come = subst (λ k. HaveCome w two k b) (on_other (On c) c a refl is) r }
      go x y is to (BothStopped time fault c b r) = absurd cc
      go x y is to (BothSpent time c b r) = absurd cc

  abbrev whole_cells : Cells
  whole_cells = run_cells model flat (rules_of model flat) one end

  abbrev part_cells : Cells
  part_cells = run_cells model flat (rules_of model flat) two end

  abbrev then_cells : Cells
  then_cells = run_cells model flat (rules_of model flat) one from

  pub record CellsSplit : Type 0 where
    pub agree : Agree then_cells whole_cells rows
    pub rest : AreRestOf whole_cells part_cells rows end

  cells_split : CellsSplit
  cells_split =
      let a : World SideOf = end_is.world in
      let both : BothEnd a = both_end a end_is.on in
      let sinks = read model flat limits.in_range is_flat in
      let same = rows_same then_cells from snapshot.columns.rows rows snapshot.columns.rows_are rows_are in
      let saved : (n : ℕ) (row : TraceRow) (state : ColumnStateOf) → slice_get flat.tables.traces n ≡ Some row → slice_get s.columns n ≡ Some state → IsSavedColumn model flat one w then_cells rows from n row state
      = (λ n row state row_at state_there. subst (λ k. IsSavedColumn model flat one w then_cells k from n row state) same (snapshot.columns.each n row state row_at state_there)) in
      let sound_w = sound_at model flat kept checked one sound stop answers from early w snapshot.reached in
      let sound_a = sound_at model flat kept checked one sound stop answers end end_is.within a end_is.on in
      let sound_e = sound_at model flat kept checked two goes.sound end (alike end from_end end_is.within).answers end (omega arith) both.other both.on in
      let timely = timely_at model flat kept checked one sound (texts_begin_timely model flat firsts ahead turns) stop answers from early w snapshot.reached in
      let longer : AllGoOn w a = go_on model flat (rules_of model flat) one w from snapshot.reached end a from_end end_is.on in
      let longer_part : AllGoOn two both.other = go_on model flat (rules_of model flat) two two 0 (starts (world_engine model flat) 0 two) end both.other (omega arith) both.on in
      record {
        agree = cells_agree there by_table goes_on enough model flat is_flat limits sinks later s more one w a both.other from end rows from_end valid snapshot.time_is refl rows_are saved refl goes snapshot.reached end_is.on both.on both.come sound_w sound_a sound_e timely longer longer_part values resting (samples_fit formats model flat model_sound is_flat limits one w refl) (events_fit model flat firsts ahead turns from rows rows_are.within fits);
        rest = is_rest there by_table goes_on enough model flat is_flat limits sinks later s more one w a both.other from end rows from_end valid snapshot.time_is refl rows_are saved refl goes snapshot.reached end_is.on both.on both.come sound_w sound_a sound_e timely longer longer_part values resting (samples_fit formats model flat model_sound is_flat limits one w refl) (events_fit model flat firsts ahead turns from rows rows_are.within fits);
      }

  trace_two : run_trace writing model flat (rules_of model flat) one stop ≡ (writing.head ++ text_from writing.line then_cells 0 rows) ++ (text_from writing.line part_cells rows (end - rows) ++ writing.tail end)
  trace_two =
      let r = rows_are.within in
      let l = from_end in
      ap (λ u. writing.head ++ u ++ writing.tail end) (rows_split whole_cells part_cells rows end cells_split.rest writing.line then_cells (omega (arith, r, l)) cells_split.agree)
      ∙ ap (λ u. u ++ writing.tail end) (sym (append_assoc writing.head (text_from writing.line then_cells 0 rows) (text_from writing.line part_cells rows (end - rows))))
      ∙ append_assoc (writing.head ++ text_from writing.line then_cells 0 rows) (text_from writing.line part_cells rows (end - rows)) (writing.tail end)

  -- ---- whatever answers are told

  module _ (told_on : List (List Change)) (answers_on : AreAnswers model flat (rules_of model flat) (world_told told_on (resumed_world model flat later s [])) stop) where
    abbrev three : World SideOf
    three = world_told told_on (resumed_world model flat later s [])

    abbrev third : ℕ → HistoryState (World SideOf) RunFault
    third time = state_at model flat (rules_of model flat) three time

    bare_same : world_untold two ≡ world_untold three
    bare_same = ap (λ l. record two { clusters = l }) (bare (enumerate_from 0 (zip later s.clusters))) ∙ sym (untold_told told_on (resumed_world model flat later s []))
      where
        bare : (cs : List (ℕ × (First × ClusterStateOf))) → map untold (map (λ (c : ℕ × (First × ClusterStateOf)). resumed_cluster model flat (c.0 + 1) s.time c.1.0 c.1.1 (slice_index_or more c.0 [])) cs)
            ≡ map untold (map (λ (c : ℕ × (First × ClusterStateOf)). resumed_cluster model flat (c.0 + 1) s.time c.1.0 c.1.1 (slice_index_or [] c.0 [])) cs)
        bare [] = refl
        bare (c ∷ cs) = ap (λ l. untold (resumed_cluster model flat (c.0 + 1) s.time c.1.0 c.1.1 []) ∷ l) (bare cs)

    have : HaveAttributes flat two
    have = record {
      has = λ n c at. cluster_there flat (n + 1) c.now limits (last n c at);
      each = λ n c at. (last n c at).timed.attributes;
    }
      where
        last : (n : ℕ) (c : ClusterAt) → slice_get two.clusters n ≡ Some c → IsPeriodRecord flat (n + 1) c.now
        last n c at = last_record flat (n + 1) c.begun c.old c.now (goes.sound.each n c at).records

    told_alike : (time : ℕ) → time ≤ stop → state_as world_untold (second time) ≡ state_as world_untold (third time)
    told_alike time low = answers_agree one_answer model flat (rules_of model flat) two three stop time kept checked limits have bare_same (alike stop early (omega arith)).answers answers_on low

    end_told : end_of model flat (rules_of model flat) three stop ≡ end
    end_told = sym (end_same model flat (rules_of model flat) two three stop bare_same told_alike) ∙ ends_same

    abbrev told_cells : Cells
    told_cells = run_cells model flat (rules_of model flat) three end

    text_told : text_from writing.line part_cells rows (end - rows) ≡ text_from writing.line told_cells rows (end - rows)
    text_told = text_same writing.line part_cells told_cells end rows (end - rows) (cells_same model flat (rules_of model flat) two three stop bare_same told_alike end end_is.within) (let r = rows_are.within in let l = from_end in omega (arith, r, l))

    states_told : StatesAlike StandsAlike (first stop) (third stop)
    states_told = go (first stop) (second stop) (third stop) (alike stop early (omega arith)).states (told_alike stop (omega arith))
      where
        when : HistoryState (World SideOf) RunFault → ℕ
        when (On v) = 0
        when (Stopped time fault v) = time
        when (Spent time v) = time

        why : RunFault → HistoryState (World SideOf) RunFault → RunFault
        why none (On v) = none
        why none (Stopped time fault v) = fault
        why none (Spent time v) = none

        stands : (a b v : World SideOf) → HaveCome w two a b → world_untold b ≡ world_untold v → StandsAlike a v
        stands a b v r same = record { events = sym (ap (λ (u : World SideOf). u.events) same) ∙ r.events; left = sym (ap (λ (u : World SideOf). u.left) same) ∙ r.left }

        go : (x y z : HistoryState (World SideOf) RunFault) → StatesAlike (HaveCome w two) x y → state_as world_untold y ≡ state_as world_untold z → StatesAlike StandsAlike x z
        go x y (On v) (BothOn a b r) same = BothOn a v (stands a b v r (ap world_of same))
        go x y (Stopped time fault v) (BothOn a b r) same = absurd cc
        go x y (Spent time v) (BothOn a b r) same = absurd cc
        go x y (Stopped other cause v) (BothStopped time fault a b r) same =
            subst (λ f. StatesAlike StandsAlike (Stopped time fault a) (Stopped other f v)) (ap (why fault) same)
            (subst (λ t. StatesAlike StandsAlike (Stopped time fault a) (Stopped t fault v)) (ap when same) (BothStopped time fault a v (stands a b v r (ap world_of same))))
        go x y (On v) (BothStopped time fault a b r) same = absurd cc
        go x y (Spent other v) (BothStopped time fault a b r) same = absurd cc
        go x y (Spent other v) (BothSpent time a b r) same =
            subst (λ t. StatesAlike {F = RunFault} StandsAlike (Spent time a) (Spent t v)) (ap when same) (BothSpent time a v (stands a b v r (ap world_of same)))
        go x y (On v) (BothSpent time a b r) same = absurd cc
        go x y (Stopped other cause v) (BothSpent time a b r) same = absurd cc

    pub run_splits : RunSplits writing model flat one three from rows stop
    run_splits = record {
      states = states_told;
      trace = trace_two
          ∙ ap (λ u. (writing.head ++ text_from writing.line then_cells 0 rows) ++ (u ++ writing.tail end)) text_told
          ∙ ap (λ k. (writing.head ++ text_from writing.line then_cells 0 rows) ++ (text_from writing.line (run_cells model flat (rules_of model flat) three k) rows (k - rows) ++ writing.tail k)) (sym end_told);
      notes = (alike stop early (omega arith)).notes
          ∙ ap (λ l. notes_to model flat (rules_of model flat) one from ++ l) (to_same model flat (rules_of model flat) two three stop bare_same told_alike stop (omega arith));
      unwritten = rows_are;
    }

pub runs_split : PortsHaveFormats → BoundariesHaveOne → BodiesGoByTable → StreamsGoOn → FiringsAreEnough → SinksAreRead → SamplesAreThere → RunsSplit
runs_split formats one_answer by_table goes_on enough read there writing model flat firsts later ahead more told w s from stop turns vcd sound is_flat checked limits plans counts answers early snapshot fits valid goes rows_are answers_on =
    run_splits formats one_answer by_table goes_on enough read there writing model flat firsts later ahead more w s from stop turns vcd sound is_flat checked limits plans counts answers early snapshot valid goes fits rows_are told answers_on
