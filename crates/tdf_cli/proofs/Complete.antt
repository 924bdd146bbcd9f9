-- Each reading has at most one outcome, and that is met where nothing hinders.
use Rattle.std.proofs.Common.{map, ◌≡◌, ◌⊎◌, ℕ, ◌≤◌, Bool, true, false, List, ◌++◌, Option, Some, None, refl, sym, ap, ◌∙◌, subst, inl, inr, length, length-append, append-nil, arith}
use Rattle.std.specs.Io.KnownBytes.{Consumes, IsAtEnd}
use Rattle.std.specs.Prelude.{nat_lt}
use Rattle.tdf_lang_parser.proofs.Api.{text_keeps}
use Rattle.tdf_lang_parser.specs.Refused.{SpellsText}
use Rattle.tdf_cli.proofs.Driven.{accepted_runs, driven_from, early_only, faulty_only, no_table_only, run_accepted, seen_driven, text_from, OfDriven}
use Rattle.tdf_base.specs.Limits.{longest_text}
use Rattle.tdf_cli.proofs.FewNames.{stimulus_kept}
use Rattle.tdf_cli.proofs.Saving.{by_length}
use Rattle.tdf_cli.proofs.Seen.{OfAccepted, OfEnd, OfJob, OfLoad, OfRunText, OfSaveText, OfStimulus, OfTable, OfText, Seen, line_of, of_choice, ran, same_tree, seen}
use Rattle.tdf_cli.proofs.Resumed.{same_resume}
use Rattle.tdf_cli.proofs.Saved.{same_save, same_whole, seen_state, seen_trace}
use Rattle.tdf_cli.specs.Driven.{HasDrivenOutcome, behind, driven_faulty, driven_run, early, ignored_text, long_cell, no_stimulus, off_time, too_many}
use Rattle.tdf_cli.specs.Parts.{model_part, table_part}
use Rattle.tdf_cli.specs.Resumed.{HasResumeOutcome, bad_state, early_stop, goes_on, late_stop}
use Rattle.tdf_cli.specs.Runs.{HasRunOutcome, Outcome, note, refused, status_of, stop_in, too_late, has_run}
use Rattle.tdf_cli.specs.Saving.{HasSaveOutcome, HasStateOutcome, HasTraceOutcome, ended_state, ended_trace, late_state, late_trace, saved_state, saved_trace}
use Rattle.tdf_cli.specs.machine.Stages.{HasDrivenTree, HasLookedAt, HasTextOutcome, HasTreeOutcome}
use Rattle.tdf_cli_words.specs.declared.asked.RunOptions.{RunOptions}
use Rattle.tdf_stim.specs.Drivable.{has_too_many, long_line, off_line}
use Rattle.tdf_stim.specs.Driven.{driven_tree}
use Rattle.tdf_stim.specs.Signals.{ignored_labels}
use Rattle.tdf_cli.specs.Input.{Reading, BadWords, Text, TooLong, ReadFault, NoMemory, AskToRead, ComesFrom, InputIs, most_bytes, reads_text, longest_state}
use Rattle.tdf_cli.specs.Tables.{table_refusal}
use Rattle.tdf_tables.specs.Laws.{LineIsOne, TableIsOne, TableOrFault}
use Rattle.tdf_tables.specs.Tables.{TableOf}
use Rattle.tdf_cli.specs.Outcome.{measured, no_table, too_fine, is_sampled, is_measured, accepted_text, HasOutcome, usage, read_fault, too_long, faulty, is_run, too_long_model, is_driven, is_saved, is_resumed, is_checked, is_planned, is_loaded, load_end, WritesOutcome, HasOneOutcome}
use Rattle.tdf_cli.specs.Status.{status_number}
use Rattle.tdf_cli_words.specs.Words.{taken_of}
use Rattle.tdf_cli.specs.declared.status.Status.{Status}
use Rattle.tdf_cli.specs.declared.status.Status.TheVariants as status
use Rattle.tdf_cli_words.specs.declared.asked.SavePart.{SavePart}
use Rattle.tdf_cli_words.specs.declared.asked.SavePart.TheVariants.{Trace, State}
use Rattle.tdf_cli_words.specs.declared.asked.Settings.{Settings}
use Rattle.tdf_cli_words.specs.declared.asked.Settings.TheVariants.{Run, Drive, Save, Resume, Check, Plan, Load, Sample, Stats}
use Rattle.tdf_bind_tables.specs.FlatTables.{FlatTablesOf}
use Rattle.tdf_io.specs.Faults.{FaultsRose}
use Rattle.tdf_dynamic_texts.specs.Plans.{PlanRows, accepted_line}
use Rattle.tdf_lang_printer.specs.Canon.{canon}
use Rattle.tdf_base.specs.declared.faults.Fault.{Fault}
use Rattle.tdf_base.specs.declared.resolution.Resolution.{Resolution}
use Rattle.tdf_sim.specs.Accepted.{IsAccepted}
use Rattle.tdf_sim.specs.declared.sim.Sim.{Sim}
use Rattle.tdf_sim.specs.FirstFault.{IsFirstFault, cluster_count}
use Rattle.tdf_sim.specs.Laws.{AnswersRunAlike, EarlyTextFaultOrFlat, EarlyTextFaultsAreOne, FaultsAreOne, FaultsOfTreesAreOne, FaultOrAccepted, ModelsAreAlike, AreAlike, RunsAreAlike, RunAlike, TreeFaultOrAccepted}
use Rattle.tdf_sim.specs.PlanText.{clusters_text, plan_rows, plans_text}
use Rattle.tdf_cli_load.specs.Text.{load_text}
use Rattle.tdf_sim.specs.Ends.{Change, End, rest_end, run_end, trace_of}
use Rattle.tdf_sim.specs.StateLaws.{MembersAreAlike, PartsAreAlike, RestsAreAlike, SnapshotsAreOne, StateIsOne}
use Rattle.tdf_sim.specs.States.{saved_world}
use Rattle.tdf_sim.specs.Ends as ending
use Rattle.tdf_lang_tree.specs.Kept.{IsKept}
use Rattle.tdf_lang_tree.specs.Pure.{PureTree}
use Rattle.tdf_cli_words.specs.Jobs.{usual_turns}
use Rattle.tdf_trace_rows.specs.declared.kinds.TraceKind.TheVariants.{Table}

-- so have the runs of two models of one tree, whichever answers of their boundaries they are told
module _ (runs : RunsAreAlike) (told : AnswersRunAlike) (asked : RunOptions) (tree : PureTree) (a b : Sim) (kept : IsKept tree) (one_is : IsAccepted tree a) (other_is : IsAccepted tree b)
    (one other : Outcome) where
  same_end : (end : Option ℕ) → OfEnd asked tree a end one → OfEnd asked tree b end other → one ≡ other
  same_end None s t = s ∙ sym t
  same_end (Some end) s t = s.2 ∙ same_whole runs told asked.kind tree a b end asked.turns kept one_is other_is s.0 t.0 s.1 t.1 ∙ sym t.2

  same_run : a.flat.resolution ≡ b.flat.resolution → OfEnd asked tree a (stop_in a.flat.resolution asked.stop) one → OfEnd asked tree b (stop_in b.flat.resolution asked.stop) other → one ≡ other
  same_run unit s t = same_end (stop_in b.flat.resolution asked.stop) (subst (λ (u : Resolution). OfEnd asked tree a (stop_in u asked.stop) one) unit s) t

-- a tree has one outcome of its run
same_runs : ModelsAreAlike → RunsAreAlike → AnswersRunAlike → (asked : RunOptions) (tree : PureTree) (one other : Outcome) → IsKept tree
    → HasRunOutcome asked tree one → HasRunOutcome asked tree other → one ≡ other
same_runs models runs told asked tree one other kept h k =
    let s = ran h in
    let t = ran k in
    same_run runs told asked tree s.0 t.0 kept s.1 t.1 one other (models tree s.0 t.0 kept s.1 t.1).unit s.2 t.2

-- and the line on a run that is only measured
same_line : (size : ℕ) (tree : PureTree) (a b : Sim) (ahead others : List (List Change)) (end : ℕ) → RunAlike tree a b ahead others Table end usual_turns
    → line_of size (run_end tree a.flat a.firsts.items ahead end usual_turns) (trace_of Table tree a.flat a.firsts.items ahead end usual_turns)
    ≡ line_of size (run_end tree b.flat b.firsts.items others end usual_turns) (trace_of Table tree b.flat b.firsts.items others end usual_turns)
same_line size tree a b ahead others end alike = λ i. line_of size (alike.end i) (alike.trace i)

module _ (runs : RunsAreAlike) (told : AnswersRunAlike) (size : ℕ) (tree : PureTree) (a b : Sim) (kept : IsKept tree) (one_is : IsAccepted tree a) (other_is : IsAccepted tree b) (one other : Outcome) where
  same_measured : (end : ℕ) → OfLoad size tree a end one → OfLoad size tree b end other → one ≡ other
  same_measured end s t =
      let both = runs tree a b kept one_is other_is s.0 Table end usual_turns in
      s.2 ∙ same_line size tree a b s.0 s.0 end both.alike
      ∙ same_line size tree b b s.0 t.0 end (told tree b kept other_is s.0 t.0 Table end usual_turns (both.answers s.1) t.1) ∙ sym t.2

  same_load : a.flat.resolution ≡ b.flat.resolution → OfLoad size tree a (load_end a.flat.resolution) one → OfLoad size tree b (load_end b.flat.resolution) other → one ≡ other
  same_load unit s t = same_measured (load_end b.flat.resolution) (subst (λ (u : Resolution). OfLoad size tree a (load_end u) one) unit s) t

same_note : (a b : Sim) → AreAlike a b → accepted_text a ≡ accepted_text b
same_note a b alike = ap (λ (tables : FlatTablesOf). accepted_line (cluster_count tables)) alike.tables

same_plans : (a b : Sim) → AreAlike a b → plans_text a ≡ plans_text b
same_plans a b alike =
    ap (λ (unit : Resolution). clusters_text unit a.flat.tables (map plan_rows a.firsts.items)) alike.unit
    ∙ ap (λ (tables : FlatTablesOf). clusters_text b.flat.resolution tables (map plan_rows a.firsts.items)) alike.tables
    ∙ ap (λ (plans : List PlanRows). clusters_text b.flat.resolution b.flat.tables plans) alike.plans

written : List ℕ → List ℕ → Outcome
written out notes = record { status = status.Done; out = out; notes = notes }

same_accepted : RunsAreAlike → AnswersRunAlike → (job : Settings) (tree : PureTree) (a b : Sim) (one other : Outcome) → IsKept tree → IsAccepted tree a → IsAccepted tree b → AreAlike a b
    → OfAccepted job tree a one → OfAccepted job tree b other → one ≡ other
unfolding written
same_accepted runs told (Run asked) tree a b one other kept one_is other_is alike s t = absurd s
same_accepted runs told (Drive asked) tree a b one other kept one_is other_is alike s t = absurd s
same_accepted runs told (Save part asked) tree a b one other kept one_is other_is alike s t = absurd s
same_accepted runs told (Resume stop) tree a b one other kept one_is other_is alike s t = absurd s
same_accepted runs told Check tree a b one other kept one_is other_is alike s t = s ∙ ap (λ notes. written (canon tree) notes) (same_note a b alike) ∙ sym t
same_accepted runs told Plan tree a b one other kept one_is other_is alike s t =
    s ∙ ap (λ notes. written (plans_text a) notes) (same_note a b alike) ∙ ap (λ out. written out (accepted_text b)) (same_plans a b alike) ∙ sym t
same_accepted runs told (Load seed size) tree a b one other kept one_is other_is alike s t = same_load runs told size tree a b kept one_is other_is one other alike.unit s t
same_accepted runs told (Sample choice) tree a b one other kept one_is other_is alike s t = absurd s
same_accepted runs told (Stats window) tree a b one other kept one_is other_is alike s t = absurd s

-- only a failed read is answered as one
ended_otherwise : (how : End) → ¬ (status_number (status_of how) ≡ status_number status.ReadFault)
ended_otherwise (ending.Reached time turns) is = absurd cc
ended_otherwise (ending.Stopped time cluster fault) is = absurd cc
ended_otherwise (ending.Spent time) is = absurd cc

run_failed : {asked : RunOptions} {tree : PureTree} {o : Outcome} → HasRunOutcome asked tree o → ¬ (status_number o.status ≡ status_number status.ReadFault)
run_failed (too_late sound late) is = absurd cc
run_failed {asked = asked} {tree = tree} (has_run {end = end} {sim = sim} sound soon ahead answers) is =
    ended_otherwise (run_end tree sim.flat sim.firsts.items ahead end asked.turns) is

driven_failed : {asked : RunOptions} {model bytes : List ℕ} {o : Outcome} → HasDrivenOutcome asked model bytes o → ¬ (status_number o.status ≡ status_number status.ReadFault)
driven_failed (early first) is = absurd cc
driven_failed (no_stimulus spells flat first) is = absurd cc
driven_failed (too_many parts many) is = absurd cc
driven_failed (long_cell parts few long) is = absurd cc
driven_failed (off_time parts few short off) is = absurd cc
driven_failed (driven_faulty parts fine first) is = absurd cc
driven_failed (driven_run parts fine run) is = run_failed run is

trace_failed : {asked : RunOptions} {tree : PureTree} {o : Outcome} → HasTraceOutcome asked tree o → ¬ (status_number o.status ≡ status_number status.ReadFault)
trace_failed (late_trace sound late) is = absurd cc
trace_failed (saved_trace run comes rows) is = absurd cc
trace_failed {asked = asked} {tree = tree} (ended_trace {sim = sim} {ahead = ahead} {end = end} run ends) is =
    ended_otherwise (run_end tree sim.flat sim.firsts.items ahead end asked.turns) is

length_failed : (long : Bool) (bytes : List ℕ) → ¬ (status_number (by_length long bytes).status ≡ status_number status.ReadFault)
length_failed true bytes is = absurd cc
length_failed false bytes is = absurd cc

state_failed : {asked : RunOptions} {tree : PureTree} {text : List ℕ} {o : Outcome} → HasStateOutcome asked tree text o
    → ¬ (status_number o.status ≡ status_number status.ReadFault)
state_failed (late_state sound late) is = absurd cc
state_failed (saved_state {bytes = bytes} sound stops has) is = length_failed (nat_lt longest_state (length bytes)) bytes is
state_failed {asked = asked} {tree = tree} (ended_state {sim = sim} {ahead = ahead} {end = end} run ends) is =
    ended_otherwise (run_end tree sim.flat sim.firsts.items ahead end asked.turns) is

save_failed : (part : SavePart) (asked : RunOptions) (tree : PureTree) (text : List ℕ) (o : Outcome) → HasSaveOutcome part asked tree text o
    → ¬ (status_number o.status ≡ status_number status.ReadFault)
save_failed Trace asked tree text o has is = trace_failed has is
save_failed State asked tree text o has is = state_failed has is

resume_failed : {stop : ℕ} {bytes : List ℕ} {o : Outcome} → HasResumeOutcome stop bytes o → ¬ (status_number o.status ≡ status_number status.ReadFault)
resume_failed (bad_state none) is = absurd cc
resume_failed (late_stop saved late) is = absurd cc
resume_failed (early_stop saved stops before) is = absurd cc
resume_failed (goes_on {tree = tree} {sim = sim} {firsts = firsts} {s = s} {end = end} saved stops late ahead told) is =
    ended_otherwise (rest_end tree sim.flat (saved_world tree sim firsts s) ahead end s.budget) is

read_failed : {r : Reading} {o : Outcome} → HasOutcome r o → status_number o.status ≡ status_number status.ReadFault → r ≡ ReadFault
read_failed usage is = absurd cc
read_failed read_fault is = refl
read_failed too_long is = absurd cc
read_failed (faulty model first) is = absurd cc
read_failed (is_run spells run) is = absurd (run_failed run is)
read_failed (too_long_model long) is = absurd cc
read_failed (is_driven short has) is = absurd (driven_failed has is)
read_failed (is_saved {part = part} {asked = asked} {text = text} {tree = tree} {outcome = outcome} spells saved) is =
    absurd (save_failed part asked tree text outcome saved is)
read_failed (is_resumed resumed) is = absurd (resume_failed resumed is)
read_failed (is_checked spells sound) is = absurd cc
read_failed (is_planned spells sound) is = absurd cc
read_failed (is_loaded {tree = tree} {sim = sim} spells sound ahead answers) is =
    absurd (ended_otherwise (run_end tree sim.flat sim.firsts.items ahead (load_end sim.flat.resolution) usual_turns) is)
read_failed (no_table table first) is = absurd cc
read_failed (too_fine spells fine) is = absurd cc
read_failed (is_sampled spells fine) is = absurd cc
read_failed (is_measured spells) is = absurd cc

pub read_fault_rose : (words : List (List ℕ)) (r : Reading) (s : Status) (old new a b c d : Option (List ℕ)) (before now : ℕ) → InputIs words r old new before now
    → WritesOutcome r s a b c d → status_number s ≡ status_number status.ReadFault → FaultsRose before now
read_fault_rose words r s old new a b c d before now is wrote answered =
    let failed : r ≡ ReadFault = read_failed wrote.has (ap status_number wrote.answers ∙ answered) in
    let input : InputIs words ReadFault old new before now = subst (λ (x : Reading). InputIs words x old new before now) failed is in
    input.2

some_none : (one : Settings) (o : Option Settings) → o ≡ Some one → o ≡ None → ⊥
some_none one o s t = absurd cc

some_job : (one other : Settings) (o : Option Settings) → o ≡ Some one → o ≡ Some other → one ≡ other
some_job one other o s t = cc

module _ (once : FaultsAreOne) (apart : FaultOrAccepted) (models : ModelsAreAlike) (runs : RunsAreAlike) (told : AnswersRunAlike)
    (table_once : TableIsOne) (line_once : LineIsOne) (tables_apart : TableOrFault)
    (early_once : EarlyTextFaultsAreOne) (early_apart : EarlyTextFaultOrFlat) (tree_once : FaultsOfTreesAreOne) (tree_apart : TreeFaultOrAccepted)
    (parts : PartsAreAlike) (snapshots : SnapshotsAreOne) (members : MembersAreAlike) (one_state : StateIsOne) (rests : RestsAreAlike) where
  -- a text with a fault is not accepted
  not_both : (text : List ℕ) (fault : Fault) (tree : PureTree) (sim : Sim) → IsFirstFault text fault → SpellsText text tree → IsAccepted tree sim → ⊥
  not_both text fault tree sim is spells accepted = apart text fault sim is (record { tree = tree; spelled = spells; accepted = accepted })

  same_text : (job : Settings) (text : List ℕ) (one other : Outcome) → OfText job text one → OfText job text other → one ≡ other
  same_text job text one other (inl s) (inl t) = s.2 ∙ ap refused (once text s.0 t.0 s.1 t.1) ∙ sym t.2
  same_text job text one other (inl s) (inr t) = absurd (not_both text s.0 t.0 t.1 s.1 t.2 t.3)
  same_text job text one other (inr s) (inl t) = absurd (not_both text t.0 s.0 s.1 t.1 s.2 s.3)
  same_text job text one other (inr s) (inr t) =
      let same = same_tree text s.0 t.0 s.2 t.2 in
      let other_sound : IsAccepted s.0 t.1 = subst (λ (x : PureTree). IsAccepted x t.1) same t.3 in
      same_accepted runs told job s.0 s.1 t.1 one other (text_keeps s.2) s.3 other_sound
      (models s.0 s.1 t.1 (text_keeps s.2) s.3 other_sound)
      s.4 (subst (λ (x : PureTree). OfAccepted job x t.1 other) same t.4)

  same_run_text : (asked : RunOptions) (text : List ℕ) (one other : Outcome) → OfRunText asked text one → OfRunText asked text other → one ≡ other
  same_run_text asked text one other (inl s) (inl t) = s.2 ∙ ap refused (once text s.0 t.0 s.1 t.1) ∙ sym t.2
  same_run_text asked text one other (inl s) (inr t) = let own = run_accepted t.2 in absurd (not_both text s.0 t.0 own.0 s.1 t.1 own.1)
  same_run_text asked text one other (inr s) (inl t) = let own = run_accepted s.2 in absurd (not_both text t.0 s.0 own.0 t.1 s.1 own.1)
  same_run_text asked text one other (inr s) (inr t) =
      same_runs models runs told asked s.0 one other (text_keeps s.1) s.2 (subst (λ (x : PureTree). HasRunOutcome asked x other) (same_tree text s.0 t.0 s.1 t.1) t.2)

  -- `save` and `resume`
  save_accepted : (part : SavePart) (asked : RunOptions) (tree : PureTree) (text : List ℕ) (o : Outcome) → HasSaveOutcome part asked tree text o → (sim : Sim) × IsAccepted tree sim
  save_accepted Trace asked tree text o has = let of = seen_trace has in (of.0, of.1)
  save_accepted State asked tree text o has = let of = seen_state has in (of.0, of.1)

  same_save_text : (part : SavePart) (asked : RunOptions) (text : List ℕ) (one other : Outcome) → OfSaveText part asked text one → OfSaveText part asked text other → one ≡ other
  same_save_text part asked text one other (inl s) (inl t) = s.2 ∙ ap refused (once text s.0 t.0 s.1 t.1) ∙ sym t.2
  same_save_text part asked text one other (inl s) (inr t) = let own = save_accepted part asked t.0 text other t.2 in absurd (not_both text s.0 t.0 own.0 s.1 t.1 own.1)
  same_save_text part asked text one other (inr s) (inl t) = let own = save_accepted part asked s.0 text one s.2 in absurd (not_both text t.0 s.0 own.0 t.1 s.1 own.1)
  same_save_text part asked text one other (inr s) (inr t) =
      same_save models runs told parts asked s.0 (text_keeps s.1) members snapshots text part one other s.2
      (subst (λ (x : PureTree). HasSaveOutcome part asked x text other) (same_tree text s.0 t.0 s.1 t.1) t.2)

  -- the stages of `drive`, from the last one
  same_driven_tree : (lines : List ℕ) (asked : RunOptions) (tree : PureTree) (one other : Outcome) → IsKept tree → HasTreeOutcome lines asked tree one → HasTreeOutcome lines asked tree other
      → one ≡ other
  same_driven_tree lines asked tree one other kept (inl f) t = f.2 ∙ sym (faulty_only lines asked tree tree_apart kept tree_once f.0 f.1 other t)
  same_driven_tree lines asked tree one other kept (inr s) t =
      let own = run_accepted s.1 in
      let run = accepted_runs lines asked tree tree_apart kept own.0 own.1 other t in
      s.2 ∙ ap (behind lines) (same_runs models runs told asked tree s.0 run.0 kept s.1 run.1) ∙ sym run.2

  same_looked : (many : Bool) (long off : Option ℕ) (Has : Outcome → Type 0) (one other : Outcome) → (Has one → Has other → one ≡ other)
      → HasLookedAt many long off Has one → HasLookedAt many long off Has other → one ≡ other
  same_looked true long off Has one other same s t = s ∙ sym t
  same_looked false (Some line) off Has one other same s t = s ∙ sym t
  same_looked false None (Some line) Has one other same s t = s ∙ sym t
  same_looked false None None Has one other same s t = same s t

  same_stimulus_text : (asked : RunOptions) (model : List ℕ) (tree : PureTree) (bytes : List ℕ) (one other : Outcome) → length model ≤ longest_text → SpellsText model tree
      → HasTextOutcome asked tree bytes one → HasTextOutcome asked tree bytes other → one ≡ other
  same_stimulus_text asked model tree bytes one other short spells (inl f) t = f.2 ∙ sym (no_table_only asked tree bytes tables_apart line_once f.0 f.1 other t)
  same_stimulus_text asked model tree bytes one other short spells (inr s) t =
      same_looked (has_too_many tree s.0) (long_line tree s.0) (off_line tree s.0) (HasDrivenTree asked tree s.0) one other
      (λ x y. same_driven_tree (ignored_text (ignored_labels tree s.0)) asked (driven_tree tree s.0) one other (stimulus_kept model tree s.0 short spells (text_keeps spells) s.1.table x.0) x.1 y.1)
      s.2 (text_from asked tree bytes tables_apart table_once s.0 s.1 other t)

  of_driven : (asked : RunOptions) (model bytes : List ℕ) (one other : Outcome) → length model ≤ longest_text → OfDriven asked model bytes one → HasDrivenOutcome asked model bytes other
      → one ≡ other
  of_driven asked model bytes one other short (inl f) t = f.2 ∙ sym (early_only asked model bytes early_apart early_once f.0 f.1 other t)
  of_driven asked model bytes one other short (inr s) t =
      same_stimulus_text asked model s.0 bytes one other short s.1 s.3 (driven_from asked model bytes early_apart s.0 s.1 s.2 other t)

  same_stimulus : (asked : RunOptions) (text : List ℕ) (one other : Outcome) → OfStimulus asked text one → OfStimulus asked text other → one ≡ other
  same_stimulus asked text one other (inl s) (inl t) = s.1 ∙ sym t.1
  same_stimulus asked text one other (inl s) (inr t) = absurd (omega (arith, s.0, t.0))
  same_stimulus asked text one other (inr s) (inl t) = absurd (omega (arith, s.0, t.0))
  same_stimulus asked text one other (inr s) (inr t) = of_driven asked (model_part text) (table_part text) one other s.0 (seen_driven s.1) t.1

  same_table : (text : List ℕ) (of : TableOf → Outcome) (one other : Outcome) → OfTable text of one → OfTable text of other → one ≡ other
  same_table text of one other (inl s) (inl t) = s.2 ∙ ap (λ line. note status.Refused (table_refusal line)) (line_once text s.0 t.0 s.1 t.1) ∙ sym t.2
  same_table text of one other (inl s) (inr t) = absurd (tables_apart text t.0 s.0 t.1 s.1)
  same_table text of one other (inr s) (inl t) = absurd (tables_apart text s.0 t.0 s.1 t.1)
  same_table text of one other (inr s) (inr t) = s.2 ∙ ap of (table_once text s.0 t.0 s.1 t.1) ∙ sym t.2

  same_job : (job : Settings) (text : List ℕ) (one other : Outcome) → OfJob job text one → OfJob job text other → one ≡ other
  same_job (Run asked) text one other s t = same_run_text asked text one other s t
  same_job (Drive asked) text one other s t = same_stimulus asked text one other s t
  same_job (Save part asked) text one other s t = same_save_text part asked text one other s t
  same_job (Resume stop) text one other s t = same_resume models one_state rests stop text one other s t
  same_job Check text one other s t = same_text Check text one other s t
  same_job Plan text one other s t = same_text Plan text one other s t
  same_job (Load seed size) text one other s t = same_text (Load seed size) text one other s t
  same_job (Sample choice) text one other s t = same_table text (of_choice choice) one other s t
  same_job (Stats window) text one other s t = same_table text (measured window) one other s t

  same : (r : Reading) (one other : Outcome) → Seen r one → Seen r other → one ≡ other
  same BadWords one other s t = s ∙ sym t
  same (Text job text) one other s t = same_job job text one other s t
  same TooLong one other s t = s ∙ sym t
  same ReadFault one other s t = s ∙ sym t
  same NoMemory one other s t = absurd s

  pub has_one_outcome : HasOneOutcome
  has_one_outcome r one other h k = same r one other (seen h) (seen k)

-- what was read to the end is all that was left
all_read : (text given : List ℕ) (old new : Option (List ℕ)) → old ≡ Some text → Consumes old new given → IsAtEnd new → given ≡ text
all_read text given None new told gave end = absurd cc
all_read text given (Some left) None told gave end = absurd gave
all_read text given (Some left) (Some rest) told gave end =
    let is : left ≡ text = cc in
    sym (append-nil given) ∙ ap (λ t. given ++ t) (sym end) ∙ sym gave ∙ is

-- no more is read than was left
few_read : (text given : List ℕ) (old new : Option (List ℕ)) → old ≡ Some text → Consumes old new given → length given ≤ length text
few_read text given None new told gave = absurd cc
few_read text given (Some left) None told gave = absurd gave
few_read text given (Some left) (Some rest) told gave =
    let is : left ≡ text = cc in
    let whole : text ≡ given ++ rest = sym is ∙ gave in
    omega (arith, ap length whole, length-append given rest)

-- a job that reads its text has read it
has_read : (job : Settings) (text : List ℕ) (old new : Option (List ℕ)) → reads_text job ≡ true → ComesFrom job text old new → Consumes old new text × IsAtEnd new
has_read (Run asked) text old new reads comes = comes
has_read (Drive asked) text old new reads comes = comes
has_read (Save part asked) text old new reads comes = comes
has_read (Resume stop) text old new reads comes = comes
has_read Check text old new reads comes = comes
has_read Plan text old new reads comes = comes
has_read (Load seed size) text old new reads comes = absurd cc
has_read (Sample choice) text old new reads comes = comes
has_read (Stats window) text old new reads comes = comes

-- what came of the words and of reading, where they ask for a job that reads and no read failed: what the words ask, and the text
pub input_text : (words : List (List ℕ)) (r : Reading) (job : Settings) (text : List ℕ) (old new : Option (List ℕ)) (before now : ℕ)
    → InputIs words r old new before now → taken_of words ≡ Some job → reads_text job ≡ true → old ≡ Some text → length text ≤ most_bytes job → ¬ FaultsRose before now
    → (r ≡ Text job text) ⊎ (r ≡ NoMemory)
input_text words BadWords job text old new before now is asks reads told short well = absurd (some_none job (taken_of words) asks is.0)
input_text words (Text own given) job text old new before now is asks reads told short well =
    let same = some_job own job (taken_of words) is.0 asks in
    let read = has_read job given old new reads (subst (λ (x : Settings). ComesFrom x given old new) same is.2) in
    inl (ap (λ x. Text x given) same ∙ ap (Text job) (all_read text given old new told read.0 read.1))
input_text words TooLong job text old new before now is asks reads told short well =
    let same : is.0.job ≡ job = some_job is.0.job job (taken_of words) is.0.asked asks in
    let few : length text ≤ most_bytes is.0.job = subst (λ (x : Settings). length text ≤ most_bytes x) (sym same) short in
    absurd (omega (arith, few_read text is.1.bytes old new told is.1.gave, is.1.many, few))
input_text words ReadFault job text old new before now is asks reads told short well = absurd (well is.2)
input_text words NoMemory job text old new before now is asks reads told short well = inr refl

-- `load` asks for no job that reads
none_read : (words : List (List ℕ)) (seed size : ℕ) → taken_of words ≡ Some (Load seed size) → AskToRead words → ⊥
none_read words seed size asks ask =
    let unread : false ≡ true = ap reads_text (some_job (Load seed size) ask.job (taken_of words) asks ask.asked) ∙ ask.reads in absurd cc

-- the same where they ask for `load`: its text
input_load : (words : List (List ℕ)) (r : Reading) (seed size : ℕ) (old new : Option (List ℕ)) (before now : ℕ) → InputIs words r old new before now
    → taken_of words ≡ Some (Load seed size) → (r ≡ Text (Load seed size) (load_text seed size)) ⊎ (r ≡ NoMemory)
input_load words BadWords seed size old new before now is asks = absurd (some_none (Load seed size) (taken_of words) asks is.0)
input_load words (Text own given) seed size old new before now is asks =
    let same = some_job own (Load seed size) (taken_of words) is.0 asks in
    inl (ap (λ x. Text x given) same ∙ ap (Text (Load seed size)) (subst (λ (x : Settings). ComesFrom x given old new) same is.2).0)
input_load words TooLong seed size old new before now is asks = absurd (none_read words seed size asks is.0)
input_load words ReadFault seed size old new before now is asks = absurd (none_read words seed size asks is.0)
input_load words NoMemory seed size old new before now is asks = inr refl

-- a read that failed is noted
pub read_noted : HasOneOutcome → (r : Reading) (s : Status) (a b c d : Option (List ℕ)) → WritesOutcome r s a b c d → r ≡ ReadFault → status_number s ≡ status_number status.ReadFault
read_noted law r s a b c d wrote is =
    let own : HasOutcome ReadFault wrote.outcome = subst (λ (x : Reading). HasOutcome x wrote.outcome) is wrote.has in
    ap status_number (sym wrote.answers ∙ ap (λ (x : Outcome). x.status) (law ReadFault wrote.outcome _ own read_fault))

module _ (law : HasOneOutcome) where
  met_other : (words : List (List ℕ)) (r : Reading) (s : Status) (job : Settings) (text : List ℕ) (o : Outcome) (a b c d : Option (List ℕ))
      → WritesOutcome r s a b c d → HasOutcome (Text job text) o → (r ≡ Text job text) ⊎ (r ≡ NoMemory) → status_number s ≡ status_number o.status
  met_other words r s job text o a b c d wrote has (inl is) =
      let own : HasOutcome (Text job text) wrote.outcome = subst (λ (x : Reading). HasOutcome x wrote.outcome) is wrote.has in
      ap status_number (sym wrote.answers ∙ ap (λ (x : Outcome). x.status) (law (Text job text) wrote.outcome o own has))
  met_other words r s job text o a b c d wrote has (inr is) =
      absurd (seen (subst (λ (x : Reading). HasOutcome x wrote.outcome) is wrote.has))

  pub met : (words : List (List ℕ)) (r : Reading) (s : Status) (job : Settings) (text : List ℕ) (o : Outcome) (old new a b c d : Option (List ℕ)) (before now : ℕ)
      → InputIs words r old new before now → WritesOutcome r s a b c d → taken_of words ≡ Some job → reads_text job ≡ true → old ≡ Some text → length text ≤ most_bytes job
      → HasOutcome (Text job text) o → ¬ FaultsRose before now → status_number s ≡ status_number o.status
  met words r s job text o old new a b c d before now is wrote asks reads told short has well =
      met_other words r s job text o a b c d wrote has (input_text words r job text old new before now is asks reads told short well)

  pub met_load : (words : List (List ℕ)) (r : Reading) (s : Status) (seed size : ℕ) (o : Outcome) (old new a b c d : Option (List ℕ)) (before now : ℕ)
      → InputIs words r old new before now → WritesOutcome r s a b c d → taken_of words ≡ Some (Load seed size)
      → HasOutcome (Text (Load seed size) (load_text seed size)) o → status_number s ≡ status_number o.status
  met_load words r s seed size o old new a b c d before now is wrote asks has =
      met_other words r s (Load seed size) (load_text seed size) o a b c d wrote has (input_load words r seed size old new before now is asks)
