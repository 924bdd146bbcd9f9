-- What an outcome of a reading is, by the reading.
use Rattle.std.proofs.Common.{◌≡◌, ◌⊎◌, ◌<◌, ◌≤◌, ℕ, Bool, length, true, false, List, [], Option, Some, None, ap, refl, sym, subst, inl, inr, codes}
use Rattle.tdf_lang_parser.proofs.Api.{one_tree}
use Rattle.tdf_base.specs.declared.faults.Fault.{Fault}
use Rattle.tdf_lang_parser.specs.Refused.{SpellsText}
use Rattle.tdf_cli.specs.Input.{Reading, BadWords, Text, TooLong, ReadFault, NoMemory, is_model_job, is_table_job}
use Rattle.tdf_cli.specs.Tables.{grid_refusal, table_refusal}
use Rattle.tdf_sampling.specs.Choice.{is_too_fine}
use Rattle.tdf_sampling.specs.declared.asked.Choice.{Choice}
use Rattle.tdf_tables.specs.Faults.{HasTableFault}
use Rattle.tdf_tables.specs.Tables.{SpellsTable, TableOf}
use Rattle.tdf_base.specs.Limits.{longest_text}
use Rattle.tdf_cli.specs.Driven.{HasDrivenOutcome}
use Rattle.tdf_cli.specs.Outcome.{checked, planned, HasOutcome, usage, read_fault, too_long, faulty, is_run, too_long_model, is_driven, is_saved, is_resumed, is_checked, is_planned, is_loaded, no_table, too_fine, is_sampled, is_measured, sampled, measured, load_end, load_line, turns_taken}
use Rattle.tdf_cli.specs.Parts.{model_part, table_part}
use Rattle.tdf_cli.specs.Resumed.{HasResumeOutcome}
use Rattle.tdf_cli.specs.Runs.{HasRunOutcome, Outcome, note, refused, run_outcome, status_of, stop_in, too_late, has_run}
use Rattle.tdf_cli.specs.Saving.{HasSaveOutcome}
use Rattle.tdf_cli_words.specs.declared.asked.RunOptions.{RunOptions}
use Rattle.tdf_cli_words.specs.declared.asked.SavePart.{SavePart}
use Rattle.tdf_cli.specs.declared.status.Status.TheVariants as status
use Rattle.tdf_cli_words.specs.declared.asked.Settings.{Settings}
use Rattle.tdf_cli_words.specs.declared.asked.Settings.TheVariants.{Run, Drive, Save, Resume, Check, Plan, Load, Sample, Stats}
use Rattle.tdf_sim.specs.Accepted.{IsAccepted}
use Rattle.tdf_sim.specs.declared.sim.Sim.{Sim}
use Rattle.tdf_sim.specs.Ends.{Change, End, HaveAnswers, run_end, trace_of}
use Rattle.tdf_sim.specs.FirstFault.{IsFirstFault}
use Rattle.tdf_lang_lexer.specs.Rows.{rows_of}
use Rattle.tdf_lang_tree.specs.Pure.{PureTree}
use Rattle.tdf_cli_words.specs.Jobs.{usual_turns}
use Rattle.tdf_trace_rows.specs.declared.kinds.TraceKind.TheVariants.{Table}

pub same_tree : (text : List ℕ) (one other : PureTree) → SpellsText text one → SpellsText text other → other ≡ one
same_tree text one other s t = one_tree (rows_of text) other one t.spelled s.spelled

-- of a run with a stop in counts of the resolution, if there is one
abbrev pub OfEnd : RunOptions → PureTree → Sim → Option ℕ → Outcome → Type 0
OfEnd asked tree sim None o = o ≡ note status.StopTooLong (codes "stop too long\n")
OfEnd asked tree sim (Some end) o = (ahead : List (List Change)) × HaveAnswers tree sim.flat sim.firsts.items ahead end asked.turns
    × (o ≡ run_outcome asked.kind tree sim ahead end asked.turns)

-- of a run
abbrev pub OfRun : RunOptions → PureTree → Outcome → Type 0
OfRun asked tree o = (sim : Sim) × IsAccepted tree sim × OfEnd asked tree sim (stop_in sim.flat.resolution asked.stop) o

pub ran : {asked : RunOptions} {tree : PureTree} {o : Outcome} → HasRunOutcome asked tree o → OfRun asked tree o
ran {asked = asked} {tree = tree} (too_late {sim = sim} sound is) =
    (sim, sound, subst (λ (end : Option ℕ). OfEnd asked tree sim end (note status.StopTooLong (codes "stop too long\n"))) (sym is) refl)
ran {asked = asked} {tree = tree} (has_run {end = end} {sim = sim} sound is ahead answers) =
    (sim, sound, subst (λ (e : Option ℕ). OfEnd asked tree sim e (run_outcome asked.kind tree sim ahead end asked.turns)) (sym is) (ahead, answers, refl))

-- a line on a run that ended so and made this table
abbrev pub line_of : (size : ℕ) → End → (table : List ℕ) → Outcome
line_of size how table = record { status = status_of how; out = load_line size (turns_taken how) table; notes = [] }

-- of the run of `load` to an end
abbrev pub OfLoad : (size : ℕ) → PureTree → Sim → (end : ℕ) → Outcome → Type 0
OfLoad size tree sim end o = (ahead : List (List Change)) × HaveAnswers tree sim.flat sim.firsts.items ahead end usual_turns
    × (o ≡ line_of size (run_end tree sim.flat sim.firsts.items ahead end usual_turns) (trace_of Table tree sim.flat sim.firsts.items ahead end usual_turns))

abbrev pub OfAccepted : Settings → PureTree → Sim → Outcome → Type 0
OfAccepted (Run asked) tree sim o = ⊥
OfAccepted (Drive asked) tree sim o = ⊥
OfAccepted (Save part asked) tree sim o = ⊥
OfAccepted (Resume stop) tree sim o = ⊥
OfAccepted Check tree sim o = o ≡ checked tree sim
OfAccepted Plan tree sim o = o ≡ planned sim
OfAccepted (Load seed size) tree sim o = OfLoad size tree sim (load_end sim.flat.resolution) o
OfAccepted (Sample choice) tree sim o = ⊥
OfAccepted (Stats window) tree sim o = ⊥

abbrev pub OfText : Settings → List ℕ → Outcome → Type 0
OfText job text o = ((fault : Fault) × IsFirstFault text fault × (o ≡ refused fault))
    ⊎ ((tree : PureTree) × (sim : Sim) × SpellsText text tree × IsAccepted tree sim × OfAccepted job tree sim o)

-- of a text that is run
abbrev pub OfRunText : RunOptions → List ℕ → Outcome → Type 0
OfRunText asked text o = ((fault : Fault) × IsFirstFault text fault × (o ≡ refused fault))
    ⊎ ((tree : PureTree) × SpellsText text tree × HasRunOutcome asked tree o)

-- of a text whose run is saved
abbrev pub OfSaveText : SavePart → RunOptions → List ℕ → Outcome → Type 0
OfSaveText part asked text o = ((fault : Fault) × IsFirstFault text fault × (o ≡ refused fault))
    ⊎ ((tree : PureTree) × SpellsText text tree × HasSaveOutcome part asked tree text o)

-- of a text with a model and a table
abbrev pub OfStimulus : RunOptions → List ℕ → Outcome → Type 0
OfStimulus asked text o = ((longest_text < length (model_part text)) × (o ≡ note status.TooLong (codes "too long\n")))
    ⊎ ((length (model_part text) ≤ longest_text) × HasDrivenOutcome asked (model_part text) (table_part text) o)

-- of a table
abbrev pub OfTable : List ℕ → (TableOf → Outcome) → Outcome → Type 0
OfTable text of o = ((line : ℕ) × HasTableFault text line × (o ≡ note status.Refused (table_refusal line)))
    ⊎ ((table : TableOf) × SpellsTable text table × (o ≡ of table))

abbrev pub by_grid : Bool → Choice → TableOf → Outcome
by_grid true choice table = note status.Refused grid_refusal
by_grid false choice table = sampled choice table

abbrev pub of_choice : Choice → TableOf → Outcome
of_choice choice table = by_grid (is_too_fine choice table.rows) choice table

abbrev pub OfJob : Settings → List ℕ → Outcome → Type 0
OfJob (Run asked) text o = OfRunText asked text o
OfJob (Drive asked) text o = OfStimulus asked text o
OfJob (Save part asked) text o = OfSaveText part asked text o
OfJob (Resume stop) text o = HasResumeOutcome stop text o
OfJob Check text o = OfText Check text o
OfJob Plan text o = OfText Plan text o
OfJob (Load seed size) text o = OfText (Load seed size) text o
OfJob (Sample choice) text o = OfTable text (of_choice choice) o
OfJob (Stats window) text o = OfTable text (measured window) o

-- a model with a fault
model_faulty : (job : Settings) (text : List ℕ) (fault : Fault) → is_model_job job ≡ true → IsFirstFault text fault → OfJob job text (refused fault)
model_faulty (Run asked) text fault model is = inl (fault, is, refl)
model_faulty (Drive asked) text fault model is = absurd cc
model_faulty (Save part asked) text fault model is = inl (fault, is, refl)
model_faulty (Resume stop) text fault model is = absurd cc
model_faulty Check text fault model is = inl (fault, is, refl)
model_faulty Plan text fault model is = inl (fault, is, refl)
model_faulty (Load seed size) text fault model is = inl (fault, is, refl)
model_faulty (Sample choice) text fault model is = absurd cc
model_faulty (Stats window) text fault model is = absurd cc

-- a text that is no table
table_faulty : (job : Settings) (text : List ℕ) (line : ℕ) → is_table_job job ≡ true → HasTableFault text line → OfJob job text (note status.Refused (table_refusal line))
table_faulty (Run asked) text line table is = absurd cc
table_faulty (Drive asked) text line table is = absurd cc
table_faulty (Save part asked) text line table is = absurd cc
table_faulty (Resume stop) text line table is = absurd cc
table_faulty Check text line table is = absurd cc
table_faulty Plan text line table is = absurd cc
table_faulty (Load seed size) text line table is = absurd cc
table_faulty (Sample choice) text line table is = inl (line, is, refl)
table_faulty (Stats window) text line table is = inl (line, is, refl)

abbrev pub Seen : Reading → Outcome → Type 0
Seen BadWords o = o ≡ note status.Usage (codes "usage\n")
Seen (Text job text) o = OfJob job text o
Seen TooLong o = o ≡ note status.TooLong (codes "too long\n")
Seen ReadFault o = o ≡ note status.ReadFault (codes "read fault\n")
Seen NoMemory o = ⊥

pub seen : {r : Reading} {o : Outcome} → HasOutcome r o → Seen r o
seen usage = refl
seen read_fault = refl
seen too_long = refl
seen (faulty {job = job} {text = text} {fault = fault} model is) = model_faulty job text fault model is
seen (is_run {tree = tree} spells run) = inr (tree, spells, run)
seen (too_long_model long) = inl (long, refl)
seen (is_driven short has) = inr (short, has)
seen (is_saved {tree = tree} spells saved) = inr (tree, spells, saved)
seen (is_resumed resumed) = resumed
seen (is_checked {tree = tree} {sim = sim} spells sound) = inr (tree, sim, spells, sound, refl)
seen (is_planned {tree = tree} {sim = sim} spells sound) = inr (tree, sim, spells, sound, refl)
seen (is_loaded {tree = tree} {sim = sim} spells sound ahead answers) = inr (tree, sim, spells, sound, (ahead, answers, refl))
seen (no_table {job = job} {text = text} {line = line} table is) = table_faulty job text line table is
seen (too_fine {choice = choice} {table = table} spells is) = inr (table, spells, ap (λ b. by_grid b choice table) (sym is))
seen (is_sampled {choice = choice} {table = table} spells is) = inr (table, spells, ap (λ b. by_grid b choice table) (sym is))
seen (is_measured {table = table} spells) = inr (table, spells, refl)
