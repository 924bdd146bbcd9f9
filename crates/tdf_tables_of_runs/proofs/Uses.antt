-- What `sample` and `stats` make of the output of a run.
use Rattle.std.proofs.Common.{ap, sym, ◌∙◌, ◌≡◌, subst, ℕ, ◌*◌, ◌<◌, Bool, true, false, if◌then◌else◌, nat_lt, List, [], Option, Some, None, refl, arith}
use Rattle.std.proofs.lemmas.Bool.Decides.{nat_tests}
use Rattle.tdf_base.specs.Limits.{time_end}
use Rattle.tdf_base.specs.declared.resolution.Resolution.{Resolution}
use Rattle.tdf_base.specs.declared.resolution.Resolution.TheVariants.{Ps, Fs}
use Rattle.tdf_cli.specs.Input.{Text}
use Rattle.tdf_cli.specs.Outcome.{HasOutcome, faulty, is_measured, is_run, is_sampled, no_table, too_fine}
use Rattle.tdf_cli.specs.Runs.{HasRunOutcome, Outcome, has_run, stop_in, too_late}
use Rattle.tdf_cli.specs.Status.{status_number}
use Rattle.tdf_cli_words.specs.declared.asked.RunOptions.{RunOptions}
use Rattle.tdf_cli_words.specs.declared.asked.Settings.TheVariants.{Run, Sample, Stats}
use Rattle.tdf_lang_parser.proofs.Api.{text_keeps}
use Rattle.tdf_lang_parser.specs.Refused.{SpellsText}
use Rattle.tdf_lang_tree.specs.Pure.{PureTree}
use Rattle.tdf_sampling.specs.Choice.{chosen_table, is_too_fine}
use Rattle.tdf_sampling.specs.Statistics.{stats_text}
use Rattle.tdf_sampling.specs.declared.asked.Choice.{Choice}
use Rattle.tdf_cli.specs.Below.{trace_of}
use Rattle.tdf_tables.specs.Laws.{TableIsOne, TableOrFault}
use Rattle.tdf_tables.specs.Tables.{SpellsTable, TableOf, table_text}
use Rattle.tdf_tables_of_runs.specs.Laws.{AnswersSample, AnswersStats, IsReadAsItsTable, IsTableOfRun, IsTableOfTrace, MeasuresItsTable, SamplesItsTable}
use Rattle.tdf_tables_of_runs.specs.RunTables.{run_table}
use Rattle.tdf_trace_rows.specs.declared.kinds.TraceKind.{TraceKind}
use Rattle.tdf_trace_rows.specs.declared.kinds.TraceKind.TheVariants.{Table}

-- ---- the table that a job reads

sampled_by : (text : List ℕ) (choice : Choice) (sample : Outcome) → HasOutcome (Text (Sample choice) text) sample → status_number sample.status ≡ 0
    → (table : TableOf) × SpellsTable text table × (sample.out ≡ table_text (chosen_table choice table))
sampled_by text choice sample (faulty model is) done = absurd (cc)
sampled_by text choice sample (no_table job is) done = absurd (cc)
sampled_by text choice sample (too_fine spells is) done = absurd (cc)
sampled_by text choice sample (is_sampled {table = table} spells is) done = (table, spells, refl)

measured_by : (text : List ℕ) (window : Option ℕ) (stats : Outcome) → HasOutcome (Text (Stats window) text) stats → status_number stats.status ≡ 0
    → (table : TableOf) × SpellsTable text table × (stats.out ≡ stats_text table window)
measured_by text window stats (faulty model is) done = absurd (cc)
measured_by text window stats (no_table job is) done = absurd (cc)
measured_by text window stats (is_measured {table = table} spells) done = (table, spells, refl)

-- ---- the table of a run

no_text : (table : TableOf) → SpellsTable [] table → ⊥
unfolding table_text
no_text table h = let e = h.is in cc

end_small : (resolution : Resolution) (stop end : ℕ) → stop < time_end → stop_in resolution stop ≡ Some end → end < time_end
end_small Ps stop end small is = let same : stop ≡ end = cc in omega (arith, small, same)
end_small Fs stop end small is = go (nat_lt (stop * 1000) time_end) refl is
  where
    go : (b : Bool) → nat_lt (stop * 1000) time_end ≡ b → (if b then Some (stop * 1000) else None) ≡ Some end → end < time_end
    go true less at = let same : stop * 1000 ≡ end = cc in let low : stop * 1000 < time_end = grind (arith, nat_tests) in omega (arith, low, same)
    go false less at = absurd (cc)

ran_by : IsReadAsItsTable → (text : List ℕ) (tree : PureTree) (asked : RunOptions) (run : Outcome) → asked.kind ≡ Table → asked.stop < time_end → SpellsText text tree
    → HasRunOutcome asked tree run → (table : TableOf) → SpellsTable run.out table → IsTableOfRun text asked.stop asked.turns table
ran_by one text tree asked run kind small spells (too_late sound is) table h = absurd (no_text table h)
ran_by one text tree asked run kind small spells (has_run {end = end} {sim = sim} sound is ahead answers) table h = record {
  tree = tree;
  sim = sim;
  spelled = spells;
  accepted = sound;
  end = end;
  stops = is;
  ahead = ahead;
  answers = answers;
  is = one tree sim.flat sim.firsts.items ahead end asked.turns table (text_keeps spells) sound.is_flat (end_small sim.flat.resolution asked.stop end small is)
      (subst (λ (k : TraceKind). SpellsTable (trace_of k tree sim.flat sim.firsts.items ahead end asked.turns) table) kind h);
}

run_by : IsReadAsItsTable → (text : List ℕ) (asked : RunOptions) (run : Outcome) → asked.kind ≡ Table → asked.stop < time_end → HasOutcome (Text (Run asked) text) run
    → (table : TableOf) → SpellsTable run.out table → IsTableOfRun text asked.stop asked.turns table
run_by one text asked run kind small (faulty model is) table h = absurd (no_text table h)
run_by one text asked run kind small (no_table job is) table h = absurd (cc)
run_by one text asked run kind small (is_run {tree = tree} spells ran) table h = ran_by one text tree asked run kind small spells ran table h

pub samples_its_table : IsReadAsItsTable → SamplesItsTable
samples_its_table one text asked choice run sample kind small has is done =
    let t = sampled_by run.out choice sample is done in
    (t.0, run_by one text asked run kind small has t.0 t.1, t.2)

pub measures_its_table : IsReadAsItsTable → MeasuresItsTable
measures_its_table one text asked window run stats kind small has is done =
    let t = measured_by run.out window stats is done in
    (t.0, run_by one text asked run kind small has t.0 t.1, t.2)

-- ---- their answers

sample_done : TableIsOne → TableOrFault → (text : List ℕ) (table : TableOf) (choice : Choice) (sample : Outcome) → SpellsTable text table
    → HasOutcome (Text (Sample choice) text) sample → is_too_fine choice table.rows ≡ false → status_number sample.status ≡ 0
sample_done one or text table choice sample h (faulty model is) fine = absurd (cc)
sample_done one or text table choice sample h (no_table {line = line} job is) fine = absurd (or text table line h is)
sample_done one or text table choice sample h (too_fine {table = other} spells is) fine =
    let same : other ≡ table = one text other table spells h in
    let coarse : is_too_fine choice table.rows ≡ true = ap (λ (t : TableOf). is_too_fine choice t.rows) (sym same) ∙ is in
    let apart : true ≡ false = sym coarse ∙ fine in
    absurd (cc)
sample_done one or text table choice sample h (is_sampled spells is) fine = refl

stats_done : TableOrFault → (text : List ℕ) (table : TableOf) (window : Option ℕ) (stats : Outcome) → SpellsTable text table
    → HasOutcome (Text (Stats window) text) stats → status_number stats.status ≡ 0
stats_done or text table window stats h (faulty model is) = absurd (cc)
stats_done or text table window stats h (no_table {line = line} job is) = absurd (or text table line h is)
stats_done or text table window stats h (is_measured spells) = refl

pub answers_sample : TableIsOne → TableOrFault → IsTableOfTrace → AnswersSample
answers_sample one or form tree sim ahead stop turns choice sample run has fine =
    sample_done one or (trace_of Table tree sim.flat sim.firsts.items ahead stop turns) (run_table tree sim.flat sim.firsts.items ahead stop turns) choice sample
    (form tree sim ahead stop turns run) has fine

pub answers_stats : TableOrFault → IsTableOfTrace → AnswersStats
answers_stats or form tree sim ahead stop turns window stats run has =
    stats_done or (trace_of Table tree sim.flat sim.firsts.items ahead stop turns) (run_table tree sim.flat sim.firsts.items ahead stop turns) window stats
    (form tree sim ahead stop turns run) has
