-- What a job and its options ask for.
-- Source: own.
use Rattle.std.specs.Prelude.{ℕ, ◌^◌, ◌<◌, ◌≤◌, Bool, ◌&&◌, ◌||◌, nat_eq, nat_le, codes, List, [], ◌∷◌, if◌then◌else◌, Option, Some, None, is_some, Result, Ok, Err, ⊤, option_and_then, option_map}
use Rattle.std.specs.Cmp.Lexicographic.{pointwise}
use Rattle.std.specs.List.{list_any}
use Rattle.tdf_base.specs.Digits.{int_of}
use Rattle.tdf_base.specs.Limits.{time_end}
use Rattle.tdf_base.specs.Time.{time_of}
use Rattle.tdf_base.specs.declared.times.TimeErr.{TimeErr}
use Rattle.tdf_cli_words.specs.Command.{Given}
use Rattle.tdf_cli_words.specs.declared.asked.RunOptions.{RunOptions}
use Rattle.tdf_cli_words.specs.declared.asked.SavePart.{SavePart}
use Rattle.tdf_cli_words.specs.declared.asked.SavePart.TheVariants.{Trace, State}
use Rattle.tdf_cli_words.specs.declared.asked.Settings.{Settings}
use Rattle.tdf_cli_words.specs.declared.asked.Settings.TheVariants.{Run, Drive, Save, Resume, Check, Plan, Load, Sample, Stats}
use Rattle.tdf_sampling.specs.declared.asked.Choice.{Choice}
use Rattle.tdf_sampling.specs.declared.asked.Choice.TheVariants.{Every, Nth}
use Rattle.tdf_trace_rows.specs.declared.kinds.TraceKind.{TraceKind}
use Rattle.tdf_trace_rows.specs.declared.kinds.TraceKind.TheVariants.{Table, Vcd}

abbrev pub is_text : List ℕ → List ℕ → Bool
is_text word text = pointwise nat_eq text word

-- the turns of a run that says none
abbrev pub usual_turns : ℕ
usual_turns = 100000000

abbrev pub most_turns : ℕ
most_turns = 10 ^ 12

abbrev pub greatest_seed : ℕ
greatest_seed = 65536

abbrev pub greatest_size : ℕ
greatest_size = 500

abbrev pub most_nth : ℕ
most_nth = 10 ^ 12

-- ---- the value of one option

abbrev pub kept_within : ℕ → ℕ → ℕ → Option ℕ
kept_within least most number =
    if nat_le least number && nat_le number most then Some number else None

-- 1 to 18 digits that spell a number from least to most
abbrev pub number_within : ℕ → ℕ → List ℕ → Option ℕ
number_within least most text = option_and_then (kept_within least most) (int_of text)

abbrev pub time_read : Result ℕ TimeErr → Option ℕ
time_read (Ok time) = Some time
time_read (Err why) = None

-- a time in ps, below 10^18
abbrev pub stop_of : Option (List ℕ) → Option ℕ
stop_of stop = option_and_then (λ text. time_read (time_of text)) stop

abbrev pub trace_kind : Option (List ℕ) → Option TraceKind
trace_kind None = Some Table
trace_kind (Some text) = if is_text (codes "table") text then Some Table
    else if is_text (codes "vcd") text then Some Vcd
    else None

abbrev pub turns_given : Option (List ℕ) → Option ℕ
turns_given None = Some usual_turns
turns_given (Some text) = number_within 1 most_turns text

abbrev pub save_part : Option (List ℕ) → Option SavePart
save_part None = None
save_part (Some text) = if is_text (codes "trace") text then Some Trace
    else if is_text (codes "state") text then Some State
    else None

-- a time in ps, from 1 on and below 10^18
abbrev pub step_of : List ℕ → Option ℕ
step_of text = option_and_then (kept_within 1 time_end) (time_read (time_of text))

-- ---- the jobs

-- one of these options is there
abbrev pub has_any : List (Option (List ℕ)) → Bool
has_any options = list_any (λ option. is_some option) options

-- an option of a run, or of a part of it, is there
abbrev pub has_run_option : Given → Bool
has_run_option given =
    has_any (given.stop ∷ (given.format ∷ (given.turns ∷ (given.part ∷ []))))

-- an option of `load` is there
abbrev pub has_load_option : Given → Bool
has_load_option given = has_any (given.seed ∷ (given.size ∷ []))

-- an option of a choice of rows is there
abbrev pub has_table_option : Given → Bool
has_table_option given = has_any (given.every ∷ (given.nth ∷ []))

abbrev pub run_for : Option ℕ → Option TraceKind → Option ℕ → Option RunOptions
run_for (Some stop) (Some kind) (Some turns) =
    Some (record { stop = stop; kind = kind; turns = turns })
run_for _ _ _ = None

-- `--stop TIME`, with `--format table` or `--format vcd`, and `--turns N`
abbrev pub run_values : Given → Option RunOptions
run_values given =
    run_for (stop_of given.stop) (trace_kind given.format) (turns_given given.turns)

-- an option is there that is none of a run and of a part of it
abbrev pub has_other_option : Given → Bool
has_other_option given = has_load_option given || has_table_option given

-- of `run` and `drive`
abbrev pub run_options : Given → Option RunOptions
run_options given = if has_other_option given || is_some given.part then None
    else run_values given

abbrev pub save_for : Option SavePart → Option RunOptions → Option Settings
save_for (Some part) (Some asked) = Some (Save part asked)
save_for _ _ = None

-- `save --part trace` or `save --part state`, with the options of `run`
abbrev pub save_given : Given → Option Settings
save_given given = if has_other_option given then None
    else save_for (save_part given.part) (run_values given)

-- an option of a run is there that isn't its stop
abbrev pub has_run_choice : Given → Bool
has_run_choice given = has_any (given.format ∷ (given.turns ∷ (given.part ∷ [])))

-- `resume --stop TIME`
abbrev pub resume_given : Given → Option Settings
resume_given given = if has_run_choice given || has_other_option given then None
    else option_map Resume (stop_of given.stop)

-- a job without options
abbrev pub alone : Settings → Given → Option Settings
alone job given = if has_run_option given || has_other_option given then None else Some job

abbrev pub load_for : Option ℕ → Option ℕ → Option Settings
load_for (Some seed) (Some size) = Some (Load seed size)
load_for _ _ = None

-- `load --seed N --size N`
abbrev pub load_given : Given → Option Settings
load_given given = if has_run_option given || has_table_option given then None
    else load_for (option_and_then (number_within 0 greatest_seed) given.seed)
    (option_and_then (number_within 1 greatest_size) given.size)

-- one of `--every TIME` and `--nth N`
abbrev pub choice_for : (every nth : Option (List ℕ)) → Option Choice
choice_for (Some every) None = option_map Every (step_of every)
choice_for None (Some nth) = option_map Nth (number_within 1 most_nth nth)
choice_for _ _ = None

-- `sample --every TIME`, `sample --nth N`
abbrev pub sample_given : Given → Option Settings
sample_given given = if has_run_option given || has_load_option given then None
    else option_map Sample (choice_for given.every given.nth)

abbrev pub stats_for : (every : Option (List ℕ)) → Option Settings
stats_for None = Some (Stats None)
stats_for (Some every) = option_map (λ step. Stats (Some step)) (step_of every)

-- `stats`, with `--every TIME`
abbrev pub stats_given : Given → Option Settings
stats_given given = if has_run_option given || (has_load_option given || is_some given.nth)
    then None else stats_for given.every

abbrev pub job_given : List ℕ → Given → Option Settings
job_given job given = if is_text (codes "run") job then option_map Run (run_options given)
    else if is_text (codes "drive") job then option_map Drive (run_options given)
    else if is_text (codes "save") job then save_given given
    else if is_text (codes "resume") job then resume_given given
    else if is_text (codes "check") job then alone Check given
    else if is_text (codes "plan") job then alone Plan given
    else if is_text (codes "load") job then load_given given
    else if is_text (codes "sample") job then sample_given given
    else if is_text (codes "stats") job then stats_given given
    else None

-- what is asked for, where the job is known and its options are as it wants them
unfoldable pub settings_given : Given → Option Settings
settings_given given = option_and_then (λ job. job_given job given) given.job

-- ---- what holds of settings

pub record IsRun (stop turns : ℕ) : Type 0 where
  pub early : stop < time_end
  pub some : 1 ≤ turns
  pub few : turns ≤ most_turns

pub record IsLoad (seed size : ℕ) : Type 0 where
  pub seeded : seed ≤ greatest_seed
  pub some : 1 ≤ size
  pub few : size ≤ greatest_size

-- the step of a choice of rows, or the length of a window, in ps
pub record IsStep (step : ℕ) : Type 0 where
  pub some : 1 ≤ step
  pub few : step ≤ time_end

pub record IsNth (number : ℕ) : Type 0 where
  pub some : 1 ≤ number
  pub few : number ≤ most_nth

abbrev pub IsChoice : Choice → Type 0
IsChoice (Every step) = IsStep step
IsChoice (Nth number) = IsNth number

-- the numbers lie within their ranges
abbrev pub IsWithin : Settings → Type 0
IsWithin (Run asked) = IsRun asked.stop asked.turns
IsWithin (Drive asked) = IsRun asked.stop asked.turns
IsWithin (Save part asked) = IsRun asked.stop asked.turns
IsWithin (Resume stop) = stop < time_end
IsWithin Check = ⊤
IsWithin Plan = ⊤
IsWithin (Load seed size) = IsLoad seed size
IsWithin (Sample choice) = IsChoice choice
IsWithin (Stats None) = ⊤
IsWithin (Stats (Some step)) = IsStep step
