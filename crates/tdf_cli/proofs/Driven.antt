-- The outcome of `drive`, stage by stage.
use Rattle.std.proofs.Common.{◌≡◌, ◌⊎◌, ℕ, ◌+◌, ◌<◌, Bool, true, false, refl, List, [], ◌∷◌, ◌++◌, length, take, get_or, Option, Some, None, Result, Ok, Err, IfOk, OnOk, OnErr, inl, inr, sym, ap, ◌∙◌, subst}
use Rattle.std.proofs.lemmas.List.{flat_map_more, take_more}
use Rattle.std.specs.List.{flat_map}
use Rattle.std.proofs.KnownBytes.{Appends-nil, Appends-trans, Keeps-refl}
use Rattle.std.specs.Io.KnownBytes.{Appends}
use Rattle.tdf_base.specs.declared.faults.Fault.{Fault}
use Rattle.tdf_cli.proofs.Seen.{same_tree}
use Rattle.tdf_cli.specs.Driven.{AreParts, HasDrivenOutcome, behind, driven_faulty, driven_run, early, ignored_line, ignored_text, long_cell, no_stimulus, off_time, too_many}
use Rattle.tdf_cli.specs.Outcome.{WritesFrontOf, WritesOneOf}
use Rattle.tdf_cli.specs.Runs.{HasRunOutcome, Outcome, has_run, note, refused, too_late}
use Rattle.tdf_cli.specs.Tables.{digits_refusal, stimulus_refusal, table_refusal, time_refusal}
use Rattle.tdf_cli.specs.declared.status.Status.{Status}
use Rattle.tdf_cli.specs.declared.status.Status.TheVariants as status
use Rattle.tdf_cli.specs.machine.Stages.{HasDrivenTree, HasLookedAt, HasPartsOutcome, HasRunBehind, HasTextOutcome, HasTreeOutcome, WritesOf}
use Rattle.tdf_cli_words.specs.declared.asked.RunOptions.{RunOptions}
use Rattle.tdf_io.proofs.Api.{front_more, front_none, front_then}
use Rattle.tdf_io.specs.Bytes.{AppendsFront, WritesText}
use Rattle.tdf_io.specs.declared.writing.SinkErr.{SinkErr}
use Rattle.tdf_lang_parser.specs.Refused.{SpellsText}
use Rattle.tdf_lang_tree.specs.Kept.{IsKept}
use Rattle.tdf_lang_tree.specs.Pure.{PureTree}
use Rattle.tdf_sim.specs.Accepted.{IsAccepted}
use Rattle.tdf_sim.specs.FirstFault.{HasFlat, IsEarlyTextFault, IsTreeFault}
use Rattle.tdf_sim.specs.Laws.{EarlyTextFaultOrFlat, EarlyTextFaultsAreOne, FaultsOfTreesAreOne, TreeFaultOrAccepted}
use Rattle.tdf_sim.specs.declared.sim.Sim.{Sim}
use Rattle.tdf_stim.specs.Drivable.{IsDrivable, has_too_many, long_line, off_line}
use Rattle.tdf_stim.specs.Driven.{driven_tree}
use Rattle.tdf_stim.specs.Signals.{ignored_labels}
use Rattle.tdf_tables.specs.Faults.{HasTableFault}
use Rattle.tdf_tables.specs.Laws.{LineIsOne, TableIsOne, TableOrFault}
use Rattle.tdf_tables.specs.Tables.{SpellsTable, TableOf}

-- ---- what was written, of other outcomes

-- of outcomes that are the same ones
pub writes_same : (Has Other : Outcome → Type 0) (result : Result Status SinkErr) (a b c d : Option (List ℕ)) → ((o : Outcome) → Has o → Other o) → ((o : Outcome) → Other o → Has o)
    → WritesOf Has result a b c d → WritesOf Other result a b c d
writes_same Has Other (Ok s) a b c d to from w = record { outcome = w.outcome; has = to w.outcome w.has; answers = w.answers; out = w.out; notes = w.notes }
writes_same Has Other (Err error) a b c d to from (inl kept) = inl kept
writes_same Has Other (Err error) a b c d to from (inr w) = inr (record { out = λ o has. w.out o (from o has); notes = λ o has. w.notes o (from o has) })

pub writes_nothing : (Has : Outcome → Type 0) (error : SinkErr) (a c : Option (List ℕ)) → WritesOf Has (Err error) a a c c
writes_nothing Has error a c = inl (Keeps-refl a, Keeps-refl c)

-- a note is the one outcome that there is
pub writes_note : {S : Type 0} {taken : S → Option (List ℕ)} {faults : S → ℕ} {old new : S} {text : List ℕ} (Has : Outcome → Type 0) (result : Result Status SinkErr) (answer : Status)
    (a : Option (List ℕ)) → Has (note answer text) → ((o : Outcome) → Has o → o ≡ note answer text) → IfOk result (λ s. s ≡ answer)
    → WritesText taken faults old new text result → WritesOf Has result a a (taken old) (taken new)
writes_note {text = text} Has (Ok s) answer a has only is wrote = record {
  outcome = note answer text;
  has = has;
  answers = sym is;
  out = Appends-nil a;
  notes = wrote.all;
}
writes_note {taken = taken} {old = old} {new = new} {text = text} Has (Err error) answer a has only is wrote = inr (record {
  out = λ o other. subst (λ (x : Outcome). AppendsFront a a x.out) (sym (only o other)) (front_none a []);
  notes = λ o other. subst (λ (x : Outcome). AppendsFront (taken old) (taken new) x.notes) (sym (only o other)) wrote.part;
})

-- a run behind lines that were written
pub writes_behind : (lines : List ℕ) (asked : RunOptions) (tree : PureTree) (result : Result Status SinkErr) (a b c between d : Option (List ℕ)) → Appends c between lines
    → IfOk result (λ s. WritesOneOf (HasRunOutcome asked tree) s a b between d) → OnErr result (WritesFrontOf (HasRunOutcome asked tree) a b between d)
    → WritesOf (HasRunBehind lines asked tree) result a b c d
writes_behind lines asked tree (Ok s) a b c between d first w none = record {
  outcome = behind lines w.outcome;
  has = (w.outcome, w.has, refl);
  answers = w.answers;
  out = w.out;
  notes = Appends-trans c between d lines w.outcome.notes first w.notes;
}
writes_behind lines asked tree (Err error) a b c between d first none w = inr (record {
  out = λ o has. subst (λ (x : Outcome). AppendsFront a b x.out) (sym has.2) (w.out has.0 has.1);
  notes = λ o has. subst (λ (x : Outcome). AppendsFront c d x.notes) (sym has.2) (front_then c between d lines has.0.notes first (w.notes has.0 has.1));
})

-- and lines of which a front part was written
pub writes_before : (lines : List ℕ) (asked : RunOptions) (tree : PureTree) (error : SinkErr) (a c d : Option (List ℕ)) → AppendsFront c d lines
    → WritesOf (HasRunBehind lines asked tree) (Err error) a a c d
writes_before lines asked tree error a c d part = inr (record {
  out = λ o has. front_none a o.out;
  notes = λ o has. subst (λ (x : Outcome). AppendsFront c d x.notes) (sym has.2) (front_more c d lines has.0.notes part);
})

-- ---- a driven tree

pub run_accepted : {asked : RunOptions} {tree : PureTree} {o : Outcome} → HasRunOutcome asked tree o → (sim : Sim) × IsAccepted tree sim
run_accepted (too_late {sim = sim} sound is) = (sim, sound)
run_accepted (has_run {sim = sim} sound is ahead answers) = (sim, sound)

module _ (lines : List ℕ) (asked : RunOptions) (tree : PureTree) (apart : TreeFaultOrAccepted) (kept : IsKept tree) where
  -- of an accepted one there is a run
  pub accepted_runs : (sim : Sim) → IsAccepted tree sim → (o : Outcome) → HasTreeOutcome lines asked tree o → HasRunBehind lines asked tree o
  accepted_runs sim sound o (inl f) = absurd (apart tree f.0 sim kept f.1 sound)
  accepted_runs sim sound o (inr run) = run

  -- and of one with a fault this
  pub faulty_only : FaultsOfTreesAreOne → (fault : Fault) → IsTreeFault tree fault → (o : Outcome) → HasTreeOutcome lines asked tree o → o ≡ refused fault
  faulty_only once fault is o (inl f) = f.2 ∙ ap refused (once tree f.0 fault kept f.1 is)
  faulty_only once fault is o (inr run) = let own = run_accepted run.1 in absurd (apart tree fault own.0 kept is own.1)

-- ---- a table that was looked at

pub looked_many : (many : Bool) (long off : Option ℕ) (Has : Outcome → Type 0) → many ≡ true → (o : Outcome) → HasLookedAt many long off Has o → o ≡ note status.Refused stimulus_refusal
looked_many true long off Has is o has = has
looked_many false long off Has is o has = absurd cc

pub looked_long : (many : Bool) (long off : Option ℕ) (Has : Outcome → Type 0) (line : ℕ) → many ≡ false → long ≡ Some line → (o : Outcome) → HasLookedAt many long off Has o
    → o ≡ note status.Refused (digits_refusal line)
looked_long true long off Has line few is o has = absurd cc
looked_long false None off Has line few is o has = absurd cc
looked_long false (Some n) off Has line few is o has = let same : n ≡ line = cc in has ∙ ap (λ k. note status.Refused (digits_refusal k)) same

pub looked_off : (many : Bool) (long off : Option ℕ) (Has : Outcome → Type 0) (line : ℕ) → many ≡ false → long ≡ None → off ≡ Some line → (o : Outcome) → HasLookedAt many long off Has o
    → o ≡ note status.Refused (time_refusal line)
looked_off true long off Has line few short is o has = absurd cc
looked_off false (Some n) off Has line few short is o has = absurd cc
looked_off false None None Has line few short is o has = absurd cc
looked_off false None (Some n) Has line few short is o has = let same : n ≡ line = cc in has ∙ ap (λ k. note status.Refused (time_refusal k)) same

pub looked_well : (many : Bool) (long off : Option ℕ) (Has : Outcome → Type 0) → many ≡ false → long ≡ None → off ≡ None → (o : Outcome) → HasLookedAt many long off Has o → Has o
looked_well true long off Has few short on o has = absurd cc
looked_well false (Some n) off Has few short on o has = absurd cc
looked_well false None (Some n) Has few short on o has = absurd cc
looked_well false None None Has few short on o has = has

-- and back
pub is_many : (many : Bool) (long off : Option ℕ) (Has : Outcome → Type 0) → many ≡ true → HasLookedAt many long off Has (note status.Refused stimulus_refusal)
is_many many long off Has is = subst (λ (b : Bool). HasLookedAt b long off Has (note status.Refused stimulus_refusal)) (sym is) refl

pub is_long_cell : (many : Bool) (long off : Option ℕ) (Has : Outcome → Type 0) (line : ℕ) → many ≡ false → long ≡ Some line
    → HasLookedAt many long off Has (note status.Refused (digits_refusal line))
is_long_cell many long off Has line few is = subst (λ (b : Bool). HasLookedAt b long off Has (note status.Refused (digits_refusal line))) (sym few)
    (subst (λ (x : Option ℕ). HasLookedAt false x off Has (note status.Refused (digits_refusal line))) (sym is) refl)

pub is_off_time : (many : Bool) (long off : Option ℕ) (Has : Outcome → Type 0) (line : ℕ) → many ≡ false → long ≡ None → off ≡ Some line
    → HasLookedAt many long off Has (note status.Refused (time_refusal line))
is_off_time many long off Has line few short is = subst (λ (b : Bool). HasLookedAt b long off Has (note status.Refused (time_refusal line))) (sym few)
    (subst (λ (x : Option ℕ). HasLookedAt false x off Has (note status.Refused (time_refusal line))) (sym short)
    (subst (λ (x : Option ℕ). HasLookedAt false None x Has (note status.Refused (time_refusal line))) (sym is) refl))

pub is_well : (many : Bool) (long off : Option ℕ) (Has : Outcome → Type 0) → many ≡ false → long ≡ None → off ≡ None → (o : Outcome) → Has o → HasLookedAt many long off Has o
is_well many long off Has few short on o has = subst (λ (b : Bool). HasLookedAt b long off Has o) (sym few)
    (subst (λ (x : Option ℕ). HasLookedAt false x off Has o) (sym short) (subst (λ (x : Option ℕ). HasLookedAt false None x Has o) (sym on) has))

-- a table that can drive has the outcome of the driven tree
module _ (asked : RunOptions) (tree : PureTree) (t : TableOf) (fine : IsDrivable tree t) where
  pub drives_to : (o : Outcome) → HasTreeOutcome (ignored_text (ignored_labels tree t)) asked (driven_tree tree t) o → HasPartsOutcome asked tree t o
  drives_to o has = is_well (has_too_many tree t) (long_line tree t) (off_line tree t) (HasDrivenTree asked tree t) fine.few fine.short fine.on o (fine, has)

  pub drives_from : (o : Outcome) → HasPartsOutcome asked tree t o → HasTreeOutcome (ignored_text (ignored_labels tree t)) asked (driven_tree tree t) o
  drives_from o has = (looked_well (has_too_many tree t) (long_line tree t) (off_line tree t) (HasDrivenTree asked tree t) fine.few fine.short fine.on o has).1

-- ---- the text of a table

module _ (asked : RunOptions) (tree : PureTree) (bytes : List ℕ) (tables_apart : TableOrFault) where
  pub text_from : TableIsOne → (t : TableOf) → SpellsTable bytes t → (o : Outcome) → HasTextOutcome asked tree bytes o → HasPartsOutcome asked tree t o
  text_from once t spells o (inl f) = absurd (tables_apart bytes t f.0 spells f.1)
  text_from once t spells o (inr other) = subst (λ (x : TableOf). HasPartsOutcome asked tree x o) (once bytes other.0 t other.1 spells) other.2

  pub no_table_only : LineIsOne → (line : ℕ) → HasTableFault bytes line → (o : Outcome) → HasTextOutcome asked tree bytes o → o ≡ note status.Refused (table_refusal line)
  no_table_only once line is o (inl f) = f.2 ∙ ap (λ n. note status.Refused (table_refusal n)) (once bytes f.0 line f.1 is)
  no_table_only once line is o (inr other) = absurd (tables_apart bytes other.0 line other.1 is)

-- ---- the text of a model

abbrev pub OfDriven : RunOptions → (model bytes : List ℕ) → Outcome → Type 0
OfDriven asked model bytes o = ((fault : Fault) × IsEarlyTextFault model fault × (o ≡ refused fault))
    ⊎ ((tree : PureTree) × SpellsText model tree × HasFlat tree × HasTextOutcome asked tree bytes o)

pub seen_driven : {asked : RunOptions} {model bytes : List ℕ} {o : Outcome} → HasDrivenOutcome asked model bytes o → OfDriven asked model bytes o
seen_driven (early {fault = fault} is) = inl (fault, is, refl)
seen_driven (no_stimulus {tree = tree} {line = line} spells flat is) = inr (tree, spells, flat, inl (line, is, refl))
seen_driven {asked = asked} (too_many {tree = tree} {t = t} parts is) =
    inr (tree, parts.spells, parts.flat, inr (t, parts.table, is_many (has_too_many tree t) (long_line tree t) (off_line tree t) (HasDrivenTree asked tree t) is))
seen_driven {asked = asked} (long_cell {tree = tree} {t = t} {line = line} parts few is) =
    inr (tree, parts.spells, parts.flat, inr (t, parts.table, is_long_cell (has_too_many tree t) (long_line tree t) (off_line tree t) (HasDrivenTree asked tree t) line few is))
seen_driven {asked = asked} (off_time {tree = tree} {t = t} {line = line} parts few short is) =
    inr (tree, parts.spells, parts.flat, inr (t, parts.table, is_off_time (has_too_many tree t) (long_line tree t) (off_line tree t) (HasDrivenTree asked tree t) line few short is))
seen_driven {asked = asked} (driven_faulty {tree = tree} {t = t} {fault = fault} parts fine is) =
    inr (tree, parts.spells, parts.flat, inr (t, parts.table, drives_to asked tree t fine (refused fault) (inl (fault, is, refl))))
seen_driven {asked = asked} (driven_run {tree = tree} {t = t} {outcome = outcome} parts fine has) =
    inr (tree, parts.spells, parts.flat, inr (t, parts.table, drives_to asked tree t fine (behind (ignored_text (ignored_labels tree t)) outcome) (inr (outcome, has, refl))))

module _ (asked : RunOptions) (model bytes : List ℕ) (tree : PureTree) (t : TableOf) (parts : AreParts model bytes tree t) where
  tree_to : IsDrivable tree t → (o : Outcome) → HasTreeOutcome (ignored_text (ignored_labels tree t)) asked (driven_tree tree t) o → HasDrivenOutcome asked model bytes o
  tree_to fine o (inl f) = subst (λ (x : Outcome). HasDrivenOutcome asked model bytes x) (sym f.2) (driven_faulty parts fine f.1)
  tree_to fine o (inr run) = subst (λ (x : Outcome). HasDrivenOutcome asked model bytes x) (sym run.2) (driven_run parts fine run.1)

  looked_to : (many : Bool) (long off : Option ℕ) → has_too_many tree t ≡ many → long_line tree t ≡ long → off_line tree t ≡ off
      → (o : Outcome) → HasLookedAt many long off (HasDrivenTree asked tree t) o → HasDrivenOutcome asked model bytes o
  looked_to true long off many_is long_is off_is o has = subst (λ (x : Outcome). HasDrivenOutcome asked model bytes x) (sym has) (too_many parts many_is)
  looked_to false (Some line) off many_is long_is off_is o has = subst (λ (x : Outcome). HasDrivenOutcome asked model bytes x) (sym has) (long_cell parts many_is long_is)
  looked_to false None (Some line) many_is long_is off_is o has = subst (λ (x : Outcome). HasDrivenOutcome asked model bytes x) (sym has) (off_time parts many_is long_is off_is)
  looked_to false None None many_is long_is off_is o has = tree_to has.0 o has.1

  pub parts_to : (o : Outcome) → HasPartsOutcome asked tree t o → HasDrivenOutcome asked model bytes o
  parts_to o has = looked_to (has_too_many tree t) (long_line tree t) (off_line tree t) refl refl refl o has

module _ (asked : RunOptions) (model bytes : List ℕ) (apart : EarlyTextFaultOrFlat) where
  pub text_to : (tree : PureTree) → SpellsText model tree → HasFlat tree → (o : Outcome) → HasTextOutcome asked tree bytes o → HasDrivenOutcome asked model bytes o
  text_to tree spells flat o (inl f) = subst (λ (x : Outcome). HasDrivenOutcome asked model bytes x) (sym f.2) (no_stimulus spells flat f.1)
  text_to tree spells flat o (inr other) = parts_to asked model bytes tree other.0 (record { spells = spells; flat = flat; table = other.1 }) o other.2

  of_text_from : (tree : PureTree) → SpellsText model tree → HasFlat tree → (o : Outcome) → OfDriven asked model bytes o → HasTextOutcome asked tree bytes o
  of_text_from tree spells flat o (inl f) = absurd (apart model f.0 tree f.1 spells flat)
  of_text_from tree spells flat o (inr other) = subst (λ (x : PureTree). HasTextOutcome asked x bytes o) (same_tree model tree other.0 spells other.1) other.3

  pub driven_from : (tree : PureTree) → SpellsText model tree → HasFlat tree → (o : Outcome) → HasDrivenOutcome asked model bytes o → HasTextOutcome asked tree bytes o
  driven_from tree spells flat o has = of_text_from tree spells flat o (seen_driven has)

  of_early : EarlyTextFaultsAreOne → (fault : Fault) → IsEarlyTextFault model fault → (o : Outcome) → OfDriven asked model bytes o → o ≡ refused fault
  of_early once fault is o (inl f) = f.2 ∙ ap refused (once model f.0 fault f.1 is)
  of_early once fault is o (inr other) = absurd (apart model fault other.0 is other.1 other.2)

  pub early_only : EarlyTextFaultsAreOne → (fault : Fault) → IsEarlyTextFault model fault → (o : Outcome) → HasDrivenOutcome asked model bytes o → o ≡ refused fault
  early_only once fault is o has = of_early once fault is o (seen_driven has)

-- ---- the lines on columns that drive no signal

pub ignored_more : (labels : List (List ℕ)) (i : ℕ) (label : List ℕ) → i < length labels → label ≡ get_or labels i label
    → ignored_text (take (i + 1) labels) ≡ ignored_text (take i labels) ++ ignored_line label
unfolding ignored_text
ignored_more labels i label within is =
    ap (flat_map ignored_line) (take_more labels i label within ∙ ap (λ (x : List ℕ). take i labels ++ x ∷ []) (sym is))
    ∙ sym (flat_map_more ignored_line [] (take i labels) label)

pub ignored_none : (labels : List (List ℕ)) → [] ≡ ignored_text (take 0 labels)
unfolding ignored_text
ignored_none labels = refl
