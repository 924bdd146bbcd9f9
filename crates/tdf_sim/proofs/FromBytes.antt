-- What the answers of reading say of bytes.
use Rattle.std.proofs.Common.{◌≡◌, ◌∙◌, ◌⊎◌, ℕ, ◌+◌, ◌<◌, ◌≤◌, List, ◌++◌, ◌∷◌, Result, Ok, Err, IfOk, drop, length, length-append, refl, sym, ap, subst, inl, inr, arith}
use Rattle.tdf_base.specs.Limits.{longest_text}
use Rattle.tdf_base.specs.declared.faults.Fault.{Fault}
use Rattle.tdf_bind.specs.declared.model.Flat.{Flat}
use Rattle.tdf_bind_invariants.specs.Limits.{FlatIsWithinLimits}
use Rattle.tdf_dynamic_first.specs.declared.first.First.{First}
use Rattle.tdf_events_invariants.specs.Runnable.{SoundIsRunnable}
use Rattle.tdf_lang_parser.proofs.Api.{text_keeps}
use Rattle.tdf_lang_parser.specs.Refused.{SpellsText}
use Rattle.tdf_lang_tree.specs.Pure.{PureTree}
use Rattle.tdf_save.specs.Laws.{FindsText, SavedIsOne, StartIsOne}
use Rattle.tdf_save.specs.Members.{AreNamesApart, IsSnapshotFor, MembersOf}
use Rattle.tdf_save.specs.Start.{IsTextStart, ended}
use Rattle.tdf_save.specs.Text.{saved_text}
use Rattle.tdf_sim_unique.specs.Below.{MembersAreApart, MembersAreInLines, members_of}
use Rattle.tdf_save_reading.specs.Reading.{IsSavedText}
use Rattle.tdf_saved.specs.State.{SnapshotOf}
use Rattle.tdf_saved.specs.declared.err.StateErr.{StateErr}
use Rattle.tdf_saved.specs.declared.err.StateErr.TheVariants.{Bad, Memory}
use Rattle.tdf_sim.proofs.Running.{can_run}
use Rattle.tdf_sim.specs.Accepted.{IsAccepted}
use Rattle.tdf_sim.specs.FirstFault.{IsFirstFault}
use Rattle.tdf_sim.specs.Laws.{FaultOrAccepted}
use Rattle.tdf_sim.specs.declared.sim.Sim.{Sim}
use Rattle.tdf_sim_runs.specs.Below.{IsModelOf}
use Rattle.tdf_sim_runs.specs.declared.paused.Paused.{Paused}
use Rattle.tdf_sim_runs.specs.Reopened.{CanReopen}
use Rattle.tdf_sim.proofs.Texts.{accepted_tree, few_bytes, one_text, same_tree, start_in}
use Rattle.tdf_sim.specs.StateLaws.{MembersAreAlike, ValidIsAlike}
use Rattle.tdf_sim.specs.States.{IsNoState, IsRunOf, IsSavedState}
use Rattle.tdf_sim.specs.machine.Reading.{IsNoStart, IsReadFor, IsRunIn, IsTextIn}

-- an error is one whatever else there might have been
pub same_err : {T : Type 0} (e f : StateErr) → ◌≡◌ {A = Result T StateErr} (Err e) (Err f) → e ≡ f
same_err e f is = cc

-- the names of events of a model are apart
pub names_apart : MembersAreApart → (flat : Flat) → CanReopen flat → AreNamesApart (members_of flat).events
names_apart apart flat is = apart is.model flat is.of.sound is.of.is

-- what was read, in terms of the flat model
module _ (m : MembersOf) (flat : Flat) (bytes : List ℕ) (same : m ≡ members_of flat) where
  pub read_for : (result : Result SnapshotOf StateErr) → IfOk result (IsSavedText m bytes) → IfOk result (IsSnapshotFor m) → IfOk result (IsReadFor flat bytes)
  read_for (Ok s) is fits = record {
    fits = subst (λ (x : MembersOf). IsSnapshotFor x s) same fits;
    is = subst (λ (x : MembersOf). IsSavedText x bytes s) same is;
  }
  read_for (Err error) is fits = tt

  pub none_for : ((s : SnapshotOf) → IsSnapshotFor m s → IsSavedText m bytes s → ⊥) → (s : SnapshotOf) → ¬ IsReadFor flat bytes s
  none_for none s read = none s (subst (λ (x : MembersOf). IsSnapshotFor x s) (sym same) read.fits) (subst (λ (x : MembersOf). IsSavedText x bytes s) (sym same) read.is)

-- bytes are the text of one snapshot of a flat model
pub one_read : SavedIsOne → MembersAreApart → (flat : Flat) (bytes : List ℕ) (s t : SnapshotOf) → CanReopen flat → IsReadFor flat bytes s → IsReadFor flat bytes t → s ≡ t
one_read one apart flat bytes s t is x y =
    (one (members_of flat) x.is.model y.is.model s t (names_apart apart flat is) x.fits y.fits x.is.small y.is.small (sym x.is.is ∙ y.is.is)).0

-- the line with its end lies within the bytes
pub start_within : (bytes : List ℕ) (place : ℕ) → IsTextStart bytes place → place ≤ length bytes
start_within bytes place at = omega (arith, at.after, ap length at.is, length-append (ended at.before) (at.line ++ (10 ∷ at.rest)), length-append at.line (10 ∷ at.rest))

module _ (found : FindsText) (law : StartIsOne) (lines : MembersAreInLines) (bytes text : List ℕ) (here : IsTextIn bytes text) where
  -- the text of the model that the bytes hold
  own_text : (tree : PureTree) (sim : Sim) (firsts : List First) (s : SnapshotOf) → (is : IsSavedState bytes tree sim firsts s) → is.text ≡ text
  own_text tree sim firsts s is = one_text law bytes is.text text (start_in found lines bytes tree sim firsts s is) here

  -- where that is too long, there is no state
  pub too_long : longest_text < length text → IsNoState bytes
  too_long long tree sim firsts s is = omega (arith, long, is.short, ap length (own_text tree sim firsts s is))

  -- where it has a fault, neither
  pub is_faulty : FaultOrAccepted → (fault : Fault) → IsFirstFault text fault → IsNoState bytes
  is_faulty apart fault faulty tree sim firsts s is = apart text fault sim faulty (record {
    tree = tree;
    spelled = subst (λ (t : List ℕ). SpellsText t tree) (own_text tree sim firsts s is) is.spells;
    accepted = is.accepted;
  })

  module _ (within : FlatIsWithinLimits) (runnable : SoundIsRunnable) (tree : PureTree) (sim : Sim) (spells : SpellsText text tree) (accepted : IsAccepted tree sim) where
    of_model : IsModelOf tree sim.flat
    of_model = (can_run within runnable tree sim (accepted_tree tree sim spells accepted)).of

    pub has_model : CanReopen sim.flat
    has_model = record {
      model = tree;
      of = of_model;
      runnable = (can_run within runnable tree sim (accepted_tree tree sim spells accepted)).runnable;
    }

    -- the model's text that was read is this one
    read_text : (s : SnapshotOf) (is : IsReadFor sim.flat bytes s) → is.is.model ≡ text
    read_text s is =
        let at = found (members_of sim.flat) is.is.model s (lines tree sim.flat of_model.sound of_model.is) is.fits is.is.small in
        one_text law bytes is.is.model text (record {
          place = at.0;
          start = subst (λ (t : List ℕ). IsTextStart t at.0) (sym is.is.is) at.1;
          is = sym at.2 ∙ ap (drop at.0) (sym is.is.is);
        }) here

    -- a run that was read waits in a state
    pub run_of : length text ≤ longest_text → (p : Paused) → IsRunIn sim.flat bytes p → IsRunOf bytes p
    run_of short p in_state =
        let s = in_state.snapshot in
        let read = in_state.read in
        let restored = in_state.restored in
        let valid = restored.valid tree of_model in record {
          tree = tree;
          sim = sim;
          firsts = valid.0;
          snapshot = s;
          saved = record {
            text = text;
            short = short;
            spells = spells;
            accepted = accepted;
            fits = read.fits;
            is = read.is.is ∙ ap (λ (t : List ℕ). saved_text (members_of sim.flat) t s) (read_text s read);
            valid = valid.1;
          };
          model = of_model;
          flat = restored.flat_is;
          time = restored.time;
          kind = restored.kind;
          turns = restored.turns;
          goes_on = λ plans fine. let rests = restored.goes_on tree plans of_model fine in record { runs = rests.runs; rows = rests.rows };
        }

    -- where none was, there is no state
    module _ (members : MembersAreAlike) (alike : ValidIsAlike) (none : (s : SnapshotOf) → IsReadFor sim.flat bytes s → IsNoStart sim.flat s) where
      none_of_tree : (other : Sim) (firsts : List First) (s : SnapshotOf) → IsSavedState bytes tree other firsts s → ⊥
      none_of_tree other firsts s is =
          let kept = text_keeps spells in
          let same : members_of other.flat ≡ members_of sim.flat = members tree other sim kept is.accepted accepted in
          none s (record {
            fits = subst (λ (m : MembersOf). IsSnapshotFor m s) same is.fits;
            is = record {
              model = is.text;
              small = few_bytes is.text is.short;
              is = is.is ∙ ap (λ (m : MembersOf). saved_text m is.text s) same;
            };
          }) tree firsts of_model (alike tree other sim kept is.accepted accepted firsts s is.valid)

      pub none_at_all : IsNoState bytes
      none_at_all other_tree other firsts s is =
          let same = same_tree text other_tree tree (subst (λ (t : List ℕ). SpellsText t other_tree) (own_text other_tree other firsts s is) is.spells) spells in
          none_of_tree other firsts s (subst (λ (t : PureTree). IsSavedState bytes t other firsts s) same is)

-- where no line begins with `text `, there is no state
pub no_start : FindsText → MembersAreInLines → (bytes : List ℕ) → ((place : ℕ) → IsTextStart bytes place → ⊥) → IsNoState bytes
no_start found lines bytes none tree sim firsts s is = let at = start_in found lines bytes tree sim firsts s is in none at.place at.start

-- bytes that are the text of no state are refused, or memory ran out
pub always_bad : (bytes : List ℕ) (result : Result Paused StateErr) → IfOk result (IsRunOf bytes) → IsNoState bytes → (result ≡ Err Bad) ⊎ (result ≡ Err Memory)
always_bad bytes (Ok p) run none = absurd (none run.tree run.sim run.firsts run.snapshot run.saved)
always_bad bytes (Err Bad) run none = inl refl
always_bad bytes (Err Memory) run none = inr refl
