-- The notes of a run: its first plans, the plans that came, and how it ended.
use Rattle.std.proofs.Common.{◌≡◌, ◌∙◌, ◌++◌, ℕ, List, Option, append_assoc, ap, sym, subst}
use Rattle.std.proofs.KnownBytes.{Appends-trans}
use Rattle.std.specs.Io.KnownBytes.{Appends}
use Rattle.tdf_bind.specs.declared.model.Flat.{Flat}
use Rattle.tdf_dynamic_first.specs.declared.first.First.{First}
use Rattle.tdf_io.proofs.Api.{front_more, front_then}
use Rattle.tdf_io.specs.Bytes.{AppendsFront}
use Rattle.tdf_lang_tree.specs.Pure.{PureTree}
use Rattle.tdf_sim_history.specs.Rules.{rules_of, start_world}
use Rattle.tdf_sim_history.specs.Texts.{notes_to}
use Rattle.tdf_sim_history.specs.World.{Change}
use Rattle.tdf_sim_notes.specs.Ending.{end_text, run_end, run_note}
use Rattle.tdf_sim_notes.specs.Laws.{NotesAreWritten}
use Rattle.tdf_sim_notes.specs.Plans.{plans_of}

module _ (notes : NotesAreWritten) (model : PureTree) (flat : Flat) (firsts : List First) (ahead : List (List Change)) (stop turns : ℕ) where
  -- what comes after the first plans
  abbrev pub after_plans : List ℕ
  after_plans = notes_to model flat (rules_of model flat) (start_world model flat firsts ahead turns) stop
      ++ end_text flat.resolution turns (run_end model flat firsts ahead stop turns)

  abbrev whole : List ℕ
  whole = run_note model flat firsts ahead stop turns

  text_is : whole ≡ plans_of flat firsts ++ after_plans
  text_is = notes model flat firsts ahead stop turns
      ∙ append_assoc (plans_of flat firsts) (notes_to model flat (rules_of model flat) (start_world model flat firsts ahead turns) stop) (end_text flat.resolution turns (run_end model flat firsts ahead stop turns))

  pub plans_part : (a b : Option (List ℕ)) → AppendsFront a b (plans_of flat firsts) → AppendsFront a b whole
  plans_part a b part = subst (λ (t : List ℕ). AppendsFront a b t) (sym text_is) (front_more a b (plans_of flat firsts) after_plans part)

  module _ (a b : Option (List ℕ)) (plans : Appends a b (plans_of flat firsts)) (d : Option (List ℕ)) where
    pub plans_alone : AppendsFront b d after_plans → AppendsFront a d whole
    plans_alone part = subst (λ (t : List ℕ). AppendsFront a d t) (sym text_is) (front_then a b d (plans_of flat firsts) after_plans plans part)

    pub notes_whole : Appends b d after_plans → Appends a d whole
    notes_whole rest = subst (λ (t : List ℕ). Appends a d t) (sym text_is) (Appends-trans a b d (plans_of flat firsts) after_plans plans rest)
