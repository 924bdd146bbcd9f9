-- Which model and which snapshot bytes hold.
use Rattle.std.proofs.Common.{◌≡◌, ◌∙◌, ℕ, ◌<◌, ◌≤◌, ◌^◌, List, drop, length, sym, ap, subst, arith}
use Rattle.tdf_base.specs.Limits.{longest_text}
use Rattle.tdf_dynamic_first.specs.declared.first.First.{First}
use Rattle.tdf_lang_lexer.specs.Rows.{rows_of}
use Rattle.tdf_lang_parser.proofs.Api.{one_tree, text_formed, text_keeps}
use Rattle.tdf_lang_parser.specs.Refused.{SpellsText}
use Rattle.tdf_lang_tree.specs.Pure.{PureTree}
use Rattle.tdf_save.specs.Laws.{FindsText, SavedIsOne, StartIsOne}
use Rattle.tdf_save.specs.Members.{IsSnapshotFor, MembersOf}
use Rattle.tdf_save.specs.Start.{IsTextStart}
use Rattle.tdf_save.specs.Text.{saved_text}
use Rattle.tdf_sim_unique.specs.Below.{MembersAreApart, MembersAreInLines, members_of}
use Rattle.tdf_saved.specs.State.{SnapshotOf}
use Rattle.tdf_sim.proofs.Running.{sound_model}
use Rattle.tdf_sim.specs.Accepted.{IsAccepted}
use Rattle.tdf_sim.specs.Runs.{IsAcceptedTree}
use Rattle.tdf_sim.specs.declared.sim.Sim.{Sim}
use Rattle.tdf_sim.specs.StateLaws.{MembersAreAlike, StateIsOne}
use Rattle.tdf_sim.specs.States.{IsSavedState}
use Rattle.tdf_sim.specs.machine.Reading.{IsTextIn}

-- the tree of a text, with its model
pub accepted_tree : {text : List ℕ} (tree : PureTree) (sim : Sim) → SpellsText text tree → IsAccepted tree sim → IsAcceptedTree tree sim
accepted_tree tree sim spells accepted = record { kept = text_keeps spells; formed = text_formed spells; accepted = accepted }

pub same_tree : (text : List ℕ) (one other : PureTree) → SpellsText text one → SpellsText text other → one ≡ other
same_tree text one other a b = one_tree (rows_of text) one other a.spelled b.spelled

pub few_bytes : (text : List ℕ) → length text ≤ longest_text → length text < 2 ^ 64
few_bytes text short = omega (arith, short)

module _ (found : FindsText) (lines : MembersAreInLines) (bytes : List ℕ) (tree : PureTree) (sim : Sim) (firsts : List First) (s : SnapshotOf) (is : IsSavedState bytes tree sim firsts s) where
  -- where the text of the model begins
  pub start_in : IsTextIn bytes is.text
  start_in =
      let at = found (members_of sim.flat) is.text s (lines tree sim.flat (sound_model tree sim (accepted_tree tree sim is.spells is.accepted)) is.accepted.is_flat) is.fits
      (few_bytes is.text is.short) in record {
        place = at.0;
        start = subst (λ (t : List ℕ). IsTextStart t at.0) (sym is.is) at.1;
        is = sym at.2 ∙ ap (drop at.0) (sym is.is);
      }

-- there is one text
pub one_text : StartIsOne → (bytes x y : List ℕ) → IsTextIn bytes x → IsTextIn bytes y → x ≡ y
one_text law bytes x y a b = a.is ∙ ap (λ place. drop place bytes) (law bytes a.place b.place a.start b.start) ∙ sym b.is

module _ (one : SavedIsOne) (law : StartIsOne) (found : FindsText) (apart : MembersAreApart) (lines : MembersAreInLines) (members : MembersAreAlike) where
  -- with one model, one snapshot
  by_tree : (bytes : List ℕ) (tree : PureTree) (a b : Sim) (firsts others : List First) (s t : SnapshotOf) → IsSavedState bytes tree a firsts s → IsSavedState bytes tree b others t → s ≡ t
  by_tree bytes tree a b firsts others s t x y =
      let kept = text_keeps x.spells in
      let same : members_of b.flat ≡ members_of a.flat = members tree b a kept y.accepted x.accepted in
      (one (members_of a.flat) x.text y.text s t
      (apart tree a.flat (sound_model tree a (accepted_tree tree a x.spells x.accepted)) x.accepted.is_flat)
      x.fits (subst (λ (m : MembersOf). IsSnapshotFor m t) same y.fits) (few_bytes x.text x.short) (few_bytes y.text y.short)
      (sym x.is ∙ y.is ∙ ap (λ (m : MembersOf). saved_text m y.text t) same)).0

  pub state_is_one : StateIsOne
  state_is_one bytes tree other a b firsts others s t x y =
      let text : y.text ≡ x.text = one_text law bytes y.text x.text (start_in found lines bytes other b others t y) (start_in found lines bytes tree a firsts s x) in
      let tree_is : other ≡ tree = same_tree x.text other tree (subst (λ (c : List ℕ). SpellsText c other) text y.spells) x.spells in (
        sym tree_is,
        by_tree bytes tree a b firsts others s t x (subst (λ (r : PureTree). IsSavedState bytes r b others t) tree_is y),
      )
