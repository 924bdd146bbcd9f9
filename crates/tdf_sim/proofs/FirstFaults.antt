-- A text has at most one first fault, and with one it is not accepted.
use Rattle.std.proofs.Common.{◌≡◌, ◌⊎◌, ℕ, List, [], Some, None, sym, ap, ◌∙◌, subst, inl, inr}
use Rattle.tdf_base.specs.declared.codes.Code.TheVariants as code
use Rattle.tdf_base.specs.declared.faults.Fault.{Fault}
use Rattle.tdf_lang_parser.proofs.Api.{one_tree, never_both, one_line_at_fault, text_keeps}
use Rattle.tdf_lang_parser.specs.Refused.{SpellsText, HasSyntaxFault}
use Rattle.tdf_expr_blocks.specs.Types.{type_faults}
use Rattle.tdf_base.specs.First.{first_of, least_with}
use Rattle.tdf_base.specs.declared.first.LineFault.{LineFault}
use Rattle.tdf_dynamic_first.specs.Laws.{ClustersAreWhole, ClustersHaveOne, FlatIsPlannable}
use Rattle.tdf_bind.proofs.Api.{fault_is_one, fault_or_flat}
use Rattle.tdf_bind.specs.Flat.{IsFlatOf}
use Rattle.tdf_bind.specs.Laws.{PassesChecks}
use Rattle.tdf_bind.specs.declared.model.Flat.{Flat}
use Rattle.tdf_expr_names.specs.Names.{name_faults}
use Rattle.tdf_sim.proofs.Alike.{alike}
use Rattle.tdf_sim.proofs.Plannable.{can_be_planned}
use Rattle.tdf_sim.proofs.Clusters.{attrs_alike, fault_once, fault_or_plans, firsts_alike}
use Rattle.tdf_sim.specs.Accepted.{IsAccepted, IsAcceptedText}
use Rattle.tdf_sim.specs.declared.sim.Sim.{Sim}
use Rattle.tdf_sim.specs.FirstFault.{HasFlat, IsEarlyFault, IsEarlyTextFault, IsFirstFault, IsTextFault, IsTreeFault, HasSoundLines, of_bytes, of_early, of_early_tree, of_length, of_no_tree, of_syntax, of_text, of_tree, of_names, of_types, of_binding, of_clusters, on_line, at_line}
use Rattle.tdf_sim.specs.Laws.{EarlyFaultOrFlat, EarlyFaultsAreOne, EarlyTextFaultOrFlat, EarlyTextFaultsAreOne, FaultsAreOne, FaultOrAccepted, ModelsAreAlike}
use Rattle.tdf_lang_lexer.specs.Rows.{rows_of}
use Rattle.tdf_lang_lexer.specs.Text.{fault_of}
use Rattle.tdf_lang_lexer.specs.declared.text.TextFault.{TextFault}
use Rattle.tdf_lang_lexer.specs.declared.text.TextFault.TheVariants as bytes
use Rattle.tdf_lang_tree.specs.Kept.{IsKept}
use Rattle.tdf_lang_tree.specs.Pure.{PureTree}

-- no faults have no first one
none_first : (faults : List LineFault) (f : LineFault) → faults ≡ [] → first_of faults ≡ Some f → ⊥
unfolding least_with
none_first faults f none is = absurd (nothing f (subst (λ (list : List LineFault). first_of list ≡ Some f) none is))
  where
    nothing : (g : LineFault) → None ≡ Some g → ⊥
    nothing g e = absurd cc

same_line : (faults : List LineFault) (f g : LineFault) (one other : Fault) → first_of faults ≡ Some f → first_of faults ≡ Some g
    → one ≡ at_line f → other ≡ at_line g → one ≡ other
same_line faults f g one other f_is g_is one_is other_is =
    let same : f ≡ g = cc (sym f_is ∙ g_is) in one_is ∙ ap at_line same ∙ sym other_is

passes : (tree : PureTree) → IsKept tree → HasSoundLines tree → PassesChecks tree
passes tree kept sound = record { kept = kept; names = sound.names; types = sound.types }

-- a tree has at most one early fault
pub one_early : EarlyFaultsAreOne
one_early tree one other kept (of_names f f_is one_is) (of_names g g_is other_is) = same_line (name_faults tree) f g one other f_is g_is one_is other_is
one_early tree one other kept (of_names f f_is one_is) (of_types g none g_is other_is) = absurd (none_first (name_faults tree) f none f_is)
one_early tree one other kept (of_names f f_is one_is) (of_binding sound bound) = absurd (none_first (name_faults tree) f sound.names f_is)
one_early tree one other kept (of_types f none f_is one_is) (of_names g g_is other_is) = absurd (none_first (name_faults tree) g none g_is)
one_early tree one other kept (of_types f none f_is one_is) (of_types g none2 g_is other_is) = same_line (type_faults tree) f g one other f_is g_is one_is other_is
one_early tree one other kept (of_types f none f_is one_is) (of_binding sound bound) = absurd (none_first (type_faults tree) f sound.types f_is)
one_early tree one other kept (of_binding sound bound) (of_names g g_is other_is) = absurd (none_first (name_faults tree) g sound.names g_is)
one_early tree one other kept (of_binding sound bound) (of_types g none g_is other_is) = absurd (none_first (type_faults tree) g sound.types g_is)
one_early tree one other kept (of_binding sound bound) (of_binding sound2 bound2) = fault_is_one tree one other (passes tree kept sound) bound bound2

-- and with one no flat model
no_flat : (tree : PureTree) (fault : Fault) (flat : Flat) → IsKept tree → IsEarlyFault tree fault → HasSoundLines tree → IsFlatOf tree flat → ⊥
no_flat tree fault flat kept (of_names f f_is is) lines is_flat = none_first (name_faults tree) f lines.names f_is
no_flat tree fault flat kept (of_types f none f_is is) lines is_flat = none_first (type_faults tree) f lines.types f_is
no_flat tree fault flat kept (of_binding sound bound) lines is_flat = fault_or_flat tree fault flat (passes tree kept sound) bound is_flat

pub early_or_flat : EarlyFaultOrFlat
early_or_flat tree fault kept early has = no_flat tree fault has.flat kept early has.lines has.is

module _ (one_cluster : ClustersHaveOne) (whole : ClustersAreWhole) (plannable : FlatIsPlannable) where
  -- a tree has at most one first fault
  pub one_in_tree : (tree : PureTree) (one other : Fault) → IsKept tree → IsTreeFault tree one → IsTreeFault tree other → one ≡ other
  one_in_tree tree one other kept (of_early early) (of_early early2) = one_early tree one other kept early early2
  one_in_tree tree one other kept (of_early early) (of_clusters flat sound is_flat planned) = absurd (no_flat tree one flat kept early sound is_flat)
  one_in_tree tree one other kept (of_clusters flat sound is_flat planned) (of_early early) = absurd (no_flat tree other flat kept early sound is_flat)
  one_in_tree tree one other kept (of_clusters flat sound is_flat planned) (of_clusters flat2 sound2 is_flat2 planned2) =
      fault_once one_cluster whole flat flat2 one other (can_be_planned plannable tree flat kept sound is_flat) (can_be_planned plannable tree flat2 kept sound is_flat2)
      (alike tree flat flat2 (passes tree kept sound) is_flat is_flat2) planned planned2

  -- a tree with a fault is not accepted
  pub tree_or_accepted : (tree : PureTree) (fault : Fault) (sim : Sim) → IsKept tree → IsTreeFault tree fault → IsAccepted tree sim → ⊥
  tree_or_accepted tree fault sim kept (of_early early) accepted = no_flat tree fault sim.flat kept early accepted.lines accepted.is_flat
  tree_or_accepted tree fault sim kept (of_clusters flat sound is_flat planned) accepted =
      fault_or_plans one_cluster whole flat sim.flat fault sim.firsts.items (can_be_planned plannable tree flat kept sound is_flat) (can_be_planned plannable tree sim.flat kept sound accepted.is_flat)
      (alike tree flat sim.flat (passes tree kept sound) is_flat accepted.is_flat) planned accepted.plans

  -- two models of one tree are alike
  pub models_alike : ModelsAreAlike
  models_alike tree one other kept a b =
      let same = alike tree one.flat other.flat (passes tree kept a.lines) a.is_flat b.is_flat in record {
        tables = same.tables;
        unit = same.unit;
        attrs = attrs_alike one_cluster whole one.flat other.flat one.firsts.items other.firsts.items same a.plans b.plans;
        plans = firsts_alike one_cluster whole one.flat other.flat one.firsts.items other.firsts.items (can_be_planned plannable tree other.flat kept b.lines b.is_flat) same a.plans b.plans;
      }

-- the first fault of a text that spells no tree, by the phase that finds it
abbrev by_bytes : TextFault → Fault
by_bytes (bytes.Byte line) = on_line code.Byte line
by_bytes (bytes.LongLine line) = on_line code.LongLine line

abbrev Found : List ℕ → Fault → Type 0
Found text fault = ((first : TextFault) × (fault_of text ≡ Some first) × (fault ≡ by_bytes first))
    ⊎ ((line : ℕ) × HasSyntaxFault text line × (fault ≡ on_line code.Syntax line))

one_found : (text : List ℕ) (one other : Fault) → Found text one → Found text other → one ≡ other
one_found text one other (inl s) (inl t) =
    let is : s.0 ≡ t.0 = cc (sym s.1 ∙ t.1) in
    s.2 ∙ ap by_bytes is ∙ sym t.2
one_found text one other (inl s) (inr t) = let e = sym s.1 ∙ t.1.clean in absurd cc
one_found text one other (inr s) (inl t) = let e = sym t.1 ∙ s.1.clean in absurd cc
one_found text one other (inr s) (inr t) =
    s.2 ∙ ap (on_line code.Syntax) (one_line_at_fault (rows_of text) _ s.0 t.0 s.1.fault t.1.fault) ∙ sym t.2

-- a text with such a fault spells no tree
not_both : (text : List ℕ) (fault : Fault) (tree : PureTree) → Found text fault → SpellsText text tree → ⊥
not_both text fault tree (inl s) spells = let e = sym s.1 ∙ spells.clean in absurd cc
not_both text fault tree (inr s) spells = never_both (rows_of text) tree _ s.0 spells.spelled s.1.fault

same_tree : (text : List ℕ) (one other : PureTree) → SpellsText text one → SpellsText text other → other ≡ one
same_tree text one other s t = one_tree (rows_of text) other one t.spelled s.spelled

abbrev Seen : List ℕ → Fault → Type 0
Seen text fault = Found text fault ⊎ ((tree : PureTree) × SpellsText text tree × IsTreeFault tree fault)

found : (text : List ℕ) (fault : Fault) → IsTextFault text fault → Found text fault
found text fault (of_bytes line is says) = inl (bytes.Byte line, is, says)
found text fault (of_length line is says) = inl (bytes.LongLine line, is, says)
found text fault (of_syntax line is says) = inr (line, is, says)

seen : (text : List ℕ) (fault : Fault) → IsFirstFault text fault → Seen text fault
seen text fault (of_text is) = inl (found text fault is)
seen text fault (of_tree tree spells is) = inr (tree, spells, is)

-- the same of the faults that come before clusters are planned
pub one_early_text : EarlyTextFaultsAreOne
one_early_text text one other (of_no_tree s) (of_no_tree t) = one_found text one other (found text one s) (found text other t)
one_early_text text one other (of_no_tree s) (of_early_tree tree spells is) = absurd (not_both text one tree (found text one s) spells)
one_early_text text one other (of_early_tree tree spells is) (of_no_tree t) = absurd (not_both text other tree (found text other t) spells)
one_early_text text one other (of_early_tree tree spells is) (of_early_tree tree2 spells2 is2) =
    one_early tree one other (text_keeps spells) is (subst (λ (t : PureTree). IsEarlyFault t other) (same_tree text tree tree2 spells spells2) is2)

pub early_text_or_flat : EarlyTextFaultOrFlat
early_text_or_flat text fault tree (of_no_tree s) spells has = not_both text fault tree (found text fault s) spells
early_text_or_flat text fault tree (of_early_tree other others is) spells has =
    early_or_flat tree fault (text_keeps spells) (subst (λ (t : PureTree). IsEarlyFault t fault) (same_tree text tree other spells others) is) has

module _ (one_cluster : ClustersHaveOne) (whole : ClustersAreWhole) (plannable : FlatIsPlannable) where
  same : (text : List ℕ) (one other : Fault) → Seen text one → Seen text other → one ≡ other
  same text one other (inl s) (inl t) = one_found text one other s t
  same text one other (inl s) (inr t) = absurd (not_both text one t.0 s t.1)
  same text one other (inr s) (inl t) = absurd (not_both text other s.0 t s.1)
  same text one other (inr s) (inr t) =
      one_in_tree one_cluster whole plannable s.0 one other (text_keeps s.1) s.2 (subst (λ (tree : PureTree). IsTreeFault tree other) (same_tree text s.0 t.0 s.1 t.1) t.2)

  pub faults_are_one : FaultsAreOne
  faults_are_one text one other h k = same text one other (seen text one h) (seen text other k)

  apart : (text : List ℕ) (fault : Fault) (sim : Sim) → Seen text fault → IsAcceptedText text sim → ⊥
  apart text fault sim (inl s) accepted = not_both text fault accepted.tree s accepted.spelled
  apart text fault sim (inr s) accepted =
      tree_or_accepted one_cluster whole plannable s.0 fault sim (text_keeps s.1) s.2
      (subst (λ (tree : PureTree). IsAccepted tree sim) (same_tree text s.0 accepted.tree s.1 accepted.spelled) accepted.accepted)

  pub fault_or_accepted : FaultOrAccepted
  fault_or_accepted text fault sim h accepted = apart text fault sim (seen text fault h) accepted
