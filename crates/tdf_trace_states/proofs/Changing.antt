-- The numbers of the changes of an event signal, one after the other.
use Rattle.std.proofs.Common.{◌≡◌, ◌≢◌, ◌∙◌, ◌+◌, ℕ, ℤ, List, [], ◌∷◌, map, sym, subst, ap}
use Rattle.std.specs.Prelude.{drop}
use Rattle.tdf_saved.specs.declared.state.Stamp.{Stamp}
use Rattle.tdf_trace_states.specs.Windows.{AreChangesTo}

abbrev num_of : Stamp → ℤ
num_of x = x.num

-- what is left leads from a value exactly where all do from the first
abbrev pub ChangedTo : (value : ℤ) → (samples : List Stamp) → (last : ℤ) → (i : ℕ) → (before : ℤ) → Type 0
ChangedTo value samples last i before = (AreChangesTo value (map num_of samples) last → AreChangesTo before (map num_of (drop i samples)) last) × (AreChangesTo before (map num_of (drop i samples)) last → AreChangesTo value (map num_of samples) last)

module _ (value : ℤ) (samples : List Stamp) (last : ℤ) (i : ℕ) (before : ℤ) (x : Stamp) (at : drop i samples ≡ x ∷ drop (i + 1) samples) (so : ChangedTo value samples last i before) where
  opened : AreChangesTo value (map num_of samples) last → (before ≢ x.num) × AreChangesTo x.num (map num_of (drop (i + 1) samples)) last
  unfolding AreChangesTo
  opened s = subst (λ (l : List Stamp). AreChangesTo before (map num_of l) last) at (so.0 s)

  closed : (before ≢ x.num) × AreChangesTo x.num (map num_of (drop (i + 1) samples)) last → AreChangesTo value (map num_of samples) last
  unfolding AreChangesTo
  closed s = so.1 (subst (λ (l : List Stamp). AreChangesTo before (map num_of l) last) (sym at) s)

  pub changed_here : (before ≢ x.num) → ChangedTo value samples last (i + 1) x.num
  changed_here other = (λ s. (opened s).1, λ s. closed (other, s))

  pub changed_not : before ≡ x.num → AreChangesTo value (map num_of samples) last → ⊥
  changed_not same s = (opened s).0 same

pub changed_all : (value : ℤ) (samples : List Stamp) (last : ℤ) (i : ℕ) (before : ℤ) → drop i samples ≡ [] → ChangedTo value samples last i before
    → (before ≡ last → AreChangesTo value (map num_of samples) last) × (AreChangesTo value (map num_of samples) last → before ≡ last)
unfolding AreChangesTo
changed_all value samples last i before none so = (
  λ same. so.1 (subst (λ (l : List Stamp). AreChangesTo before (map num_of l) last) (sym none) same),
  λ s. subst (λ (l : List Stamp). AreChangesTo before (map num_of l) last) none (so.0 s),
)
