-- The least of faults is the first.
use Rattle.std.proofs.Common.{◌≡◌, ◌∙◌, ℕ, ◌<◌, Bool, true, false, List, [], ◌∷◌, Option, Some, None, refl, sym, ap, subst, arith, inl, inr, ◌⊎◌}
use Rattle.std.specs.Prelude.{◌||◌, ◌&&◌, if◌then◌else◌, nat_lt, nat_eq}
use Rattle.std.proofs.lemmas.Bool.{cases_lt, cases_eq}
use Rattle.std.proofs.lemmas.Bool.Decides.{nat_tests}
use Rattle.tdf_base.specs.First.{rank, comes_before, lesser, least_with}
use Rattle.tdf_base.specs.FirstLaws.{IsIn, IsFirst, FindsFirst}
use Rattle.tdf_base.specs.declared.first.LineFault.{LineFault}

before : ℕ → ℕ → ℕ → ℕ → Bool
before l r m s = nat_lt l m || (nat_eq l m && nat_lt r s)

chain : (l r m s n t : ℕ) → nat_lt l m || (nat_eq l m && nat_lt r s) ≡ true → nat_lt l n || (nat_eq l n && nat_lt r t) ≡ false → nat_lt m n || (nat_eq m n && nat_lt s t) ≡ false
chain l r m s n t a b = grind (arith, nat_tests)

never : (l r : ℕ) → nat_lt l l || (nat_eq l l && nat_lt r r) ≡ false
never l r = grind (arith, nat_tests)

is_true_or : (b : Bool) → (b ≡ true) ⊎ (b ≡ false)
is_true_or true = inl refl
is_true_or false = inr refl

abbrev none_only : {A : Type 0} → Option A → Type 0
none_only None = Unit {0}
none_only (Some x) = ⊥

abbrev held : {A : Type 0} → A → Option A → A
held d None = d
held d (Some x) = x

-- the least, where `b` was found before
pub record Beats (b f : LineFault) (faults : List LineFault) : Type 0 where
  pub among : (b ≡ f) ⊎ IsIn faults f
  pub start : comes_before b f ≡ false
  pub least : (g : LineFault) → IsIn faults g → comes_before g f ≡ false

chain_false : (l r m s n t : ℕ) → nat_lt l m || (nat_eq l m && nat_lt r s) ≡ false → nat_lt m n || (nat_eq m n && nat_lt s t) ≡ false → nat_lt l n || (nat_eq l n && nat_lt r t) ≡ false
chain_false l r m s n t a b = grind (arith, nat_tests)

among_next : (x b f : LineFault) (faults : List LineFault) → (b ≡ f) ⊎ IsIn faults f → (b ≡ f) ⊎ ((x ≡ f) ⊎ IsIn faults f)
among_next x b f faults (inl e) = inl e
among_next x b f faults (inr i) = inr (inr i)

step : (x : LineFault) (faults : List LineFault) (b f : LineFault) → ((c : LineFault) → least_with (Some c) faults ≡ Some f → Beats c f faults) → (t : Bool) → comes_before x b ≡ t → least_with (if t then Some x else Some b) faults ≡ Some f → Beats b f (x ∷ faults)
step x faults b f ih true won e = record {
  among = inr (ih x e).among;
  start = chain x.line (rank x.code) b.line (rank b.code) f.line (rank f.code) won (ih x e).start;
  least = λ g i. least g i;
}
  where
    least : (g : LineFault) → (x ≡ g) ⊎ IsIn faults g → comes_before g f ≡ false
    least g (inl same) = subst (λ (h : LineFault). comes_before h f ≡ false) same (ih x e).start
    least g (inr i) = (ih x e).least g i
step x faults b f ih false lost e = record {
  among = among_next x b f faults (ih b e).among;
  start = (ih b e).start;
  least = λ g i. least g i;
}
  where
    least : (g : LineFault) → (x ≡ g) ⊎ IsIn faults g → comes_before g f ≡ false
    least g (inl same) = subst (λ (h : LineFault). comes_before h f ≡ false) same (chain_false x.line (rank x.code) b.line (rank b.code) f.line (rank f.code) lost (ih b e).start)
    least g (inr i) = (ih b e).least g i

beats : (faults : List LineFault) (b f : LineFault) → least_with (Some b) faults ≡ Some f → Beats b f faults
unfolding least_with lesser
beats [] b f e =
    let same = ap (held b) e in
    record { among = inl same; start = subst (λ (h : LineFault). comes_before b h ≡ false) same (never b.line (rank b.code)); least = λ g i. absurd i }
beats (x ∷ faults) b f e = step x faults b f (λ c. beats faults c f) (comes_before x b) refl e

some_stays : (faults : List LineFault) (b : LineFault) → least_with (Some b) faults ≡ None → ⊥
unfolding least_with lesser
some_stays [] b e = subst none_only (sym e) tt
some_stays (x ∷ faults) b e = go (comes_before x b) e (some_stays faults x) (some_stays faults b)
  where
    go : (t : Bool) → least_with (if t then Some x else Some b) faults ≡ None → (least_with (Some x) faults ≡ None → ⊥) → (least_with (Some b) faults ≡ None → ⊥) → ⊥
    go true e f g = f e
    go false e f g = g e

pub finds_first : FindsFirst
unfolding least_with lesser
finds_first = record { first = first; none = none }
  where
    first : (faults : List LineFault) (f : LineFault) → least_with None faults ≡ Some f → IsFirst faults f
    first [] f e = absurd (subst none_only e tt)
    first (x ∷ faults) f e = record { among = (beats faults x f e).among; least = λ g i. least g i }
      where
        least : (g : LineFault) → (x ≡ g) ⊎ IsIn faults g → comes_before g f ≡ false
        least g (inl same) = subst (λ (h : LineFault). comes_before h f ≡ false) same (beats faults x f e).start
        least g (inr i) = (beats faults x f e).least g i

    none : (faults : List LineFault) → least_with None faults ≡ None → faults ≡ []
    none [] e = refl
    none (x ∷ faults) e = absurd (some_stays faults x e)
