-- The numbers of a block's names, one after another.
use Rattle.std.proofs.Common.{◌≡◌, ◌∙◌, ℕ, zero, suc, ◌+◌, ◌<◌, List, [], ◌∷◌, ◌++◌, Option, Some, None, length, refl, sym, ap, subst, arith, inl, inr, ◌⊎◌}
use Rattle.std.specs.Prelude.{slice_get}
use Rattle.tdf_expr_compiler.specs.Layouts.{IsNumbered, IsLayout}
use Rattle.tdf_expr_compiler.specs.declared.layouts.Layout.{Layout}
use Rattle.tdf_expr_compiler.specs.declared.numbers.Numbers.{Numbers}
use Rattle.tdf_expr_compiler.specs.machine.Tallies.{IsNext, counts_of}
use Rattle.tdf_expr_semantics.specs.Places.{before}
use Rattle.tdf_expr_symbols.specs.Names.{Names, Thing}

before_none : (count : Thing → ℕ) (things : List Thing) → before count things 0 ≡ 0
unfolding before
before_none count [] = refl
before_none count (t ∷ things) = refl

before_next : (count : Thing → ℕ) (things : List Thing) (n : ℕ) (t : Thing) → slice_get things n ≡ Some t → before count things (n + 1) ≡ before count things n + count t
unfolding before
before_next count [] n t e = absurd cc
before_next count (x ∷ things) zero t e =
    let same : x ≡ t = ap held e in
    let none : before count things 0 ≡ 0 = before_none count things in
    let here : count x ≡ count t = ap count same in
    omega (arith, none, here)
  where
    held : Option Thing → Thing
    held None = x
    held (Some y) = y
before_next count (x ∷ things) (suc n) t e =
    let one : before count things (n + 1) ≡ before count things n + count t = before_next count things n t e in
    let same : suc n + 1 ≡ suc (n + 1) = omega arith in
    ap (before count (x ∷ things)) same ∙ omega (arith, one)

pub numbered_first : (own : Names) (p : Numbers) → p.cell ≡ 0 → p.sample ≡ 0 → p.port ≡ 0 → p.rate ≡ 0 → p.event ≡ 0 → IsNumbered own 0 p
numbered_first own p a b c d e = record {
  few = record { cells = omega (arith, a); samples = omega (arith, b); ports = omega (arith, c) };
  cell = a ∙ sym (before_none _ own.things);
  sample = b ∙ sym (before_none _ own.things);
  port = c ∙ sym (before_none _ own.things);
  rate = d ∙ sym (before_none _ own.things);
  event = e ∙ sym (before_none _ own.things);
}

pub numbered_next : (own : Names) (n : ℕ) (t : Thing) (p q : Numbers) → slice_get own.things n ≡ Some t → IsNumbered own n p → IsNext p (counts_of own t) q → IsNumbered own (n + 1) q
numbered_next own n t p q is at next = record {
  few = next.few;
  cell = next.cell ∙ ap (λ k. k + (counts_of own t).cells) at.cell ∙ sym (before_next _ own.things n t is);
  sample = next.sample ∙ ap (λ k. k + (counts_of own t).samples) at.sample ∙ sym (before_next _ own.things n t is);
  port = next.port ∙ ap (λ k. k + (counts_of own t).ports) at.port ∙ sym (before_next _ own.things n t is);
  rate = next.rate ∙ ap (λ k. k + (counts_of own t).rates) at.rate ∙ sym (before_next _ own.things n t is);
  event = next.event ∙ ap (λ k. k + (counts_of own t).events) at.event ∙ sym (before_next _ own.things n t is);
}

-- each name up to here has its numbers
pub record AreNumbered (own : Names) (names : List Numbers) : Type 0 where
  pub each : (n : ℕ) (p : Numbers) → slice_get names n ≡ Some p → IsNumbered own n p

pub none_numbered : (own : Names) → AreNumbered own []
none_numbered own = record { each = λ n p e. absurd (nothing n p e) }
  where
    nothing : (n : ℕ) (p : Numbers) → slice_get [] n ≡ Some p → ⊥
    nothing n p e = absurd cc

last_or : (names : List Numbers) (q : Numbers) (n : ℕ) (p : Numbers) → slice_get (names ++ q ∷ []) n ≡ Some p → (slice_get names n ≡ Some p) ⊎ ((n ≡ length names) × (q ≡ p))
last_or [] q zero p e = inr (refl, ap held e)
  where
    held : Option Numbers → Numbers
    held None = q
    held (Some y) = y
last_or [] q (suc n) p e = absurd cc
last_or (x ∷ names) q zero p e = inl e
last_or (x ∷ names) q (suc n) p e = go (last_or names q n p e)
  where
    go : (slice_get names n ≡ Some p) ⊎ ((n ≡ length names) × (q ≡ p)) → (slice_get names n ≡ Some p) ⊎ ((suc n ≡ suc (length names)) × (q ≡ p))
    go (inl e) = inl e
    go (inr e) = inr (ap suc e.0, e.1)

pub more_numbered : (own : Names) (names : List Numbers) (q : Numbers) → AreNumbered own names → IsNumbered own (length names) q → AreNumbered own (names ++ q ∷ [])
more_numbered own names q all one = record { each = λ n p e. go n p (last_or names q n p e) }
  where
    go : (n : ℕ) (p : Numbers) → (slice_get names n ≡ Some p) ⊎ ((n ≡ length names) × (q ≡ p)) → IsNumbered own n p
    go n p (inl e) = all.each n p e
    go n p (inr e) = subst (λ k. IsNumbered own k p) (sym e.0) (subst (λ x. IsNumbered own (length names) x) e.1 one)

pub all_numbered : (own : Names) (layout : Layout) → length layout.names.items ≡ length own.things → AreNumbered own layout.names.items → IsLayout own layout
all_numbered own layout long all = record { long = long; each = all.each }

pub has_thing : (things : List Thing) (n : ℕ) → n < length things → (t : Thing) × (slice_get things n ≡ Some t)
has_thing [] n h = absurd (omega (arith, h))
has_thing (x ∷ things) zero h = (x, refl)
has_thing (x ∷ things) (suc n) h = has_thing things n (omega (arith, h))

-- the numbers of the next name, from the list of all
pub numbered_after : (own : Names) (n : ℕ) (p : Numbers) (Is : Numbers → Type 0) → n < length own.things → IsNumbered own n p
    → ((t : Thing) → slice_get own.things n ≡ Some t → (q : Numbers) → Is q → IsNext p (counts_of own t) q)
    → (q : Numbers) → Is q → IsNumbered own (n + 1) q
numbered_after own n p Is within at step q is =
    let t = has_thing own.things n within in
    numbered_next own n t.0 p q t.1 at (step t.0 t.1 q is)

pub ruleset numbered_laws = (numbered_first, none_numbered, more_numbered, all_numbered)
