-- Columns of one signal.
use Rattle.std.proofs.Common.{◌≡◌, ◌∙◌, ◌<◌, ◌+◌, ℕ, Bool, true, false, List, Some, length, slice_get, sym, ap, subst, inl, inr, arith}
use Rattle.std.proofs.lemmas.Bool.{cases_eq, cases_lt}
use Rattle.std.proofs.lemmas.Option.{slice_get_within}
use Rattle.tdf_bind_connections.specs.declared.traces.TraceRow.{TraceRow}
use Rattle.tdf_saved.specs.State.{ColumnStateOf}
use Rattle.tdf_sim_shown.specs.machine.Alike.{AreAlike, AreAlikeTo, IsFirstLike, IsLike}
use Rattle.tdf_streams.proofs.Api.{some_same}

pub on_off : (b : Bool) → b ≡ true → b ≡ false → ⊥
on_off b on off = absurd cc

module _ (traces : List TraceRow) where
  pub like_here : (m n : ℕ) (one other : TraceRow) → slice_get traces m ≡ Some one → slice_get traces n ≡ Some other → (one.event ≡ other.event) × (one.signal ≡ other.signal) → IsLike traces m n
  like_here m n one other one_at other_at same = record { one = one; other = other; one_at = one_at; other_at = other_at; events = same.0; signals = same.1 }

  pub same_here : (m n : ℕ) (one other : TraceRow) → slice_get traces m ≡ Some one → slice_get traces n ≡ Some other → IsLike traces m n → (one.event ≡ other.event) × (one.signal ≡ other.signal)
  same_here m n one other one_at other_at is =
      let a : is.one ≡ one = some_same is.one one (sym is.one_at ∙ one_at) in
      let b : is.other ≡ other = some_same is.other other (sym is.other_at ∙ other_at) in
      (sym (ap (λ (r : TraceRow). r.event) a) ∙ is.events ∙ ap (λ (r : TraceRow). r.event) b, sym (ap (λ (r : TraceRow). r.signal) a) ∙ is.signals ∙ ap (λ (r : TraceRow). r.signal) b)

  pub more_unlike : (k n : ℕ) → ((j : ℕ) → j < k → IsLike traces j n → ⊥) → (IsLike traces k n → ⊥) → (j : ℕ) → j < k + 1 → IsLike traces j n → ⊥
  more_unlike k n before here j less is = elim (cases_eq j k) [
    | inl same ↦ here (subst (λ x. IsLike traces x n) same is)
    | inr apart ↦ before j (omega (arith, less, apart)) is
  ]

  pub like_back : (m n : ℕ) → IsLike traces m n → IsLike traces n m
  like_back m n is = record { one = is.other; other = is.one; one_at = is.other_at; other_at = is.one_at; events = sym is.events; signals = sym is.signals }

  pub like_on : (k m n : ℕ) → IsLike traces k m → IsLike traces m n → IsLike traces k n
  like_on k m n a b =
      let e : a.other ≡ b.one = some_same a.other b.one (sym a.other_at ∙ b.one_at) in
      record {
        one = a.one;
        other = b.other;
        one_at = a.one_at;
        other_at = b.other_at;
        events = a.events ∙ ap (λ (r : TraceRow). r.event) e ∙ b.events;
        signals = a.signals ∙ ap (λ (r : TraceRow). r.signal) e ∙ b.signals;
      }

  -- traces of one signal have one first trace
  one_first : (m n a b : ℕ) → IsLike traces m n → IsFirstLike traces m a → IsFirstLike traces n b → a ≡ b
  one_first m n a b like first second = elim (cases_lt a b) [
    | inl less ↦ absurd (second.none a less (like_on a m n first.is like))
    | inr more ↦ elim (cases_lt b a) [
      | inl less ↦ absurd (first.none b less (like_on b n m second.is (like_back m n like)))
      | inr same ↦ omega (arith, more, same)
    ]
  ]

  pub all_alike : (columns : List ColumnStateOf) → AreAlikeTo traces columns (length traces) → AreAlike traces columns
  all_alike columns to m n like =
      let a = to m (slice_get_within traces m like.one like.one_at) in
      let b = to n (slice_get_within traces n like.other like.other_at) in
      sym a.2 ∙ ap (slice_get columns) (one_first m n a.0 b.0 like a.1 b.1) ∙ b.2

  pub one_alike : (columns : List ColumnStateOf) (n k : ℕ) → IsFirstLike traces n k → AreAlike traces columns → slice_get columns k ≡ slice_get columns n
  one_alike columns n k first alike = alike k n first.is

  pub none_alike : (columns : List ColumnStateOf) → AreAlikeTo traces columns 0
  none_alike columns m less = absurd (omega (arith, less))

  pub more_alike : (columns : List ColumnStateOf) (n k : ℕ) → AreAlikeTo traces columns n → IsFirstLike traces n k → slice_get columns k ≡ slice_get columns n → AreAlikeTo traces columns (n + 1)
  more_alike columns n k before first same m less = elim (cases_eq m n) [
    | inl here ↦ subst (λ x. (j : ℕ) × IsFirstLike traces x j × (slice_get columns j ≡ slice_get columns x)) (sym here) (k, first, same)
    | inr apart ↦ before m (omega (arith, less, apart))
  ]
