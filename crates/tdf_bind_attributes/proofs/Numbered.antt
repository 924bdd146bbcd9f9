-- Rate variables before a name.
use Rattle.std.proofs.Common.{◌≡◌, ◌∙◌, ℕ, zero, suc, ◌+◌, ◌<◌, ◌≤◌, List, [], ◌∷◌, ◌++◌, Option, Some, None, length, refl, sym, ap, arith, ◌⊎◌, inl, inr}
use Rattle.std.proofs.Math.ListN.{get_or-append}
use Rattle.std.proofs.Math.Seq.{get_or-append_seam}
use Rattle.std.proofs.lemmas.Bool.{cases_lt}
use Rattle.std.proofs.lemmas.Option.{slice_get_within}
use Rattle.std.specs.Prelude.{slice_get, slice_index}
use Rattle.tdf_expr_compiler.specs.Below.{before, rate_number, rates_of}
use Rattle.tdf_bind_attributes.specs.machine.Numbers.{AreRateNumbers}
use Rattle.tdf_expr_symbols.specs.Names.{Names, Thing}

pub variable_within : (own : Names) (numbers : List ℕ) (place : ℕ) (t : Thing) → AreRateNumbers own numbers → slice_get own.things place ≡ Some t → place < length numbers
variable_within own numbers place t are at =
    let within = slice_get_within own.things place t at in omega (arith, within, are.long)

pub variable_number : (own : Names) (numbers : List ℕ) (place : ℕ) (t : Thing) → AreRateNumbers own numbers → slice_get own.things place ≡ Some t
    → slice_index numbers place ≡ rate_number own place
variable_number own numbers place t are at = are.each place (slice_get_within own.things place t at)

pub ruleset variable_laws = (variable_within, variable_number)

-- how many there are before the first name, and before the next
pub none_before : (things : List Thing) → 0 ≡ before rates_of things 0
unfolding before
none_before [] = refl
none_before (x ∷ things) = refl

before_next : (things : List Thing) (n : ℕ) (t : Thing) → slice_get things n ≡ Some t → before rates_of things (n + 1) ≡ before rates_of things n + rates_of t
unfolding before
before_next [] n t e = absurd cc
before_next (x ∷ things) zero t e =
    let one : 0 + 1 ≡ 1 = omega arith in
    ap (before rates_of (x ∷ things)) one ∙ first things ∙ ap rates_of (ap held e) ∙ start
  where
    held : Option Thing → Thing
    held None = x
    held (Some y) = y

    first : (rest : List Thing) → rates_of x + before rates_of rest 0 ≡ rates_of x
    first [] = omega arith
    first (y ∷ rest) = omega arith

    start : rates_of t ≡ 0 + rates_of t
    start = omega arith
before_next (x ∷ things) (suc n) t e =
    let next : suc n + 1 ≡ suc (n + 1) = omega arith in
    ap (before rates_of (x ∷ things)) next ∙ ap (λ k. rates_of x + k) (before_next things n t e) ∙ assoc
  where
    assoc : rates_of x + (before rates_of things n + rates_of t) ≡ rates_of x + before rates_of things n + rates_of t
    assoc = omega arith

-- what a place below the length has
has_at : (xs : List Thing) (n : ℕ) → n < length xs → (x : Thing) × (slice_get xs n ≡ Some x)
has_at [] n h = absurd (omega (arith, h))
has_at (x ∷ xs) zero h = (x, refl)
has_at (x ∷ xs) (suc n) h = has_at xs n (omega (arith, h))

pub one_more : (things : List Thing) (n count next : ℕ) → n < length things → ((t : Thing) → slice_get things n ≡ Some t → next ≡ count + rates_of t)
    → count ≡ before rates_of things n → next ≡ before rates_of things (n + 1)
one_more things n count next within step is =
    let t = has_at things n within in
    step t.0 t.1 ∙ ap (λ k. k + rates_of t.0) is ∙ sym (before_next things n t.0 t.1)

pub number_more : (own : Names) (old new : List ℕ) (place count n : ℕ) → length old ≡ place → ((k : ℕ) → k < place → slice_index old k ≡ rate_number own k)
    → count ≡ before rates_of own.things place → new ≡ old ++ count ∷ [] → n < place + 1 → slice_index new n ≡ rate_number own n
number_more own old new place count n long each is same below = ap (λ l. slice_index l n) same ∙ go (cases_lt n place)
  where
    go : (n < place) ⊎ (place ≤ n) → slice_index (old ++ count ∷ []) n ≡ rate_number own n
    go (inl less) = get_or-append old (count ∷ []) 0 n (omega (arith, less, long)) ∙ each n less
    go (inr more) =
        let here : n ≡ place = omega (arith, more, below) in
        ap (slice_index (old ++ count ∷ [])) (here ∙ sym long) ∙ get_or-append_seam old count [] 0 ∙ is ∙ ap (λ k. before rates_of own.things k) (sym here)
