-- The least counts of each part, after one edge more.
use Rattle.std.proofs.Common.{◌≡◌, ◌∙◌, ℕ, ◌*◌, ◌<◌, ◌≤◌, List, [], ◌∷◌, ◌++◌, replicate, refl, sym, ap, subst, arith, inl, inr, ◌⊎◌}
use Rattle.std.proofs.Math.ListN.{get_or}
use Rattle.std.proofs.Math.Nat.{dvd_of_mul-dvd-mul_left, mul-dvd-mul_left, eq_of_mul-eq-mul_right, eq-one_of_dvd-one}
use Rattle.std.proofs.lemmas.Bool.{cases_eq, cases_lt}
use Rattle.std.proofs.lemmas.List.{length-replicate, get_or-replicate, get_or_past}
use Rattle.std.proofs.lemmas.List.Elements.{All-contains, All-get_or, All-replicate, Contains-append_left}
use Rattle.std.proofs.lemmas.Nat.Gcd.{dvd_refl}
use Rattle.std.specs.Int.{◌∣◌, IsGcd}
use Rattle.std.specs.Prelude.{All, Contains}
use Rattle.tdf_balance.proofs.Divides.{divides_factor}
use Rattle.tdf_balance.proofs.Solutions.{multiples, same_least}
use Rattle.tdf_balance.specs.Balance.{IsUnsolvable, IsBad}
use Rattle.tdf_balance.specs.Laws.{IsMultiple}
use Rattle.tdf_balance.specs.views.Solution.{AreLeast, count_at}
use Rattle.tdf_base.specs.Limits.{most_firings}
use Rattle.tdf_graph.proofs.Api.{joined_then, labels_alone, along, joined_more, last_edge, edge_cases}
use Rattle.tdf_graph.specs.Clusters.{Joined, stays, goes, comes}
use Rattle.tdf_graph.specs.Counts.{Solves, IsLeast, IsBalanced}
use Rattle.tdf_graph.specs.Parts.{AreAlone, AreLabels}
use Rattle.tdf_graph.specs.Ranges.{IsEdge}
use Rattle.tdf_graph.specs.declared.actors.Edge.{Edge}

pub joined_within : (count : ℕ) (edges : List Edge) → All (IsEdge count) edges → {a b : ℕ} → Joined edges a b → a < count → b < count
joined_within count edges fit (stays a) here = here
joined_within count edges fit (goes e is rest) here = joined_within count edges fit rest (All-contains (IsEdge count) edges e fit is).reader
joined_within count edges fit (comes e is rest) here = joined_within count edges fit rest (All-contains (IsEdge count) edges e fit is).writer

-- beyond the actors nothing is joined
pub joined_alone : (count : ℕ) (edges : List Edge) → All (IsEdge count) edges → {a b : ℕ} → Joined edges a b → count ≤ a → a ≡ b
joined_alone count edges fit (stays a) past = refl
joined_alone count edges fit (goes e is rest) past = absurd (let h = (All-contains (IsEdge count) edges e fit is).writer in omega (arith, h, past))
joined_alone count edges fit (comes e is rest) past = absurd (let h = (All-contains (IsEdge count) edges e fit is).reader in omega (arith, h, past))

fewer : (edges : List Edge) (e : Edge) (q : ℕ → ℕ) → Solves (edges ++ e ∷ []) q → Solves edges q
fewer edges e q solves = record {
  positive = solves.positive;
  balanced = λ f is. solves.balanced f (Contains-append_left edges (e ∷ []) f is);
}

pub solves_more : (edges : List Edge) (e : Edge) (q : ℕ → ℕ) → Solves edges q → IsBalanced q e → Solves (edges ++ e ∷ []) q
solves_more edges e q solves here = record {
  positive = solves.positive;
  balanced = λ f is. go f (edge_cases edges e f is);
}
  where
    go : (f : Edge) → Contains edges f ⊎ (f ≡ e) → IsBalanced q f
    go f (inl before) = solves.balanced f before
    go f (inr same) = subst (IsBalanced q) (sym same) here

-- an edge inside a part
module _ (count : ℕ) (edges : List Edge) (labels counts : List ℕ) (e : Edge) (are : AreLeast count edges labels counts) (here : IsEdge count e) (same : get_or labels e.writer 0 ≡ get_or labels e.reader 0) where
  pub unsolvable_inside : (IsBalanced (count_at counts) e → ⊥) → IsUnsolvable (edges ++ e ∷ [])
  unsolvable_inside wrong q solves = wrong (cancel (p e.writer) (p e.reader) e.write_rate e.read_rate many.times some
      (ap (λ n. n * e.write_rate) (sym w_is) ∙ solves.balanced e (last_edge edges e) ∙ ap (λ n. n * e.read_rate) r_is))
    where
      p : ℕ → ℕ
      p = count_at counts

      many : IsMultiple edges e.writer p q
      many = multiples count edges e.writer p q are.fit (are.least e.writer here.writer) (fewer edges e q solves)

      w_is : q e.writer ≡ p e.writer * many.times
      w_is = many.each e.writer (stays e.writer)

      r_is : q e.reader ≡ p e.reader * many.times
      r_is = many.each e.reader (are.parts.joined e.writer e.reader here.writer here.reader same)

      some : 0 < many.times
      some = go (cases_eq many.times 0)
        where
          go : (many.times ≡ 0) ⊎ (many.times ≡ 0 → ⊥) → 0 < many.times
          go (inl none) = absurd (let a = solves.positive e.writer in let b = w_is ∙ ap (λ n. p e.writer * n) none in omega (arith, a, b))
          go (inr other) = omega (arith, other)

      cancel : (x y W R m : ℕ) → 0 < m → x * m * W ≡ y * m * R → x * W ≡ y * R
      cancel x y W R m positive is = eq_of_mul-eq-mul_right m positive (x * W) (y * R) (turn x W m ∙ is ∙ sym (turn y R m))
        where
          turn : (a b c : ℕ) → a * b * c ≡ a * c * b
          turn a b c = grind arith

  pub balanced_inside : All (IsEdge count) (edges ++ e ∷ []) → AreLabels count (edges ++ e ∷ []) labels → IsBalanced (count_at counts) e → AreLeast count (edges ++ e ∷ []) labels counts
  balanced_inside fit parts right = record {
    fit = fit;
    parts = parts;
    long = are.long;
    few = are.few;
    least = λ a a_in. record {
      solves = solves_more edges e (count_at counts) (are.least a a_in).solves right;
      least = λ d each. (are.least a a_in).least d (λ b chain. each b (joined_more edges e chain));
    };
  }

-- an edge between two parts: the counts of one are multiplied by f, those of the other by g
module _ (count : ℕ) (edges : List Edge) (labels counts : List ℕ) (e : Edge) (are : AreLeast count edges labels counts) (here : IsEdge count e)
    (f g c : ℕ) (f_some : 0 < f) (g_some : 0 < g) (c_some : 0 < c)
    (is_gcd : IsGcd (count_at counts e.writer * e.write_rate) (count_at counts e.reader * e.read_rate) c)
    (f_is : f * c ≡ count_at counts e.reader * e.read_rate) (g_is : g * c ≡ count_at counts e.writer * e.write_rate)
    (q : ℕ → ℕ) (positive : (a : ℕ) → 0 < q a)
    (at_first : (a : ℕ) → a < count → get_or labels a 0 ≡ get_or labels e.writer 0 → q a ≡ count_at counts a * f)
    (at_second : (a : ℕ) → a < count → get_or labels a 0 ≡ get_or labels e.reader 0 → q a ≡ count_at counts a * g)
    (at_other : (a : ℕ) → a < count → (get_or labels a 0 ≡ get_or labels e.writer 0 → ⊥) → (get_or labels a 0 ≡ get_or labels e.reader 0 → ⊥) → q a ≡ count_at counts a) where
  abbrev es : List Edge
  es = edges ++ e ∷ []

  abbrev p : ℕ → ℕ
  p = count_at counts

  old : Solves edges p
  old = (are.least e.writer here.writer).solves

  turn : (a b m : ℕ) → a * b * m ≡ a * m * b
  turn a b m = grind arith

  kept : (x : Edge) → Contains edges x → IsBalanced q x
  kept x is = go (cases_eq (get_or labels x.writer 0) (get_or labels e.writer 0)) (cases_eq (get_or labels x.writer 0) (get_or labels e.reader 0))
    where
      fits : IsEdge count x
      fits = All-contains (IsEdge count) edges x are.fit is

      ends : get_or labels x.writer 0 ≡ get_or labels x.reader 0
      ends = are.parts.ends x is

      by_factor : (m : ℕ) → q x.writer ≡ p x.writer * m → q x.reader ≡ p x.reader * m → IsBalanced q x
      by_factor m w r = ap (λ n. n * x.write_rate) w ∙ turn (p x.writer) m x.write_rate ∙ ap (λ n. n * m) (old.balanced x is) ∙ sym (turn (p x.reader) m x.read_rate) ∙ ap (λ n. n * x.read_rate) (sym r)

      go : (get_or labels x.writer 0 ≡ get_or labels e.writer 0) ⊎ (get_or labels x.writer 0 ≡ get_or labels e.writer 0 → ⊥)
          → (get_or labels x.writer 0 ≡ get_or labels e.reader 0) ⊎ (get_or labels x.writer 0 ≡ get_or labels e.reader 0 → ⊥) → IsBalanced q x
      go (inl first) other = by_factor f (at_first x.writer fits.writer first) (at_first x.reader fits.reader (sym ends ∙ first))
      go (inr not_first) (inl second) = by_factor g (at_second x.writer fits.writer second) (at_second x.reader fits.reader (sym ends ∙ second))
      go (inr not_first) (inr not_second) =
          ap (λ n. n * x.write_rate) (at_other x.writer fits.writer not_first not_second) ∙ old.balanced x is
          ∙ ap (λ n. n * x.read_rate) (sym (at_other x.reader fits.reader (λ h. not_first (ends ∙ h)) (λ h. not_second (ends ∙ h))))

  new_balanced : IsBalanced q e
  new_balanced =
      ap (λ n. n * e.write_rate) (at_first e.writer here.writer refl) ∙ turn (p e.writer) f e.write_rate ∙ ap (λ n. n * f) (sym g_is) ∙ cross g c f
      ∙ ap (λ n. n * g) f_is ∙ sym (turn (p e.reader) g e.read_rate) ∙ ap (λ n. n * e.read_rate) (sym (at_second e.reader here.reader refl))
    where
      cross : (a b m : ℕ) → a * b * m ≡ m * b * a
      cross a b m = grind arith

  new_solves : Solves es q
  new_solves = solves_more edges e q (record { positive = positive; balanced = kept }) new_balanced

  swap : (a b : ℕ) → a * b ≡ b * a
  swap a b = grind arith

  -- what divides all counts of the part that was made is 1
  one_part : (d : ℕ) → ((b : ℕ) → Joined es e.writer b → d ∣ q b) → d ≡ 1
  one_part d each = eq-one_of_dvd-one (dvd_of_mul-dvd-mul_left d c_some (subst (λ n. c * d ∣ n) (sym (times_one c)) (is_gcd.2 (c * d) divides_first divides_second)))
    where
      times_one : (a : ℕ) → a * 1 ≡ a
      times_one a = omega arith

      d_f : d ∣ f
      d_f = divides_factor (Joined edges e.writer) p old.positive (are.least e.writer here.writer).least d f f_some
          (λ b chain. subst (λ n. d ∣ n) (at_first b (joined_within count edges are.fit chain here.writer) (sym (along edges labels are.parts.ends chain)) ∙ swap (p b) f) (each b (joined_more edges e chain)))

      d_g : d ∣ g
      d_g = divides_factor (Joined edges e.reader) p old.positive (are.least e.reader here.reader).least d g g_some
          (λ b chain. subst (λ n. d ∣ n) (at_second b (joined_within count edges are.fit chain here.reader) (sym (along edges labels are.parts.ends chain)) ∙ swap (p b) g)
          (each b (goes e (last_edge edges e) (joined_more edges e chain))))

      divides_first : c * d ∣ p e.writer * e.write_rate
      divides_first = subst (λ n. c * d ∣ n) (swap c g ∙ g_is) (mul-dvd-mul_left d c d_g)

      divides_second : c * d ∣ p e.reader * e.read_rate
      divides_second = subst (λ n. c * d ∣ n) (swap c f ∙ f_is) (mul-dvd-mul_left d c d_f)

  new_least : (a : ℕ) → a < count → (d : ℕ) → ((b : ℕ) → Joined es a b → d ∣ q b) → d ≡ 1
  new_least a a_in d each = go (cases_eq (get_or labels a 0) (get_or labels e.writer 0)) (cases_eq (get_or labels a 0) (get_or labels e.reader 0))
    where
      go : (get_or labels a 0 ≡ get_or labels e.writer 0) ⊎ (get_or labels a 0 ≡ get_or labels e.writer 0 → ⊥)
          → (get_or labels a 0 ≡ get_or labels e.reader 0) ⊎ (get_or labels a 0 ≡ get_or labels e.reader 0 → ⊥) → d ≡ 1
      go (inl first) other = one_part d (λ b chain. each b (joined_then es (joined_more edges e (are.parts.joined a e.writer a_in here.writer first)) chain))
      go (inr not_first) (inl second) =
          one_part d (λ b chain. each b (joined_then es (joined_more edges e (are.parts.joined a e.reader a_in here.reader second)) (comes e (last_edge edges e) chain)))
      go (inr not_first) (inr not_second) = (are.least a a_in).least d
          (λ b chain. let same = along edges labels are.parts.ends chain in
          subst (λ n. d ∣ n) (at_other b (joined_within count edges are.fit chain a_in) (λ h. not_first (same ∙ h)) (λ h. not_second (same ∙ h))) (each b (joined_more edges e chain)))

  pub merged_least : (a : ℕ) → a < count → IsLeast (edges ++ e ∷ []) a q
  merged_least a a_in = record { solves = new_solves; least = new_least a a_in }

-- the least counts are small, so no edge so far is bad
pub none_bad : (count : ℕ) (edges : List Edge) (labels counts : List ℕ) → AreLeast count edges labels counts → 0 < count → IsBad edges → ⊥
none_bad count edges labels counts are some (inl unsolvable) = unsolvable (count_at counts) (are.least 0 some).solves
none_bad count edges labels counts are some (inr large) = go (cases_lt large.actor count)
  where
    go : (large.actor < count) ⊎ (count ≤ large.actor) → ⊥
    go (inl here) =
        let same = same_least count edges large.actor (count_at counts) large.counts are.fit (are.least large.actor here) large.least large.actor (stays large.actor) in
        let few = All-get_or (λ n. n ≤ most_firings) counts large.actor 1 (subst (λ n. large.actor < n) (sym are.long) here) are.few in
        let above = large.above in omega (arith, same, few, above)
    go (inr past) =
        let one = large.least.least (large.counts large.actor) (λ b chain. subst (λ n. large.counts large.actor ∣ large.counts n) (joined_alone count edges are.fit chain past) (dvd_refl (large.counts large.actor))) in
        let above = large.above in omega (arith, one, above)

no_edge : (a b : ℕ) → Joined [] a b → a ≡ b
no_edge a b (stays c) = refl
no_edge a b (goes e is rest) = absurd (let h = is.1 in omega (arith, h))
no_edge a b (comes e is rest) = absurd (let h = is.1 in omega (arith, h))

-- before any edge each actor has the count 1
pub first_counts : (count : ℕ) (labels : List ℕ) → AreAlone count labels → AreLeast count [] labels (replicate count 1)
first_counts count labels alone = record {
  fit = λ k d less. absurd (omega (arith, less));
  parts = labels_alone count labels alone;
  long = length-replicate count 1;
  few = All-replicate (λ n. n ≤ most_firings) count 1 (omega arith);
  least = λ a a_in. record {
    solves = record { positive = λ b. let one = each_one b in omega (arith, one); balanced = λ e is. absurd (let h = is.1 in omega (arith, h)) };
    least = λ d each. eq-one_of_dvd-one (subst (λ n. d ∣ n) (each_one a) (each a (stays a)));
  };
}
  where
    each_one : (b : ℕ) → count_at (replicate count 1) b ≡ 1
    each_one b = go (cases_lt b count)
      where
        go : (b < count) ⊎ (count ≤ b) → count_at (replicate count 1) b ≡ 1
        go (inl here) = get_or-replicate count b 1 1 here
        go (inr past) = get_or_past (replicate count 1) b 1 (subst (λ n. n ≤ b) (sym (length-replicate count 1)) past)
