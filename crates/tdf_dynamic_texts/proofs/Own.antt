-- The texts of all things, where only things of some numbers have one.
use Rattle.std.proofs.Common.{◌≡◌, ◌∙◌, ◌⊎◌, ℕ, zero, suc, ◌+◌, ◌<◌, ◌≤◌, Bool, false, if◌then◌else◌, List, [], ◌∷◌, ◌++◌, Option, Some, None, append_assoc, append-nil, add-one, refl, sym, ap, subst, inl, inr, arith, length, map, slice_get, take}
use Rattle.std.proofs.Math.ListN.{get_or}
use Rattle.std.proofs.Math.Seq.{take-suc}
use Rattle.std.proofs.lemmas.Bool.{cases_eq, ne_eqb}
use Rattle.std.proofs.lemmas.Grind.{flat_map-append}
use Rattle.std.proofs.lemmas.List.{take_all}
use Rattle.std.proofs.lemmas.Option.{get_or_from_slice_get, slice_get-map}
use Rattle.std.specs.List.{flat_map, range_with_len}
use Rattle.std.specs.Option.{option_map}
use Rattle.std.specs.Prelude.{slice_index}
use Rattle.tdf_base.specs.declared.resolution.Resolution.{Resolution}
use Rattle.tdf_bind_connections.specs.declared.edges.EdgeRow.{EdgeRow}
use Rattle.tdf_bind_tables.specs.Actors.{cluster_of}
use Rattle.tdf_bind_tables.specs.FlatTables.{FlatTablesOf}
use Rattle.tdf_cluster_net.specs.Numbers.{AreNumbers, IsAmong, Rise}
use Rattle.tdf_cluster_plans.specs.Groups.{edge_cluster}
use Rattle.tdf_dynamic_texts.specs.Plans.{PlanRows, actor_text, edge_row_text, edge_text, is_in}
use Rattle.tdf_dynamic_texts.specs.views.Numbered.{AreActorNumbers, AreEdgeNumbers}

-- the numbers of a kind among n numbers from one on
record AreFrom (a n : ℕ) (IsMeant : ℕ → Type 0) (numbers : List ℕ) : Type 0 where
  low : (i : ℕ) → i < length numbers → a ≤ get_or numbers i 0
  high : (i : ℕ) → i < length numbers → get_or numbers i 0 < a + n
  rising : Rise numbers
  meant : (i : ℕ) → i < length numbers → IsMeant (get_or numbers i 0)
  all : (m : ℕ) → a ≤ m → m < a + n → IsMeant m → IsAmong numbers m

module _ (IsMeant : ℕ → Type 0) where
  -- the first number is not of the kind
  others : (a n : ℕ) (numbers : List ℕ) → AreFrom a (suc n) IsMeant numbers → (IsMeant a → ⊥) → AreFrom (a + 1) n IsMeant numbers
  others a n numbers are other = record {
    low = λ i less. low i less (cases_eq (get_or numbers i 0) a);
    high = λ i less. (let h = are.high i less in omega (arith, h));
    rising = are.rising;
    meant = are.meant;
    all = λ m from below is. are.all m (omega (arith, from)) (omega (arith, below)) is;
  }
    where
      low : (i : ℕ) → i < length numbers → (get_or numbers i 0 ≡ a) ⊎ (get_or numbers i 0 ≡ a → ⊥) → a + 1 ≤ get_or numbers i 0
      low i less (inl same) = absurd (other (subst IsMeant same (are.meant i less)))
      low i less (inr apart) = let l = are.low i less in omega (arith, l, apart)

  -- it is, and so it is the first of them
  first_is : (a n x : ℕ) (numbers : List ℕ) → AreFrom a (suc n) IsMeant (x ∷ numbers) → IsMeant a → x ≡ a
  first_is a n x numbers are is = let there : IsAmong (x ∷ numbers) a = are.all a (omega arith) (omega arith) is in go there.0 there.1 there.2
    where
      go : (i : ℕ) → i < length (x ∷ numbers) → get_or (x ∷ numbers) i 0 ≡ a → x ≡ a
      go zero less same = same
      go (suc i) less same = absurd (let l = are.low 0 (omega arith) in let r = are.rising 0 (suc i) (omega arith) less in omega (arith, l, r, same))

  after : (a n x : ℕ) (numbers : List ℕ) → AreFrom a (suc n) IsMeant (x ∷ numbers) → x ≡ a → AreFrom (a + 1) n IsMeant numbers
  after a n x numbers are same = record {
    low = λ i less. (let r = are.rising 0 (suc i) (omega arith) (omega (arith, less)) in omega (arith, r, same));
    high = λ i less. (let h = are.high (suc i) (omega (arith, less)) in omega (arith, h));
    rising = λ i j before less. are.rising (suc i) (suc j) (omega (arith, before)) (omega (arith, less));
    meant = λ i less. are.meant (suc i) (omega (arith, less));
    all = λ m from below is. (let there : IsAmong (x ∷ numbers) m = are.all m (omega (arith, from)) (omega (arith, below)) is in among m from there.0 there.1 there.2);
  }
    where
      among : (m : ℕ) → a + 1 ≤ m → (i : ℕ) → i < length (x ∷ numbers) → get_or (x ∷ numbers) i 0 ≡ m → IsAmong numbers m
      among m from zero less is = absurd (omega (arith, from, same, is))
      among m from (suc i) less is = (i, omega (arith, less), is)

  module _ (f : ℕ → List ℕ) (is_or_not : (m : ℕ) → (IsMeant m) ⊎ (IsMeant m → ⊥)) (none : (m : ℕ) → (IsMeant m → ⊥) → f m ≡ []) where
    one_more : (n a : ℕ) → ((list : List ℕ) → AreFrom (a + 1) n IsMeant list → flat_map f list ≡ flat_map f (range_with_len (a + 1) n)) → (list : List ℕ) → AreFrom a (suc n) IsMeant list
        → (IsMeant a) ⊎ (IsMeant a → ⊥) → flat_map f list ≡ f a ++ flat_map f (range_with_len (a + 1) n)
    one_more n a before [] has (inl is) = absurd (let there : IsAmong [] a = has.all a (omega arith) (omega arith) is in let less = there.1 in omega (arith, less))
    one_more n a before (x ∷ list) has (inl is) =
        let same : x ≡ a = first_is a n x list has is in ap (λ k. f k ++ flat_map f list) same ∙ ap (λ text. f a ++ text) (before list (after a n x list has same))
    one_more n a before list has (inr other) = before list (others a n list has other) ∙ sym (ap (λ text. text ++ flat_map f (range_with_len (a + 1) n)) (none a other))

    texts_from : (n a : ℕ) (numbers : List ℕ) → AreFrom a n IsMeant numbers → flat_map f numbers ≡ flat_map f (range_with_len a n)
    texts_from zero a [] are = refl
    texts_from zero a (x ∷ numbers) are = absurd (let l = are.low 0 (omega arith) in let h = are.high 0 (omega arith) in omega (arith, l, h))
    texts_from (suc n) a numbers are = one_more n a (λ list has. texts_from n (a + 1) list has) numbers are (is_or_not a)

    -- the texts of the numbers of a kind are those of all numbers, if others have none
    own_texts : (n : ℕ) (numbers : List ℕ) → AreNumbers n IsMeant numbers → flat_map f numbers ≡ flat_map f (range_with_len 0 n)
    own_texts n numbers are = texts_from n 0 numbers (record {
      low = λ i less. omega arith;
      high = λ i less. (let w = are.within i less in omega (arith, w));
      rising = are.rising;
      meant = are.meant;
      all = λ m from below is. are.all m (omega (arith, below)) is;
    })

no_text : (b : Bool) (text : List ℕ) → b ≡ false → (if b then text else []) ≡ []
no_text b text is = rw is refl

-- the lines of the actors of a cluster
pub actor_texts_are : (unit : Resolution) (flat : FlatTablesOf) (plan : PlanRows) (cluster : ℕ) (numbers : List ℕ) → AreActorNumbers flat cluster numbers
    → flat_map (actor_text unit flat plan cluster) numbers ≡ flat_map (actor_text unit flat plan cluster) (range_with_len 0 (length flat.actors))
actor_texts_are unit flat plan cluster numbers are =
    own_texts (λ m. slice_index (map cluster_of flat.actors) m ≡ cluster) (actor_text unit flat plan cluster) (λ m. cases_eq (slice_index (map cluster_of flat.actors) m) cluster) none (length flat.actors) numbers are
  where
    none : (m : ℕ) → (slice_index (map cluster_of flat.actors) m ≡ cluster → ⊥) → actor_text unit flat plan cluster m ≡ []
    none m other = no_text (is_in flat cluster m) _ (ne_eqb (slice_index (map cluster_of flat.actors) m) cluster other)

-- those of its edges
pub edge_texts_are : (flat : FlatTablesOf) (plan : PlanRows) (cluster : ℕ) (numbers : List ℕ) → AreEdgeNumbers flat cluster numbers
    → flat_map (edge_text flat plan cluster) numbers ≡ flat_map (edge_text flat plan cluster) (range_with_len 0 (length flat.edges))
edge_texts_are flat plan cluster numbers are =
    own_texts (λ m. slice_index (map (edge_cluster (map cluster_of flat.actors)) flat.edges) m ≡ cluster) (edge_text flat plan cluster)
    (λ m. cases_eq (slice_index (map (edge_cluster (map cluster_of flat.actors)) flat.edges) m) cluster) (λ m other. none m other (slice_get flat.edges m) refl) (length flat.edges) numbers are
  where
    none : (m : ℕ) → (slice_index (map (edge_cluster (map cluster_of flat.actors)) flat.edges) m ≡ cluster → ⊥) → (o : Option EdgeRow) → slice_get flat.edges m ≡ o → edge_row_text flat plan cluster m o ≡ []
    none m other None at = refl
    none m other (Some row) at =
        let of : EdgeRow → ℕ = edge_cluster (map cluster_of flat.actors) in
        let is : slice_index (map of flat.edges) m ≡ of row = get_or_from_slice_get (map of flat.edges) m (of row) 0 (slice_get-map of flat.edges m ∙ ap (option_map of) at) in
        no_text (is_in flat cluster row.writer) _ (ne_eqb (of row) cluster (λ same. other (is ∙ same)))

-- the text of one number more
pub own_next : (f : ℕ → List ℕ) (numbers : List ℕ) (i : ℕ) (before out new : List ℕ) → i < length numbers → out ≡ before ++ flat_map f (take i numbers) → new ≡ out ++ f (slice_index numbers i)
    → new ≡ before ++ flat_map f (take (i + 1) numbers)
own_next f numbers i before out new inside is more =
    let k : ℕ = slice_index numbers i in
    let taken : take (i + 1) numbers ≡ take i numbers ++ slice_index numbers i ∷ [] = rw (add-one, take-suc numbers i 0) refl in
    more ∙ ap (λ text. text ++ f k) is ∙ append_assoc before (flat_map f (take i numbers)) (f k)
    ∙ ap (λ text. before ++ text) (ap (λ text. flat_map f (take i numbers) ++ text) (sym (append-nil (f k)))
    ∙ sym (flat_map-append f (take i numbers) (slice_index numbers i ∷ [])) ∙ ap (flat_map f) (sym taken))

-- all of them
pub own_whole : (f : ℕ → List ℕ) (numbers : List ℕ) (i n : ℕ) (before out : List ℕ) → length numbers ≤ i → out ≡ before ++ flat_map f (take i numbers) → flat_map f numbers ≡ flat_map f (range_with_len 0 n)
    → out ≡ before ++ flat_map f (range_with_len 0 n)
own_whole f numbers i n before out past is all = is ∙ ap (λ list. before ++ flat_map f list) (take_all i numbers past) ∙ ap (λ text. before ++ text) all
