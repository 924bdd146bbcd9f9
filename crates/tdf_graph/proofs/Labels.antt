-- The parts that edges connect, one edge after the other.
use Rattle.std.proofs.Common.{◌≡◌, ◌∙◌, ℕ, zero, suc, ◌<◌, List, [], ◌∷◌, ◌++◌, length, take, add-one, ◌+◌, refl, sym, ap, subst, arith, inl, inr, ◌⊎◌}
use Rattle.std.proofs.Math.ListN.{get_or}
use Rattle.std.proofs.lemmas.Bool.{cases_eq}
use Rattle.std.proofs.lemmas.List.Elements.{Contains-append_left, Contains-append_right, Contains-append_cases, All-contains, All-take}
use Rattle.std.proofs.Math.Seq.{take-suc}
use Rattle.std.specs.Prelude.{All, Contains}
use Rattle.tdf_graph.proofs.Renames.{renamed_gone, renamed_other}
use Rattle.tdf_graph.specs.Clusters.{Joined, stays, goes, comes}
use Rattle.tdf_graph.specs.Parts.{AreAlone, AreLabels, IsRenamed, Merges, renamed}
use Rattle.tdf_graph.specs.Ranges.{IsEdge}
use Rattle.tdf_graph.specs.declared.actors.Edge.{Edge}

module _ (edges : List Edge) where
  pub joined_then : {a b c : ℕ} → Joined edges a b → Joined edges b c → Joined edges a c
  joined_then (stays a) q = q
  joined_then (goes e is p) q = goes e is (joined_then p q)
  joined_then (comes e is p) q = comes e is (joined_then p q)

  pub joined_back : {a b : ℕ} → Joined edges a b → Joined edges b a
  joined_back (stays a) = stays a
  joined_back (goes e is p) = joined_then (joined_back p) (comes e is (stays e.writer))
  joined_back (comes e is p) = joined_then (joined_back p) (goes e is (stays e.reader))

-- what is equal at the ends of each edge is equal along a chain
pub along : (edges : List Edge) (labels : List ℕ) → ((e : Edge) → Contains edges e → get_or labels e.writer 0 ≡ get_or labels e.reader 0)
    → {a b : ℕ} → Joined edges a b → get_or labels a 0 ≡ get_or labels b 0
along edges labels ends (stays a) = refl
along edges labels ends (goes e is p) = ends e is ∙ along edges labels ends p
along edges labels ends (comes e is p) = sym (ends e is) ∙ along edges labels ends p

pub joined_by : (some all : List Edge) → ((e : Edge) → Contains some e → Contains all e) → {a b : ℕ} → Joined some a b → Joined all a b
joined_by some all among (stays a) = stays a
joined_by some all among (goes e is p) = goes e (among e is) (joined_by some all among p)
joined_by some all among (comes e is p) = comes e (among e is) (joined_by some all among p)

pub joined_more : (edges : List Edge) (e : Edge) {a b : ℕ} → Joined edges a b → Joined (edges ++ e ∷ []) a b
joined_more edges e p = joined_by edges (edges ++ e ∷ []) (λ f is. Contains-append_left edges (e ∷ []) f is) p

pub only_one : {A : Type 0} (x y : A) → Contains (x ∷ []) y → y ≡ x
only_one {A} x y found = go found.0 found.1 found.2
  where
    go : (k : ℕ) → k < 1 → get_or (x ∷ []) k y ≡ y → y ≡ x
    go zero less is = sym is
    go (suc k) less is = absurd (omega (arith, less))

pub is_one : {A : Type 0} (x : A) → Contains (x ∷ []) x
is_one x = (0, omega arith, refl)

pub last_edge : (edges : List Edge) (e : Edge) → Contains (edges ++ e ∷ []) e
last_edge edges e = Contains-append_right edges (e ∷ []) e (is_one e)

-- of the edges with one more, each is one of those before or the one more
pub edge_cases : (edges : List Edge) (e f : Edge) → Contains (edges ++ e ∷ []) f → Contains edges f ⊎ (f ≡ e)
edge_cases edges e f found = go (Contains-append_cases edges (e ∷ []) f found)
  where
    go : Contains edges f ⊎ Contains (e ∷ []) f → Contains edges f ⊎ (f ≡ e)
    go (inl before) = inl before
    go (inr here) = inr (only_one e f here)

pub labels_alone : (count : ℕ) (labels : List ℕ) → AreAlone count labels → AreLabels count [] labels
labels_alone count labels alone = record {
  long = alone.long;
  small = λ a here. subst (λ n. n < count) (sym (alone.each a here)) here;
  joined = λ a b a_in b_in same. subst (λ n. Joined [] a n) (sym (alone.each a a_in) ∙ same ∙ alone.each b b_in) (stays a);
  ends = λ e none. absurd (omega (arith, none.1));
}

pub labels_same : (count : ℕ) (edges : List Edge) (labels : List ℕ) (e : Edge) → AreLabels count edges labels
    → get_or labels e.writer 0 ≡ get_or labels e.reader 0 → AreLabels count (edges ++ e ∷ []) labels
labels_same count edges labels e are same = record {
  long = are.long;
  small = are.small;
  joined = λ a b a_in b_in alike. joined_more edges e (are.joined a b a_in b_in alike);
  ends = λ f found. go f (edge_cases edges e f found);
}
  where
    go : (f : Edge) → Contains edges f ⊎ (f ≡ e) → get_or labels f.writer 0 ≡ get_or labels f.reader 0
    go f (inl before) = are.ends f before
    go f (inr is) = subst (λ (g : Edge). get_or labels g.writer 0 ≡ get_or labels g.reader 0) (sym is) same

-- one part of two: x has the label that goes, y the one that stays, and the new edge joins them
module _ (count : ℕ) (edges : List Edge) (labels new : List ℕ) (e : Edge) (are : AreLabels count edges labels) (gone kept x y : ℕ)
    (change : IsRenamed gone kept labels new) (x_in : x < count) (y_in : y < count) (x_is : get_or labels x 0 ≡ gone) (y_is : get_or labels y 0 ≡ kept)
    (link : Joined (edges ++ e ∷ []) x y) where
  abbrev es : List Edge
  es = edges ++ e ∷ []

  at : (a : ℕ) → a < count → get_or new a 0 ≡ renamed gone kept (get_or labels a 0)
  at a here = change.each a (subst (λ n. a < n) (sym are.long) here)

  old_joined : (a b : ℕ) → a < count → b < count → get_or labels a 0 ≡ get_or labels b 0 → Joined es a b
  old_joined a b a_in b_in same = joined_more edges e (are.joined a b a_in b_in same)

  new_joined : (a b : ℕ) → a < count → b < count → get_or new a 0 ≡ get_or new b 0 → Joined es a b
  new_joined a b a_in b_in same = go (cases_eq (get_or labels a 0) gone) (cases_eq (get_or labels b 0) gone)
    where
      go : (get_or labels a 0 ≡ gone) ⊎ (get_or labels a 0 ≡ gone → ⊥) → (get_or labels b 0 ≡ gone) ⊎ (get_or labels b 0 ≡ gone → ⊥) → Joined es a b
      go (inl p) (inl q) = old_joined a b a_in b_in (p ∙ sym q)
      go (inr p) (inr q) = old_joined a b a_in b_in (sym (at a a_in ∙ renamed_other gone kept _ p) ∙ same ∙ at b b_in ∙ renamed_other gone kept _ q)
      go (inl p) (inr q) =
          let b_kept : get_or labels b 0 ≡ kept = sym (at b b_in ∙ renamed_other gone kept _ q) ∙ sym same ∙ at a a_in ∙ renamed_gone gone kept _ p in
          joined_then es (old_joined a x a_in x_in (p ∙ sym x_is)) (joined_then es link (old_joined y b y_in b_in (y_is ∙ sym b_kept)))
      go (inr p) (inl q) =
          let a_kept : get_or labels a 0 ≡ kept = sym (at a a_in ∙ renamed_other gone kept _ p) ∙ same ∙ at b b_in ∙ renamed_gone gone kept _ q in
          joined_then es (old_joined a y a_in y_in (a_kept ∙ sym y_is)) (joined_then es (joined_back es link) (old_joined x b x_in b_in (x_is ∙ sym q)))

  new_small : (a : ℕ) → a < count → get_or new a 0 < count
  new_small a here = go (cases_eq (get_or labels a 0) gone)
    where
      go : (get_or labels a 0 ≡ gone) ⊎ (get_or labels a 0 ≡ gone → ⊥) → get_or new a 0 < count
      go (inl p) = subst (λ n. n < count) (sym (at a here ∙ renamed_gone gone kept _ p ∙ sym y_is)) (are.small y y_in)
      go (inr p) = subst (λ n. n < count) (sym (at a here ∙ renamed_other gone kept _ p)) (are.small a here)

  becomes : (a : ℕ) → a < count → (get_or labels a 0 ≡ gone) ⊎ (get_or labels a 0 ≡ kept) → get_or new a 0 ≡ kept
  becomes a here (inl p) = at a here ∙ renamed_gone gone kept _ p
  becomes a here (inr p) = go (cases_eq (get_or labels a 0) gone)
    where
      go : (get_or labels a 0 ≡ gone) ⊎ (get_or labels a 0 ≡ gone → ⊥) → get_or new a 0 ≡ kept
      go (inl q) = at a here ∙ renamed_gone gone kept _ q
      go (inr q) = at a here ∙ renamed_other gone kept _ q ∙ p

  kept_ends : ((f : Edge) → Contains edges f → IsEdge count f) → (f : Edge) → Contains edges f → get_or new f.writer 0 ≡ get_or new f.reader 0
  kept_ends fit f found = at f.writer (fit f found).writer ∙ ap (renamed gone kept) (are.ends f found) ∙ sym (at f.reader (fit f found).reader)

  pub labels_one : ((f : Edge) → Contains edges f → IsEdge count f) → get_or new e.writer 0 ≡ get_or new e.reader 0 → AreLabels count es new
  labels_one fit same = record {
    long = change.long ∙ are.long;
    small = new_small;
    joined = new_joined;
    ends = λ f found. go f (edge_cases edges e f found);
  }
    where
      go : (f : Edge) → Contains edges f ⊎ (f ≡ e) → get_or new f.writer 0 ≡ get_or new f.reader 0
      go f (inl before) = kept_ends fit f before
      go f (inr is) = subst (λ (g : Edge). get_or new g.writer 0 ≡ get_or new g.reader 0) (sym is) same

pub labels_merged : (count : ℕ) (edges : List Edge) (labels new : List ℕ) (e : Edge) → AreLabels count edges labels
    → ((f : Edge) → Contains edges f → IsEdge count f) → IsEdge count e
    → Merges (get_or labels e.writer 0) (get_or labels e.reader 0) labels new → AreLabels count (edges ++ e ∷ []) new
labels_merged count edges labels new e are fit here (inl change) =
    labels_one count edges labels new e are (get_or labels e.writer 0) (get_or labels e.reader 0) e.writer e.reader change here.writer here.reader refl refl
    (goes e (last_edge edges e) (stays e.reader)) fit
    (becomes count edges labels new e are (get_or labels e.writer 0) (get_or labels e.reader 0) e.writer e.reader change here.writer here.reader refl refl
    (goes e (last_edge edges e) (stays e.reader)) e.writer here.writer (inl refl)
    ∙ sym (becomes count edges labels new e are (get_or labels e.writer 0) (get_or labels e.reader 0) e.writer e.reader change here.writer here.reader refl refl
    (goes e (last_edge edges e) (stays e.reader)) e.reader here.reader (inr refl)))
labels_merged count edges labels new e are fit here (inr change) =
    labels_one count edges labels new e are (get_or labels e.reader 0) (get_or labels e.writer 0) e.reader e.writer change here.reader here.writer refl refl
    (comes e (last_edge edges e) (stays e.writer)) fit
    (becomes count edges labels new e are (get_or labels e.reader 0) (get_or labels e.writer 0) e.reader e.writer change here.reader here.writer refl refl
    (comes e (last_edge edges e) (stays e.writer)) e.writer here.writer (inr refl)
    ∙ sym (becomes count edges labels new e are (get_or labels e.reader 0) (get_or labels e.writer 0) e.reader e.writer change here.reader here.writer refl refl
    (comes e (last_edge edges e) (stays e.writer)) e.reader here.reader (inl refl)))

-- the same as the code meets it
pub labels_next : (count : ℕ) (edges : List Edge) (labels new : List ℕ) (e : Edge) (first second : ℕ) → All (IsEdge count) edges → IsEdge count e
    → AreLabels count edges labels → first ≡ get_or labels e.writer 0 → second ≡ get_or labels e.reader 0 → Merges first second labels new
    → AreLabels count (edges ++ e ∷ []) new
labels_next count edges labels new e first second all here are first_is second_is merged =
    labels_merged count edges labels new e are (λ f found. All-contains (IsEdge count) edges f all found) here
    (subst (λ m. Merges m (get_or labels e.reader 0) labels new) first_is (subst (λ m. Merges first m labels new) second_is merged))

pub labels_step : (count i : ℕ) (edges : List Edge) (labels new : List ℕ) (d : Edge) → All (IsEdge count) edges → i < length edges
    → AreLabels count (take i edges) labels
    → ((es : List Edge) → All (IsEdge (length labels)) es → AreLabels (length labels) es labels → AreLabels (length labels) (es ++ get_or edges i d ∷ []) new)
    → AreLabels count (take (i + 1) edges) new
labels_step count i edges labels new d all here are step =
    subst (λ es. AreLabels count es new) (sym (rw (add-one, take-suc edges i d here) refl))
    (subst (λ n. AreLabels n (take i edges ++ get_or edges i d ∷ []) new) are.long
    (step (take i edges) (subst (λ n. All (IsEdge n) (take i edges)) (sym are.long) (All-take (IsEdge count) i edges all))
    (subst (λ n. AreLabels n (take i edges) labels) (sym are.long) are)))
