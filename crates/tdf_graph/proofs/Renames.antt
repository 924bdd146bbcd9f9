-- The lists of actors, by label, after the actors of one list have another label.
use Rattle.std.proofs.Common.{◌≡◌, ◌≢◌, ◌∙◌, ℕ, ◌-◌, ◌<◌, ◌≤◌, List, [], ◌++◌, Some, length, set, refl, sym, ap, subst, arith, inl, inr, ◌⊎◌}
use Rattle.std.proofs.Math.ListN.{get_or}
use Rattle.std.proofs.Math.Seq.{get_or-append_right}
use Rattle.std.proofs.lemmas.Bool.{cases_eq, cases_lt, eq-eqb, ne_eqb}
use Rattle.std.proofs.lemmas.Grind.{get_or_default_zero, get_or-set_at}
use Rattle.std.proofs.lemmas.List.{length-append, length-set, get_or-set_other, get_or_append_left}
use Rattle.std.proofs.lemmas.List.Elements.{Contains-append_left, Contains-append_right}
use Rattle.std.proofs.lemmas.Option.{slice_get_read, slice_get_within, get_or_from_slice_get}
use Rattle.smallvec.specs.SmallVec.{SmallVec}
use Rattle.std.specs.Prelude.{slice_get, Contains}
use Rattle.tdf_graph.specs.Parts.{ListsPart, HasMembers, IsRenamed, renamed}
use Rattle.tdf_graph.specs.views.Rows.{IsRelabelled}

pub renamed_gone : (gone kept label : ℕ) → label ≡ gone → renamed gone kept label ≡ kept
renamed_gone gone kept label same = rw (eq-eqb label gone same) refl

pub renamed_other : (gone kept label : ℕ) → (label ≡ gone → ⊥) → renamed gone kept label ≡ label
renamed_other gone kept label other = rw (ne_eqb label gone other) refl

-- where a number of a list stands
pub place_in : (list : List ℕ) (a : ℕ) → Contains list a → (i : ℕ) × (i < length list) × (get_or list i 0 ≡ a)
place_in list a found = (found.0, found.1, sym (get_or_default_zero list found.0 a found.1) ∙ found.2)

pub set_found : {A : Type 0} (xs : List A) (i l : ℕ) (y x : A) → i < length xs → slice_get (set xs i y) l ≡ Some x
    → ((l ≡ i) × (x ≡ y)) ⊎ ((l ≢ i) × (slice_get xs l ≡ Some x))
set_found {A} xs i l y x within found = go (cases_eq l i)
  where
    go : (l ≡ i) ⊎ (l ≡ i → ⊥) → ((l ≡ i) × (x ≡ y)) ⊎ ((l ≢ i) × (slice_get xs l ≡ Some x))
    go (inl same) = inl (same, sym (get_or_from_slice_get (set xs i y) l x y found) ∙ get_or-set_at xs i l y y same within)
    go (inr other) =
        let long = slice_get_within (set xs i y) l x found in
        let here : l < length xs = subst (λ n. l < n) (length-set xs i y) long in
        inr (other, slice_get_read xs (length xs) l x refl here (sym (sym (get_or-set_other xs i l y x other) ∙ get_or_from_slice_get (set xs i y) l x x found)))

module _ (gone kept : ℕ) (labels new moved : List ℕ) (apart : gone ≢ kept) (change : IsRelabelled kept moved labels new) (part : ListsPart labels gone moved) where
  at : (a : ℕ) → a < length labels → get_or new a 0 ≡ renamed gone kept (get_or labels a 0)
  at a within = go (cases_eq (get_or labels a 0) gone)
    where
      go : (get_or labels a 0 ≡ gone) ⊎ (get_or labels a 0 ≡ gone → ⊥) → get_or new a 0 ≡ renamed gone kept (get_or labels a 0)
      go (inl same) =
          let p = place_in moved a (part.all a within same) in
          sym (ap (λ n. get_or new n 0) p.2) ∙ change.there p.0 p.1 ∙ sym (renamed_gone gone kept _ same)
      go (inr other) =
          change.rest a (λ i here e. other (sym (ap (λ n. get_or labels n 0) e) ∙ part.only i here))
          ∙ sym (renamed_other gone kept _ other)

  pub is_renamed : IsRenamed gone kept labels new
  is_renamed = record { long = change.long; each = at }

  long : (a : ℕ) → a < length new → a < length labels
  long a within = subst (λ n. a < n) change.long within

  longer : (a : ℕ) → a < length labels → a < length new
  longer a within = subst (λ n. a < n) (sym change.long) within

  -- what has the label in the end had it or the other one
  was : (a : ℕ) → a < length labels → get_or new a 0 ≡ kept → (get_or labels a 0 ≡ gone) ⊎ (get_or labels a 0 ≡ kept)
  was a within is = go (cases_eq (get_or labels a 0) gone)
    where
      go : (get_or labels a 0 ≡ gone) ⊎ (get_or labels a 0 ≡ gone → ⊥) → (get_or labels a 0 ≡ gone) ⊎ (get_or labels a 0 ≡ kept)
      go (inl same) = inl same
      go (inr other) = inr (sym (at a within ∙ renamed_other gone kept _ other) ∙ is)

  none_gone : ListsPart new gone []
  none_gone = record {
    within = λ i here. absurd (omega (arith, here));
    only = λ i here. absurd (omega (arith, here));
    all = λ a here is. absurd (go a (long a here) is (cases_eq (get_or labels a 0) gone));
    once = λ i j less here. absurd (omega (arith, here));
  }
    where
      go : (a : ℕ) → a < length labels → get_or new a 0 ≡ gone → (get_or labels a 0 ≡ gone) ⊎ (get_or labels a 0 ≡ gone → ⊥) → ⊥
      go a within is (inl same) = apart (sym is ∙ at a within ∙ renamed_gone gone kept _ same)
      go a within is (inr other) = other (sym (at a within ∙ renamed_other gone kept _ other) ∙ is)

  other_list : (l : ℕ) (list : List ℕ) → l ≢ gone → l ≢ kept → ListsPart labels l list → ListsPart new l list
  other_list l list not_gone not_kept p = record {
    within = λ i here. longer _ (p.within i here);
    only = λ i here. at _ (p.within i here) ∙ ap (renamed gone kept) (p.only i here) ∙ renamed_other gone kept l not_gone;
    all = λ a here is. p.all a (long a here) (go a (long a here) is (cases_eq (get_or labels a 0) gone));
    once = p.once;
  }
    where
      go : (a : ℕ) → a < length labels → get_or new a 0 ≡ l → (get_or labels a 0 ≡ gone) ⊎ (get_or labels a 0 ≡ gone → ⊥) → get_or labels a 0 ≡ l
      go a within is (inl same) = absurd (not_kept (sym is ∙ at a within ∙ renamed_gone gone kept _ same))
      go a within is (inr other) = sym (at a within ∙ renamed_other gone kept _ other) ∙ is

  module _ (list : List ℕ) (p : ListsPart labels kept list) where
    front : (i : ℕ) → i < length list → get_or (list ++ moved) i 0 ≡ get_or list i 0
    front i here = get_or_append_left list moved 0 i here

    back : (i : ℕ) → length list ≤ i → get_or (list ++ moved) i 0 ≡ get_or moved (i - length list) 0
    back i here = get_or-append_right list moved i 0 here

    few : (i : ℕ) → i < length (list ++ moved) → length list ≤ i → i - length list < length moved
    few i here low = let n = length-append list moved in omega (arith, here, low, n)

    both_within : (i : ℕ) → i < length (list ++ moved) → get_or (list ++ moved) i 0 < length labels
    both_within i here = go (cases_lt i (length list))
      where
        go : (i < length list) ⊎ (length list ≤ i) → get_or (list ++ moved) i 0 < length labels
        go (inl low) = subst (λ n. n < length labels) (sym (front i low)) (p.within i low)
        go (inr high) = subst (λ n. n < length labels) (sym (back i high)) (part.within (i - length list) (few i here high))

    both_only : (i : ℕ) → i < length (list ++ moved) → get_or new (get_or (list ++ moved) i 0) 0 ≡ kept
    both_only i here = go (cases_lt i (length list))
      where
        go : (i < length list) ⊎ (length list ≤ i) → get_or new (get_or (list ++ moved) i 0) 0 ≡ kept
        go (inl low) = ap (λ n. get_or new n 0) (front i low) ∙ at _ (p.within i low) ∙ ap (renamed gone kept) (p.only i low) ∙ renamed_other gone kept kept (λ e. apart (sym e))
        go (inr high) =
            let low = few i here high in
            ap (λ n. get_or new n 0) (back i high) ∙ at _ (part.within _ low) ∙ renamed_gone gone kept _ (part.only _ low)

    both_once : (i j : ℕ) → i < j → j < length (list ++ moved) → get_or (list ++ moved) i 0 ≢ get_or (list ++ moved) j 0
    both_once i j less here same = go (cases_lt i (length list)) (cases_lt j (length list))
      where
        go : (i < length list) ⊎ (length list ≤ i) → (j < length list) ⊎ (length list ≤ j) → ⊥
        go (inl low) (inl low2) = p.once i j less low2 (sym (front i low) ∙ same ∙ front j low2)
        go (inl low) (inr high) =
            let n = few j here high in
            let e : get_or list i 0 ≡ get_or moved (j - length list) 0 = sym (front i low) ∙ same ∙ back j high in
            apart (sym (sym (p.only i low) ∙ ap (λ n. get_or labels n 0) e ∙ part.only _ n))
        go (inr high) (inl low) = omega (arith, high, low, less)
        go (inr high) (inr high2) =
            part.once (i - length list) (j - length list) (omega (arith, less, high, high2)) (few j here high2)
            (sym (back i high) ∙ same ∙ back j high2)

    both_all : (a : ℕ) → a < length labels → get_or new a 0 ≡ kept → Contains (list ++ moved) a
    both_all a within is = go (was a within is)
      where
        go : (get_or labels a 0 ≡ gone) ⊎ (get_or labels a 0 ≡ kept) → Contains (list ++ moved) a
        go (inl same) = Contains-append_right list moved a (part.all a within same)
        go (inr same) = Contains-append_left list moved a (p.all a within same)

    both_list : ListsPart new kept (list ++ moved)
    both_list = record {
      within = λ i here. longer _ (both_within i here);
      only = both_only;
      all = λ a here is. both_all a (long a here) is;
      once = both_once;
    }

-- the whole step; `from` and `into` are the lists of the two labels, `empty` and `all` what they are afterwards
module _ (gone kept : ℕ) (labels new : List ℕ) (members : List (SmallVec ℕ)) (from into empty all : SmallVec ℕ) (moved : List ℕ)
    (apart : gone ≢ kept) (gone_in : gone < length labels) (kept_in : kept < length labels) (has : HasMembers labels members)
    (from_is : from ≡ get_or members gone from) (into_is : into ≡ get_or (set members gone empty) kept into)
    (none : empty.items ≡ []) (moved_is : moved ≡ from.items) (all_is : all.items ≡ into.items ++ moved) where
  gone_row : gone < length members
  gone_row = subst (λ n. gone < n) (sym has.rows) gone_in

  kept_row : kept < length members
  kept_row = subst (λ n. kept < n) (sym has.rows) kept_in

  moved_part : ListsPart labels gone moved
  moved_part = subst (ListsPart labels gone) (sym moved_is) (has.lists gone from (slice_get_read members (length members) gone from refl gone_row from_is))

  pub moved_within : (i : ℕ) → i < length moved → get_or moved i 0 < length labels
  moved_within = moved_part.within

  into_part : ListsPart labels kept into.items
  into_part = has.lists kept into (slice_get_read members (length members) kept into refl kept_row (into_is ∙ get_or-set_other members gone kept empty into (λ e. apart (sym e))))

  pub moved_renames : IsRelabelled kept moved labels new → IsRenamed gone kept labels new
  moved_renames change = is_renamed gone kept labels new moved apart change moved_part

  lists : IsRelabelled kept moved labels new → (l : ℕ) (row : SmallVec ℕ) → slice_get (set (set members gone empty) kept all) l ≡ Some row → ListsPart new l row.items
  lists change l row found = outer (set_found (set members gone empty) kept l all row (subst (λ n. kept < n) (sym (length-set members gone empty)) kept_row) found)
    where
      inner : l ≢ kept → ((l ≡ gone) × (row ≡ empty)) ⊎ ((l ≢ gone) × (slice_get members l ≡ Some row)) → ListsPart new l row.items
      inner not_kept (inl p) =
          subst (λ n. ListsPart new n row.items) (sym p.0)
          (subst (ListsPart new gone) (sym (ap (λ (r : SmallVec ℕ). r.items) p.1 ∙ none)) (none_gone gone kept labels new moved apart change moved_part))
      inner not_kept (inr p) = other_list gone kept labels new moved apart change moved_part l row.items p.0 not_kept (has.lists l row p.1)

      outer : ((l ≡ kept) × (row ≡ all)) ⊎ ((l ≢ kept) × (slice_get (set members gone empty) l ≡ Some row)) → ListsPart new l row.items
      outer (inl p) =
          subst (λ n. ListsPart new n row.items) (sym p.0)
          (subst (ListsPart new kept) (sym (ap (λ (r : SmallVec ℕ). r.items) p.1 ∙ all_is)) (both_list gone kept labels new moved apart change moved_part into.items into_part))
      outer (inr p) = inner p.0 (set_found members gone l empty row gone_row p.1)

  small : IsRelabelled kept moved labels new → (a : ℕ) → a < length new → get_or new a 0 < length new
  small change a within = subst (λ n. get_or new a 0 < n) (sym change.long) (go (cases_eq (get_or labels a 0) gone))
    where
      here : a < length labels
      here = subst (λ n. a < n) change.long within

      is : get_or new a 0 ≡ renamed gone kept (get_or labels a 0)
      is = (moved_renames change).each a here

      go : (get_or labels a 0 ≡ gone) ⊎ (get_or labels a 0 ≡ gone → ⊥) → get_or new a 0 < length labels
      go (inl same) = subst (λ n. n < length labels) (sym (is ∙ renamed_gone gone kept _ same)) kept_in
      go (inr other) = subst (λ n. n < length labels) (sym (is ∙ renamed_other gone kept _ other)) (has.small a here)

  pub moved_members : IsRelabelled kept moved labels new → HasMembers new (set (set members gone empty) kept all)
  moved_members change = record {
    rows = length-set (set members gone empty) kept all ∙ length-set members gone empty ∙ has.rows ∙ sym change.long;
    small = small change;
    lists = lists change;
  }
