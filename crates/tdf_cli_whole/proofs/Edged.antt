-- The samples of the edges of a cluster, edge by edge.
use Rattle.std.proofs.Common.{◌≡◌, ◌∙◌, ℕ, zero, suc, ◌+◌, ◌-◌, ◌<◌, ◌≤◌, Bool, true, false, cond, ℤ, List, [], ◌∷◌, Some, length, map, slice_get, slice_index_or, refl, ap, sym, subst, arith}
use Rattle.std.proofs.lemmas.List.Sums.{sum_by-cons}
use Rattle.std.proofs.lemmas.Option.{get_or_from_slice_get}
use Rattle.std.specs.List.{AllByRecursion, AllZip, count_by, filter, range_with_len}
use Rattle.tdf_bind.specs.Flat.{IsFlatOf}
use Rattle.tdf_bind.specs.declared.model.Flat.{Flat}
use Rattle.tdf_bind_invariants.specs.Formats.{IsSoundModel}
use Rattle.tdf_bind_tables.specs.Ranges.{edge_path}
use Rattle.tdf_cli_whole.proofs.Numbers.{all_of_format}
use Rattle.tdf_cli_whole.proofs.Zips.{zip_map}
use Rattle.tdf_dynamic_plans.specs.Attributes.{AttrsOf}
use Rattle.tdf_exec_layout.specs.Samples.{EdgesHaveFormats}
use Rattle.tdf_exec_parts.specs.States.{HoldEdges, place_of_edge}
use Rattle.tdf_lang_tree.specs.Pure.{PureTree}
use Rattle.tdf_save.specs.Members.{IsNum}
use Rattle.tdf_schedule.specs.declared.entry.Entry.{Entry}
use Rattle.tdf_streams.proofs.Api.{get_inside, none_some, some_same}
use Rattle.tdf_streams.specs.Places.{is_own}

-- ---- what passes a test in a range

module _ (test : ℕ → Bool) where
  one_more : (x : ℕ) (xs : List ℕ) → count_by test (x ∷ xs) ≡ cond {A = ℕ} (test x) 1 0 + count_by test xs
  one_more x xs = sum_by-cons (λ e. cond {A = ℕ} (test e) 1 0) x xs

  pub kept_long : (xs : List ℕ) → length (filter test xs) ≡ count_by test xs
  kept_long [] = refl
  kept_long (x ∷ xs) = go (kept_long xs) (test x) refl
    where
      go : length (filter test xs) ≡ count_by test xs → (b : Bool) → test x ≡ b → length (cond (test x) (x ∷ filter test xs) (filter test xs)) ≡ count_by test (x ∷ xs)
      go rest true on =
          let l = ap (λ b. length (cond b (x ∷ filter test xs) (filter test xs))) on in let w = ap (λ b. cond {A = ℕ} b 1 0) on in let m = one_more x xs in omega (arith, l, w, rest, m)
      go rest false off =
          let l = ap (λ b. length (cond b (x ∷ filter test xs) (filter test xs))) off in let w = ap (λ b. cond {A = ℕ} b 1 0) off in let m = one_more x xs in omega (arith, l, w, rest, m)

  -- the one at a place is in the range, and so many pass before it
  pub record IsKeptAt (a n i e : ℕ) : Type 0 where
    pub low : a ≤ e
    pub high : e < a + n
    pub passes : test e ≡ true
    pub before : count_by test (range_with_len a (e - a)) ≡ i

  -- after one number more
  before_more : (a e : ℕ) → a + 1 ≤ e → count_by test (range_with_len a (e - a)) ≡ cond {A = ℕ} (test a) 1 0 + count_by test (range_with_len (a + 1) (e - (a + 1)))
  before_more a e low =
      let z : e - a ≡ suc (e - (a + 1)) = omega (arith, low) in
      ap (λ k. count_by test (range_with_len a k)) z ∙ one_more a (range_with_len (a + 1) (e - (a + 1)))

  kept_later : (a n i j e : ℕ) → cond {A = ℕ} (test a) 1 0 + i ≡ j → IsKeptAt (a + 1) n i e → IsKeptAt a (suc n) j e
  kept_later a n i j e same k = record {
    low = (let l = k.low in omega (arith, l));
    high = (let h = k.high in omega (arith, h));
    passes = k.passes;
    before = (let m = before_more a e k.low in let b = k.before in omega (arith, m, b, same));
  }

  kept_here : (a n e : ℕ) → test a ≡ true → a ≡ e → IsKeptAt a (suc n) 0 e
  kept_here a n e on same = subst (IsKeptAt a (suc n) 0) same (record {
    low = omega arith;
    high = omega arith;
    passes = on;
    before = (let z : a - a ≡ 0 = omega arith in ap (λ k. count_by test (range_with_len a k)) z);
  })

  pub kept_at : (a n i e : ℕ) → slice_get (filter test (range_with_len a n)) i ≡ Some e → IsKeptAt a n i e
  kept_at a zero i e at = none_some e at
  kept_at a (suc n) i e at = go (λ k there. kept_at (a + 1) n k e there) (test a) refl i at
    where
      go : ((k : ℕ) → slice_get (filter test (range_with_len (a + 1) n)) k ≡ Some e → IsKeptAt (a + 1) n k e) → (b : Bool) → test a ≡ b
          → (i : ℕ) → slice_get (cond b (a ∷ filter test (range_with_len (a + 1) n)) (filter test (range_with_len (a + 1) n))) i ≡ Some e → IsKeptAt a (suc n) i e
      go rest true on zero there = kept_here a n e on (some_same a e there)
      go rest true on (suc k) there = kept_later a n k (suc k) e (let w = ap (λ b. cond {A = ℕ} b 1 0) on in omega (arith, w)) (rest k there)
      go rest false off k there = kept_later a n k k e (let w = ap (λ b. cond {A = ℕ} b 1 0) off in omega (arith, w)) (rest k there)

-- ---- edges

pub edges_fit : EdgesHaveFormats → (model : PureTree) (flat : Flat) → IsSoundModel model → IsFlatOf model flat
    → (cluster : ℕ) (table : List AttrsOf) (entries : List Entry) (place : ℕ) (edges : List (List ℤ)) → HoldEdges flat.tables cluster table entries place edges
    → AllZip (λ path nums. AllByRecursion IsNum nums) (map (edge_path flat.tables) (filter (is_own flat.tables cluster) (range_with_len 0 (length flat.tables.edges)))) edges
edges_fit formats model flat sound is cluster table entries place edges holds =
    zip_map (λ path nums. AllByRecursion IsNum nums) (edge_path flat.tables) own edges
    (kept_long (is_own flat.tables cluster) (range_with_len 0 (length flat.tables.edges)) ∙ sym holds.long) each
  where
    own : List ℕ
    own = filter (is_own flat.tables cluster) (range_with_len 0 (length flat.tables.edges))

    each : (i e : ℕ) (nums : List ℤ) → slice_get own i ≡ Some e → slice_get edges i ≡ Some nums → AllByRecursion IsNum nums
    each i e nums at there =
        let k = kept_at (is_own flat.tables cluster) 0 (length flat.tables.edges) i e at in
        let below : e < length flat.tables.edges = (let h = k.high in omega (arith, h)) in
        let row = get_inside flat.tables.edges e below in
        let format = formats model flat e row.0 sound is row.1 in
        let z : e ≡ e - 0 = omega arith in
        let here : place_of_edge flat.tables cluster e ≡ i = ap (λ n. count_by (is_own flat.tables cluster) (range_with_len 0 n)) z ∙ k.before in
        let same : slice_index_or edges (place_of_edge flat.tables cluster e) [] ≡ nums = ap (λ n. slice_index_or edges n []) here ∙ get_or_from_slice_get edges i nums [] there in
        subst (AllByRecursion IsNum) same
        (all_of_format format.format (slice_index_or edges (place_of_edge flat.tables cluster e) []) ((holds.each e below k.passes).format format.format format.format_is))
