-- The samplers of one cluster more get the values of their signals.
use Rattle.std.proofs.Common.{◌≡◌, ◌≢◌, ◌⊎◌, ◌∙◌, ℕ, ◌+◌, ◌-◌, ◌<◌, true, false, List, Some, length, length-set, set, slice_get, slice_index_or, inl, inr, sym, ap, subst, arith}
use Rattle.std.proofs.lemmas.Option.{get_or_from_slice_get, slice_get-get_or, slice_get_within}
use Rattle.tdf_convert.specs.Links.{AreLinks, HaveSignals}
use Rattle.tdf_convert.specs.Sampled.{AreSampled}
use Rattle.tdf_convert.specs.declared.links.Links.{Links}
use Rattle.tdf_sim_instants.specs.Sampling.{CanSample, HaveSampled, SamplingAt}
use Rattle.tdf_sim_refinement.specs.Below.{ClusterOf, is_next_due}
use Rattle.tdf_fixed.specs.declared.raw.Raw.{Raw}
use Rattle.tdf_streams.proofs.Api.{some_same}
use Rattle.tdf_sim_refinement.proofs.Api.{get_set_other, same_or_not, set_is}

read_at : {A : Type 0} (xs : List A) (n : ℕ) (x : A) → n < length xs → x ≡ slice_index_or xs n x → slice_get xs n ≡ Some x
read_at xs n x inside is = slice_get-get_or xs n x inside ∙ ap Some (sym is)

module _ (at : SamplingAt) (first : List (List Raw)) (can : CanSample at first) (n : ℕ) (now : List (List Raw)) (before : HaveSampled at n first now) (inside : n < length at.clusters)
    (c : ClusterOf) (l : Links) (i : List Raw) (c_is : c ≡ slice_index_or at.clusters n c) (l_is : l ≡ slice_index_or at.links n l) (i_is : i ≡ slice_index_or now n i) where
  c_at : slice_get at.clusters n ≡ Some c
  c_at = read_at at.clusters n c inside c_is

  l_at : slice_get at.links n ≡ Some l
  l_at = read_at at.links n l (let k = can.links in omega (arith, inside, k)) l_is

  i_at : slice_get now n ≡ Some i
  i_at = read_at now n i (let k = can.inputs in let s = before.same in omega (arith, inside, k, s)) i_is

  old_at : slice_get first n ≡ Some i
  old_at = sym (before.rest n (omega arith)) ∙ i_at

  pub links_now : AreLinks l.list.items (length i)
  links_now = can.placed n l i l_at old_at

  pub signals_now : HaveSignals l.list.items (length at.values)
  signals_now = can.signals n l l_at

  module _ (j : List Raw) (sampled : is_next_due c (at.time - slice_index_or at.since n 0) ≡ true → AreSampled c.entries (at.time - slice_index_or at.since n 0) l.list.items at.values i j)
      (kept : is_next_due c (at.time - slice_index_or at.since n 0) ≡ false → j ≡ i) (long : length j ≡ length i) where
    abbrev Due : (s : ℕ) → ClusterOf → Links → (x y : List Raw) → Type 0
    Due s d k x y = is_next_due d (at.time - s) ≡ true → AreSampled d.entries (at.time - s) k.list.items at.values x y

    due_here : (s : ℕ) (d : ClusterOf) (k : Links) (x y : List Raw) → s ≡ slice_index_or at.since n 0 → d ≡ c → k ≡ l → x ≡ i → y ≡ j → Due s d k x y
    due_here s d k x y s_is d_is k_is x_is y_is =
        subst (λ q. Due q d k x y) (sym s_is) (subst (λ q. Due (slice_index_or at.since n 0) q k x y) (sym d_is) (subst (λ q. Due (slice_index_or at.since n 0) c q x y) (sym k_is)
        (subst (λ q. Due (slice_index_or at.since n 0) c l q y) (sym x_is) (subst (λ q. Due (slice_index_or at.since n 0) c l i q) (sym y_is) sampled))))

    long_at : (m : ℕ) (x y : List Raw) → slice_get first m ≡ Some x → slice_get (set now n j) m ≡ Some y → (m ≡ n) ⊎ (m ≢ n) → length y ≡ length x
    long_at m x y x_at y_at (inl same) =
        ap length (sym (set_is now n m j y (slice_get_within now n i i_at) same y_at)) ∙ long
        ∙ ap length (some_same i x (sym old_at ∙ ap (slice_get first) (sym same) ∙ x_at))
    long_at m x y x_at y_at (inr apart) = before.long m x y x_at (sym (get_set_other now n m j apart) ∙ y_at)

    due_at : (m s : ℕ) (d : ClusterOf) (k : Links) (x y : List Raw) → m < n + 1 → slice_get at.since m ≡ Some s → slice_get at.clusters m ≡ Some d → slice_get at.links m ≡ Some k
        → slice_get first m ≡ Some x → slice_get (set now n j) m ≡ Some y → (m ≡ n) ⊎ (m ≢ n) → Due s d k x y
    due_at m s d k x y below s_at d_at k_at x_at y_at (inl same) = due_here s d k x y
        (sym (get_or_from_slice_get at.since n s 0 (ap (slice_get at.since) (sym same) ∙ s_at)))
        (some_same d c (sym d_at ∙ ap (slice_get at.clusters) same ∙ c_at))
        (some_same k l (sym k_at ∙ ap (slice_get at.links) same ∙ l_at))
        (some_same x i (sym x_at ∙ ap (slice_get first) same ∙ old_at))
        (sym (set_is now n m j y (slice_get_within now n i i_at) same y_at))
    due_at m s d k x y below s_at d_at k_at x_at y_at (inr apart) =
        before.due m s d k x y (omega (arith, below, apart)) s_at d_at k_at x_at (sym (get_set_other now n m j apart) ∙ y_at)

    abbrev Idle : (s : ℕ) → ClusterOf → (x y : List Raw) → Type 0
    Idle s d x y = is_next_due d (at.time - s) ≡ false → y ≡ x

    idle_here : (s : ℕ) (d : ClusterOf) (x y : List Raw) → s ≡ slice_index_or at.since n 0 → d ≡ c → x ≡ i → y ≡ j → Idle s d x y
    idle_here s d x y s_is d_is x_is y_is =
        subst (λ q. Idle q d x y) (sym s_is) (subst (λ q. Idle (slice_index_or at.since n 0) q x y) (sym d_is)
        (subst (λ q. Idle (slice_index_or at.since n 0) c q y) (sym x_is) (subst (λ q. Idle (slice_index_or at.since n 0) c i q) (sym y_is) kept)))

    idle_at : (m s : ℕ) (d : ClusterOf) (x y : List Raw) → m < n + 1 → slice_get at.since m ≡ Some s → slice_get at.clusters m ≡ Some d → slice_get first m ≡ Some x → slice_get (set now n j) m ≡ Some y
        → (m ≡ n) ⊎ (m ≢ n) → Idle s d x y
    idle_at m s d x y below s_at d_at x_at y_at (inl same) = idle_here s d x y
        (sym (get_or_from_slice_get at.since n s 0 (ap (slice_get at.since) (sym same) ∙ s_at)))
        (some_same d c (sym d_at ∙ ap (slice_get at.clusters) same ∙ c_at))
        (some_same x i (sym x_at ∙ ap (slice_get first) same ∙ old_at))
        (sym (set_is now n m j y (slice_get_within now n i i_at) same y_at))
    idle_at m s d x y below s_at d_at x_at y_at (inr apart) =
        before.idle m s d x y (omega (arith, below, apart)) s_at d_at x_at (sym (get_set_other now n m j apart) ∙ y_at)

    pub sampled_more : HaveSampled at (n + 1) first (set now n j)
    sampled_more = record {
      same = length-set now n j ∙ before.same;
      long = λ m x y x_at y_at. long_at m x y x_at y_at (same_or_not m n);
      due = λ m s d k x y below s_at d_at k_at x_at y_at. due_at m s d k x y below s_at d_at k_at x_at y_at (same_or_not m n);
      idle = λ m s d x y below s_at d_at x_at y_at. idle_at m s d x y below s_at d_at x_at y_at (same_or_not m n);
      rest = λ m low. get_set_other now n m j (λ e. omega (arith, low, e)) ∙ before.rest m (omega (arith, low));
    }
