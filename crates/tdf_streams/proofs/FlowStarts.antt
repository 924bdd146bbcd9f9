-- A cluster at its start stands.
use Rattle.std.proofs.Common.{◌≡◌, ℕ, ◌+◌, ◌*◌, ◌<◌, Bool, true, false, ◌&&◌, if◌then◌else◌, nat_eq, Some, List, [], ◌∷◌, ◌++◌, length, slice_get, slice_index, slice_index_or, refl, ap, sym, ◌∙◌, subst, arith}
use Rattle.std.proofs.lemmas.Bool.{lt-ltb}
use Rattle.std.proofs.lemmas.Option.{slice_get_within}
use Rattle.tdf_streams.specs.Net.{Net, Past, Period}
use Rattle.tdf_streams.specs.Streams.{known, place, spot, state_before}
use Rattle.tdf_streams.specs.Stands.{Holds, IsStart, Play, Stands, run_of}

module _ {S V I : Type 0} (net : Net S V I) where
  initial_place : (periods : List (Period I)) (past : Past S V) (e j : ℕ) → j < net.delay e → place net periods past e j ≡ Some (net.initial e j)
  unfolding place
  initial_place periods past e j early = rw (lt-ltb j (net.delay e) early) refl

  start_state : (past : Past S V) (p : Period I) (m k n : ℕ) → n ≡ 0 → state_before net past m (spot [] p k) n ≡ Some (net.start m)
  unfolding state_before
  start_state past p m k n none = rw none (ap Some (entered (nat_eq k 0)))
    where
      entered : (b : Bool) → (if b && false then net.reinitialize m p (net.change m [] (net.start m)) else net.start m) ≡ net.start m
      entered true = refl
      entered false = refl

  start_list : (periods : List (Period I)) (past : Past S V) (e r w : ℕ) (xs : List V) → r ≡ 0 → w ≡ 0 → length xs ≡ net.delay e
      → ((j : ℕ) (x : V) → slice_get xs j ≡ Some x → x ≡ net.initial e j) → Holds net periods past e r w xs
  start_list periods past e r w xs no_r no_w long items = record {
    count = omega (arith, long, no_r, no_w);
    items = λ j x at. (let z : j ≡ r + j = omega (arith, no_r) in let i = slice_get_within xs j x at in
        subst (λ k. place net periods past e k ≡ Some x) z (initial_place periods past e j (omega (arith, i, long)) ∙ ap Some (sym (items j x at))));
  }

  pub start_stands : (p : Period I) (reads : ℕ → List V) (y : Play S V) → IsStart net y → Stands net [] p reads 0 y
  start_stands p reads y start = record {
    has_values = λ m n below. absurd (let z = start.turns m in omega (arith, below, z));
    states = λ m x at plain. start_state (known net (run_of [] p reads) 0) p m _ _ (let t = start.turns m in omega (arith, t)) ∙ ap Some (sym (start.states m x at plain));
    lists = λ e inside. start_list ([] ++ p ∷ []) (known net (run_of [] p reads) 0) e _ _ (slice_index_or y.lists e []) (none_of (net.reader e) (slice_index p.reads e)) (none_of (net.writer e) (slice_index p.writes e))
        (start.long e inside) (λ j x at. start.items e j x inside at);
  }
    where
      none_of : (m c : ℕ) → 0 + slice_index y.turns m * c ≡ 0
      none_of m c = rw (start.turns m) (omega arith)
