-- One actor more.
use Rattle.std.proofs.Common.{◌≡◌, ◌∙◌, ℕ, ◌+◌, ◌<◌, List, [], ◌∷◌, ◌++◌, length, take, sym, ap, map, subst, arith}
use Rattle.std.proofs.Math.ListN.{get_or}
use Rattle.std.proofs.lemmas.List.{take_more, map-append}
use Rattle.std.proofs.lemmas.List.FromFn.{map-range_with_len_more}
use Rattle.std.specs.List.{range_with_len}
use Rattle.tdf_bind_tables.specs.Actors.{actor_place, cluster_of, module_actor}
use Rattle.tdf_bind_tables.specs.declared.actors.ActorPlace.{ActorPlace}
use Rattle.tdf_bind_tables.specs.declared.actors.ActorRow.{ActorRow}
use Rattle.tdf_bind_tables.specs.machine.ActorSteps.{RowsUpTo}

pub rows_next : (places : List ActorPlace) (numbers : List ℕ) (i : ℕ) (d : ActorPlace) (e : ℕ) (row : ActorRow) (rows new : List ActorRow) → length numbers ≡ length places → i < length places → RowsUpTo places numbers i rows
    → actor_place row ≡ get_or places i d → cluster_of row ≡ get_or numbers i e → new ≡ rows ++ row ∷ [] → RowsUpTo places numbers (i + 1) new
rows_next places numbers i d e row rows new long within h place cluster new_is = subst (RowsUpTo places numbers (i + 1)) (sym new_is) (record {
  places_are = map-append actor_place rows (row ∷ []) ∙ ap (λ l. l ++ actor_place row ∷ []) h.places_are ∙ ap (λ (p : ActorPlace). take i places ++ p ∷ []) place ∙ sym (take_more places i d within);
  clusters_are = map-append cluster_of rows (row ∷ []) ∙ ap (λ l. l ++ cluster_of row ∷ []) h.clusters_are ∙ ap (λ (n : ℕ). take i numbers ++ n ∷ []) cluster ∙ sym (take_more numbers i e (omega (arith, within, long)));
})

pub modules_next : (n m : ℕ) (places new : List ActorPlace) → places ≡ map module_actor (range_with_len 0 n) → m ≡ n → new ≡ places ++ module_actor m ∷ [] → new ≡ map module_actor (range_with_len 0 (n + 1))
modules_next n m places new h m_is new_is = new_is ∙ ap (λ l. l ++ module_actor m ∷ []) h ∙ ap (λ k. map module_actor (range_with_len 0 n) ++ module_actor k ∷ []) m_is
    ∙ sym (map-range_with_len_more module_actor 0 n n (omega arith))
