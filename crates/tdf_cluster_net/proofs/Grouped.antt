-- Things by cluster, one thing more.
use Rattle.std.proofs.Common.{◌≡◌, ◌∙◌, ℕ, ◌+◌, ◌<◌, ◌⊎◌, inl, inr, List, [], ◌∷◌, ◌++◌, length, set, replicate, sym, subst, arith}
use Rattle.std.proofs.Math.ListN.{get_or}
use Rattle.std.proofs.lemmas.Bool.{cases_eq}
use Rattle.std.proofs.lemmas.Grind.{get_or-set_at}
use Rattle.std.proofs.lemmas.List.{length-set, length-replicate, get_or-replicate, get_or-set_other}
use Rattle.tdf_cluster_net.proofs.Numbering.{numbers_none, numbers_passed, numbers_pushed}
use Rattle.tdf_cluster_net.specs.Grouped.{AreGroups}
use Rattle.tdf_cluster_net.specs.Numbers.{AreNumbers}
use Rattle.tdf_cluster_net.specs.views.Grouping.{AreGroupsUpTo}

pub groups_none : (count : ℕ) (clusters : List ℕ) (groups : List (List ℕ)) → groups ≡ replicate count [] → AreGroupsUpTo count clusters 0 groups
groups_none count clusters groups is = subst (AreGroupsUpTo count clusters 0) (sym is) (record {
  long = length-replicate count [];
  each = λ c less. subst (AreNumbers 0 (λ m. get_or clusters m 0 ≡ c)) (sym (get_or-replicate count c [] [] less)) (numbers_none (λ m. get_or clusters m 0 ≡ c));
})

pub groups_more : (count : ℕ) (clusters : List ℕ) (n : ℕ) (groups : List (List ℕ)) → get_or clusters n 0 < count → AreGroupsUpTo count clusters n groups
    → AreGroupsUpTo count clusters (n + 1) (set groups (get_or clusters n 0) (get_or groups (get_or clusters n 0) [] ++ n ∷ []))
groups_more count clusters n groups inside are = record {
  long = length-set groups own (get_or groups own [] ++ n ∷ []) ∙ are.long;
  each = λ c less. go c less (cases_eq c own);
}
  where
    own : ℕ
    own = get_or clusters n 0

    go : (c : ℕ) → c < count → (c ≡ own) ⊎ (c ≡ own → ⊥) → AreNumbers (n + 1) (λ m. get_or clusters m 0 ≡ c) (get_or (set groups own (get_or groups own [] ++ n ∷ [])) c [])
    go c less (inl same) = subst (AreNumbers (n + 1) (λ m. get_or clusters m 0 ≡ c))
        (sym (get_or-set_at groups own c (get_or groups own [] ++ n ∷ []) [] same (let l = are.long in omega (arith, inside, l))))
        (numbers_pushed (λ m. get_or clusters m 0 ≡ c) n (get_or groups own []) (sym same) (subst (λ k. AreNumbers n (λ m. get_or clusters m 0 ≡ c) (get_or groups k [])) same (are.each c less)))
    go c less (inr other) = subst (AreNumbers (n + 1) (λ m. get_or clusters m 0 ≡ c))
        (sym (get_or-set_other groups own c (get_or groups own [] ++ n ∷ []) [] other))
        (numbers_passed (λ m. get_or clusters m 0 ≡ c) n (get_or groups c []) (λ is. other (sym is)) (are.each c less))

pub groups_whole : (count : ℕ) (clusters : List ℕ) (n : ℕ) (groups : List (List ℕ)) → n ≡ length clusters → AreGroupsUpTo count clusters n groups → AreGroups count clusters groups
groups_whole count clusters n groups same are = record {
  long = are.long;
  each = λ c less. subst (λ k. AreNumbers k (λ m. get_or clusters m 0 ≡ c) (get_or groups c [])) same (are.each c less);
}
