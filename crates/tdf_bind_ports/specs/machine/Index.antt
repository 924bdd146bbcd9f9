-- How names are found (own): a map has the place of each name, the first of those that are equal.
use Rattle.std.specs.Prelude.{◌≡◌, ℕ, List, nat_eq}
use Rattle.std.specs.Cmp.Lexicographic.{pointwise}
use Rattle.indexmap.specs.IndexMap.{IndexMap, get_by}
use Rattle.tdf_expr_symbols.specs.Names.{place_in}
use denote.Ref.{Bor}

pub record Finds {S : Type 0} (places : IndexMap (Bor (List ℕ)) ℕ S) (names : List (List ℕ))
    : Type 0 where
  pub each : (name : List ℕ)
      → get_by (λ k. pointwise nat_eq name k.now) places ≡ place_in names name
