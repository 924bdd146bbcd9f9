-- Paths by their names: no name holds a point, so a path says where it leads.
use Rattle.std.proofs.Common.{◌≡◌, ◌≢◌, ◌∙◌, ℕ, List, [], ◌∷◌, ◌++◌, Option, Some, None, sym, ap, refl}
use Rattle.std.proofs.lemmas.List.{append_assoc, append_cancel_left, append-nil}
use Rattle.std.specs.List.{AllByRecursion}
use Rattle.tdf_bind.proofs.Lists.{head_same, none_there, tail_same}
use Rattle.tdf_bind_hierarchy.specs.Paths.{path_in}

-- a byte that does not stand in a name
abbrev pub HasNo : ℕ → List ℕ → Type 0
HasNo byte name = AllByRecursion (λ c. c ≢ byte) name

-- what stands before the first such byte
pub same_front : (byte : ℕ) (a b : List ℕ) (x y : List ℕ) → HasNo byte a → HasNo byte b → a ++ byte ∷ x ≡ b ++ byte ∷ y → a ≡ b
same_front byte [] [] x y p q e = refl
same_front byte [] (c ∷ b) x y p q e = absurd (q.0 (sym (head_same byte c x (b ++ byte ∷ y) e)))
same_front byte (c ∷ a) [] x y p q e = absurd (p.0 (head_same c byte (a ++ byte ∷ x) y e))
same_front byte (c ∷ a) (d ∷ b) x y p q e =
    ap (λ h. h ∷ a) (head_same c d (a ++ byte ∷ x) (b ++ byte ∷ y) e)
    ∙ ap (λ l. d ∷ l) (same_front byte a b x y p.1 q.1 (tail_same c d (a ++ byte ∷ x) (b ++ byte ∷ y) e))

-- and what stands after it
pub same_back : (byte : ℕ) (a b : List ℕ) (x y : List ℕ) → a ≡ b → a ++ byte ∷ x ≡ b ++ byte ∷ y → x ≡ y
same_back byte a b x y same e = tail_same byte byte x y (append_cancel_left b (byte ∷ x) (byte ∷ y) (sym (ap (λ l. l ++ byte ∷ x) same) ∙ e))

-- one path has one name in what `front` is the path of
pub same_name : (front : Option (List ℕ)) (a b : List ℕ) → path_in front a ≡ path_in front b → a ≡ b
same_name None a b e = e
same_name (Some front) a b e = same_back 46 front front a b refl e

-- a path of what a name stands for, or of what is inside it
abbrev pub IsUnder : Option (List ℕ) → List ℕ → List ℕ → Type 0
IsUnder front name path = (rest : List ℕ) × (path ++ 46 ∷ [] ≡ path_in front (name ++ 46 ∷ rest))

pub ended_in : (front : Option (List ℕ)) (name : List ℕ) → path_in front name ++ 46 ∷ [] ≡ path_in front (name ++ 46 ∷ [])
ended_in None name = refl
ended_in (Some front) name = append_assoc front (46 ∷ name) (46 ∷ [])

pub inside_name : (front : Option (List ℕ)) (name rest : List ℕ) → path_in (Some (path_in front name)) rest ≡ path_in front (name ++ 46 ∷ rest)
inside_name None name rest = refl
inside_name (Some front) name rest = append_assoc front (46 ∷ name) (46 ∷ rest)

pub inside_under : (front : Option (List ℕ)) (name path rest : List ℕ) → path ≡ path_in (Some (path_in front name)) rest → IsUnder front name path
inside_under front name path rest is = (
  rest ++ 46 ∷ [],
  ap (λ p. p ++ 46 ∷ []) (is ∙ inside_name front name rest) ∙ ended_in front (name ++ 46 ∷ rest) ∙ ap (path_in front) (append_assoc name (46 ∷ rest) (46 ∷ [])),
)

-- nothing inside an instance has the path of the instance
pub not_inside : (front rest : List ℕ) → front ≢ path_in (Some front) rest
not_inside front rest same = none_there 46 rest (append_cancel_left front [] (46 ∷ rest) (append-nil front ∙ same))

-- a path under another name than this one
abbrev pub IsAway : Option (List ℕ) → List ℕ → List ℕ → Type 0
IsAway front name path = (other : List ℕ) × IsUnder front other path × HasNo 46 other × (name ≢ other)

pub away_differs : (front : Option (List ℕ)) (name : List ℕ) → HasNo 46 name → (one path : List ℕ) → IsUnder front name one → IsAway front name path → one ≢ path
away_differs front name none one path here away same =
    away.3 (same_front 46 name away.0 here.0 away.1.0 none away.2
    (same_name front (name ++ 46 ∷ here.0) (away.0 ++ 46 ∷ away.1.0) (sym here.1 ∙ ap (λ p. p ++ 46 ∷ []) same ∙ away.1.1)))
