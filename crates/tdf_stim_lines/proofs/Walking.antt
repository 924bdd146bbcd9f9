-- One part more of a list that is walked over.
use Rattle.std.proofs.Common.{◌≡◌, ◌∙◌, ℕ, ◌+◌, ◌<◌, ◌≤◌, List, [], ◌∷◌, ◌++◌, map, length, take, get_or, set, min, refl, sym, ap, subst, arith}
use Rattle.std.proofs.lemmas.Grind.{take_at_read}
use Rattle.std.proofs.lemmas.List.{get_or-set_other, length-append, length-set, length_push, map-append, take_all, take_more_set}
use Rattle.std.specs.List.{flat_map}
use Rattle.tdf_lang_tree.specs.Forms.{Form}
use Rattle.tdf_stim_lines.specs.Numbered.{lines_at, parts_at}
use Rattle.tdf_stim_lines.specs.machine.Walk.{Walks, last_number, one}

-- lists of parts are numbered from their front to their end
pub record IsStepwise {X P L : Type 0} (pure : X → P) (view : List X → L) (size : L → ℕ) (put : ℕ → L → L) (one_size : P → ℕ) (one_put : ℕ → P → P) : Type 0 where
  pub size_none : size (view []) ≡ 0
  pub put_none : (at : ℕ) → view [] ≡ put at (view [])
  pub size_push : (xs : List X) (x : X) → size (view (xs ++ x ∷ [])) ≡ size (view xs) + one_size (pure x)
  pub put_push : (at : ℕ) (xs ys : List X) (x y : X) → view ys ≡ put at (view xs) → pure y ≡ one_put (at + size (view xs)) (pure x)
      → view (ys ++ y ∷ []) ≡ put at (view (xs ++ x ∷ []))

walk_more : {X P L : Type 0} {pure : X → P} {view : List X → L} {size : L → ℕ} {put : ℕ → L → L} {one_size : P → ℕ} {one_put : ℕ → P → P}
    → IsStepwise pure view size put one_size one_put → (at next after : ℕ) (xs ys : List X) (x y : X)
    → Walks size put at next (view xs) (view ys) → Walks one_size one_put next after (pure x) (pure y)
    → Walks size put at after (view (xs ++ x ∷ [])) (view (ys ++ y ∷ []))
walk_more {pure = pure} {one_put = one_put} step at next after xs ys x y done more = record {
  later = omega (arith, done.later, more.later);
  next_is = λ few.
      let before : next < last_number = omega (arith, few, more.later) in
      omega (arith, more.next_is few, done.next_is before, step.size_push xs x);
  new_is = λ few.
      let before : next < last_number = omega (arith, few, more.later) in
      step.put_push at xs ys x y (done.new_is before) (more.new_is few ∙ ap (λ k. one_put k (pure x)) (done.next_is before));
}

pub walk_none : {X P L : Type 0} {pure : X → P} {view : List X → L} {size : L → ℕ} {put : ℕ → L → L} {one_size : P → ℕ} {one_put : ℕ → P → P}
    → IsStepwise pure view size put one_size one_put → (at : ℕ) → Walks size put at at (view []) (view [])
walk_none step at = record {
  later = omega arith;
  next_is = λ few. omega (arith, step.size_none);
  new_is = λ few. step.put_none at;
}

-- the parts from i on are as they were
abbrev pub IsAhead : {X : Type 0} → (i : ℕ) → (old now : List X) → Type 0
IsAhead {X} i old now = (length now ≡ length old) × ((k : ℕ) (d : X) → i ≤ k → get_or now k d ≡ get_or old k d)

pub ahead_more : {X : Type 0} (i : ℕ) (old now : List X) (t : X) → IsAhead i old now → IsAhead (i + 1) old (set now i t)
ahead_more i old now t h = (length-set now i t ∙ h.0, λ k d later. get_or-set_other now i k t d (λ e. omega (arith, e, later)) ∙ h.1 k d (omega arith))

pub ahead_none : {X : Type 0} (list : List X) → IsAhead 0 list list
ahead_none list = (refl, λ k d later. refl)

-- all parts
pub loop_all : {X L : Type 0} {size : L → ℕ} {put : ℕ → L → L} (view : List X → L) (at next : ℕ) (old now : List X) (i : ℕ) → length now ≡ length old → length old ≤ i
    → Walks size put at next (view (take i old)) (view (take i now)) → Walks size put at next (view old) (view now)
loop_all {size = size} {put = put} view at next old now i same past done =
    subst (λ xs. Walks size put at next (view xs) (view now)) (take_all i old past)
    (subst (λ ys. Walks size put at next (view (take i old)) (view ys)) (take_all i now (omega (arith, same, past))) done)

-- one part more in place
pub loop_more : {X P L : Type 0} {pure : X → P} {view : List X → L} {size : L → ℕ} {put : ℕ → L → L} {one_size : P → ℕ} {one_put : ℕ → P → P}
    → IsStepwise pure view size put one_size one_put → (at next after : ℕ) (old now : List X) (i : ℕ) (s t : X)
    → IsAhead i old now → i < length now → s ≡ get_or now i s
    → Walks size put at next (view (take i old)) (view (take i now)) → Walks one_size one_put next after (pure s) (pure t)
    → Walks size put at after (view (take (i + 1) old)) (view (take (i + 1) (set now i t)))
loop_more {view = view} {size = size} {put = put} step at next after old now i s t ahead within here done more =
    let was : get_or now i s ≡ get_or old i s = ahead.1 i s (omega arith) in
    let olds : take (i + 1) old ≡ take i old ++ (s ∷ []) =
    (take_at_read old i s (omega (arith, ahead.0, within))).1 ∙ ap (λ x. take i old ++ (x ∷ [])) (sym was ∙ sym here) in
    let news : take (i + 1) (set now i t) ≡ take i now ++ t ∷ [] = take_more_set now i t within in
    subst (λ xs. Walks size put at after (view xs) (view (take (i + 1) (set now i t)))) (sym olds)
    (subst (λ ys. Walks size put at after (view (take i old ++ s ∷ [])) (view ys)) (sym news)
    (walk_more step at next after (take i old) (take i now) s t done more))

-- a part of one line
pub line_walks : {P : Type 0} (put : ℕ → P → P) (next after : ℕ) (s t : P) → next ≤ last_number → after ≡ min (next + 1) last_number
    → t ≡ put next s → Walks one put next after s t
line_walks put next after s t small is put_is = record {
  later = omega (arith, is);
  next_is = λ few. omega (arith, is);
  new_is = λ few. put_is;
}

-- ---- the kinds of lists

lines_push : {A : Type 0} (put : ℕ → A → A) (at : ℕ) (xs : List A) (x : A) → lines_at put at (xs ++ x ∷ []) ≡ lines_at put at xs ++ put (at + length xs) x ∷ []
lines_push put at [] x = let e : at + 0 ≡ at = omega arith in ap (λ k. put k x ∷ []) (sym e)
lines_push put at (y ∷ xs) x =
    let e : at + 1 + length xs ≡ at + length (y ∷ xs) = omega arith in
    ap (λ l. put at y ∷ l) (lines_push put (at + 1) xs x ∙ ap (λ k. lines_at put (at + 1) xs ++ put k x ∷ []) e)

-- lines that are seen as they are
pub plain_lines : {A : Type 0} (put : ℕ → A → A) → IsStepwise (λ (x : A). x) (λ (xs : List A). xs) length (lines_at put) one put
plain_lines put = record {
  size_none = refl;
  put_none = λ at. refl;
  size_push = λ xs x. length_push xs x;
  put_push = λ at xs ys x y done more. ap (λ l. l ++ y ∷ []) done ∙ ap (λ z. lines_at put at xs ++ z ∷ []) more ∙ sym (lines_push put at xs x);
}

-- lines that stand for others
pub seen_lines : {X P : Type 0} (pure : X → P) (put : ℕ → P → P) → IsStepwise pure (map pure) length (lines_at put) one put
seen_lines pure put = record {
  size_none = refl;
  put_none = λ at. refl;
  size_push = λ xs x. ap length (map-append pure xs (x ∷ [])) ∙ length_push (map pure xs) (pure x);
  put_push = λ at xs ys x y done more.
      map-append pure ys (y ∷ []) ∙ ap (λ l. l ++ pure y ∷ []) done ∙ ap (λ z. lines_at put at (map pure xs) ++ z ∷ []) more
      ∙ sym (lines_push put at (map pure xs) (pure x)) ∙ ap (lines_at put at) (sym (map-append pure xs (x ∷ [])));
}

flat_push : {A : Type 0} (lines : A → List Form) (xs : List A) (x : A) → length (flat_map lines (xs ++ x ∷ [])) ≡ length (flat_map lines xs) + length (lines x)
flat_push lines [] x = omega (arith, length-append (lines x) [])
flat_push lines (y ∷ xs) x =
    omega (arith, length-append (lines y) (flat_map lines (xs ++ x ∷ [])), length-append (lines y) (flat_map lines xs), flat_push lines xs x)

parts_push : {A : Type 0} (lines : A → List Form) (put : ℕ → A → A) (at : ℕ) (xs : List A) (x : A)
    → parts_at lines put at (xs ++ x ∷ []) ≡ parts_at lines put at xs ++ put (at + length (flat_map lines xs)) x ∷ []
parts_push lines put at [] x = let e : at + 0 ≡ at = omega arith in ap (λ k. put k x ∷ []) (sym e)
parts_push lines put at (y ∷ xs) x =
    let e : at + length (lines y) + length (flat_map lines xs) ≡ at + length (flat_map lines (y ∷ xs)) = omega (arith, length-append (lines y) (flat_map lines xs)) in
    ap (λ l. put at y ∷ l) (parts_push lines put (at + length (lines y)) xs x ∙ ap (λ k. parts_at lines put (at + length (lines y)) xs ++ put k x ∷ []) e)

-- parts of more lines
pub seen_parts : {X P : Type 0} (pure : X → P) (lines : P → List Form) (put : ℕ → P → P)
    → IsStepwise pure (map pure) (λ ps. length (flat_map lines ps)) (parts_at lines put) (λ p. length (lines p)) put
seen_parts pure lines put = record {
  size_none = refl;
  put_none = λ at. refl;
  size_push = λ xs x. ap (λ ps. length (flat_map lines ps)) (map-append pure xs (x ∷ [])) ∙ flat_push lines (map pure xs) (pure x);
  put_push = λ at xs ys x y done more.
      map-append pure ys (y ∷ []) ∙ ap (λ l. l ++ pure y ∷ []) done ∙ ap (λ z. parts_at lines put at (map pure xs) ++ z ∷ []) more
      ∙ sym (parts_push lines put at (map pure xs) (pure x)) ∙ ap (parts_at lines put at) (sym (map-append pure xs (x ∷ [])));
}
