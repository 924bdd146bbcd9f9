-- Texts that are cut in one way.
use Rattle.std.proofs.Common.{◌≡◌, ℕ, Bool, true, false, List, [], ◌∷◌, ◌++◌, refl, ◌∙◌, sym, ap, subst, append_assoc, ⊎_elim}
use Rattle.std.proofs.lemmas.Bool.{cases_Bool}
use Rattle.std.specs.List.{AllByRecursion, AllZip, flat_map, list_any}
use Rattle.tdf_save.specs.Text.{each_text}
use Rattle.tdf_save.specs.machine.Pieces.{Any, IsOne, Stops, is_stop, begins_with_byte, begins_with_stop}

-- ---- words

tail_of : (x : ℕ) (xs : List ℕ) → list_any is_stop (x ∷ xs) ≡ false → list_any is_stop xs ≡ false
tail_of x xs h = ⊎_elim
    (λ (here : is_stop x ≡ true). absurd (let f : true ≡ false = rw here at h in cc))
    (λ (other : is_stop x ≡ false). rw other at h)
    (cases_Bool (is_stop x))

not_stop : (x : ℕ) (xs : List ℕ) → list_any is_stop (x ∷ xs) ≡ false → is_stop x ≡ true → ⊥
not_stop x xs h e = let f : true ≡ false = rw e at h in cc

pub cut_at_stop : (xs us r s : List ℕ) → list_any is_stop xs ≡ false → list_any is_stop us ≡ false → begins_with_stop r ≡ true → begins_with_stop s ≡ true
    → xs ++ r ≡ us ++ s → (xs ≡ us) × (r ≡ s)
cut_at_stop [] [] r s a b er es e = (refl, e)
cut_at_stop [] (u ∷ us) r s a b er es e = absurd (not_stop u us b (subst (λ x. begins_with_stop x ≡ true) e er))
cut_at_stop (x ∷ xs) [] r s a b er es e = absurd (not_stop x xs a (subst (λ y. begins_with_stop y ≡ true) (sym e) es))
cut_at_stop (x ∷ xs) (u ∷ us) r s a b er es e =
    let same : x ≡ u = cc in
    let rest : xs ++ r ≡ us ++ s = cc in
    let more = cut_at_stop xs us r s (tail_of x xs a) (tail_of u us b) er es rest in
    (ap (λ y. y ∷ xs) same ∙ ap (λ ys. u ∷ ys) more.0, more.1)

pub word_one : {V : Type 0} (word : V → List ℕ) (fits : V → Type 0) → ((v : V) → fits v → list_any is_stop (word v) ≡ false)
    → ((v w : V) → fits v → fits w → word v ≡ word w → v ≡ w) → IsOne word fits Stops
word_one word fits plain same = record {
  only = λ v w r s f g er es e.
      let cut = cut_at_stop (word v) (word w) r s (plain v f) (plain w g) er es e in
      (same v w f g cut.0, cut.1);
}

-- ---- parts

pub cancel : (pre xs ys : List ℕ) → pre ++ xs ≡ pre ++ ys → xs ≡ ys
cancel [] xs ys e = e
cancel (p ∷ pre) xs ys e = let f : pre ++ xs ≡ pre ++ ys = cc in cancel pre xs ys f

-- after something fixed
pub pre_one : {V : Type 0} (pre : List ℕ) (text : V → List ℕ) (fits : V → Type 0) (ends : List ℕ → Type 0) → IsOne text fits ends → IsOne (λ v. pre ++ text v) fits ends
pre_one pre text fits ends one = record {
  only = λ v w r s f g er es e.
      one.only v w r s f g er es (cancel pre (text v ++ r) (text w ++ s) (sym (append_assoc pre (text v) r) ∙ e ∙ append_assoc pre (text w) s));
}

-- one and then another
pub pair_one : {A B : Type 0} (first : A → List ℕ) (second : B → List ℕ) (fits : A → Type 0) (suits : B → Type 0) (mid ends : List ℕ → Type 0)
    → IsOne first fits mid → IsOne second suits ends → ((b : B) (r : List ℕ) → suits b → ends r → mid (second b ++ r))
    → IsOne (λ (p : A × B). first p.0 ++ second p.1) (λ (p : A × B). fits p.0 × suits p.1) ends
pair_one first second fits suits mid ends one other goes = record {
  only = λ v w r s f g er es e.
      let whole : first v.0 ++ (second v.1 ++ r) ≡ first w.0 ++ (second w.1 ++ s) = sym (append_assoc (first v.0) (second v.1) r) ∙ e ∙ append_assoc (first w.0) (second w.1) s in
      let a = one.only v.0 w.0 (second v.1 ++ r) (second w.1 ++ s) f.0 g.0 (goes v.1 r f.1 er) (goes w.1 s g.1 es) whole in
      let b = other.only v.1 w.1 r s f.1 g.1 er es a.1 in
      (ap (λ x. (x, v.1)) a.0 ∙ ap (λ y. (w.0, y)) b.0, b.1);
}

-- seen in another way
pub along_one : {V W : Type 0} (g : V → W) (text : V → List ℕ) (other : W → List ℕ) (fits : V → Type 0) (suits : W → Type 0) (ends : List ℕ → Type 0)
    → ((v w : V) → g v ≡ g w → v ≡ w) → ((v : V) → text v ≡ other (g v)) → ((v : V) → fits v → suits (g v)) → IsOne other suits ends → IsOne text fits ends
along_one g text other fits suits ends same is fit one = record {
  only = λ v w r s f h er es e.
      let cut = one.only (g v) (g w) r s (fit v f) (fit w h) er es (ap (λ t. t ++ r) (sym (is v)) ∙ e ∙ ap (λ t. t ++ s) (is w)) in
      (same v w cut.0, cut.1);
}

-- before something fixed
pub post_one : {V : Type 0} (text : V → List ℕ) (post : List ℕ) (fits : V → Type 0) (mid : List ℕ → Type 0) → ((r : List ℕ) → mid (post ++ r)) → IsOne text fits mid → IsOne (λ v. text v ++ post) fits Any
post_one text post fits mid goes one = record {
  only = λ v w r s f g er es e.
      let whole : text v ++ (post ++ r) ≡ text w ++ (post ++ s) = sym (append_assoc (text v) post r) ∙ e ∙ append_assoc (text w) post s in
      let cut = one.only v w (post ++ r) (post ++ s) f g (goes r) (goes s) whole in
      (cut.0, cancel post r s cut.1);
}

-- with fewer ends
pub fewer_one : {V : Type 0} (text : V → List ℕ) (fits : V → Type 0) (mid ends : List ℕ → Type 0) → ((r : List ℕ) → ends r → mid r) → IsOne text fits mid → IsOne text fits ends
fewer_one text fits mid ends goes one = record {
  only = λ v w r s f g er es e. one.only v w r s f g (goes r er) (goes s es) e;
}

-- ---- items, up to something else

pub apart : (x : Bool) → x ≡ true → x ≡ false → ⊥
apart x p q = let f : true ≡ false = sym p ∙ q in cc

pub items_end : {V : Type 0} (f : V → List ℕ) (fits : V → Type 0) (ends : List ℕ → Type 0) → ((v : V) (r : List ℕ) → fits v → ends (f v ++ r))
    → (vs : List V) (r : List ℕ) → AllByRecursion fits vs → ends r → ends (flat_map f vs ++ r)
items_end f fits ends goes [] r all e = e
items_end f fits ends goes (v ∷ vs) r all e = subst ends (sym (append_assoc (f v) (flat_map f vs) r)) (goes v (flat_map f vs ++ r) all.0)

items_by : {V : Type 0} (f : V → List ℕ) (fits : V → Type 0) (ends : List ℕ → Type 0) (b : ℕ) → IsOne f fits ends
    → ((v : V) (r : List ℕ) → begins_with_byte b (f v ++ r) ≡ true) → ((v : V) (r : List ℕ) → fits v → ends (f v ++ r))
    → (vs ws : List V) (r s : List ℕ) → AllByRecursion fits vs → AllByRecursion fits ws → ends r → ends s → begins_with_byte b r ≡ false → begins_with_byte b s ≡ false
    → flat_map f vs ++ r ≡ flat_map f ws ++ s → (vs ≡ ws) × (r ≡ s)
items_by f fits ends b one begins goes [] [] r s p q er es nr ns e = (refl, e)
items_by f fits ends b one begins goes [] (w ∷ ws) r s p q er es nr ns e =
    absurd (apart (begins_with_byte b r) (ap (begins_with_byte b) (e ∙ append_assoc (f w) (flat_map f ws) s) ∙ begins w (flat_map f ws ++ s)) nr)
items_by f fits ends b one begins goes (v ∷ vs) [] r s p q er es nr ns e =
    absurd (apart (begins_with_byte b s) (ap (begins_with_byte b) (sym e ∙ append_assoc (f v) (flat_map f vs) r) ∙ begins v (flat_map f vs ++ r)) ns)
items_by f fits ends b one begins goes (v ∷ vs) (w ∷ ws) r s p q er es nr ns e =
    let whole : f v ++ (flat_map f vs ++ r) ≡ f w ++ (flat_map f ws ++ s) = sym (append_assoc (f v) (flat_map f vs) r) ∙ e ∙ append_assoc (f w) (flat_map f ws) s in
    let cut = one.only v w (flat_map f vs ++ r) (flat_map f ws ++ s) p.0 q.0 (items_end f fits ends goes vs r p.1 er) (items_end f fits ends goes ws s q.1 es) whole in
    let more = items_by f fits ends b one begins goes vs ws r s p.1 q.1 er es nr ns cut.1 in
    (ap (λ x. x ∷ vs) cut.0 ∙ ap (λ xs. w ∷ xs) more.0, more.1)

pub items_one : {V : Type 0} (f : V → List ℕ) (fits : V → Type 0) (ends : List ℕ → Type 0) (b : ℕ) → IsOne f fits ends
    → ((v : V) (r : List ℕ) → begins_with_byte b (f v ++ r) ≡ true) → ((v : V) (r : List ℕ) → fits v → ends (f v ++ r))
    → IsOne (flat_map f) (AllByRecursion fits) (λ r. ends r × (begins_with_byte b r ≡ false))
items_one f fits ends b one begins goes = record {
  only = λ v w r s p q er es e. items_by f fits ends b one begins goes v w r s p q er.0 es.0 er.1 es.1 e;
}

-- ---- one for each member

pub each_end : {A V : Type 0} (f : A → V → List ℕ) (fits : A → V → Type 0) (ends : List ℕ → Type 0) → ((a : A) (v : V) (r : List ℕ) → fits a v → ends (f a v ++ r))
    → (xs0 : List A) (vs : List V) (r : List ℕ) → AllZip fits xs0 vs → ends r → ends (each_text f xs0 vs ++ r)
unfolding each_text
each_end f fits ends goes [] [] r all e = e
each_end f fits ends goes [] (v ∷ vs) r all e = absurd all
each_end f fits ends goes (a ∷ xs0) [] r all e = absurd all
each_end f fits ends goes (a ∷ xs0) (v ∷ vs) r all e = subst ends (sym (append_assoc (f a v) (each_text f xs0 vs) r)) (goes a v (each_text f xs0 vs ++ r) all.0)

each_by : {A V : Type 0} (f : A → V → List ℕ) (fits : A → V → Type 0) (ends : List ℕ → Type 0) → ((a : A) → IsOne (f a) (fits a) ends)
    → ((a : A) (v : V) (r : List ℕ) → fits a v → ends (f a v ++ r))
    → (xs0 : List A) (vs ws : List V) (r s : List ℕ) → AllZip fits xs0 vs → AllZip fits xs0 ws → ends r → ends s
    → each_text f xs0 vs ++ r ≡ each_text f xs0 ws ++ s → (vs ≡ ws) × (r ≡ s)
unfolding each_text
each_by f fits ends one goes [] [] [] r s p q er es e = (refl, e)
each_by f fits ends one goes [] [] (w ∷ ws) r s p q er es e = absurd q
each_by f fits ends one goes [] (v ∷ vs) ws r s p q er es e = absurd p
each_by f fits ends one goes (a ∷ xs0) [] ws r s p q er es e = absurd p
each_by f fits ends one goes (a ∷ xs0) (v ∷ vs) [] r s p q er es e = absurd q
each_by f fits ends one goes (a ∷ xs0) (v ∷ vs) (w ∷ ws) r s p q er es e =
    let whole : f a v ++ (each_text f xs0 vs ++ r) ≡ f a w ++ (each_text f xs0 ws ++ s) = sym (append_assoc (f a v) (each_text f xs0 vs) r) ∙ e ∙ append_assoc (f a w) (each_text f xs0 ws) s in
    let cut = (one a).only v w (each_text f xs0 vs ++ r) (each_text f xs0 ws ++ s) p.0 q.0 (each_end f fits ends goes xs0 vs r p.1 er) (each_end f fits ends goes xs0 ws s q.1 es) whole in
    let more = each_by f fits ends one goes xs0 vs ws r s p.1 q.1 er es cut.1 in
    (ap (λ x. x ∷ vs) cut.0 ∙ ap (λ xs. w ∷ xs) more.0, more.1)

pub each_one : {A V : Type 0} (f : A → V → List ℕ) (fits : A → V → Type 0) (ends : List ℕ → Type 0) → ((a : A) → IsOne (f a) (fits a) ends)
    → ((a : A) (v : V) (r : List ℕ) → fits a v → ends (f a v ++ r)) → (xs0 : List A) → IsOne (each_text f xs0) (AllZip fits xs0) ends
each_one f fits ends one goes xs0 = record {
  only = λ v w r s p q er es e. each_by f fits ends one goes xs0 v w r s p q er es e;
}
