-- Reading step by step: items one after the other, one for each member, and part after part.
use Rattle.std.proofs.Common.{◌≡◌, ℕ, zero, suc, ◌+◌, ◌<◌, ◌≤◌, true, false, List, [], ◌∷◌, ◌++◌, length, take, drop, get_or, take-suc, refl, ◌∙◌, sym, ap, subst, append_assoc, append-nil, arith}
use Rattle.std.specs.List.{AllByRecursion, AllZip, flat_map}
use Rattle.std.proofs.lemmas.Grind.{flat_map-append}
use Rattle.std.proofs.lemmas.List.{take_all}
use Rattle.tdf_save.proofs.Api.{apart, cancel, each_end, items_end}
use Rattle.tdf_save.specs.Text.{each_text}
use Rattle.tdf_save.specs.machine.Pieces.{Any, IsOne, begins_with_byte}
use Rattle.tdf_save_reading.specs.machine.Pieces.{IsPiece, NoPiece}

-- ---- items

-- some items are read, and each list of items that the text may be begins with them
pub record IsSplit {V : Type 0} (f : V → List ℕ) (fits : V → Type 0) (vs ws : List V) (rest t : List ℕ) : Type 0 where
  pub more : List V
  pub split : ws ≡ vs ++ more
  pub fit : AllByRecursion fits more
  pub is : rest ≡ flat_map f more ++ t

pub record HasRead {V : Type 0} (f : V → List ℕ) (fits : V → Type 0) (tail : List ℕ → Type 0) (whole : List ℕ) (vs : List V) (rest : List ℕ) : Type 0 where
  pub is : whole ≡ flat_map f vs ++ rest
  pub fit : AllByRecursion fits vs
  pub only : (ws : List V) (t : List ℕ) → AllByRecursion fits ws → tail t → whole ≡ flat_map f ws ++ t → IsSplit f fits vs ws rest t

pub none_read : {V : Type 0} (f : V → List ℕ) (fits : V → Type 0) (tail : List ℕ → Type 0) (whole : List ℕ) → HasRead f fits tail whole [] whole
none_read f fits tail whole = record {
  is = refl;
  fit = tt;
  only = λ ws t g e is. record { more = ws; split = refl; fit = g; is = is };
}

-- what holds of items and of what may come after them
pub record AreItems {V : Type 0} (f : V → List ℕ) (fits : V → Type 0) (ends tail : List ℕ → Type 0) (b : ℕ) : Type 0 where
  pub one : IsOne f fits ends
  pub begins : (v : V) (r : List ℕ) → begins_with_byte b (f v ++ r) ≡ true
  pub goes : (v : V) (r : List ℕ) → fits v → ends (f v ++ r)
  pub tail_ends : (t : List ℕ) → tail t → ends t
  pub tail_is : (t : List ℕ) → tail t → begins_with_byte b t ≡ false

all_more : {V : Type 0} (fits : V → Type 0) (vs : List V) (v : V) → AllByRecursion fits vs → fits v → AllByRecursion fits (vs ++ v ∷ [])
all_more fits [] v all h = (h, tt)
all_more fits (x ∷ vs) v all h = (all.0, all_more fits vs v all.1 h)

text_more : {V : Type 0} (f : V → List ℕ) (vs : List V) (v : V) (rest : List ℕ) → flat_map f (vs ++ v ∷ []) ++ rest ≡ flat_map f vs ++ (f v ++ rest)
text_more f vs v rest =
    ap (λ x. x ++ rest) (flat_map-append f vs (v ∷ []) ∙ ap (λ x. flat_map f vs ++ x) (append-nil (f v)))
    ∙ append_assoc (flat_map f vs) (f v) rest

split_more : {V : Type 0} (f : V → List ℕ) (fits : V → Type 0) (ends tail : List ℕ → Type 0) (b : ℕ) → AreItems f fits ends tail b
    → (vs ws more : List V) (v : V) (rest left t : List ℕ) → tail t → IsPiece f fits ends rest v left
    → ws ≡ vs ++ more → AllByRecursion fits more → rest ≡ flat_map f more ++ t → IsSplit f fits (vs ++ v ∷ []) ws left t
split_more f fits ends tail b all vs ws [] v rest left t e h split fit is =
    absurd (apart (begins_with_byte b t) (ap (begins_with_byte b) (sym is ∙ h.is) ∙ all.begins v left) (all.tail_is t e))
split_more f fits ends tail b all vs ws (u ∷ more) v rest left t e h split fit is =
    let whole : f v ++ left ≡ f u ++ (flat_map f more ++ t) = sym h.is ∙ is ∙ append_assoc (f u) (flat_map f more) t in
    let cut = all.one.only v u left (flat_map f more ++ t) h.fit fit.0 h.end (items_end f fits ends all.goes more t fit.1 (all.tail_ends t e)) whole in
    record {
      more = more;
      split = split ∙ ap (λ x. vs ++ (x ∷ more)) (sym cut.0) ∙ sym (append_assoc vs (v ∷ []) more);
      fit = fit.1;
      is = cut.1;
    }

-- one more is read
pub one_read : {V : Type 0} (f : V → List ℕ) (fits : V → Type 0) (ends tail : List ℕ → Type 0) (b : ℕ) → AreItems f fits ends tail b
    → (whole : List ℕ) (vs : List V) (v : V) (rest left : List ℕ) → HasRead f fits tail whole vs rest → IsPiece f fits ends rest v left → HasRead f fits tail whole (vs ++ v ∷ []) left
one_read f fits ends tail b all whole vs v rest left h p = record {
  is = h.is ∙ ap (λ x. flat_map f vs ++ x) p.is ∙ sym (text_more f vs v left);
  fit = all_more fits vs v h.fit p.fit;
  only = λ ws t g e is.
      let at = h.only ws t g e is in
      split_more f fits ends tail b all vs ws at.more v rest left t e p at.split at.fit at.is;
}

stuck_by : {V : Type 0} (f : V → List ℕ) (fits : V → Type 0) (ends tail : List ℕ → Type 0) (b : ℕ) → AreItems f fits ends tail b
    → (more : List V) (rest t : List ℕ) → begins_with_byte b rest ≡ true → NoPiece f fits ends rest → AllByRecursion fits more → tail t → rest ≡ flat_map f more ++ t → ⊥
stuck_by f fits ends tail b all [] rest t here none fit e is = apart (begins_with_byte b t) (ap (begins_with_byte b) (sym is) ∙ here) (all.tail_is t e)
stuck_by f fits ends tail b all (u ∷ more) rest t here none fit e is =
    none u (flat_map f more ++ t) (record {
      fit = fit.0;
      end = items_end f fits ends all.goes more t fit.1 (all.tail_ends t e);
      is = is ∙ append_assoc (f u) (flat_map f more) t;
    })

-- no item is there where one must be
pub stuck : {V : Type 0} (f : V → List ℕ) (fits : V → Type 0) (ends tail : List ℕ → Type 0) (b : ℕ) → AreItems f fits ends tail b
    → (whole : List ℕ) (vs : List V) (rest : List ℕ) → HasRead f fits tail whole vs rest → begins_with_byte b rest ≡ true → NoPiece f fits ends rest → NoPiece (flat_map f) (AllByRecursion fits) tail whole
stuck f fits ends tail b all whole vs rest h here none = λ ws t p.
    let at = h.only ws t p.fit p.end p.is in
    stuck_by f fits ends tail b all at.more rest t here none at.fit p.end at.is

-- the items end: nothing else is in front
pub record IsAll {V : Type 0} (vs ws : List V) (rest t : List ℕ) : Type 0 where
  pub same : vs ≡ ws
  pub rest_is : rest ≡ t

done_by : {V : Type 0} (f : V → List ℕ) (fits : V → Type 0) (ends tail : List ℕ → Type 0) (b : ℕ) → AreItems f fits ends tail b
    → (vs ws more : List V) (rest t : List ℕ) → begins_with_byte b rest ≡ false → ws ≡ vs ++ more → rest ≡ flat_map f more ++ t → IsAll vs ws rest t
done_by f fits ends tail b all vs ws [] rest t here split is = record { same = sym (split ∙ append-nil vs); rest_is = is }
done_by f fits ends tail b all vs ws (u ∷ more) rest t here split is =
    absurd (apart (begins_with_byte b rest) (ap (begins_with_byte b) (is ∙ append_assoc (f u) (flat_map f more) t) ∙ all.begins u (flat_map f more ++ t)) here)

pub done : {V : Type 0} (f : V → List ℕ) (fits : V → Type 0) (ends tail : List ℕ → Type 0) (b : ℕ) → AreItems f fits ends tail b
    → (whole : List ℕ) (vs : List V) (rest : List ℕ) → HasRead f fits tail whole vs rest → begins_with_byte b rest ≡ false
    → (ws : List V) (t : List ℕ) → AllByRecursion fits ws → tail t → whole ≡ flat_map f ws ++ t → IsAll vs ws rest t
done f fits ends tail b all whole vs rest h here ws t g e is =
    let at = h.only ws t g e is in
    done_by f fits ends tail b all vs ws at.more rest t here at.split at.is

-- ---- one for each member

pub record IsEachSplit {A V : Type 0} (f : A → V → List ℕ) (fits : A → V → Type 0) (xs : List A) (k : ℕ) (vs ws : List V) (rest t : List ℕ) : Type 0 where
  pub more : List V
  pub split : ws ≡ vs ++ more
  pub fit : AllZip fits (drop k xs) more
  pub is : rest ≡ each_text f (drop k xs) more ++ t

pub record HasEach {A V : Type 0} (f : A → V → List ℕ) (fits : A → V → Type 0) (ends : List ℕ → Type 0) (xs : List A) (whole : List ℕ) (k : ℕ) (vs : List V) (rest : List ℕ) : Type 0 where
  pub is : whole ≡ each_text f (take k xs) vs ++ rest
  pub fit : AllZip fits (take k xs) vs
  pub only : (ws : List V) (t : List ℕ) → AllZip fits xs ws → ends t → whole ≡ each_text f xs ws ++ t → IsEachSplit f fits xs k vs ws rest t

pub each_none_read : {A V : Type 0} (f : A → V → List ℕ) (fits : A → V → Type 0) (ends : List ℕ → Type 0) (xs : List A) (whole : List ℕ) → HasEach f fits ends xs whole 0 [] whole
unfolding each_text
each_none_read f fits ends xs whole = record {
  is = refl;
  fit = tt;
  only = λ ws t g e is. record { more = ws; split = refl; fit = g; is = is };
}

take_more : {A : Type 0} (xs : List A) (k : ℕ) (a : A) → k < length xs → a ≡ get_or xs k a → take (k + 1) xs ≡ take k xs ++ (a ∷ [])
take_more xs k a less is = let e : k + 1 ≡ suc k = omega arith in rw e (take-suc xs k a less ∙ ap (λ x. take k xs ++ (x ∷ [])) (sym is))

drop_more : {A : Type 0} (xs : List A) (k : ℕ) (a : A) → k < length xs → a ≡ get_or xs k a → drop k xs ≡ a ∷ drop (k + 1) xs
drop_more [] k a less is = absurd (omega (arith, less))
drop_more (x ∷ xs) zero a less is = ap (λ y. y ∷ xs) (sym is)
drop_more (x ∷ xs) (suc k) a less is = let e : suc k + 1 ≡ suc (k + 1) = omega arith in rw e (drop_more xs k a (omega (arith, less)) is)

each_snoc : {A V : Type 0} (f : A → V → List ℕ) (fits : A → V → Type 0) (xs : List A) (vs : List V) (a : A) (v : V) → AllZip fits xs vs
    → each_text f (xs ++ a ∷ []) (vs ++ v ∷ []) ≡ each_text f xs vs ++ f a v
unfolding each_text
each_snoc f fits [] [] a v all = append-nil (f a v)
each_snoc f fits [] (w ∷ vs) a v all = absurd all
each_snoc f fits (x ∷ xs) [] a v all = absurd all
each_snoc f fits (x ∷ xs) (w ∷ vs) a v all = ap (λ t. f x w ++ t) (each_snoc f fits xs vs a v all.1) ∙ sym (append_assoc (f x w) (each_text f xs vs) (f a v))

zip_snoc : {A V : Type 0} (fits : A → V → Type 0) (xs : List A) (vs : List V) (a : A) (v : V) → AllZip fits xs vs → fits a v → AllZip fits (xs ++ a ∷ []) (vs ++ v ∷ [])
zip_snoc fits [] [] a v all h = (h, tt)
zip_snoc fits [] (w ∷ vs) a v all h = absurd all
zip_snoc fits (x ∷ xs) [] a v all h = absurd all
zip_snoc fits (x ∷ xs) (w ∷ vs) a v all h = (all.0, zip_snoc fits xs vs a v all.1 h)

-- what holds of the texts of members
pub record AreEach {A V : Type 0} (f : A → V → List ℕ) (fits : A → V → Type 0) (ends : List ℕ → Type 0) : Type 0 where
  pub one : (a : A) → IsOne (f a) (fits a) ends
  pub goes : (a : A) (v : V) (r : List ℕ) → fits a v → ends (f a v ++ r)

each_split : {A V : Type 0} (f : A → V → List ℕ) (fits : A → V → Type 0) (ends : List ℕ → Type 0) → AreEach f fits ends
    → (xs left : List A) (k : ℕ) (a : A) (vs ws more : List V) (v : V) (rest r t : List ℕ) → left ≡ drop (k + 1) xs → ends t → IsPiece (f a) (fits a) ends rest v r
    → ws ≡ vs ++ more → AllZip fits (a ∷ left) more → rest ≡ each_text f (a ∷ left) more ++ t → IsEachSplit f fits xs (k + 1) (vs ++ v ∷ []) ws r t
unfolding each_text
each_split f fits ends all xs left k a vs ws [] v rest r t at e h split fit is = absurd fit
each_split f fits ends all xs left k a vs ws (u ∷ more) v rest r t at e h split fit is =
    let whole : f a v ++ r ≡ f a u ++ (each_text f left more ++ t) = sym h.is ∙ is ∙ append_assoc (f a u) (each_text f left more) t in
    let cut = (all.one a).only v u r (each_text f left more ++ t) h.fit fit.0 h.end (each_end f fits ends all.goes left more t fit.1 e) whole in
    record {
      more = more;
      split = split ∙ ap (λ x. vs ++ (x ∷ more)) (sym cut.0) ∙ sym (append_assoc vs (v ∷ []) more);
      fit = subst (λ ys. AllZip fits ys more) at fit.1;
      is = cut.1 ∙ ap (λ ys. each_text f ys more ++ t) at;
    }

-- one more member is read
pub each_read : {A V : Type 0} (f : A → V → List ℕ) (fits : A → V → Type 0) (ends : List ℕ → Type 0) → AreEach f fits ends
    → (xs : List A) (whole : List ℕ) (k : ℕ) (a : A) (vs : List V) (v : V) (rest left : List ℕ) → k < length xs → a ≡ get_or xs k a
    → HasEach f fits ends xs whole k vs rest → IsPiece (f a) (fits a) ends rest v left → HasEach f fits ends xs whole (k + 1) (vs ++ v ∷ []) left
each_read f fits ends all xs whole k a vs v rest left less at h p =
    let front = take_more xs k a less at in
    let back = drop_more xs k a less at in
    record {
      is = h.is ∙ ap (λ x. each_text f (take k xs) vs ++ x) p.is ∙ sym (append_assoc (each_text f (take k xs) vs) (f a v) left)
          ∙ ap (λ x. x ++ left) (sym (each_snoc f fits (take k xs) vs a v h.fit)) ∙ ap (λ ys. each_text f ys (vs ++ v ∷ []) ++ left) (sym front);
      fit = subst (λ ys. AllZip fits ys (vs ++ v ∷ [])) (sym front) (zip_snoc fits (take k xs) vs a v h.fit p.fit);
      only = λ ws t g e is.
          let so = h.only ws t g e is in
          each_split f fits ends all xs (drop (k + 1) xs) k a vs ws so.more v rest left t refl e p so.split
          (subst (λ ys. AllZip fits ys so.more) back so.fit) (so.is ∙ ap (λ ys. each_text f ys so.more ++ t) back);
    }

each_stuck_by : {A V : Type 0} (f : A → V → List ℕ) (fits : A → V → Type 0) (ends : List ℕ → Type 0) → AreEach f fits ends
    → (a : A) (left : List A) (more : List V) (rest t : List ℕ) → NoPiece (f a) (fits a) ends rest → ends t → AllZip fits (a ∷ left) more → rest ≡ each_text f (a ∷ left) more ++ t → ⊥
unfolding each_text
each_stuck_by f fits ends all a left [] rest t none e fit is = absurd fit
each_stuck_by f fits ends all a left (u ∷ more) rest t none e fit is =
    none u (each_text f left more ++ t) (record {
      fit = fit.0;
      end = each_end f fits ends all.goes left more t fit.1 e;
      is = is ∙ append_assoc (f a u) (each_text f left more) t;
    })

-- the next member isn't there
pub each_stuck : {A V : Type 0} (f : A → V → List ℕ) (fits : A → V → Type 0) (ends : List ℕ → Type 0) → AreEach f fits ends
    → (xs : List A) (whole : List ℕ) (k : ℕ) (a : A) (vs : List V) (rest : List ℕ) → k < length xs → a ≡ get_or xs k a
    → HasEach f fits ends xs whole k vs rest → NoPiece (f a) (fits a) ends rest → NoPiece (each_text f xs) (AllZip fits xs) ends whole
each_stuck f fits ends all xs whole k a vs rest less at h none = λ ws t p.
    let so = h.only ws t p.fit p.end p.is in
    let back = drop_more xs k a less at in
    each_stuck_by f fits ends all a (drop (k + 1) xs) so.more rest t none p.end
    (subst (λ ys. AllZip fits ys so.more) back so.fit) (so.is ∙ ap (λ ys. each_text f ys so.more ++ t) back)

-- all members are read
pub each_piece : {A V : Type 0} (f : A → V → List ℕ) (fits : A → V → Type 0) (ends : List ℕ → Type 0) (xs : List A) (whole : List ℕ) (k : ℕ) (vs : List V) (rest : List ℕ)
    → length xs ≤ k → ends rest → HasEach f fits ends xs whole k vs rest → IsPiece (each_text f xs) (AllZip fits xs) ends whole vs rest
each_piece f fits ends xs whole k vs rest all e h = record {
  fit = subst (λ ys. AllZip fits ys vs) (take_all k xs all) h.fit;
  end = e;
  is = h.is ∙ ap (λ ys. each_text f ys vs ++ rest) (take_all k xs all);
}

-- ---- part after part

-- after something fixed
pub pre_piece : {V : Type 0} (pre : List ℕ) (text : V → List ℕ) (fits : V → Type 0) (ends : List ℕ → Type 0) (whole mid : List ℕ) (v : V) (rest : List ℕ)
    → whole ≡ pre ++ mid → IsPiece text fits ends mid v rest → IsPiece (λ x. pre ++ text x) fits ends whole v rest
pre_piece pre text fits ends whole mid v rest is p = record { fit = p.fit; end = p.end; is = is ∙ ap (λ x. pre ++ x) p.is ∙ sym (append_assoc pre (text v) rest) }

pub pre_absent : {V : Type 0} (pre : List ℕ) (text : V → List ℕ) (fits : V → Type 0) (ends : List ℕ → Type 0) (whole : List ℕ)
    → ((r : List ℕ) → whole ≡ pre ++ r → ⊥) → NoPiece (λ x. pre ++ text x) fits ends whole
pre_absent pre text fits ends whole none = λ v r p. none (text v ++ r) (p.is ∙ append_assoc pre (text v) r)

pub pre_none : {V : Type 0} (pre : List ℕ) (text : V → List ℕ) (fits : V → Type 0) (ends : List ℕ → Type 0) (whole mid : List ℕ)
    → whole ≡ pre ++ mid → NoPiece text fits ends mid → NoPiece (λ x. pre ++ text x) fits ends whole
pre_none pre text fits ends whole mid is none = λ v r p. none v r (record { fit = p.fit; end = p.end; is = cancel pre mid (text v ++ r) (sym is ∙ p.is ∙ append_assoc pre (text v) r) })

-- before something fixed
pub post_piece : {V : Type 0} (text : V → List ℕ) (post : List ℕ) (fits : V → Type 0) (ends : List ℕ → Type 0) (whole mid : List ℕ) (v : V) (rest : List ℕ)
    → IsPiece text fits ends whole v mid → mid ≡ post ++ rest → IsPiece (λ x. text x ++ post) fits Any whole v rest
post_piece text post fits ends whole mid v rest p is = record { fit = p.fit; end = tt; is = p.is ∙ ap (λ x. text v ++ x) is ∙ sym (append_assoc (text v) post rest) }

pub post_none : {V : Type 0} (text : V → List ℕ) (post : List ℕ) (fits : V → Type 0) (ends : List ℕ → Type 0) (whole : List ℕ)
    → ((r : List ℕ) → ends (post ++ r)) → NoPiece text fits ends whole → NoPiece (λ x. text x ++ post) fits Any whole
post_none text post fits ends whole goes none = λ v r p. none v (post ++ r) (record { fit = p.fit; end = goes r; is = p.is ∙ append_assoc (text v) post r })

pub post_absent : {V : Type 0} (text : V → List ℕ) (post : List ℕ) (fits : V → Type 0) (ends : List ℕ → Type 0) (whole mid : List ℕ) (u : V)
    → ((r : List ℕ) → ends (post ++ r)) → IsOne text fits ends → IsPiece text fits ends whole u mid → ((r : List ℕ) → mid ≡ post ++ r → ⊥) → NoPiece (λ x. text x ++ post) fits Any whole
post_absent text post fits ends whole mid u goes one h none = λ v r p.
    none r (one.only u v mid (post ++ r) h.fit p.fit h.end (goes r) (sym h.is ∙ p.is ∙ append_assoc (text v) post r)).1

-- one and then another
pub pair_piece : {A B : Type 0} (first : A → List ℕ) (second : B → List ℕ) (fits : A → Type 0) (suits : B → Type 0) (mid ends : List ℕ → Type 0)
    (whole left : List ℕ) (a : A) (b : B) (rest : List ℕ) → IsPiece first fits mid whole a left → IsPiece second suits ends left b rest
    → IsPiece (λ (p : A × B). first p.0 ++ second p.1) (λ (p : A × B). fits p.0 × suits p.1) ends whole (a, b) rest
pair_piece first second fits suits mid ends whole left a b rest p q = record {
  fit = (p.fit, q.fit);
  end = q.end;
  is = p.is ∙ ap (λ x. first a ++ x) q.is ∙ sym (append_assoc (first a) (second b) rest);
}

pub no_first : {A B : Type 0} (first : A → List ℕ) (second : B → List ℕ) (fits : A → Type 0) (suits : B → Type 0) (mid ends : List ℕ → Type 0) (whole : List ℕ)
    → ((b : B) (r : List ℕ) → suits b → ends r → mid (second b ++ r)) → NoPiece first fits mid whole
    → NoPiece (λ (p : A × B). first p.0 ++ second p.1) (λ (p : A × B). fits p.0 × suits p.1) ends whole
no_first first second fits suits mid ends whole goes none = λ v r p.
    none v.0 (second v.1 ++ r) (record { fit = p.fit.0; end = goes v.1 r p.fit.1 p.end; is = p.is ∙ append_assoc (first v.0) (second v.1) r })

pub no_second : {A B : Type 0} (first : A → List ℕ) (second : B → List ℕ) (fits : A → Type 0) (suits : B → Type 0) (mid ends : List ℕ → Type 0) (whole left : List ℕ) (a : A)
    → ((b : B) (r : List ℕ) → suits b → ends r → mid (second b ++ r)) → IsOne first fits mid → IsPiece first fits mid whole a left → NoPiece second suits ends left
    → NoPiece (λ (p : A × B). first p.0 ++ second p.1) (λ (p : A × B). fits p.0 × suits p.1) ends whole
no_second first second fits suits mid ends whole left a goes one h none = λ v r p.
    let cut = one.only a v.0 left (second v.1 ++ r) h.fit p.fit.0 h.end (goes v.1 r p.fit.1 p.end) (sym h.is ∙ p.is ∙ append_assoc (first v.0) (second v.1) r) in
    none v.1 r (record { fit = p.fit.1; end = p.end; is = cut.1 })

-- seen in another way
pub along_piece : {V W : Type 0} (text : V → List ℕ) (other : W → List ℕ) (fits : V → Type 0) (suits : W → Type 0) (ends : List ℕ → Type 0) (whole : List ℕ) (v : V) (w : W) (rest : List ℕ)
    → text v ≡ other w → fits v → IsPiece other suits ends whole w rest → IsPiece text fits ends whole v rest
along_piece text other fits suits ends whole v w rest is f p = record { fit = f; end = p.end; is = p.is ∙ ap (λ x. x ++ rest) (sym is) }

pub along_none : {V W : Type 0} (g : V → W) (text : V → List ℕ) (other : W → List ℕ) (fits : V → Type 0) (suits : W → Type 0) (ends : List ℕ → Type 0) (whole : List ℕ)
    → ((v : V) → text v ≡ other (g v)) → ((v : V) → fits v → suits (g v)) → NoPiece other suits ends whole → NoPiece text fits ends whole
along_none g text other fits suits ends whole is fit none = λ v r p.
    none (g v) r (record { fit = fit v p.fit; end = p.end; is = p.is ∙ ap (λ x. x ++ r) (is v) })
