-- One entry more.
use Rattle.std.proofs.Common.{◌≡◌, ◌∙◌, ◌≢◌, ℕ, zero, suc, ◌+◌, ◌<◌, ◌≤◌, Bool, true, false, List, [], ◌∷◌, Some, None, pos, length, refl, sym, ap, subst, inl, inr, ◌⊎◌, arith, if◌then◌else◌}
use Rattle.std.proofs.lemmas.Bool.{cases_eq, cases_lt}
use Rattle.std.proofs.lemmas.List.{length-set}
use Rattle.std.proofs.lemmas.Option.{same_Some, slice_get-get_or}
use Rattle.std.specs.Prelude.{slice_get, slice_set, slice_index_or}
use Rattle.tdf_convert.proofs.Linked.{link_cases, one_link, one_place, place_inside}
use Rattle.tdf_convert.specs.Links.{AreLinks, HaveSignals, link_of}
use Rattle.tdf_convert.specs.Sampled.{AreSampled, IsDue}
use Rattle.tdf_convert.specs.declared.links.Link.{Link}
use Rattle.tdf_convert.specs.machine.Sampling.{AreSampledUpTo, IsAmong, sampled_by, sampled_in}
use Rattle.tdf_fixed.specs.declared.raw.Raw.{Raw}
use Rattle.tdf_schedule.specs.declared.entry.Entry.{Entry}

set_same : {A : Type 0} (xs : List A) (i : ℕ) (x : A) → i < length xs → slice_get (slice_set xs i x) i ≡ Some x
set_same [] i x h = absurd (omega (arith, h))
set_same (y ∷ xs) zero x h = refl
set_same (y ∷ xs) (suc i) x h = set_same xs i x (omega (arith, h))

set_other : {A : Type 0} (xs : List A) (i j : ℕ) (x : A) → i ≢ j → slice_get (slice_set xs i x) j ≡ slice_get xs j
set_other [] i j x other = refl
set_other (y ∷ xs) zero zero x other = absurd (other refl)
set_other (y ∷ xs) zero (suc j) x other = refl
set_other (y ∷ xs) (suc i) zero x other = refl
set_other (y ∷ xs) (suc i) (suc j) x other = set_other xs i j x (λ same. other (ap suc same))

-- one entry more
module _ (entries : List Entry) (low n : ℕ) (links : List Link) (values old cur new : List Raw) (x : Entry) (are : AreLinks links (length old))
    (signals : HaveSignals links (length values)) (before : AreSampledUpTo entries low n links values old cur) (from : low ≤ n) (at : slice_get entries n ≡ Some x)
    (step : new ≡ sampled_by links values x.actor cur) where
  more : (actor : ℕ) → IsAmong entries low n actor → IsAmong entries low (n + 1) actor
  more actor among = record { place = among.place; entry = among.entry; from = among.from; below = omega (arith, among.below); at = among.at; who = among.who }

  -- an entry up to this one is this one, or one before it
  split : (actor : ℕ) → IsAmong entries low (n + 1) actor → (x.actor ≡ actor) ⊎ IsAmong entries low n actor
  split actor among = choose (cases_eq among.place n)
    where
      choose : (among.place ≡ n) ⊎ (among.place ≢ n) → (x.actor ≡ actor) ⊎ IsAmong entries low n actor
      choose (inl same) = inl (ap (λ (y : Entry). y.actor) (same_Some x among.entry (sym at ∙ ap (slice_get entries) (sym same) ∙ among.at)) ∙ among.who)
      choose (inr other) = inr (record { place = among.place; entry = among.entry; from = among.from; below = omega (arith, among.below, other); at = among.at; who = among.who })

  -- nothing changes where this entry is of no sampler
  unchanged : new ≡ cur → ((j : ℕ) (l : Link) → slice_get links j ≡ Some l → l.sampler ≡ true → x.actor ≡ l.actor → ⊥) → AreSampledUpTo entries low (n + 1) links values old new
  unchanged same none = record {
    same = ap (λ (t : List Raw). length t) same ∙ before.same;
    due = λ j l here is among. ap (λ t. slice_get t l.place) same ∙ before.due j l here is (earlier j l here is (split l.actor among));
    others = λ i free. ap (λ t. slice_get t i) same ∙ before.others i (λ j l here is among. free j l here is (more l.actor among));
  }
    where
      earlier : (j : ℕ) (l : Link) → slice_get links j ≡ Some l → l.sampler ≡ true → (x.actor ≡ l.actor) ⊎ IsAmong entries low n l.actor → IsAmong entries low n l.actor
      earlier j l here is (inl this) = absurd (none j l here is this)
      earlier j l here is (inr among) = among

  -- the value of a sampler is set
  changed : (j : ℕ) (l : Link) → slice_get links j ≡ Some l → l.actor ≡ x.actor → l.sampler ≡ true → (v : Raw) → slice_get values l.signal ≡ Some v
      → new ≡ slice_set cur l.place v → AreSampledUpTo entries low (n + 1) links values old new
  changed j l here who is v value set = record {
    same = ap (λ (t : List Raw). length t) set ∙ length-set cur l.place v ∙ before.same;
    due = λ k m there sampler among. due k m there sampler among (cases_eq j k);
    others = λ i free.
        ap (λ t. slice_get t i) set
        ∙ set_other cur l.place i v (λ same. free j l here is (record { place = n; entry = x; from = from; below = omega arith; at = at; who = sym who }) same)
        ∙ before.others i (λ k m there sampler among. free k m there sampler (more m.actor among));
  }
    where
      inside : l.place < length cur
      inside = omega (arith, place_inside links (length old) are j l here is, before.same)

      due : (k : ℕ) (m : Link) → slice_get links k ≡ Some m → m.sampler ≡ true → IsAmong entries low (n + 1) m.actor → (j ≡ k) ⊎ (j ≢ k)
          → slice_get new m.place ≡ slice_get values m.signal
      due k m there sampler among (inl same) =
          let one : l ≡ m = same_Some l m (sym here ∙ ap (slice_get links) same ∙ there) in
          subst (λ (u : Link). slice_get new u.place ≡ slice_get values u.signal) one
          (ap (λ t. slice_get t l.place) set ∙ set_same cur l.place v inside ∙ sym value)
      due k m there sampler among (inr other) =
          ap (λ t. slice_get t m.place) set
          ∙ set_other cur l.place m.place v (λ same. other (one_place links (length old) are j k l m here there is sampler same))
          ∙ before.due k m there sampler (earlier (split m.actor among))
        where
          earlier : (x.actor ≡ m.actor) ⊎ IsAmong entries low n m.actor → IsAmong entries low n m.actor
          earlier (inl this) = absurd (other (one_link links are.order j k l m here there (who ∙ this)))
          earlier (inr among) = among

  pub sample_more : AreSampledUpTo entries low (n + 1) links values old new
  sample_more = choose (link_cases links x.actor)
    where
      zero_value : Raw
      zero_value = record { num = pos 0; frac = 0 }

      choose : ((j : ℕ) × (l : Link) × (slice_get links j ≡ Some l) × (l.actor ≡ x.actor) × (link_of links x.actor ≡ Some l))
          ⊎ (((j : ℕ) (l : Link) → slice_get links j ≡ Some l → l.actor ≡ x.actor → ⊥) × (link_of links x.actor ≡ None))
          → AreSampledUpTo entries low (n + 1) links values old new
      choose (inr (none, is)) = unchanged (step ∙ ap (λ o. sampled_in o values cur) is) (λ j l here sampler same. none j l here (sym same))
      choose (inl (j, l, here, who, is)) = by_kind l.sampler refl
        where
          by_kind : (b : Bool) → l.sampler ≡ b → AreSampledUpTo entries low (n + 1) links values old new
          by_kind true sampler =
              changed j l here who sampler (slice_index_or values l.signal zero_value) (slice_get-get_or values l.signal zero_value (signals.inside j l here))
              (step ∙ ap (λ o. sampled_in o values cur) is ∙ ap (λ (b : Bool). if b then slice_set cur l.place (slice_index_or values l.signal zero_value) else cur) sampler)
          by_kind false sink =
              unchanged (step ∙ ap (λ o. sampled_in o values cur) is ∙ ap (λ (b : Bool). if b then slice_set cur l.place (slice_index_or values l.signal zero_value) else cur) sink)
              (λ k m there sampler same. true_false (sym sampler ∙ ap (λ (u : Link). u.sampler) (sym (one k m there same)) ∙ sink))
            where
              one : (k : ℕ) (m : Link) → slice_get links k ≡ Some m → x.actor ≡ m.actor → l ≡ m
              one k m there same = same_Some l m (sym here ∙ ap (slice_get links) (one_link links are.order j k l m here there (who ∙ same)) ∙ there)

              true_false : true ≡ false → ⊥
              true_false h = absurd cc

-- none yet
pub sample_none : (entries : List Entry) (low : ℕ) (links : List Link) (values old : List Raw) → AreSampledUpTo entries low low links values old old
sample_none entries low links values old = record {
  same = refl;
  due = λ j l here is among. absurd (omega (arith, among.from, among.below));
  others = λ i free. refl;
}

-- the entries of an offset are those from the first on that isn't before it up to the first after it
pub all_sampled : (entries : List Entry) (offset low high : ℕ) (links : List Link) (values old new : List Raw)
    → ((j : ℕ) (x : Entry) → j < low → slice_get entries j ≡ Some x → x.offset < offset)
    → ((j : ℕ) (x : Entry) → low ≤ j → slice_get entries j ≡ Some x → offset ≤ x.offset)
    → ((j : ℕ) (x : Entry) → j < high → slice_get entries j ≡ Some x → x.offset ≤ offset)
    → ((j : ℕ) (x : Entry) → high ≤ j → slice_get entries j ≡ Some x → offset < x.offset)
    → AreSampledUpTo entries low high links values old new → AreSampled entries offset links values old new
all_sampled entries offset low high links values old new before from upto after done = record {
  same = done.same;
  due = λ j l here is due. done.due j l here is (among l.actor due);
  others = λ i free. done.others i (λ j l here is among. free j l here is (record {
    place = among.place;
    entry = among.entry;
    at = among.at;
    when = omega (arith, from among.place among.entry among.from among.at, upto among.place among.entry among.below among.at);
    who = among.who;
  }));
}
  where
    among : (actor : ℕ) → IsDue entries offset actor → IsAmong entries low high actor
    among actor due = choose (cases_lt due.place low) (cases_lt due.place high)
      where
        choose : (due.place < low) ⊎ (low ≤ due.place) → (due.place < high) ⊎ (high ≤ due.place) → IsAmong entries low high actor
        choose (inl less) there = absurd (omega (arith, before due.place due.entry less due.at, due.when))
        choose (inr past) (inl below) = record { place = due.place; entry = due.entry; from = past; below = below; at = due.at; who = due.who }
        choose (inr past) (inr over) = absurd (omega (arith, after due.place due.entry over due.at, due.when))

-- without links none is due
pub none_sampled : (entries : List Entry) (offset : ℕ) (values inputs : List Raw) → AreSampled entries offset [] values inputs inputs
none_sampled entries offset values inputs = record {
  same = refl;
  due = λ j l at. absurd cc;
  others = λ i none. refl;
}
