-- Update and delta notification as a whole.
use Rattle.std.proofs.Common.{◌≡◌, ℕ, zero, suc, ◌<◌, Bool, true, false, List, [], ◌∷◌, Option, Some, None, is_some, map, replicate, length, slice_get, slice_index_or, unwrap_or, refl, ap, sym, ◌∙◌, inl, inr, arith}
use Rattle.std.proofs.lemmas.Bool.{cases_lt, true≢false}
use Rattle.std.proofs.lemmas.List.{ext_get_or, get_or_past, length-map}
use Rattle.std.proofs.lemmas.Option.{slice_get_within}
use Rattle.tdf_events_queue.specs.Lists.{list_at}
use Rattle.tdf_events_queue.specs.Sets.{AreListed, is_on}
use Rattle.tdf_events_queue.specs.Triggered.{AreAllTriggered}
use Rattle.tdf_events.specs.Delta.{differs, updated}
use Rattle.tdf_events.specs.Side.{value_at}
use Rattle.tdf_events.specs.machine.Updating.{AreAllReached, AreGiven, AreReached, IsGiven, IsUntouched, does_change}
use Rattle.tdf_fixed.specs.declared.raw.Raw.{Raw}

abbrev nothing : Option Raw
nothing = None

abbrev what : List (Option Raw) → ℕ → Option Raw
what waiting s = slice_index_or waiting s nothing

-- a signal with a waiting value is listed
flag_at : (waiting : List (Option Raw)) (s : ℕ) → is_on (map is_some waiting) s ≡ is_some (what waiting s)
flag_at [] s = refl
flag_at (w ∷ ws) zero = refl
flag_at (w ∷ ws) (suc s) = flag_at ws s

listed_at : (flags : List Bool) (members : List ℕ) (waiting : List (Option Raw)) (s : ℕ) (v : Raw) → flags ≡ map is_some waiting → AreListed flags members → what waiting s ≡ Some v
    → (j : ℕ) × (slice_get members j ≡ Some s)
listed_at flags members waiting s v are listed is = listed.all s (ap (λ xs. is_on xs s) are ∙ flag_at waiting s ∙ ap is_some is)

pub member_inside : (flags : List Bool) (members : List ℕ) (waiting : List (Option Raw)) (i s : ℕ) → flags ≡ map is_some waiting → AreListed flags members → slice_get members i ≡ Some s → s < length waiting
member_inside flags members waiting i s are listed at = elim (cases_lt s (length flags)) [
  | inl less ↦ (let l = ap length are ∙ length-map waiting is_some in omega (arith, less, l))
  | inr past ↦ absurd (true≢false (sym (listed.on i s at) ∙ get_or_past flags s false past))
]

-- a signal that changes has a waiting value
pub reached_all : (lists : List (List ℕ)) (values : List Raw) (waiting : List (Option Raw)) (flags : List Bool) (members : List ℕ) (old new : List Bool) → flags ≡ map is_some waiting → AreListed flags members
    → AreReached lists (does_change values waiting) members (length members) old new → AreAllReached lists (does_change values waiting) old new
reached_all lists values waiting flags members old new are listed reached = record {
  same = reached.same;
  kept = reached.kept;
  set = λ s j p change there. set_one s j p change there (what waiting s) refl;
  only = λ p on. elim (reached.only p on) [
    | inl was ↦ inl was
    | inr by ↦ inr (record { number = by.number; passes = by.change; index = by.index; member = by.member })
  ];
}
  where
    set_one : (s j p : ℕ) → does_change values waiting s ≡ true → slice_get (list_at lists s) j ≡ Some p → (o : Option Raw) → what waiting s ≡ o → is_on new p ≡ true
    set_one s j p change there None is = absurd (true≢false (sym change ∙ ap (differs (value_at values s)) is))
    set_one s j p change there (Some v) is = let w = listed_at flags members waiting s v are listed is in reached.set w.0 s j p (slice_get_within members w.0 s w.1) w.1 change there

pub delta_all : (lists : List (List ℕ)) (flags : List Bool) (members : List ℕ) (old new : List Bool) → AreListed flags members → AreAllTriggered lists members (length members) old new → AreAllReached lists (is_on flags) old new
delta_all lists flags members old new listed all = record {
  same = all.same;
  kept = all.kept;
  set = λ s j p on there. (let w = listed.all s on in all.set w.0 s j p (slice_get_within members w.0 s w.1) w.1 there);
  only = λ p on. elim (all.only p on) [
    | inl was ↦ inl was
    | inr by ↦ inr (record { number = by.number; passes = listed.on by.place by.number by.at; index = by.index; member = by.member })
  ];
}

-- the values after the update
pub updated_at : (values : List Raw) (waiting : List (Option Raw)) (s : ℕ) → s < length values → value_at (updated values waiting) s ≡ unwrap_or (what waiting s) (value_at values s)
unfolding updated
updated_at [] waiting s less = absurd (omega (arith, less))
updated_at (v ∷ vs) [] s less = refl
updated_at (v ∷ vs) (w ∷ ws) zero less = refl
updated_at (v ∷ vs) (w ∷ ws) (suc s) less = updated_at vs ws s (omega (arith, less))

pub updated_long : (values : List Raw) (waiting : List (Option Raw)) → length (updated values waiting) ≡ length values
unfolding updated
updated_long [] waiting = refl
updated_long (v ∷ vs) [] = refl
updated_long (v ∷ vs) (w ∷ ws) = ap suc (updated_long vs ws)

-- the listed signals took their values, and nothing waits any more
given_at : (values new : List Raw) (from waiting : List (Option Raw)) (flags : List Bool) (members : List ℕ) → flags ≡ map is_some from → AreListed flags members
    → AreGiven members (length members) from waiting values new → (s : ℕ) → IsGiven from waiting values new s
given_at values new from waiting flags members are listed given s = one (what from s) refl
  where
    one : (o : Option Raw) → what from s ≡ o → IsGiven from waiting values new s
    one (Some v) is = let w = listed_at flags members from s v are listed is in given.given w.0 s (slice_get_within members w.0 s w.1) w.1
    one None is = elim (given.others s) [
      | inl kept ↦ record { value = kept.value ∙ sym (ap (λ o. unwrap_or o (value_at values s)) is); gone = kept.same ∙ is }
      | inr done ↦ done
    ]

pub taken_all : (values new : List Raw) (from waiting : List (Option Raw)) (flags : List Bool) (members : List ℕ) → flags ≡ map is_some from → AreListed flags members
    → AreGiven members (length members) from waiting values new → new ≡ updated values from
taken_all values new from waiting flags members are listed given = ext_get_or _ new (updated values from) (given.values ∙ sym (updated_long values from))
    (λ s less. (given_at values new from waiting flags members are listed given s).value ∙ sym (updated_at values from s (omega (arith, less, given.values))))

pub forgotten_all : (values new : List Raw) (from waiting : List (Option Raw)) (flags : List Bool) (members : List ℕ) → flags ≡ map is_some from → AreListed flags members
    → AreGiven members (length members) from waiting values new → waiting ≡ map (λ (value : Option Raw). nothing) from
forgotten_all values new from waiting flags members are listed given = ext_get_or nothing waiting (map (λ (value : Option Raw). nothing) from) (given.waits ∙ sym (length-map from (λ (value : Option Raw). nothing)))
    (λ s less. (given_at values new from waiting flags members are listed given s).gone ∙ sym (none_map from s))
  where
    none_map : (xs : List (Option Raw)) (s : ℕ) → what (map (λ (value : Option Raw). nothing) xs) s ≡ nothing
    none_map [] s = refl
    none_map (x ∷ xs) zero = refl
    none_map (x ∷ xs) (suc s) = none_map xs s

pub flags_gone : (xs : List (Option Raw)) → map is_some (map (λ (value : Option Raw). nothing) xs) ≡ replicate (length xs) false
flags_gone [] = refl
flags_gone (x ∷ xs) = ap (λ (bs : List Bool). false ∷ bs) (flags_gone xs)

pub all_false : (xs : List Bool) → map (λ (on : Bool). false) xs ≡ replicate (length xs) false
all_false [] = refl
all_false (x ∷ xs) = ap (λ (bs : List Bool). false ∷ bs) (all_false xs)

pub on_inside : (flags : List Bool) (members : List ℕ) (i s : ℕ) → AreListed flags members → slice_get members i ≡ Some s → s < length flags
on_inside flags members i s listed at = elim (cases_lt s (length flags)) [ inl less ↦ less | inr past ↦ absurd (true≢false (sym (listed.on i s at) ∙ get_or_past flags s false past)) ]
