-- One writer more, one signal more.
use Rattle.std.proofs.Common.{◌≡◌, ◌∙◌, ℕ, ◌+◌, ◌<◌, ◌≤◌, zero, suc, Bool, true, false, List, [], ◌∷◌, ◌++◌, Option, Some, None, ◌⊎◌, inl, inr, length, take, drop, refl, sym, ap, subst, arith}
use Rattle.std.proofs.Math.ListN.{get_or}
use Rattle.std.proofs.lemmas.Bool.{cases_eq}
use Rattle.std.proofs.lemmas.Bool.Decides.{nat_tests}
use Rattle.std.proofs.lemmas.List.{take_more, drop_more, drop_all, append-nil, get_or-set_same, get_or-set_other, length-set}
use Rattle.std.proofs.lemmas.List.Elements.{filter-append}
use Rattle.std.specs.List.{cons_option}
use Rattle.std.specs.Prelude.{slice_get, filter, filter_map, nat_eq, cond}
use Rattle.tdf_bind_connections.specs.Drivers.{driver_of, driver, with_writer, AreDrivers}
use Rattle.tdf_bind_connections.specs.machine.DriverSteps.{driver_in, noted}
use Rattle.tdf_bind_connections.specs.declared.drivers.Driver.{Driver}
use Rattle.tdf_bind_connections.specs.declared.drivers.Driver.TheVariants.{Missing}
use Rattle.tdf_bind_connections.specs.declared.writers.Writer.{Writer}

same_number : (a b : ℕ) → a ≡ b → nat_eq a b ≡ true
same_number a b e = grind (arith, nat_tests)

other_number : (a b : ℕ) → (a ≡ b → ⊥) → nat_eq a b ≡ false
other_number a b e = grind (arith, nat_tests)

one_more : (ws : List Writer) (w : Writer) → driver_of (ws ++ w ∷ []) ≡ with_writer w.port (driver_of ws)
one_more [] w = refl
one_more (x ∷ []) w = refl
one_more (x ∷ y ∷ ws) w = refl

driver_more : (signal : ℕ) (ws : List Writer) (w : Writer) (b : Bool) → nat_eq w.signal signal ≡ b
    → driver signal (ws ++ w ∷ []) ≡ cond b (with_writer w.port (driver signal ws)) (driver signal ws)
driver_more signal ws w true e = ap driver_of (filter-append (λ v. nat_eq v.signal signal) ws (w ∷ []) ∙ ap (λ c. filter (λ v. nat_eq v.signal signal) ws ++ cond c (w ∷ []) []) e) ∙ one_more (filter (λ v. nat_eq v.signal signal) ws) w
driver_more signal ws w false e = ap driver_of (filter-append (λ v. nat_eq v.signal signal) ws (w ∷ []) ∙ ap (λ c. filter (λ v. nat_eq v.signal signal) ws ++ cond c (w ∷ []) []) e ∙ append-nil (filter (λ v. nat_eq v.signal signal) ws))

noted_more : (count : ℕ) (ws : List Writer) (w : Writer) (ds : List Driver) → AreDrivers count ws ds → AreDrivers count (ws ++ w ∷ []) (noted w ds)
noted_more count ws w ds h = record {
  long = length-set ds w.signal (with_writer w.port (driver_in ds w.signal)) ∙ h.long;
  each = λ signal within. each signal within (cases_eq w.signal signal);
}
  where
    each : (signal : ℕ) → signal < count → (w.signal ≡ signal) ⊎ (w.signal ≡ signal → ⊥) → driver_in (noted w ds) signal ≡ driver signal (ws ++ w ∷ [])
    each signal within (inl e) =
        ap (driver_in (noted w ds)) (sym e) ∙ get_or-set_same ds w.signal (with_writer w.port (driver_in ds w.signal)) Missing (let l = h.long in omega (arith, e, within, l))
        ∙ ap (λ s. with_writer w.port (driver_in ds s)) e ∙ ap (with_writer w.port) (h.each signal within) ∙ sym (driver_more signal ws w true (same_number w.signal signal e))
    each signal within (inr n) =
        get_or-set_other ds w.signal signal (with_writer w.port (driver_in ds w.signal)) Missing (λ e. n (sym e))
        ∙ h.each signal within ∙ sym (driver_more signal ws w false (other_number w.signal signal n))

pub writer_next : (count : ℕ) (writers : List Writer) (i : ℕ) (w d : Writer) (old new : List Driver) → i < length writers → AreDrivers count (take i writers) old
    → w ≡ get_or writers i d → new ≡ noted w old → AreDrivers count (take (i + 1) writers) new
writer_next count writers i w d old new within h w_is new_is =
    subst (λ ws. AreDrivers count ws new) (sym (take_more writers i d within ∙ ap (λ (x : Writer). take i writers ++ x ∷ []) (sym w_is)))
    (subst (AreDrivers count (take i writers ++ w ∷ [])) (sym new_is) (noted_more count (take i writers) w old h))

-- drivers before any writer
missing_more : (n signal : ℕ) (ds : List Driver) → length ds ≡ n → ((s : ℕ) → s < n → driver_in ds s ≡ Missing) → signal < n + 1 → driver_in (ds ++ Missing ∷ []) signal ≡ Missing
missing_more n signal [] long each within = last signal
  where
    last : (s : ℕ) → driver_in (Missing ∷ []) s ≡ Missing
    last zero = refl
    last (suc s) = refl
missing_more n zero (d ∷ ds) long each within = each zero (omega (arith, long))
missing_more n (suc signal) (d ∷ ds) long each within = missing_more (length ds) signal ds refl (λ s less. each (suc s) (omega (arith, long, less))) (omega (arith, long, within))

pub missing_next : (n : ℕ) (old new : List Driver) → AreDrivers n [] old → new ≡ old ++ Missing ∷ [] → AreDrivers (n + 1) [] new
missing_next n old new h new_is = subst (AreDrivers (n + 1) []) (sym new_is) (record {
  long = let l = h.long in longer old ∙ omega (arith, l);
  each = λ signal within. missing_more n signal old h.long h.each within;
})
  where
    longer : (ds : List Driver) → length (ds ++ Missing ∷ []) ≡ length ds + 1
    longer [] = refl
    longer (d ∷ ds) = let e = longer ds in omega (arith, e)

-- the first of what a list gives
pub first_none : {A B : Type 0} (f : A → Option B) (xs : List A) (i : ℕ) (x : A) (found : Option B) → i < length xs → x ≡ get_or xs i x → f x ≡ None
    → slice_get (filter_map f (drop i xs)) 0 ≡ found → slice_get (filter_map f (drop (i + 1) xs)) 0 ≡ found
first_none f xs i x found within x_is none h =
    ap (λ o. slice_get (cons_option o (filter_map f (drop (i + 1) xs))) 0) (sym none) ∙ ap (λ y. slice_get (cons_option (f y) (filter_map f (drop (i + 1) xs))) 0) x_is
    ∙ ap (λ l. slice_get (filter_map f l) 0) (sym (drop_more xs i x within)) ∙ h

pub first_some : {A B : Type 0} (f : A → Option B) (xs : List A) (i : ℕ) (x : A) (y : B) → i < length xs → x ≡ get_or xs i x → f x ≡ Some y
    → slice_get (filter_map f (drop i xs)) 0 ≡ Some y
first_some f xs i x y within x_is some =
    ap (λ l. slice_get (filter_map f l) 0) (drop_more xs i x within) ∙ ap (λ z. slice_get (cons_option (f z) (filter_map f (drop (i + 1) xs))) 0) (sym x_is)
    ∙ ap (λ o. slice_get (cons_option o (filter_map f (drop (i + 1) xs))) 0) some

pub first_end : {A B : Type 0} (f : A → Option B) (xs : List A) (i : ℕ) → length xs ≤ i → slice_get (filter_map f (drop i xs)) 0 ≡ None
first_end f xs i past = ap (λ l. slice_get (filter_map f l) 0) (drop_all i xs past)
