-- The instances of modules go into a list, and come back.
use Rattle.std.proofs.Common.{◌≡◌, ◌∙◌, ◌≢◌, ℕ, ℤ, zero, suc, ◌+◌, ◌-◌, ◌<◌, ◌≤◌, List, [], ◌∷◌, ◌++◌, Some, option_map, Result, Ok, Err, OnErr, length, length-append, length-set, take, refl, sym, ap, subst, inl, inr, ◌⊎◌, arith}
use Rattle.std.proofs.lemmas.Bool.{cases_eq, cases_lt}
use Rattle.std.proofs.lemmas.List.{length-map}
use Rattle.std.proofs.lemmas.Option.{slice_get-map, slice_get_read, slice_get_within}
use Rattle.std.proofs.lemmas.Simd.{map-map}
use Rattle.std.specs.Prelude.{IfOk, slice_get, slice_index_or, slice_set}
use Rattle.tdf_bind_tables.specs.FlatTables.{FlatTablesOf}
use Rattle.tdf_dynamic.specs.Asked.{attrs_after}
use Rattle.tdf_dynamic.specs.Change.{Asks}
use Rattle.tdf_dynamic.specs.Given.{AreFramesOf, HaveCells, IsFrameOf}
use Rattle.tdf_dynamic.specs.Next.{IsNext}
use Rattle.tdf_dynamic.specs.declared.frames.ModuleFrame.{ModuleFrame}
use Rattle.tdf_dynamic.specs.declared.next.Next.{Next}
use Rattle.tdf_dynamic.specs.declared.next.Next.TheVariants.{Changed, Same}
use Rattle.tdf_dynamic_plans.specs.Attributes.{AttrsOf}
use Rattle.tdf_dynamic_plans.specs.declared.err.ChangeErr.{ChangeErr}
use Rattle.tdf_exec.proofs.Keeping.{get_set, get_set_other}
use Rattle.tdf_exec.proofs.Moved.{some_inj}
use Rattle.tdf_exec.specs.Crossing.{cells_in}
use Rattle.tdf_exec.specs.Runners.{ModuleOf}
use Rattle.tdf_exec.specs.declared.runners.Runner.{Runner}
use Rattle.tdf_exec.specs.declared.runners.Runner.TheVariants as runner
use Rattle.tdf_exec.specs.machine.Moving.{AreBack, AreInstances, AreModules, AreOut, AreValues, HaveInstances, IsNone, RestOf, frame_of, numbers_of, rest_of, whole_of}
use Rattle.tdf_bind.specs.declared.model.Flat.{Flat}
use Rattle.tdf_streams.proofs.Api.{get_high, get_inside, get_low}

-- the number of a row that was read
pub number_at : (rows : List AttrsOf) (i : ℕ) (x : AttrsOf) (n : ℕ) → i < length rows → x ≡ slice_index_or rows i x → n ≡ x.number → slice_get (numbers_of rows) i ≡ Some n
number_at rows i x n below is same =
    slice_get-map (λ (a : AttrsOf). a.number) rows i ∙ ap (option_map (λ (a : AttrsOf). a.number)) (slice_get_read rows (length rows) i x refl below is) ∙ ap Some (sym same)

-- one module more is in the lists
module _ (numbers : List ℕ) (n m : ℕ) (old cur : List Runner) (frames : List ModuleFrame) (rests : List RestOf) (are : AreModules numbers old) (at : slice_get numbers n ≡ Some m)
    (out : AreOut numbers n old cur frames rests) where
  none_before : IsNone numbers 0 n m
  none_before i from below there = absurd (let e = are.once i n m there at in omega (arith, e, below))

  pub still_there : (x : ModuleOf) → slice_get old m ≡ Some (runner.Module x) → slice_get cur m ≡ Some (runner.Module x)
  still_there x there = out.others m none_before ∙ there

  pub out_more : (x : ModuleOf) (o : Runner) → slice_get old m ≡ Some (runner.Module x) → AreOut numbers (n + 1) old (slice_set cur m o) (frames ++ frame_of x ∷ []) (rests ++ rest_of x ∷ [])
  out_more x o there = record {
    same = length-set cur m o ∙ out.same;
    frames_long = length-append frames (frame_of x ∷ []) ∙ ap (λ k. k + 1) out.frames_long;
    rests_long = length-append rests (rest_of x ∷ []) ∙ ap (λ k. k + 1) out.rests_long;
    each = λ i k y below here is. each i k y below here is (cases_lt i n);
    others = λ k none. get_set_other cur m k o (λ same. none n (omega arith) (omega arith) (at ∙ ap Some (sym same)))
        ∙ out.others k (λ i from below here. none i from (omega (arith, below)) here);
  }
    where
      each : (i k : ℕ) (y : ModuleOf) → i < n + 1 → slice_get numbers i ≡ Some k → slice_get old k ≡ Some (runner.Module y) → (i < n) ⊎ (n ≤ i)
          → (slice_get (frames ++ frame_of x ∷ []) i ≡ Some (frame_of y)) × (slice_get (rests ++ rest_of x ∷ []) i ≡ Some (rest_of y))
      each i k y below here is (inl low) =
          let e = out.each i k y low here is in
          (get_low frames (frame_of x ∷ []) i (let l = out.frames_long in omega (arith, l, low)) ∙ e.0, get_low rests (rest_of x ∷ []) i (let l = out.rests_long in omega (arith, l, low)) ∙ e.1)
      each i k y below here is (inr high) =
          let same : i ≡ n = omega (arith, below, high) in
          let k_is : m ≡ k = some_inj m k (sym at ∙ ap (slice_get numbers) (sym same) ∙ here) in
          let x_is : x ≡ y = ap module_of (some_inj (runner.Module x) (runner.Module y) (sym there ∙ ap (slice_get old) k_is ∙ is)) in
          let fz : i - length frames ≡ 0 = (let l = out.frames_long in omega (arith, l, same)) in
          let rz : i - length rests ≡ 0 = (let l = out.rests_long in omega (arith, l, same)) in (
            get_high frames (frame_of x ∷ []) i (let l = out.frames_long in omega (arith, l, high)) ∙ ap (slice_get (frame_of x ∷ [])) fz ∙ ap (λ z. Some (frame_of z)) x_is,
            get_high rests (rest_of x ∷ []) i (let l = out.rests_long in omega (arith, l, high)) ∙ ap (slice_get (rest_of x ∷ [])) rz ∙ ap (λ z. Some (rest_of z)) x_is,
          )
        where
          module_of : Runner → ModuleOf
          module_of (runner.Module z) = z
          module_of _ = x

-- the same, where the lists are seen another way
pub out_step : (numbers : List ℕ) (n m : ℕ) (old cur now : List Runner) (frames : List ModuleFrame) (rests : List RestOf) (more : List ModuleFrame) (left : List RestOf) → AreModules numbers old
    → slice_get numbers n ≡ Some m → AreOut numbers n old cur frames rests → (x : ModuleOf) (o : Runner) → slice_get old m ≡ Some (runner.Module x) → now ≡ slice_set cur m o
    → more ≡ frames ++ frame_of x ∷ [] → left ≡ rests ++ rest_of x ∷ [] → AreOut numbers (n + 1) old now more left
out_step numbers n m old cur now frames rests more left are at out x o there now_is more_is left_is =
    subst (λ l. AreOut numbers (n + 1) old now more l) (sym left_is)
    (subst (λ l. AreOut numbers (n + 1) old now l (rests ++ rest_of x ∷ [])) (sym more_is)
    (subst (λ l. AreOut numbers (n + 1) old l (frames ++ frame_of x ∷ []) (rests ++ rest_of x ∷ [])) (sym now_is) (out_more numbers n m old cur frames rests are at out x o there)))

pub out_start : (numbers : List ℕ) (old : List Runner) (frames : List ModuleFrame) (rests : List RestOf) → frames ≡ [] → rests ≡ [] → AreOut numbers 0 old old frames rests
out_start numbers old frames rests no_frames no_rests = record {
  same = refl;
  frames_long = ap length no_frames;
  rests_long = ap length no_rests;
  each = λ i m x below. absurd (omega (arith, below));
  others = λ m none. refl;
}

-- one module more is back
pub back_start : (numbers : List ℕ) (old : List Runner) (frames : List ModuleFrame) (rests : List RestOf) (n : ℕ) → n ≡ length numbers → AreBack numbers n old old frames rests
back_start numbers old frames rests n end = record {
  same = refl;
  each = λ i m f r past at. absurd (let w = slice_get_within numbers i m at in omega (arith, w, past, end));
  others = λ m none. refl;
}

pub back_more : (numbers : List ℕ) (n m : ℕ) (old cur : List Runner) (frames : List ModuleFrame) (rests : List RestOf) (f : ModuleFrame) (r : RestOf)
    → ((i j k : ℕ) → slice_get numbers i ≡ Some k → slice_get numbers j ≡ Some k → i ≡ j) → slice_get numbers n ≡ Some m → m < length old
    → slice_get frames n ≡ Some f → slice_get rests n ≡ Some r → AreBack numbers (n + 1) old cur frames rests
    → AreBack numbers n old (slice_set cur m (runner.Module (whole_of f r))) frames rests
back_more numbers n m old cur frames rests f r once at inside f_at r_at back = record {
  same = length-set cur m (runner.Module (whole_of f r)) ∙ back.same;
  each = λ i k g s past here g_at s_at. each i k g s past here g_at s_at (cases_eq k m);
  others = λ k none. get_set_other cur m k (runner.Module (whole_of f r)) (λ same. none n (omega arith) (slice_get_within numbers n m at) (at ∙ ap Some (sym same)))
      ∙ back.others k (λ i from below here. none i (omega (arith, from)) below here);
}
  where
    each : (i k : ℕ) (g : ModuleFrame) (s : RestOf) → n ≤ i → slice_get numbers i ≡ Some k → slice_get frames i ≡ Some g → slice_get rests i ≡ Some s → (k ≡ m) ⊎ (k ≢ m)
        → slice_get (slice_set cur m (runner.Module (whole_of f r))) k ≡ Some (runner.Module (whole_of g s))
    each i k g s past here g_at s_at (inl same) =
        let place : i ≡ n = once i n m (here ∙ ap Some same) at in
        let f_is : f ≡ g = some_inj f g (sym f_at ∙ ap (slice_get frames) (sym place) ∙ g_at) in
        let r_is : r ≡ s = some_inj r s (sym r_at ∙ ap (slice_get rests) (sym place) ∙ s_at) in
        ap (slice_get (slice_set cur m (runner.Module (whole_of f r)))) same
        ∙ get_set cur m (runner.Module (whole_of f r)) (let l = back.same in omega (arith, inside, l))
        ∙ ap (λ q. Some (runner.Module (whole_of q r))) f_is ∙ ap (λ q. Some (runner.Module (whole_of g q))) r_is
    each i k g s past here g_at s_at (inr apart) =
        let later : n + 1 ≤ i = elim (cases_eq i n) [
          | inl same ↦ absurd (apart (some_inj k m (sym here ∙ ap (slice_get numbers) same ∙ at)))
          | inr other ↦ omega (arith, past, other)
        ] in
        get_set_other cur m k (runner.Module (whole_of f r)) apart ∙ back.each i k g s later here g_at s_at

-- the last of the first items of a list
taken_long : {A : Type 0} (n : ℕ) (xs : List A) → n < length xs → length (take (suc n) xs) ≡ suc n
taken_long n [] below = absurd (omega (arith, below))
taken_long zero (x ∷ xs) below = refl
taken_long (suc n) (x ∷ xs) below = ap suc (taken_long n xs (omega (arith, below)))

taken_again : {A : Type 0} (n : ℕ) (xs : List A) → take n (take (suc n) xs) ≡ take n xs
taken_again zero xs = refl
taken_again (suc n) [] = refl
taken_again (suc n) (x ∷ xs) = ap (λ l. x ∷ l) (taken_again n xs)

taken_at : {A : Type 0} (n : ℕ) (xs : List A) (x : A) → slice_get xs n ≡ Some x → slice_get (take (suc n) xs) n ≡ Some x
taken_at n [] x at = at
taken_at zero (y ∷ xs) x at = at
taken_at (suc n) (y ∷ xs) x at = taken_at n xs x at

module _ {A : Type 0} (left n : ℕ) (xs shown : List A) (next : left ≡ suc n) (below : n < length xs) (is : shown ≡ take left xs) where
  last_place : length shown - 1 ≡ n
  last_place = let l : length shown ≡ suc n = ap length (is ∙ ap (λ k. take k xs) next) ∙ taken_long n xs below in omega (arith, l)

  last_at : (x : A) → slice_get xs n ≡ Some x → slice_get shown (length shown - 1) ≡ Some x
  last_at x at = ap (slice_get shown) last_place ∙ ap (λ l. slice_get l n) (is ∙ ap (λ k. take k xs) next) ∙ taken_at n xs x at

  pub fewer : (new : List A) → new ≡ take (length shown - 1) shown → new ≡ take n xs
  fewer new new_is = new_is ∙ ap (λ k. take k shown) last_place ∙ ap (take n) (is ∙ ap (λ k. take k xs) next) ∙ taken_again n xs

-- the last of the lists comes back
pub back_step : (numbers : List ℕ) (left n m : ℕ) (old cur now : List Runner) (frames shown : List ModuleFrame) (rests kept : List RestOf) → left ≡ suc n
    → ((i j k : ℕ) → slice_get numbers i ≡ Some k → slice_get numbers j ≡ Some k → i ≡ j) → slice_get numbers n ≡ Some m → m < length old → n < length frames → n < length rests
    → shown ≡ take left frames → kept ≡ take left rests
    → ((f : ModuleFrame) (r : RestOf) → slice_get shown (length shown - 1) ≡ Some f → slice_get kept (length kept - 1) ≡ Some r → now ≡ slice_set cur m (runner.Module (whole_of f r)))
    → AreBack numbers left old cur frames rests → AreBack numbers n old now frames rests
back_step numbers left n m old cur now frames shown rests kept next once at inside frames_below rests_below shown_is kept_is now_is back =
    let f = get_inside frames n frames_below in
    let r = get_inside rests n rests_below in
    let one : left ≡ n + 1 = omega (arith, next) in
    subst (λ l. AreBack numbers n old l frames rests)
    (sym (now_is f.0 r.0 (last_at left n frames shown next frames_below shown_is f.0 f.1) (last_at left n rests kept next rests_below kept_is r.0 r.1)))
    (back_more numbers n m old cur frames rests f.0 r.0 once at inside f.1 r.1 (subst (λ k. AreBack numbers k old cur frames rests) one back))

-- out, changed, and back
pub instances : (numbers : List ℕ) (n : ℕ) (old out new : List Runner) (first frames : List ModuleFrame) (rests : List RestOf) → n ≡ length numbers → length frames ≡ n
    → AreOut numbers n old out first rests → AreBack numbers 0 out new frames rests → HaveInstances numbers frames old new
instances numbers n old out new first frames rests end long away back = record {
  same = back.same ∙ away.same;
  long = long ∙ end;
  each = λ i m x f at f_at is. back.each i m f (rest_of x) (omega arith) at f_at (away.each i m x (let w = slice_get_within numbers i m at in omega (arith, w, end)) at is).1;
  others = λ m none. back.others m none ∙ away.others m (λ i from below here. none i from (omega (arith, below, end)) here);
}

-- the number of a row
pub number_of : (table : List AttrsOf) (i : ℕ) (a : AttrsOf) → slice_get table i ≡ Some a → slice_get (numbers_of table) i ≡ Some a.number
number_of table i a at = slice_get-map (λ (b : AttrsOf). b.number) table i ∙ ap (option_map (λ (b : AttrsOf). b.number)) at

-- the instances in the list are those of the rows
module _ (flat : Flat) (table : List AttrsOf) (old mid : List Runner) (frames : List ModuleFrame) (rests : List RestOf) (are : AreModules (numbers_of table) old)
    (out : AreOut (numbers_of table) (length table) old mid frames rests) where
  pub record StandsFor (i : ℕ) (a : AttrsOf) (f : ModuleFrame) : Type 0 where
    pub x : ModuleOf
    pub there : slice_get old a.number ≡ Some (runner.Module x)
    pub is : frame_of x ≡ f

  stands_for : (i : ℕ) (a : AttrsOf) (f : ModuleFrame) → slice_get table i ≡ Some a → slice_get frames i ≡ Some f → StandsFor i a f
  stands_for i a f at f_at =
      let n_at = number_of table i a at in
      let x = are.each i a.number n_at in
      let e = out.each i a.number x.0 (slice_get_within table i a at) n_at x.1 in
      record { x = x.0; there = x.1; is = some_inj (frame_of x.0) f (sym e.0 ∙ f_at) }

  pub frames_of : AreInstances flat table old → AreFramesOf flat table frames
  frames_of inst = record {
    long = out.frames_long;
    each = λ i a f at f_at.
        let s = stands_for i a f at f_at in
        subst (IsFrameOf flat a) s.is (record { made = inst.made i a s.x at s.there; rates = inst.rates i a s.x at s.there });
  }

  pub have_cells : (cells : ℕ → List ℤ) → AreValues table old cells → HaveCells table frames cells
  have_cells cells are = record {
    each = λ i a f at f_at.
        let s = stands_for i a f at f_at in
        ap (λ (g : ModuleFrame). g.frame.state.cells) (sym s.is) ∙ sym (ap cells_in s.there) ∙ sym (are i a at);
  }

-- a boundary leaves the numbers of a table
pub numbers_same : (tables : FlatTablesOf) (cluster : ℕ) (asks : Asks) (table new : List AttrsOf) (r : Result Next ChangeErr) → IfOk r (IsNext tables cluster asks table new) → OnErr r (new ≡ table)
    → numbers_of new ≡ numbers_of table
numbers_same tables cluster asks table new (Ok Same) is kept = ap numbers_of is.1 ∙ map-map (λ (a : AttrsOf). a.number) (λ (a : AttrsOf). attrs_after a (asks a)) table
numbers_same tables cluster asks table new (Ok (Changed attrs plan)) is kept = ap numbers_of is.0
numbers_same tables cluster asks table new (Err e) is kept = ap numbers_of kept

pub numbers_long : (table : List AttrsOf) → length (numbers_of table) ≡ length table
numbers_long table = length-map table (λ (a : AttrsOf). a.number)

-- all of it, where the table is seen another way before and after
module _ (flat : Flat) (cluster : ℕ) (table shown later new : List AttrsOf) (before : shown ≡ table) (after : later ≡ new) (old mid : List Runner) (frames : List ModuleFrame) (rests : List RestOf)
    (are : AreModules (numbers_of table) old) (out : AreOut (numbers_of shown) (length shown) old mid frames rests) where
  pub out_is : AreOut (numbers_of table) (length table) old mid frames rests
  out_is = subst (λ (t : List AttrsOf). AreOut (numbers_of t) (length t) old mid frames rests) before out

  module _ (asks : Asks) (r : Result Next ChangeErr) (next : IfOk r (IsNext flat.tables cluster asks table new)) (kept : OnErr r (new ≡ table)) where
    later_numbers : numbers_of later ≡ numbers_of table
    later_numbers = ap numbers_of after ∙ numbers_same flat.tables cluster asks table new r next kept

    pub at_first : (i m : ℕ) → slice_get (numbers_of later) i ≡ Some m → slice_get (numbers_of table) i ≡ Some m
    at_first i m at = ap (λ (l : List ℕ). slice_get l i) (sym later_numbers) ∙ at

    pub all_inside : (i m : ℕ) → slice_get (numbers_of later) i ≡ Some m → m < length mid
    all_inside i m at =
        let x = are.each i m (at_first i m at) in
        let w = slice_get_within old m (runner.Module x.0) x.1 in let s = out_is.same in omega (arith, w, s)

    pub all_once : (i j m : ℕ) → slice_get (numbers_of later) i ≡ Some m → slice_get (numbers_of later) j ≡ Some m → i ≡ j
    all_once i j m at there = are.once i j m (at_first i m at) (at_first j m there)

    pub later_long : length later ≡ length table
    later_long = sym (numbers_long later) ∙ ap length later_numbers ∙ numbers_long table

    pub have_instances : (left : List ModuleFrame) (now : List Runner) → length left ≡ length frames → AreBack (numbers_of later) 0 mid now left rests
        → HaveInstances (numbers_of table) left old now
    have_instances left now long back =
        instances (numbers_of table) (length table) old mid now frames left rests (sym (numbers_long table)) (long ∙ out_is.frames_long) out_is
        (subst (λ (l : List ℕ). AreBack l 0 mid now left rests) later_numbers back)
