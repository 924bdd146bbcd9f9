-- From what the instances say to what the modules ask for.
use Rattle.std.proofs.Common.{◌≡◌, ◌∙◌, ℕ, suc, ◌<◌, ◌≤◌, ◌⊎◌, Bool, true, false, List, [], ◌∷◌, Option, Some, None, length, map, refl, sym, ap, subst, inl, inr, arith}
use Rattle.std.proofs.lemmas.Bool.{cases_lt}
use Rattle.std.proofs.lemmas.List.Elements.{All-from_recursion, recursion_from_All}
use Rattle.std.proofs.lemmas.Option.{same_Some, slice_get-get_or, slice_get-map, slice_get_past, slice_get_within}
use Rattle.std.specs.List.{AllByRecursion}
use Rattle.std.specs.Option.{option_map}
use Rattle.std.specs.Prelude.{All, slice_get, slice_index_or}
use Rattle.tdf_base.specs.Limits.{time_end}
use Rattle.tdf_base.specs.declared.faults.Fault.{Fault}
use Rattle.tdf_bind_tables.specs.FlatTables.{FlatTablesOf}
use Rattle.tdf_dynamic.proofs.Keeping.{AreShort}
use Rattle.tdf_dynamic.proofs.Steps.{steps_long}
use Rattle.tdf_dynamic.specs.Asked.{AskedOf, HasSameRates, IsQuiet, attrs_after, steps_after}
use Rattle.tdf_dynamic.specs.Change.{AreUnmarked, Asks, IsChangeFault, IsFirstChangeFault, IsFirstRow, IsMarked, IsNewPlan, IsSame, OfPlan, OfRange, OfRejected, OfSteps, Rejects, TimingsOf, table_after}
use Rattle.tdf_dynamic.specs.declared.frames.ModuleFrame.{ModuleFrame}
use Rattle.tdf_dynamic.specs.machine.Asking.{CanTell, told}
use Rattle.tdf_dynamic.specs.machine.Boundary.{InRange, InTable, IsRefusedAt, Marks, NoneMarks}
use Rattle.tdf_dynamic.specs.machine.Judging.{AreTimed, InPlan, InRejected, InSteps, IsJudged, IsJudgedFault, NoneRefuse, Refuses}
use Rattle.tdf_dynamic.specs.machine.Rows.{AreAfter, AreFlagged, HoldsBelow, IsFirstPlace, flagged}
use Rattle.tdf_dynamic_plans.specs.Attributes.{AttrsOf, IsOfCluster}
use Rattle.tdf_bind.specs.declared.model.Flat.{Flat}
use Rattle.tdf_streams.proofs.Api.{get_inside}
use Rattle.tdf_schedule.specs.declared.entry.Plan.{Plan}
use Rattle.tdf_streams.specs.Periods.{AreAttributes, HasAllowedRates}

-- the instances say what is asked for
pub record Tell (asks : Asks) (table : List AttrsOf) (frames : List ModuleFrame) : Type 0 where
  pub long : length frames ≡ length table
  pub each : (i : ℕ) (attrs : AttrsOf) (f : ModuleFrame) → slice_get table i ≡ Some attrs → slice_get frames i ≡ Some f → told f ≡ asks attrs

all_from : {A : Type 0} (P : A → Type 0) (xs : List A) → ((j : ℕ) (x : A) → slice_get xs j ≡ Some x → P x) → All P xs
all_from P xs each = λ j d below. each j (slice_index_or xs j d) (slice_get-get_or xs j d below)

ext_get : {A : Type 0} (xs ys : List A) → ((j : ℕ) → slice_get xs j ≡ slice_get ys j) → xs ≡ ys
ext_get [] [] same = refl
ext_get [] (y ∷ ys) same = let e : None ≡ Some y = same 0 in absurd cc
ext_get (x ∷ xs) [] same = let e : Some x ≡ None = same 0 in absurd cc
ext_get (x ∷ xs) (y ∷ ys) same = ap (λ z. z ∷ xs) (same_Some x y (same 0)) ∙ ap (λ l. y ∷ l) (ext_get xs ys (λ j. same (suc j)))

-- a list whose places are told by those of two others
ext_rows : (table : List AttrsOf) (frames : List ModuleFrame) (rows : List AttrsOf) (g : AttrsOf → AttrsOf) → length frames ≡ length table → length rows ≡ length table
    → ((j : ℕ) (a : AttrsOf) (f : ModuleFrame) → slice_get table j ≡ Some a → slice_get frames j ≡ Some f → slice_get rows j ≡ Some (g a)) → rows ≡ map g table
ext_rows table frames rows g long same each = ext_get rows (map g table) (λ j. go j (cases_lt j (length table)) ∙ sym (slice_get-map g table j))
  where
    go : (j : ℕ) → (j < length table) ⊎ (length table ≤ j) → slice_get rows j ≡ option_map g (slice_get table j)
    go j (inl less) =
        let a = get_inside table j less in
        let f = get_inside frames j (omega (arith, less, long)) in
        each j a.0 f.0 a.1 f.1 ∙ sym (ap (option_map g) a.1)
    go j (inr most) = slice_get_past rows j (omega (arith, most, same)) ∙ sym (ap (option_map g) (slice_get_past table j most))

-- attributes after the change bodies are those of a cluster
steps_short : (steps : List ℕ) (said : List (Option ℕ)) → AllByRecursion (λ s. s < time_end) steps → AreShort said → AllByRecursion (λ s. s < time_end) (steps_after steps said)
steps_short [] said all short = tt
steps_short (x ∷ steps) [] all short = all
steps_short (x ∷ steps) (None ∷ said) all short = (all.0, steps_short steps said all.1 (λ j s at. short (suc j) s at))
steps_short (x ∷ steps) (Some s ∷ said) all short = (short 0 s refl, steps_short steps said all.1 (λ j t at. short (suc j) t at))

pub of_cluster : (tables : FlatTablesOf) (cluster : ℕ) (a : AttrsOf) (q : AskedOf) → IsOfCluster tables cluster a → AreShort q.steps → IsOfCluster tables cluster (attrs_after a q)
of_cluster tables cluster a q of short = record {
  is_module = of.is_module;
  inside = of.inside;
  own = of.own;
  each = steps_long a.steps q.steps ∙ of.each;
  short = All-from_recursion (λ s. s < time_end) (steps_after a.steps q.steps) (steps_short a.steps q.steps (recursion_from_All (λ s. s < time_end) a.steps of.short) short);
}

pub attributes_after : (flat : Flat) (cluster : ℕ) (table : List AttrsOf) (frames : List ModuleFrame) → AreAttributes flat cluster table → length frames ≡ length table
    → ((i : ℕ) (a : AttrsOf) (f : ModuleFrame) → slice_get table i ≡ Some a → slice_get frames i ≡ Some f → CanTell flat a f × AreShort f.ports.state.steps)
    → (after : List AttrsOf) → AreAfter table frames (length table) after → AreAttributes flat cluster after
attributes_after flat cluster table frames of long each after is = record {
  own = all_from (IsOfCluster flat.tables cluster) after (λ j x at. own j x at);
  allowed = all_from (HasAllowedRates flat) after (λ j x at. allowed j x at);
}
  where
    own_all : (j : ℕ) (a : AttrsOf) → slice_get table j ≡ Some a → IsOfCluster flat.tables cluster a
    own_all j a at = subst (IsOfCluster flat.tables cluster) (same_Some _ a (sym (slice_get-get_or table j a (slice_get_within table j a at)) ∙ at)) (of.own j a (slice_get_within table j a at))

    own : (j : ℕ) (x : AttrsOf) → slice_get after j ≡ Some x → IsOfCluster flat.tables cluster x
    own j x at =
        let below : j < length table = (let w = slice_get_within after j x at in let l = is.long in omega (arith, w, l)) in
        let a = get_inside table j below in
        let f = get_inside frames j (omega (arith, below, long)) in
        subst (IsOfCluster flat.tables cluster) (same_Some _ x (sym (is.each j a.0 f.0 below a.1 f.1) ∙ at)) (of_cluster flat.tables cluster a.0 (told f.0) (own_all j a.0 a.1) (each j a.0 f.0 a.1 f.1).1)

    allowed : (j : ℕ) (x : AttrsOf) → slice_get after j ≡ Some x → HasAllowedRates flat x
    allowed j x at =
        let below : j < length table = (let w = slice_get_within after j x at in let l = is.long in omega (arith, w, l)) in
        let a = get_inside table j below in
        let f = get_inside frames j (omega (arith, below, long)) in
        subst (HasAllowedRates flat) (same_Some _ x (sym (is.each j a.0 f.0 below a.1 f.1) ∙ at)) (each j a.0 f.0 a.1 f.1).0.allowed

module _ (asks : Asks) (table : List AttrsOf) (frames : List ModuleFrame) (tell : Tell asks table frames) where
  pub after_is : (after : List AttrsOf) → AreAfter table frames (length table) after → after ≡ table_after asks table
  after_is after is = ext_rows table frames after (λ a. attrs_after a (asks a)) tell.long is.long
      (λ j a f at there. is.each j a f (slice_get_within table j a at) at there ∙ ap (λ q. Some (attrs_after a q)) (tell.each j a f at there))

  pub same_is : HoldsBelow (λ attrs f. IsQuiet attrs (told f)) table frames (length table) → IsSame asks table
  same_is quiet = all_from (λ a. IsQuiet a (asks a)) table (λ j a at.
      let f = get_inside frames j (let w = slice_get_within table j a at in let l = tell.long in omega (arith, w, l)) in
      subst (IsQuiet a) (tell.each j a f.0 at f.1) (quiet j a f.0 (slice_get_within table j a at) at f.1))

  pub same_from : IsSame asks table → HoldsBelow (λ attrs f. IsQuiet attrs (told f)) table frames (length table)
  same_from same = λ j a f below at there. subst (IsQuiet a) (sym (tell.each j a f at there))
      (subst (λ x. IsQuiet x (asks x)) (same_Some _ a (sym (slice_get-get_or table j a below) ∙ at)) (same j a below))

  flagged_same : (a : AttrsOf) (f : ModuleFrame) → IsQuiet a (told f) → flagged a f ≡ attrs_after a (told f)
  flagged_same a f quiet =
      sym (ap (λ r. record (attrs_after a (told f)) { rates = r }) quiet.same.rates ∙ ap (λ s. record (flagged a f) { steps = s }) quiet.same.steps)

  pub flags_are : (new : List AttrsOf) → AreFlagged table frames (length table) new → HoldsBelow (λ attrs f. IsQuiet attrs (told f)) table frames (length table) → new ≡ table_after asks table
  flags_are new is quiet = ext_rows table frames new (λ a. attrs_after a (asks a)) tell.long is.long
      (λ j a f at there. is.each j a f (slice_get_within table j a at) at there
      ∙ ap Some (flagged_same a f (quiet j a f (slice_get_within table j a at) at there)) ∙ ap (λ q. Some (attrs_after a q)) (tell.each j a f at there))

  unmarked_is : NoneMarks table frames → AreUnmarked asks table
  unmarked_is none = all_from (λ a. (asks a).out_of_range ≡ false) table (λ j a at.
      let f = get_inside frames j (let w = slice_get_within table j a at in let l = tell.long in omega (arith, w, l)) in
      go (asks a).out_of_range (λ set. none j a f.0 (slice_get_within table j a at) at f.1 (ap (λ (q : AskedOf). q.out_of_range) (tell.each j a f.0 at f.1) ∙ set)))
    where
      go : (b : Bool) → (b ≡ true → ⊥) → b ≡ false
      go true never = absurd (never refl)
      go false never = refl

  first_row : (P : AttrsOf → ModuleFrame → Type 0) (Q : AttrsOf → Type 0) → ((a : AttrsOf) (f : ModuleFrame) → told f ≡ asks a → P a f → Q a) → ((a : AttrsOf) (f : ModuleFrame) → told f ≡ asks a → Q a → P a f)
      → (k : ℕ) (first : IsFirstPlace P table frames k) → IsFirstRow table Q first.one
  first_row P Q to from k first = record {
    place = k;
    at = first.one_at;
    holds = to first.one first.other (tell.each k first.one first.other first.one_at first.other_at) first.holds;
    before = λ j a below at is.
        let f = get_inside frames j (let w = slice_get_within table j a at in let l = tell.long in omega (arith, w, l)) in
        first.before j a f.0 below at f.1 (from a f.0 (tell.each j a f.0 at f.1) is);
  }

  module _ (tables : FlatTablesOf) (cluster : ℕ) where
    times_of : AreTimed tables cluster table (table_after asks table) → TimingsOf tables cluster asks table
    times_of times = record { before = times.before; after = times.after }

    refusing : (times : AreTimed tables cluster table (table_after asks table)) (a : AttrsOf) (f : ModuleFrame) → told f ≡ asks a → Rejects tables cluster asks table (times_of times) a
        → Refuses tables cluster table (table_after asks table) times a f
    unfolding times_of
    refusing times a f e is = record {
      flag = subst (λ q. (attrs_after a q).accepts ≡ false) (sym e) is.flag;
      same = subst (λ q. HasSameRates a (attrs_after a q)) (sym e) is.same;
      moved = is.moved;
    }

    rejecting : (times : AreTimed tables cluster table (table_after asks table)) (a : AttrsOf) (f : ModuleFrame) → told f ≡ asks a → Refuses tables cluster table (table_after asks table) times a f
        → Rejects tables cluster asks table (times_of times) a
    unfolding times_of
    rejecting times a f e is = record {
      flag = subst (λ q. (attrs_after a q).accepts ≡ false) e is.flag;
      same = subst (λ q. HasSameRates a (attrs_after a q)) e is.same;
      moved = is.moved;
    }

    accepted_is : (times : AreTimed tables cluster table (table_after asks table)) → NoneRefuse tables cluster table (table_after asks table) times frames
        → All (λ a. Rejects tables cluster asks table (times_of times) a → ⊥) table
    accepted_is times none = all_from (λ a. Rejects tables cluster asks table (times_of times) a → ⊥) table (λ j a at is.
        let f = get_inside frames j (let w = slice_get_within table j a at in let l = tell.long in omega (arith, w, l)) in
        none j a f.0 (slice_get_within table j a at) at f.1 (refusing times a f.0 (tell.each j a f.0 at f.1) is))

    pub new_plan : (after : List AttrsOf) (plan : Plan) → (IsSame asks table → ⊥) → NoneMarks table frames → AreAfter table frames (length table) after → IsJudged tables cluster table after frames plan
        → IsNewPlan tables cluster asks table plan
    unfolding times_of
    new_plan after plan differs none is judged = from (subst (λ (l : List AttrsOf). IsJudged tables cluster table l frames plan) (after_is after is) judged)
      where
        from : IsJudged tables cluster table (table_after asks table) frames plan → IsNewPlan tables cluster asks table plan
        from j = record { differs = differs; unmarked = unmarked_is none; times = times_of j.times; accepted = accepted_is j.times j.none; plan_is = j.plan_is }

    judged_fault : (fault : Fault) → NoneMarks table frames → IsJudgedFault tables cluster table (table_after asks table) frames fault → IsFirstChangeFault tables cluster asks table fault
    unfolding times_of
    judged_fault fault none (InSteps p) = OfSteps (unmarked_is none) p
    judged_fault fault none (InRejected times p) = OfRejected (unmarked_is none) (times_of times) p.first.one
        (first_row (Refuses tables cluster table (table_after asks table) times) (Rejects tables cluster asks table (times_of times)) (rejecting times) (refusing times) p.place p.first) p.told
    judged_fault fault none (InPlan times free p) = OfPlan (unmarked_is none) (times_of times) (accepted_is times free) p

    pub change_fault : (fault : Fault) → (IsSame asks table → ⊥) → IsRefusedAt tables cluster table frames fault → IsChangeFault tables cluster asks table fault
    change_fault fault differs (InRange k first is) = record {
      differs = differs;
      first = OfRange first.one
          (first_row Marks (IsMarked asks) (λ a f e set. sym (ap (λ (q : AskedOf). q.out_of_range) e) ∙ set) (λ a f e set. ap (λ (q : AskedOf). q.out_of_range) e ∙ set) k first) is;
    }
    change_fault fault differs (InTable none is) = record {
      differs = differs;
      first = judged_fault fault none (subst (λ (l : List AttrsOf). IsJudgedFault tables cluster table l frames fault) (after_is is.after is.after_is) is.fault_is);
    }
