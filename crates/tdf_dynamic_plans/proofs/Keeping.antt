-- What is known of the plans that are kept.
use Rattle.std.proofs.Common.{◌≡◌, ◌∙◌, ◌+◌, ◌-◌, ◌*◌, ◌<◌, ◌++◌, ◌∷◌, [], ℕ, zero, suc, List, Some, All, drop, length, inl, inr, refl, slice_index_or, sym, ap, subst, arith}
use Rattle.std.proofs.lemmas.Bool.{cases_eq}
use Rattle.std.proofs.lemmas.List.Elements.{All-drop, All-push}
use Rattle.std.proofs.lemmas.Option.{slice_get-map}
use Rattle.std.specs.Option.{option_map}
use Rattle.tdf_timestep.specs.Period.{IsPeriod}
use Rattle.std.specs.Prelude.{slice_get, slice_index}
use Rattle.tdf_bind_tables.specs.FlatTables.{FlatTablesOf}
use Rattle.tdf_dynamic_plans.specs.Assignments.{assignments}
use Rattle.tdf_dynamic_plans.specs.Attributes.{AttrsOf}
use Rattle.tdf_dynamic_plans.specs.Faults.{HasTiming, IsPlanErr, IsPlanOf}
use Rattle.tdf_dynamic_plans.specs.Rates.{NetOf}
use Rattle.tdf_dynamic_plans.specs.Known.{AreFew, HasSameItems, IsShort, KeyOf, KnownOf, PlansOf, AttrsTable, table_key, row_key}
use Rattle.tdf_schedule.specs.Plan.{pace_of, IsBound, IsDeadlock, IsNoncausal, IsPlan}
use Rattle.tdf_schedule.specs.declared.entry.Entry.{Entry}
use Rattle.tdf_schedule.specs.declared.entry.Plan.{Plan}
use Rattle.tdf_schedule.specs.declared.err.PlanErr.{PlanErr}
use Rattle.tdf_schedule.specs.declared.err.PlanErr.TheVariants as planning
use Rattle.tdf_timestep.specs.declared.assign.Steps.{Steps}

module _ (net : NetOf) (counts : List ℕ) (one other : Steps) (same : one.actor_steps.items ≡ other.actor_steps.items) where
  fault_same : (why : PlanErr) → IsPlanErr net counts other why → IsPlanErr net counts one why
  fault_same planning.TooLarge is = is
  fault_same (planning.Deadlock m) is = (is.0, subst (λ (l : List ℕ). IsDeadlock net.edges (pace_of net.actors l) counts m) (sym same) is.1)
  fault_same (planning.Noncausal m a) is = (is.0, subst (λ (l : List ℕ). IsNoncausal net.edges net.actors (pace_of net.actors l) counts m a) (sym same) is.1)
  fault_same planning.Memory is = is

  -- the same by steps that are the same, and for a plan that is the same
  pub plan_same : (p q : Plan) → one.period ≡ other.period → HasSameItems p q → IsPlanOf net counts one p → IsPlanOf net counts other q
  plan_same p q period items is = record {
    none = λ why fault. is.none why (fault_same why fault);
    planned = record {
      planned = subst (λ (l : List ℕ). IsPlan net.edges (pace_of net.actors l) counts q.entries.items) same
          (subst (λ (l : List Entry). IsPlan net.edges (pace_of net.actors one.actor_steps.items) counts l) (sym items.entries) is.planned.planned);
      long = ap length items.bounds ∙ is.planned.long;
      bounded = λ k e at some. subst (λ (l : List Entry). IsBound l e (slice_index q.bounds.items k)) (sym items.entries)
          (subst (λ (l : List ℕ). IsBound p.entries.items e (slice_index l k)) (sym items.bounds) (is.planned.bounded k e at some));
      outside = λ k e at none. ap (λ (l : List ℕ). slice_index l k) items.bounds ∙ is.planned.outside k e at none;
      same = items.period ∙ is.planned.same ∙ period;
    };
  }

-- two tables that are the same have the same rows
pub rows_same : {a b : AttrsTable} → a ≡ b → a.rows ≡ b.rows
rows_same same = ap (λ (t : AttrsTable). t.rows) same

pub known_same : {a b : AttrsTable} → a ≡ b → a.known ≡ b.known
known_same same = ap (λ (t : AttrsTable). t.known) same

-- an element that is there is within the list
pub within : {A : Type 0} (xs : List A) (i : ℕ) (x : A) → slice_get xs i ≡ Some x → i < length xs
within [] zero x at = absurd cc
within [] (suc i) x at = absurd cc
within (y ∷ ys) zero x at = omega arith
within (y ∷ ys) (suc i) x at = let h = within ys i x at in omega (arith, h)

-- what is at an index is there
pub at_index : {A : Type 0} (xs : List A) (i : ℕ) (x : A) → i < length xs → x ≡ slice_index_or xs i x → slice_get xs i ≡ Some x
at_index [] i x less is = absurd (omega (arith, less))
at_index (y ∷ ys) zero x less is = ap Some (sym is)
at_index (y ∷ ys) (suc i) x less is = at_index ys i x (omega (arith, less)) is

length_push : {A : Type 0} (xs : List A) (x : A) → length (xs ++ x ∷ []) ≡ length xs + 1
length_push [] x = refl
length_push (y ∷ ys) x = let h = length_push ys x in omega (arith, h)

-- none of the plans up to here has this key, nor this one
pub one_more : (plans : List KnownOf) (key : List KeyOf) (i : ℕ) (here : KnownOf) → slice_get plans i ≡ Some here → (here.key ≡ key → ⊥)
    → ((j : ℕ) (k : KnownOf) → j < i → slice_get plans j ≡ Some k → k.key ≡ key → ⊥)
    → (j : ℕ) (k : KnownOf) → j < i + 1 → slice_get plans j ≡ Some k → k.key ≡ key → ⊥
one_more plans key i here at not before j k less at_j has = elim (cases_eq j i) [
  | inl same ↦ (let there : slice_get plans i ≡ Some k = subst (λ (n : ℕ). slice_get plans n ≡ Some k) same at_j in
      let is : k ≡ here = cc (sym there ∙ at) in
      not (subst (λ (x : KnownOf). x.key ≡ key) is has))
  | inr apart ↦ before j k (omega (arith, less, apart)) at_j has
]

-- the keys up to a place are those of the rows
abbrev pub AreKeysBelow : List KeyOf → List AttrsOf → ℕ → Type 0
AreKeysBelow key table i = (j : ℕ) (k : KeyOf) (a : AttrsOf) → j < i → slice_get key j ≡ Some k → slice_get table j ≡ Some a → k ≡ row_key a

pub key_next : (key : List KeyOf) (table : List AttrsOf) (i : ℕ) (here : KeyOf) (row : AttrsOf) → slice_get key i ≡ Some here → slice_get table i ≡ Some row → here ≡ row_key row → AreKeysBelow key table i
    → AreKeysBelow key table (i + 1)
key_next key table i here row at row_at is before j k a less at_j a_j = elim (cases_eq j i) [
  | inl same ↦ (let there : slice_get key i ≡ Some k = subst (λ (n : ℕ). slice_get key n ≡ Some k) same at_j in
      let row_there : slice_get table i ≡ Some a = subst (λ (n : ℕ). slice_get table n ≡ Some a) same a_j in
      let key_is : k ≡ here = cc (sym there ∙ at) in
      let row_is : row ≡ a = cc (sym row_at ∙ row_there) in
      key_is ∙ is ∙ ap row_key row_is)
  | inr apart ↦ before j k a (omega (arith, less, apart)) at_j a_j
]

pub all_keys : (key : List KeyOf) (table : List AttrsOf) → length key ≡ length table → AreKeysBelow key table (length key) → key ≡ table_key table
all_keys [] [] long each = refl
all_keys [] (a ∷ table) long each = absurd (omega (arith, long))
all_keys (k ∷ key) [] long each = absurd (omega (arith, long))
all_keys (k ∷ key) (a ∷ table) long each =
    let first : k ≡ row_key a = each 0 k a (omega arith) refl refl in
    let rest : key ≡ table_key table = all_keys key table (omega (arith, long)) (λ j x b less at there. each (suc j) x b (omega (arith, less)) at there) in
    ap (λ x. x ∷ key) first ∙ ap (λ l. row_key a ∷ l) rest

-- a key that is not that of its row is not that of the table
pub other_key : (key : List KeyOf) (table : List AttrsOf) (i : ℕ) (here : KeyOf) (row : AttrsOf) → slice_get key i ≡ Some here → slice_get table i ≡ Some row → (here ≡ row_key row → ⊥) → key ≡ table_key table → ⊥
other_key key table i here row at row_at not same =
    not (some_key here (row_key row) (sym at ∙ ap (λ (l : List KeyOf). slice_get l i) same ∙ slice_get-map row_key table i ∙ ap (option_map row_key) row_at))
  where
    some_key : (x y : KeyOf) → Some x ≡ Some y → x ≡ y
    some_key x y is = cc is

-- the plans that stay where there is room for one more, and that one
pub few_after : (kept : PlansOf) (room new : List KnownOf) (made : ℕ) → AreFew kept → room ≡ drop (length kept.plans + 1 - kept.most) kept.plans → length room < kept.most → new ≡ room
    → AreFew (record { plans = new; most = kept.most; made = made })
few_after kept room new made are rest less is = record {
  few = let long = ap length is in omega (arith, less, long);
  most = are.most;
  short = subst (All (λ (x : KnownOf). IsShort x.plan)) (sym (is ∙ rest)) (All-drop (λ (x : KnownOf). IsShort x.plan) (length kept.plans + 1 - kept.most) kept.plans are.short);
}

pub few_more : (kept : PlansOf) (room new : List KnownOf) (known : KnownOf) (made : ℕ) → AreFew kept → room ≡ drop (length kept.plans + 1 - kept.most) kept.plans → length room < kept.most
    → IsShort known.plan → new ≡ room ++ known ∷ [] → AreFew (record { plans = new; most = kept.most; made = made })
few_more kept room new known made are rest less short is = record {
  few = let long = ap length is in let one = length_push room known in omega (arith, less, long, one);
  most = are.most;
  short = subst (All (λ (x : KnownOf). IsShort x.plan)) (sym is) (All-push (λ (x : KnownOf). IsShort x.plan) room known
      (subst (All (λ (x : KnownOf). IsShort x.plan)) (sym rest) (All-drop (λ (x : KnownOf). IsShort x.plan) (length kept.plans + 1 - kept.most) kept.plans are.short)) short);
}

-- steps with the same items are those of the same counts
pub timing_same : (tables : FlatTablesOf) (net : NetOf) (cluster : ℕ) (table : List AttrsOf) (counts other : List ℕ) (steps new : Steps) → other ≡ counts → new.actor_steps.items ≡ steps.actor_steps.items
    → new.period ≡ steps.period → HasTiming tables net cluster table counts steps → HasTiming tables net cluster table other new
timing_same tables net cluster table counts other steps new same items period timing =
    subst (λ (l : List ℕ). HasTiming tables net cluster table l new) (sym same) (record {
      counts_are = timing.counts_are;
      steps_are = record {
        is = subst (λ (n : ℕ). IsPeriod net.ports counts (assignments table) n) (sym period) timing.steps_are.is;
        long = ap length items ∙ timing.steps_are.long;
        firing = λ a some. ap (λ (l : List ℕ). slice_index l a * slice_index counts a) items ∙ timing.steps_are.firing a some ∙ sym period;
        none = λ a no. ap (λ (l : List ℕ). slice_index l a) items ∙ timing.steps_are.none a no;
      };
    })
