-- What a boundary answers, by what the modules ask for.
use Rattle.std.proofs.Common.{◌≡◌, ◌∙◌, ℕ, ◌⊎◌, List, Some, length, refl, sym, ap, subst, inl, inr, arith}
use Rattle.std.proofs.lemmas.List.{length-map}
use Rattle.std.proofs.lemmas.Option.{slice_get-map, slice_get_within}
use Rattle.std.specs.Option.{option_map}
use Rattle.std.specs.Prelude.{Contains, Result, Ok, Err, IfErr, IfOk, IsOk, ℤ, slice_get}
use Rattle.tdf_base.specs.declared.faults.Fault.{Fault}
use Rattle.tdf_dynamic.proofs.Boundary.{Tell, after_is, attributes_after, change_fault, new_plan}
use Rattle.tdf_dynamic.proofs.Judging.{all_weaker}
use Rattle.tdf_dynamic.specs.Asked.{asked, attrs_after}
use Rattle.tdf_dynamic.specs.Change.{Asks, IsChangeFault, IsNewPlan, IsSame, asks_of, table_after}
use Rattle.tdf_dynamic.specs.Given.{AreFramesOf, HaveCells}
use Rattle.tdf_dynamic.specs.Laws.{BoundariesHaveOne, IsBoundary}
use Rattle.tdf_dynamic.specs.Next.{HaveChanged, IsNext}
use Rattle.tdf_dynamic.specs.declared.frames.ModuleFrame.{ModuleFrame}
use Rattle.tdf_dynamic.specs.declared.next.Next.{Next}
use Rattle.tdf_dynamic.specs.declared.next.Next.TheVariants.{Changed, Same}
use Rattle.tdf_dynamic.specs.machine.Asking.{AllTell, HasAsked, HaveAsked}
use Rattle.tdf_dynamic.specs.machine.Boundary.{IsFound, IsRefusedAt, NoneMarks}
use Rattle.tdf_dynamic.specs.machine.Rows.{AreAfter}
use Rattle.tdf_dynamic_plans.specs.Attributes.{AttrsOf, clusters_of}
use Rattle.tdf_dynamic_plans.specs.Faults.{IsRefusal}
use Rattle.tdf_dynamic_plans.specs.declared.err.ChangeErr.{ChangeErr}
use Rattle.tdf_dynamic_plans.specs.declared.err.ChangeErr.TheVariants.{Refused, Memory}
use Rattle.tdf_expr.specs.Checked.{IsCheckedOf}
use Rattle.tdf_bind.specs.declared.model.Flat.{Flat}
use Rattle.tdf_streams.proofs.Api.{get_inside}
use Rattle.tdf_streams.specs.Below.{AreWithinLimits}
use Rattle.tdf_schedule.specs.declared.entry.Plan.{Plan}
use Rattle.tdf_streams.specs.Periods.{AreAttributes}
use Rattle.tdf_lang_tree.specs.Pure.{PureTree}

pub have_table : (flat : Flat) (l table : List AttrsOf) (old new : List ModuleFrame) → l ≡ table → HaveAsked flat l (length l) old new → HaveAsked flat table (length table) old new
have_table flat l table old new same have = subst (λ (t : List AttrsOf). HaveAsked flat t (length t) old new) same have

module _ (flat : Flat) (table : List AttrsOf) (old new : List ModuleFrame) (of : AreFramesOf flat table old) (have : HaveAsked flat table (length table) old new) where
  new_long : length new ≡ length table
  new_long = have.long ∙ of.long

  asked_at : (i : ℕ) (a : AttrsOf) (g : ModuleFrame) → slice_get table i ≡ Some a → slice_get new i ≡ Some g → (f : ModuleFrame) × (slice_get old i ≡ Some f) × HasAsked flat a f.frame.state.cells g
  asked_at i a g at now =
      let below = slice_get_within table i a at in
      let f = get_inside old i (let l = of.long in omega (arith, below, l)) in
      (f.0, f.1, have.done i a f.0 g below at f.1 now)

  pub all_tell : AllTell flat table new
  all_tell = record { long = new_long; each = λ i a g at now. (asked_at i a g at now).2.tells }

  pub after_attributes : (cluster : ℕ) → AreAttributes flat cluster table → (after : List AttrsOf) → AreAfter table new (length table) after → AreAttributes flat cluster after
  after_attributes cluster attributes after is =
      attributes_after flat cluster table new attributes new_long (λ i a g at now. let asks = (asked_at i a g at now).2 in (asks.tells, asks.short)) after is

  module _ (model : PureTree) (cells : ℕ → List ℤ) (checked : IsCheckedOf model flat.checked) (have_cells : HaveCells table old cells) where
    pub tell : Tell (asks_of model flat cells) table new
    tell = record {
      long = new_long;
      each = λ i a g at now.
          let asks = asked_at i a g at now in
          asks.2.asked_is model checked ∙ ap (λ l. asked model flat a l) (have_cells.each i a asks.0 at asks.1);
    }

    pub have_changed : HaveChanged flat (asks_of model flat cells) table new
    have_changed i a g at now =
        let asks = asked_at i a g at now in
        let told = tell.each i a g at now in
        record { made = asks.2.tells.made; cells = ap (λ q. q.cells) told; rates = ap (λ q. q.rates) told; zeros = asks.2.zeros }

-- the answers where some module differs
module _ (law : BoundariesHaveOne) (flat : Flat) (cluster : ℕ) (limits : AreWithinLimits flat) (has : Contains (clusters_of flat.tables) cluster) (asks : Asks) (table : List AttrsOf) (frames : List ModuleFrame)
    (tell : Tell asks table frames) (before : AreAttributes flat cluster table) (differs : IsSame asks table → ⊥) where
  pub found_next : (next : Next) → NoneMarks table frames → IsFound flat.tables cluster table frames next → IsNext flat.tables cluster asks table table next
  found_next Same none is = absurd is
  found_next (Changed after plan) none is = (refl, after_is asks table frames tell after.rows is.0, new_plan asks table frames tell flat.tables cluster after.rows plan differs none is.0 is.1)

  pub all_found : (r : Result Next ChangeErr) → (IsOk r → NoneMarks table frames) → IfOk r (IsFound flat.tables cluster table frames) → IfOk r (IsNext flat.tables cluster asks table table)
  all_found (Ok next) none is = found_next next (none refl) is
  all_found (Err e) none is = tt

  pub all_refused : (r : Result Next ChangeErr) → IfErr r (IsRefusal (IsRefusedAt flat.tables cluster table frames)) → IfErr r (IsRefusal (IsChangeFault flat.tables cluster asks table))
  all_refused r is = all_weaker (IsRefusedAt flat.tables cluster table frames) (IsChangeFault flat.tables cluster asks table) (λ fault p. change_fault asks table frames tell flat.tables cluster fault differs p) r is

  module _ (after : AreAttributes flat cluster (table_after asks table)) where
    boundary : IsBoundary flat cluster asks table
    boundary = record { limits = limits; has = has; before = before; after = after }

    pub refused_is : (r : Result Next ChangeErr) → IfOk r (IsNext flat.tables cluster asks table table) → IfErr r (IsRefusal (IsChangeFault flat.tables cluster asks table))
        → (fault : Fault) → IsChangeFault flat.tables cluster asks table fault → (r ≡ Err (Refused fault)) ⊎ (r ≡ Err Memory)
    refused_is (Ok Same) good bad fault is = absurd (differs good.0)
    refused_is (Ok (Changed a plan)) good bad fault is = absurd (law.fault_or_plan flat cluster asks table fault plan boundary is good.2)
    refused_is (Err (Refused other)) good bad fault is = inl (ap (λ (f : Fault). Err (Refused f)) (law.one_fault flat cluster asks table other fault boundary bad is))
    refused_is (Err Memory) good bad fault is = inr refl

    pub new_is : (r : Result Next ChangeErr) → IfErr r (IsRefusal (IsChangeFault flat.tables cluster asks table)) → (plan : Plan) → IsNewPlan flat.tables cluster asks table plan
        → IsOk r ⊎ (r ≡ Err Memory)
    new_is (Ok next) bad plan is = inl refl
    new_is (Err (Refused fault)) bad plan is = absurd (law.fault_or_plan flat cluster asks table fault plan boundary bad is)
    new_is (Err Memory) bad plan is = inr refl

-- a fact of two lists is one of the same lists
pub along : (P : List AttrsOf → List ModuleFrame → Type 0) (l table : List AttrsOf) (k frames : List ModuleFrame) → l ≡ table → k ≡ frames → P l k → P table frames
along P l table k frames one other is = subst (λ (t : List AttrsOf). P t frames) one (subst (P l) other is)

-- the table after the change bodies is one
pub is_after : (asks : Asks) (table : List AttrsOf) (frames : List ModuleFrame) → Tell asks table frames → AreAfter table frames (length table) (table_after asks table)
is_after asks table frames tell = record {
  long = length-map table (λ attrs. attrs_after attrs (asks attrs));
  each = λ j a f below at there. slice_get-map (λ attrs. attrs_after attrs (asks attrs)) table j ∙ ap (option_map (λ attrs. attrs_after attrs (asks attrs))) at
      ∙ ap (λ q. Some (attrs_after a q)) (sym (tell.each j a f at there));
}
