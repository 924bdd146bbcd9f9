-- Where no module of a cluster changes its attributes, nothing differs at its boundary.
use Rattle.std.proofs.Common.{◌≡◌, ◌∙◌, ℕ, zero, suc, ◌+◌, Bool, false, List, [], ◌∷◌, None, if◌then◌else◌, map, refl, sym, ap, subst}
use Rattle.std.proofs.lemmas.List.Elements.{All-head, All-tail, All-weaker}
use Rattle.std.specs.List.{All}
use Rattle.std.specs.Prelude.{replicate, unwrap_or, ℤ}
use Rattle.tdf_dynamic.specs.Asked.{IsQuiet, asked, attrs_after, nothing_asked, port_count, steps_after}
use Rattle.tdf_dynamic.specs.Change.{IsSame, table_after}
use Rattle.tdf_dynamic_plans.specs.Attributes.{AttrsOf}
use Rattle.tdf_dynamic.specs.Below.{Flat, has_changes}
use Rattle.tdf_sim_history.specs.Answers.{asks_in, last_cells}
use Rattle.tdf_sim_history.specs.Laws.{UnchangedStay}
use Rattle.tdf_sim_history.specs.World.{ClusterAt}
use Rattle.tdf_lang_tree.specs.Pure.{PureTree}

otherwise : {A : Type 0} (b : Bool) (x y : A) → b ≡ false → (if b then x else y) ≡ y
otherwise b x y off = ap (λ c. if c then x else y) off

steps_none : (steps : List ℕ) (n : ℕ) → steps_after steps (replicate n None) ≡ steps
steps_none [] n = refl
steps_none (x ∷ steps) zero = refl
steps_none (x ∷ steps) (suc n) = ap (λ l. x ∷ l) (steps_none steps n)

same_map : {A : Type 0} (f : A → A) (xs : List A) → All (λ x. f x ≡ x) xs → map f xs ≡ xs
same_map f [] all = refl
same_map f (x ∷ xs) all = λ i. All-head (λ y. f y ≡ y) x xs all i ∷ same_map f xs (All-tail (λ y. f y ≡ y) x xs all) i

module _ (model : PureTree) (flat : Flat) (attrs : AttrsOf) (cells : List ℤ) (none : has_changes flat.tables.modules attrs.number ≡ false) where
  asked_none : asked model flat attrs cells ≡ nothing_asked (port_count flat attrs.number) attrs cells
  unfolding asked
  asked_none = otherwise (has_changes flat.tables.modules attrs.number) _ _ none

  stays : attrs_after attrs (asked model flat attrs cells) ≡ attrs
  stays = ap (attrs_after attrs) asked_none ∙ ap (λ l. record attrs { steps = l }) (steps_none attrs.steps (1 + port_count flat attrs.number))

  quiet : IsQuiet attrs (asked model flat attrs cells)
  quiet = subst (IsQuiet attrs) (sym asked_none) (record { same = record { rates = refl; steps = steps_none attrs.steps (1 + port_count flat attrs.number) }; unmarked = refl })

module _ (model : PureTree) (flat : Flat) (number : ℕ) (c : ClusterAt) where
  abbrev cells : AttrsOf → List ℤ
  cells attrs = unwrap_or (last_cells model flat number c attrs.number) []

  abbrev Off : AttrsOf → Type 0
  Off attrs = has_changes flat.tables.modules attrs.number ≡ false

  all_quiet : All Off c.now.info.table → IsSame (asks_in model flat number c) c.now.info.table
  all_quiet none = All-weaker Off (λ attrs. IsQuiet attrs (asked model flat attrs (cells attrs))) (λ attrs off. quiet model flat attrs (cells attrs) off) c.now.info.table none

  all_stay : All Off c.now.info.table → table_after (asks_in model flat number c) c.now.info.table ≡ c.now.info.table
  all_stay none = same_map (λ attrs. attrs_after attrs (asked model flat attrs (cells attrs))) c.now.info.table
      (All-weaker Off (λ attrs. attrs_after attrs (asked model flat attrs (cells attrs)) ≡ attrs) (λ attrs off. stays model flat attrs (cells attrs) off) c.now.info.table none)

pub unchanged_stay : UnchangedStay
unchanged_stay model flat number c none known = record { known = known; leads = (all_quiet model flat number c none, sym (all_stay model flat number c none)) }
