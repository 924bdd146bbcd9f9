-- The texts of the first plans, one by one.
use Rattle.std.proofs.Common.{◌≡◌, ◌∙◌, ℕ, zero, suc, ◌+◌, ◌<◌, List, [], ◌∷◌, ◌++◌, Option, Some, None, length, slice_get, refl, sym, ap, subst, arith}
use Rattle.std.proofs.Math.ListN.{get_or}
use Rattle.std.proofs.lemmas.List.{length-map}
use Rattle.std.proofs.lemmas.List.FromFn.{length-enumerate_from}
use Rattle.std.proofs.lemmas.Option.{get_or_from_slice_get, slice_get-map}
use Rattle.std.specs.List.{enumerate_from, flat_map, range_with_len}
use Rattle.std.specs.Option.{option_map}
use Rattle.std.specs.Prelude.{slice_index_or}
use Rattle.tdf_bind_tables.specs.FlatTables.{FlatTablesOf}
use Rattle.tdf_bind_tables.specs.Ranges.{AreInRange}
use Rattle.tdf_dynamic_plans.specs.Attributes.{AttrsOf}
use Rattle.tdf_dynamic_first.specs.First.{IsFirstPlan}
use Rattle.tdf_dynamic_plans.specs.Rates.{net_of}
use Rattle.tdf_dynamic_first.specs.Text.{first_table}
use Rattle.tdf_dynamic_first.specs.declared.first.First.{First}
use Rattle.tdf_bind.specs.declared.model.Flat.{Flat}
use Rattle.tdf_sim_history.proofs.Api.{get_inside, none_some}
use Rattle.tdf_sim_history.specs.Start.{first_cluster, first_clusters}
use Rattle.tdf_sim_history.specs.Texts.{first_plans, plan_note}
use Rattle.tdf_sim_history.specs.World.{Change}
use Rattle.tdf_io.specs.Bytes.{pieces_text}
use Rattle.tdf_dynamic_texts.proofs.Api.{texts_next}
use Rattle.tdf_sim_notes.specs.Laws.{PlansAreFirst}
use Rattle.tdf_sim_notes.specs.Plans.{ArePrintable, first_text, plans_of}
use Rattle.tdf_lang_tree.specs.Pure.{PureTree}

-- texts by place are those of the items with their places
ranged : {A : Type 0} (f : ℕ → A → List ℕ) (p : ℕ → List ℕ) (k : ℕ) (xs : List A) → ((i : ℕ) (x : A) → slice_get xs i ≡ Some x → p (k + i) ≡ f (k + i) x)
    → flat_map p (range_with_len k (length xs)) ≡ flat_map (λ (x : ℕ × A). f x.0 x.1) (enumerate_from k xs)
ranged f p k [] each = refl
ranged f p k (x ∷ xs) each =
    let z : k + 0 ≡ k = omega arith in
    let head : p k ≡ f k x = subst (λ n. p n ≡ f n x) z (each 0 x refl) in
    let rest = ranged f p (k + 1) xs (λ i y at. let n : k + suc i ≡ k + 1 + i = omega arith in subst (λ m. p m ≡ f m y) n (each (suc i) y at)) in
    ap (λ t. t ++ flat_map p (range_with_len (k + 1) (length xs))) head ∙ ap (λ t. f k x ++ t) rest

-- texts by place, one after the other, are pieces of a text
pub pieces_are : (p : ℕ → List ℕ) (n : ℕ) → pieces_text p n ≡ flat_map p (range_with_len 0 n)
unfolding pieces_text
pieces_are p zero = refl
pieces_are p (suc n) =
    let e : n + 1 ≡ suc n = omega arith in
    texts_next p n [] (pieces_text p n) (pieces_text p (suc n)) (pieces_are p n) refl ∙ ap (λ m. flat_map p (range_with_len 0 m)) e

-- the piece of a place
abbrev pub text_at : Flat → (place : ℕ) → Option First → List ℕ
text_at flat place None = []
text_at flat place (Some first) = first_text flat place first

abbrev pub piece_at : Flat → List First → ℕ → List ℕ
piece_at flat firsts place = text_at flat place (slice_get firsts place)

pub first_is : (flat : Flat) (firsts : List First) (place : ℕ) (first : First) → place < length firsts → first_text flat place (get_or firsts place first) ≡ piece_at flat firsts place
first_is flat firsts place first inside =
    let here = get_inside firsts place inside in
    sym (ap (text_at flat place) (here.1 ∙ ap Some (sym (get_or_from_slice_get firsts place here.0 first here.1))))

pub plans_are_pieces : (flat : Flat) (firsts : List First) → plans_of flat firsts ≡ pieces_text (piece_at flat firsts) (length firsts)
plans_are_pieces flat firsts =
    sym (pieces_are (piece_at flat firsts) (length firsts)
    ∙ ranged (first_text flat) (piece_at flat firsts) 0 firsts (λ i first at. let z : i ≡ 0 + i = omega arith in
    subst (λ n. piece_at flat firsts n ≡ first_text flat n first) z (ap (text_at flat i) at)))

numbered : {X : Type 0} (k : ℕ) (xs : List X) (j : ℕ) (x : X) → slice_get xs j ≡ Some x → slice_get (enumerate_from k xs) j ≡ Some (k + j, x)
numbered k [] j x at = none_some x at
numbered k (y ∷ xs) zero x at = let z : k ≡ k + 0 = omega arith in ap (λ n. Some (n, y)) z ∙ ap (option_map (λ q. (k + 0, q))) at
numbered k (y ∷ xs) (suc j) x at = let n : k + 1 + j ≡ k + suc j = omega arith in numbered (k + 1) xs j x at ∙ ap (λ q. Some (q, x)) n

-- the plans that clusters start with are the first plans
module _ (model : PureTree) (flat : Flat) (firsts : List First) (ahead : List (List Change)) where
  abbrev note_at : ℕ → List ℕ
  note_at n = plan_note flat 0 (n + 1) (slice_get (first_clusters model flat firsts ahead) n)

  many : length (first_clusters model flat firsts ahead) ≡ length firsts
  many = length-map (enumerate_from 0 firsts) _ ∙ length-enumerate_from 0 firsts

  cluster_at : (n : ℕ) (first : First) → slice_get firsts n ≡ Some first → slice_get (first_clusters model flat firsts ahead) n ≡ Some (first_cluster model flat (0 + n + 1) first (slice_index_or ahead (0 + n) []))
  cluster_at n first at = slice_get-map (λ (first : ℕ × First). first_cluster model flat (first.0 + 1) first.1 (slice_index_or ahead first.0 [])) (enumerate_from 0 firsts) n
      ∙ ap (option_map (λ (first : ℕ × First). first_cluster model flat (first.0 + 1) first.1 (slice_index_or ahead first.0 []))) (numbered 0 firsts n first at)

  note_is : (n : ℕ) (first : First) → slice_get firsts n ≡ Some first → note_at (0 + n) ≡ first_text flat (0 + n) first
  note_is n first at = let z : 0 + n ≡ n = omega arith in
      ap (λ k. plan_note flat 0 (0 + n + 1) (slice_get (first_clusters model flat firsts ahead) k)) z ∙ ap (plan_note flat 0 (0 + n + 1)) (cluster_at n first at)

  plans_same : first_plans flat (first_clusters model flat firsts ahead) ≡ plans_of flat firsts
  plans_same = ap (λ n. flat_map note_at (range_with_len 0 n)) many ∙ ranged (first_text flat) note_at 0 firsts note_is

pub plans_are_first : PlansAreFirst
plans_are_first model flat firsts ahead = plans_same model flat firsts ahead

-- plans of the text can be printed
edges_same : (tables : FlatTablesOf) (table : List AttrsOf) → length (net_of tables table).edges ≡ length tables.edges
unfolding net_of
edges_same tables table = length-map tables.edges _

bounds_fit : (flat : Flat) (cluster : ℕ) (first : First) → IsFirstPlan flat cluster first → length first.plan.bounds.items ≡ length flat.tables.edges
bounds_fit flat cluster first is = is.plan_is.plan_is.planned.long ∙ edges_same flat.tables (first_table flat cluster)

pub firsts_printable : (flat : Flat) (firsts : List First) → AreInRange flat.tables → ((n : ℕ) (first : First) → slice_get firsts n ≡ Some first → IsFirstPlan flat (n + 1) first) → ArePrintable flat firsts
firsts_printable flat firsts range each = record {
  range = range;
  bounds = λ k d inside. (
      let first = get_inside firsts k inside in
      let is = get_or_from_slice_get firsts k first.0 d first.1 in
      subst (λ (x : First). length x.plan.bounds.items ≡ length flat.tables.edges) (sym is) (bounds_fit flat (k + 1) first.0 (each k first.0 first.1)));
}
