-- Assignments of statements one after another, noted and gathered.
use Rattle.std.proofs.Common.{◌≡◌, ◌∙◌, ℕ, ◌+◌, ◌<◌, ◌≤◌, Bool, true, false, List, [], ◌∷◌, ◌++◌, Bor, Option, length, drop, refl, sym, ap}
use Rattle.std.proofs.Math.ListN.{get_or}
use Rattle.std.proofs.lemmas.List.{drop_more, drop_all, map-append}
use Rattle.std.specs.Cmp.Lexicographic.{pointwise}
use Rattle.std.specs.List.{flat_map, list_any}
use Rattle.std.specs.Prelude.{map, nat_eq, ◌&&◌, if◌then◌else◌}
use Rattle.tdf_base.specs.declared.codes.Code.TheVariants as code
use Rattle.tdf_expr_blocks.specs.Writers.{Assigned, assigned, assigned_all, is_output}
use Rattle.tdf_expr_blocks.specs.machine.Written.{again, agains, has, later, with_all, with_one}
use Rattle.tdf_base.proofs.Api.{least_none, least_append, least_if}
use Rattle.tdf_base.specs.First.{least_with, noted}
use Rattle.tdf_base.specs.declared.first.LineFault.{LineFault}
use Rattle.tdf_expr_symbols.proofs.Api.{any_bytes}
use Rattle.tdf_expr_symbols.specs.Names.{Names, thing_of}
use Rattle.tdf_lang_tree.proofs.Api.{pure_if, pure_for, pure_assign, pure_notify, pure_set_rate, pure_set_step, pure_accept, pure_reject}
use Rattle.tdf_lang_tree.specs.Views.{pure_process, pure_stmt, pure_stmts}
use Rattle.tdf_lang_tree.specs.declared.blocks.Process.{Process}
use Rattle.tdf_lang_tree.specs.declared.stmt.Stmt.{Stmt}

-- the names as their bytes
pub has_bytes : (names : List (Bor (List ℕ))) (name : List ℕ) → list_any (λ n. pointwise nat_eq name n.now) names ≡ has (map (λ k. k.now) names) name
unfolding has
has_bytes names name = any_bytes names name

map_if : (b : Bool) (names : List (Bor (List ℕ))) (k : Bor (List ℕ))
    → map (λ k. k.now) (if b then names else names ++ k ∷ []) ≡ (if b then map (λ k. k.now) names else map (λ k. k.now) names ++ k.now ∷ [])
map_if true names k = refl
map_if false names k = map-append (λ k. k.now) names (k ∷ [])

pub added_bytes : (names : List (Bor (List ℕ))) (k : Bor (List ℕ))
    → map (λ k. k.now) (if list_any (λ n. pointwise nat_eq k.now n.now) names then names else names ++ k ∷ []) ≡ with_one (map (λ k. k.now) names) k.now
unfolding with_one
added_bytes names k = map_if (list_any (λ n. pointwise nat_eq k.now n.now) names) names k
    ∙ ap (λ b. if b then map (λ k. k.now) names else map (λ k. k.now) names ++ k.now ∷ []) (has_bytes names k.now)

-- what is noted
pub agains_none : (own : Names) (written : List (List ℕ)) → agains own written [] ≡ []
unfolding agains
agains_none own written = refl

again_append : (own : Names) (written : List (List ℕ)) (xs ys : List Assigned)
    → flat_map (again own written) (xs ++ ys) ≡ flat_map (again own written) xs ++ flat_map (again own written) ys
again_append own written [] ys = refl
again_append own written (x ∷ xs) ys = ap (λ rest. again own written x ++ rest) (again_append own written xs ys) ∙ sym (append_assoc (again own written x) _ _)
  where
    append_assoc : {A : Type 0} (xs ys zs : List A) → (xs ++ ys) ++ zs ≡ xs ++ (ys ++ zs)
    append_assoc [] ys zs = refl
    append_assoc (x ∷ xs) ys zs = ap (λ rest. x ∷ rest) (append_assoc xs ys zs)

pub least_agains : (own : Names) (written : List (List ℕ)) (xs ys : List Assigned) (first : Option LineFault)
    → least_with first (agains own written (xs ++ ys)) ≡ least_with (least_with first (agains own written xs)) (agains own written ys)
unfolding agains
least_agains own written xs ys first = ap (least_with first) (again_append own written xs ys) ∙ least_append first _ _

pub least_again : (own : Names) (written : List (List ℕ)) (line : ℕ) (name : List ℕ) (first : Option LineFault)
    → least_with first (agains own written (record { line = line; name = name } ∷ []))
    ≡ noted (is_output (thing_of own name) && has written name) code.Writers line first
unfolding agains
least_again own written line name first = least_append first (again own written (record { line = line; name = name })) [] ∙ least_none _ ∙ least_if _ code.Writers line first

pub agains_next : (own : Names) (written : List (List ℕ)) (list : List Stmt) (i : ℕ) (d : Stmt) (first : Option LineFault) → i < length list
    → least_with first (agains own written (assigned_all (pure_stmts (drop i list))))
    ≡ least_with (least_with first (agains own written (assigned (pure_stmt (get_or list i d))))) (agains own written (assigned_all (pure_stmts (drop (i + 1) list))))
agains_next own written list i d first within =
    ap (λ (l : List Stmt). least_with first (agains own written (assigned_all (pure_stmts l)))) (drop_more list i d within) ∙ least_agains own written _ _ first

pub agains_done : (own : Names) (written : List (List ℕ)) (list : List Stmt) (i : ℕ) (first : Option LineFault) → length list ≤ i
    → least_with first (agains own written (assigned_all (pure_stmts (drop i list)))) ≡ first
agains_done own written list i first past =
    ap (λ (l : List Stmt). least_with first (agains own written (assigned_all (pure_stmts l)))) (drop_all i list past)
    ∙ ap (least_with first) (agains_none own written) ∙ least_none first

-- what is gathered
pub with_none : (written : List (List ℕ)) → with_all written [] ≡ written
unfolding with_all
with_none written = refl

pub with_append : (written : List (List ℕ)) (xs ys : List Assigned) → with_all written (xs ++ ys) ≡ with_all (with_all written xs) ys
unfolding with_all
with_append written [] ys = refl
with_append written (x ∷ xs) ys = with_append (with_one written x.name) xs ys

pub with_single : (written : List (List ℕ)) (line : ℕ) (name : List ℕ) → with_all written (record { line = line; name = name } ∷ []) ≡ with_one written name
unfolding with_all
with_single written line name = refl

pub with_next : (written : List (List ℕ)) (list : List Stmt) (i : ℕ) (d : Stmt) → i < length list
    → with_all written (assigned_all (pure_stmts (drop i list))) ≡ with_all (with_all written (assigned (pure_stmt (get_or list i d)))) (assigned_all (pure_stmts (drop (i + 1) list)))
with_next written list i d within = ap (λ (l : List Stmt). with_all written (assigned_all (pure_stmts l))) (drop_more list i d within) ∙ with_append written _ _

pub with_done : (written : List (List ℕ)) (list : List Stmt) (i : ℕ) → length list ≤ i → with_all written (assigned_all (pure_stmts (drop i list))) ≡ written
with_done written list i past = ap (λ (l : List Stmt). with_all written (assigned_all (pure_stmts l))) (drop_all i list past) ∙ with_none written

-- processes one after another
pub later_next : (own : Names) (written : List (List ℕ)) (list : List Process) (i : ℕ) (d : Process) (first : Option LineFault) → i < length list
    → least_with first (later own written (map pure_process (drop i list)))
    ≡ least_with (least_with first (agains own written (assigned_all (pure_stmts (get_or list i d).body.list.items))))
    (later own (with_all written (assigned_all (pure_stmts (get_or list i d).body.list.items))) (map pure_process (drop (i + 1) list)))
unfolding later
later_next own written list i d first within =
    ap (λ (l : List Process). least_with first (later own written (map pure_process l))) (drop_more list i d within) ∙ least_append first _ _

pub later_done : (own : Names) (written : List (List ℕ)) (list : List Process) (i : ℕ) (first : Option LineFault) → length list ≤ i
    → least_with first (later own written (map pure_process (drop i list))) ≡ first
unfolding later
later_done own written list i first past =
    ap (λ (l : List Process). least_with first (later own written (map pure_process l))) (drop_all i list past) ∙ least_none first

pub ruleset note_laws = (
  least_none,
  agains_none,
  least_agains,
  least_again,
  agains_next,
  agains_done,
  pure_if,
  pure_for,
  pure_assign,
  pure_notify,
  pure_set_rate,
  pure_set_step,
  pure_accept,
  pure_reject,
)

pub ruleset gather_laws = (
  with_none,
  with_append,
  with_single,
  with_next,
  with_done,
  pure_if,
  pure_for,
  pure_assign,
  pure_notify,
  pure_set_rate,
  pure_set_step,
  pure_accept,
  pure_reject,
)

pub ruleset process_laws = (later_next, later_done)
