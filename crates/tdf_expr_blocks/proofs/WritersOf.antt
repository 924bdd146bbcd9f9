-- The names that are gathered are those that earlier processes assign.
use Rattle.std.proofs.Common.{◌≡◌, ◌∙◌, ℕ, Bool, true, false, List, [], ◌∷◌, ◌++◌, refl, sym, ap}
use Rattle.std.proofs.lemmas.List.Folds.{list_any-append}
use Rattle.std.specs.Cmp.Lexicographic.{pointwise, same_text}
use Rattle.std.specs.List.{flat_map, list_any}
use Rattle.std.specs.Prelude.{nat_eq, ◌||◌, ◌&&◌, if◌then◌else◌}
use Rattle.tdf_base.specs.declared.codes.Code.TheVariants as code
use Rattle.tdf_expr_blocks.specs.Writers.{Assigned, again_faults, assigned_all, assigns, is_output, writer_faults}
use Rattle.tdf_expr_blocks.specs.machine.Written.{AreWritten, again, agains, has, later, with_all, with_one}
use Rattle.tdf_base.specs.First.{fault_if}
use Rattle.tdf_expr_symbols.specs.Names.{Names, thing_of}
use Rattle.tdf_lang_tree.specs.Pure.{PureProcess}

or_false : (b : Bool) → b || false ≡ b
or_false true = refl
or_false false = refl

or_assoc : (a b c : Bool) → (a || b) || c ≡ a || (b || c)
or_assoc true b c = refl
or_assoc false b c = refl

-- a name that is there already adds nothing
there : (name new : List ℕ) (b : Bool) → pointwise nat_eq name new ≡ b → (written : List (List ℕ)) → has written new ≡ true → has written name ≡ has written name || b
there name new false other written is = sym (or_false (has written name))
there name new true same written is =
    let e = same_text name new (sym same) in
    ap (has written) e ∙ is ∙ sym (ap (λ b. b || true) (ap (has written) e ∙ is))

more : (written : List (List ℕ)) (name new : List ℕ) → has (written ++ new ∷ []) name ≡ has written name || pointwise nat_eq name new
unfolding has
more written name new = list_any-append (pointwise nat_eq name) written (new ∷ []) ∙ ap (λ b. list_any (pointwise nat_eq name) written || b) (or_false (pointwise nat_eq name new))

has_one : (written : List (List ℕ)) (name new : List ℕ) (b : Bool) → has written new ≡ b
    → has (if b then written else written ++ new ∷ []) name ≡ has written name || pointwise nat_eq name new
has_one written name new true is = there name new (pointwise nat_eq name new) refl written is
has_one written name new false is = more written name new

has_with_one : (written : List (List ℕ)) (name new : List ℕ) → has (with_one written new) name ≡ has written name || pointwise nat_eq name new
unfolding with_one
has_with_one written name new = has_one written name new (has written new) refl

has_with_all : (written : List (List ℕ)) (name : List ℕ) (list : List Assigned)
    → has (with_all written list) name ≡ has written name || list_any (λ a. pointwise nat_eq name a.name) list
unfolding with_all
has_with_all written name [] = sym (or_false (has written name))
has_with_all written name (a ∷ list) =
    has_with_all (with_one written a.name) name list
    ∙ ap (λ b. b || list_any (λ a. pointwise nat_eq name a.name) list) (has_with_one written name a.name)
    ∙ or_assoc (has written name) (pointwise nat_eq name a.name) _

-- one process more
written_more : (written : List (List ℕ)) (earlier : List PureProcess) (p : PureProcess) → AreWritten written earlier
    → AreWritten (with_all written (assigned_all p.body.list)) (earlier ++ p ∷ [])
unfolding assigns
written_more written earlier p are = record {
  each = λ name.
      has_with_all written name (assigned_all p.body.list)
      ∙ ap (λ b. b || list_any (λ a. pointwise nat_eq name a.name) (assigned_all p.body.list)) (are.each name)
      ∙ ap (λ b. list_any (assigns name) earlier || b) (sym (or_false _))
      ∙ sym (list_any-append (assigns name) earlier (p ∷ []));
}

same_again : (own : Names) (written : List (List ℕ)) (earlier : List PureProcess) → AreWritten written earlier
    → (list : List Assigned) → flat_map (again own written) list ≡ flat_map (again_faults own earlier) list
same_again own written earlier are [] = refl
same_again own written earlier are (a ∷ list) =
    ap (λ b. fault_if (is_output (thing_of own a.name) && b) code.Writers a.line ++ flat_map (again own written) list) (are.each a.name)
    ∙ ap (λ rest. again_faults own earlier a ++ rest) (same_again own written earlier are list)

same_later : (own : Names) (written : List (List ℕ)) (earlier list : List PureProcess) → AreWritten written earlier
    → later own written list ≡ writer_faults own earlier list
unfolding later writer_faults agains
same_later own written earlier [] are = refl
same_later own written earlier (p ∷ ps) are =
    ap (λ first. first ++ later own (with_all written (assigned_all p.body.list)) ps) (same_again own written earlier are (assigned_all p.body.list))
    ∙ ap (λ rest. flat_map (again_faults own earlier) (assigned_all p.body.list) ++ rest)
    (same_later own (with_all written (assigned_all p.body.list)) (earlier ++ p ∷ []) ps (written_more written earlier p are))

are_none : AreWritten [] []
unfolding has
are_none = record { each = λ name. refl }

pub none_written : (own : Names) (list : List PureProcess) → later own [] list ≡ writer_faults own [] list
none_written own list = same_later own [] [] list are_none
