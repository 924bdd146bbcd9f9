-- What ports are bound to, line by line.
use Rattle.std.proofs.Common.{◌≡◌, ◌∙◌, ℕ, ◌+◌, ◌<◌, ◌≤◌, Bool, true, false, List, [], ◌∷◌, ◌++◌, Option, Some, None, length, take, refl, sym, ap}
use Rattle.std.proofs.Math.ListN.{get_or}
use Rattle.std.proofs.lemmas.List.{take_more, take_all}
use Rattle.std.specs.Cmp.Lexicographic.{pointwise, nat_list_eq_equiv}
use Rattle.std.specs.Prelude.{nat_eq, ◌&&◌, if◌then◌else◌}
use Rattle.tdf_bind_names.specs.Targets.{Inside, target_after, target_from, target_named, target_of}
use Rattle.tdf_bind_names.specs.declared.bindings.Bindings.{Bindings}
use Rattle.tdf_bind_names.specs.machine.Bindings.{AreTargets, target_at}
use Rattle.tdf_expr_symbols.specs.Scope.{first_some}
use Rattle.tdf_lang_tree.specs.declared.blocks.Member.{Member}
use Rattle.tdf_lang_tree.specs.declared.blocks.Member.TheVariants as member
use Rattle.tdf_bind_hierarchy.specs.declared.blocks.Target.{Target}

-- what the code does at a line that binds a port to what a name stands for
pub put_some : (inside : Inside) (m : Member) (line : ℕ) (i p t j q : List ℕ) (found : Target) (old new : List ℕ → List ℕ → Option Target)
    → m ≡ member.Bind line i p t → j ≡ i → q ≡ p → target_named inside t ≡ Some found
    → ((a b : List ℕ) → new a b ≡ (if pointwise nat_eq j a && pointwise nat_eq q b then Some found else old a b))
    → (a b : List ℕ) → new a b ≡ target_after inside a b (old a b) m
unfolding target_after
put_some inside m line i p t j q found old new is ij pq named step a b =
    step a b
    ∙ ap (λ n. if pointwise nat_eq n a && pointwise nat_eq q b then Some found else old a b) ij
    ∙ ap (λ n. if pointwise nat_eq i a && pointwise nat_eq n b then Some found else old a b) pq
    ∙ ap (λ x. if x && pointwise nat_eq p b then Some found else old a b) (nat_list_eq_equiv.symm i a)
    ∙ ap (λ x. if pointwise nat_eq a i && x then Some found else old a b) (nat_list_eq_equiv.symm p b)
    ∙ ap (λ o. if pointwise nat_eq a i && pointwise nat_eq b p then first_some o (old a b) else old a b) (sym named)
    ∙ sym (ap (target_after inside a b (old a b)) is)

both : (x : Bool) (o : Option Target) → o ≡ (if x then o else o)
both true o = refl
both false o = refl

pub put_none : (inside : Inside) (m : Member) (line : ℕ) (i p t : List ℕ) (old : List ℕ → List ℕ → Option Target)
    → m ≡ member.Bind line i p t → target_named inside t ≡ None → (a b : List ℕ) → old a b ≡ target_after inside a b (old a b) m
unfolding target_after
put_none inside m line i p t old is named a b =
    both (pointwise nat_eq a i && pointwise nat_eq b p) (old a b)
    ∙ ap (λ o. if pointwise nat_eq a i && pointwise nat_eq b p then first_some o (old a b) else old a b) (sym named)
    ∙ sym (ap (target_after inside a b (old a b)) is)

pub put_port : (inside : Inside) (m : Member) (x : _) (old : List ℕ → List ℕ → Option Target) → m ≡ member.Port x → (a b : List ℕ) → old a b ≡ target_after inside a b (old a b) m
unfolding target_after
put_port inside m x old is a b = sym (ap (target_after inside a b (old a b)) is)

pub put_signal : (inside : Inside) (m : Member) (line : ℕ) (name : List ℕ) (x : _) (old : List ℕ → List ℕ → Option Target) → m ≡ member.Signal line name x → (a b : List ℕ) → old a b ≡ target_after inside a b (old a b) m
unfolding target_after
put_signal inside m line name x old is a b = sym (ap (target_after inside a b (old a b)) is)

pub put_de_signal : (inside : Inside) (m : Member) (line : ℕ) (name : List ℕ) (x start : _) (old : List ℕ → List ℕ → Option Target) → m ≡ member.DeSignal line name x start → (a b : List ℕ) → old a b ≡ target_after inside a b (old a b) m
unfolding target_after
put_de_signal inside m line name x start old is a b = sym (ap (target_after inside a b (old a b)) is)

pub put_instance : (inside : Inside) (m : Member) (line : ℕ) (name block : List ℕ) (old : List ℕ → List ℕ → Option Target) → m ≡ member.Instance line name block → (a b : List ℕ) → old a b ≡ target_after inside a b (old a b) m
unfolding target_after
put_instance inside m line name block old is a b = sym (ap (target_after inside a b (old a b)) is)

-- one line more
from_push : (inside : Inside) (i p : List ℕ) (before : Option Target) (ms : List Member) (m : Member)
    → target_from inside i p before (ms ++ m ∷ []) ≡ target_after inside i p (target_from inside i p before ms) m
from_push inside i p before [] m = refl
from_push inside i p before (x ∷ ms) m = from_push inside i p (target_after inside i p before x) ms m

pub targets_more : (inside : Inside) (list : List Member) (n : ℕ) (d : Member) (old new : Bindings) → n < length list → AreTargets inside (take n list) old
    → ((i p : List ℕ) → target_at new i p ≡ target_after inside i p (target_at old i p) (get_or list n d)) → AreTargets inside (take (n + 1) list) new
targets_more inside list n d old new within are step = record {
  each = λ i p.
      step i p
      ∙ ap (λ o. target_after inside i p o (get_or list n d)) (are.each i p)
      ∙ sym (from_push inside i p None (take n list) (get_or list n d))
      ∙ sym (ap (λ (l : List Member). target_of inside l i p) (take_more list n d within));
}

pub targets_all : (inside : Inside) (list : List Member) (n : ℕ) (bindings : Bindings) → length list ≤ n → AreTargets inside (take n list) bindings → AreTargets inside list bindings
targets_all inside list n bindings past are = record {
  each = λ i p. are.each i p ∙ ap (λ (l : List Member). target_of inside l i p) (take_all n list past);
}
