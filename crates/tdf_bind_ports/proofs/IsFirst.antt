-- The first of faults is one of them, and the first as all faults of lines are ordered.
use Rattle.std.proofs.Common.{◌≡◌, ◌∙◌, ◌⊎◌, inl, inr, Bool, true, false, List, [], ◌∷◌, Option, Some, None, refl, ap}
use Rattle.std.specs.Option.{option_map}
use Rattle.std.specs.Prelude.{map, if◌then◌else◌}
use Rattle.tdf_base.specs.First as lines
use Rattle.tdf_bind_ports.specs.Faults.{LinkFault, as_line_fault, link_comes_before, lesser_link, least_link_with}
use Rattle.tdf_bind_ports.specs.Law.{IsLinkFaultIn, FindsFirstLink}

same_if : (b : Bool) (x y : LinkFault) → option_map as_line_fault (if b then Some x else Some y) ≡ (if b then Some (as_line_fault x) else Some (as_line_fault y))
same_if true x y = refl
same_if false x y = refl

same_lesser : (best : Option LinkFault) (f : LinkFault) → option_map as_line_fault (lesser_link best f) ≡ lines.lesser (option_map as_line_fault best) (as_line_fault f)
unfolding lesser_link lines.lesser
same_lesser None f = refl
same_lesser (Some b) f = same_if (link_comes_before f b) f b

same_least : (best : Option LinkFault) (fs : List LinkFault) → option_map as_line_fault (least_link_with best fs) ≡ lines.least_with (option_map as_line_fault best) (map as_line_fault fs)
unfolding least_link_with lines.least_with
same_least best [] = refl
same_least best (f ∷ fs) = same_least (lesser_link best f) fs ∙ ap (λ b. lines.least_with b (map as_line_fault fs)) (same_lesser best f)

one_of : (x b f : LinkFault) (fs : List LinkFault) (t : Bool) → ((c : LinkFault) → least_link_with (Some c) fs ≡ Some f → (c ≡ f) ⊎ IsLinkFaultIn fs f)
    → least_link_with (if t then Some x else Some b) fs ≡ Some f → (b ≡ f) ⊎ ((x ≡ f) ⊎ IsLinkFaultIn fs f)
one_of x b f fs true ih e = inr (ih x e)
one_of x b f fs false ih e = elim (ih b e) [ inl same ↦ inl same | inr i ↦ inr (inr i) ]

among_some : (fs : List LinkFault) (b f : LinkFault) → least_link_with (Some b) fs ≡ Some f → (b ≡ f) ⊎ IsLinkFaultIn fs f
unfolding least_link_with lesser_link
among_some [] b f e = inl (cc)
among_some (x ∷ fs) b f e = one_of x b f fs (link_comes_before x b) (λ c. among_some fs c f) e

among_all : (fs : List LinkFault) (f : LinkFault) → least_link_with None fs ≡ Some f → IsLinkFaultIn fs f
unfolding least_link_with lesser_link
among_all [] f e = cc
among_all (x ∷ fs) f e = among_some fs x f e

pub finds_first : FindsFirstLink
finds_first = record { among = among_all; first = λ faults. same_least None faults }
