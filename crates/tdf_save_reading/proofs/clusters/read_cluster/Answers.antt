use Rattle.std.proofs.Common.{ℕ, ℤ, List, Vec, Global, map, refl, ◌∙◌, ◌≡◌, ap, subst}
use Rattle.std.specs.List.{AllByRecursion, AllZip}
use Rattle.tdf_save_reading.proofs.ClusterSteps.{all_parts, no_edges, no_modules, no_start, start_text}
use Rattle.tdf_save_reading.proofs.ModuleReads.{why_weaker}
use Rattle.tdf_save.specs.Members.{IsCount64, IsModuleFor, IsNum, ModuleMembersOf}
use Rattle.tdf_save.specs.Text.{each_text, saved_edge, saved_module}
use Rattle.tdf_save.specs.machine.Pieces.{Any}
use Rattle.tdf_save_reading.specs.machine.Pieces.{IsPiece, NoPiece}
use Rattle.tdf_save_reading.proofs.clusters.read_cluster.Goals as goal

pub returns-in_default-clause-refused : goal.returns-in_default-clause-refused
returns-in_default-clause-refused c =
    let number : c.member.inside.number ≡ c.args.member.now.number = ap (λ m. m.number) c.member.view_is in
    no_start c.args.member.now c.args.text.now (subst (λ (n : ℕ). NoPiece (start_text n) IsCount64 Any c.args.text.now) number (c.in_default.ensures.none refl))

pub returns-in-Ok-read_edges-clause-is : goal.returns-in-Ok-read_edges-clause-is
returns-in-Ok-read_edges-clause-is c =
    let number : c.member.inside.number ≡ c.args.member.now.number = ap (λ m. m.number) c.member.view_is in
    let start = subst (λ (n : ℕ). IsPiece (start_text n) IsCount64 Any c.args.text.now c.in-Some.start c.in-Some.after.now) number c.in-Some.ensures.is in
    let modules : c.deref.result.now ≡ c.args.member.now.modules = c.deref.ensures.value ∙ ap (λ m. m.modules) c.member.view_is in
    let ms = subst (λ (xs : List ModuleMembersOf). IsPiece (each_text saved_module xs) (AllZip IsModuleFor xs) Any c.in-Some.after.now c.in-Ok.modules.items c.in-Ok.after.now) modules c.in-Ok.ensures.is in
    let edges : map (λ (z : Vec ℕ Global). z.items) c.deref-in-Ok.result.now ≡ c.args.member.now.edges = ap (map (λ (z : Vec ℕ Global). z.items)) c.deref-in-Ok.ensures.value ∙ ap (λ m. m.edges) c.member.view_is in
    let es = subst (λ (xs : List (List ℕ)). IsPiece (each_text saved_edge xs) (AllZip (λ path nums. AllByRecursion IsNum nums) xs) Any c.in-Ok.after.now (map (λ (z : Vec ℤ Global). z.items) c.in-Ok-read_edges.edges.items) c.in-Ok-read_edges.rest.now) edges c.in-Ok-read_edges.ensures.is in
    all_parts c.args.member.now c.args.text.now c.in-Some.after.now c.in-Ok.after.now c.in-Ok-read_edges.rest.now c.in-Some.start c.in-Ok.modules.items (map (λ (z : Vec ℤ Global). z.items) c.in-Ok-read_edges.edges.items) start ms es

pub returns-in-Err-read_edges-clause-refused : goal.returns-in-Err-read_edges-clause-refused
returns-in-Err-read_edges-clause-refused c =
    let number : c.member.inside.number ≡ c.args.member.now.number = ap (λ m. m.number) c.member.view_is in
    let start = subst (λ (n : ℕ). IsPiece (start_text n) IsCount64 Any c.args.text.now c.in-Some.start c.in-Some.after.now) number c.in-Some.ensures.is in
    let modules : c.deref.result.now ≡ c.args.member.now.modules = c.deref.ensures.value ∙ ap (λ m. m.modules) c.member.view_is in
    let ms = subst (λ (xs : List ModuleMembersOf). IsPiece (each_text saved_module xs) (AllZip IsModuleFor xs) Any c.in-Some.after.now c.in-Ok.modules.items c.in-Ok.after.now) modules c.in-Ok.ensures.is in
    let edges : map (λ (z : Vec ℕ Global). z.items) c.deref-in-Ok.result.now ≡ c.args.member.now.edges = ap (map (λ (z : Vec ℕ Global). z.items)) c.deref-in-Ok.ensures.value ∙ ap (λ m. m.edges) c.member.view_is in
    why_weaker c.in-Err-read_edges.why (λ none. no_edges c.args.member.now c.args.text.now c.in-Some.after.now c.in-Ok.after.now c.in-Some.start c.in-Ok.modules.items start ms
    (subst (λ (xs : List (List ℕ)). NoPiece (each_text saved_edge xs) (AllZip (λ path nums. AllByRecursion IsNum nums) xs) Any c.in-Ok.after.now) edges none)) c.in-Err-read_edges.ensures.refused

pub returns-in-Err-clause-refused : goal.returns-in-Err-clause-refused
returns-in-Err-clause-refused c =
    let number : c.member.inside.number ≡ c.args.member.now.number = ap (λ m. m.number) c.member.view_is in
    let start = subst (λ (n : ℕ). IsPiece (start_text n) IsCount64 Any c.args.text.now c.in-Some.start c.in-Some.after.now) number c.in-Some.ensures.is in
    let modules : c.deref.result.now ≡ c.args.member.now.modules = c.deref.ensures.value ∙ ap (λ m. m.modules) c.member.view_is in
    why_weaker c.in-Err.why (λ none. no_modules c.args.member.now c.args.text.now c.in-Some.after.now c.in-Some.start start
    (subst (λ (xs : List ModuleMembersOf). NoPiece (each_text saved_module xs) (AllZip IsModuleFor xs) Any c.in-Some.after.now) modules none)) c.in-Err.ensures.refused
