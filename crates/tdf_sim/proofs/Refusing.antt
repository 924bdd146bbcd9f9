-- What refusals of the steps say of a text.
use Rattle.std.proofs.Common.{◌≡◌, ◌≢◌, ◌⊎◌, ℕ, suc, zero, ◌+◌, ◌-◌, ◌<◌, ◌≤◌, List, [], ◌∷◌, ◌++◌, Option, Some, None, Result, Ok, Err, IfOk, IfErr, OnOk, length, refl, sym, ap, subst, inl, inr, arith}
use Rattle.std.specs.Prelude.{slice_get}
use Rattle.tdf_base.specs.declared.codes.Code.{Code}
use Rattle.tdf_base.specs.declared.faults.Fault.{Fault}
use Rattle.tdf_lang_parser.specs.Formed.{IsFormed}
use Rattle.tdf_lang_parser.specs.Refused.{IsWhy, SpellsText}
use Rattle.tdf_lang_parser.specs.declared.err.LangErr.{LangErr}
use Rattle.tdf_lang_parser.specs.declared.err.LangErr.TheVariants as why
use Rattle.tdf_expr_blocks.specs.Types.{type_faults}
use Rattle.tdf_dynamic_first.specs.First.{IsFirstPlan, IsPlannable}
use Rattle.tdf_dynamic_first.specs.declared.first.First.{First}
use Rattle.tdf_base.specs.First.{first_of, verdict_of}
use Rattle.tdf_base.specs.declared.first.LineFault.{LineFault}
use Rattle.tdf_base.specs.declared.refusal.TypeErr.{TypeErr}
use Rattle.tdf_base.specs.declared.refusal.TypeErr.TheVariants as by
use Rattle.tdf_bind.specs.Flat.{IsFlatOf}
use Rattle.tdf_bind.specs.declared.model.Flat.{Flat}
use Rattle.tdf_expr_names.specs.Names.{name_faults}
use Rattle.tdf_sim.specs.Accepted.{ArePlans, IsAccepted, IsAcceptedText, IsEarlyRefusal, IsPlansRefusal, IsTextRefusal, IsTreeRefusal}
use Rattle.tdf_sim.specs.FirstFault.{HasSoundLines, IsEarlyFault, IsFirstFault, IsPlansFault, IsTreeFault, cluster_count, of_bytes, of_length, of_syntax, of_text, of_tree, of_early, of_names, of_types, of_clusters, on_line, at_line}
use Rattle.tdf_sim.specs.Laws.{EarlyFaultsAreOne, FaultsAreOne, FaultOrAccepted, FaultsOfPlansAreOne, FaultsOfTreesAreOne, TreeFaultOrAccepted}
use Rattle.tdf_sim.specs.Runs.{IsAcceptedTree}
use Rattle.tdf_sim.specs.declared.err.SimErr.{SimErr}
use Rattle.tdf_sim.specs.declared.err.SimErr.TheVariants.{Refused, Memory}
use Rattle.tdf_sim.specs.declared.sim.Sim.{Sim}
use Rattle.tdf_sim.specs.machine.Steps.{HavePlans, IsFirstRefusal, by_line, by_parser}
use Rattle.tdf_lang_tree.specs.Kept.{IsKept}
use Rattle.tdf_lang_tree.specs.Pure.{PureTree}

abbrev Answer : Type 0
Answer = Result (Unit {0}) TypeErr

-- a line that was named is that of the first fault
named : (code : Code) (line : ℕ) (first : Option LineFault) → ◌≡◌ {A = Answer} (Err (by.Line code line)) (verdict_of first)
    → (f : LineFault) × (first ≡ Some f) × (on_line code line ≡ at_line f)
named code line None is = absurd cc
named code line (Some f) is = (f, refl, ap held is)
  where
    held : Answer → Fault
    held (Err (by.Line c l)) = on_line c l
    held (Err by.Memory) = on_line code line
    held (Ok x) = on_line code line

abbrev is_line : Answer → Type 0
is_line (Err (by.Line c l)) = Unit {0}
is_line (Err by.Memory) = ⊥
is_line (Ok x) = ⊥

not_memory : (code : Code) (line : ℕ) → ◌≡◌ {A = Answer} (Err (by.Line code line)) (Err by.Memory) → ⊥
not_memory code line same = subst is_line same tt

pub names_refused : (tree : PureTree) (e : TypeErr) (r : SimErr) → r ≡ by_line e
    → (◌≢◌ {A = Answer} (Err e) (Err by.Memory) → ◌≡◌ {A = Answer} (Err e) (verdict_of (first_of (name_faults tree)))) → IsEarlyRefusal tree r
names_refused tree (by.Line code line) r is says =
    let f = named code line (first_of (name_faults tree)) (says (not_memory code line)) in
    subst (IsEarlyRefusal tree) (sym is) (of_names f.0 f.1 f.2)
names_refused tree by.Memory r is says = subst (IsEarlyRefusal tree) (sym is) tt

line_not_memory : (code : Code) (line : ℕ) → by.Line code line ≡ by.Memory → ⊥
line_not_memory code line same = not_memory code line (ap Err same)

pub types_refused : {X : Type 0} (tree : PureTree) (e : TypeErr) (r : SimErr) → name_faults tree ≡ [] → r ≡ by_line e
    → ((d : TypeErr) → ◌≡◌ {A = Result X TypeErr} (Err e) (Err d) → d ≢ by.Memory → ◌≡◌ {A = Answer} (Err d) (verdict_of (first_of (type_faults tree)))) → IsEarlyRefusal tree r
types_refused tree (by.Line code line) r names is says =
    let f = named code line (first_of (type_faults tree)) (says (by.Line code line) refl (line_not_memory code line)) in
    subst (IsEarlyRefusal tree) (sym is) (of_types f.0 names f.1 f.2)
types_refused tree by.Memory r names is says = subst (IsEarlyRefusal tree) (sym is) tt

-- an early fault is the first of its tree
pub early_refused : (tree : PureTree) (e : SimErr) → IsEarlyRefusal tree e → IsTreeRefusal tree e
early_refused tree (Refused fault) is = of_early is
early_refused tree Memory is = tt

pub parser_refused : (text : List ℕ) (e : LangErr) (r : SimErr) → r ≡ by_parser e → IsWhy e text → IsTextRefusal text r
parser_refused text (why.Byte line) r is says = subst (IsTextRefusal text) (sym is) (of_text (of_bytes line says refl))
parser_refused text (why.LongLine line) r is says = subst (IsTextRefusal text) (sym is) (of_text (of_length line says refl))
parser_refused text (why.Syntax line) r is says = subst (IsTextRefusal text) (sym is) (of_text (of_syntax line says refl))
parser_refused text why.Memory r is says = subst (IsTextRefusal text) (sym is) tt

-- one plan more
pub plans_push : (flat : Flat) (firsts new : List First) (first : First) (cluster : ℕ) → HavePlans flat firsts → length firsts + 1 ≡ cluster → IsFirstPlan flat cluster first
    → new ≡ firsts ++ first ∷ [] → HavePlans flat new
plans_push flat firsts new first cluster have next is new_is =
    let here : 0 + length firsts + 1 ≡ cluster = omega (arith, next) in
    subst (HavePlans flat) (sym new_is) (λ k x at. back k x
    (go 0 firsts (λ j z at_j. on j z (have j z at_j)) (subst (λ (c : ℕ). IsFirstPlan flat c first) (sym here) is) k x at))
  where
    on : (k : ℕ) (x : First) → IsFirstPlan flat (k + 1) x → IsFirstPlan flat (0 + k + 1) x
    on k x h = let e : k + 1 ≡ 0 + k + 1 = omega arith in subst (λ (c : ℕ). IsFirstPlan flat c x) e h

    back : (k : ℕ) (x : First) → IsFirstPlan flat (0 + k + 1) x → IsFirstPlan flat (k + 1) x
    back k x h = let e : 0 + k + 1 ≡ k + 1 = omega arith in subst (λ (c : ℕ). IsFirstPlan flat c x) e h

    go : (n : ℕ) (xs : List First) → ((k : ℕ) (x : First) → slice_get xs k ≡ Some x → IsFirstPlan flat (n + k + 1) x) → IsFirstPlan flat (n + length xs + 1) first
        → (k : ℕ) (x : First) → slice_get (xs ++ first ∷ []) k ≡ Some x → IsFirstPlan flat (n + k + 1) x
    go n [] each last zero x at = let e : first ≡ x = cc in subst (λ (y : First). IsFirstPlan flat (n + 0 + 1) y) e last
    go n [] each last (suc k) x at = absurd cc
    go n (y ∷ xs) each last zero x at = each zero x at
    go n (y ∷ xs) each last (suc k) x at =
        let turn : n + 1 + k + 1 ≡ n + suc k + 1 = omega arith in
        subst (λ (c : ℕ). IsFirstPlan flat c x) turn
        (go (n + 1) xs (λ j z at_j. let e : n + suc j + 1 ≡ n + 1 + j + 1 = omega arith in subst (λ (c : ℕ). IsFirstPlan flat c z) e (each (suc j) z at_j))
        (let e : n + suc (length xs) + 1 ≡ n + 1 + length xs + 1 = omega arith in subst (λ (c : ℕ). IsFirstPlan flat c first) e last) k x at)

there : (xs : List First) (k : ℕ) → k < length xs → (x : First) × (slice_get xs k ≡ Some x)
there [] k less = absurd (omega (arith, less))
there (x ∷ xs) zero less = (x, refl)
there (x ∷ xs) (suc k) less = there xs k (omega (arith, less))

pub plans_refused : (flat : Flat) (cluster : ℕ) (firsts : List First) (e : SimErr) → cluster ≤ cluster_count flat.tables → length firsts + 1 ≡ cluster → HavePlans flat firsts
    → IsFirstRefusal flat cluster e → IsPlansRefusal flat e
plans_refused flat cluster firsts (Refused fault) within next have is = record {
  cluster = cluster;
  some = omega (arith, next);
  within = within;
  before = λ c some less.
      (let here = there firsts (c - 1) (omega (arith, some, less, next)) in
      let number : c - 1 + 1 ≡ c = omega (arith, some) in
      (here.0, subst (λ (n : ℕ). IsFirstPlan flat n here.0) number (have (c - 1) here.0 here.1)));
  is = is;
}
plans_refused flat cluster firsts Memory within next have is = tt

pub clusters_refused : (tree : PureTree) (flat : Flat) (result : Result Sim SimErr) → HasSoundLines tree → IsFlatOf tree flat → IfErr result (IsPlansRefusal flat) → IfErr result (IsTreeRefusal tree)
clusters_refused tree flat (Ok sim) sound is_flat is = tt
clusters_refused tree flat (Err (Refused fault)) sound is_flat is = of_clusters flat sound is_flat is
clusters_refused tree flat (Err Memory) sound is_flat is = tt

pub clusters_accepted : (tree : PureTree) (flat : Flat) (result : Result Sim SimErr) → IsKept tree → IsFormed tree → HasSoundLines tree → IsFlatOf tree flat
    → IfOk result (λ sim. sim.flat ≡ flat) → IfOk result (λ sim. ArePlans sim.flat sim.firsts.items) → IfOk result (IsAcceptedTree tree)
clusters_accepted tree flat (Ok sim) kept formed sound is_flat own plans = record {
  kept = kept;
  formed = formed;
  accepted = record { lines = sound; is_flat = subst (IsFlatOf tree) (sym own) is_flat; plans = plans };
}
clusters_accepted tree flat (Err r) kept formed sound is_flat own plans = tt

pub text_refused : (text : List ℕ) (tree : PureTree) (result : Result Sim SimErr) → SpellsText text tree → IfErr result (IsTreeRefusal tree) → IfErr result (IsTextRefusal text)
text_refused text tree (Ok sim) spells is = tt
text_refused text tree (Err (Refused fault)) spells is = of_tree tree spells is
text_refused text tree (Err Memory) spells is = tt

-- where there is a first fault, the answer is that fault, or out of memory
pub refused_always : {X : Type 0} (Is : Fault → Type 0) (r : SimErr) → ((one other : Fault) → Is one → Is other → one ≡ other) → ((g : Fault) → r ≡ Refused g → Is g)
    → (fault : Fault) → Is fault → (◌≡◌ {A = Result X SimErr} (Err r) (Err (Refused fault))) ⊎ (◌≡◌ {A = Result X SimErr} (Err r) (Err Memory))
refused_always Is (Refused g) one says fault has = inl (ap (λ (f : Fault). Err (Refused f)) (one g fault (says g refl) has))
refused_always Is Memory one says fault has = inr refl

pub err_always : (text : List ℕ) (r : SimErr) → FaultsAreOne → IsTextRefusal text r → (fault : Fault) → IsFirstFault text fault
    → (◌≡◌ {A = Result Sim SimErr} (Err r) (Err (Refused fault))) ⊎ (◌≡◌ {A = Result Sim SimErr} (Err r) (Err Memory))
err_always text r one is = refused_always (IsFirstFault text) r (one text) (λ g e. subst (IsTextRefusal text) e is)

pub tree_err_always : (tree : PureTree) (r : SimErr) → FaultsOfTreesAreOne → IsKept tree → IsTreeRefusal tree r → (fault : Fault) → IsTreeFault tree fault
    → (◌≡◌ {A = Result Sim SimErr} (Err r) (Err (Refused fault))) ⊎ (◌≡◌ {A = Result Sim SimErr} (Err r) (Err Memory))
tree_err_always tree r one kept is = refused_always (IsTreeFault tree) r (λ f g. one tree f g kept) (λ g e. subst (IsTreeRefusal tree) e is)

pub tree_always : (tree : PureTree) (result : Result Sim SimErr) → FaultsOfTreesAreOne → TreeFaultOrAccepted → IsKept tree → IfOk result (IsAcceptedTree tree) → IfErr result (IsTreeRefusal tree)
    → (fault : Fault) → IsTreeFault tree fault → (result ≡ Err (Refused fault)) ⊎ (result ≡ Err Memory)
tree_always tree (Ok sim) one apart kept accepted is fault has = absurd (apart tree fault sim kept has accepted.accepted)
tree_always tree (Err r) one apart kept accepted is fault has = tree_err_always tree r one kept is fault has

pub early_err_always : {X : Type 0} (tree : PureTree) (r : SimErr) → EarlyFaultsAreOne → IsKept tree → IsEarlyRefusal tree r → (fault : Fault) → IsEarlyFault tree fault
    → (◌≡◌ {A = Result X SimErr} (Err r) (Err (Refused fault))) ⊎ (◌≡◌ {A = Result X SimErr} (Err r) (Err Memory))
early_err_always tree r one kept is = refused_always (IsEarlyFault tree) r (λ f g. one tree f g kept) (λ g e. subst (IsEarlyRefusal tree) e is)

pub plans_err_always : (flat : Flat) (r : SimErr) → FaultsOfPlansAreOne → IsPlannable flat → IsPlansRefusal flat r → (fault : Fault) → IsPlansFault flat fault
    → (◌≡◌ {A = Result Sim SimErr} (Err r) (Err (Refused fault))) ⊎ (◌≡◌ {A = Result Sim SimErr} (Err r) (Err Memory))
plans_err_always flat r one can is = refused_always (IsPlansFault flat) r (λ f g. one flat f g can) (λ g e. subst (IsPlansRefusal flat) e is)

pub always : (text : List ℕ) (result : Result Sim SimErr) → FaultsAreOne → FaultOrAccepted → IfOk result (IsAcceptedText text) → IfErr result (IsTextRefusal text)
    → (fault : Fault) → IsFirstFault text fault → (result ≡ Err (Refused fault)) ⊎ (result ≡ Err Memory)
always text (Ok sim) one apart accepted is fault has = absurd (apart text fault sim has accepted)
always text (Err r) one apart accepted is fault has = err_always text r one is fault has

pub text_accepted : (text : List ℕ) (tree : PureTree) (result : Result Sim SimErr) → SpellsText text tree → IfOk result (IsAccepted tree) → IfOk result (IsAcceptedText text)
text_accepted text tree (Ok sim) spells is = record { tree = tree; spelled = spells; accepted = is }
text_accepted text tree (Err r) spells is = tt

pub plans_put : {T : Type 0} (result : Result T SimErr) (flat : Flat) (firsts new : List First) (first : First) (cluster : ℕ) → HavePlans flat firsts → length firsts + 1 ≡ cluster
    → IsFirstPlan flat cluster first → OnOk result (new ≡ firsts ++ first ∷ []) → OnOk result (HavePlans flat new)
plans_put (Ok x) flat firsts new first cluster have next is put = plans_push flat firsts new first cluster have next is put
plans_put (Err r) flat firsts new first cluster have next is put = tt
