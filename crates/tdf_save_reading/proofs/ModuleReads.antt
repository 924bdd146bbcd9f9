-- Lines of modules are read exactly.
use Rattle.std.proofs.Common.{◌≡◌, ℕ, ℤ, List, [], ◌∷◌, ◌++◌, map, ◌∙◌, sym, ap, Result, Ok, Err, IfErr, Option, Some, None, Bor, Bool, true, false, codes, append_assoc}
use Rattle.std.specs.List.{AllByRecursion}
use Rattle.std.specs.Fmt.{signed_decimal}
use Rattle.std.specs.Option.{MatchOption}
use Rattle.tdf_save.proofs.Api.{cancel, line_end, line_is, more_is, two_is}
use Rattle.tdf_save_reading.proofs.ReadSteps.{along_none, along_piece, pre_absent, pre_none, pre_piece}
use Rattle.tdf_save.specs.Text.{accept_word, after_spaces, saved_edge, saved_line}
use Rattle.tdf_saved.specs.declared.err.StateErr.{StateErr}
use Rattle.tdf_saved.specs.declared.err.StateErr.TheVariants.{Bad, Memory}
use Rattle.tdf_save_reading.specs.machine.Lists.{list_text}
use Rattle.tdf_save.specs.machine.Pieces.{AnyFlag, Any}
use Rattle.tdf_save_reading.specs.machine.Pieces.{IsPiece, IsStateRefusal, NoPiece}

pub why_weaker : {P Q : Type 0} (e : StateErr) → (P → Q) → IsStateRefusal P e → IsStateRefusal Q e
why_weaker Bad f h = f h
why_weaker Memory f h = h

-- a refusal for one reason is one for another that follows
pub refusal_weaker : {T P Q : Type 0} (r : Result T StateErr) → (P → Q) → IfErr r (IsStateRefusal P) → IfErr r (IsStateRefusal Q)
refusal_weaker (Ok v) f h = h
refusal_weaker (Err e) f h = why_weaker e f h

line_of : {V : Type 0} (keyword : List ℕ) (word : V → List ℕ) (vs : List V) → saved_line keyword (map word vs) ≡ keyword ++ list_text word vs
unfolding list_text
line_of keyword word vs = line_is keyword (map word vs)

pub line_piece : {V : Type 0} (keyword : List ℕ) (word : V → List ℕ) (fits : V → Type 0) (whole mid : List ℕ) (vs : List V) (rest : List ℕ) → whole ≡ keyword ++ mid
    → IsPiece (list_text word) (AllByRecursion fits) Any mid vs rest → IsPiece (λ us. saved_line keyword (map word us)) (AllByRecursion fits) Any whole vs rest
line_piece keyword word fits whole mid vs rest is p =
    along_piece (λ us. saved_line keyword (map word us)) (λ us. keyword ++ list_text word us) (AllByRecursion fits) (AllByRecursion fits) Any whole vs vs rest (line_of keyword word vs) p.fit
    (pre_piece keyword (list_text word) (AllByRecursion fits) Any whole mid vs rest is p)

pub line_none : {V : Type 0} (keyword : List ℕ) (word : V → List ℕ) (fits : V → Type 0) (whole mid : List ℕ) → whole ≡ keyword ++ mid
    → NoPiece (list_text word) (AllByRecursion fits) Any mid → NoPiece (λ us. saved_line keyword (map word us)) (AllByRecursion fits) Any whole
line_none keyword word fits whole mid is none =
    along_none (λ us. us) (λ us. saved_line keyword (map word us)) (λ us. keyword ++ list_text word us) (AllByRecursion fits) (AllByRecursion fits) Any whole (line_of keyword word) (λ v f. f)
    (pre_none keyword (list_text word) (AllByRecursion fits) Any whole mid is none)

pub line_absent : {V : Type 0} (keyword : List ℕ) (word : V → List ℕ) (fits : V → Type 0) (whole : List ℕ) → ((r : List ℕ) → whole ≡ keyword ++ r → ⊥)
    → NoPiece (λ us. saved_line keyword (map word us)) (AllByRecursion fits) Any whole
line_absent keyword word fits whole none =
    along_none (λ us. us) (λ us. saved_line keyword (map word us)) (λ us. keyword ++ list_text word us) (AllByRecursion fits) (AllByRecursion fits) Any whole (line_of keyword word) (λ v f. f)
    (pre_absent keyword (list_text word) (AllByRecursion fits) Any whole none)

-- ---- lines with a path

abbrev pub path_front : (keyword path : List ℕ) → List ℕ
path_front keyword path = keyword ++ (32 ∷ path)

pub path_cut : (keyword path text mid rest : List ℕ) (o : Option (Bor (List ℕ))) → text ≡ keyword ++ mid → mid ≡ (32 ∷ []) ++ rest
    → MatchOption o ((r : List ℕ) → rest ≡ path ++ r → ⊥) (λ x. rest ≡ path ++ x.now) → MatchOption o ((r : List ℕ) → text ≡ path_front keyword path ++ r → ⊥) (λ x. text ≡ path_front keyword path ++ x.now)
path_cut keyword path text mid rest None a b h = λ r e.
    let whole : keyword ++ ((32 ∷ []) ++ rest) ≡ keyword ++ ((32 ∷ []) ++ (path ++ r)) = ap (λ x. keyword ++ x) (sym b) ∙ sym a ∙ e ∙ append_assoc keyword (32 ∷ path) r in
    h r (cancel (32 ∷ []) rest (path ++ r) (cancel keyword ((32 ∷ []) ++ rest) ((32 ∷ []) ++ (path ++ r)) whole))
path_cut keyword path text mid rest (Some x) a b h =
    a ∙ ap (λ y. keyword ++ y) b ∙ ap (λ y. keyword ++ (32 ∷ y)) h ∙ sym (append_assoc keyword (32 ∷ path) x.now)

pub no_keyword : (keyword path text : List ℕ) → ((r : List ℕ) → text ≡ keyword ++ r → ⊥) → (r : List ℕ) → text ≡ path_front keyword path ++ r → ⊥
no_keyword keyword path text none = λ r e. none ((32 ∷ path) ++ r) (e ∙ append_assoc keyword (32 ∷ path) r)

pub no_space : (keyword path text mid : List ℕ) → text ≡ keyword ++ mid → ((r : List ℕ) → mid ≡ (32 ∷ []) ++ r → ⊥) → (r : List ℕ) → text ≡ path_front keyword path ++ r → ⊥
no_space keyword path text mid a none = λ r e. none (path ++ r) (cancel keyword mid ((32 ∷ []) ++ (path ++ r)) (sym a ∙ e ∙ append_assoc keyword (32 ∷ path) r))

abbrev pub last_text : {V : Type 0} → (V → List ℕ) → V → List ℕ
last_text word v = (32 ∷ word v) ++ line_end

pub path_line_is : {V : Type 0} (keyword path : List ℕ) (word : V → List ℕ) (v : V) → saved_line keyword (path ∷ (word v ∷ [])) ≡ path_front keyword path ++ last_text word v
path_line_is keyword path word v = two_is keyword path (word v) ∙ sym (append_assoc keyword (32 ∷ path) (last_text word v))

pub path_list_is : {V : Type 0} (keyword path : List ℕ) (word : V → List ℕ) (vs : List V) → saved_line keyword (path ∷ map word vs) ≡ path_front keyword path ++ list_text word vs
unfolding list_text
path_list_is keyword path word vs = more_is keyword path (map word vs) ∙ sym (append_assoc keyword (32 ∷ path) (after_spaces (map word vs) ++ line_end))

-- a text that is something fixed and then a piece
pub front_piece : {V : Type 0} (pre : List ℕ) (text other : V → List ℕ) (fits : V → Type 0) (ends : List ℕ → Type 0) (whole mid : List ℕ) (v : V) (rest : List ℕ)
    → ((x : V) → text x ≡ pre ++ other x) → whole ≡ pre ++ mid → IsPiece other fits ends mid v rest → IsPiece text fits ends whole v rest
front_piece pre text other fits ends whole mid v rest is at p = along_piece text (λ x. pre ++ other x) fits fits ends whole v v rest (is v) p.fit (pre_piece pre other fits ends whole mid v rest at p)

pub front_none : {V : Type 0} (pre : List ℕ) (text other : V → List ℕ) (fits : V → Type 0) (ends : List ℕ → Type 0) (whole mid : List ℕ)
    → ((x : V) → text x ≡ pre ++ other x) → whole ≡ pre ++ mid → NoPiece other fits ends mid → NoPiece text fits ends whole
front_none pre text other fits ends whole mid is at none = along_none (λ x. x) text (λ x. pre ++ other x) fits fits ends whole is (λ v f. f) (pre_none pre other fits ends whole mid at none)

pub front_absent : {V : Type 0} (pre : List ℕ) (text other : V → List ℕ) (fits : V → Type 0) (ends : List ℕ → Type 0) (whole : List ℕ)
    → ((x : V) → text x ≡ pre ++ other x) → ((r : List ℕ) → whole ≡ pre ++ r → ⊥) → NoPiece text fits ends whole
front_absent pre text other fits ends whole is none = along_none (λ x. x) text (λ x. pre ++ other x) fits fits ends whole is (λ v f. f) (pre_absent pre other fits ends whole none)

-- ---- the title of a module

abbrev pub title_text : (path : List ℕ) → Bool → List ℕ
title_text path flag = saved_line (codes "module") (path ∷ (accept_word flag ∷ []))

pub title_is : (path : List ℕ) (flag : Bool) → title_text path flag ≡ path_front (codes "module") path ++ last_text accept_word flag
title_is path flag = path_line_is (codes "module") path accept_word flag

pub no_flag : (text : List ℕ) → ((r : List ℕ) → text ≡ (32 ∷ (49 ∷ (10 ∷ []))) ++ r → ⊥) → ((r : List ℕ) → text ≡ (32 ∷ (48 ∷ (10 ∷ []))) ++ r → ⊥) → NoPiece (last_text accept_word) AnyFlag Any text
no_flag text one none true r p = one r p.is
no_flag text one none false r p = none r p.is

pub edge_front : (path : List ℕ) (nums : List ℤ) → saved_edge path nums ≡ path_front (codes "edge") path ++ list_text signed_decimal nums
unfolding saved_edge
edge_front path nums = path_list_is (codes "edge") path signed_decimal nums
