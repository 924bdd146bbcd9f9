-- A vector as a stack: what a push leaves innermost.
use Rattle.std.proofs.Common.{◌≡◌, ℕ, suc, ◌-◌, ◌<◌, true, List, [], ◌∷◌, ◌++◌, Some, None, refl, sym, ap, ◌∙◌, length, take, drop, get_or, ◌+◌, add-one, drop-cons, arith}
use Rattle.std.proofs.Math.Seq.{take-length, take-suc}
use Rattle.std.proofs.lemmas.Option.{slice_get_within, slice_get-get_or, get_or_from_slice_get}
use Rattle.std.specs.List.{slice_get}
use Rattle.tdf_lang_exprs.specs.declared.pending.Pending.{Pending}
use Rattle.tdf_lang_exprs.specs.machine.Exprs.{Wait, Within, Negated, Denied, Left, stops}
use Rattle.std.specs.Prelude.{map}
use Rattle.tdf_lang_lexer.specs.Token.{tok}
use Rattle.tdf_lang_lexer.specs.declared.token.Token.{Token}
use Rattle.tdf_lang_exprs.specs.views.Waiting.{wait, piled, waits}

piled_push : (ps : List Pending) (p : Pending) (above : List Wait) → piled (ps ++ p ∷ []) above ≡ wait p ∷ piled ps above
piled_push [] p above = refl
piled_push (q ∷ ps) p above = piled_push ps p (wait q ∷ above)

pub waits_push : (ps : List Pending) (p : Pending) → waits (ps ++ p ∷ []) ≡ wait p ∷ waits ps
unfolding waits
waits_push ps p = piled_push ps p []

pub waits_none : waits [] ≡ []
unfolding waits
waits_none = refl

ends_with : (ps : List Pending) (p : Pending) → slice_get ps (length ps - 1) ≡ Some p → ps ≡ take (length ps - 1) ps ++ p ∷ []
ends_with ps p h =
    let within : length ps - 1 < length ps = slice_get_within ps (length ps - 1) p h in
    let more : length ps ≡ suc (length ps - 1) = omega arith in
    sym (take-length ps) ∙ ap (λ n. take n ps) more ∙ take-suc ps (length ps - 1) p within
    ∙ ap (λ q. take (length ps - 1) ps ++ q ∷ []) (get_or_from_slice_get ps (length ps - 1) p p h)

stops_one : (k : ℕ) (w : Wait) (s : List Wait) → stops k (w ∷ []) ≡ stops k (w ∷ s)
stops_one k (Within b) s = refl
stops_one k Negated s = refl
stops_one k Denied s = refl
stops_one k (Left op x) s = refl

-- what may stand above a stack, by the vector's last element
pub stops_last : (k : ℕ) (ps : List Pending) (p : Pending) → slice_get ps (length ps - 1) ≡ Some p → stops k (wait p ∷ []) ≡ stops k (waits ps)
stops_last k ps p h =
    stops_one k (wait p) (waits (take (length ps - 1) ps))
    ∙ ap (stops k) (sym (waits_push (take (length ps - 1) ps) p))
    ∙ ap (λ qs. stops k (waits qs)) (sym (ends_with ps p h))

pub stops_none : (k : ℕ) (ps : List Pending) → slice_get ps (length ps - 1) ≡ None → true ≡ stops k (waits ps)
unfolding waits
stops_none k [] h = refl
stops_none k (q ∷ qs) h =
    let within : length (q ∷ qs) - 1 < length (q ∷ qs) = omega arith in
    let found = slice_get-get_or (q ∷ qs) (length (q ∷ qs) - 1) q within in
    absurd (cc)

pub ruleset wait_laws = (waits_push, waits_none, stops_last, stops_none)

pub map_push : (xs : List Token) (x : Token) → map tok (xs ++ x ∷ []) ≡ map tok xs ++ tok x ∷ []
map_push [] x = refl
map_push (y ∷ xs) x = ap (λ rest. tok y ∷ rest) (map_push xs x)

-- one token fewer is left
pub map_drop : (xs : List Token) (i : ℕ) (d : Token) → i < length xs → map tok (drop i xs) ≡ tok (get_or xs i d) ∷ map tok (drop (i + 1) xs)
map_drop xs i d within = rw (add-one, drop-cons xs i d) refl

pub ruleset run_laws = (waits_none, map_drop)
