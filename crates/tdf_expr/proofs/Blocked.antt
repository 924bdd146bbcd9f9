-- The blocks of a model, compiled.
use Rattle.std.proofs.Common.{◌≡◌, ◌∙◌, ℕ, zero, suc, ◌+◌, ◌<◌, List, [], ◌∷◌, ◌++◌, Option, Some, None, Vec, length, refl, sym, ap, subst, arith}
use Rattle.std.proofs.Math.ListN.{get_or}
use Rattle.std.proofs.lemmas.List.{length-map, length-append}
use Rattle.std.proofs.lemmas.Option.{slice_get-map, slice_get_read}
use Rattle.std.specs.Option.{option_map}
use Rattle.std.specs.Prelude.{map, slice_get}
use Rattle.tdf_expr_compiler.specs.Promises.{PerformsAll}
use Rattle.std.specs.declared.alloc.Global.{Global}
use Rattle.tdf_expr.specs.Blocks.{PureBlock, Events, body_of, scope_of, process_body}
use Rattle.tdf_expr.specs.declared.blocks.Block.{Block}
use Rattle.tdf_expr_symbols.specs.Names.{Names}
use Rattle.tdf_expr.specs.Compiled.{AreProcesses, IsActOf, IsBlockOf, AreBlocksOf, act_of}
use Rattle.tdf_expr.specs.declared.bodies.Body.{Body}
use Rattle.tdf_expr.specs.declared.bodies.Body.TheVariants as body
use Rattle.tdf_expr.specs.declared.blocks.Acts.TheVariants as acts
use Rattle.tdf_expr_machine.specs.declared.acts.Act.{Act}
use Rattle.tdf_expr_symbols.specs.Scope.{Scope}
use Rattle.tdf_lang_tree.specs.Pure.{PureProcess, PureDe}
use Rattle.tdf_lang_tree.specs.Views.{pure_process}
use Rattle.tdf_lang_tree.specs.declared.blocks.Process.{Process}

-- the processes whose acts are made
pub record AreMade (scope : Scope) (processes : List PureProcess) (n : ℕ) (list : List Act) : Type 0 where
  pub long : length list ≡ n
  pub each : (k : ℕ) (p : PureProcess) (a : Act) → slice_get processes k ≡ Some p → slice_get list k ≡ Some a → PerformsAll scope [] p.body.list a

pub made_none : (scope : Scope) (processes : List PureProcess) → AreMade scope processes 0 []
made_none scope processes = record { long = refl; each = λ k p a is e. absurd cc }

pushed : (P : ℕ → Act → Type 0) (xs : List Act) (x : Act) → ((k : ℕ) (a : Act) → slice_get xs k ≡ Some a → P k a) → P (length xs) x
    → (k : ℕ) (a : Act) → slice_get (xs ++ x ∷ []) k ≡ Some a → P k a
pushed P [] x all one zero a e = subst (P 0) (held_is e) one
  where
    held : Option Act → Act
    held None = x
    held (Some y) = y

    held_is : Some x ≡ Some a → x ≡ a
    held_is e = ap held e
pushed P [] x all one (suc k) a e = absurd cc
pushed P (y ∷ xs) x all one zero a e = all zero a e
pushed P (y ∷ xs) x all one (suc k) a e =
    pushed (λ n. P (suc n)) xs x (λ n b is. all (suc n) b is) (subst (λ n. P n x) length_is one) k a e
  where
    length_is : length (y ∷ xs) ≡ suc (length xs)
    length_is = omega arith

pub made_more : (scope : Scope) (processes : List PureProcess) (n : ℕ) (list : List Act) (q : PureProcess) (act : Act) → AreMade scope processes n list
    → slice_get processes n ≡ Some q → PerformsAll scope [] q.body.list act → AreMade scope processes (n + 1) (list ++ act ∷ [])
made_more scope processes n list q act made at performs = record {
  long = length-append list (act ∷ []) ∙ ap (λ k. k + 1) made.long;
  each = λ k p a is e.
      pushed (λ m b. (r : PureProcess) → slice_get processes m ≡ Some r → PerformsAll scope [] r.body.list b) list act
      (λ m b here r there. made.each m r b there here)
      (λ r there. subst (λ (x : PureProcess). PerformsAll scope [] x.body.list act) (same r there) performs) k a e p is;
}
  where
    held : Option PureProcess → PureProcess
    held None = q
    held (Some r) = r

    same : (r : PureProcess) → slice_get processes (length list) ≡ Some r → q ≡ r
    same r there = ap held (sym at ∙ ap (slice_get processes) (sym made.long) ∙ there)

pub seen_at : (list : List Process) (n : ℕ) (p : Process) → n < length list → p ≡ get_or list n p → slice_get (map pure_process list) n ≡ Some (pure_process p)
seen_at list n p within is = slice_get-map pure_process list n ∙ ap (option_map pure_process) (slice_get_read list (length list) n p refl within is)

pub made_all : (scope : Scope) (list : List Process) (n : ℕ) (acts : List Act) → AreMade scope (map pure_process list) n acts → n ≡ length list
    → AreProcesses scope (map pure_process list) acts
made_all scope list n acts made all = record { long = made.long ∙ all ∙ sym (length-map list pure_process); each = made.each }

pub ruleset process_laws = (made_none, made_all)

-- the bodies of a `de` block
slice_none : (n : ℕ) (list : List Act) (processes : List PureProcess) → length list ≡ length processes → slice_get list n ≡ None → slice_get processes n ≡ None
slice_none n [] [] long e = refl
slice_none n [] (p ∷ ps) long e = absurd (omega (arith, long))
slice_none zero (a ∷ list) (p ∷ ps) long e = absurd cc
slice_none (suc n) (a ∷ list) (p ∷ ps) long e = slice_none n list ps (omega (arith, long)) e
slice_none n (a ∷ list) [] long e = absurd (omega (arith, long))

slice_some : (n : ℕ) (list : List Act) (processes : List PureProcess) (a : Act) → length list ≡ length processes → slice_get list n ≡ Some a
    → (p : PureProcess) × (slice_get processes n ≡ Some p)
slice_some n [] ps a long e = absurd cc
slice_some n (b ∷ list) [] a long e = absurd (omega (arith, long))
slice_some zero (b ∷ list) (p ∷ ps) a long e = (p, refl)
slice_some (suc n) (b ∷ list) (p ∷ ps) a long e = slice_some n list ps a (omega (arith, long)) e

pub process_act : (scope : Scope) (processes : List PureProcess) (list : List Act) (n : ℕ) → AreProcesses scope processes list
    → IsActOf scope (process_body (slice_get processes n)) (slice_get list n)
process_act scope processes list n made = go (slice_get list n) refl
  where
    go : (o : Option Act) → slice_get list n ≡ o → IsActOf scope (process_body (slice_get processes n)) o
    go None e = ap process_body (slice_none n list processes made.long e)
    go (Some a) e =
        let p = slice_some n list processes a made.long e in
        subst (λ (q : Option PureProcess). PerformsAll scope [] (process_body q) a) (sym p.1) (made.each n p.0 a p.1 e)

pub event_acts : (scope : Scope) (block : PureDe) (list : Vec Act Global) → AreProcesses scope block.processes list.items
    → (part : Body) → IsActOf scope (body_of (Events block) part) (act_of (acts.Processes list) part)
event_acts scope block list made body.Initialize = refl
event_acts scope block list made body.Processing = refl
event_acts scope block list made body.Change = refl
event_acts scope block list made body.Reinitialize = refl
event_acts scope block list made (body.Process n) = process_act scope block.processes list.items n made

pub ruleset event_laws = (event_acts)

pub blocks_more : (globals : Names) (done : List PureBlock) (list : List Block) (p : PureBlock) (b : Block) → AreBlocksOf globals done list → IsBlockOf (scope_of globals p) p b
    → AreBlocksOf globals (done ++ p ∷ []) (list ++ b ∷ [])
blocks_more globals [] [] p b are is = (is, tt)
blocks_more globals [] (c ∷ list) p b are is = absurd are
blocks_more globals (q ∷ done) [] p b are is = absurd are
blocks_more globals (q ∷ done) (c ∷ list) p b are is = (are.0, blocks_more globals done list p b are.1 is)
