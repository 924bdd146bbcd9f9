use Rattle.std.proofs.Common.{◌≡◌, ℕ, Some, Ok, Result, Err, subst, sym, ap, ◌∙◌}
use Rattle.std.specs.Fmt.{decimal}
use Rattle.std.specs.Cmp.Lexicographic.{other_text}
use Rattle.std.specs.Str.{IsAscii}
use Rattle.std.proofs.lemmas.Fmt.{IsAscii-decimal, parse-decimal}
use Rattle.std.proofs.lemmas.Str.{IsUtf8-from_ascii}
use Rattle.tdf_save_reading.proofs.numbers.whole.Goals as goal

ok_same : {E : Type 0} (a b : ℕ) (r : Result ℕ E) → r ≡ Ok a → r ≡ Ok b → a ≡ b
ok_same {E = E} a b r x y = ap (λ (o : Result ℕ E). elim o as (λ _. ℕ) [ Ok c ↦ c | Err e ↦ a ]) (sym x ∙ y)

pub returns-in_default-clause-always : goal.returns-in_default-clause-always
returns-in_default-clause-always c = λ n small is. absurd (c.in_default.ensures.cases.0 (IsUtf8-from_ascii c.args.word.now (subst IsAscii (sym is) (IsAscii-decimal n small))))

pub returns-in_default-parse-clause-always : goal.returns-in_default-parse-clause-always
returns-in_default-parse-clause-always c = λ n small is. absurd (c.in_default-parse.not-Ok n (parse-decimal 64 n c.in-Ok.text.now c.parse.result small small (c.in-Ok.ensures.cases.0 ∙ is) c.parse.ensures.value.0))

pub returns-then-eq-clause-always : goal.returns-then-eq-clause-always
returns-then-eq-clause-always c = λ n small is. ap Some (ok_same c.in-Ok-parse.number n c.parse.result c.in-Ok-parse.is (parse-decimal 64 n c.in-Ok.text.now c.parse.result small small (c.in-Ok.ensures.cases.0 ∙ is) c.parse.ensures.value.0))

pub returns-clause-always : goal.returns-clause-always
returns-clause-always c = λ n small is.
    let same = ok_same c.in-Ok-parse.number n c.parse.result c.in-Ok-parse.is (parse-decimal 64 n c.in-Ok.text.now c.parse.result small small (c.in-Ok.ensures.cases.0 ∙ is) c.parse.ensures.value.0) in
    let text : c.as_bytes.result.now ≡ c.args.word.now = c.as_bytes.ensures.value ∙ c.format.ensures.text ∙ ap decimal same ∙ sym is in
    absurd (other_text c.as_bytes.result.now c.args.word.now c.if-eq.ensures text)
