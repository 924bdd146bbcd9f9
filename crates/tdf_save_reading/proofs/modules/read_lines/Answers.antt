use Rattle.std.proofs.Common.{ℕ, List, ◌≡◌, ◌∙◌, ap, refl, subst}
use Rattle.tdf_save_reading.proofs.ModuleReads.{title_text, why_weaker}
use Rattle.tdf_save_reading.proofs.ModuleSteps.{all_lines, no_cells, no_rates, no_steps, no_title}
use Rattle.tdf_save.specs.machine.Pieces.{Any, AnyFlag}
use Rattle.tdf_save_reading.specs.machine.Pieces.{IsPiece, NoPiece}
use Rattle.tdf_save_reading.proofs.modules.read_lines.Goals as goal

pub returns-in_default-clause-refused : goal.returns-in_default-clause-refused
returns-in_default-clause-refused c =
    let path : c.deref.result.now ≡ c.args.member.now.path = c.deref.ensures.value ∙ ap (λ m. m.path) c.member.view_is in
    no_title c.args.member.now c.args.text.now (subst (λ (p : List ℕ). NoPiece (title_text p) AnyFlag Any c.args.text.now) path (c.in_default.ensures.none refl))

pub returns-in-Ok-nums_line-clause-is : goal.returns-in-Ok-nums_line-clause-is
returns-in-Ok-nums_line-clause-is c =
    let path : c.deref.result.now ≡ c.args.member.now.path = c.deref.ensures.value ∙ ap (λ m. m.path) c.member.view_is in
    let title = subst (λ (p : List ℕ). IsPiece (title_text p) AnyFlag Any c.args.text.now c.in-Some.accept c.in-Some.after.now) path c.in-Some.ensures.is in
    all_lines c.args.member.now c.args.text.now c.in-Some.after.now c.in-Ok.after.now c.in-Ok-steps_line.after.now c.in-Ok-nums_line.rest.now
    c.in-Some.accept c.in-Ok.rates.items c.in-Ok-steps_line.steps.items c.in-Ok-nums_line.cells.items title c.in-Ok.ensures.is c.in-Ok-steps_line.ensures.is c.in-Ok-nums_line.ensures.is

pub returns-in-Err-nums_line-clause-refused : goal.returns-in-Err-nums_line-clause-refused
returns-in-Err-nums_line-clause-refused c =
    let path : c.deref.result.now ≡ c.args.member.now.path = c.deref.ensures.value ∙ ap (λ m. m.path) c.member.view_is in
    let title = subst (λ (p : List ℕ). IsPiece (title_text p) AnyFlag Any c.args.text.now c.in-Some.accept c.in-Some.after.now) path c.in-Some.ensures.is in
    why_weaker c.in-Err-nums_line.why
    (no_cells c.args.member.now c.args.text.now c.in-Some.after.now c.in-Ok.after.now c.in-Ok-steps_line.after.now c.in-Some.accept c.in-Ok.rates.items c.in-Ok-steps_line.steps.items
    title c.in-Ok.ensures.is c.in-Ok-steps_line.ensures.is) c.in-Err-nums_line.ensures.refused

pub returns-in-Err-steps_line-clause-refused : goal.returns-in-Err-steps_line-clause-refused
returns-in-Err-steps_line-clause-refused c =
    let path : c.deref.result.now ≡ c.args.member.now.path = c.deref.ensures.value ∙ ap (λ m. m.path) c.member.view_is in
    let title = subst (λ (p : List ℕ). IsPiece (title_text p) AnyFlag Any c.args.text.now c.in-Some.accept c.in-Some.after.now) path c.in-Some.ensures.is in
    why_weaker c.in-Err-steps_line.why
    (no_steps c.args.member.now c.args.text.now c.in-Some.after.now c.in-Ok.after.now c.in-Some.accept c.in-Ok.rates.items title c.in-Ok.ensures.is) c.in-Err-steps_line.ensures.refused

pub returns-in-Err-clause-refused : goal.returns-in-Err-clause-refused
returns-in-Err-clause-refused c =
    let path : c.deref.result.now ≡ c.args.member.now.path = c.deref.ensures.value ∙ ap (λ m. m.path) c.member.view_is in
    let title = subst (λ (p : List ℕ). IsPiece (title_text p) AnyFlag Any c.args.text.now c.in-Some.accept c.in-Some.after.now) path c.in-Some.ensures.is in
    why_weaker c.in-Err.why (no_rates c.args.member.now c.args.text.now c.in-Some.after.now c.in-Some.accept title) c.in-Err.ensures.refused
