use Rattle.std.proofs.Common.{◌≡◌, ◌∙◌, false, length, map, rules, sym}
use Rattle.std.proofs.lemmas.Result.{IfErr-weaker, on_ok_weaker}
use Rattle.tdf_lang_tree.specs.Views.{pure_tree}
use Rattle.tdf_stim.proofs.Plans.{digits_refused, fine_from, size_is, time_refused}
use Rattle.tdf_stim.specs.Drivable.{is_too_large}
use Rattle.tdf_stim.specs.Signals.{columns_from}
use Rattle.tdf_stim.specs.machine.Maps.{seen}
use Rattle.tdf_tables.specs.Rows.{row_of}
use Rattle.tdf_stim.proofs.planning.plan_driver.Goals as goal

pub returns-then-is_too_large-clause-refused : goal.returns-then-is_too_large-clause-refused
returns-then-is_too_large-clause-refused c =
    size_is c.args.rows.now c.args.sources.now _ _ (search rules) c.count_driving.ensures.count ∙ sym c.is_too_large.ensures ∙ c.if-is_too_large.true

pub returns-in-Ok-clause-fine : goal.returns-in-Ok-clause-fine
returns-in-Ok-clause-fine c =
    let rows = map row_of c.args.rows.now in
    let sources = map seen c.args.sources.now in
    let few : is_too_large (length rows) (length (columns_from rows 0 sources)) ≡ false =
    size_is c.args.rows.now c.args.sources.now _ _ (search rules) c.count_driving.ensures.count ∙ sym c.is_too_large.ensures ∙ c.if-is_too_large.false in
    on_ok_weaker c.plan_times.result (λ on. fine_from (pure_tree c.args.tree.now) sources rows few c.in-Ok.ensures.short on) c.plan_times.ensures.on

pub returns-in-Ok-clause-refused : goal.returns-in-Ok-clause-refused
returns-in-Ok-clause-refused c =
    let rows = map row_of c.args.rows.now in
    let sources = map seen c.args.sources.now in
    let few : is_too_large (length rows) (length (columns_from rows 0 sources)) ≡ false =
    size_is c.args.rows.now c.args.sources.now _ _ (search rules) c.count_driving.ensures.count ∙ sym c.is_too_large.ensures ∙ c.if-is_too_large.false in
    IfErr-weaker c.plan_times.result _ _ (λ e h. time_refused (pure_tree c.args.tree.now) sources rows e few c.in-Ok.ensures.short h) c.plan_times.ensures.refused

pub returns-in-Err-clause-refused : goal.returns-in-Err-clause-refused
returns-in-Err-clause-refused c =
    let rows = map row_of c.args.rows.now in
    let sources = map seen c.args.sources.now in
    let few : is_too_large (length rows) (length (columns_from rows 0 sources)) ≡ false =
    size_is c.args.rows.now c.args.sources.now _ _ (search rules) c.count_driving.ensures.count ∙ sym c.is_too_large.ensures ∙ c.if-is_too_large.false in
    digits_refused (pure_tree c.args.tree.now) sources rows c.in-Err.why few c.in-Err.ensures.refused
