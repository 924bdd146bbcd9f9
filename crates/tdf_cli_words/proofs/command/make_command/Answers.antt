use Rattle.std.proofs.Common.{◌≡◌, ap, ap₂, ◌∙◌, codes}
use Rattle.std.proofs.lemmas.Result.{IfOk-weaker}
use Rattle.clap.specs.Simple.{app_of, app_of_fields, new_app, with_rule}
use Rattle.tdf_cli_words.specs.Command.{command, option, without_name}
use Rattle.tdf_cli_words.proofs.command.make_command.Goals as goal

-- src/command.rt:57:1
pub returns : goal.returns
unfolding command
returns c =
    let nameless : app_of c.no_binary_name.result ≡ without_name (new_app (codes "tdf")) =
    ap app_of_fields c.no_binary_name.ensures ∙ ap without_name c.new.ensures.app in
    let job = c.in_ok-command.ensures.shape c.new-2.ensures.optional.1 ∙ ap₂ with_rule nameless c.new-2.ensures.rule in
    let stop = c.in_ok-command-2.ensures ∙ ap (λ a. with_rule a (option (codes "stop"))) job in
    let format = c.in_ok-command-3.ensures ∙ ap (λ a. with_rule a (option (codes "format"))) stop in
    let turns = c.in_ok-command-4.ensures ∙ ap (λ a. with_rule a (option (codes "turns"))) format in
    let part = c.in_ok-command-5.ensures ∙ ap (λ a. with_rule a (option (codes "part"))) turns in
    let seed = c.in_ok-command-6.ensures ∙ ap (λ a. with_rule a (option (codes "seed"))) part in
    let size = c.in_ok-command-7.ensures ∙ ap (λ a. with_rule a (option (codes "size"))) seed in
    let every = c.in_ok-command-8.ensures ∙ ap (λ a. with_rule a (option (codes "every"))) size in
    IfOk-weaker c.with_option-8.result _ _ (λ r nth. nth ∙ ap (λ a. with_rule a (option (codes "nth"))) every) c.with_option-8.ensures
