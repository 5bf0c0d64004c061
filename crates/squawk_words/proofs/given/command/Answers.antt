use Rattle.std.proofs.Common.{ap, codes, fold, true, false, ◌≡◌, ◌∙◌}
use Rattle.std.proofs.lemmas.Result.{IfOk-weaker}
use Rattle.clap.specs.Words.{app_of}
use Rattle.clap.specs.Simple.{app_of_fields, on_top}
use Rattle.squawk_words.specs.Command.{bare, rule_names, version_names, with_name}
use Rattle.squawk_words.proofs.given.command.Goals as goal

pub returns : goal.returns
returns c =
    let is_0 : app_of c.disable_help_flag-bare.result ≡ bare = ap app_of_fields c.disable_help_flag-bare.ensures
    ∙ ap (on_top (λ s. record s { disable_help_flag = true }))
    (ap app_of_fields c.no_binary_name.ensures ∙ ap (on_top (λ s. record s { no_binary_name = true })) c.new.ensures.app) in
    let is_1 = c.in_ok-with_rules.ensures ∙ ap (λ a. fold with_name a rule_names) is_0 in
    let is_2 = c.in_ok-with_non_volatile.ensures ∙ ap (λ a. with_name a (codes "non-volatile", true)) is_1 in
    let is_3 = c.in_ok-with_version.ensures ∙ ap (λ a. fold with_name a version_names) is_2 in
    let is_4 = c.in_ok-with_generate.ensures ∙ ap (λ a. with_name a (codes "generate", true)) is_3 in
    let is_5 = c.in_ok-with_assumed.ensures ∙ ap (λ a. with_name a (codes "assume-in-transaction", false)) is_4 in
    IfOk-weaker c.with_flag-2.result _ _ (λ r h. h ∙ ap (λ a. with_name a (codes "locks", false)) is_5) c.with_flag-2.ensures
