use Rattle.std.proofs.Common.{ap, codes, true, ◌∙◌}
use Rattle.std.proofs.lemmas.Result.{IfOk-weaker}
use Rattle.squawk_words.specs.Command.{with_name}
use Rattle.squawk_words.proofs.given.with_version_names.Goals as goal

pub returns : goal.returns
returns c =
    let is_1 = c.in_ok-with_major.ensures in
    let is_2 = c.in_ok-with_minor.ensures ∙ ap (λ a. with_name a (codes "pg-minor", true)) is_1 in
    IfOk-weaker c.with_option-3.result _ _ (λ r h. h ∙ ap (λ a. with_name a (codes "pg-patch", true)) is_2) c.with_option-3.ensures
