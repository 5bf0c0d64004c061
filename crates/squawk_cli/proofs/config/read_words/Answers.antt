use Rattle.std.proofs.Common.{◌≡◌, Some, ap, subst, sym}
use Rattle.std.specs.Prelude.{option_map}
use Rattle.squawk_run.specs.squawk_words.Choices.{choices_of}
use Rattle.squawk_cli.specs.Config.{config_by, config_of}
use Rattle.squawk_cli.proofs.Groups.{AreFew, few_in}
use Rattle.squawk_cli.proofs.config.read_words.Goals as goal

pub returns-in-Some-clause-few : goal.returns-in-Some-clause-few
returns-in-Some-clause-few c =
    let value = c.in_ok-read_choices.ensures.value in
    let is = c.in-Some.is in
    let chosen : Some c.in-Some.choices ≡ choices_of c.args.words.now = cc in
    let named : Some (config_by c.in-Some.choices) ≡ config_of c.args.words.now = ap (option_map config_by) chosen in
    subst (λ config. AreFew config.generate) (sym c.config_by.ensures) (few_in c.args.words.now (config_by c.in-Some.choices) named)
