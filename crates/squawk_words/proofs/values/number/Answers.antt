use Rattle.std.proofs.Common.{◌∙◌, rules}
use Rattle.squawk_words.proofs.Numbers.{parsed_number}
use Rattle.squawk_words.proofs.values.number.Goals as goal

pub returns : goal.returns
returns c = c.ok.ensures.value ∙ parsed_number c.args.text.now c.parse.result c.parse.ensures.value.0 (search rules)
