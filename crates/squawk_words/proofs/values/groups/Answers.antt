use Rattle.std.proofs.Common.{rules}
use Rattle.squawk_words.proofs.Numbers.{unread_groups}
use Rattle.squawk_words.proofs.values.groups.Goals as goal

pub returns-in_default : goal.returns-in_default
returns-in_default c = unread_groups c.args.text.now c.parse.result _ c.parse.ensures.value.0 (search rules) c.in_default.is
