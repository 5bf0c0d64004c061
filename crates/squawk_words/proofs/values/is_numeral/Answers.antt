use Rattle.std.proofs.Common.{rules}
use Rattle.squawk_words.proofs.values.is_numeral.Goals as goal

pub returns-then-text-le-MOST_DIGITS : goal.returns-then-text-le-MOST_DIGITS
returns-then-text-le-MOST_DIGITS c = search rules
