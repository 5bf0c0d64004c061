use Rattle.std.proofs.Common.{arith}
use Rattle.sql_tree.specs.Forms.{one_word_kind}
use Rattle.sql_form.proofs.tables.one_word_kind.Goals as goal

pub returns-in-ANALYSE : goal.returns-in-ANALYSE
unfolding one_word_kind
returns-in-ANALYSE c = grind arith
