use Rattle.sql_column.proofs.OneWord.{one_word_at}
use Rattle.sql_column.proofs.column.one_word.Goals as goal

pub returns-in-len1 : goal.returns-in-len1
returns-in-len1 c =
    one_word_at c.args.terminals.now _ _ _ c.in-len1.len_at_least c.in-len1.len_below c.is_plain.ensures c.if-is_plain.true c.path_of_one.ensures
