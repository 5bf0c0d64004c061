use Rattle.std.proofs.Common.{rules}
use Rattle.sql_keyword.proofs.look_up.Goals as goal

pub is_same_word-requires-clause-within : goal.is_same_word-requires-clause-within
is_same_word-requires-clause-within c = search rules

pub is_same_word-requires-clause-capitals : goal.is_same_word-requires-clause-capitals
is_same_word-requires-clause-capitals c = search rules
