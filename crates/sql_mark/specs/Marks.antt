-- What a mark is.
use Rattle.sql_mark.specs.declared.parts.Mark.{Mark}
use Rattle.sql_mark.specs.declared.parts.Mark.TheVariants as m
use Rattle.sql_mark.specs.declared.write_marks.WriteMark.{WriteMark}
use Rattle.sql_mark.specs.declared.write_marks.WriteMark.TheVariants as w
use Rattle.std.specs.Prelude.{Bool, true, false}
use Rattle.sql_token.specs.declared.terminal.Symbol.{Symbol}
use Rattle.sql_token.specs.declared.terminal.Symbol.TheVariants as s
use Rattle.sql_tree.specs.Split.{Test, comma, not_valid, into, verb, privileges, word, operator, cast, on_commit_drop, equals, do_update_set, then_update_set, then_insert, clause_end, merge_clause_end, target_list_end}
use Rattle.sql_tree.specs.ColumnMarks.{type_end, value_end, constraint_start, constraint_head}
use Rattle.sql_tree.specs.Pieces.{Head}
use Rattle.sql_tree.specs.ActionPieces.{sequence_option, identity_option, policy_part}

abbrev pub write_test : WriteMark → Test
write_test w.Equals = equals
write_test w.DoUpdateSet = do_update_set
write_test w.ThenUpdateSet = then_update_set
write_test w.ThenInsert = then_insert
write_test w.ClauseEnd = clause_end
write_test w.MergeClauseEnd = merge_clause_end
write_test w.TargetListEnd = target_list_end

abbrev pub test_of : Mark → Test
test_of m.Comma = comma
test_of m.NotValid = not_valid
test_of m.Into = into
test_of m.Verb = verb
test_of m.Privileges = privileges
test_of (m.Word w) = word w
test_of (m.Write mark) = write_test mark
test_of m.Operator = operator
test_of m.Cast = cast
test_of m.OnCommitDrop = on_commit_drop
test_of m.TypeEnd = type_end
test_of m.ValueEnd = value_end
test_of m.Constraint = constraint_start
test_of m.SequenceOption = sequence_option
test_of m.IdentityOption = identity_option
test_of m.PolicyPart = policy_part

-- how many terminals of a piece's head follow the mark at which it begins
abbrev pub head_of : Mark → Head
head_of m.Constraint = constraint_head
head_of _ = λ t ts. 0

-- Whether any mark begins with this symbol: none does with a name that is no key word, a literal or a bracket.
abbrev pub opens_marks : Symbol → Bool
opens_marks (s.Keyword w) = true
opens_marks s.Comma = true
opens_marks s.Colon = true
opens_marks s.Star = true
opens_marks s.Equals = true
opens_marks s.EqualsOperator = true
opens_marks s.Operator = true
opens_marks _ = false
