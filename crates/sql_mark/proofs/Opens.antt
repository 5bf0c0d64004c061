-- A symbol that opens no mark.
use Rattle.std.proofs.Common.{◌≡◌, false, List, refl, Option, Some, None}
use Rattle.sql_token.specs.sql_keyword.declared.words.Keyword.{Keyword}
use Rattle.sql_token.specs.sql_keyword.declared.words.TheConstants.Keyword as keyword
use Rattle.sql_token.specs.declared.terminal.Symbol.{Symbol}
use Rattle.sql_token.specs.declared.terminal.Symbol.TheVariants as s
use Rattle.sql_token.specs.declared.terminal.Terminal.{Terminal}
use Rattle.sql_token.specs.Terminal.{is_keyword, is_keyword_symbol}
use Rattle.sql_tree.specs.declared.forms.WordClass.{WordClass}
use Rattle.sql_tree.specs.declared.forms.WordClass.TheVariants as class
use Rattle.sql_tree.specs.Words.{is_of_class, is_class_symbol}
use Rattle.sql_tree.specs.Split.{comma, not_valid, into, verb, privileges, word, operator, cast, on_commit_drop, equals, do_update_set, then_update_set, then_insert, clause_end, merge_clause_end, target_list_end}
use Rattle.sql_tree.specs.Split.{is_comma_symbol, is_verb_symbol, is_operator_symbol, is_colon_symbol, is_equals_symbol, ends_targets}
use Rattle.sql_tree.specs.ColumnMarks.{type_end, value_end, constraint_start, kind_led, kind_of_symbol, is_value_end_symbol}
use Rattle.sql_tree.specs.ActionPieces.{sequence_option, identity_option, policy_part}
use Rattle.sql_mark.specs.declared.parts.Mark.{Mark}
use Rattle.sql_mark.specs.declared.parts.Mark.TheVariants as m
use Rattle.sql_mark.specs.declared.write_marks.WriteMark.{WriteMark}
use Rattle.sql_mark.specs.declared.write_marks.WriteMark.TheVariants as w
use Rattle.sql_mark.specs.Marks.{test_of, write_test, opens_marks}

no_word : (v : Keyword) (y : Symbol) → opens_marks y ≡ false → is_keyword_symbol v y ≡ false
no_word v (s.Keyword w) h = cc
no_word v _ h = refl

no_comma : (y : Symbol) → opens_marks y ≡ false → is_comma_symbol y ≡ false
no_comma s.Comma h = cc
no_comma _ h = refl

no_verb : (y : Symbol) → opens_marks y ≡ false → is_verb_symbol y ≡ false
no_verb (s.Keyword w) h = cc
no_verb _ h = refl

no_operator : (y : Symbol) → opens_marks y ≡ false → is_operator_symbol y ≡ false
no_operator s.Star h = cc
no_operator s.Equals h = cc
no_operator s.EqualsOperator h = cc
no_operator s.Operator h = cc
no_operator _ h = refl

no_colon : (y : Symbol) → opens_marks y ≡ false → is_colon_symbol y ≡ false
no_colon s.Colon h = cc
no_colon _ h = refl

no_equals : (y : Symbol) → opens_marks y ≡ false → is_equals_symbol y ≡ false
no_equals s.Equals h = cc
no_equals _ h = refl

no_value_end : (y : Symbol) → opens_marks y ≡ false → is_value_end_symbol y ≡ false
no_value_end (s.Keyword w) h = cc
no_value_end _ h = refl

no_targets_end : (y : Symbol) → opens_marks y ≡ false → ends_targets y ≡ false
no_targets_end (s.Keyword w) h = cc
no_targets_end _ h = refl

no_class : (c : WordClass) (y : Symbol) → opens_marks y ≡ false → is_class_symbol c y ≡ false
no_class c (s.Keyword w) h = cc
no_class c _ h = refl

no_kind : (y : Symbol) (after : List Terminal) → opens_marks y ≡ false → kind_of_symbol y after ≡ None
no_kind (s.Keyword w) after h = cc
no_kind _ after h = refl

no_write_mark : (m : WriteMark) (e : Option Terminal) (t : Terminal) (after : List Terminal) → opens_marks t.symbol ≡ false → write_test m e t after ≡ false
unfolding equals do_update_set then_update_set then_insert clause_end merge_clause_end target_list_end is_keyword
no_write_mark w.Equals e t after h = no_equals t.symbol h
no_write_mark w.DoUpdateSet e t after h = rw (no_word keyword.DO t.symbol h) refl
no_write_mark w.ThenUpdateSet e t after h = rw (no_word keyword.THEN t.symbol h) refl
no_write_mark w.ThenInsert e t after h = rw (no_word keyword.THEN t.symbol h) refl
no_write_mark w.ClauseEnd e t after h = rw (no_word keyword.FROM t.symbol h, no_word keyword.WHERE t.symbol h, no_word keyword.RETURNING t.symbol h) refl
no_write_mark w.MergeClauseEnd e t after h =
    rw (no_word keyword.FROM t.symbol h, no_word keyword.WHERE t.symbol h, no_word keyword.RETURNING t.symbol h, no_word keyword.WHEN t.symbol h) refl
no_write_mark w.TargetListEnd e t after h = no_targets_end t.symbol h

pub no_mark : (m : Mark) (e : Option Terminal) (t : Terminal) (after : List Terminal) → opens_marks t.symbol ≡ false → test_of m e t after ≡ false
unfolding comma not_valid into verb privileges word operator cast on_commit_drop type_end value_end constraint_start kind_led sequence_option identity_option policy_part is_keyword is_of_class
no_mark m.Comma e t after h = no_comma t.symbol h
no_mark m.NotValid e t after h = rw (no_word keyword.NOT t.symbol h) refl
no_mark m.Into e t after h = rw (no_word keyword.INTO t.symbol h) refl
no_mark m.Verb e t after h = no_verb t.symbol h
no_mark m.Privileges e t after h = rw (no_word keyword.GRANT t.symbol h, no_word keyword.REVOKE t.symbol h) refl
no_mark (m.Word v) e t after h = no_word v t.symbol h
no_mark m.Operator e t after h = rw (no_operator t.symbol h, no_word keyword.AND t.symbol h, no_word keyword.OR t.symbol h) refl
no_mark m.Cast e t after h = rw (no_word keyword.COLLATE t.symbol h, no_colon t.symbol h) refl
no_mark m.OnCommitDrop e t after h = rw (no_word keyword.ON t.symbol h) refl
no_mark m.TypeEnd e t after h =
    rw (no_value_end t.symbol h, no_word keyword.COLLATE t.symbol h, no_word keyword.USING t.symbol h, no_word keyword.OPTIONS t.symbol h) refl
no_mark m.ValueEnd e t after h = no_value_end t.symbol h
no_mark m.Constraint e t after h = rw (no_word keyword.CONSTRAINT t.symbol h, no_kind t.symbol after h) refl
no_mark (m.Write mark) e t after h = no_write_mark mark e t after h
no_mark m.SequenceOption None t after h = refl
no_mark m.SequenceOption (Some u) t after h = rw (no_class class.SequenceOption t.symbol h) refl
no_mark m.IdentityOption None t after h = refl
no_mark m.IdentityOption (Some u) t after h = rw (no_word keyword.SET t.symbol h, no_word keyword.RESTART t.symbol h) refl
no_mark m.PolicyPart None t after h = refl
no_mark m.PolicyPart (Some u) t after h = rw (no_word keyword.TO t.symbol h, no_word keyword.USING t.symbol h, no_word keyword.WITH t.symbol h) refl
