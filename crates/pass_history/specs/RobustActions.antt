-- What is reported of the actions of an ALTER TABLE that is not robust.
use Rattle.std.specs.Prelude.{ℕ, Bool, false, ◌||◌, List, [], codes, if◌then◌else◌, Option, Some, None}
use Rattle.lint_pass.specs.text_pos.Range.{Range}
use Rattle.sql_tree.specs.declared.kinds.ActionKind.TheVariants as action
use Rattle.sql_tree.specs.declared.nodes.Action.{Action}
use Rattle.sql_tree.specs.Range.{span_range_of}
use Rattle.sql_tree.specs.Statement.{Tree}
use Rattle.lint_pass.specs.lint_base.declared.violation.Violation.{Violation}
use Rattle.lint_pass.specs.lint_node.Altered.{Altered}
use Rattle.lint_pass.specs.lint_node.Same.{same_action}
use Rattle.lint_pass.specs.lint_transaction.Names.{name_at}
use Rattle.pass_history.specs.Constraints.{added_name, validated_name}
use Rattle.pass_history.specs.Dropped.{is_gone, was_dropped}
use Rattle.pass_history.specs.PreferRobustStmts.{after_word, exists_title, missing_exists, missing_not_exists, no_transaction, not_exists_title, unless}

abbrev pub action_range : Tree → Action → Range
action_range tree a = span_range_of tree.toks a.first a.last

abbrev pub is_drop : Action → Bool
is_drop a = same_action a.kind action.DropConstraint || same_action a.kind action.DropColumn

abbrev pub is_add_column : Action → Bool
is_add_column a = same_action a.kind action.AddColumn

-- a drop without IF EXISTS; where the word COLUMN is left out there is no fix
abbrev pub drop_report : Tree → Action → Violation
drop_report tree a = missing_exists (action_range tree a) (after_word tree exists_title (codes " if exists") a.word)

-- a new column without IF NOT EXISTS
abbrev pub column_report : Tree → Action → Violation
column_report tree a = missing_not_exists (action_range tree a) (after_word tree not_exists_title (codes " if not exists") a.word)

abbrev pub other_report : Tree → Action → Violation
other_report tree a = no_transaction (action_range tree a)

-- The actions that have IF EXISTS or IF NOT EXISTS are excused by it, any other action by what was dropped.
abbrev pub action_reports : Tree → Bool → Action → List Violation
action_reports tree excused a =
    if is_drop a then unless a.guarded (drop_report tree a)
    else if is_add_column a then unless a.guarded (column_report tree a)
    else unless excused (other_report tree a)

abbrev pub is_known : (ℕ → Bool) → Option ℕ → Bool
is_known known None = false
is_known known (Some number) = known number

-- after the events es, the action validates a constraint that was dropped
abbrev pub is_validated_again : Tree → List Altered → Action → Bool
is_validated_again tree es a = is_known (λ number. was_dropped tree es (name_at tree number)) (validated_name a)

-- after the events es, the action adds a constraint that is gone
abbrev pub is_added_again : Tree → List Altered → Action → Bool
is_added_again tree es a = is_known (λ number. is_gone tree es (name_at tree number)) (added_name a)

abbrev pub is_excused : Tree → List Altered → Action → Bool
is_excused tree es a = is_validated_again tree es a || is_added_again tree es a

abbrev pub reports_unless : Bool → Tree → List Altered → Action → List Violation
reports_unless robust tree es a = if robust then [] else action_reports tree (is_excused tree es a) a

-- the reports on an event, after the events es
abbrev pub report_on : Bool → Tree → List Altered → Altered → List Violation
report_on robust tree es e = reports_unless robust tree es e.action
