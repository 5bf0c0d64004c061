-- What two rules report of a text without ignore comments, known by its statements alone: index builds that block writes
-- (PostgreSQL manual, CREATE INDEX, "Building Indexes Concurrently"), and constraints for which a table is scanned while
-- it is locked (ALTER TABLE, "ADD table_constraint [ NOT VALID ]"), except on tables that the same open transaction creates.
use Rattle.std.specs.Prelude.{◌≡◌, ℕ, ◌+◌, Bool, true, false, ◌==◌, ◌&&◌, not, All, List, [], ◌∷◌, ◌++◌, Option, Some, None, filter, length, map, if◌then◌else◌}
use Rattle.std.specs.List.{flat_map, list_any}
use Rattle.sql_read.specs.sql_token.declared.token.Span.{Span}
use Rattle.sql_read.specs.sql_tree.declared.kinds.ActionKind.{ActionKind}
use Rattle.sql_read.specs.sql_tree.declared.kinds.ActionKind.TheVariants.{AddConstraint}
use Rattle.sql_read.specs.sql_tree.declared.kinds.StmtKind.{StmtKind}
use Rattle.sql_read.specs.sql_tree.declared.kinds.StmtKind.TheVariants.{AlterTable}
use Rattle.sql_read.specs.sql_tree.declared.nodes.Action.{Action}
use Rattle.sql_read.specs.sql_tree.declared.nodes.Body.{Body}
use Rattle.sql_read.specs.sql_tree.declared.nodes.Body.TheVariants as body
use Rattle.sql_read.specs.sql_tree.declared.nodes.Constraint.{Constraint}
use Rattle.sql_read.specs.sql_tree.declared.nodes.Stmt.{Stmt}
use Rattle.sql_read.specs.sql_tree.Nodes.{actions_in}
use Rattle.sql_read.specs.sql_tree.Path.{path_cuts}
use Rattle.sql_read.specs.sql_tree.Range.{span_range_of, stmt_range_of}
use Rattle.sql_read.specs.sql_tree.Statement.{Tree}
use Rattle.sql_read.specs.text_pos.Range.{Range}
use Rattle.fix_edit.specs.lint_base.declared.rule.Rule.{Rule}
use Rattle.fix_edit.specs.lint_base.declared.rule.Rule.TheVariants as rule
use Rattle.fix_edit.specs.lint_base.declared.violation.Violation.{Violation}
use Rattle.fix_edit.specs.lint_base.RuleSets.{Rules, has}
use Rattle.fix_edit.specs.lint_ignore.Comment.{ignore_in_token}
use Rattle.fix_edit.specs.lint_transaction.Earlier.{concat_below}
use Rattle.fix_edit.specs.lint_transaction.Transaction.{stmt_at, is_new}
use Rattle.squawk_linter.specs.ByStart.{by_key}

-- a rule and where it is broken
abbrev pub Entry : Type 0
Entry = Rule × Range

-- at statement i, the table of this path is new: an earlier statement of the same open transaction creates it
abbrev pub is_on_new : Bool → Tree → ℕ → Option Span → Bool
is_on_new assumed tree i None = false
is_on_new assumed tree i (Some path) = is_new assumed tree (path_cuts tree.text tree.toks path) i

-- ---- index builds

-- a CREATE INDEX without CONCURRENTLY, by its table
abbrev pub built : Body → Option (Option Span)
built (body.Index word unique None guarded name path) = Some (Some path)
built _ = None

abbrev pub build_entry : Bool → Tree → ℕ → Stmt → Option (Option Span) → List Entry
build_entry assumed tree i s None = []
build_entry assumed tree i s (Some path) =
    if is_on_new assumed tree i path then [] else (rule.RequireConcurrentIndexCreation, stmt_range_of tree.toks s) ∷ []

-- the statement, where it builds an index without CONCURRENTLY on a table that is not new there
abbrev pub build_at : Bool → Tree → ℕ → List Entry
build_at assumed tree i = build_entry assumed tree i (stmt_at tree i) (built (stmt_at tree i).body)

-- ---- added constraints

abbrev pub is_alter_table : StmtKind → Bool
is_alter_table AlterTable = true
is_alter_table _ = false

abbrev pub is_adding : ActionKind → Bool
is_adding AddConstraint = true
is_adding _ = false

-- neither not valid nor by index
abbrev pub is_scanned : Option Constraint → Bool
is_scanned None = false
is_scanned (Some c) = not c.not_valid && not c.by_index

-- the action, where it adds a constraint that is neither not valid nor by index
abbrev pub addition_entry : Tree → Action → List Entry
addition_entry tree a =
    if is_adding a.kind && is_scanned a.constraint then (rule.ConstraintMissingNotValid, span_range_of tree.toks a.first a.last) ∷ [] else []

abbrev pub alteration_entries : Bool → Tree → ℕ → Body → List Entry
alteration_entries assumed tree i (body.Alter path actions) = if is_on_new assumed tree i path then [] else flat_map (addition_entry tree) actions
alteration_entries assumed tree i _ = []

-- the actions of an ALTER TABLE that add such a constraint to a table that is not new there
abbrev pub additions_at : Bool → Tree → ℕ → List Entry
additions_at assumed tree i = if is_alter_table (stmt_at tree i).kind then alteration_entries assumed tree i (stmt_at tree i).body else []

-- ---- both

-- the entries of each statement, where their rule is enabled
abbrev pub entries_of : Tree → Rules → Rule → (ℕ → List Entry) → List Entry
entries_of tree rules r entries = if has rules r then concat_below entries (length tree.stmts) else []

-- The index builds and the added constraints, by place, where a transaction may be assumed to be open at the start.
abbrev pub headline_reports : Tree → Rules → Bool → List Entry
headline_reports tree rules assumed =
    by_key (λ e. e.1.start) (length tree.text + 1)
    (entries_of tree rules rule.ConstraintMissingNotValid (additions_at assumed tree)
    ++ entries_of tree rules rule.RequireConcurrentIndexCreation (build_at assumed tree))

-- ---- in the answer of a linter

abbrev pub same_range : Range → Range → Bool
same_range a b = a.start == b.start && a.end == b.end

-- the statement is an ALTER TABLE with an action on this range that adds a constraint
abbrev pub adds_on : Tree → Range → Stmt → Bool
adds_on tree range s =
    is_alter_table s.kind && list_any (λ a. is_adding a.kind && same_range (span_range_of tree.toks a.first a.last) range) (actions_in s.body)

-- The report is of an index build or of an added constraint. The rule on constraints also reports a VALIDATE CONSTRAINT,
-- which is on the range of another action.
abbrev pub is_in_headline : Tree → Rule → Range → Bool
is_in_headline tree rule.RequireConcurrentIndexCreation range = true
is_in_headline tree rule.ConstraintMissingNotValid range = list_any (adds_on tree range) tree.stmts
is_in_headline tree _ range = false

-- the reports of index builds and of added constraints among some reports, each by its rule and its range
abbrev pub headline_of : Tree → List Violation → List Entry
headline_of tree v = map (λ r. (r.code, r.text_range)) (filter (λ r. is_in_headline tree r.code r.text_range) v)

-- no token is an ignore comment
abbrev pub HasNoIgnoreComment : Tree → Type 0
HasNoIgnoreComment tree = All (λ tok. ignore_in_token tree.text tok ≡ None) tree.toks
