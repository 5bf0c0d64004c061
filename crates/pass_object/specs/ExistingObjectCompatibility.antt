-- What is reported of changes of tables, types and sequences that no earlier statement creates: of what clients may use.
use Rattle.std.specs.Prelude.{◌≡◌, ℕ, Bool, true, ◌&&◌, List, [], ◌∷◌, length, if◌then◌else◌}
use Rattle.std.specs.List.{list_any}
use Rattle.lint_pass.specs.sql_tree.declared.nodes.Stmt.{Stmt}
use Rattle.lint_pass.specs.sql_tree.Statement.{Tree}
use Rattle.lint_base.specs.declared.rule.Rule.TheVariants as rule
use Rattle.lint_base.specs.declared.violation.Violation.{Violation}
use Rattle.lint_base.specs.Rules.{all_rules}
use Rattle.lint_base.specs.RuleSets.{Rules, has, rules_in}
use Rattle.lint_pass.specs.lint_transaction.Earlier.{concat_below}
use Rattle.lint_pass.specs.lint_transaction.Transaction.{stmt_at}
use Rattle.pass_object.specs.Changes.{Row, at_statement, by_rows}
use Rattle.pass_object.specs.KnownObjects.{is_of_known}
use Rattle.pass_object.specs.Rows.{rows_of}

abbrev pub existing_rules : Rules
existing_rules =
    rules_in
    (rule.BanNewWriteRestriction ∷ rule.BanAddEnumValue ∷ rule.BanAddCompositeAttribute ∷ rule.BanAddColumn ∷ rule.BanDetachInheritance
    ∷ rule.BanAlterSequenceValues ∷ [])

-- the rule of a row is one of these
abbrev pub IsOwned : Row → Type 0
IsOwned r = has existing_rules r.0 ≡ true

-- some rule of these is enabled
abbrev pub is_enabled : Rules → Bool
is_enabled rules = list_any (λ r. has rules r && has existing_rules r) all_rules

-- what the rows of its kind report of a statement
abbrev pub changes_in : Tree → Rules → Stmt → List Violation
changes_in tree rules s = at_statement (by_rows rules (rows_of s.kind)) tree s

abbrev pub unless_known : Bool → Tree → Rules → Stmt → List Violation
unless_known known tree rules s = if known then [] else changes_in tree rules s

-- of a statement that changes an object which the text creates, nothing is reported
abbrev pub existing_at : Tree → Rules → ℕ → List Violation
existing_at tree rules i = unless_known (is_of_known tree i (stmt_at tree i)) tree rules (stmt_at tree i)

-- statement by statement
abbrev pub reports_of_existing_object_compatibility : Tree → Rules → List Violation
reports_of_existing_object_compatibility tree rules = concat_below (existing_at tree rules) (length tree.stmts)
