-- What is reported wherever it is, by rows that each name their rule.
use Rattle.std.specs.Prelude.{◌≡◌, ℕ, Bool, true, ◌&&◌, List, [], ◌∷◌, length, if◌then◌else◌}
use Rattle.std.specs.Borrow.{Bor}
use Rattle.std.specs.List.{flat_map, list_any}
use Rattle.lint_base.specs.text_pos.Range.{Range}
use Rattle.lint_base.specs.declared.rule.Rule.{Rule}
use Rattle.lint_base.specs.declared.violation.Violation.{Violation}
use Rattle.lint_base.specs.RuleSets.{Rules, has}
use Rattle.lint_base.specs.Violations.{violation}
use Rattle.lint_transaction.specs.Earlier.{concat_below}
use Rattle.lint_transaction.specs.Transaction.{stmt_at}
use Rattle.lint_ignore.specs.sql_tree.declared.kinds.StmtKind.{StmtKind}
use Rattle.lint_ignore.specs.sql_tree.declared.nodes.Stmt.{Stmt}
use Rattle.lint_ignore.specs.sql_tree.Range.{stmt_range_of}
use Rattle.lint_ignore.specs.sql_tree.Statement.{Tree}
use Rattle.lint_pass.specs.declared.bans.Spot.{Spot}
use Rattle.lint_pass.specs.declared.nodes.Node.{Node}
use Rattle.lint_pass.specs.Bans.{concerns, fits, fits_statement}
use Rattle.lint_pass.specs.NodeWalk.{walked}

-- a rule, a spot and a message
abbrev pub RuledRow : Type 0
RuledRow = Rule × Spot × List ℕ

-- a row whose text is lent
abbrev pub lent_ruled : Rule × Spot × Bor (List ℕ) → RuledRow
lent_ruled r = (r.0, r.1, r.2.now)

-- some row can report something in a statement of the kind
abbrev pub ruled_concern : List (Rule × Spot × Bor (List ℕ)) → StmtKind → Bool
ruled_concern rows kind = list_any (λ r. concerns r.1 kind) rows

abbrev pub on_ruled : Rules → Tree → Stmt → RuledRow → List Violation
on_ruled rules tree s r = if has rules r.0 && fits_statement r.1 s then violation r.0 r.2 (stmt_range_of tree.toks s) ∷ [] else []

abbrev pub by_ruled : Rules → Node → Range → RuledRow → List Violation
by_ruled rules at range r = if has rules r.0 && fits r.1 at then violation r.0 r.2 range ∷ [] else []

abbrev pub on_ruled_rows : Rules → List RuledRow → Tree → Stmt → List Violation
on_ruled_rows rules rows tree s = flat_map (on_ruled rules tree s) rows

abbrev pub by_ruled_rows : Rules → List RuledRow → Node → Range → List Violation
by_ruled_rows rules rows at range = flat_map (by_ruled rules at range) rows

-- node by node, and by each row
abbrev pub ruled_on : List RuledRow → Tree → Rules → Stmt → List Violation
ruled_on rows tree rules s = walked (on_ruled_rows rules rows) (by_ruled_rows rules rows) tree s

abbrev pub ruled_at : List RuledRow → Tree → Rules → ℕ → List Violation
ruled_at rows tree rules i = ruled_on rows tree rules (stmt_at tree i)

-- statement by statement
abbrev pub ruled_table : List RuledRow → Tree → Rules → List Violation
ruled_table rows tree rules = concat_below (ruled_at rows tree rules) (length tree.stmts)

-- the rule of a row is in the set
abbrev pub IsOwned : Rules → RuledRow → Type 0
IsOwned own r = has own r.0 ≡ true

-- whether the rule of each row is in the set
abbrev pub owns : Rules → List RuledRow → Bool
owns own [] = true
owns own (r ∷ rows) = has own r.0 && owns own rows
