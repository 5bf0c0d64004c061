-- Both directions: what is reported of a text in which tokens of a column type became a word is what was reported before, moved,
-- but for the reports on that type.
use Rattle.std.specs.Prelude.{◌≡◌, ◌≢◌, ◌<◌, ℕ, ◌==◌, false, if◌then◌else◌, List, ◌∷◌, ◌++◌, map, length, All}
use Rattle.pass_data_type.specs.sql_token.Token.{Text}
use Rattle.pass_data_type.specs.sql_tree.declared.nodes.ColType.{ColType}
use Rattle.pass_data_type.specs.sql_tree.declared.nodes.Stmt.{Stmt}
use Rattle.pass_data_type.specs.sql_tree.Range.{token_at}
use Rattle.pass_data_type.specs.sql_tree.Statement.{Tree, IsTree}
use Rattle.law_edit_types.specs.law_renumber.Moved.{type_moved}
use Rattle.law_edit_types.specs.Runs.{fused, worded_tree}
use Rattle.pass_data_type.specs.lint_base.declared.settings.LinterSettings.{LinterSettings}
use Rattle.pass_data_type.specs.lint_base.declared.violation.Violation.{Violation}
use Rattle.pass_data_type.specs.lint_base.RuleSets.{Rules}
use Rattle.pass_data_type.specs.lint_node.ColumnTypes.{column_types}
use Rattle.pass_data_type.specs.lint_pass.RuleTables.{enabled_reports}
use Rattle.pass_data_type.specs.lint_transaction.Earlier.{concat_below}
use Rattle.pass_data_type.specs.lint_transaction.Transaction.{stmt_at}
use Rattle.law_type_fixes.specs.Moved.{Replaced, byte_moved, report_moved}
use Rattle.law_type_fixes.specs.Rules.{TypeRule, reports_on, type_table}

-- the tokens n to m are those of the type's inner type, or its last name
pub data IsRun (ty : ColType) (n m : ℕ) : Type 0 where
  inner : ty.inner.first ≡ n → ty.inner.last ≡ m → IsRun ty n m
  name : ty.name ≡ n → ty.name ≡ m → IsRun ty n m

-- the bytes of the tokens n to m became the word w
abbrev pub replaced : Tree → ℕ → ℕ → Text → Replaced
replaced tree n m w = record { from = (token_at tree.toks n).start; until = (token_at tree.toks m).end; size = length w }

-- the reports on statement j, where those on statement k are only on these types
abbrev pub but_type : ℕ → List ColType → TypeRule → Tree → ℕ → List Violation
but_type k types r tree j = if j == k then reports_on r tree types else reports_on r tree (column_types (stmt_at tree j))

-- Tokens of the type ty of statement st became the word w. The statement is `now` then, and in the place of ty it has types that
-- the rule does not report.
pub record Exchanged (r : TypeRule) (tree : Tree) (before : List Stmt) (st : Stmt) (after : List Stmt) (now : Stmt) (n m : ℕ) (w : Text)
    (earlier : List ColType) (ty : ColType) (later : List ColType) : Type 0 where
  pub is : IsTree tree
  pub parts : tree.stmts ≡ before ++ st ∷ after
  pub old : column_types st ≡ earlier ++ ty ∷ later
  pub run : IsRun ty n m
  pub types : List ColType
  pub new : column_types now ≡ map (type_moved (fused n m)) earlier ++ (types ++ map (type_moved (fused n m)) later)
  pub silent : All (λ t. r.test (worded_tree tree n m w before now after) t ≡ false) types

-- The new types are not reported, and all other reports are the old ones, moved: no more of them, and no fewer.
abbrev pub TypesStay : TypeRule → Type 0
TypesStay r =
    (tree : Tree) (before : List Stmt) (st : Stmt) (after : List Stmt) (now : Stmt) (n m : ℕ) (w : Text) (earlier : List ColType) (ty : ColType) (later : List ColType) →
    Exchanged r tree before st after now n m w earlier ty later → (rules : Rules) (settings : LinterSettings) →
    type_table r (worded_tree tree n m w before now after) rules settings
    ≡ concat_below (λ i. map (report_moved (replaced tree n m w)) (enabled_reports r.code (but_type (length before) (earlier ++ later) r tree) rules i)) (length tree.stmts)

-- No report begins where the old type began.
abbrev pub TypesSilent : TypeRule → Type 0
TypesSilent r =
    (tree : Tree) (before : List Stmt) (st : Stmt) (after : List Stmt) (now : Stmt) (n m : ℕ) (w : Text) (earlier : List ColType) (ty : ColType) (later : List ColType) →
    Exchanged r tree before st after now n m w earlier ty later → 0 < length w → (rules : Rules) (settings : LinterSettings) →
    All (λ v. v.text_range.start ≢ byte_moved (replaced tree n m w) (token_at tree.toks ty.whole.first).start)
    (type_table r (worded_tree tree n m w before now after) rules settings)
