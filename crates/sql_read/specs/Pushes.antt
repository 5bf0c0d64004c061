-- What putting a statement after others leaves.
use Rattle.std.specs.Prelude.{◌≡◌, List, ◌++◌, Bool, Option, Some, is_some, option_to_list}
use Rattle.std.specs.Option.{option_and_then}
use Rattle.sql_token.specs.declared.token.Span.{Span}
use Rattle.sql_tree.specs.declared.kinds.StmtKind.{StmtKind}
use Rattle.sql_tree.specs.declared.nodes.Body.{Body}
use Rattle.sql_tree.specs.declared.nodes.Stmt.{Stmt}
use Rattle.sql_tree.specs.Statement.{stmt_in}

-- The statement that was read, if any, comes after those before, and the answer says whether there is one.
pub record Pushes (reading : Option Stmt) (before : List Stmt) (pushed : Bool) (after : List Stmt) : Type 0 where
  pub stmts : after ≡ before ++ option_to_list reading
  pub told : pushed ≡ is_some reading

-- the statement of a form that was read
abbrev pub stmt_of : Span → Option (StmtKind × Body) → Option Stmt
stmt_of span form = option_and_then (λ f. Some (stmt_in span f)) form

-- the form of a kind, where something is known of the statement
abbrev pub form_with : StmtKind → Option Body → Option (StmtKind × Body)
form_with kind body = option_and_then (λ b. Some (kind, b)) body
