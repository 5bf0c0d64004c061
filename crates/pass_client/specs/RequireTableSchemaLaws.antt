-- Each report of a table's name without a schema is of its rule, and is in the text.
use Rattle.std.specs.Prelude.{All, refl}
use Rattle.lint_pass.specs.sql_token.declared.token.Span.{Span}
use Rattle.lint_pass.specs.sql_tree.declared.nodes.Stmt.{Stmt}
use Rattle.lint_pass.specs.sql_tree.Statement.{Tree}
use Rattle.lint_pass.specs.lint_base.declared.rule.Rule.TheVariants as rule
use Rattle.lint_pass.specs.Laws.{HasCode, IsRead, IsPlacedIn}
use Rattle.lint_pass.specs.PlaceLaws.{span_place}
use Rattle.lint_pass.specs.ThoseLaws.{those_all}
use Rattle.pass_client.specs.RequireTableSchema.{report, is_bare, tables_of, reports_of_require_table_schema}

report_coded : (tree : Tree) (path : Span) → HasCode rule.RequireTableSchema (report tree path)
unfolding report
report_coded tree path = refl

report_placed : (tree : Tree) (path : Span) → IsRead tree → IsPlacedIn tree (report tree path)
unfolding report
report_placed tree path read = record { range = span_place tree read path.first path.last; edits = tt }

pub bare_coded : (tree : Tree) (s : Stmt) → All (HasCode rule.RequireTableSchema) (reports_of_require_table_schema tree s)
bare_coded tree s = those_all (HasCode rule.RequireTableSchema) is_bare (report tree) (tables_of s) (report_coded tree)

pub bare_placed : (tree : Tree) (s : Stmt) → IsRead tree → All (IsPlacedIn tree) (reports_of_require_table_schema tree s)
bare_placed tree s read = those_all (IsPlacedIn tree) is_bare (report tree) (tables_of s) (λ path. report_placed tree path read)
