-- What is reported of TRUNCATE: its word CASCADE (PostgreSQL manual, TRUNCATE).
use Rattle.std.specs.Prelude.{ℕ, List, [], ◌∷◌, Some, None, codes}
use Rattle.lint_pass.specs.sql_tree.declared.nodes.Body.{Body}
use Rattle.lint_pass.specs.sql_tree.declared.nodes.Body.TheVariants as body
use Rattle.lint_pass.specs.sql_tree.Range.{span_range_of}
use Rattle.lint_pass.specs.sql_tree.Statement.{Tree}
use Rattle.lint_pass.specs.lint_base.declared.rule.Rule.TheVariants as rule
use Rattle.lint_pass.specs.lint_base.declared.violation.Violation.{Violation}

-- the report of the word with this number
unfoldable pub report : Tree → ℕ → Violation
report tree word = record {
  code = rule.BanTruncateCascade;
  message = codes "`cascade` recursively truncates every table with a foreign key to the truncated tables";
  text_range = span_range_of tree.toks word word;
  note = Some (codes "with foreign keys set up as `a <- b <- c`, truncating `a` also truncates `b` and `c`");
  help = Some (codes "remove the `cascade` and list exactly which tables to truncate");
  fix = None;
}

abbrev pub reports_of_ban_truncate_cascade : Tree → Body → List Violation
reports_of_ban_truncate_cascade tree (body.Truncate (Some word)) = report tree word ∷ []
reports_of_ban_truncate_cascade tree _ = []
