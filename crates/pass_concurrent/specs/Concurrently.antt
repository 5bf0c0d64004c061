-- Reports whose fix adds CONCURRENTLY.
use Rattle.std.specs.Prelude.{ℕ, List, Some, None, codes}
use Rattle.lint_pass.specs.text_pos.Range.{Range}
use Rattle.lint_pass.specs.sql_tree.Range.{span_range_of}
use Rattle.lint_pass.specs.sql_tree.Statement.{Tree}
use Rattle.lint_pass.specs.lint_base.declared.rule.Rule.{Rule}
use Rattle.lint_pass.specs.lint_base.declared.violation.Violation.{Violation}
use Rattle.lint_pass.specs.lint_base.Fixes.{FixValue}
use Rattle.lint_pass.specs.Fixes.{insertion_fix}

-- the word after this token
abbrev pub concurrently_after : Tree → ℕ → FixValue
concurrently_after tree token = insertion_fix (codes "Add `concurrently`") (codes " concurrently") (span_range_of tree.toks token token).end

-- what is reported on a range, with the fix after a token
abbrev pub plain_report : Rule → List ℕ → List ℕ → Tree → Range → ℕ → Violation
plain_report code message help tree range token = record {
  code = code;
  message = message;
  text_range = range;
  note = None;
  help = Some help;
  fix = Some (concurrently_after tree token);
}
