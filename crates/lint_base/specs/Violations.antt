-- Reports, as clauses see them.
use Rattle.std.specs.Prelude.{ℕ, List, None}
use Rattle.text_pos.specs.Range.{Range}
use Rattle.lint_base.specs.declared.rule.Rule.{Rule}
use Rattle.lint_base.specs.declared.violation.Violation.{Violation}

-- a report without note, help and fix
abbrev pub violation : Rule → List ℕ → Range → Violation
violation code message text_range = record { code = code; message = message; text_range = text_range; note = None; help = None; fix = None }
