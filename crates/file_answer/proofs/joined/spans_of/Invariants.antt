use Rattle.std.proofs.Common.{◌≡◌, ◌++◌, length, None}
use Rattle.law_reports.specs.sql_read.sql_token.Depth.{statements}
use Rattle.law_reports.specs.sql_read.sql_token.Terminal.{terminals}
use Rattle.file_answer.specs.Joined.{joined}
use Rattle.file_answer.proofs.joined.spans_of.Given as goal

-- the statements so far, and those that are left
abbrev pub invariant-statements : goal.invariant-statements
invariant-statements l = l.spans.items ++ joined l.begun l.walk ≡ joined None (statements (terminals l.text l.toks))

abbrev pub decreases-statements : goal.decreases-statements
decreases-statements l = length l.walk
