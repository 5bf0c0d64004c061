use Rattle.std.proofs.Common.{◌≡◌, ◌++◌, length, map}
use Rattle.sql_token.specs.Depth.{span_of, statements}
use Rattle.sql_token.specs.Terminal.{terminals}
use Rattle.sql_lex.proofs.spans.cut.Given as goal

abbrev pub invariant-statements : goal.invariant-statements
invariant-statements l = l.spans.items ++ map span_of l.walk ≡ map span_of (statements (terminals l.text l.toks))

abbrev pub decreases-statements : goal.decreases-statements
decreases-statements l = length l.walk
