use Rattle.std.proofs.Common.{◌≡◌, ◌++◌}
use Rattle.text_pos.specs.Line.{line_feeds}
use Rattle.text_pos.proofs.line.LineIndex.new.Given as goal

-- the line feeds found so far, and those still to be found
abbrev pub invariant-loop-at : goal.invariant-loop-at
invariant-loop-at l = l.feeds.items ++ l.at-iterator ≡ line_feeds l.text
