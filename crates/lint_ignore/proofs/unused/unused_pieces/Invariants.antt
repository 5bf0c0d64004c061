use Rattle.std.proofs.Common.{◌≡◌, ◌++◌, take}
use Rattle.lint_ignore.specs.Unused.{unused_among}
use Rattle.lint_ignore.proofs.unused.unused_pieces.Given as goal

-- the names so far that cover nothing are reported
abbrev pub invariant-loop-piece : goal.invariant-loop-piece
invariant-loop-piece l = l.out ≡ l.fn.out ++ unused_among l.text l.ignores l.all l.enabled (take l.piece-index l.pieces)
