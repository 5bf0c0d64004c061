use Rattle.std.proofs.Common.{take}
use Rattle.lint_ignore.specs.Index.{IsIndexOf}
use Rattle.lint_ignore.proofs.index.IgnoreIndex.new.Given as goal

-- the index knows the ignore comments so far
abbrev pub invariant-loop-ignore : goal.invariant-loop-ignore
invariant-loop-ignore l = IsIndexOf l.index l.text (take l.ignore-index l.ignores)
