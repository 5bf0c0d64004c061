use Rattle.std.proofs.Common.{◌≡◌, ◌++◌, drop}
use Rattle.lsp_shown.specs.Tokens.{long_tokens}
use Rattle.lsp_shown.proofs.tokens.long_tokens.Given as goal

-- what was found, before what is still to be found, is all
abbrev pub invariant-loop-token : goal.invariant-loop-token
invariant-loop-token l = l.found.items ++ long_tokens l.index (drop l.token-index l.tokens) ≡ long_tokens l.index l.tokens
