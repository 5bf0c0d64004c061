use Rattle.std.proofs.Common.{◌≡◌, ◌++◌, IfSome, None, drop}
use Rattle.lsp_shown.specs.Notes.{notes_from}
use Rattle.lsp_shown.specs.Tokens.{TokenIn}
use Rattle.lsp_shown.proofs.notes.notes_in.Given as goal

-- what was found, before what is still to be found, is all; the token before is one of the text
abbrev pub invariant-loop-token : goal.invariant-loop-token
invariant-loop-token l =
    (l.found.items ++ notes_from l.text l.before (drop l.token-index l.tokens) ≡ notes_from l.text None l.tokens) × IfSome l.before (TokenIn l.text)
