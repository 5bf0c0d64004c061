-- The terminals of a span of tokens.
use Rattle.std.specs.Prelude.{◌<◌, ◌≤◌, ℕ, ◌+◌, List, length, drop, take}
use Rattle.sql_token.specs.declared.token.Span.{Span}
use Rattle.sql_token.specs.declared.token.Tok.{Tok}
use Rattle.sql_token.specs.declared.terminal.Terminal.{Terminal}
use Rattle.sql_token.specs.Token.{Text}
use Rattle.sql_token.specs.Terminal.{terminals_from}

-- the terminals from the token with the number n on
abbrev pub terminals_after : Text → List Tok → ℕ → List Terminal
terminals_after t toks n = terminals_from t n (drop n toks)

-- the terminals from the first token of a span to its last one, with their numbers among all tokens
unfoldable pub terminals_in : Text → List Tok → Span → List Terminal
terminals_in t toks span = terminals_after t (take (span.last + 1) toks) span.first

-- The span is one of these tokens.
abbrev pub IsSpan : List Tok → Span → Type 0
IsSpan toks span = (span.first ≤ span.last) × (span.last < length toks)
