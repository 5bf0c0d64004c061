-- The statements of a text, as those are joined that are one. A body in BEGIN ATOMIC .. END has statements of its own.
use Rattle.std.specs.Prelude.{Bool, false, not, ◌&&◌, ◌||◌, List, [], ◌∷◌, Option, Some, None, if◌then◌else◌}
use Rattle.law_reports.specs.sql_read.sql_token.declared.terminal.Terminal.{Terminal}
use Rattle.law_reports.specs.sql_read.sql_token.declared.token.Span.{Span}
use Rattle.law_reports.specs.sql_read.sql_token.declared.token.Tok.{Tok}
use Rattle.law_reports.specs.sql_read.sql_token.Depth.{span_of, statements}
use Rattle.law_reports.specs.sql_read.sql_token.sql_keyword.declared.words.TheConstants.Keyword as keyword
use Rattle.law_reports.specs.sql_read.sql_token.Terminal.{is_keyword, terminals}
use Rattle.law_reports.specs.sql_read.sql_token.Token.{Text}

-- they begin with END
abbrev pub begins_end : List Terminal → Bool
begins_end [] = false
begins_end (t ∷ ts) = is_keyword keyword.END t

-- after BEGIN, a body that has statements
abbrev pub begins_body : List Terminal → Bool
begins_body [] = false
begins_body (t ∷ ts) = is_keyword keyword.ATOMIC t && not (begins_end ts)

-- somewhere in them the words BEGIN ATOMIC are side by side, before a statement
unfoldable pub has_body : List Terminal → Bool
has_body [] = false
has_body (t ∷ ts) = (is_keyword keyword.BEGIN t && begins_body ts) || has_body ts

-- a statement whose semicolon is that of the first statement of its body goes on up to the END of the body
abbrev pub goes_on : Option Span → List Terminal → Bool
goes_on None ts = has_body ts
goes_on (Some begun) ts = not (begins_end ts)

-- what was read of a statement, with these terminals
abbrev pub through : Option Span → List Terminal → Span
through None ts = span_of ts
through (Some begun) ts = record { first = begun.first; last = (span_of ts).last }

-- the statement of which so much was read, and those after it
abbrev pub joined : Option Span → List (List Terminal) → List Span
joined None [] = []
joined (Some begun) [] = begun ∷ []
joined begun (ts ∷ others) = if goes_on begun ts then joined (Some (through begun ts)) others else through begun ts ∷ joined None others

-- the statements of a text, each by the numbers of its first token and of its last one
abbrev pub spans_of : Text → List Tok → List Span
spans_of t toks = joined None (statements (terminals t toks))
