-- The keyword that a text is.
use Rattle.std.specs.Prelude.{ℕ, List, Option}
use Rattle.std.specs.List.{find}
use Rattle.std.specs.Str.{str_eq_ignore_ascii_case}
use Rattle.sql_keyword.specs.declared.words.Keyword.{Keyword}
use Rattle.sql_keyword.specs.Texts.{text, all_keywords}

-- the keyword whose text this is, without regard to ASCII case
unfoldable pub keyword_of : List ℕ → Option Keyword
keyword_of bs = find (λ k. str_eq_ignore_ascii_case bs (text k)) all_keywords
