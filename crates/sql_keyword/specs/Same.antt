-- Equality of keywords.
use Rattle.std.specs.Prelude.{Bool, false}
use denote.Enum.Bare.{sameb}
use Rattle.sql_keyword.specs.contracts.words.Verb as verb
use Rattle.sql_keyword.specs.contracts.words.Object as object
use Rattle.sql_keyword.specs.contracts.words.Other as other
use Rattle.sql_keyword.specs.declared.words.Keyword.{Keyword}
use Rattle.sql_keyword.specs.declared.words.Keyword.TheVariants as k

-- `==` on keywords
unfoldable pub same_keyword : Keyword → Keyword → Bool
same_keyword (k.Verb a) (k.Verb b) = sameb verb.the_type a b
same_keyword (k.Object a) (k.Object b) = sameb object.the_type a b
same_keyword (k.Other a) (k.Other b) = sameb other.the_type a b
same_keyword _ _ = false
