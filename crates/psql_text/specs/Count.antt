-- How many lines, commands and bodies a part is.
use Rattle.std.specs.Prelude.{ℕ, ◌+◌, ◌-◌, min, length, count_by, take, drop}
use Rattle.sql_lex.specs.text_pos.Line.{is_line_feed}
use Rattle.sql_lex.specs.sql_token.Token.{Text}
use Rattle.psql_text.specs.declared.part.PartKind.{PartKind}
use Rattle.psql_text.specs.declared.part.PartKind.TheVariants.{Command, Data, Ending, Body}

-- how many lines of the text begin from one place to another, the first of them there: a line feed that ends the text begins none
abbrev pub lines_between : Text → ℕ → ℕ → ℕ
lines_between t from to = count_by is_line_feed (take (min to (length t - 1) - from) (drop from t)) + 1

abbrev pub commands_of : PartKind → ℕ
commands_of Command = 1
commands_of Data = 0
commands_of Ending = 1
commands_of Body = 0

abbrev pub data_of : PartKind → ℕ → ℕ
data_of Command n = 0
data_of Data n = n
data_of Ending n = 0
data_of Body n = 0

abbrev pub bodies_of : PartKind → ℕ
bodies_of Command = 0
bodies_of Data = 0
bodies_of Ending = 0
bodies_of Body = 1
