-- Commands of psql (PostgreSQL manual, psql, "Meta-Commands"): those that neither send SQL, nor drop it, nor take it from elsewhere, and those that end the
-- statement before them. The texts are what follows the backslash of a command.
use Rattle.std.specs.Prelude.{ℕ, ◌==◌, Bool, not, ◌&&◌, ◌||◌, [], take, drop, length, nat_le, slice_index, codes, if◌then◌else◌, Option, Some, None}
use Rattle.std.specs.List.{list_any, position}
use Rattle.std.specs.Str.{bytes_eq}
use Rattle.sql_lex.specs.text_pos.Line as line
use Rattle.sql_lex.specs.sql_token.Token.{Text, is_blank}

-- ---- words

abbrev pub is_line_feed : ℕ → Bool
is_line_feed b = line.is_line_feed b

-- white space, or a backslash
abbrev pub ends_word : ℕ → Bool
ends_word b = is_blank b || b == 92

-- neither a space nor a tab
abbrev pub ends_gap : ℕ → Bool
ends_gap b = not (b == 32 || b == 9)

abbrev pub front_to : Text → Option ℕ → Text
front_to z None = z
front_to z (Some n) = if nat_le n (length z) then take n z else z

abbrev pub rest_from : Text → Option ℕ → Text
rest_from z None = []
rest_from z (Some n) = if nat_le n (length z) then drop n z else []

-- the word at the front
abbrev pub word : Text → Text
word z = front_to z (position ends_word z)

-- what follows it
abbrev pub after_word : Text → Text
after_word z = rest_from z (position ends_word z)

-- the word after it
abbrev pub argument : Text → Text
argument z = word (rest_from (after_word z) (position ends_gap (after_word z)))

-- ---- commands

-- the session and its connection
unfoldable pub is_about_session : Text → Bool
is_about_session name =
    bytes_eq name (codes "c") || bytes_eq name (codes "cd") || bytes_eq name (codes "connect") || bytes_eq name (codes "conninfo")
    || bytes_eq name (codes "encoding") || bytes_eq name (codes "password") || bytes_eq name (codes "restrict") || bytes_eq name (codes "unrestrict")

-- the end of the session
unfoldable pub is_leaving : Text → Bool
is_leaving name = bytes_eq name (codes "q") || bytes_eq name (codes "quit")

-- where answers go, and how they look
unfoldable pub is_about_output : Text → Bool
is_about_output name =
    bytes_eq name (codes "a") || bytes_eq name (codes "l") || bytes_eq name (codes "o") || bytes_eq name (codes "out")
    || bytes_eq name (codes "pset") || bytes_eq name (codes "t") || bytes_eq name (codes "timing") || bytes_eq name (codes "x")

-- messages, and the end of the data of COPY
unfoldable pub is_message : Text → Bool
is_message name =
    bytes_eq name (codes ".") || bytes_eq name (codes "echo") || bytes_eq name (codes "p") || bytes_eq name (codes "print")
    || bytes_eq name (codes "qecho") || bytes_eq name (codes "warn")

-- variables
unfoldable pub is_about_variable : Text → Bool
is_about_variable name =
    bytes_eq name (codes "prompt") || bytes_eq name (codes "set") || bytes_eq name (codes "setenv") || bytes_eq name (codes "unset")

-- it describes what is there
abbrev pub describes : Text → Bool
describes name = slice_index name 0 == 100

abbrev pub is_quiet_name : Text → Bool
is_quiet_name name = is_about_session name || is_leaving name || is_about_output name || is_message name || is_about_variable name || describes name

-- a variable by which psql takes SQL in another way: each line for a statement, or with transactions of its own
abbrev pub is_switch : Text → Bool
is_switch name = bytes_eq name (codes "AUTOCOMMIT") || bytes_eq name (codes "SINGLELINE")

-- a backslash is on the line: another command, or SQL after two backslashes, may follow there
abbrev pub goes_on : Text → Bool
goes_on z = list_any (λ b. b == 92) (front_to z (position is_line_feed z))

-- the line has one command, which is such a one, and sets no such variable
unfoldable pub is_quiet : Text → Bool
is_quiet z = is_quiet_name (word z) && not (bytes_eq (word z) (codes "set") && is_switch (argument z)) && not (goes_on z)

-- ---- commands that end the statement before them

-- they send it
unfoldable pub is_sending : Text → Bool
is_sending name =
    bytes_eq name (codes "g") || bytes_eq name (codes "gx") || bytes_eq name (codes "gset") || bytes_eq name (codes "gdesc")
    || bytes_eq name (codes "crosstabview") || bytes_eq name (codes "watch")

-- they drop it, or are the edge of a branch
unfoldable pub is_edge : Text → Bool
is_edge name =
    bytes_eq name (codes "r") || bytes_eq name (codes "reset") || bytes_eq name (codes "if") || bytes_eq name (codes "elif")
    || bytes_eq name (codes "else") || bytes_eq name (codes "endif")

-- on the line is a backslash, or a bar, after which psql sends what is read to another program
abbrev pub leads_on : Text → Bool
leads_on z = list_any (λ b. b == 92 || b == 124) (front_to z (position is_line_feed z))

-- the line has no other command, and this is such a one
unfoldable pub is_ending : Text → Bool
is_ending z = (is_sending (word z) || is_edge (word z)) && not (leads_on z)
