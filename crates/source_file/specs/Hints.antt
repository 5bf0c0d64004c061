-- What may help with a text that can't be read, by what it has at the place of the fault: what is mostly the cause, or else what was expected.
use Rattle.std.specs.Prelude.{ℕ, ◌-◌, ◌==◌, Bool, true, false, ◌&&◌, ◌||◌, if◌then◌else◌, List, [], ◌∷◌, ◌++◌, codes, drop, take, slice_range, Option, Some, None}
use Rattle.std.specs.Char.{to_ascii_lowercase}
use Rattle.std.specs.List.{position}
use Rattle.source_file.specs.Line.{Text, line_start_of}
use Rattle.source_file.specs.declared.hints.Hint.{Hint}
use Rattle.source_file.specs.declared.hints.Hint.TheVariants.{CopiedRows, PsqlCommand, AtomicBody, EscapedName, Statement, End, Utf8}
use Rattle.source_file.specs.declared.refusal.Refusal.{Refusal}
use Rattle.source_file.specs.declared.refusal.Refusal.TheVariants.{Missing, Unreadable, NotUtf8, TooLong, Unterminated, Syntax}

-- a text begins with a word of small letters, in any case
unfoldable pub begins_with : Text → Text → Bool
begins_with text [] = true
begins_with [] (w ∷ word) = false
begins_with (b ∷ text) (w ∷ word) = to_ascii_lowercase b == w && begins_with text word

-- it has the word somewhere
unfoldable pub has_word : Text → Text → Bool
has_word [] word = begins_with [] word
has_word (b ∷ text) word = begins_with (b ∷ text) word || has_word text word

-- a text up to its first semicolon
abbrev pub up_to_semicolon : Text → Option ℕ → Text
up_to_semicolon text None = text
up_to_semicolon text (Some at) = take at text

abbrev pub is_semicolon : ℕ → Bool
is_semicolon b = b == 59

-- the statement that begins a text, up to the first semicolon
abbrev pub first_statement : Text → Text
first_statement text = up_to_semicolon text (position is_semicolon text)

-- the line before that of a place; nothing at the first line
abbrev pub line_before : Text → ℕ → Text
line_before text at =
    let start = line_start_of text at in
    if start == 0 then [] else slice_range text (line_start_of text (start - 1)) (start - 1)

-- the hint for what can't be read from a place on, where something else is expected
unfoldable pub hint_at : Text → ℕ → Hint → Hint
hint_at text at expected =
    if has_word (line_before text at) (codes "from stdin") then CopiedRows
    else if begins_with (drop at text) (92 ∷ []) then PsqlCommand
    else if has_word (first_statement (drop at text)) (codes "begin atomic") then AtomicBody
    else if has_word (first_statement (drop at text)) (codes "u&" ++ 34 ∷ []) then EscapedName
    else expected

abbrev pub hint_of : Text → Refusal → Option Hint
hint_of text (Unterminated at) = Some (hint_at text at End)
hint_of text (Syntax at) = Some (hint_at text at Statement)
hint_of text (NotUtf8 at) = Some Utf8
hint_of text Missing = None
hint_of text Unreadable = None
hint_of text TooLong = None

abbrev pub text_of : Hint → List ℕ
text_of CopiedRows = codes "the lines after COPY .. FROM STDIN are data, not SQL: leave them out, as pg_dump --schema-only does"
text_of PsqlCommand = codes "a line that begins with a backslash is a command of psql, not SQL: leave it out"
text_of AtomicBody = codes "a body in BEGIN ATOMIC .. END can't be read: write it as a string, as in AS $$ .. $$"
text_of EscapedName = codes "a name with U& before its quotes can't be read: write its characters themselves"
text_of Statement = codes "write the statement as PostgreSQL takes it"
text_of End = codes "end the quoted piece or the comment in this file"
text_of Utf8 = codes "write the file as UTF-8"
