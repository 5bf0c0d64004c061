-- Which statements are COPY .. FROM STDIN, and which make a function or a procedure; where the body of one ends.
use Rattle.std.specs.Prelude.{ℕ, ◌+◌, ◌==◌, Bool, true, false, not, ◌&&◌, ◌||◌, if◌then◌else◌, List, [], ◌∷◌, codes, slice_index}
use Rattle.std.specs.Str.{str_eq_ignore_ascii_case}
use Rattle.sql_lex.specs.sql_token.Token.{Text}
use Rattle.sql_lex.specs.sql_token.Depth.{one_if}
use Rattle.sql_lex.specs.sql_token.declared.token.TokKind.{TokKind}
use Rattle.sql_lex.specs.sql_token.declared.token.TokKind.TheVariants as k
use Rattle.psql_text.specs.declared.mark.Mark.{Mark}
use Rattle.psql_text.specs.declared.mark.Mark.TheVariants.{Copy, From, Stdin, Create, Or, Replace, Routine, Begin, Case, End, Atomic, Opener, Closer, Semicolon, Backslash, Other, Nothing}
use Rattle.psql_text.specs.declared.lead.Lead.{Lead}
use Rattle.psql_text.specs.declared.lead.Lead.TheVariants as lead

-- ---- words, which are compared without regard to ASCII case

-- of a body
unfoldable pub block_mark : Text → Mark
block_mark bs =
    if str_eq_ignore_ascii_case bs (codes "begin") then Begin
    else (if str_eq_ignore_ascii_case bs (codes "case") then Case
    else (if str_eq_ignore_ascii_case bs (codes "end") then End
    else (if str_eq_ignore_ascii_case bs (codes "atomic") then Atomic
    else Other)))

-- what a function or a procedure is made by
unfoldable pub routine_mark : Text → Mark
routine_mark bs =
    if str_eq_ignore_ascii_case bs (codes "create") then Create
    else (if str_eq_ignore_ascii_case bs (codes "or") then Or
    else (if str_eq_ignore_ascii_case bs (codes "replace") then Replace
    else (if str_eq_ignore_ascii_case bs (codes "function") || str_eq_ignore_ascii_case bs (codes "procedure") then Routine
    else block_mark bs)))

-- of COPY .. FROM STDIN
unfoldable pub word_mark : Text → Mark
word_mark bs =
    if str_eq_ignore_ascii_case bs (codes "copy") then Copy
    else (if str_eq_ignore_ascii_case bs (codes "from") then From
    else (if str_eq_ignore_ascii_case bs (codes "stdin") then Stdin
    else routine_mark bs))

-- ---- all tokens

abbrev pub punct_mark : ℕ → Mark
punct_mark b =
    if b == 40 || b == 91 then Opener
    else (if b == 41 || b == 93 then Closer
    else (if b == 59 then Semicolon
    else Other))

abbrev pub other_mark : ℕ → Mark
other_mark b = if b == 92 then Backslash else Other

-- what a token of this kind and of these bytes is; blanks and comments are nothing
unfoldable pub mark_of : TokKind → Text → Mark
mark_of k.Blank bs = Nothing
mark_of k.LineComment bs = Nothing
mark_of k.BlockComment bs = Nothing
mark_of k.Word bs = word_mark bs
mark_of k.Punct bs = punct_mark (slice_index bs 0)
mark_of k.Other bs = other_mark (slice_index bs 0)
mark_of _ bs = Other

-- the word COPY
abbrev pub is_copy : Mark → Bool
is_copy Copy = true
is_copy _ = false

-- the word FROM
abbrev pub is_from : Mark → Bool
is_from From = true
is_from _ = false

-- the word STDIN
abbrev pub is_stdin : Mark → Bool
is_stdin Stdin = true
is_stdin _ = false

-- the word CREATE
abbrev pub is_create : Mark → Bool
is_create Create = true
is_create _ = false

-- the word OR
abbrev pub is_or : Mark → Bool
is_or Or = true
is_or _ = false

-- the word REPLACE
abbrev pub is_replace : Mark → Bool
is_replace Replace = true
is_replace _ = false

-- the word FUNCTION or PROCEDURE
abbrev pub is_routine : Mark → Bool
is_routine Routine = true
is_routine _ = false

-- the word BEGIN
abbrev pub is_begin : Mark → Bool
is_begin Begin = true
is_begin _ = false

-- the word CASE
abbrev pub is_case : Mark → Bool
is_case Case = true
is_case _ = false

-- the word END
abbrev pub is_end : Mark → Bool
is_end End = true
is_end _ = false

-- the word ATOMIC
abbrev pub is_atomic : Mark → Bool
is_atomic Atomic = true
is_atomic _ = false

-- ( or [
abbrev pub is_opener : Mark → Bool
is_opener Opener = true
is_opener _ = false

-- ) or ]
abbrev pub is_closer : Mark → Bool
is_closer Closer = true
is_closer _ = false

-- a semicolon
abbrev pub is_semicolon : Mark → Bool
is_semicolon Semicolon = true
is_semicolon _ = false

-- a backslash
abbrev pub is_backslash : Mark → Bool
is_backslash Backslash = true
is_backslash _ = false

-- blanks or a comment
abbrev pub is_nothing : Mark → Bool
is_nothing Nothing = true
is_nothing _ = false

-- ---- The marks of a statement are given from the last to the first.

abbrev pub opened : List Mark → ℕ
opened [] = 0
opened (m ∷ ms) = opened ms + one_if (is_opener m)

abbrev pub closed : List Mark → ℕ
closed [] = 0
closed (m ∷ ms) = closed ms + one_if (is_closer m)

-- what comes next is at depth 0
abbrev pub is_outside : List Mark → Bool
is_outside ms = opened ms == closed ms

abbrev pub is_none : List Mark → Bool
is_none [] = true
is_none (m ∷ ms) = false

-- the first word is COPY
abbrev pub begins_copy : List Mark → Bool
begins_copy [] = false
begins_copy (m ∷ ms) = if is_none ms then is_copy m else begins_copy ms

-- somewhere is a FROM at depth 0
abbrev pub has_from : List Mark → Bool
has_from [] = false
has_from (m ∷ ms) = (is_from m && is_outside ms) || has_from ms

-- the last word is FROM, the first one at depth 0
abbrev pub ends_in_from : List Mark → Bool
ends_in_from [] = false
ends_in_from (m ∷ ms) = is_from m && is_outside ms && not (has_from ms)

-- somewhere the word STDIN comes after the first FROM at depth 0
abbrev pub has_from_stdin : List Mark → Bool
has_from_stdin [] = false
has_from_stdin (m ∷ ms) = (is_stdin m && ends_in_from ms) || has_from_stdin ms

-- m is the semicolon of the statement
abbrev pub ends_statement : List Mark → Mark → Bool
ends_statement ms m = is_semicolon m && is_outside ms

-- the statement is COPY .. FROM STDIN
abbrev pub is_copy_stdin : List Mark → Bool
is_copy_stdin ms = begins_copy ms && has_from_stdin ms

-- m is the semicolon of a COPY .. FROM STDIN
abbrev pub ends_copy : List Mark → Mark → Bool
ends_copy ms m = ends_statement ms m && is_copy_stdin ms

-- the marks of the statement that goes on after m
abbrev pub marks_after : List Mark → Mark → List Mark
marks_after ms m = if is_nothing m then ms else (if ends_statement ms m then [] else m ∷ ms)

-- ---- functions and procedures

-- the first words, with one more
abbrev pub lead_after : Lead → Mark → Lead
lead_after lead.Empty m = if is_create m then lead.Create else lead.Other
lead_after lead.Create m = if is_routine m then lead.Routine else (if is_or m then lead.CreateOr else lead.Other)
lead_after lead.CreateOr m = if is_replace m then lead.CreateOrReplace else lead.Other
lead_after lead.CreateOrReplace m = if is_routine m then lead.Routine else lead.Other
lead_after lead.Routine m = lead.Routine
lead_after lead.Other m = lead.Other

-- the first words of a statement
abbrev pub lead_of : List Mark → Lead
lead_of [] = lead.Empty
lead_of (m ∷ ms) = lead_after (lead_of ms) m

-- all of these words
abbrev pub is_whole : Lead → Bool
is_whole lead.Routine = true
is_whole _ = false

-- the last word is BEGIN, outside of brackets
abbrev pub ends_in_begin : List Mark → Bool
ends_in_begin [] = false
ends_in_begin (m ∷ ms) = is_begin m && is_outside ms

-- m is the ATOMIC of BEGIN ATOMIC outside of brackets, and the first words are CREATE [OR REPLACE] FUNCTION or PROCEDURE
abbrev pub begins_body : List Mark → Mark → Bool
begins_body ms m = is_atomic m && (ends_in_begin ms && is_whole (lead_of ms))

-- ---- The marks of a body are given from the last to the first, which comes after its BEGIN.

-- BEGIN and CASE outside of brackets
abbrev pub begun : List Mark → ℕ
begun [] = 0
begun (m ∷ ms) = begun ms + one_if ((is_begin m || is_case m) && is_outside ms)

-- END outside of brackets
abbrev pub ended : List Mark → ℕ
ended [] = 0
ended (m ∷ ms) = ended ms + one_if (is_end m && is_outside ms)

-- m is an END outside of brackets, and each BEGIN and CASE before it has its own
abbrev pub ends_body : List Mark → Mark → Bool
ends_body ms m = (is_end m && is_outside ms) && (begun ms == ended ms)
