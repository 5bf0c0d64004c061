-- The one keyword that a text may be, by a table in which each keyword has a slot of its own.
use Rattle.std.specs.Prelude.{ℕ, List, ◌+◌, ◌*◌, ◌-◌, ◌%◌, ◌||◌, length, slice_index, slice_index_or, slice_range, Option, None, nat_lt, nat_le, if◌then◌else◌}
use Rattle.std.specs.Str.{str_eq_ignore_ascii_case}
use Rattle.sql_keyword.specs.declared.words.Keyword.{Keyword}
use Rattle.sql_keyword.specs.declared.slots.TheConstants.{SLOT_COUNT, LENGTH_WEIGHT, SECOND_WEIGHT, BEFORE_LAST_WEIGHT, LAST_WEIGHT, SHIFTS, STARTS, LENGTHS, KEYWORDS, TEXTS}

-- the place in the alphabet of the letter at i, in either case
abbrev pub letter_at : List ℕ → ℕ → ℕ
letter_at bs i = slice_index bs i % 32

-- the slot of the one keyword that a text of two bytes or more may be
unfoldable pub slot : List ℕ → ℕ
slot bs =
    (slice_index SHIFTS (letter_at bs 0) + LENGTH_WEIGHT * length bs + SECOND_WEIGHT * letter_at bs 1
    + BEFORE_LAST_WEIGHT * letter_at bs (length bs - 2) + LAST_WEIGHT * letter_at bs (length bs - 1)) % SLOT_COUNT

-- where the text of a slot's keyword begins
unfoldable pub start_of : ℕ → ℕ
start_of n = slice_index STARTS n

-- how many letters it has, or 0 where no keyword has the slot
unfoldable pub length_of : ℕ → ℕ
length_of n = slice_index LENGTHS n

-- so many letters of the texts
unfoldable pub text_at : ℕ → ℕ → List ℕ
text_at start len = slice_range TEXTS.now start (start + len)

-- the text of a slot's keyword
abbrev pub text_in : ℕ → List ℕ
text_in n = text_at (start_of n) (length_of n)

-- the keyword of a slot
unfoldable pub keyword_in : ℕ → Option Keyword
keyword_in n = slice_index_or KEYWORDS n None

-- what the table finds
unfoldable pub look_up : List ℕ → Option Keyword
look_up bs =
    if nat_lt (length bs) 2 || nat_le 16 (length bs) then None
    else if str_eq_ignore_ascii_case bs (text_in (slot bs)) then keyword_in (slot bs) else None
