-- Lines of a text: where they end, and on which of them a place is there.
use Rattle.std.specs.Prelude.{ℕ, ◌+◌, ◌-◌, ◌<◌, ◌^◌, Bool, ◌==◌, ◌&&◌, nat_lt, Option, Some, None, position, slice_index, List, [], ◌∷◌, count_by, length, take, if◌then◌else◌}
use Rattle.std.specs.List.{after_last}
use Rattle.std.specs.List.Sorted.{IsNonDecreasing}
use Rattle.text_pos.specs.declared.ending.LineEnding.{LineEnding}
use Rattle.text_pos.specs.declared.ending.LineEnding.TheVariants.{Lf, CrLf}

-- whether a byte ends a line
abbrev pub is_line_feed : ℕ → Bool
is_line_feed byte = byte == 10

-- the places of the line feeds of a text, the first byte of which is at `start`
abbrev pub line_feeds_from : ℕ → List ℕ → List ℕ
line_feeds_from start [] = []
line_feeds_from start (byte ∷ bytes) =
    (if is_line_feed byte then start ∷ line_feeds_from (start + 1) bytes else line_feeds_from (start + 1) bytes)

-- the places of the line feeds of a text, in order
abbrev pub line_feeds : List ℕ → List ℕ
line_feeds text = line_feeds_from 0 text

-- the line on which a place of a text is there: how many line feeds come before it
abbrev pub line_of : List ℕ → ℕ → ℕ
line_of text at = count_by is_line_feed (take at text)

-- where the line of a place begins: after the last line feed before it
abbrev pub line_start : List ℕ → ℕ → ℕ
line_start text at = at - length (after_last is_line_feed (take at text))

-- a list that may be searched for a place: no number falls, and there are fewer than 2 ^ 32
abbrev pub IsLineIndex : List ℕ → Type 0
IsLineIndex feeds = (length feeds < 2 ^ 32) × IsNonDecreasing feeds

-- the line ending of a text, by the place of its first line feed
abbrev pub ending_at : List ℕ → Option ℕ → LineEnding
ending_at text None = Lf
ending_at text (Some at) = (if nat_lt 0 at && (slice_index text (at - 1) == 13) then CrLf else Lf)

-- the line ending of a text: a carriage return and a line feed where its first line feed follows a carriage return
abbrev pub line_ending_of : List ℕ → LineEnding
line_ending_of text = ending_at text (position is_line_feed text)

-- the bytes of a line ending
abbrev pub ending_bytes : LineEnding → List ℕ
ending_bytes Lf = 10 ∷ []
ending_bytes CrLf = 13 ∷ 10 ∷ []
