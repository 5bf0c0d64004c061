-- A file: its name and its text, and the places of its bytes.
use Rattle.std.specs.Prelude.{◌≡◌, ℕ, ◌+◌, ◌<◌, ◌≤◌, ◌^◌, Bool, true, List, length, chars}
use Rattle.std.specs.Str.{IsAscii, IsCharBoundary}
use Rattle.text_pos.specs.Range.{Range}
use Rattle.text_pos.specs.Line.{line_feeds, line_of}
use Rattle.source_file.specs.declared.place.Place.{Place}
use Rattle.source_file.specs.Line.{Text, front_of}

pub record FileValue : Type 0 where
  pub name : Text
  pub text : Text

-- a text that is not too long, where its lines end, and whether it is known that each of its characters is one byte
pub record IsIndexed (text : Text) (feeds : List ℕ) (is_ascii : Bool) : Type 0 where
  pub short : length text < 2 ^ 32
  pub feeds_are : feeds ≡ line_feeds text
  pub ascii : is_ascii ≡ true → IsAscii text

-- the number of the line of a place, from 1
abbrev pub line_number : Text → ℕ → ℕ
line_number text at = line_of text at + 1

-- the number of the column of a place, from 1, in characters
abbrev pub column : Text → ℕ → ℕ
column text at = length (chars (front_of text at)) + 1

-- a place as people read it
abbrev pub location : Text → ℕ → Place
location text at = record { line = line_number text at; column = column text at }

-- the range runs forward, and begins and ends between two characters of the text
pub record IsRangeIn (text : Text) (range : Range) : Type 0 where
  pub ordered : range.start ≤ range.end
  pub start : IsCharBoundary text range.start
  pub end : IsCharBoundary text range.end
