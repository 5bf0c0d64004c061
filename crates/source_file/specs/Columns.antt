-- The columns that a text takes in a terminal, as it is shown.
use Rattle.std.specs.Prelude.{ℕ, ◌==◌, Bool, ◌&&◌, ◌||◌, nat_le, false, if◌then◌else◌, unwrap_or, sum_by, chars, List}
use Rattle.unicode_width.specs.Width.{char_width}

-- a C1 control character
abbrev pub is_c1_code : ℕ → Bool
is_c1_code c = nat_le 128 c && nat_le c 159

-- a character that turns the direction of a text
abbrev pub is_turning_code : ℕ → Bool
is_turning_code c = (nat_le 8234 c && nat_le c 8238) || (nat_le 8294 c && nat_le c 8297)

-- the columns of a character: four for a tab, none for a carriage return, those of an escape, one for another control character
abbrev pub columns_of : ℕ → ℕ
columns_of c =
    if c == 9 then 4
    else if c == 13 then 0
    else if is_c1_code c then 6
    else if is_turning_code c then 8
    else unwrap_or (char_width false c) 1

-- the columns of a piece
abbrev pub width_of : List ℕ → ℕ
width_of piece = sum_by columns_of (chars piece)
