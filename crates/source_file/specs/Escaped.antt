-- How a name or a message is written on a line: nothing of it can steer a terminal, and no two are written alike.
use Rattle.std.specs.Prelude.{ℕ, zero, suc, ◌-◌, ◌==◌, Bool, true, false, ◌&&◌, get_or, nat_le, nat_lt, if◌then◌else◌, List, [], ◌∷◌, ◌++◌, codes}
use Rattle.source_file.specs.Shown.{c1_escape, escape, is_c1, is_embedding, is_isolate, more_len}

-- a control character of ASCII as an escape, `\u{1b}`, all else as it is
abbrev pub escaped_byte : ℕ → List ℕ
escaped_byte byte =
    if nat_lt byte 16 then escape [] byte
    else if nat_lt byte 32 then escape (codes "1") (byte - 16)
    else if byte == 127 then escape (codes "7") 15
    else byte ∷ []

-- these bytes begin an escape: `\u{`
abbrev pub is_escape : ℕ → ℕ → ℕ → Bool
is_escape a b c = a == 92 && b == 117 && c == 123

-- a colon before a digit, which looks like the end of a name before the number of a line
abbrev pub is_number_mark : ℕ → ℕ → Bool
is_number_mark a b = a == 58 && nat_le 48 b && nat_le b 57

-- such a colon is an escape too where it is asked for
abbrev pub is_mark : Bool → ℕ → ℕ → Bool
is_mark marks a b = marks && is_number_mark a b

-- how the first of these bytes is written, where they are no such character as those below
abbrev pub mark_escaped : Bool → ℕ → ℕ → ℕ → List ℕ
mark_escaped marks a b c =
    if is_escape a b c then escape (codes "5") 12 else if is_mark marks a b then escape (codes "3") 10 else escaped_byte a

-- how the character is written that begins with these three bytes; else how the first of them is written
abbrev pub first_escaped : Bool → ℕ → ℕ → ℕ → List ℕ
first_escaped marks a b c =
    if is_c1 a b then c1_escape b
    else if is_embedding a b c then escape (codes "202") (c - 160)
    else if is_isolate a b c then escape (codes "206") (c - 160)
    else mark_escaped marks a b c

-- a text as it is written, but for so many bytes at its front
unfoldable pub escaped_after : Bool → ℕ → List ℕ → List ℕ
escaped_after marks n [] = []
escaped_after marks zero (a ∷ rest) =
    let b = get_or rest 0 0 in
    let c = get_or rest 1 0 in
    first_escaped marks a b c ++ escaped_after marks (more_len a b c) rest
escaped_after marks (suc n) (byte ∷ rest) = escaped_after marks n rest

-- a text as it is written on a line
abbrev pub escaped : List ℕ → List ℕ
escaped text = escaped_after false 0 text

-- the name of a file as it is written before the number of a line: no colon in it is followed by a digit
abbrev pub escaped_name : List ℕ → List ℕ
escaped_name name = escaped_after true 0 name
