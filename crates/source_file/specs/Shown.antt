-- How a text is shown, so that nothing of it can steer a terminal.
use Rattle.std.specs.Prelude.{ℕ, zero, suc, ◌+◌, ◌-◌, ◌==◌, Bool, ◌&&◌, get_or, nat_le, nat_lt, if◌then◌else◌, List, [], ◌∷◌, ◌++◌, codes}

-- a tab as four blanks, no carriage return, each other control character of ASCII as its picture (U+2400 and on), all else as it is
abbrev pub shown_byte : ℕ → List ℕ
shown_byte byte =
    if byte == 9 then codes "    "
    else if byte == 13 then []
    else if nat_lt byte 32 then 226 ∷ 144 ∷ (128 + byte) ∷ []
    else if byte == 127 then 226 ∷ 144 ∷ 161 ∷ []
    else byte ∷ []

-- the UTF-8 of a C1 control character, U+0080 to U+009F
abbrev pub is_c1 : ℕ → ℕ → Bool
is_c1 a b = a == 194 && nat_le 128 b && nat_le b 159

-- the UTF-8 of a character that turns the direction of a text: U+202A to U+202E, U+2066 to U+2069
abbrev pub is_embedding : ℕ → ℕ → ℕ → Bool
is_embedding a b c = a == 226 && b == 128 && nat_le 170 c && nat_le c 174

abbrev pub is_isolate : ℕ → ℕ → ℕ → Bool
is_isolate a b c = a == 226 && b == 129 && nat_le 166 c && nat_le c 169

-- a digit of base 16
abbrev pub hex_digit : ℕ → ℕ
hex_digit n = if nat_lt n 10 then 48 + n else 87 + n

-- an escape, as Rust writes it: `\u{9b}`
abbrev pub escape : List ℕ → ℕ → List ℕ
escape first last = (92 ∷ codes "u{") ++ first ++ hex_digit last ∷ codes "}"

abbrev pub c1_escape : ℕ → List ℕ
c1_escape b = if nat_lt b 144 then escape (codes "8") (b - 128) else escape (codes "9") (b - 144)

-- how the character is shown that begins with these three bytes; else how the first of them is shown
abbrev pub first_shown : ℕ → ℕ → ℕ → List ℕ
first_shown a b c =
    if is_c1 a b then c1_escape b
    else if is_embedding a b c then escape (codes "202") (c - 160)
    else if is_isolate a b c then escape (codes "206") (c - 160)
    else shown_byte a

-- how many bytes more it shows
abbrev pub more_len : ℕ → ℕ → ℕ → ℕ
more_len a b c = if is_c1 a b then 1 else if is_embedding a b c then 2 else if is_isolate a b c then 2 else 0

-- a text as it is shown, but for so many bytes at its front
unfoldable pub shown_after : ℕ → List ℕ → List ℕ
shown_after n [] = []
shown_after zero (a ∷ rest) =
    let b = get_or rest 0 0 in
    let c = get_or rest 1 0 in
    first_shown a b c ++ shown_after (more_len a b c) rest
shown_after (suc n) (byte ∷ rest) = shown_after n rest

-- a text as it is shown
abbrev pub shown : List ℕ → List ℕ
shown text = shown_after 0 text
