-- Messages with headers.
use Rattle.std.specs.Prelude.{ℕ, ◌+◌, ◌-◌, ◌*◌, ◌≤◌, ⊤, Bool, ◌&&◌, ◌==◌, nat_le, nat_lt, List, [], ◌∷◌, ◌++◌, length, take, drop, codes, decimal, if◌then◌else◌, Some, None, Result, Ok, Err}
use Rattle.std.specs.declared.option.Option.{Option}
use Rattle.std.specs.Str.{bytes_eq}
use Rattle.memchr.specs.Find.{matches, first_of}
use Rattle.lsp_serve.specs.declared.front.Fault.{Fault}
use Rattle.lsp_serve.specs.declared.front.Fault.TheVariants.{Header, TooLong}
use Rattle.lsp_serve.specs.declared.front.Front.{Front}
use Rattle.lsp_serve.specs.declared.front.Front.TheVariants.{Partial, Whole}

-- what a header begins with, and what ends it
abbrev pub name : List ℕ
name = codes "Content-Length: "

abbrev pub blank_line : List ℕ
blank_line = 13 ∷ 10 ∷ 13 ∷ 10 ∷ []

-- what is written for a message
abbrev pub frame : List ℕ → List ℕ
frame content = name ++ decimal (length content) ++ blank_line ++ content

-- how many bytes are looked at for the end of a header
abbrev pub header_limit : ℕ
header_limit = 4096

-- how many bytes a message has at most: 64 MiB
abbrev pub content_limit : ℕ
content_limit = 67108864

-- where a header ends, at the first blank line
abbrev pub header_end : List ℕ → Option ℕ
header_end bytes = first_of (matches (take header_limit bytes) blank_line 0)

abbrev pub is_digit : ℕ → Bool
is_digit byte = nat_le 48 byte && nat_le byte 57

-- the number that digits of a line go on to write from n, or what is wrong
abbrev pub number_from : ℕ → List ℕ → Result ℕ Fault
number_from n [] = Ok n
number_from n (byte ∷ bytes) =
    if byte == 13 then Ok n
    else if is_digit byte then (
    let more = n * 10 + (byte - 48) in
    if nat_lt content_limit more then Err TooLong else number_from more bytes
    ) else Err Header

-- the number that a line begins with
abbrev pub number_at : List ℕ → Result ℕ Fault
number_at [] = Err Header
number_at (byte ∷ bytes) = if is_digit byte then number_from 0 (byte ∷ bytes) else Err Header

-- where a field that is not the first one has the length
abbrev pub later_field : List ℕ → Option ℕ
later_field header = first_of (matches header (13 ∷ 10 ∷ name) 0)

abbrev pub number_behind : List ℕ → Option ℕ → Result ℕ Fault
number_behind header None = Err Header
number_behind header (Some at) = number_at (drop (at + 18) header)

-- the length that a header has
abbrev pub length_in : List ℕ → Result ℕ Fault
length_in header = if bytes_eq (take 16 header) name then number_at (drop 16 header) else number_behind header (later_field header)

-- what some bytes begin with, where the content begins at start and has this length
abbrev pub front_by : List ℕ → ℕ → Result ℕ Fault → Result Front Fault
front_by bytes start (Err fault) = Err fault
front_by bytes start (Ok count) = if nat_lt (length bytes - start) count then Ok Partial else Ok (Whole start (start + count))

-- the same where the header ends there
abbrev pub front_at : List ℕ → Option ℕ → Result Front Fault
front_at bytes None = if nat_lt (length bytes) header_limit then Ok Partial else Err Header
front_at bytes (Some end) = front_by bytes (end + 4) (length_in (take end bytes))

-- what some bytes begin with
abbrev pub front_of : List ℕ → Result Front Fault
front_of bytes = front_at bytes (header_end bytes)

-- A message lies within the bytes.
abbrev pub LiesIn : Front → List ℕ → Type 0
LiesIn Partial bytes = ⊤
LiesIn (Whole start end) bytes = (start ≤ end) × (end ≤ length bytes)
