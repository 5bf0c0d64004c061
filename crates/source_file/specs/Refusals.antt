-- The name, the message and the place of each refusal.
use Rattle.std.specs.Prelude.{ℕ, Bool, true, false, List, codes}
use Rattle.source_file.specs.declared.refusal.Refusal.{Refusal}
use Rattle.source_file.specs.declared.refusal.Refusal.TheVariants.{Missing, Unreadable, NotUtf8, TooLong, Unterminated, Syntax}

abbrev pub name_of : Refusal → List ℕ
name_of Missing = codes "missing-file"
name_of Unreadable = codes "unreadable-file"
name_of (NotUtf8 at) = codes "not-utf8"
name_of TooLong = codes "text-too-long"
name_of (Unterminated at) = codes "unterminated"
name_of (Syntax at) = codes "syntax-error"

abbrev pub message_of : Refusal → List ℕ
message_of Missing = codes "there is no such file"
message_of Unreadable = codes "the file can't be read"
message_of (NotUtf8 at) = codes "the file is not UTF-8"
message_of TooLong = codes "the file has 2^32 bytes or more"
message_of (Unterminated at) = codes "what begins here does not end"
message_of (Syntax at) = codes "the statement that begins here can't be read"

-- it has a place in the text of the file; of the others no text was read
abbrev pub has_place : Refusal → Bool
has_place Missing = false
has_place Unreadable = false
has_place (NotUtf8 at) = true
has_place TooLong = false
has_place (Unterminated at) = true
has_place (Syntax at) = true

-- its own place, or the start of the file
abbrev pub place_of : Refusal → ℕ
place_of Missing = 0
place_of Unreadable = 0
place_of (NotUtf8 at) = at
place_of TooLong = 0
place_of (Unterminated at) = at
place_of (Syntax at) = at
