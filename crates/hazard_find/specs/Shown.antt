-- Words that a text shows outside of comments (PostgreSQL manual, sections 4.1.1 and 4.1.5). Marks of comments in a string count too.
use Rattle.std.specs.Prelude.{ℕ, Bool, true, false, not, ◌==◌, ◌&&◌, ◌||◌, List, [], ◌∷◌, ◌-◌, drop, take, length, slice_index, if◌then◌else◌}
use Rattle.std.specs.Str.{str_eq_ignore_ascii_case}
use Rattle.lint_ignore.specs.sql_token.Token.{is_word}
use Rattle.hazard_find.specs.declared.shown.Place.{Place}
use Rattle.hazard_find.specs.declared.shown.Place.TheVariants as place

-- ---- comments

abbrev pub after_code : ℕ → ℕ → Place
after_code before b = if before == 45 && b == 45 then place.Line else (if before == 47 && b == 42 then place.Opened else place.Code)

abbrev pub after_line : ℕ → Place
after_line b = if b == 10 then place.Code else place.Line

-- comments may have others in them: from the first of these on nothing is seen
abbrev pub after_block : ℕ → ℕ → Place
after_block before b = if before == 42 && b == 47 then place.Code else (if before == 47 && b == 42 then place.Nested else place.Block)

-- where the byte after b is, by where b is and by the byte before it
unfoldable pub place_after : Place → ℕ → ℕ → Place
place_after place.Code before b = after_code before b
place_after place.Line before b = after_line b
place_after place.Opened before b = place.Block
place_after place.Block before b = after_block before b
place_after place.Nested before b = place.Nested

abbrev pub is_code : Place → Bool
is_code place.Code = true
is_code _ = false

-- ---- words

-- the bytes begin with the word, whatever its ASCII case
unfoldable pub begins_with : List ℕ → List ℕ → Bool
begins_with word bytes = str_eq_ignore_ascii_case (take (length word) bytes) word

-- the word comes first behind that byte, and neither the byte before it nor the one behind it goes on with a word
abbrev pub comes_first : List ℕ → ℕ → List ℕ → Bool
comes_first word before bytes = not (is_word before) && begins_with word bytes && not (is_word (slice_index bytes (length word)))

-- the same outside of comments
abbrev pub shows_first : List ℕ → Place → ℕ → List ℕ → Bool
shows_first word at before bytes = is_code at && comes_first word before bytes

-- the word comes outside of comments, where the first byte is at that place, behind that byte
unfoldable pub shows_from : List ℕ → Place → ℕ → List ℕ → Bool
shows_from word at before [] = false
shows_from word at before (b ∷ bytes) =
    shows_first word at before (b ∷ bytes) || shows_from word (place_after at before b) b bytes

-- a text has the word outside of comments
abbrev pub shows : List ℕ → List ℕ → Bool
shows word text = shows_from word place.Code 0 text

-- a name without the double quotes at its ends
unfoldable pub bare : List ℕ → List ℕ
bare name = if slice_index name 0 == 34 then take (length name - 2) (drop 1 name) else name
