-- What edits make of a text, and where its places are then.
use Rattle.std.specs.Prelude.{ℕ, ◌+◌, ◌-◌, nat_le, if◌then◌else◌, List, [], ◌∷◌, ◌++◌, drop, length, slice_range, unwrap_or}
use Rattle.pass_concurrent.specs.lint_base.declared.edit.Edit.{Edit}

-- what an edit puts in the place of its range: its text, or nothing
abbrev pub put_by : Edit → List ℕ
put_by edit = unwrap_or edit.text []

-- the text from a place on, with each edit's range replaced by what the edit puts there; the bytes between stay
abbrev pub edited_from : List ℕ → ℕ → List Edit → List ℕ
edited_from text place [] = drop place text
edited_from text place (edit ∷ edits) =
    slice_range text place edit.text_range.start ++ (put_by edit ++ edited_from text edit.text_range.end edits)

-- the whole text, edited
abbrev pub edited : List ℕ → List Edit → List ℕ
edited text edits = edited_from text 0 edits

-- where the byte at place x is then, if no edit replaces it: the edits before it have moved it
abbrev pub place_moved : List Edit → ℕ → ℕ
place_moved [] x = x
place_moved (edit ∷ edits) x =
    if nat_le edit.text_range.end x then place_moved edits x + length (put_by edit) - (edit.text_range.end - edit.text_range.start) else x
