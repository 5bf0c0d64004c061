-- Parts of a text, each with the place where it begins.
use Rattle.std.specs.Prelude.{ℕ, ◌+◌, ◌-◌, List, [], ◌∷◌, take, drop, length, ◌==◌, ◌&&◌, slice_index, Option, Some, None, if◌then◌else◌}
use Rattle.std.specs.Str.{trim, trim_start, trim_end}
use Rattle.sql_tree.specs.text_pos.Range.{Range}
use Rattle.lint_ignore.specs.declared.part.Part.{Part as Kept}

-- the bytes of a part of a text, the first of which is at `at`
pub record Part : Type 0 where
  pub at : ℕ
  pub bytes : List ℕ

-- the part that the program keeps
abbrev pub part_of : Kept → Part
part_of kept = record { at = kept.at; bytes = kept.text.now }

abbrev pub range_of : Part → Range
range_of p = record { start = p.at; end = p.at + length p.bytes }

-- without its first n bytes
abbrev pub part_after : ℕ → Part → Part
part_after n p = record { at = p.at + n; bytes = drop n p.bytes }

-- the first n bytes
abbrev pub part_before : ℕ → Part → Part
part_before n p = record { at = p.at; bytes = take n p.bytes }

-- without white space at its end
abbrev pub trimmed_end : Part → Part
trimmed_end p = record { at = p.at; bytes = trim_end p.bytes }

-- without white space at both ends; a part of white space alone is trimmed to nothing, at its end
abbrev pub trimmed : Part → Part
trimmed p = record { at = p.at + (length p.bytes - length (trim_start p.bytes)); bytes = trim p.bytes }

-- the bytes before the first `--`
abbrev pub before_dashes : List ℕ → List ℕ
before_dashes [] = []
before_dashes (b ∷ bs) = (if b == 45 && slice_index bs 0 == 45 then [] else b ∷ before_dashes bs)

abbrev pub part_before_dashes : Part → Part
part_before_dashes p = record { at = p.at; bytes = before_dashes p.bytes }

-- the first piece begins one byte earlier, with b
abbrev pub with_prefix : ℕ → ℕ → List Part → List Part
with_prefix at b [] = []
with_prefix at b (p ∷ ps) = record { at = at; bytes = b ∷ p.bytes } ∷ ps

-- the pieces between the commas of some bytes, the first of which is at `at`
abbrev pub parts_from : ℕ → List ℕ → List Part
parts_from at [] = record { at = at; bytes = [] } ∷ []
parts_from at (b ∷ bs) =
    (if b == 44 then record { at = at; bytes = [] } ∷ parts_from (at + 1) bs else with_prefix at b (parts_from (at + 1) bs))

abbrev pub comma_parts : Part → List Part
comma_parts p = parts_from p.at p.bytes

-- the pieces of what is left, if anything is
abbrev pub parts_left : Option Kept → List Part
parts_left None = []
parts_left (Some kept) = comma_parts (part_of kept)
