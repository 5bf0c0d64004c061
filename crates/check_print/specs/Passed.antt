-- What of a file was passed over: what is for psql and no SQL, and the bodies of functions.
use Rattle.std.specs.Prelude.{ℕ, ◌==◌, if◌then◌else◌, List, [], ◌++◌, Option, Some, None, codes, decimal}
use Rattle.checked_file.specs.declared.checked.Checked.{Checked}
use Rattle.checked_file.specs.declared.checked.Passed.{Passed}
use Rattle.checked_file.specs.Files.{readable_of}
use Rattle.checked_file.specs.source_file.File.{FileValue, line_number}
use Rattle.checked_file.specs.source_file.Escaped.{escaped_name}

unfoldable pub passed_place : FileValue → Passed → List ℕ
passed_place file p = codes "note: " ++ escaped_name file.name ++ codes ":" ++ decimal (line_number file.text p.first)

-- how many bodies, where there are some
unfoldable pub passed_bodies : ℕ → List ℕ
passed_bodies n = if n == 0 then [] else codes ", function bodies: " ++ decimal n

unfoldable pub passed_counts : Passed → List ℕ
passed_counts p =
    codes ": commands of psql: " ++ decimal p.commands ++ codes ", lines of COPY data: " ++ decimal p.data_lines ++ passed_bodies p.bodies
    ++ codes "; they are read as blanks\n"

-- `note: dump.sql:5: commands of psql: 2, lines of COPY data: 40, function bodies: 1; they are read as blanks`
unfoldable pub passed_line : FileValue → Passed → List ℕ
passed_line file p = passed_place file p ++ passed_counts p

abbrev pub passed_by : FileValue → Option Passed → List ℕ
passed_by file None = []
passed_by file (Some p) = passed_line file p

-- the line of a file, where anything of it was passed over
abbrev pub passed_in : Checked → List ℕ
passed_in file = passed_by (record { name = file.name; text = readable_of file.bytes.items }) file.passed
