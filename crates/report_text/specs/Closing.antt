-- The last line, which counts.
use Rattle.std.specs.Prelude.{ℕ, ◌==◌, if◌then◌else◌, List, [], ◌++◌, codes, decimal}
use Rattle.report_text.specs.declared.closing.Counts.{Counts}

-- the ending of a word for a number of things
abbrev pub ending : ℕ → List ℕ
ending n = if n == 1 then [] else codes "s"

-- `1 file`, `4 files`
unfoldable pub counted : ℕ → List ℕ → List ℕ
counted n word = decimal n ++ codes " " ++ word ++ ending n

-- `3 issues`, `1 error` or `3 issues and 1 error`
unfoldable pub findings : Counts → List ℕ
findings c =
    if c.errors == 0 then counted c.issues (codes "issue")
    else if c.issues == 0 then counted c.errors (codes "error")
    else counted c.issues (codes "issue") ++ codes " and " ++ counted c.errors (codes "error")

-- `2 of `, where anything was found
unfoldable pub found_in : Counts → List ℕ
found_in c = if c.marked == 0 then [] else decimal c.marked ++ codes " of "

-- `Found 3 issues and 1 error in 2 of 4 files`; `Found 0 issues in 4 files`
abbrev pub closing : Counts → List ℕ
closing c = codes "Found " ++ findings c ++ codes " in " ++ found_in c ++ counted c.files (codes "file") ++ codes "\n"
