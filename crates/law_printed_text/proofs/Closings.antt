-- What is printed after the last finding is rows.
use Rattle.std.proofs.Common.{◌≡◌, ℕ, ◌==◌, true, List, [], ◌∷◌, ◌++◌, Option, Some, None, append_assoc, codes, decimal, flat_map, refl, subst}
use Rattle.std.proofs.lemmas.Bool.{cond_both}
use Rattle.law_printed_lines.specs.check_print.declared.style.Style.{Style}
use Rattle.law_printed_lines.specs.check_print.Passed.{passed_bodies, passed_by, passed_counts, passed_in, passed_line, passed_place}
use Rattle.law_printed_lines.specs.check_print.Printed.{last_line, passed_lines, statistics}
use Rattle.law_printed_lines.specs.check_print.Statistics.{code_line, code_lines, count_of, hazard_line, rule_line}
use Rattle.law_printed_lines.specs.checked_file.declared.checked.Checked.{Checked}
use Rattle.law_printed_lines.specs.checked_file.declared.checked.Passed.{Passed}
use Rattle.law_printed_lines.specs.hazard_base.Hazards.{all_hazards}
use Rattle.law_printed_lines.specs.lint_base.Rules.{all_rules}
use Rattle.law_printed_lines.specs.lint_report.declared.code.Code.{Code}
use Rattle.law_printed_lines.specs.lint_report.declared.code.Code.TheVariants as code
use Rattle.law_printed_lines.specs.lint_report.Codes.{name_of}
use Rattle.law_printed_lines.specs.report_text.declared.closing.Counts.{Counts}
use Rattle.law_printed_lines.specs.report_text.Closing as text
use Rattle.law_printed_lines.specs.source_file.File.{FileValue}
use Rattle.law_printed_text.proofs.Heads.{name_clean}
use Rattle.law_printed_lines.proofs.Names.{code_name}
use Rattle.law_printed_text.proofs.Pieces.{decimal_clean, escaped_clean, solid}
use Rattle.law_printed_text.proofs.Rows.{IsClean, IsPiece, IsRows, back, both, front, joined, no_rows, row, word}

-- rows for each of some
rows_of_all : {A : Type 0} (f : A → List ℕ) → ((x : A) → IsRows (f x)) → (xs : List A) → IsRows (flat_map f xs)
rows_of_all f h [] = no_rows
rows_of_all f h (x ∷ xs) = joined (h x) (rows_of_all f h xs)

-- ---- what was passed over

place_piece : (file : FileValue) (p : Passed) → IsPiece (passed_place file p)
unfolding passed_place
place_piece file p = front (front (front (solid (codes "note: ") refl refl) (escaped_clean true file.name)) (word (codes ":") refl)) (decimal_clean _)

regroup : (a b t n : List ℕ) → (a ++ (b ++ t)) ++ n ≡ a ++ (b ++ (t ++ n))
regroup a b t n = simp append_assoc

bodies_clean : (n : ℕ) → IsClean (passed_bodies n)
unfolding passed_bodies
bodies_clean n =
    cond_both (n == 0) [] (codes ", function bodies: " ++ decimal n) IsClean (λ _. word [] refl) (λ _. both (word (codes ", function bodies: ") refl) (decimal_clean n))

passed_row : (file : FileValue) (p : Passed) → IsRows (passed_line file p)
unfolding passed_line passed_counts
passed_row file p =
    let before = codes ": commands of psql: " ++ decimal p.commands ++ codes ", lines of COPY data: " ++ decimal p.data_lines ++ passed_bodies p.bodies in
    let after = codes "; they are read as blanks" in
    subst IsRows (regroup (passed_place file p) before after (codes "\n"))
    (row (front (place_piece file p)
    (both (both (both (both (both (word (codes ": commands of psql: ") refl) (decimal_clean p.commands)) (word (codes ", lines of COPY data: ") refl)) (decimal_clean p.data_lines)) (bodies_clean p.bodies))
    (word (codes "; they are read as blanks") refl))))

passed_option : (file : FileValue) (p : Option Passed) → IsRows (passed_by file p)
passed_option file None = no_rows
passed_option file (Some p) = passed_row file p

passed_rows : (style : Style) (files : List Checked) → IsRows (passed_lines style files)
unfolding passed_lines
passed_rows style files =
    cond_both style.quiet [] (flat_map passed_in files) IsRows (λ _. no_rows) (λ _. rows_of_all passed_in (λ file. passed_option _ file.passed) files)

-- ---- how many reports each rule has

code_row : (c : Code) (count : ℕ) → IsRows (code_line c count)
unfolding code_line
code_row c count =
    cond_both (count == 0) [] (name_of c ++ codes ": " ++ decimal count ++ codes "\n") IsRows (λ _. no_rows)
    (λ _. row (front (back (name_clean (name_of c) (code_name c)) (solid (codes ": ") refl refl)) (decimal_clean count)))

code_rows : (files : List Checked) → IsRows (code_lines files)
unfolding code_lines
code_rows files =
    joined (rows_of_all (rule_line files) (λ r. code_row (code.Rule r) (count_of (code.Rule r) files)) all_rules)
    (rows_of_all (hazard_line files) (λ h. code_row (code.Hazard h) (count_of (code.Hazard h) files)) all_hazards)

statistics_rows : (style : Style) (files : List Checked) → IsRows (statistics style files)
unfolding statistics
statistics_rows style files = cond_both style.statistics (code_lines files) [] IsRows (λ _. code_rows files) (λ _. no_rows)

-- ---- the last line

ending_clean : (n : ℕ) → IsClean (text.ending n)
ending_clean n = cond_both (n == 1) [] (codes "s") IsClean (λ _. word [] refl) (λ _. word (codes "s") refl)

counted_clean : (n : ℕ) (noun : List ℕ) → IsClean noun → IsClean (text.counted n noun)
unfolding text.counted
counted_clean n noun c = both (both (both (decimal_clean n) (word (codes " ") refl)) c) (ending_clean n)

findings_clean : (c : Counts) → IsClean (text.findings c)
unfolding text.findings
findings_clean c =
    let issues = counted_clean c.issues (codes "issue") (word (codes "issue") refl) in
    let errors = counted_clean c.errors (codes "error") (word (codes "error") refl) in
    cond_both (c.errors == 0) (text.counted c.issues (codes "issue")) _ IsClean (λ _. issues)
    (λ _. cond_both (c.issues == 0) (text.counted c.errors (codes "error")) _ IsClean (λ _. errors) (λ _. both (both issues (word (codes " and ") refl)) errors))

marked_clean : (c : Counts) → IsClean (text.found_in c)
unfolding text.found_in
marked_clean c = cond_both (c.marked == 0) [] _ IsClean (λ _. word [] refl) (λ _. both (decimal_clean c.marked) (word (codes " of ") refl))

closing_row : (c : Counts) → IsRows (text.closing c)
closing_row c =
    row (front (front (front (front (solid (codes "Found ") refl refl) (findings_clean c)) (word (codes " in ") refl)) (marked_clean c))
    (counted_clean c.files (codes "file") (word (codes "file") refl)))

last_rows : (style : Style) (files : List Checked) → IsRows (last_line style files)
unfolding last_line
last_rows style files = cond_both style.quiet [] _ IsRows (λ _. no_rows) (λ _. closing_row _)

pub closing_rows : (style : Style) (files : List Checked) → IsRows (passed_lines style files ++ statistics style files ++ last_line style files)
closing_rows style files = joined (joined (passed_rows style files) (statistics_rows style files)) (last_rows style files)
