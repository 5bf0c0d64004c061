-- No two different lists of reports are printed alike for programs.
use Rattle.std.specs.Prelude.{◌≡◌, All, Bool, List, map}
use Rattle.law_printed_lines.specs.check_words.declared.request.Format.{Format}
use Rattle.law_printed_lines.specs.check_words.declared.request.Format.TheVariants as format
use Rattle.law_printed_lines.specs.checked_file.declared.checked.Checked.{Checked}
use Rattle.law_printed_lines.specs.checked_file.Sound.{IsSound}
use Rattle.law_printed_lines.specs.check_print.declared.style.Style.{Style}
use Rattle.law_printed_lines.specs.check_print.Found.{all_found}
use Rattle.law_printed_lines.specs.check_print.Printed.{printed}
use Rattle.law_printed_arrays.specs.Kept.{all_reported, kept_finding, kept_issue}

-- a format, whatever else is asked for
abbrev pub style_in : Format → Bool → Bool → Bool → Style
style_in format color quiet statistics = record { format = format; color = color; quiet = quiet; statistics = statistics }

-- of files the same is reported: the same reports, field by field, and the same refusals, of files of the same names, in the same order
abbrev pub HaveSameReports : List Checked → List Checked → Type 0
HaveSameReports files others = all_reported files ≡ all_reported others

-- what is printed of their findings is the same, lines and columns among it
abbrev pub HaveSameFindings : List Checked → List Checked → Type 0
HaveSameFindings files others = map kept_finding (all_found files) ≡ map kept_finding (all_found others)

-- Sound files of which the same is printed in a format have the same reports, and the same findings.
abbrev pub IsUnique : Format → Type 0
IsUnique form = (color quiet statistics : Bool) (files others : List Checked) → All IsSound files → All IsSound others
    → printed (style_in form color quiet statistics) files ≡ printed (style_in form color quiet statistics) others
    → HaveSameReports files others × HaveSameFindings files others

-- The same of GitLab's format for what it keeps: no columns, no ends, no notes, helps and fixes.
abbrev pub UniqueIssues : Type 0
UniqueIssues = (color quiet statistics : Bool) (files others : List Checked) → All IsSound files → All IsSound others
    → printed (style_in format.Gitlab color quiet statistics) files ≡ printed (style_in format.Gitlab color quiet statistics) others
    → map kept_issue (all_found files) ≡ map kept_issue (all_found others)
