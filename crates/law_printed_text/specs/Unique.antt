-- What is printed for people leads back to each finding.
use Rattle.std.specs.Prelude.{◌≡◌, All, List, map}
use Rattle.law_printed_lines.specs.check_words.declared.request.Format.TheVariants as format
use Rattle.law_printed_lines.specs.checked_file.declared.checked.Checked.{Checked}
use Rattle.law_printed_lines.specs.check_print.declared.style.Style.{Style}
use Rattle.law_printed_lines.specs.check_print.Found.{all_found}
use Rattle.law_printed_lines.specs.check_print.Printed.{printed}
use Rattle.law_printed_lines.specs.Kept.{kept}
use Rattle.law_printed_lines.specs.Unique.{IsShort, style_in}

-- Files of which the same is printed in the format for people have the same findings, at the same places, with the same messages, in the
-- same order.
abbrev pub UniqueTexts : Type 0
UniqueTexts = (style other : Style) (files others : List Checked) → All IsShort files → All IsShort others
    → printed (style_in format.Text style) files ≡ printed (style_in format.Text other) others
    → map kept (all_found files) ≡ map kept (all_found others)
