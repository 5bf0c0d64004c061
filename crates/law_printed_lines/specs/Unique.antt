-- What is printed on lines leads back to each finding.
use Rattle.std.specs.Prelude.{◌≡◌, ◌<◌, ◌^◌, All, List, length, map, ⊤}
use Rattle.check_print.specs.check_words.declared.request.Format.{Format}
use Rattle.check_print.specs.check_words.declared.request.Format.TheVariants as format
use Rattle.check_print.specs.checked_file.declared.answer.Answer.{Answer}
use Rattle.check_print.specs.checked_file.declared.answer.Answer.TheVariants.{Reports, Partial, Refused}
use Rattle.check_print.specs.checked_file.declared.checked.Checked.{Checked}
use Rattle.check_print.specs.checked_file.Files.{readable_of}
use Rattle.check_print.specs.declared.style.Style.{Style}
use Rattle.check_print.specs.Found.{all_found}
use Rattle.check_print.specs.Printed.{printed}
use Rattle.law_printed_lines.specs.Kept.{kept, kept_command}

-- a format, whatever else is asked for
abbrev pub style_in : Format → Style → Style
style_in format style = record { format = format; color = style.color; quiet = style.quiet; statistics = style.statistics }

-- where some statements of a file could not be parsed, the text as it was read is short
abbrev pub IsShortAnswer : Answer → Type 0
IsShortAnswer (Reports reports) = ⊤
IsShortAnswer (Partial p) = length (readable_of p.bytes.items) < 2 ^ 32
IsShortAnswer (Refused r) = ⊤

-- the text that can be read has less than 2^32 bytes, so that its lines and columns have few digits
pub record IsShort (file : Checked) : Type 0 where
  pub linted : length (readable_of file.bytes.items) < 2 ^ 32
  pub read : IsShortAnswer file.answer

-- Files of which the same is printed on lines that begin with the rule have the same findings, at the same places, with the same messages,
-- in the same order.
abbrev pub UniqueConcise : Type 0
UniqueConcise = (style other : Style) (files others : List Checked) → All IsShort files → All IsShort others
    → printed (style_in format.Concise style) files ≡ printed (style_in format.Concise other) others
    → map kept (all_found files) ≡ map kept (all_found others)

-- The same of lines that end with the rule.
abbrev pub UniqueGcc : Type 0
UniqueGcc = (style other : Style) (files others : List Checked) → All IsShort files → All IsShort others
    → printed (style_in format.Gcc style) files ≡ printed (style_in format.Gcc other) others
    → map kept (all_found files) ≡ map kept (all_found others)

-- The same of workflow commands, which have the lines of each finding, its columns where it is on one line, and its message with its details
-- as one text.
abbrev pub UniqueCommands : Type 0
UniqueCommands = (style other : Style) (files others : List Checked) → All IsShort files → All IsShort others
    → printed (style_in format.Github style) files ≡ printed (style_in format.Github other) others
    → map kept_command (all_found files) ≡ map kept_command (all_found others)
