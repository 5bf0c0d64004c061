-- What is said of words that are refused.
use Rattle.std.specs.Prelude.{ℕ, List, [], ◌++◌, None, Option, Some, codes, if◌then◌else◌}
use Rattle.std.specs.Str.{bytes_eq}
use Rattle.check_words.specs.declared.fault.WordFault.{WordFault}
use Rattle.check_words.specs.declared.fault.WordFault.TheVariants.{NoCommand, UnknownCommand, UnknownWord, MissingValue, TakesNoValue, UnknownValue, UnknownRule, EmptyName, NotNumber, Twice, OnlyBesideLists}
use Rattle.check_words.specs.declared.names.Choice.{Choice}
use Rattle.check_words.specs.declared.names.Choice.TheVariants as choice
use Rattle.check_words.specs.Asked.{fault_in}
use Rattle.check_words.specs.Names.{flag_name, name_of}
use Rattle.nearest_code.specs.lint_report.declared.code.Code.{Code}
use Rattle.nearest_code.specs.lint_report.Codes as reports
use Rattle.nearest_code.specs.Nearest.{near_code}
use Rattle.shown_words.specs.Shown.{words_part}
use Rattle.report_lines.specs.source_file.Escaped.{escaped}
use Rattle.shown_words.specs.squawk_words.Words.{Text}

-- of a word that there isn't
abbrev pub help_hint : Text
help_hint = codes "; --help lists what there is"

abbrev pub unknown_word : Text → Text → Text
unknown_word what word = what ++ word ++ help_hint

-- of the option of a name: `--format: its value is missing`
abbrev pub of_flag : Text → Text → Text
of_flag name what = codes "--" ++ name ++ codes ": " ++ what

abbrev pub of_choice : Choice → Text → Text
of_choice c what = of_flag (name_of c) what

-- the values that an option has
abbrev pub values_of : Choice → Text
values_of choice.Format = codes "; one of text, concise, gcc, github, json, sarif, gitlab"
values_of choice.Color = codes "; one of auto, always, never"
values_of choice.FailOn = codes "; one of warning, never"
values_of c = []

-- the name that may be meant, but for the one that no option can have
abbrev pub suggestion : Text → Text
suggestion name = if bytes_eq name (codes "unused-ignore") then [] else codes "; did you mean " ++ name ++ codes "?"

abbrev pub suggestion_by : Option Code → Text
suggestion_by None = []
suggestion_by (Some code) = suggestion (reports.name_of code)

unfoldable pub message_of : WordFault → Text
message_of NoCommand = unknown_word (codes "no command") []
message_of (UnknownCommand word) = unknown_word (codes "unknown command: ") word
message_of (UnknownWord word) = unknown_word (codes "unknown word: ") word
message_of (MissingValue c) = of_choice c (codes "its value is missing")
message_of (TakesNoValue flag) = of_flag (flag_name flag) (codes "it takes no value")
message_of (UnknownValue c value) = of_choice c (codes "unknown value: " ++ value ++ values_of c)
message_of (UnknownRule c name) = of_choice c (codes "unknown rule: " ++ name ++ suggestion_by (near_code 3 name))
message_of (EmptyName c) = of_choice c (codes "an empty name")
message_of (NotNumber c value) = of_choice c (codes "not a number from 0 to 2147483647: " ++ value)
message_of (Twice c) = of_choice c (codes "it is given twice")
message_of OnlyBesideLists = of_choice choice.Only (codes "not beside --include or --exclude")

-- the line, as it is shown
abbrev pub line_of : WordFault → List ℕ
line_of fault = codes "error: " ++ escaped (message_of fault) ++ codes "\n"

-- ---- of words that a command other than `check` refuses

-- words that `check` takes
abbrev pub not_taken_line : List Text → List ℕ
not_taken_line words = codes "error: not taken here:" ++ words_part words ++ codes "\n"

abbrev pub line_about : List Text → Option WordFault → List ℕ
line_about words None = not_taken_line words
line_about words (Some fault) = line_of fault

-- what `check` finds wrong with them, or else that they are not taken here
abbrev pub words_line : List Text → List ℕ
words_line words = line_about words (fault_in words)
