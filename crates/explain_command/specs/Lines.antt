-- What is said of words that are refused.
use Rattle.std.specs.Prelude.{◌≡◌, ℕ, List, ◌++◌, codes}
use Rattle.refused_word.specs.check_words.declared.fault.WordFault.TheVariants.{UnknownWord}
use Rattle.refused_word.specs.lint_report.declared.code.Code.{Code}
use Rattle.refused_word.specs.lint_report.Codes.{name_of}
use Rattle.refused_word.specs.nearest_code.Nearest.{IsNearest}
use Rattle.refused_word.specs.Messages.{line_of}
use Rattle.refused_word.specs.source_file.Escaped.{escaped}
use Rattle.refused_word.specs.squawk_words.Words.{Text}

-- `error: explain: unknown rule: ban-drop-tabel; the nearest name is ban-drop-table`
abbrev pub unknown_line : Text → Code → List ℕ
unknown_line name nearest = codes "error: explain: unknown rule: " ++ escaped name ++ codes "; the nearest name is " ++ name_of nearest ++ codes "\n"

-- of a name that no rule and no hazard has: the line names the one that is nearest to the text
abbrev pub IsUnknownLine : Text → Text → List ℕ → Type 0
IsUnknownLine name text line = (nearest : Code) × IsNearest text nearest × (line ≡ unknown_line name nearest)

-- of a word that is no name
abbrev pub option_line : Text → List ℕ
option_line word = line_of (UnknownWord word)

-- of several names
abbrev pub one_name_line : List ℕ
one_name_line = codes "error: explain takes one name; --help lists what there is\n"
