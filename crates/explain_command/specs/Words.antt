-- The text that the words after the program's name ask for.
use Rattle.std.specs.Prelude.{◌≡◌, ◌==◌, ℕ, List, [], ◌∷◌, Option, Some, None, chars, codes, drop, encode_utf8_all, find, map, option_map, if◌then◌else◌}
use Rattle.std.specs.Char.{to_ascii_lowercase}
use Rattle.std.specs.Str.{bytes_eq}
use Rattle.refused_word.specs.help_words.Help.{asks_for_help}
use Rattle.refused_word.specs.lint_base.declared.rule.Rule.TheVariants as rule
use Rattle.refused_word.specs.lint_report.declared.code.Code.{Code}
use Rattle.refused_word.specs.lint_report.declared.code.Code.TheVariants as code
use Rattle.refused_word.specs.lint_report.Codes.{code_named}
use Rattle.rule_pages.specs.declared.list.TheConstants.{RULE_LIST}
use Rattle.rule_pages.specs.Pages.{code_page_of}
use Rattle.refused_word.specs.squawk_words.Words.{Text, begins_with_dash}
use Rattle.explain_command.specs.declared.help.TheConstants.{HELP}
use Rattle.explain_command.specs.Lines.{IsUnknownLine, one_name_line, option_line}

-- ---- one name

-- a character as the names have it: `_` is `-`, and a capital letter of ASCII is the small one
abbrev pub folded_char : ℕ → ℕ
folded_char c = if c == 95 then 45 else to_ascii_lowercase c

-- a text as the names have it
abbrev pub folded : Text → Text
folded name = encode_utf8_all (map folded_char (chars name))

-- the rule or the hazard of a text, also of the rule that ignore comments and options can't name
abbrev pub explained : Text → Option Code
explained text = if bytes_eq text (codes "unused-ignore") then Some (code.Rule rule.UnusedIgnore) else code_named text

unfoldable pub page_named : Text → Option (List ℕ)
page_named name = option_map code_page_of (explained (folded name))

-- ---- words

-- the first of the words that is an option, which no name is
abbrev pub first_option : List Text → Option Text
first_option words = find begins_with_dash words

-- the list without a name, a page for one, and nothing for more
abbrev pub text_of_names : List Text → Option (List ℕ)
text_of_names [] = Some RULE_LIST.now
text_of_names (name ∷ []) = page_named name
text_of_names (name ∷ other ∷ rest) = None

abbrev pub text_by : Option Text → List Text → Option (List ℕ)
text_by (Some word) words = None
text_by None words = text_of_names words

abbrev pub text_after : List Text → Option (List ℕ)
text_after words = text_by (first_option words) words

-- `--help` and `-h` count wherever they are
abbrev pub text_of : List Text → Option (List ℕ)
text_of words = if asks_for_help words then Some HELP.now else text_after (drop 1 words)

-- ---- why words ask for no text

-- The line about names of which there is no page.
abbrev pub IsLineOfNames : List Text → List ℕ → Type 0
IsLineOfNames [] line = ⊥
IsLineOfNames (name ∷ []) line = IsUnknownLine name (folded name) line
IsLineOfNames (name ∷ other ∷ rest) line = line ≡ one_name_line

abbrev pub IsLineBy : Option Text → List Text → List ℕ → Type 0
IsLineBy (Some word) words line = line ≡ option_line word
IsLineBy None words line = IsLineOfNames words line

-- The line about the words after the first: an option, several names, or a name of no rule and no hazard.
abbrev pub IsLineAbout : List Text → List ℕ → Type 0
IsLineAbout words line = IsLineBy (first_option words) words line

-- the words ask for no text, and the line says why
abbrev pub IsRefusedFor : List Text → List ℕ → Type 0
IsRefusedFor words line = (text_of words ≡ None) × IsLineAbout (drop 1 words) line

-- the same of names alone
abbrev pub AreRefused : List Text → List ℕ → Type 0
AreRefused names line = (text_of_names names ≡ None) × IsLineOfNames names line
