-- What words choose: rules and settings.
use Rattle.std.specs.Prelude.{ℕ, ℤ, ◌^◌, ◌++◌, ◌&&◌, Bool, true, false, List, [], ◌∷◌, length, nat_lt, nat_le, Option, Some, None}
use Rattle.std.specs.Prelude.{codes, pos, option_map, option_and_then, if◌then◌else◌, ◌==◌, IsSome}
use Rattle.std.specs.Char.{is_ascii_digit}
use Rattle.std.specs.List.{list_all, slice_split}
use Rattle.std.specs.Str.Parse.{digits_value}
use Rattle.lint_base.specs.declared.rule.Rule.{Rule}
use Rattle.lint_base.specs.RuleNames.{rule_named}
use Rattle.lint_base.specs.RuleSets.{Rules}
use Rattle.lint_base.specs.Settings.{standard_names}
use Rattle.lint_base.specs.RuleChoice.{is_chosen, is_named, rules_that}
use Rattle.squawk_words.specs.declared.choices.Choices.{Choices}
use Rattle.squawk_words.specs.Words.{Settings, Text, has, settings_of, value_of}

-- ---- values

-- the items of a list, between its commas
abbrev pub items_of : Text → List Text
items_of list = slice_split (λ b. b == 44) list

-- each element read, or nothing where one of them cannot be read
abbrev pub each : {A B : Type 0} → (A → Option B) → List A → Option (List B)
each read [] = Some []
each read (x ∷ xs) = option_and_then (λ y. option_map (λ ys. y ∷ ys) (each read xs)) (read x)

-- the rules whose names a list has, or nothing where one of its items names no rule
abbrev pub rule_list : Text → Option (List Rule)
rule_list list = each rule_named (items_of list)

-- an item that is not empty
abbrev pub full_item : Text → Option Text
full_item item = if length item == 0 then None else Some item

-- the items of a list, or nothing where one of them is empty
abbrev pub name_list : Text → Option (List Text)
name_list list = each full_item (items_of list)

-- one to ten digits
abbrev pub is_numeral : Text → Bool
is_numeral text = nat_lt 0 (length text) && nat_le (length text) 10 && list_all is_ascii_digit text

-- a number of one to ten digits, from 0 to 2147483647
abbrev pub number : Text → Option ℤ
number text = if is_numeral text && nat_lt (digits_value 10 text) (2 ^ 31) then Some (pos (digits_value 10 text)) else None

-- how many groups of statements are to be made: a number of one to ten digits, from 0 to 100000
abbrev pub groups : Text → Option ℕ
groups text = if is_numeral text && nat_le (digits_value 10 text) 100000 then Some (digits_value 10 text) else None

-- a value read, or a default where there is none
abbrev pub read_or : {X : Type 0} → X → (Text → Option X) → Option Text → Option X
read_or default read None = Some default
read_or default read (Some text) = read text

-- ---- the choices

-- the values of the words, by their names
pub record Said : Type 0 where
  pub only : Option Text
  pub include : Option Text
  pub exclude : Option Text
  pub non_volatile : Option Text
  pub pg_major : Option Text
  pub pg_minor : Option Text
  pub pg_patch : Option Text
  pub generate : Option Text
  pub assume_in_transaction : Bool
  pub locks : Bool

-- the values of what is set
abbrev pub said_in : Settings → Said
said_in settings = record {
  only = value_of (codes "only") settings;
  include = value_of (codes "include") settings;
  exclude = value_of (codes "exclude") settings;
  non_volatile = value_of (codes "non-volatile") settings;
  pg_major = value_of (codes "pg-major") settings;
  pg_minor = value_of (codes "pg-minor") settings;
  pg_patch = value_of (codes "pg-patch") settings;
  generate = value_of (codes "generate") settings;
  assume_in_transaction = has (codes "assume-in-transaction") settings;
  locks = has (codes "locks") settings;
}

-- the values of the words, or nothing where the words are refused
abbrev pub said_of : List Text → Option Said
said_of words = option_map said_in (settings_of words)

-- the rules: exactly those of `--only` and what they stand for, or the default ones with those of `--include` and
-- without those of `--exclude`
abbrev pub rules_by : Option Text → Option Text → Option Text → Option Rules
rules_by (Some only) None None = option_map (λ rules. rules_that (is_named rules)) (rule_list only)
rules_by (Some only) include exclude = None
rules_by None include exclude =
    option_and_then (λ included. option_map (λ excluded. rules_that (is_chosen included excluded)) (read_or [] rule_list exclude))
    (read_or [] rule_list include)

-- the names that count as not volatile
abbrev pub names_by : Option Text → Option (List Text)
names_by list = option_map (λ names. standard_names ++ names) (read_or [] name_list list)

-- the version: major, minor, patch
abbrev pub version_by : Option Text → Option Text → Option Text → Option (List ℤ)
version_by major minor patch =
    option_and_then (λ a. option_and_then (λ b. option_map (λ c. a ∷ b ∷ c ∷ []) (read_or (pos 0) number patch))
    (read_or (pos 0) number minor)) (read_or (pos 15) number major)

-- how many groups of statements are asked for, if any are; never beside the locks, which are those of a text that is read
abbrev pub groups_by : Bool → Option Text → Option (Option ℕ)
groups_by locks None = Some None
groups_by true (Some text) = None
groups_by false (Some text) = option_map (λ n. Some n) (groups text)

-- the choices, or nothing where one of the values cannot be read
abbrev pub choices_by : Said → Option Choices
choices_by said =
    option_and_then (λ version. option_and_then (λ generate. option_and_then (λ names. option_map (λ rules. record {
      rules = rules;
      settings = record { pg_version = version; assume_in_transaction = said.assume_in_transaction; non_volatile = names };
      locks = said.locks;
      generate = generate;
    }) (rules_by said.only said.include said.exclude)) (names_by said.non_volatile)) (groups_by said.locks said.generate))
    (version_by said.pg_major said.pg_minor said.pg_patch)

-- what words choose, or nothing where they are refused
abbrev pub choices_of : List Text → Option Choices
choices_of words = option_and_then choices_by (said_of words)

-- the words are accepted
abbrev pub IsAccepted : List Text → Type 0
IsAccepted words = IsSome (choices_of words)
