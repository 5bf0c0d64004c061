-- The command that `clap` reads words by, and what is taken from its matches.
use Rattle.std.specs.Prelude.{◌≡◌, ◌==◌, Bool, true, false, [], ◌∷◌, Some, codes, fold, option_map, if◌then◌else◌}
use Rattle.clap.specs.Words.{App, Rule, Text, first_value, new_app, new_rule, one_text, with_rule}
use Rattle.clap.specs.declared.builder.ArgAction.TheVariants.{SetTrue}
use Rattle.clap.specs.declared.parser.matches.Found.{Found}
use Rattle.squawk_words.specs.declared.given.Given.{Given}
use Rattle.squawk_words.specs.Choices.{Said}
use Rattle.squawk_words.specs.Words.{Table, table}

-- the word does not begin with `-`, or it is `--` and at least one byte more
abbrev pub is_tidy : Text → Bool
is_tidy [] = true
is_tidy (x ∷ []) = if x == 45 then false else true
is_tidy (x ∷ y ∷ []) = if x == 45 then false else true
is_tidy (x ∷ y ∷ z ∷ rest) = if x == 45 then y == 45 else true

-- ---- the command

abbrev pub option_rule : Text → Rule
option_rule name = record (new_rule name) { long = Some name }

abbrev pub flag_rule : Text → Rule
flag_rule name = record (new_rule name) { long = Some name; action = Some SetTrue }

abbrev pub bare : App
bare = let a = new_app (codes "squawk") in record a { top = record a.top { no_binary_name = true; disable_help_flag = true } }

-- a command and one more name, which takes a value or not
abbrev pub with_name : App → Text × Bool → App
with_name a e = with_rule a (if e.1 then option_rule e.0 else flag_rule e.0)

abbrev pub app : App
app = fold with_name bare table

-- the names whose values choose rules
abbrev pub rule_names : Table
rule_names = (codes "only", true) ∷ (codes "include", true) ∷ (codes "exclude", true) ∷ []

-- the names whose values are the parts of a version
abbrev pub version_names : Table
version_names = (codes "pg-major", true) ∷ (codes "pg-minor", true) ∷ (codes "pg-patch", true) ∷ []

-- ---- the values

-- what was taken from the matches
abbrev pub said_by : Given → Said
said_by given = record {
  only = option_map (λ s. s.now) given.only;
  include = option_map (λ s. s.now) given.include;
  exclude = option_map (λ s. s.now) given.exclude;
  non_volatile = option_map (λ s. s.now) given.non_volatile;
  pg_major = option_map (λ s. s.now) given.pg_major;
  pg_minor = option_map (λ s. s.now) given.pg_minor;
  pg_patch = option_map (λ s. s.now) given.pg_patch;
  generate = option_map (λ s. s.now) given.generate;
  assume_in_transaction = given.assume_in_transaction;
  locks = given.locks;
}

-- a flag tells what was found
pub record IsFlag (found : Found) (name : Text) (flag : Bool) : Type 0 where
  pub is_set : one_text found name ≡ Some (codes "true") → flag ≡ true
  pub not_set : one_text found name ≡ Some (codes "false") → flag ≡ false

-- the values are those that were found
pub record IsGiven (found : Found) (said : Said) : Type 0 where
  pub only : said.only ≡ first_value found (codes "only")
  pub include : said.include ≡ first_value found (codes "include")
  pub exclude : said.exclude ≡ first_value found (codes "exclude")
  pub non_volatile : said.non_volatile ≡ first_value found (codes "non-volatile")
  pub pg_major : said.pg_major ≡ first_value found (codes "pg-major")
  pub pg_minor : said.pg_minor ≡ first_value found (codes "pg-minor")
  pub pg_patch : said.pg_patch ≡ first_value found (codes "pg-patch")
  pub generate : said.generate ≡ first_value found (codes "generate")
  pub assume_in_transaction : IsFlag found (codes "assume-in-transaction") said.assume_in_transaction
  pub locks : IsFlag found (codes "locks") said.locks
