-- What one word adds to what the words before it ask for.
use Rattle.std.specs.Prelude.{◌||◌, ◌++◌, Bool, true, false, [], ◌∷◌, Option, Some, None, codes, is_some, if◌then◌else◌}
use Rattle.std.specs.Str.{bytes_eq}
use Rattle.refused_word.specs.squawk_words.Words.{Text, after_dashes, is_option, name_in, value_in}
use Rattle.fix_words.specs.declared.request.Request.{Request}
use Rattle.fix_words.specs.declared.step.Next.{Next}
use Rattle.fix_words.specs.declared.step.Next.TheVariants.{Any, ConfigValue, LinterValue, File}
use Rattle.fix_words.specs.declared.step.Reader.{Reader}

-- what a word leaves where it is accepted
abbrev pub after : Bool → Reader → Option Reader
after true left = Some left
after false left = None

-- a request with one more file
abbrev pub with_file : Next → Text → Request → Reader
with_file next word r = record { next = next; request = record r { files = r.files ++ word ∷ [] } }

-- a request with one more word for the linter
abbrev pub with_linter_word : Next → Text → Request → Reader
with_linter_word next word r = record { next = next; request = record r { linter = r.linter ++ word ∷ [] } }

-- a request with this configuration file
abbrev pub with_config : Text → Request → Reader
with_config value r = record { next = Any; request = record r { config = Some value } }

-- an option for the linter that takes no value
abbrev pub is_flag : Text → Bool
is_flag rest = bytes_eq rest (codes "assume-in-transaction") || bytes_eq rest (codes "no-hazards")

-- An option for the linter takes the next word as its value, but for one that has its value after `=` and for those that take none.
unfoldable pub after_linter_option : Text → Next
after_linter_option rest = if is_some (value_in rest) || is_flag rest then Any else LinterValue

-- `--config` has its value after `=`, or else the next word is its value
abbrev pub config_word : Option Text → Request → Reader
config_word (Some value) r = with_config value r
config_word None r = record { next = ConfigValue; request = r }

-- every other option is for the linter, which knows it or refuses it
unfoldable pub valued_word : Text → Text → Request → Reader
valued_word word rest r =
    if bytes_eq (name_in rest) (codes "config") then config_word (value_in rest) r else with_linter_word (after_linter_option rest) word r

-- an option, by what follows its dashes
unfoldable pub option_word : Text → Text → Request → Reader
option_word word rest r =
    if bytes_eq rest (codes "write") then record { next = Any; request = record r { write = true } }
    else if bytes_eq rest (codes "unsafe") then record { next = Any; request = record r { with_unsafe = true } }
    else valued_word word rest r

-- `--` alone: files follow
abbrev pub dashed_word : Text → Text → Request → Reader
dashed_word word [] r = record { next = File; request = r }
dashed_word word (x ∷ rest) r = option_word word (x ∷ rest) r

-- what does not begin with `--` is a file, which `-` is too, and begins with no `-`
abbrev pub plain_word : Text → Request → Option Reader
plain_word word r = if is_option word then None else Some (with_file Any word r)

-- a word, by what follows its dashes, where it has some
abbrev pub word_by : Option Text → Text → Request → Option Reader
word_by (Some rest) word r = Some (dashed_word word rest r)
word_by None word r = plain_word word r

-- a word that may be anything
unfoldable pub any_word : Text → Request → Option Reader
any_word word r = word_by (after_dashes word) word r

-- a word, by what it is to be
abbrev pub step_by : Next → Text → Request → Option Reader
step_by Any word r = any_word word r
step_by ConfigValue word r = Some (with_config word r)
step_by LinterValue word r = Some (with_linter_word Any word r)
step_by File word r = Some (with_file File word r)

-- one word more, or nothing where it is refused
unfoldable pub step : Text → Reader → Option Reader
step word reader = step_by reader.next word reader.request
