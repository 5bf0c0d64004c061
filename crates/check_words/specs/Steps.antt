-- What one word adds to what the words before it ask for, or what is wrong with it.
use Rattle.std.specs.Prelude.{◌++◌, Bool, true, false, List, [], ◌∷◌, Option, Some, None, Result, Ok, Err, codes, is_none, is_some, if◌then◌else◌}
use Rattle.code_choice.specs.Choices.{code_choices_of}
use Rattle.code_choice.specs.lint_report.Codes.{code_named}
use Rattle.code_choice.specs.squawk_run.ForeignWords.{has_foreign_word}
use Rattle.code_choice.specs.squawk_words.Choices.{items_of}
use Rattle.code_choice.specs.squawk_words.Words.{Text, after_dashes, begins_with_dash, is_option, name_in, value_in}
use Rattle.check_words.specs.declared.fault.WordFault.{WordFault}
use Rattle.check_words.specs.declared.fault.WordFault.TheVariants as fault
use Rattle.check_words.specs.declared.names.Choice.{Choice}
use Rattle.check_words.specs.declared.names.Choice.TheVariants as choice
use Rattle.check_words.specs.declared.names.Flag.{Flag}
use Rattle.check_words.specs.declared.names.Flag.TheVariants.{Quiet, Statistics, WriteBaseline, Strict, AssumeInTransaction, NoHazards}
use Rattle.check_words.specs.declared.request.Request.{Request}
use Rattle.check_words.specs.declared.step.Next.{Next}
use Rattle.check_words.specs.declared.step.Next.TheVariants.{Any, Value, File}
use Rattle.check_words.specs.declared.step.Reader.{Reader}
use Rattle.check_words.specs.Names.{choice_named, color_named, fail_on_named, flag_named, format_named, name_of}

-- what a word leaves where nothing is wrong with it
abbrev pub after : {X : Type 0} → Option WordFault → X → Result X WordFault
after None left = Ok left
after (Some f) left = Err f

-- ---- what is set of `check` itself

-- a request into which a value is put, where the option has this value
abbrev pub put_into : {X : Type 0} → (X → Request) → Choice → Text → Option X → Result Request WordFault
put_into put c value None = Err (fault.UnknownValue c value)
put_into put c value (Some x) = Ok (put x)

abbrev pub with_format : Text → Request → Result Request WordFault
with_format value r = put_into (λ f. record r { format = f }) choice.Format value (format_named value)

abbrev pub with_color : Text → Request → Result Request WordFault
with_color value r = put_into (λ c. record r { color = c }) choice.Color value (color_named value)

abbrev pub with_fail_on : Text → Request → Result Request WordFault
with_fail_on value r = put_into (λ f. record r { fail_on = f }) choice.FailOn value (fail_on_named value)

abbrev pub with_stdin_name : Text → Request → Request
with_stdin_name value r = record r { stdin_name = value }

abbrev pub with_config : Text → Request → Request
with_config value r = record r { config = Some value }

abbrev pub with_baseline : Text → Request → Request
with_baseline value r = record r { baseline = Some value }

-- ---- what chooses the linter

-- `--only=ban-drop-table`
abbrev pub linter_word : Choice → Text → Text
linter_word c value = codes "--" ++ name_of c ++ codes "=" ++ value

abbrev pub with_linter_word : Text → Request → Request
with_linter_word word r = record r { linter = r.linter ++ word ∷ [] }

-- an option of one of these names is set
abbrev pub is_set : List Text → Request → Bool
is_set names r = has_foreign_word names r.linter

-- the first of these that names neither a rule nor a hazard
unfoldable pub first_unknown : List Text → Text
first_unknown [] = []
first_unknown (item ∷ items) = if is_none (code_named item) then item else first_unknown items

-- what is wrong with a value that the linter does not take
abbrev pub value_fault : Choice → Text → WordFault
value_fault choice.Only value = fault.UnknownRule choice.Only (first_unknown (items_of value))
value_fault choice.Include value = fault.UnknownRule choice.Include (first_unknown (items_of value))
value_fault choice.Exclude value = fault.UnknownRule choice.Exclude (first_unknown (items_of value))
value_fault choice.NonVolatile value = fault.EmptyName choice.NonVolatile
value_fault c value = fault.NotNumber c value

-- set once, to a value that the linter takes
abbrev pub set_once : Bool → Bool → Choice → Text → Request → Result Request WordFault
set_once true taken c value r = Err (fault.Twice c)
set_once false true c value r = Ok (with_linter_word (linter_word c value) r)
set_once false false c value r = Err (value_fault c value)

unfoldable pub with_linter_option : Choice → Text → Request → Result Request WordFault
with_linter_option c value r = set_once (is_set (name_of c ∷ []) r) (is_some (code_choices_of (linter_word c value ∷ []))) c value r

-- ---- options

-- a request with an option set, where the option has this value
unfoldable pub set : Choice → Text → Request → Result Request WordFault
set choice.Format value r = with_format value r
set choice.Color value r = with_color value r
set choice.FailOn value r = with_fail_on value r
set choice.StdinName value r = Ok (with_stdin_name value r)
set choice.Config value r = Ok (with_config value r)
set choice.Baseline value r = Ok (with_baseline value r)
set c value r = with_linter_option c value r

-- a word of the linter that takes no value is there once
abbrev pub with_linter_flag : Text → Text → Request → Request
with_linter_flag name word r = if is_set (name ∷ []) r then r else with_linter_word word r

-- a request with an option set that takes no value
abbrev pub with_flag : Flag → Request → Request
with_flag Quiet r = record r { quiet = true }
with_flag Statistics r = record r { statistics = true }
with_flag WriteBaseline r = record r { write_baseline = true }
with_flag Strict r = record r { strict = true }
with_flag AssumeInTransaction r = with_linter_flag (codes "assume-in-transaction") (codes "--assume-in-transaction") r
with_flag NoHazards r = with_linter_flag (codes "no-hazards") (codes "--no-hazards") r

-- a request after which any word may follow
abbrev pub then_any : Result Request WordFault → Result Reader WordFault
then_any (Err f) = Err f
then_any (Ok r) = Ok (record { next = Any; request = r })

-- a request with one more file
abbrev pub with_file : Next → Text → Request → Reader
with_file next word r = record { next = next; request = record r { files = r.files ++ word ∷ [] } }

-- ---- one word

-- an option has its value after `=`, or else the next word is its value
abbrev pub choice_word : Choice → Option Text → Request → Result Reader WordFault
choice_word c (Some value) r = then_any (set c value r)
choice_word c None r = Ok (record { next = Value c; request = r })

abbrev pub valued_by : Option Choice → Text → Text → Request → Result Reader WordFault
valued_by (Some c) word rest r = choice_word c (value_in rest) r
valued_by None word rest r = Err (fault.UnknownWord word)

unfoldable pub valued_word : Text → Text → Request → Result Reader WordFault
valued_word word rest r = valued_by (choice_named (name_in rest)) word rest r

-- an option that takes no value has none after `=`
abbrev pub flag_word : Flag → Option Text → Request → Result Reader WordFault
flag_word flag (Some value) r = Err (fault.TakesNoValue flag)
flag_word flag None r = Ok (record { next = Any; request = with_flag flag r })

abbrev pub option_by : Option Flag → Text → Text → Request → Result Reader WordFault
option_by (Some flag) word rest r = flag_word flag (value_in rest) r
option_by None word rest r = valued_word word rest r

unfoldable pub option_word : Text → Text → Request → Result Reader WordFault
option_word word rest r = option_by (flag_named (name_in rest)) word rest r

-- `--` alone: files follow
abbrev pub dashed_word : Text → Text → Request → Result Reader WordFault
dashed_word word [] r = Ok (record { next = File; request = r })
dashed_word word (x ∷ rest) r = option_word word (x ∷ rest) r

-- what does not begin with `--` is a file, which `-` is too, and begins with no `-`
abbrev pub plain_word : Text → Request → Result Reader WordFault
plain_word word r = if is_option word then Err (fault.UnknownWord word) else Ok (with_file Any word r)

abbrev pub word_by : Option Text → Text → Request → Result Reader WordFault
word_by (Some rest) word r = dashed_word word rest r
word_by None word r = plain_word word r

unfoldable pub any_word : Text → Request → Result Reader WordFault
any_word word r = word_by (after_dashes word) word r

-- a value that is a word of its own begins with no `-`
unfoldable pub value_word : Choice → Text → Request → Result Reader WordFault
value_word c word r = if begins_with_dash word then Err (fault.MissingValue c) else then_any (set c word r)

abbrev pub step_by : Next → Text → Request → Result Reader WordFault
step_by Any word r = any_word word r
step_by (Value c) word r = value_word c word r
step_by File word r = Ok (with_file File word r)

-- one word more, or why it is refused
unfoldable pub step : Text → Reader → Result Reader WordFault
step word reader = step_by reader.next word reader.request
