-- The names of options, and of their values.
use Rattle.std.specs.Prelude.{Bool, List, Option, Some, None, codes, find, if◌then◌else◌}
use Rattle.std.specs.Str.{bytes_eq}
use Rattle.code_choice.specs.squawk_words.Words.{Text}
use Rattle.check_words.specs.declared.names.Choice.{Choice}
use Rattle.check_words.specs.declared.names.Choice.TheVariants as choice
use Rattle.check_words.specs.declared.names.TheConstants.Choice as choices
use Rattle.check_words.specs.declared.names.TheConstants.Flag as flags
use Rattle.check_words.specs.declared.names.Flag.{Flag}
use Rattle.check_words.specs.declared.names.Flag.TheVariants as flag
use Rattle.check_words.specs.declared.request.Color.{Color}
use Rattle.check_words.specs.declared.request.Color.TheVariants as color
use Rattle.check_words.specs.declared.request.FailOn.{FailOn}
use Rattle.check_words.specs.declared.request.FailOn.TheVariants as fail_on
use Rattle.check_words.specs.declared.request.Format.{Format}
use Rattle.check_words.specs.declared.request.Format.TheVariants as format

-- the name of an option
unfoldable pub name_of : Choice → Text
name_of choice.Format = codes "format"
name_of choice.Color = codes "color"
name_of choice.StdinName = codes "stdin-filename"
name_of choice.Config = codes "config"
name_of choice.Baseline = codes "baseline"
name_of choice.FailOn = codes "fail-on"
name_of choice.Only = codes "only"
name_of choice.Include = codes "include"
name_of choice.Exclude = codes "exclude"
name_of choice.NonVolatile = codes "non-volatile"
name_of choice.PgMajor = codes "pg-major"
name_of choice.PgMinor = codes "pg-minor"
name_of choice.PgPatch = codes "pg-patch"

unfoldable pub flag_name : Flag → Text
flag_name flag.Quiet = codes "quiet"
flag_name flag.Statistics = codes "statistics"
flag_name flag.WriteBaseline = codes "write-baseline"
flag_name flag.Strict = codes "strict"
flag_name flag.AssumeInTransaction = codes "assume-in-transaction"
flag_name flag.NoHazards = codes "no-hazards"

-- every option that takes a value: those of `check` itself, and those that choose the linter
unfoldable pub all_choices : List Choice
all_choices = choices.ALL

-- every option that takes none
unfoldable pub all_flags : List Flag
all_flags = flags.ALL

abbrev pub is_choice_named : Text → Choice → Bool
is_choice_named name c = bytes_eq (name_of c) name

abbrev pub is_flag_named : Text → Flag → Bool
is_flag_named name f = bytes_eq (flag_name f) name

-- the options of a name
unfoldable pub choice_named : Text → Option Choice
choice_named name = find (is_choice_named name) all_choices

unfoldable pub flag_named : Text → Option Flag
flag_named name = find (is_flag_named name) all_flags

-- the values of `--format`
abbrev pub format_named : Text → Option Format
format_named name =
    if bytes_eq name (codes "text") then Some format.Text
    else if bytes_eq name (codes "concise") then Some format.Concise
    else if bytes_eq name (codes "gcc") then Some format.Gcc
    else if bytes_eq name (codes "github") then Some format.Github
    else if bytes_eq name (codes "json") then Some format.Json
    else if bytes_eq name (codes "sarif") then Some format.Sarif
    else if bytes_eq name (codes "gitlab") then Some format.Gitlab
    else None

-- the values of `--color`
abbrev pub color_named : Text → Option Color
color_named name =
    if bytes_eq name (codes "auto") then Some color.Auto
    else if bytes_eq name (codes "always") then Some color.Always
    else if bytes_eq name (codes "never") then Some color.Never
    else None

-- the values of `--fail-on`
abbrev pub fail_on_named : Text → Option FailOn
fail_on_named name =
    if bytes_eq name (codes "warning") then Some fail_on.Warning
    else if bytes_eq name (codes "never") then Some fail_on.Never
    else None
