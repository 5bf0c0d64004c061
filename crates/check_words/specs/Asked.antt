-- What the words after the program's name ask for.
use Rattle.std.specs.Prelude.{◌&&◌, Bool, false, List, [], ◌∷◌, Option, Some, None, Result, Ok, Err, codes, drop, slice_get, if◌then◌else◌}
use Rattle.std.specs.Str.{bytes_eq}
use Rattle.help_words.specs.Help.{asks_for_help, asks_for_version}
use Rattle.code_choice.specs.squawk_words.Words.{Text}
use Rattle.check_words.specs.declared.asked.Asked.{Asked}
use Rattle.check_words.specs.declared.asked.Asked.TheVariants.{Check, Help, Version, Refused}
use Rattle.check_words.specs.declared.fault.WordFault.{WordFault}
use Rattle.check_words.specs.declared.fault.WordFault.TheVariants as fault
use Rattle.check_words.specs.declared.request.Color.TheVariants.{Auto}
use Rattle.check_words.specs.declared.request.FailOn.TheVariants.{Warning}
use Rattle.check_words.specs.declared.request.Format.TheVariants as format
use Rattle.check_words.specs.declared.request.Request.{Request}
use Rattle.check_words.specs.declared.step.Next.{Next}
use Rattle.check_words.specs.declared.step.Next.TheVariants.{Any, Value, File}
use Rattle.check_words.specs.declared.step.Reader.{Reader}
use Rattle.check_words.specs.Steps.{is_set, step}

-- what no word asks for
abbrev pub start : Reader
start = record {
  next = Any;
  request = record {
    format = format.Text;
    color = Auto;
    stdin_name = codes "stdin";
    config = None;
    baseline = None;
    fail_on = Warning;
    quiet = false;
    statistics = false;
    write_baseline = false;
    strict = false;
    files = [];
    linter = [];
  };
}

-- `--only` says which rules there are, and the other lists which there are beside the default ones
abbrev pub are_apart : Request → Bool
are_apart r = is_set (codes "only" ∷ []) r && is_set (codes "include" ∷ codes "exclude" ∷ []) r

unfoldable pub complete : Request → Result Request WordFault
complete r = if are_apart r then Err fault.OnlyBesideLists else Ok r

-- the end, at which no value is waited for
abbrev pub ended : Next → Request → Result Request WordFault
ended (Value c) r = Err (fault.MissingValue c)
ended Any r = complete r
ended File r = complete r

abbrev pub step_then : Result Reader WordFault → (Reader → Result Request WordFault) → Result Request WordFault
step_then (Err f) next = Err f
step_then (Ok reader) next = next reader

-- the words one by one, or what is wrong with the first one that is refused
unfoldable pub read_from : Reader → List Text → Result Request WordFault
read_from reader [] = ended reader.next reader.request
read_from reader (word ∷ words) = step_then (step word reader) (λ r. read_from r words)

-- what the words after `check` ask for
abbrev pub request_of : List Text → Result Request WordFault
request_of words = read_from start words

abbrev pub by_request : Result Request WordFault → Asked
by_request (Err f) = Refused f
by_request (Ok r) = Check r

-- the first word is that of a command
abbrev pub by_command : Option Text → List Text → Asked
by_command None words = Refused fault.NoCommand
by_command (Some word) words = if bytes_eq word (codes "check") then by_request (request_of words) else Refused (fault.UnknownCommand word)

-- the words that ask for help and for the version count wherever they are
abbrev pub asked_of : List Text → Asked
asked_of words =
    if asks_for_help words then Help
    else if asks_for_version words then Version
    else by_command (slice_get words 0) (drop 1 words)

-- ---- what is wrong

abbrev pub fault_of : Result Request WordFault → Option WordFault
fault_of (Err f) = Some f
fault_of (Ok r) = None

-- what is wrong with words that come after `check`
abbrev pub fault_in : List Text → Option WordFault
fault_in words = fault_of (request_of words)
