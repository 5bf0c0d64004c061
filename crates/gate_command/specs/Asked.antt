-- What the words after the program's name ask for.
use Rattle.std.specs.Prelude.{false, List, [], ◌∷◌, Result, Ok, Err, drop, if◌then◌else◌}
use Rattle.refused_word.specs.help_words.Help.{asks_for_help}
use Rattle.refused_word.specs.squawk_words.Words.{Text}
use Rattle.gate_files.specs.declared.order.Order.TheVariants.{Given}
use Rattle.gate_command.specs.declared.asked.Asked.{Asked}
use Rattle.gate_command.specs.declared.asked.Asked.TheVariants.{Gate, Help, Refused}
use Rattle.gate_command.specs.declared.fault.Fault.{Fault}
use Rattle.gate_command.specs.declared.fault.Fault.TheVariants.{Linter, NoOrder}
use Rattle.gate_command.specs.declared.request.Request.{Request}
use Rattle.gate_command.specs.declared.step.Next.{Next}
use Rattle.gate_command.specs.declared.step.Next.TheVariants.{Any, OrderValue, LinterValue, File}
use Rattle.gate_command.specs.declared.step.Reader.{Reader}
use Rattle.gate_command.specs.Steps.{step}

-- what no word asks for
abbrev pub start : Reader
start = record { next = Any; request = record { order = Given; works = false; one_session = false; files = []; linter = [] } }

-- the end, at which no value is waited for
abbrev pub ended : Next → Request → Asked
ended Any r = Gate r
ended File r = Gate r
ended OrderValue r = Refused NoOrder
ended LinterValue r = Refused (Linter r.linter)

abbrev pub step_then : Result Reader Fault → (Reader → Asked) → Asked
step_then (Err fault) next = Refused fault
step_then (Ok reader) next = next reader

-- the words one by one, up to the first one that is refused
unfoldable pub read_from : Reader → List Text → Asked
read_from reader [] = ended reader.next reader.request
read_from reader (word ∷ words) = step_then (step word reader) (λ r. read_from r words)

-- what the words after `gate` ask for
abbrev pub request_of : List Text → Asked
request_of words = read_from start words

-- the words that ask for help count wherever they are
abbrev pub asked_of : List Text → Asked
asked_of words = if asks_for_help words then Help else request_of (drop 1 words)
