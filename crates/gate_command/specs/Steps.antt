-- What one word adds to what the words before it ask for, or what is wrong with it.
use Rattle.std.specs.Prelude.{◌||◌, ◌++◌, true, [], ◌∷◌, Option, Some, None, Result, Ok, Err, codes, is_some, if◌then◌else◌}
use Rattle.std.specs.Str.{bytes_eq}
use Rattle.refused_word.specs.check_words.declared.fault.WordFault.TheVariants.{UnknownWord}
use Rattle.refused_word.specs.squawk_words.Words.{Text, after_dashes, begins_with_dash, name_in, value_in}
use Rattle.gate_files.specs.declared.order.Order.{Order}
use Rattle.gate_files.specs.declared.order.Order.TheVariants.{Given, Name}
use Rattle.gate_command.specs.declared.fault.Fault.{Fault}
use Rattle.gate_command.specs.declared.fault.Fault.TheVariants.{Word, UnknownOrder, NoOrder}
use Rattle.gate_command.specs.declared.request.Request.{Request}
use Rattle.gate_command.specs.declared.step.Next.{Next}
use Rattle.gate_command.specs.declared.step.Next.TheVariants.{Any, OrderValue, LinterValue, File}
use Rattle.gate_command.specs.declared.step.Reader.{Reader}

abbrev pub order_named : Text → Option Order
order_named name = if bytes_eq name (codes "given") then Some Given else if bytes_eq name (codes "name") then Some Name else None

-- a request with an order, where there is one of this name
abbrev pub order_by : Option Order → Text → Request → Result Reader Fault
order_by (Some order) value r = Ok (record { next = Any; request = record r { order = order } })
order_by None value r = Err (UnknownOrder value)

abbrev pub put_order : Text → Request → Result Reader Fault
put_order value r = order_by (order_named value) value r

-- a value that is a word of its own begins with no `-`
unfoldable pub order_value : Text → Request → Result Reader Fault
order_value word r = if begins_with_dash word then Err NoOrder else put_order word r

-- a request with one more file
abbrev pub with_file : Next → Text → Request → Reader
with_file next word r = record { next = next; request = record r { files = r.files ++ word ∷ [] } }

-- a request with one more word for the linter
abbrev pub with_linter_word : Next → Text → Request → Reader
with_linter_word next word r = record { next = next; request = record r { linter = r.linter ++ word ∷ [] } }

-- An option for the linter takes the next word as its value, but for one that has its value after `=` and for the one that takes none.
unfoldable pub after_linter_option : Text → Next
after_linter_option rest = if is_some (value_in rest) || bytes_eq rest (codes "assume-in-transaction") then Any else LinterValue

-- `--order` has its value after `=`, or else the next word is its value
abbrev pub order_word : Option Text → Request → Result Reader Fault
order_word (Some value) r = put_order value r
order_word None r = Ok (record { next = OrderValue; request = r })

-- every other option is for the linter, which knows it or refuses it
unfoldable pub valued_word : Text → Text → Request → Result Reader Fault
valued_word word rest r =
    if bytes_eq (name_in rest) (codes "order") then order_word (value_in rest) r else Ok (with_linter_word (after_linter_option rest) word r)

unfoldable pub option_word : Text → Text → Request → Result Reader Fault
option_word word rest r =
    if bytes_eq rest (codes "works") then Ok (record { next = Any; request = record r { works = true } })
    else if bytes_eq rest (codes "one-session") then Ok (record { next = Any; request = record r { one_session = true } })
    else valued_word word rest r

-- `--` alone: files follow
abbrev pub dashed_word : Text → Text → Request → Result Reader Fault
dashed_word word [] r = Ok (record { next = File; request = r })
dashed_word word (x ∷ rest) r = option_word word (x ∷ rest) r

-- what does not begin with `--` is a file, and begins with no `-`
abbrev pub plain_word : Text → Request → Result Reader Fault
plain_word word r = if begins_with_dash word then Err (Word (UnknownWord word)) else Ok (with_file Any word r)

abbrev pub word_by : Option Text → Text → Request → Result Reader Fault
word_by (Some rest) word r = dashed_word word rest r
word_by None word r = plain_word word r

unfoldable pub any_word : Text → Request → Result Reader Fault
any_word word r = word_by (after_dashes word) word r

abbrev pub step_by : Next → Text → Request → Result Reader Fault
step_by Any word r = any_word word r
step_by OrderValue word r = order_value word r
step_by LinterValue word r = Ok (with_linter_word Any word r)
step_by File word r = Ok (with_file File word r)

-- one word more, or why it is refused
unfoldable pub step : Text → Reader → Result Reader Fault
step word reader = step_by reader.next word reader.request
