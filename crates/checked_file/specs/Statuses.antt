-- The exit status of each end.
use Rattle.std.specs.Prelude.{ℕ, nat_lt, if◌then◌else◌}
use Rattle.checked_file.specs.declared.status.Status.{Status}
use Rattle.checked_file.specs.declared.status.Status.TheVariants.{Clean, Found, NotUtf8, Unparsed, Unreadable}

abbrev pub code_of : Status → ℕ
code_of Clean = 0
code_of Found = 1
code_of NotUtf8 = 3
code_of Unparsed = 4
code_of Unreadable = 5

-- the status where reports are to fail no run
abbrev pub forgiven : Status → Status
forgiven Clean = Clean
forgiven Found = Clean
forgiven NotUtf8 = NotUtf8
forgiven Unparsed = Unparsed
forgiven Unreadable = Unreadable

-- the one with the greater exit status
abbrev pub worse : Status → Status → Status
worse a b = if nat_lt (code_of a) (code_of b) then b else a
