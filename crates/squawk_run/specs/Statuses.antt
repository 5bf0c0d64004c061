-- The exit status, the line and the end of each status of a program that lints one text.
use Rattle.std.specs.Prelude.{ℕ, List, [], codes}
use Rattle.squawk_run.specs.declared.stop.Stop.{Stop}
use Rattle.squawk_run.specs.declared.stop.Stop.TheVariants as stop
use Rattle.squawk_run.specs.Ends.{End, Finished, Refused, Stopped}
use Rattle.squawk_run.specs.Lines.{numbered}
use Rattle.squawk_run.specs.Stops as stops
use Rattle.squawk_run.specs.declared.status.Status.{Status}
use Rattle.squawk_run.specs.declared.status.Status.TheVariants.{Clean, Found, BadArguments, NotUtf8, TooLong, Unterminated, Syntax, ReadFault, WriteFault, NoMemory}

abbrev pub of_stop : Stop → Status
of_stop stop.BadArguments = BadArguments
of_stop stop.NotUtf8 = NotUtf8
of_stop stop.TooLong = TooLong
of_stop stop.ReadFault = ReadFault
of_stop stop.WriteFault = WriteFault
of_stop stop.NoMemory = NoMemory

-- how a run with this status ended: the text was linted and what is said of it was written, the text is refused, or the run was stopped
abbrev pub end_of : Status → End
end_of Clean = Finished
end_of Found = Finished
end_of BadArguments = Stopped stop.BadArguments
end_of NotUtf8 = Stopped stop.NotUtf8
end_of TooLong = Stopped stop.TooLong
end_of (Unterminated at) = Refused
end_of (Syntax at) = Refused
end_of ReadFault = Stopped stop.ReadFault
end_of WriteFault = Stopped stop.WriteFault
end_of NoMemory = Stopped stop.NoMemory

abbrev pub code_of : Status → ℕ
code_of Clean = 0
code_of Found = 1
code_of BadArguments = 2
code_of NotUtf8 = 3
code_of TooLong = 4
code_of (Unterminated at) = 4
code_of (Syntax at) = 4
code_of ReadFault = 5
code_of WriteFault = 6
code_of NoMemory = 7

abbrev pub line_of : Status → List ℕ
line_of Clean = []
line_of Found = []
line_of BadArguments = stops.line_of stop.BadArguments
line_of NotUtf8 = stops.line_of stop.NotUtf8
line_of TooLong = stops.line_of stop.TooLong
line_of (Unterminated at) = numbered (codes "error: unterminated at ") at
line_of (Syntax at) = numbered (codes "error: syntax at ") at
line_of ReadFault = stops.line_of stop.ReadFault
line_of WriteFault = stops.line_of stop.WriteFault
line_of NoMemory = stops.line_of stop.NoMemory
