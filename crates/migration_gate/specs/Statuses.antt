-- The end, the exit status and the line of each status.
use Rattle.std.specs.Prelude.{ℕ, List, [], codes}
use Rattle.squawk_run.specs.declared.stop.Stop.{Stop}
use Rattle.squawk_run.specs.declared.stop.Stop.TheVariants as stop
use Rattle.squawk_run.specs.Ends.{End, Finished, Refused, Stopped}
use Rattle.squawk_run.specs.Lines.{numbered}
use Rattle.squawk_run.specs.Stops as stops
use Rattle.migration_gate.specs.declared.status.GateStatus.{GateStatus}
use Rattle.migration_gate.specs.declared.status.GateStatus.TheVariants.{Accepted, Rejected, BadArguments, NotUtf8, TooLong, BadBundle, ReadFault, WriteFault, NoMemory}

-- the status of a run that was stopped
abbrev pub status_by : Stop → GateStatus
status_by stop.BadArguments = BadArguments
status_by stop.NotUtf8 = NotUtf8
status_by stop.TooLong = TooLong
status_by stop.ReadFault = ReadFault
status_by stop.WriteFault = WriteFault
status_by stop.NoMemory = NoMemory

-- the end that a status is
abbrev pub end_of : GateStatus → End
end_of Accepted = Finished
end_of Rejected = Finished
end_of (BadBundle at) = Refused
end_of BadArguments = Stopped stop.BadArguments
end_of NotUtf8 = Stopped stop.NotUtf8
end_of TooLong = Stopped stop.TooLong
end_of ReadFault = Stopped stop.ReadFault
end_of WriteFault = Stopped stop.WriteFault
end_of NoMemory = Stopped stop.NoMemory

abbrev pub code_of : GateStatus → ℕ
code_of Accepted = 0
code_of Rejected = 1
code_of (BadBundle at) = 4
code_of BadArguments = stops.code_of stop.BadArguments
code_of NotUtf8 = stops.code_of stop.NotUtf8
code_of TooLong = stops.code_of stop.TooLong
code_of ReadFault = stops.code_of stop.ReadFault
code_of WriteFault = stops.code_of stop.WriteFault
code_of NoMemory = stops.code_of stop.NoMemory

abbrev pub line_of : GateStatus → List ℕ
line_of Accepted = []
line_of Rejected = []
line_of (BadBundle at) = numbered (codes "error: bundle at ") at
line_of BadArguments = stops.line_of stop.BadArguments
line_of NotUtf8 = stops.line_of stop.NotUtf8
line_of TooLong = stops.line_of stop.TooLong
line_of ReadFault = stops.line_of stop.ReadFault
line_of WriteFault = stops.line_of stop.WriteFault
line_of NoMemory = stops.line_of stop.NoMemory
