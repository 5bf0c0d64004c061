-- The exit status and the line of each end of a server.
use Rattle.std.specs.Prelude.{ℕ, List, codes, Option, Some, None, true, false}
use Rattle.lsp_serve.specs.declared.front.Fault.TheVariants.{Header, TooLong}
use Rattle.lsp_serve.specs.declared.reader.FrameError.{FrameError}
use Rattle.lsp_serve.specs.declared.reader.FrameError.TheVariants as frame
use Rattle.lsp_serve.specs.declared.end.End.{End}
use Rattle.lsp_serve.specs.declared.end.End.TheVariants.{Exited, EndOfInput, BadFrame, CutOff, ReadFault, WriteFault, NoMemory}
use Rattle.lsp_read.specs.lsp_session.declared.stage.Stage.{Stage}
use Rattle.lsp_read.specs.lsp_session.declared.stage.Stage.TheVariants.{Fresh, Running, Down, Gone}

-- the exit status of an end
abbrev pub code_of : End → ℕ
code_of (Exited true) = 0
code_of (Exited false) = 1
code_of EndOfInput = 1
code_of (BadFrame Header) = 3
code_of (BadFrame TooLong) = 4
code_of CutOff = 4
code_of ReadFault = 5
code_of WriteFault = 6
code_of NoMemory = 7

-- the line of an end on the error sink
abbrev pub line_of : End → List ℕ
line_of (Exited true) = codes ""
line_of (Exited false) = codes "error: exit without shutdown\n"
line_of EndOfInput = codes "error: input ended without exit\n"
line_of (BadFrame Header) = codes "error: no header\n"
line_of (BadFrame TooLong) = codes "error: message too long\n"
line_of CutOff = codes "error: input ends within a message\n"
line_of ReadFault = codes "error: read failed\n"
line_of WriteFault = codes "error: write failed\n"
line_of NoMemory = codes "error: out of memory\n"

-- the end that an error of the reader is
abbrev pub end_of : FrameError → End
end_of (frame.Fault fault) = BadFrame fault
end_of frame.CutOff = CutOff
end_of frame.ReadFault = ReadFault
end_of frame.NoMemory = NoMemory

-- how a server ends at a stage, if it does
abbrev pub exit_at : Stage → Option End
exit_at Fresh = None
exit_at Running = None
exit_at Down = None
exit_at (Gone in_order) = Some (Exited in_order)
