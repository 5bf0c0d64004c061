-- The exit status and the line of each stop.
use Rattle.std.specs.Prelude.{ℕ, List, codes, ⊤}
use Rattle.squawk_run.specs.declared.stop.Stop.{Stop}
use Rattle.squawk_run.specs.declared.stop.Stop.TheVariants.{BadArguments, NotUtf8, TooLong, ReadFault, WriteFault, NoMemory}

abbrev pub code_of : Stop → ℕ
code_of BadArguments = 2
code_of NotUtf8 = 3
code_of TooLong = 4
code_of ReadFault = 5
code_of WriteFault = 6
code_of NoMemory = 7

abbrev pub line_of : Stop → List ℕ
line_of BadArguments = codes "error: bad arguments\n"
line_of NotUtf8 = codes "error: input is not UTF-8\n"
line_of TooLong = codes "error: text too long\n"
line_of ReadFault = codes "error: read failed\n"
line_of WriteFault = codes "error: write failed\n"
line_of NoMemory = codes "error: out of memory\n"

-- why an input is not read to its end
abbrev pub IsReadStop : Stop → Type 0
IsReadStop TooLong = ⊤
IsReadStop ReadFault = ⊤
IsReadStop NoMemory = ⊤
IsReadStop _ = ⊥
