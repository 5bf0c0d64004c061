-- Blocks of text in Markdown, which show it as it is.
use Rattle.std.specs.Prelude.{ℕ, suc, List, [], ◌∷◌, ◌+◌, ◌++◌, codes, max, nat_eq, if◌then◌else◌}
use Rattle.std.specs.List.{repeat}

-- the length of the longest run of backticks in a text, where so many come right before it
unfoldable pub longest_run : ℕ → List ℕ → ℕ
longest_run run [] = run
longest_run run (byte ∷ bytes) = if nat_eq byte 96 then longest_run (suc run) bytes else max run (longest_run 0 bytes)

-- A fence is longer than any run of backticks in the text, so that no line of the text ends the block.
unfoldable pub fence : List ℕ → List ℕ
fence text = repeat (max 3 (longest_run 0 text + 1)) (codes "`")

-- a text of whole lines as a block
unfoldable pub block : List ℕ → List ℕ
block text = fence text ++ codes "text\n" ++ text ++ fence text ++ codes "\n"
