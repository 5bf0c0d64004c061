-- What a text writes to a hasher, byte by byte.
use Rattle.std.specs.Prelude.{◌++◌, ℕ, List}
use Rattle.std.specs.List.{flat_map}
use Rattle.std.specs.Hash.{HashWrites, u8}

-- each byte by itself, and then 0xFF, which no UTF-8 has
abbrev pub text_writes : List ℕ → HashWrites
text_writes bytes = flat_map u8 bytes ++ u8 255
