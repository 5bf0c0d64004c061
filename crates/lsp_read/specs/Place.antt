-- Positions in JSON.
use Rattle.std.specs.Prelude.{ℕ, ◌^◌, List, Option, Some, None, codes, nat_lt, option_and_then, if◌then◌else◌}
use Rattle.serde_json.specs.Data.{Data}
use Rattle.serde_json.specs.Find.{as_number, as_u64, get}
use Rattle.lsp_session.specs.text_utf16.declared.position.Pos.{Pos}

-- a whole number below 2 ^ 32
abbrev pub coordinate : Data → Option ℕ
coordinate d = option_and_then (λ n. if nat_lt n (2 ^ 32) then Some n else None) (option_and_then as_u64 (as_number d))

-- the number that a member is
unfoldable pub coordinate_at : List ℕ → Data → Option ℕ
coordinate_at key d = option_and_then coordinate (get key d)

-- a position: its line, and its UTF-16 units
unfoldable pub position : Data → Option Pos
position d =
    option_and_then (λ line.
    option_and_then (λ col. Some (record { line = line; col = col }))
    (coordinate_at (codes "character") d))
    (coordinate_at (codes "line") d)

-- the position that a member is
unfoldable pub position_at : List ℕ → Data → Option Pos
position_at key d = option_and_then position (get key d)
