-- What made texts are.
use Rattle.std.specs.Prelude.{◌<◌, ◌*◌, ◌^◌, ℕ}
use Rattle.std.specs.Str.{IsUtf8}
use Rattle.law_joined_texts.specs.sql_tree.Statement.{IsValid}
use Rattle.squawk_generate.specs.Made.{made}

-- A made text, of which each group takes at most 128 bytes, is UTF-8, and each of its statements is sound and has a form.
abbrev pub MadeIsValid : Type 0
MadeIsValid = (n : ℕ) → 128 * n < 2 ^ 32 → IsUtf8 (made n) × IsValid (made n)
