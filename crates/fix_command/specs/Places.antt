-- Places of a text that was made for psql, for those of its SQL.
use Rattle.std.specs.Prelude.{◌≡◌, ◌≤◌, ◌<◌, ℕ, List}
use Rattle.std.specs.List.{AllZip}
use Rattle.std.specs.Str.{IsCharBoundary}
use Rattle.fix_text.specs.other_fix.declared.other.OtherFix.{OtherFix}
use Rattle.fix_text.specs.sql_token.Token.{Text}

-- The place in a text for a place n of its SQL: n, or where the character begins that n is in.
pub record IsPlaceFor (t : Text) (n at : ℕ) : Type 0 where
  pub bound : at ≤ n
  pub boundary : IsCharBoundary t at
  pub nearest : (i : ℕ) → at < i → i ≤ n → ¬ (IsCharBoundary t i)

-- The same fix, at the place in the text.
pub record IsMoved (t : Text) (other moved : OtherFix) : Type 0 where
  pub place : IsPlaceFor t other.at moved.at
  pub rule : moved.rule ≡ other.rule
  pub first : moved.first ≡ other.first

-- the same fixes, in their order, each at its place in the text
abbrev pub AreMoved : Text → List OtherFix → List OtherFix → Type 0
AreMoved t others moved = AllZip (IsMoved t) others moved
