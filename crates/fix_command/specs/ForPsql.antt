-- The result for a text that was made for psql: its SQL is fixed, and put back between its commands and data.
use Rattle.std.specs.Prelude.{◌≡◌, ◌⊎◌, ℕ, Bool, List}
use Rattle.fix_asked.specs.fix_run.declared.fixer.TextOutcome.{TextOutcome}
use Rattle.fix_asked.specs.fix_run.declared.fixer.TextOutcome.TheVariants.{Fixed, Refused}
use Rattle.fix_asked.specs.source_file.declared.refusal.Refusal.TheVariants as refusal
use Rattle.fix_text.specs.Fixing.{FixedValue, IsFixedText}
use Rattle.fix_text.specs.other_fix.declared.other.OtherFix.{OtherFix}
use Rattle.fix_text.specs.sql_token.Token.{OpenAt, Text}
use Rattle.fix_text.specs.sql_tree.Statement.{IsSyntaxAt}
use Rattle.fix_text.specs.squawk_linter.declared.linter.Linter.{Linter}
use Rattle.psql_edit.specs.Exchange.{HasSql}
use Rattle.psql_edit.specs.psql_text.Psql.{blank_all}
use Rattle.psql_edit.specs.psql_text.Told.{StartsAt}
use Rattle.psql_edit.specs.psql_text.declared.part.Part.{Part}
use Rattle.fix_command.specs.Places.{AreMoved, IsPlaceFor}

-- ---- SQL is put back into a text, of which these parts are no SQL

-- The SQL is not that of the text, and the first of the parts begins at this place.
pub record IsInTheWay (old : Text) (ps : List Part) (sql : Text) (at : ℕ) : Type 0 where
  pub changed : ¬ (sql ≡ blank_all ps old)
  pub first : ℕ
  pub starts : StartsAt ps first
  pub place : IsPlaceFor old first at

-- This comes of it: the text has this SQL, and its commands and data as they were, and these are the fixes that are not made; or it is refused, since
-- the parts are in the way of what is changed.
abbrev pub IsPutBack : Text → List Part → Text → List OtherFix → TextOutcome → Type 0
IsPutBack old ps sql others (Fixed new moved) = HasSql old ps sql new × AreMoved old others moved.items
IsPutBack old ps sql others (Refused refusal.Missing) = ⊥
IsPutBack old ps sql others (Refused refusal.Unreadable) = ⊥
IsPutBack old ps sql others (Refused (refusal.NotUtf8 at)) = ⊥
IsPutBack old ps sql others (Refused refusal.TooLong) = ⊥
IsPutBack old ps sql others (Refused (refusal.Unterminated at)) = ⊥
IsPutBack old ps sql others (Refused (refusal.Syntax at)) = IsInTheWay old ps sql at

-- ---- all

-- The SQL of the text is fixed, and put back.
pub record IsFixedForPsql (wide : Bool) (linter : Linter) (old : Text) (ps : List Part) (outcome : TextOutcome) : Type 0 where
  pub fixed : FixedValue
  pub by_steps : IsFixedText (blank_all ps old) wide linter.rules linter.settings fixed
  pub put_back : IsPutBack old ps fixed.text fixed.others outcome

-- this SQL of a text can't be parsed: the refusal is at the place in the text for the place of the fault
abbrev pub IsUnparsed : Text → Text → TextOutcome → Type 0
IsUnparsed old sql (Fixed new others) = ⊥
IsUnparsed old sql (Refused refusal.Missing) = ⊥
IsUnparsed old sql (Refused refusal.Unreadable) = ⊥
IsUnparsed old sql (Refused (refusal.NotUtf8 at)) = ⊥
IsUnparsed old sql (Refused refusal.TooLong) = ⊥
IsUnparsed old sql (Refused (refusal.Unterminated at)) = (n : ℕ) × OpenAt sql n × IsPlaceFor old n at
IsUnparsed old sql (Refused (refusal.Syntax at)) = (n : ℕ) × IsSyntaxAt sql n × IsPlaceFor old n at

-- this comes of a text, of which these parts are no SQL
abbrev pub IsAnswerForPsql : Bool → Linter → Text → List Part → TextOutcome → Type 0
IsAnswerForPsql wide linter old ps outcome = IsFixedForPsql wide linter old ps outcome ⊎ IsUnparsed old (blank_all ps old) outcome
