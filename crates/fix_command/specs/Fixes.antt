-- What is made of a text.
use Rattle.std.specs.Prelude.{◌≡◌, Bool, List, [], ◌∷◌}
use Rattle.fix_asked.specs.Command.{AnswersBy}
use Rattle.fix_asked.specs.fix_run.declared.fixer.TextOutcome.{TextOutcome}
use Rattle.fix_asked.specs.fix_run.declared.fixer.TextOutcome.TheVariants.{Fixed, Refused}
use Rattle.fix_text.specs.Fixing.{FixedValue, IsFixedText}
use Rattle.fix_text.specs.other_fix.declared.other.OtherFix.{OtherFix}
use Rattle.fix_asked.specs.source_file.declared.refusal.Refusal.TheVariants as refusal
use Rattle.fix_text.specs.sql_token.Token.{OpenAt, Text}
use Rattle.fix_text.specs.sql_tree.Statement.{IsSyntaxAt}
use Rattle.fix_text.specs.squawk_linter.declared.linter.Linter.{Linter}
use Rattle.fix_asked.specs.squawk_words.declared.choices.Choices.{Choices}
use Rattle.psql_edit.specs.psql_text.Psql.{Passes}
use Rattle.psql_edit.specs.psql_text.declared.part.Part.{Part}
use Rattle.fix_command.specs.ForPsql.{IsAnswerForPsql}

-- The new text is reached from the old one by steps, each of which makes one fix that the classes allow, until no such fix is left: the safe
-- fixes, and the unsafe ones too where `wide` says so. The others are the fixes of the old text that change the same bytes as one that comes first.
pub record IsReached (wide : Bool) (linter : Linter) (old new : Text) (others : List OtherFix) : Type 0 where
  pub fixed : FixedValue
  pub by_steps : IsFixedText old wide linter.rules linter.settings fixed
  pub text : new ≡ fixed.text
  pub others_are : others ≡ fixed.others

-- This comes of a text of SQL: the text that is reached from it, or where it can't be parsed.
abbrev pub IsAnswerOf : Bool → Linter → Text → TextOutcome → Type 0
IsAnswerOf wide linter text (Fixed new others) = IsReached wide linter text new others.items
IsAnswerOf wide linter text (Refused refusal.Missing) = ⊥
IsAnswerOf wide linter text (Refused refusal.Unreadable) = ⊥
IsAnswerOf wide linter text (Refused (refusal.NotUtf8 at)) = ⊥
IsAnswerOf wide linter text (Refused refusal.TooLong) = ⊥
IsAnswerOf wide linter text (Refused (refusal.Unterminated at)) = OpenAt text at
IsAnswerOf wide linter text (Refused (refusal.Syntax at)) = IsSyntaxAt text at

-- this comes of a text, of which these parts are no SQL to psql
abbrev pub IsAnswerBy : Bool → Linter → Text → List Part → TextOutcome → Type 0
IsAnswerBy wide linter text [] outcome = IsAnswerOf wide linter text outcome
IsAnswerBy wide linter text (p ∷ ps) outcome = IsAnswerForPsql wide linter text (p ∷ ps) outcome

-- This comes of a text, by what of it is no SQL to psql.
pub record IsAnswerFor (wide : Bool) (linter : Linter) (text : Text) (outcome : TextOutcome) : Type 0 where
  pub parts : List Part
  pub passes : Passes text parts
  pub answer : IsAnswerBy wide linter text parts outcome

-- the linter with the rules and settings that are chosen
abbrev pub linter_by : Choices → Linter
linter_by c = record { rules = c.rules; settings = c.settings }

-- What comes of each text, by what is chosen: the SQL of each text that is made is reached from that of the text that it is made of by steps of the
-- fixes that the classes allow. Where nothing is for psql, the SQL is the text.
abbrev pub fixes_by : AnswersBy
fixes_by c wide = IsAnswerFor wide (linter_by c)
