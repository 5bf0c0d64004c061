-- SQL that is put back.
use Rattle.std.proofs.Common.{◌≡◌, ◌∙◌, ◌<◌, ◌^◌, ℕ, ap, inl, Bool, List, [], ◌∷◌, Option, Some, None, length, subst}
use Rattle.std.specs.Prelude.{option_map}
use Rattle.fix_asked.specs.fix_run.declared.fixer.TextOutcome.{TextOutcome}
use Rattle.fix_text.specs.Fixing.{FixedValue, IsFixedText}
use Rattle.fix_text.specs.other_fix.declared.other.OtherFix.{OtherFix}
use Rattle.fix_text.specs.sql_token.Token.{Text}
use Rattle.fix_text.specs.squawk_linter.declared.linter.Linter.{Linter}
use Rattle.psql_edit.proofs.of_psql_text.Blanks.{all_stays}
use Rattle.psql_edit.specs.psql_text.Psql.{Passes, blank_all}
use Rattle.psql_edit.specs.psql_text.Told.{StartsAt}
use Rattle.psql_edit.specs.psql_text.declared.part.Part.{Part}
use Rattle.fix_command.specs.ForPsql.{IsAnswerForPsql, IsInTheWay, IsPutBack}
use Rattle.fix_command.specs.Fixes.{IsAnswerFor, IsAnswerOf}
use Rattle.fix_command.specs.Places.{IsPlaceFor}

-- where nothing was made, the SQL is another one
pub in_the_way : {X : Type 0} (bytes : X → Text) (made : Option X) (old sql : Text) (ps : List Part) (first at : ℕ) → made ≡ None → (sql ≡ blank_all ps old → option_map bytes made ≡ Some old) → StartsAt ps first
    → IsPlaceFor old first at → IsInTheWay old ps sql at
in_the_way {X} bytes made old sql ps first at none same starts place = record {
  changed = λ e. let some : None ≡ Some old = subst (λ (o : Option X). option_map bytes o ≡ Some old) none (same e) in absurd (cc);
  first = first;
  starts = starts;
  place = place;
}

-- the SQL is as long as the text
pub short_sql : (text sql : Text) (ps : List Part) → sql ≡ blank_all ps text → length text < 2 ^ 32 → length sql < 2 ^ 32
short_sql text sql ps e short =
    let same : length sql ≡ length text = ap length e ∙ (all_stays ps text).0 in
    rw same short

-- nothing is for psql
pub answer_plain : (wide : Bool) (linter : Linter) (text : Text) (ps : List Part) (outcome : TextOutcome) → Passes text ps → ps ≡ [] → IsAnswerOf wide linter text outcome
    → IsAnswerFor wide linter text outcome
answer_plain wide linter text ps outcome passes none h = record { parts = []; passes = subst (Passes text) none passes; answer = h }

-- something is
pub answer_for_psql : (wide : Bool) (linter : Linter) (text : Text) (ps : List Part) (first : ℕ) (outcome : TextOutcome) → Passes text ps → StartsAt ps first → IsAnswerForPsql wide linter text ps outcome
    → IsAnswerFor wide linter text outcome
answer_for_psql wide linter text [] first outcome passes starts h = absurd starts
answer_for_psql wide linter text (p ∷ ps) first outcome passes starts h = record { parts = p ∷ ps; passes = passes; answer = h }

-- its SQL is fixed and put back
pub fixed_for_psql : (wide : Bool) (linter : Linter) (text : Text) (ps : List Part) (sql made : Text) (others : List OtherFix) (fixed : FixedValue) (outcome : TextOutcome) → sql ≡ blank_all ps text
    → IsFixedText sql wide linter.rules linter.settings fixed → made ≡ fixed.text → others ≡ fixed.others → IsPutBack text ps made others outcome → IsAnswerForPsql wide linter text ps outcome
fixed_for_psql wide linter text ps sql made others fixed outcome same by_steps is_text are_others put =
    let with_text = subst (λ (t : Text). IsPutBack text ps t others outcome) is_text put in
    inl (record {
      fixed = fixed;
      by_steps = subst (λ (t : Text). IsFixedText t wide linter.rules linter.settings fixed) same by_steps;
      put_back = subst (λ (os : List OtherFix). IsPutBack text ps fixed.text os outcome) are_others with_text;
    })
