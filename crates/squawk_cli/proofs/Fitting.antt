-- Reports at places of a text that has less than 2^32 bytes.
use Rattle.std.proofs.Common.{◌≡◌, ◌<◌, ◌≤◌, ◌^◌, ℕ, List, [], ◌∷◌, length, arith, Option, Some, None, IfSome}
use Rattle.std.proofs.lemmas.List.Elements.{All-head, All-tail}
use Rattle.std.specs.Prelude.{All}
use Rattle.squawk_linter.specs.sql_token.Token.{Text}
use Rattle.squawk_linter.specs.text_pos.Range.{Range}
use Rattle.squawk_linter.specs.lint_base.declared.edit.Edit.{Edit}
use Rattle.squawk_linter.specs.lint_base.declared.violation.Violation.{Violation}
use Rattle.squawk_linter.specs.lint_base.Fixes.{FixValue}
use Rattle.squawk_linter.specs.lint_ignore.Places.{IsPlace}
use Rattle.squawk_linter.specs.lint_pass.Laws.{AreEdits}
use Rattle.squawk_linter.specs.Answers.{reports}
use Rattle.squawk_linter.specs.Placed.{AnswersPlaced, IsPlaced}
use Rattle.squawk_print_locks.specs.squawk_print.PrintedForm.{AllFit, EditsFit, FixFits, PrintedTellsApart, RangeFits}
use Rattle.squawk_cli.specs.PrintedAnswers.{AnswersFit, PrintedAnswersTellApart}

place_fits : (text : Text) (range : Range) → length text < 2 ^ 32 → IsPlace text range → RangeFits range
place_fits text range short place = (omega (arith, place.start.0, short), omega (arith, place.end.0, short))

edits_fit : (text : Text) (edits : List Edit) → length text < 2 ^ 32 → All (λ e. IsPlace text e.text_range) edits → EditsFit edits
edits_fit text [] short h = tt
edits_fit text (e ∷ es) short h =
    (place_fits text e.text_range short (All-head (λ (x : Edit). IsPlace text x.text_range) e es h), edits_fit text es short (All-tail (λ (x : Edit). IsPlace text x.text_range) e es h))

fix_fits : (text : Text) (o : Option FixValue) → length text < 2 ^ 32 → IfSome o (λ f. AreEdits text f.edits) → FixFits o
fix_fits text None short h = tt
fix_fits text (Some f) short h = edits_fit text f.edits short h.places

all_fit : (text : Text) (vs : List Violation) → length text < 2 ^ 32 → All (IsPlaced text) vs → AllFit vs
all_fit text [] short h = tt
all_fit text (v ∷ vs) short h =
    let placed = All-head (IsPlaced text) v vs h in
    ((place_fits text v.text_range short placed.range, fix_fits text v.fix short placed.edits), all_fit text vs short (All-tail (IsPlaced text) v vs h))

pub answers_fit : AnswersPlaced → AnswersFit
answers_fit placed tree rules settings read = all_fit tree.text (reports tree rules settings) read.read.short (placed tree rules settings read)

pub told_apart : PrintedTellsApart → AnswersFit → PrintedAnswersTellApart
told_apart exact fit a b p q x y r s read read' same = exact (reports a p x) (reports b q y) r s (fit a p x read) (fit b q y read') same
