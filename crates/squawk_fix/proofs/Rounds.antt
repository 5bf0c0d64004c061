-- What a round made.
use Rattle.std.proofs.Common.{◌≡◌, ℕ, ◌<◌, inl, inr, Bool, true, List, refl, arith, Some}
use Rattle.law_next_fix.specs.sql_token.Token.{Text}
use Rattle.squawk_run.specs.lint_base.declared.violation.Violation.{Violation}
use Rattle.law_next_fix.specs.fix_choice.Fits.{next_text}
use Rattle.squawk_fix.specs.Round.{Answered, IsRound, Ran}

pub many_round : (plain : Bool) (text : Text) (vs : List Violation) (s : Text) (n : ℕ) → 0 < n → plain ≡ true → ((a : Answered text vs) → Ran text vs a s n) → IsRound plain text vs s n
many_round plain text vs s n some known ran = record { some = some; made = inr (known, ran) }

pub one_round : (plain : Bool) (text : Text) (vs : List Violation) (s : Text) → next_text text vs ≡ Some s → IsRound plain text vs s 1
one_round plain text vs s next = record { some = omega arith; made = inl (next, refl) }
