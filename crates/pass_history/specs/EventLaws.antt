-- What holds of all that the events of a history report.
use Rattle.std.specs.Prelude.{All, List, [], ◌∷◌, ◌++◌}
use Rattle.std.proofs.lemmas.List.Elements.{All-append, All-nil}
use Rattle.lint_pass.specs.lint_transaction.Events.{each_event}

-- what holds of each piece of each event holds of all
pub each_event_all : {E A : Type 0} (P : A → Type 0) (f : List E → E → List A) (before xs : List E) → ((es : List E) (e : E) → All P (f es e)) → All P (each_event f before xs)
each_event_all P f before [] h = All-nil P
each_event_all P f before (x ∷ xs) h =
    All-append P (f before x) (each_event f (before ++ x ∷ []) xs) (h before x) (each_event_all P f (before ++ x ∷ []) xs h)
