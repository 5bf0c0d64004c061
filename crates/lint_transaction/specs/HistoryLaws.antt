-- How what holds after a history goes on by one more event at its end.
use Rattle.std.specs.Prelude.{◌≡◌, Bool, ◌&&◌, ◌||◌, not, List, [], ◌∷◌, ◌++◌, Some, if◌then◌else◌}
use Rattle.lint_transaction.specs.Events.{each_event, any_event, since_event, last_event}

-- the pieces before, and those of the event, by all that was before it
abbrev pub EachEventGrows : Type 0 → Type 0 → Type 0
EachEventGrows E A =
    (f : List E → E → List A) (before xs : List E) (x : E) → each_event f before (xs ++ x ∷ []) ≡ each_event f before xs ++ f (before ++ xs) x

-- some event before passes, or this one does, by all that was before it
abbrev pub AnyEventGrows : Type 0 → Type 0
AnyEventGrows E =
    (f : List E → E → Bool) (before xs : List E) (x : E) → any_event f before (xs ++ x ∷ []) ≡ (any_event f before xs || f (before ++ xs) x)

-- this event is marked, or one was before and this one does not reset
abbrev pub SinceEventGrows : Type 0 → Type 0
SinceEventGrows E =
    (mark reset : E → Bool) (xs : List E) (x : E) → since_event mark reset (xs ++ x ∷ []) ≡ (mark x || (since_event mark reset xs && not (reset x)))

-- this event, where it passes, and else the last one before it that does
abbrev pub LastEventGrows : Type 0 → Type 0
LastEventGrows E =
    (p : E → Bool) (xs : List E) (x : E) → last_event p (xs ++ x ∷ []) ≡ (if p x then Some x else last_event p xs)
