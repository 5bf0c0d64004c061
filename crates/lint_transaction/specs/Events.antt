-- Histories: lists of events, and what holds after them.
use Rattle.std.specs.Prelude.{Bool, false, ◌&&◌, ◌||◌, not, List, [], ◌∷◌, ◌++◌, Option, Some, None, if◌then◌else◌}
use Rattle.std.specs.List.{list_any}
use Rattle.std.specs.Option.{option_or}

-- the pieces of the events xs, each by what was before it
abbrev pub each_event : {E A : Type 0} → (List E → E → List A) → List E → List E → List A
each_event f before [] = []
each_event f before (x ∷ xs) = f before x ++ each_event f (before ++ x ∷ []) xs

-- some event of xs passes, by what was before it
abbrev pub any_event : {E : Type 0} → (List E → E → Bool) → List E → List E → Bool
any_event f before [] = false
any_event f before (x ∷ xs) = f before x || any_event f (before ++ x ∷ []) xs

-- some event is marked, and none after it resets
abbrev pub since_event : {E : Type 0} → (E → Bool) → (E → Bool) → List E → Bool
since_event mark reset [] = false
since_event mark reset (x ∷ xs) = (mark x && not (list_any reset xs)) || since_event mark reset xs

-- the last event that passes
abbrev pub last_event : {E : Type 0} → (E → Bool) → List E → Option E
last_event p [] = None
last_event p (x ∷ xs) = option_or (last_event p xs) (if p x then Some x else None)
